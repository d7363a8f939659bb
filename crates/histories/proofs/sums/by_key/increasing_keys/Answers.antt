use Rattle.std.proofs.Common.{rules, ◌≡◌}
use Rattle.std.specs.HashMap.{keys}
use Rattle.histories.proofs.ByKeyLemmas.{keys-increasing}
use Rattle.histories.proofs.sums.by_key.increasing_keys.Goals as goal

pub returns : goal.returns
returns g c =
    let is : c.in_ok-keys.keys.items ≡ keys c.args.tallies.now = search rules in
    λ entries by_key.
    keys-increasing g.met.K.Ord.total g.met.K.Eq.laws g.met.K.SumKey.same
    (λ a b. g.met.K.Ord.matches_eq a b) g.K.SumKey.key_of entries c.args.tallies.now.entries
    c.in_ok-keys.keys.items c.sort_unstable.new.self.items
    is c.keys.ensures.unique c.sort_unstable.ensures.permutation c.sort_unstable.ensures.sorted
    by_key
