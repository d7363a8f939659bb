use Rattle.std.proofs.Common.{◌≡◌, ◌∙◌, ◌≤◌, ℕ, List, Ok, ap, length-set, map, refl, set}
use Rattle.std.proofs.Common.{string_bytes, subst, sym}
use Rattle.fare_table.specs.{Classes.fares_from, Members.number_in, Modes.mode_named}
use Rattle.std.proofs.lemmas.List.Elements.{All-set}
use Rattle.toml.specs.{Data.Data, Data.Members, Data.member, View.members_view, View.view}
use Rattle.fare_table.specs.declared.fault.Key.TheVariants as the_key
use Rattle.fare_table.proofs.read.classes.fares_from.Goals as goal

fares-step : (modes : List (List ℕ)) (fares next : List ℕ) (key : List ℕ) (value : Data)
    (more : Members) (position cents : ℕ) → mode_named modes key ≡ Ok position
    → number_in the_key.Fares 0 100_000 value ≡ Ok cents → next ≡ set fares position cents
    → fares_from modes fares (member key value more) ≡ fares_from modes next more
fares-step modes fares next key value more position cents named number same =
    rw (named, number, same)

pub loop-name-preserved : goal.loop-name-preserved
loop-name-preserved c =
    let modes = map string_bytes c.args.modes.now in
    let fares = c.loop-name.fares in
    let position = c.in_ok-position.position in
    let cents = c.in_ok-cents.cents in
    let key = string_bytes c.in-Some.name.now in
    let value = view c.in-Some.value.now in
    let more = members_view c.next.new.self in
    let P : List ℕ → Type 0 = λ text. mode_named modes text ≡ Ok position in
    let named : mode_named modes key ≡ Ok position =
    subst P c.as_str.ensures.value (sym c.in_ok-position.ensures.mode) in
    let number : number_in the_key.Fares 0 100_000 value ≡ Ok cents =
    sym c.in_ok-cents.ensures.number in
    record {
      same =
          c.loop-name.invariant.same
          ∙ ap (λ more. fares_from modes fares (members_view more)) c.in-Some.ensures.steps
          ∙ fares-step modes fares (set fares position cents) key value more position cents named
          number
          refl;
      bounds = All-set (λ one. one ≤ 100_000) fares position cents
          c.in_ok-cents.ensures.high c.loop-name.invariant.bounds;
      long = length-set fares position cents ∙ c.loop-name.invariant.long;
    }
