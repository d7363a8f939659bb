use Rattle.std.proofs.Common.{◌≡◌, ◌∙◌, ◌++◌, ◌∷◌, [], Some, None, ap, sym}
use Rattle.fare_table.proofs.OverlapLemmas.{started, last_started-started, last_of, last_of-append}
use Rattle.tariffs.specs.Validators.{last_started}
use Rattle.fare_table.proofs.read.validators.last_upto.Goals as goal

pub returns-in-Some : goal.returns-in-Some
returns-in-Some c =
    let ranges = c.args.ranges.now.entries in
    let listed : started c.args.number ranges ≡ c.next_back.new.self
    ++ (c.in-Some._first.now, c.in-Some.rest.now) ∷ [] =
    sym (c.range.ensures.between tt) ∙ c.in-Some.ensures.steps in
    let last : last_started c.args.number ranges ≡ Some (c.in-Some._first.now, c.in-Some.rest.now) =
    sym (last_started-started c.args.number ranges c.requires) ∙ ap last_of listed
    ∙ last_of-append c.next_back.new.self (c.in-Some._first.now, c.in-Some.rest.now) in
    rw last

pub returns-in-None : goal.returns-in-None
returns-in-None c =
    let ranges = c.args.ranges.now.entries in
    let listed : started c.args.number ranges ≡ [] =
    sym (c.range.ensures.between tt) ∙ c.in-None.ensures.steps.0 in
    let last : last_started c.args.number ranges ≡ None =
    sym (last_started-started c.args.number ranges c.requires) ∙ ap last_of listed in
    rw last
