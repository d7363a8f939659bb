use Rattle.std.proofs.Common.{◌≡◌, ◌∙◌, ◌≤◌, ℕ, List, Ok, ap, length-set, map, refl, set}
use Rattle.std.proofs.Common.{string_bytes, subst, sym}
use Rattle.fare_table.specs.{Caps.cap_named, Classes.ceilings_from, Members.number_in}
use Rattle.std.proofs.lemmas.List.Elements.{All-set}
use Rattle.toml.specs.{Data.Data, Data.Members, Data.member, View.members_view, View.view}
use Rattle.fare_table.specs.declared.fault.Key.TheVariants as the_key
use Rattle.fare_table.proofs.read.classes.ceilings_from.Goals as goal

ceilings-step : (caps : List (List ℕ)) (ceilings next : List ℕ) (key : List ℕ) (value : Data)
    (more : Members) (position cents : ℕ) → cap_named caps key ≡ Ok position
    → number_in the_key.ClassCaps 1 100_000_000 value ≡ Ok cents
    → next ≡ set ceilings position cents
    → ceilings_from caps ceilings (member key value more) ≡ ceilings_from caps next more
ceilings-step caps ceilings next key value more position cents named number same =
    rw (named, number, same)

pub loop-name-preserved : goal.loop-name-preserved
loop-name-preserved c =
    let caps = map string_bytes c.args.caps.now in
    let ceilings = c.loop-name.ceilings in
    let position = c.in_ok-position.position in
    let cents = c.in_ok-cents.cents in
    let key = string_bytes c.in-Some.name.now in
    let value = view c.in-Some.value.now in
    let more = members_view c.next.new.self in
    let P : List ℕ → Type 0 = λ text. cap_named caps text ≡ Ok position in
    let named : cap_named caps key ≡ Ok position =
    subst P c.as_str.ensures.value (sym c.in_ok-position.ensures.cap) in
    let number : number_in the_key.ClassCaps 1 100_000_000 value ≡ Ok cents =
    sym c.in_ok-cents.ensures.number in
    record {
      same =
          c.loop-name.invariant.same
          ∙ ap (λ more. ceilings_from caps ceilings (members_view more)) c.in-Some.ensures.steps
          ∙ ceilings-step caps ceilings (set ceilings position cents) key value more position cents
          named
          number
          refl;
      bounds = All-set (λ one. one ≤ 100_000_000) ceilings position cents
          c.in_ok-cents.ensures.high c.loop-name.invariant.bounds;
      long = length-set ceilings position cents ∙ c.loop-name.invariant.long;
    }
