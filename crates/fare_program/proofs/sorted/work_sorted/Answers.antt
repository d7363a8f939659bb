use Rattle.std.proofs.Common.{◌≡◌, ◌∙◌, Bool, Bor, List, Option, ap, false, map}
use Rattle.std.proofs.Common.{option_map, refl, subst, sym, true, ℕ}
use Rattle.fare_program.proofs.Ends.{gives_by}
use Rattle.fare_program.specs.{Parts.IsPartText, Settling.ShowsSettled, inside.Options.request_of}
use Rattle.std.specs.Prelude.{MatchOption, is_some}
use Rattle.fare_program.proofs.sorted.work_sorted.Goals as goal

abbrev name_in : Bor (List ℕ) → List ℕ
name_in name = name.now

not_true : (b : Bool) → (b ≡ true → ⊥) → b ≡ false
not_true true never = absurd (never refl)
not_true false never = refl

pub charge_part-requires-clause-word : goal.charge_part-requires-clause-word
charge_part-requires-clause-word g c κs within = rw c.in-Some.is at c.requires

pub returns-in-Some-clause-ends : goal.returns-in-Some-clause-ends
returns-in-Some-clause-ends g c =
    let opened = ap (map g.D.File.Placed.bytes) c.deref-in-Some.ensures.value
    ∙ (rw c.deref.ensures.value at c.in-Ok.ensures) in
    let named = ap (option_map name_in) c.in-Some.is in
    gives_by _ _ _ _ _ _ c.charge_part.result
    (λ given. not_true (request_of c.args.job.now.options).ledger
    (λ ledger. given (ap is_some named, ledger)))
    (λ text success is. (is.0, λ files are. rw named (is.1 files (opened ∙ are))))
    c.charge_part.ensures.ends

pub returns-clause-ends : goal.returns-clause-ends
returns-clause-ends g c =
    let request = request_of c.args.job.now.options in
    let opened = ap (map g.D.File.Placed.bytes) c.deref-in-None.ensures.value
    ∙ (rw c.deref.ensures.value at c.in-Ok.ensures) in
    let named = ap (option_map name_in) c.in-None.is in
    gives_by _ _ _ _ _ _ c.charge_sorted.result (λ given. tt)
    (λ text success is. (
      is.0,
      λ files are. subst (λ (tokens : Option (List ℕ)). MatchOption tokens
          (ShowsSettled request c.args.table.now files c.args.job.now.token text true)
          (λ word. IsPartText request.ledger c.args.table.now files text)) (sym named)
          (is.1 files (opened ∙ are)),
    ))
    c.charge_sorted.ensures.ends

pub returns-in-Some-clause-stop : goal.returns-in-Some-clause-stop
returns-in-Some-clause-stop g c =
    rw (ap (map g.D.File.Placed.bytes) c.deref-in-Some.ensures.value
    ∙ (rw c.deref.ensures.value at c.in-Ok.ensures)) at c.charge_part.ensures.stop

pub returns-clause-stop : goal.returns-clause-stop
returns-clause-stop g c =
    rw (ap (map g.D.File.Placed.bytes) c.deref-in-None.ensures.value
    ∙ (rw c.deref.ensures.value at c.in-Ok.ensures)) at c.charge_sorted.ensures.stop
