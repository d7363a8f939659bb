use Rattle.std.proofs.Common.{◌∙◌, ◌≡◌, ◌-◌, Bor, ℕ, List, ap, ap₂, arith, drop, length, length-drop, sym, take}
use Rattle.std.proofs.Common.{take_all}
use Rattle.std.specs.List.{slice_range}
use Rattle.program_manners.specs.TableWords.{file_named, written_date, written_in}
use Rattle.program_manners.proofs.table_words.TableWord.of.Goals as goal
use Rattle.program_manners.proofs.table_words.TableWord.of.Goals.{in-Some, in-None}
use native.Mathlib.Numerals.{unary_clauses}

pub returns-clause-date : goal.returns-clause-date
unfolding written_date
returns-clause-date c =
    let start = c.saturating_sub-start.result in
    let bytes = c.as_bytes.result.now in
    c.written_in-date.ensures
    ∙ ap written_in (take_all (length bytes - start) (drop start bytes) (omega (arith, length-drop start bytes)))
    ∙ ap₂ (λ n xs. written_in (drop n xs)) c.saturating_sub-start.ensures c.as_bytes.ensures.value

pub returns-clause-name : goal.returns-clause-name
unfolding file_named
returns-clause-name c =
    let word = c.args.word.now in
    let date = sym (returns-clause-date c) in
    elim c.match-date.branch [
      | in-Some w ↦ rw (date ∙ w.in-Some.is)
          (let cut : slice_range word 0 c.saturating_sub-start.result
          ≡ take c.saturating_sub-start.result word = simp unary_clauses in
          ap (λ (n : Bor (List ℕ)). n.now) w.name-is ∙ w.range-name.ensures.value ∙ cut
          ∙ ap (λ (n : ℕ). take n word) c.saturating_sub-start.ensures)
      | in-None w ↦ rw (date ∙ w.in-None.is) (ap (λ (n : Bor (List ℕ)). n.now) w.name-is)
    ]
