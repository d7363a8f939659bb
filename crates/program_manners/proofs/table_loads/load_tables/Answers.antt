-- Each round loads one table more.
use Rattle.std.proofs.Common.{◌≡◌, Bor, List, [], ℕ, None, map}
use Rattle.std.proofs.lemmas.List.{map_more}
use Rattle.program_manners.proofs.DatedWords.{later_right, tables_right}
use Rattle.program_manners.proofs.NextTables.{words_at}
use Rattle.program_manners.specs.{TableWords.wrong_later}
use Rattle.tap_views.proofs.Choices.{IfErr_handed_on}
use Rattle.program_manners.proofs.table_loads.load_tables.Goals as goal

-- what stands where no word does
abbrev no_word : Bor (List ℕ)
no_word = record { ref_ptr = (0, 0); now = [] }

pub load_next-requires : goal.load_next-requires
load_next-requires g c =
    let right : wrong_later (map (λ w. w.now) c.deref-word-items.result.now) ≡ None =
    rw c.deref-word-items.ensures.value (tables_right _ c.requires) in
    later_right _ _ _ right c.loop-word-test.true

pub loop-word-init : goal.loop-word-init
loop-word-init g c = c.in_ok-tables.ensures.ok

pub loop-word-preserved : goal.loop-word-preserved
loop-word-preserved g c =
    let loads = rw (← c.deref-word-items.ensures.value) at c.loop-word.invariant in
    rw (
      ← c.deref-word-items.ensures.value,
      map_more (λ (w : Bor (List ℕ)). w.now) c.deref-word-items.result.now c.loop-word.word-index
          no_word c.loop-word-test.true,
    ) (c.in_ok-tables-2.ensures.ok _ _ loads)

-- the next table is refused, for the right reason
pub returns-in_err-tables-2-clause-right : goal.returns-in_err-tables-2-clause-right
returns-in_err-tables-2-clause-right g c =
    let loads = rw (← c.deref-word-items.ensures.value) at c.loop-word.invariant in
    IfErr_handed_on c.from_residual-in_err-tables-2.result c.in_err-tables-2.field-0.0 _
    c.from_residual-in_err-tables-2.ensures.1
    (rw (
      ← c.deref-word-items.ensures.value,
      words_at c.deref-word-items.result.now c.loop-word.word-index no_word c.loop-word-test.true,
    )
    (c.in_err-tables-2.ensures.right _ _ _ loads))
