use Rattle.std.proofs.Common.{◌≡◌, ◌++◌, ◌∙◌, ℕ, Bool, List, Option, true, false, refl, sym, ap}
use Rattle.std.proofs.Common.{append_assoc, not, string_bytes}
use Rattle.std.specs.Prelude.{is_some, nat_eq}
use Rattle.ledger_check.specs.FullChecks.{end_text}
use Rattle.ledger_check.proofs.full_check.FullCheck.finish.Goals as goal

twice : (b : Bool) → b ≡ not (not b)
twice true = refl
twice false = refl

pub entry_sums-requires : goal.entry_sums-requires
entry_sums-requires c =
    let (fares, subtracts, full, text, written, valid, is) = c.requires in
    (fares, text, is.taken, is.fed)

pub returns : goal.returns
returns c = λ fares subtracts full text written valid is.
    let ended = c.in_ok-sums.ensures fares subtracts full text written valid is in
    let end = end_text ended.taken in (
      ended.taken,
      ended.full_check,
      ap (λ (n : ℕ). nat_eq n 0) ended.sums_are.wrong,
      twice c.is_none.result ∙ ap not (sym c.is_none.ensures)
          ∙ ap (λ (e : Option ℕ). not (is_some e)) ended.sums_are.order.early,
      ended.subtracted,
      λ none. c.in_ok-entry_sums.ensures fares text ended.taken (ended.whole none),
      ended.more ++ end,
      c.in_ok-write_end.ensures ended.taken ended.sums_are
          ∙ ap (λ (t : List ℕ). t ++ end) ended.grown
          ∙ append_assoc (string_bytes c.args.reported.now) ended.more end,
      sym (append_assoc written ended.more end) ∙ ap (λ (t : List ℕ). t ++ end) ended.all,
    )
