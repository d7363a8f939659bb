use Rattle.std.proofs.Common.{◌≡◌, ◌+◌, ◌∷◌, ◌++◌, ◌∙◌, ℕ, List, length, ap, string_bytes, arith}
use Rattle.ledger_check.specs.FullChecks.{remark_text, taps_from}
use Rattle.ledger_check.specs.inside.FullChecks.{next_taken}
use Rattle.ledger_check.proofs.full_check.FullCheck.take.Goals as goal

pub end_line-requires-clause-fed : goal.end_line-requires-clause-fed
end_line-requires-clause-fed c = let is = c.requires.fed.3 in
    (c.requires.fed.0, is.taken, is.fed)

pub returns : goal.returns
returns c = λ text written valid is.
    let finding = c.in_ok-finding.finding in
    let took = c.in_ok-finding.ensures text is.taken is.fed in
    let so_far = c.end_line.new.self.so_far in
    let wanted = string_bytes so_far.walk.wanted in
    let number : so_far.sums.lines ≡ length is.taken + 1 = let n = took.1.lines.sums.lines in
    omega (arith, n) in
    let more = remark_text (length is.taken + 1) finding.remark wanted in (
      more,
      c.in_ok-write_remark.ensures
          ∙ ap (λ (w : List ℕ). string_bytes c.args.reported.now ++ remark_text so_far.sums.lines
          finding.remark w) c.as_str.ensures.value
          ∙ ap (λ (n : ℕ). string_bytes c.args.reported.now ++ remark_text n finding.remark wanted)
          number,
      record {
        taken = next_taken took.0 finding so_far ∷ is.taken;
        fed = took.1;
        reported = ap (λ (t : List ℕ). t ++ more) is.reported;
        subtracted = λ subtract.
            c.in_ok-subtract_tap.ensures valid (taps_from is.taken) subtract (is.subtracted subtract);
      },
    )
