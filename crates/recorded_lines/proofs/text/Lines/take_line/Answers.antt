use Rattle.std.proofs.Common.{◌≡◌, ◌∙◌, ◌+◌, ◌++◌, List, None, Some, ap, drop, length, rules, subst}
use Rattle.std.proofs.Common.{take, ℕ}
use Rattle.std.proofs.Math.Seq.{drop-length}
use Rattle.memchr.specs.Find.{IsFirstByte, is_byte}
use Rattle.recorded_lines.proofs.Plain.{all_taken, slice_is, some_taken}
use Rattle.recorded_lines.proofs.text.Lines.take_line.Goals as goal

pub returns-in_ok-extend_from_slice-in-Some-clause-taken :
    goal.returns-in_ok-extend_from_slice-in-Some-clause-taken
returns-in_ok-extend_from_slice-in-Some-clause-taken c =
    let at = c.args.self.now.at in let end = c.in-Some.end in
    let line = c.args.line.now.items in let line' = c.extend_from_slice.new.self.items in
    let same = slice_is at c.deref.result.now c.args.self.now.piece.items c.deref.ensures.value in
    some_taken c.args.self.now.piece.items line line' at end
    (subst (λ (l : List ℕ). IsFirstByte (is_byte 10) l (Some end)) same c.in-Some.ensures)
    (subst (λ (l : List ℕ). line' ≡ line ++ take (end + 1) l) same
    c.in_ok-extend_from_slice-in-Some.ensures.items)

pub returns-in_ok-extend_from_slice-in-None-clause-taken :
    goal.returns-in_ok-extend_from_slice-in-None-clause-taken
returns-in_ok-extend_from_slice-in-None-clause-taken c =
    let at = c.args.self.now.at in let piece = c.args.self.now.piece.items in
    let line = c.args.line.now.items in let line' = c.extend_from_slice-in-None.new.self.items in
    let same = slice_is at c.deref.result.now piece c.deref.ensures.value in
    let all : c.len-self.result ≡ length piece = search rules in
    all_taken piece line line' (drop c.len-self.result piece) at
    (subst (λ (l : List ℕ). IsFirstByte (is_byte 10) l None) same c.in-None.ensures)
    (subst (λ (l : List ℕ). line' ≡ line ++ l) same c.in_ok-extend_from_slice-in-None.ensures.items)
    (ap (λ n. drop n piece) all ∙ drop-length piece)
