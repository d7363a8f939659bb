use Rattle.std.proofs.Common.{◌∙◌, ◌++◌, Bool, ℕ, List, Option, Some, ap, append-nil, false, subst, sym}
use Rattle.omny_audit.specs.inside.Traced.{HasReadAs}
use Rattle.omny_audit.specs.declared.traced.TracedPieces.{TracedPieces}
use Rattle.omny_audit.proofs.TraceLemmas.{read_whole, with_text}
use Rattle.omny_audit.proofs.traced.read_piece.Goals as goal

pub returns-then-is_empty-clause-read : goal.returns-then-is_empty-clause-read
returns-then-is_empty-clause-read c = λ file reported known.
    let was = subst (λ (o : Option TracedPieces). HasReadAs o false file reported) c.in-Some.is known
    in
    let cleared = ap (λ (t : List ℕ). reported ++ t) c.clear.ensures.items ∙ append-nil reported in
    let done = c.in_ok-finish.ensures.read file reported was.0
    (with_text _ file reported _ was.0 (sym cleared) was.1) in
    read_whole _ file c.args.piece.now _ done.0 (sym c.is_empty.ensures ∙ c.if-is_empty.true) done.1
    done.2

pub returns-clause-read : goal.returns-clause-read
returns-clause-read c = λ file reported known.
    let was = subst (λ (o : Option TracedPieces). HasReadAs o false file reported) c.in-Some.is known
    in
    let cleared = ap (λ (t : List ℕ). reported ++ t) c.clear.ensures.items ∙ append-nil reported in
    subst (λ (b : Bool). HasReadAs (Some c.feed.new.self) b (file ++ c.args.piece.now)
    (reported ++ c.feed.new.text.items)) (sym (sym c.is_empty.ensures ∙ c.if-is_empty.false))
    (c.in_ok-feed.ensures.read file reported was.0
    (with_text _ file reported _ was.0 (sym cleared) was.1))
