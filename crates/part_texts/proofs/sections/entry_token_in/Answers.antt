use Rattle.std.proofs.Common.{◌≡◌, sym, ◌∙◌}
use Rattle.ledger_fields.specs.Lines.{row_of_fields}
use Rattle.part_texts.proofs.KnownTokens.{known_token}
use Rattle.std.proofs.lemmas.{Bool.Decides.Decides-eqb, Slice.Eq.slice_eq-Decides}
use Rattle.part_texts.proofs.sections.entry_token_in.Goals as goal

pub returns-then-eq : goal.returns-then-eq
returns-then-eq c =
    let known = c.in-Some.known in
    let same : c.in_ok-fields.fields.token.now ≡ c.as_slice.result.now =
    (slice_eq-Decides Decides-eqb _ _ c.eq.result c.eq.ensures).0 c.if-eq.true in
    sym (known_token c.args.line.now (row_of_fields c.in_ok-fields.fields) known.token
    c.in_ok-fields.ensures known.fits (same ∙ c.as_slice.ensures ∙ known.spelled))
