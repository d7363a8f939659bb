use Rattle.std.proofs.Common.{◌∙◌, refl, sym, string_bytes}
use Rattle.std.proofs.lemmas.Bool.{false≢true}
use Rattle.ledger_check.proofs.EndLemmas.{ended_cut, ended_whole}
use Rattle.ledger_check.proofs.full_check.FullCheck.end_text.Goals as goal

pub returns-then-is_whole : goal.returns-then-is_whole
returns-then-is_whole c = λ fares subtracts full text written valid is.
    let whole = c.is_whole.ensures.0 c.if-is_whole.true in
    ended_whole fares c.args.self.now subtracts full text written valid
    (string_bytes c.args.reported.now)
    is whole.0 whole.1

pub returns : goal.returns
returns c = λ fares subtracts full text written valid is.
    ended_cut fares c.args.self.now subtracts full text written valid _ c.in_ok-ended.ended
    (string_bytes c.args.reported.now) (string_bytes c.write_remark.new.text) is
    (λ whole. false≢true (sym c.if-is_whole.false ∙ c.is_whole.ensures.1 whole)) refl refl
    c.in_ok-ended.ensures c.in_ok-write_remark.ensures
