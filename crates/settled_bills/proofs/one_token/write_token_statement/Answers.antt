use Rattle.std.proofs.Common.{ℕ, List, rules, string_bytes, subst}
use Rattle.std.proofs.lemmas.Result.{err_from_is_err_and}
use Rattle.fare_texts.specs.WrittenOut.{Begins}
use Rattle.settled_bills.proofs.one_token.write_token_statement.Goals as goal

pub returns-clause-ok : goal.returns-clause-ok
returns-clause-ok g c =
    (string_bytes c.in_ok-text.text, c.in_ok-text.ensures, search rules)

pub returns-in_err-write_out-clause-started : goal.returns-in_err-write_out-clause-started
returns-in_err-write_out-clause-started g c =
    let p = err_from_is_err_and c.from_residual-in_err-write_out.result
    c.from_residual-in_err-write_out.ensures.1 in
    rw p.1 (λ write. (
      string_bytes c.in_ok-text.text,
      c.in_ok-text.ensures,
      subst (λ (bytes : List ℕ). Begins (g.W.Write.contents c.args.out.now)
          (g.W.Write.contents c.write_out.new.out) bytes) c.as_bytes.ensures.value
          c.in_err-write_out.ensures.started,
    ))
