use Rattle.std.proofs.Common.{[], ◌++◌, refl, sym, subst, append-nil, string_bytes}
use Rattle.fare_texts.proofs.{Parts.in_parts, TermsLines.next_terms}
use Rattle.fare_texts.specs.Explained.{IsLaterTerms}
use Rattle.tariffs.specs.declared.terms.Terms.{Terms}
use Rattle.fare_texts.proofs.explained.terms.write_all_later.Goals as goal

pub loop-position-init : goal.loop-position-init
loop-position-init c = ([], refl, sym (append-nil (string_bytes c.args.text.now)))

pub loop-position-preserved : goal.loop-position-preserved
loop-position-preserved c =
    let before = c.loop-position.invariant in
    let line = c.in_ok-write_later.ensures in (
      before.0 ++ line.0,
      next_terms c.args.token.now c.args.table.now.later c.loop-position.position
          (c.later-from.result.0, c.later-from.result.1.now.meaning) before.0
          line.0 c.later-from.ensures before.1
          (subst (λ (t : Terms). IsLaterTerms c.later-from.result.0 t line.0)
          c.terms_of.ensures.terms line.1),
      in_parts (string_bytes c.args.text.now) (string_bytes c.loop-position.text)
          (string_bytes c.write_later.new.text) before.0 line.0 before.2 line.2,
    )
