use Rattle.std.proofs.Common.{◌∙◌, ◌++◌, List, subst, ℕ}
use Rattle.omny_audit.specs.inside.Checks.{HasChecked}
use Rattle.omny_audit.proofs.Audits.{given_kept}
use Rattle.omny_audit.proofs.audit.Audit.read.Goals as goal

pub feed-requires-clause-fed : goal.feed-requires-clause-fed
feed-requires-clause-fed c =
    let has = c.requires.3 in (has.valid, has.text, c.requires.2, has.checked)

pub returns : goal.returns
returns c = λ given file written has.
    let audit = c.args.self.now in
    let text = c.read_piece.new.text in
    let check = c.feed.new.self in
    let fed = c.in_ok-feed.ensures.fed has.valid has.text written has.checked in (
      fed.0,
      fed.1,
      record {
        valid = has.valid;
        same = given_kept audit check c.read_piece.new.trace text has.valid c.feed.ensures.all
            c.read_piece.ensures.wanted ∙ has.same;
        clock = has.clock;
        text = has.text ++ text.items;
        as_text = c.in_ok-read_piece.ensures.read file has.text has.as_text;
        checked = subst (λ (t : List ℕ). HasChecked audit.table.now audit.subtracts has.valid check
            (has.text ++ t) (written ++ fed.0)) c.as_slice-text.ensures.value fed.2;
      },
    )
