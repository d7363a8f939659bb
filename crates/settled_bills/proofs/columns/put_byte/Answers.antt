use Rattle.std.proofs.Common.{◌≡◌, ◌∙◌, ◌==◌, ℕ, List, [], ◌∷◌, ◌++◌, ap, sym, append_assoc, false}
use Rattle.class_names.specs.Names.{class_by}
use Rattle.settled_bills.proofs.TracedLines.{with_other}
use Rattle.settled_bills.specs.Columns.{columns_by, with_columns}
use Rattle.std.proofs.lemmas.Bool.{eqb-true}
use Rattle.settled_bills.proofs.columns.put_byte.Goals as goal

pub returns-then-is_feed : goal.returns-then-is_feed
returns-then-is_feed c = λ rest.
    let columns = columns_by (class_by c.args.names.now) c.args.taps.now in
    let left = columns_by (class_by c.args.names.now) c.in_ok-left.left.now in
    let is : c.args.byte ≡ 10 =
    eqb-true c.args.byte 10 (sym c.is_feed.ensures ∙ c.if-is_feed.true) in
    let mid = c.put_next.new.text.items in
    ap (λ (b : ℕ). c.args.text.now.items ++ with_columns (b ∷ rest) columns) is
    ∙ c.in_ok-left.ensures rest
    ∙ ap (λ (b : ℕ). mid ++ b ∷ with_columns rest left) (sym is)
    ∙ sym (append_assoc mid (c.args.byte ∷ []) (with_columns rest left))
    ∙ ap (λ (t : List ℕ). t ++ with_columns rest left) (sym c.in_ok-push.ensures.items)

pub returns : goal.returns
returns c = λ rest.
    let columns = columns_by (class_by c.args.names.now) c.args.taps.now in
    let is : (c.args.byte == 10) ≡ false = sym c.is_feed.ensures ∙ c.if-is_feed.false in
    ap (λ (t : List ℕ). c.args.text.now.items ++ t) (with_other c.args.byte rest columns is)
    ∙ sym (append_assoc c.args.text.now.items (c.args.byte ∷ []) (with_columns rest columns))
    ∙ ap (λ (t : List ℕ). t ++ with_columns rest columns) (sym c.in_ok-push-2.ensures.items)
