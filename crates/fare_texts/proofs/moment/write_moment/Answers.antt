use Rattle.std.proofs.Common.{◌++◌, ◌≡◌, List, ℕ, string_bytes, ap, ◌∙◌, append-nil}
use Rattle.fare_texts.proofs.moment.write_moment.Goals as goal

pub returns : goal.returns
returns c =
    let put = c.put_moment.ensures.put in
    let whole : c.put_moment.new.line ≡ put.0 =
    put.2 ∙ ap (λ (none : List ℕ). put.0 ++ none) c.new-line.ensures ∙ append-nil put.0 in (
      put.0,
      put.1,
      c.in_ok-append_to.ensures
          ∙ ap (λ (line : List ℕ). string_bytes c.args.text.now ++ line) whole,
    )
