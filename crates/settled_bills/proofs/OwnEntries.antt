-- The own entries of a token, of which all are its own.
use Rattle.std.proofs.Common.{◌≡◌, Bool, true, false, cond, List, [], ◌∷◌, filter, refl, ap, ◌∙◌}
use Rattle.histories.specs.{Entry.is_of, Entry.own, declared.entry.Entry.Entry}
use Rattle.tap_views.specs.declared.token.Token.{Token}

kept_again : {X : Type 0} (p : X → Bool) (xs : List X) → filter p (filter p xs) ≡ filter p xs
kept_again p [] = refl
kept_again {X} p (x ∷ xs) = by_test (p x) refl (kept_again p xs)
  where
    by_test : (b : Bool) → p x ≡ b → filter p (filter p xs) ≡ filter p xs
        → filter p (filter p (x ∷ xs)) ≡ filter p (x ∷ xs)
    by_test true is rest =
        rw is (ap (λ b. cond b (x ∷ filter p (filter p xs)) (filter p (filter p xs))) is
        ∙ ap (λ (ys : List X). x ∷ ys) rest)
    by_test false is rest = rw is rest

pub own_again : (token : Token) (entries : List Entry)
    → own token (own token entries) ≡ own token entries
unfolding own
own_again token entries = kept_again (is_of token) entries
