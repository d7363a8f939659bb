-- Taps that are taken one after the other, and more behind them.
use Rattle.std.proofs.Common.{◌≡◌, ℕ, ◌<◌, List, [], ◌∷◌, ◌++◌, Option, refl, sym, ap, subst, ◌∙◌}
use Rattle.std.proofs.Common.{Bool, true, ◌==◌, Vec, Global, vec_len, append-nil, arith}
use Rattle.settlement.proofs.{Nondecreasing.last_append, TokenRuns.named_token}
use Rattle.settlement.specs.Nondecreasing.{TapsNondecreasingFrom, last_token}
use Rattle.settlement.specs.Posted.{HasName, token_of_tap}
use Rattle.settled_bills.specs.inside.Taken.{AreFollowing, AreTapsTaken}
use Rattle.sorted_taps.proofs.Taking.{taken_append, taken_none}
use Rattle.sorted_taps.specs.declared.reader.TapReader.{TapReader}
use Rattle.std.proofs.lemmas.{Bool.eqb-true, List.nil_from_length}
use Rattle.std.proofs.lemmas.List.Elements.{All-append, All-cons, All-nil}
use Rattle.tap_views.specs.{Layout.moment_limit, Token.Fits, Token.bytes_of, TokenOrder.IsUpTo}
use Rattle.tap_views.specs.declared.{encoder.TapFields.TapFields, token.Token.Token}

abbrev pub Early : TapFields → Type 0
Early tap = tap.moment < moment_limit

pub none_taken : (known : List (Option (List ℕ))) (readers : List TapReader)
    → AreTapsTaken known readers [] readers
none_taken known readers = record {
  taken = λ files are. taken_none files readers;
  early = All-nil Early;
  named = All-nil HasName;
}

pub both_taken : (known : List (Option (List ℕ))) (old mid new : List TapReader)
    (xs ys : List TapFields) → AreTapsTaken known old xs mid → AreTapsTaken known mid ys new
    → AreTapsTaken known old (xs ++ ys) new
both_taken known old mid new xs ys first rest = record {
  taken = λ files are. taken_append files old mid new xs ys (first.taken files are)
      (rest.taken files are);
  early = All-append Early xs ys first.early rest.early;
  named = All-append HasName xs ys first.named rest.named;
}

-- one tap more, which is not below the last token
pub nondecreasing_more : (from : Token) (xs : List TapFields) (tap : TapFields)
    → TapsNondecreasingFrom from xs
    → IsUpTo (last_token from xs) (token_of_tap tap) → TapsNondecreasingFrom from (xs ++ tap ∷ [])
nondecreasing_more from [] tap nondecreasing up = (up, tt)
nondecreasing_more from (x ∷ xs) tap (first, nondecreasing) up =
    (first, nondecreasing_more (token_of_tap x) xs tap nondecreasing up)

-- no taps
pub none_follow : (from : Token) → AreFollowing from [] from
none_follow from =
    record { early = All-nil Early; named = All-nil HasName; nondecreasing = tt; is_last = refl }

-- one tap more
pub one_follows : (from : Token) (taps : List TapFields) (last : Token) (tap : TapFields)
    (token : Token) → AreFollowing from taps last → Early tap → HasName tap
    → token ≡ token_of_tap tap → IsUpTo last token → AreFollowing from (taps ++ tap ∷ []) token
one_follows from taps last tap token are early named is up = record {
  early = All-append Early taps (tap ∷ []) are.early (All-cons Early tap [] early (All-nil Early));
  named = All-append HasName taps (tap ∷ []) are.named
      (All-cons HasName tap [] named (All-nil HasName));
  nondecreasing = nondecreasing_more from taps tap are.nondecreasing
      (subst (λ (t : Token). IsUpTo (last_token from taps) t) is
      (subst (λ (t : Token). IsUpTo t token) are.is_last up));
  is_last = is ∙ sym (last_append from taps (tap ∷ []));
}

-- more taps, which do not fall from the last token
pub nondecreasing_both : (from : Token) (xs ys : List TapFields) → TapsNondecreasingFrom from xs
    → TapsNondecreasingFrom (last_token from xs) ys → TapsNondecreasingFrom from (xs ++ ys)
nondecreasing_both from [] ys first rest = rest
nondecreasing_both from (x ∷ xs) ys (up, first) rest =
    (up, nondecreasing_both (token_of_tap x) xs ys first rest)

-- 16 bytes that a token is made of name it
pub has_name : (tap : TapFields) (token : Token) → bytes_of token ≡ tap.token → Fits token
    → HasName tap
has_name tap token named fits =
    let same = named_token tap tap.token token refl named fits in
    record {
      named = ap bytes_of same ∙ named;
      fits = subst (λ (t : Token). Fits t) (sym same) fits;
    }

-- a list that was found empty
pub none_there : (taps : Vec TapFields Global) (is_empty : Bool) → is_empty ≡ (vec_len taps == 0)
    → is_empty ≡ true → taps.items ≡ []
none_there taps is_empty test empty =
    let zero : vec_len taps ≡ 0 = eqb-true (vec_len taps) 0 (sym test ∙ empty) in
    nil_from_length taps.items (grind arith)

-- the last turn takes no tap
pub last_taken : (known : List (Option (List ℕ))) (old mid new : List TapReader)
    (done taps : List TapFields) → taps ≡ [] → AreTapsTaken known old done mid
    → AreTapsTaken known mid taps new → AreTapsTaken known old done new
last_taken known old mid new done taps none first rest =
    subst (λ (ts : List TapFields). AreTapsTaken known old ts new)
    (ap (λ (ts : List TapFields). done ++ ts) none ∙ append-nil done)
    (both_taken known old mid new done taps first rest)
