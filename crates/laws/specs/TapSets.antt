-- Uploads whose taps are alike: the same set, or some of them, or all but one.
use Rattle.histories.specs.Plain.{token_of_bytes}
use Rattle.std.specs.{List.Sorted.IsPermutation, Prelude.◌≡◌, Prelude.◌≢◌, Prelude.ℕ, Prelude.Bool}
use Rattle.std.specs.Prelude.{true, ◌&&◌, List, ◌∷◌, All, Contains, filter, is_some, map, nat_lt}
use Rattle.tap_parts.specs.Parts.{taps_of_uploads}
use Rattle.tap_views.specs.{Encoding.fields_of, Files.AreValidTapsOfEach, Layout.Tap}
use Rattle.tap_views.specs.Token.{bytes_of, token_eq}
use Rattle.tap_views.specs.declared.{encoder.TapFields.TapFields, token.Token.Token}
use Rattle.tariffs.specs.Fares.{Fares, mode_at}

-- the token, the validator and the moment of each tap, upload after upload
abbrev pub fields_of_uploads : List (List Tap) → List TapFields
fields_of_uploads taps = map fields_of (taps_of_uploads taps)

-- Each valid tap of the uploads is one of the others, with the same token, validator and moment,
-- and each of the others is one of the uploads. How often a tap comes, in which upload and at which
-- place, is not asked.
pub record HaveSameSetOfTaps (uploads others : List (List ℕ)) : Type 0 where
  pub taps : List (List Tap)
  pub other_taps : List (List Tap)
  pub of_uploads : AreValidTapsOfEach uploads taps
  pub of_others : AreValidTapsOfEach others other_taps
  pub there : All (Contains (fields_of_uploads other_taps)) (fields_of_uploads taps)
  pub back : All (Contains (fields_of_uploads taps)) (fields_of_uploads other_taps)

-- each valid tap of the further uploads is one of these uploads
pub record AreSentAgain (uploads more : List (List ℕ)) : Type 0 where
  pub taps : List (List Tap)
  pub more_taps : List (List Tap)
  pub of_uploads : AreValidTapsOfEach uploads taps
  pub of_more : AreValidTapsOfEach more more_taps
  pub there : All (Contains (fields_of_uploads taps)) (fields_of_uploads more_taps)

-- whether the tap is of the token, and before the moment
abbrev pub is_before : Token → ℕ → TapFields → Bool
is_before token moment tap =
    token_eq (token_of_bytes tap.token) token && nat_lt tap.moment moment

-- Of the token's valid taps before the moment, each one of the uploads is one of the others, and
-- vice versa. From the moment on either may have taps that the other lacks.
pub record HaveSameTapsBefore (token : Token) (moment : ℕ) (uploads others : List (List ℕ))
    : Type 0 where
  pub taps : List (List Tap)
  pub other_taps : List (List Tap)
  pub of_uploads : AreValidTapsOfEach uploads taps
  pub of_others : AreValidTapsOfEach others other_taps
  pub there : All (Contains (fields_of_uploads other_taps))
      (filter (is_before token moment) (fields_of_uploads taps))
  pub back : All (Contains (fields_of_uploads taps))
      (filter (is_before token moment) (fields_of_uploads other_taps))

-- whether the tap is the token's
abbrev pub is_tap_of : Token → TapFields → Bool
is_tap_of token tap = token_eq (token_of_bytes tap.token) token

-- the token's taps, upload after upload
abbrev pub own_taps : Token → List (List Tap) → List TapFields
own_taps token taps = filter (is_tap_of token) (fields_of_uploads taps)

-- the tap with these bytes as its token
abbrev pub with_token : List ℕ → TapFields → TapFields
with_token bytes tap = record tap { token = bytes }

-- The valid taps of the one token in the uploads are those of the other token in the others, but
-- for the token: they have the same moments and validators, each as often. What other tokens do is
-- not asked.
pub record HaveTapsAlike (token other : Token) (uploads others : List (List ℕ)) : Type 0 where
  pub taps : List (List Tap)
  pub other_taps : List (List Tap)
  pub of_uploads : AreValidTapsOfEach uploads taps
  pub of_others : AreValidTapsOfEach others other_taps
  pub alike : IsPermutation (map (with_token (bytes_of other)) (own_taps token taps))
      (own_taps other other_taps)

-- whether the tap is before the moment
abbrev pub is_tap_before : ℕ → TapFields → Bool
is_tap_before moment tap = nat_lt tap.moment moment

-- The valid taps before the moment are the same, of all tokens, each as often. From the moment on
-- either may have taps that the other lacks.
pub record HaveTapsAlikeBefore (moment : ℕ) (uploads others : List (List ℕ)) : Type 0 where
  pub taps : List (List Tap)
  pub other_taps : List (List Tap)
  pub of_uploads : AreValidTapsOfEach uploads taps
  pub of_others : AreValidTapsOfEach others other_taps
  pub alike : IsPermutation (filter (is_tap_before moment) (fields_of_uploads taps))
      (filter (is_tap_before moment) (fields_of_uploads other_taps))

-- whether the table has the tap's validator
abbrev pub is_known_tap : Fares → TapFields → Bool
is_known_tap fares tap = is_some (mode_at fares tap.moment tap.validator)

-- The others have the token's valid taps of the uploads and one more, at a moment at which none of
-- these is known.
pub record HaveOneMoreTap (fares : Fares) (token : Token) (uploads others : List (List ℕ))
    : Type 0 where
  pub taps : List (List Tap)
  pub other_taps : List (List Tap)
  pub of_uploads : AreValidTapsOfEach uploads taps
  pub of_others : AreValidTapsOfEach others other_taps
  pub added : TapFields
  pub alike : IsPermutation (added ∷ own_taps token taps) (own_taps token other_taps)
  pub apart : All (λ tap. is_known_tap fares tap ≡ true → tap.moment ≢ added.moment)
      (own_taps token taps)
