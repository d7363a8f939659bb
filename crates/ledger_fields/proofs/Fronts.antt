-- What fits a field has neither comma nor line feed, so it is found without a search for these.
use Rattle.std.proofs.Common.{◌≡◌, ◌∙◌, ◌<◌, ◌==◌, ◌||◌, ℕ, Bool, false, true, List, [], ◌∷◌, Some}
use Rattle.std.proofs.Common.{ap, arith, drop, get_or, length, nat_lt, not, refl, subst, sym, take}
use Rattle.ledger_fields.specs.Fields.{fits, is_token_byte, is_word_byte}
use Rattle.ledger_fields.specs.Moments.{has_form, is_moment, is_of_form, moment_form}
use Rattle.ledger_fields.specs.declared.field.Field.{Field}
use Rattle.ledger_fields.specs.declared.field.Field.TheVariants.{LaterMoment, Moment, PastMoment}
use Rattle.ledger_fields.specs.declared.field.Field.TheVariants.{Reason, Ride, Token, Word}
use Rattle.ledger_fields.specs.inside.Fronts.{IsFront}
use Rattle.line_forms.specs.Columns.{BeginsAfterColumn, column_where, ends_column, is_column}
use Rattle.line_forms.specs.FormLaws.{column_law}
use Rattle.std.proofs.lemmas.Bool.{and_parts, Decides.nat_tests}
use Rattle.std.proofs.lemmas.List.{drop_more, take-append-drop}
use Rattle.std.proofs.lemmas.List.Sums.{AllPass-from_list_all, list_all-from_AllPass}
use Rattle.std.specs.List.{list_all}

plain : (p : ℕ → Bool) → ((byte : ℕ) → p byte ≡ true → not (ends_column byte) ≡ true)
    → (text : List ℕ) → list_all p text ≡ true → is_column text ≡ true
plain p never text all = list_all-from_AllPass _ text (λ k d low.
    never (get_or text k d) (AllPass-from_list_all p text all k d low))

form_plain : (forms text : List ℕ) → list_all (nat_lt 44) forms ≡ true
    → has_form forms text ≡ true → is_column text ≡ true
form_plain [] [] high e = refl
form_plain [] (byte ∷ text) high e = absurd (cc)
form_plain (form ∷ forms) [] high e = absurd (cc)
form_plain (form ∷ forms) (byte ∷ text) high e =
    let (above, more) = and_parts (nat_lt 44 form) (list_all (nat_lt 44) forms) high in
    let (one, rest) = and_parts (is_of_form form byte) (has_form forms text) e in
    let first : not (ends_column byte) ≡ true = grind (arith, nat_tests) in
    rw (first, form_plain forms text more rest) refl

moment_plain : (limit : ℕ) (text : List ℕ) → is_moment limit text ≡ true → is_column text ≡ true
moment_plain limit text e =
    form_plain moment_form text refl (and_parts (has_form moment_form text) _ (and_parts _ _ e).1).0

-- or nothing
maybe_plain : (limit : ℕ) (text : List ℕ) → ((length text == 0) || is_moment limit text) ≡ true
    → is_column text ≡ true
maybe_plain limit [] e = refl
maybe_plain limit (byte ∷ text) e =
    let some : (length (byte ∷ text) == 0) ≡ false = grind (arith, nat_tests) in
    moment_plain limit (byte ∷ text)
    (sym (ap (λ none. none || is_moment limit (byte ∷ text)) some) ∙ e)

pub word_plain : (mark : ℕ) (text : List ℕ) → 44 < mark
    → list_all (is_word_byte mark) text ≡ true → is_column text ≡ true
word_plain mark text high = plain (is_word_byte mark) (λ byte is. grind (arith, nat_tests)) text

pub fits_plain : (field : Field) (text : List ℕ) → ¬ (field ≡ Ride) → fits field text ≡ true
    → is_column text ≡ true
fits_plain Token text other e =
    plain is_token_byte (λ byte is. grind (arith, nat_tests)) text (and_parts _ _ e).1
fits_plain Moment text other e = moment_plain 2100 text e
fits_plain PastMoment text other e = maybe_plain 2100 text e
fits_plain LaterMoment text other e = maybe_plain 10000 text e
fits_plain Word text other e = word_plain 45 text (omega arith) (and_parts _ _ e).1
fits_plain Reason text other e = word_plain 58 text (omega arith) (and_parts _ _ e).1
fits_plain Ride text other e = absurd (other refl)

-- the column at the front ends here
pub front_at : (test : List ℕ → Bool) (text : List ℕ) (size : ℕ) → size < length text
    → ends_column (get_or text size 0) ≡ true → is_column (take size text) ≡ true
    → test (take size text) ≡ true → IsFront test text size
front_at test text size low ends none passes = (
  omega (arith, low),
  subst (λ (t : List ℕ). column_where test t ≡ Some (take size text, drop size text))
      (take-append-drop size text) ((column_law test).complete (take size text) (take size text)
      (drop size text) (record { shown = refl; plain = none; passes = passes })
      (subst BeginsAfterColumn (sym (drop_more text size 0 low)) ends)),
)
