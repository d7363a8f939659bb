-- Files that read alike have the same plain history and the same ends.
use Rattle.std.proofs.Common.{◌≡◌, List, ◌∷◌, ◌++◌, length, map, refl, ap, ◌∙◌, [], arith}
use Rattle.account_rule.specs.declared.reply.Answer.TheVariants.{Unknown}
use Rattle.histories.specs.Plain.{token_of_bytes, unanswered, answered, plain_after}
use Rattle.histories.specs.declared.entry.Entry.{Entry}
use Rattle.tap_views.specs.{Encoding.fields_of, Layout.Tap, declared.encoder.TapFields.TapFields}
use Rattle.tariffs.specs.Fares.{Fares}

-- an entry with no reply, by the fields
unfoldable pub entry_of : TapFields → Entry
entry_of f = record {
  token = token_of_bytes f.token;
  validator = f.validator;
  moment = f.moment;
  answer = Unknown;
  cents = 0;
}

-- plain histories of taps with the same fields
pub same_after : (fares : Fares) (earlier : List Entry) (xs ys : List Tap)
    → map fields_of xs ≡ map fields_of ys
    → plain_after fares earlier xs ≡ plain_after fares earlier ys
unfolding plain_after entry_of
same_after fares earlier [] [] e = refl
same_after fares earlier [] (y ∷ ys) e = absurd (omega (arith, ap length e))
same_after fares earlier (x ∷ xs) [] e = absurd (omega (arith, ap length e))
same_after fares earlier (x ∷ xs) (y ∷ ys) e =
    let head : fields_of x ≡ fields_of y = cc in
    let tail : map fields_of xs ≡ map fields_of ys = cc in
    let entry : unanswered x ≡ unanswered y = ap entry_of head in
    ap (λ (n : Entry). answered fares earlier n
    ∷ plain_after fares (earlier ++ answered fares earlier n ∷ []) xs) entry
    ∙ ap (λ es. answered fares earlier (unanswered y) ∷ es)
    (same_after fares (earlier ++ answered fares earlier (unanswered y) ∷ []) xs ys tail)
