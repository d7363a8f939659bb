use Rattle.std.proofs.Common.{◌<◌, List, All, subst, append-nil, ◌∷◌, map, [], arith, refl}
use Rattle.histories.proofs.PlainFields.{AreBytes, plain_fields}
use Rattle.histories.specs.Plain.{plain}
use Rattle.std.proofs.lemmas.List.Elements.{All-cons, All-from_get_or, All-nil}
use Rattle.tap_parts.specs.{Canonical.HasTokenBytes, Parts.taps_of_uploads}
use Rattle.tap_views.proofs.{Lists.All-unmap, Reading.one_list_of_batches}
use Rattle.tap_views.specs.{Encoding.fields_of, Files.HasUniqueParse, Layout.Tap}
use Rattle.settlement.proofs.ValidTokens as valid
use Rattle.settlement.proofs.upload.valid_tokens.Goals as goal

pub returns : goal.returns
returns c = λ taps is.
    let file = c.args.upload.now in
    let bytes = All-from_get_or (λ byte. byte < 256) file 0
    (λ i within. let byte = c.type_inv.upload i in omega arith) in
    All-unmap HasTokenBytes fields_of taps
    (subst (λ (ts : List Tap). All HasTokenBytes (map fields_of ts)) (append-nil taps)
    (valid.valid_tokens (file ∷ []) (taps ∷ [])
    (All-cons HasUniqueParse file [] (one_list_of_batches file) (All-nil HasUniqueParse))
    (is, tt)
    (λ fares. (
      plain fares (taps_of_uploads (taps ∷ [])),
      record { taps = taps ∷ []; each = (is, tt); entries = refl },
    ))
    (λ fares history plain. plain_fields fares (file ∷ []) history
    (All-cons AreBytes file [] bytes (All-nil AreBytes)) plain)))
