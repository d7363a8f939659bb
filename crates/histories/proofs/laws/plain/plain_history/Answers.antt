use Rattle.std.proofs.Common.{List, [], ◌∷◌, ◌++◌, Vec, Global, ℕ, All, map, take, sym, ap, ◌∙◌}
use Rattle.std.proofs.Common.{subst, take_all}
use Rattle.histories.proofs.PlainFields.{AreBytes, plain_fields}
use Rattle.histories.proofs.PlainUploads.{some_plain, one_plain, legal_plain}
use Rattle.std.proofs.lemmas.List.{map_more, Elements.All-map, Elements.All-more}
use Rattle.tap_views.proofs.ParseLemmas.{each_more}
use Rattle.tap_views.specs.Files.{AreValidTaps, AreValidTapsOfEach}
use Rattle.histories.proofs.laws.plain.plain_history.Goals as goal

abbrev bytes_in : Vec ℕ Global → List ℕ
bytes_in upload = upload.items

pub loop-upload-preserved : goal.loop-upload-preserved
loop-upload-preserved c =
    let uploads = c.args.uploads.now in
    let upload = c.upload-item.result in
    let i = c.loop-upload.upload-index in
    let (taps, each) = c.loop-upload.invariant.taps in
    let (more, are) = c.taps_of.ensures.taps in
    let B : List ℕ → Type 0 = λ bytes. AreValidTaps bytes more in
    let T : List (List ℕ) → Type 0 = λ files. AreValidTapsOfEach files (taps ++ more ∷ []) in
    let A : List ℕ → Type 0 = AreBytes in
    let U : Vec ℕ Global → Type 0 = λ u. AreBytes u.items in
    let all = map_more bytes_in uploads i upload c.loop-upload-test.true
    ∙ ap (λ u. map bytes_in (take i uploads) ++ bytes_in u ∷ []) (sym c.upload-item.is) in
    record {
      taps = (
        taps ++ more ∷ [],
        subst T (sym all)
            (each_more (map bytes_in (take i uploads)) taps upload.items more each
            (subst B c.as_slice.ensures.value are)),
      );
      bytes = All-more (λ u. AreBytes u.items) uploads i upload c.loop-upload-test.true
          c.loop-upload.invariant.bytes
          (subst U c.upload-item.is (subst A c.as_slice.ensures.value c.taps_of.ensures.bytes));
    }

pub returns-clause-some : goal.returns-clause-some
returns-clause-some c = λ fares.
    let (taps, each) = c.loop-upload.invariant.taps in
    let T : List (Vec ℕ Global) → Type 0 =
    λ uploads. AreValidTapsOfEach (map bytes_in uploads) taps in
    some_plain fares (map bytes_in c.args.uploads.now) taps
    (subst T (take_all c.loop-upload.upload-index c.args.uploads.now c.loop-upload-test.false) each)

pub returns-clause-one : goal.returns-clause-one
returns-clause-one c =
    λ fares history other a b. one_plain fares (map bytes_in c.args.uploads.now) history other
    c.unique_parse_each.ensures a b

pub returns-clause-legal : goal.returns-clause-legal
returns-clause-legal c =
    λ fares history is. legal_plain fares (map bytes_in c.args.uploads.now) history is

pub returns-clause-fields : goal.returns-clause-fields
returns-clause-fields c = λ fares history is.
    let A : List (Vec ℕ Global) → Type 0 = All (λ u. AreBytes u.items) in
    let bytes = All-map AreBytes bytes_in c.args.uploads.now
    (subst A (take_all c.loop-upload.upload-index c.args.uploads.now c.loop-upload-test.false)
    c.loop-upload.invariant.bytes) in
    plain_fields fares (map bytes_in c.args.uploads.now) history bytes is
