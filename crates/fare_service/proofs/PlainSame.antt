-- Two gatherings of the same uploads under one table have the same texts.
use Rattle.std.proofs.Common.{refl, sym, ◌∙◌, ap, subst, arith}
use Rattle.histories.specs.{Sums.sums, SumsByKey.sums_by_validator, SumsByKey.sums_by_token}
use Rattle.histories.specs.declared.entry.Entry.{Entry}
use Rattle.report_texts.specs.{OverHistory.IsReportOver, Report.report}
use Rattle.std.proofs.lemmas.List.Elements.{All-head, All-tail}
use Rattle.std.specs.List.{flat_map}
use Rattle.std.specs.Prelude.{ℕ, ◌≡◌, List, [], ◌∷◌, length, All, Option, Some, None}
use Rattle.tap_views.proofs.Deciding.{same_fault}
use Rattle.tap_views.specs.{Files.IsEndAfterBatches, Files.HasUniqueParse, Layout.Tap}
use Rattle.tap_views.specs.UploadEnds.{end_by, IsPlainEnd, ArePlainEnds}
use Rattle.tap_views.specs.declared.{fault.LayoutFault.LayoutFault, upload_end.UploadEnd.UploadEnd}

same_reported : (file rest : List ℕ) (fault other : Option (ℕ × LayoutFault))
    → IsEndAfterBatches file rest fault → IsEndAfterBatches file rest other → fault ≡ other
same_reported file rest None None one two = refl
same_reported file rest None (Some (offset, fault)) one two =
    absurd (omega (arith, ap length one, two.some_byte))
same_reported file rest (Some (offset, fault)) None one two =
    absurd (omega (arith, ap length two, one.some_byte))
same_reported file rest (Some (offset, fault)) (Some (offset', other)) one two =
    ap (λ n. Some (n, fault)) (omega (arith, one.holds_at, two.holds_at))
    ∙ ap (λ f. Some (offset', f)) (same_fault rest fault other one.is_fault two.is_fault)

-- an upload has one plain end
same_end : (file : List ℕ) (end other : UploadEnd) → HasUniqueParse file → IsPlainEnd file end
    → IsPlainEnd file other → end ≡ other
same_end file end other cut one two =
    let same = cut one.batches two.batches one.rest two.rest one.is_file two.is_file in
    let F : List ℕ → Type 0 = λ rest. IsEndAfterBatches file rest one.fault in
    one.ended ∙ ap
    (λ (bs : List (List Tap)). end_by (length (flat_map (λ (b : List Tap). b) bs)) one.fault) same.0
    ∙ ap (end_by (length (flat_map (λ (b : List Tap). b) two.batches)))
    (same_reported file two.rest one.fault two.fault (subst F same.1 one.is_fault) two.is_fault)
    ∙ sym two.ended

pub same_ends : (files : List (List ℕ)) (ends others : List UploadEnd) → All HasUniqueParse files
    → ArePlainEnds files ends → ArePlainEnds files others → ends ≡ others
same_ends [] [] [] cuts one two = refl
same_ends [] [] (o ∷ others) cuts one two = absurd two
same_ends [] (e ∷ ends) others cuts one two = absurd one
same_ends (file ∷ files) [] others cuts one two = absurd one
same_ends (file ∷ files) (e ∷ ends) [] cuts one two = absurd two
same_ends (file ∷ files) (e ∷ ends) (o ∷ others) cuts one two =
    ap (λ x. x ∷ ends) (same_end file e o (All-head HasUniqueParse file files cuts) one.0 two.0)
    ∙ ap (λ xs. o ∷ xs)
    (same_ends files ends others (All-tail HasUniqueParse file files cuts) one.1 two.1)

-- uploads have one report over a history
pub one_report : (files : List (List ℕ)) (history : List Entry) (text other : List ℕ)
    → All HasUniqueParse files → IsReportOver files history text → IsReportOver files history other
    → text ≡ other
one_report files history text other cuts one two =
    one.shown ∙ ap
    (λ ends. report ends (sums history) (sums_by_validator history) (sums_by_token history))
    (same_ends files one.ends two.ends cuts one.of_uploads two.of_uploads) ∙ sym two.shown
