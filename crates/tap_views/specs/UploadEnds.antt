-- How uploads ended, the text of an end, and how those end whose batches before their first faults
-- were all posted whole.
use Rattle.std.specs.{Fmt.decimal, List.flat_map, List.list_all, List.AllZip, Prelude.◌≡◌}
use Rattle.std.specs.Prelude.{ℕ, ◌++◌, Bool, true, false, List, length, Option, Some, None, codes}
use Rattle.tap_views.specs.{Files.IsFile, Files.IsEndAfterBatches, Layout.Tap, Names.fault_name}
use Rattle.tap_views.specs.declared.{fault.LayoutFault.LayoutFault, upload_end.UploadEnd.UploadEnd}
use Rattle.tap_views.specs.declared.upload_end.UploadEnd.TheVariants.{Posted, Refused, Cut, Undrawn}

-- how many taps of an upload were posted, by its end
abbrev pub taps_of_end : UploadEnd → ℕ
taps_of_end (Posted taps) = taps
taps_of_end (Refused taps offset fault) = taps
taps_of_end (Cut taps) = taps
taps_of_end Undrawn = 0

-- whether the upload was posted whole
abbrev pub is_posted : UploadEnd → Bool
is_posted (Posted taps) = true
is_posted _ = false

-- each upload was posted whole
abbrev pub are_posted : List UploadEnd → Bool
are_posted = list_all is_posted

-- the end of an upload, as `refused 2 at 64 L5`
abbrev pub end_text : UploadEnd → List ℕ
end_text (Posted taps) = codes "posted " ++ decimal taps
end_text (Refused taps offset fault) =
    codes "refused " ++ (decimal taps
    ++ (codes " at " ++ (decimal offset ++ (codes " " ++ fault_name fault))))
end_text (Cut taps) = codes "cut " ++ decimal taps
end_text Undrawn = codes "undrawn"

-- how an upload ends: after `taps` taps, by this layout fault, if there is one
abbrev pub end_by : ℕ → Option (ℕ × LayoutFault) → UploadEnd
end_by taps None = Posted taps
end_by taps (Some (offset, fault)) = Refused taps offset fault

-- How an upload of these bytes ends if all batches before its first fault are posted: with the
-- number of their taps, and the fault, if there is one.
pub record IsPlainEnd (file : List ℕ) (end : UploadEnd) : Type 0 where
  pub batches : List (List Tap)
  pub rest : List ℕ
  pub fault : Option (ℕ × LayoutFault)
  pub is_file : IsFile file batches rest
  pub is_fault : IsEndAfterBatches file rest fault
  pub ended : end ≡ end_by (length (flat_map (λ batch. batch) batches)) fault

-- each upload ended as its bytes call for
abbrev pub ArePlainEnds : List (List ℕ) → List UploadEnd → Type 0
ArePlainEnds uploads ends = AllZip IsPlainEnd uploads ends
