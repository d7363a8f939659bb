-- How an upload ended, at the end of its line.
use Rattle.std.proofs.Common.{◌≡◌, ℕ, ◌<◌, ◌^◌, ◌++◌, ◌+◌, ◌∷◌, [], List, refl, sym, ap, ◌∙◌}
use Rattle.std.proofs.Common.{append_assoc, arith, codes}
use Rattle.report_texts.specs.Report.{upload_line}
use Rattle.report_texts.specs.inside.EndWords.{end_words, fault_number, fault_words}
use Rattle.std.proofs.lemmas.Fmt.{decimal_digit}
use Rattle.std.specs.Fmt.{decimal}
use Rattle.tap_views.specs.{Names.fault_name, declared.fault.LayoutFault.LayoutFault}
use Rattle.tap_views.specs.declared.fault.LayoutFault.TheVariants.{Short, Magic, Flags, TooMany}
use Rattle.tap_views.specs.declared.fault.LayoutFault.TheVariants.{Length, Moment}
use Rattle.tap_views.specs.declared.upload_end.UploadEnd.{UploadEnd, TheVariants.Refused}

-- an upload's line by its words
pub line_words : (number : ℕ) (end : UploadEnd)
    → upload_line number end ≡ codes "upload " ++ (decimal number ++ end_words end)
unfolding upload_line
line_words number end = refl

named_by : (digit : ℕ) → digit < 10 → codes "L" ++ (48 + digit) ∷ [] ≡ codes "L" ++ decimal digit
named_by digit one = ap (λ (t : List ℕ). codes "L" ++ t) (sym (decimal_digit digit one))

name_spelled : (fault : LayoutFault) → fault_name fault ≡ codes "L" ++ decimal (fault_number fault)
name_spelled (Short have) = named_by 1 (omega arith)
name_spelled Magic = named_by 2 (omega arith)
name_spelled Flags = named_by 3 (omega arith)
name_spelled (TooMany count) = named_by 4 (omega arith)
name_spelled (Length want have) = named_by 5 (omega arith)
name_spelled (Moment index) = named_by 6 (omega arith)

-- the end of a refused upload, number behind number
pub refused_spelled : (taps offset : ℕ) (fault : LayoutFault)
    → end_words (Refused taps offset fault)
    ≡ codes " refused " ++ (decimal taps ++ fault_words offset fault)
refused_spelled taps offset fault =
    let named = ap (λ (t : List ℕ). decimal offset ++ (codes " " ++ (t ++ codes "\n")))
    (name_spelled fault) in
    let trailing = append_assoc (decimal offset) (codes " " ++ fault_name fault) (codes "\n")
    ∙ named in
    ap (λ (t : List ℕ). codes " refused " ++ t) (append_assoc (decimal taps) (codes " at "
    ++ (decimal offset ++ (codes " " ++ fault_name fault))) (codes "\n")
    ∙ ap (λ (t : List ℕ). decimal taps ++ (codes " at " ++ t)) trailing)

-- the number that a fault shows has 64 bits
pub small_number : (fault : LayoutFault) → fault_number fault < 2 ^ 64
small_number (Short have) = omega arith
small_number Magic = omega arith
small_number Flags = omega arith
small_number (TooMany count) = omega arith
small_number (Length want have) = omega arith
small_number (Moment index) = omega arith
