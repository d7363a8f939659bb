use Rattle.std.proofs.Common.{◌≡◌, ◌∙◌, ℕ, List, [], ap, refl, None, Some, length, arith}
use Rattle.std.specs.Prelude.{Option}
use Rattle.tap_rows.specs.Decoded.{fields_in}
use Rattle.tap_views.specs.{Files.IsEndAfterBatches, declared.fault.LayoutFault.LayoutFault}
use Rattle.tap_rows.proofs.laws.decodes_back.Goals as goal

no_fault : (upload rest : List ℕ) (fault : Option (ℕ × LayoutFault)) → rest ≡ []
    → IsEndAfterBatches upload rest fault → fault ≡ None
no_fault upload rest None none is = refl
no_fault upload rest (Some (offset, fault)) none is =
    absurd (omega (arith, is.some_byte, ap length none))

pub returns : goal.returns
returns c = λ taps batches fault file read.
    let (same, rest) = c.unique_parse.ensures batches file.batches read.rest [] read.is_file
    file.is_file in
    (ap fields_in same ∙ file.read, no_fault c.args.upload.now read.rest fault rest read.is_end)
