use Rattle.std.proofs.Common.{◌∙◌, drop, arith}
use Rattle.std.proofs.lemmas.List.{take_all, length-drop}
use Rattle.tap_views.specs.Token.{bytes_of}
use Rattle.tap_views.proofs.TokenBytes.{two_numbers}
use Rattle.tap_views.proofs.token.Token.of.Goals as goal

pub returns-clause-bytes : goal.returns-clause-bytes
unfolding bytes_of
returns-clause-bytes c =
    let bytes = c.args.bytes.now in
    two_numbers bytes c.copy_from_slice.new.self c.copy_from_slice-2.new.self _ _ c.requires (λ i.
    let byte = c.type_inv.bytes i in omega arith)
    c.copy_from_slice.ensures.after
    (c.copy_from_slice-2.ensures.after
    ∙ take_all 8 (drop 8 bytes) (omega (arith, length-drop 8 bytes)))
    c.from_be_bytes.ensures c.from_be_bytes-2.ensures
