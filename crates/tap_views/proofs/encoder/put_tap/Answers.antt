use Rattle.std.proofs.lemmas.List.{append_assoc}
use Rattle.tap_views.proofs.encoder.put_tap.Goals as goal

pub returns-clause-bytes : goal.returns-clause-bytes
returns-clause-bytes c =
    rw (
      c.in_ok-extend_from_slice-3.ensures.items,
      c.in_ok-extend_from_slice-2.ensures.items,
      c.in_ok-extend_from_slice.ensures.items,
      c.to_be_bytes.ensures,
      c.to_be_bytes-2.ensures,
    )
    (simp append_assoc)
