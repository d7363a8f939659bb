use Rattle.std.proofs.Common.{◌≡◌, ◌≢◌, List, [], ◌∷◌, None, length, refl, sym, arith}
use Rattle.fare_table.specs.Transfers.{two_strings}
use Rattle.toml.specs.{View.items_view, declared.value.Value.Value}
use Rattle.fare_table.proofs.read.transfers.name_pair.Goals as goal

not_two : (values : List Value) → length values ≢ 2 → two_strings (items_view values) ≡ None
not_two [] other = refl
not_two (a ∷ []) other = refl
not_two (a ∷ b ∷ []) other = absurd (other refl)
not_two (a ∷ b ∷ c ∷ more) other = refl

pub returns-then-len-ne2 : goal.returns-then-len-ne2
returns-then-len-ne2 c =
    rw (← c.in_ok-array.ensures)
    (sym (not_two c.in_ok-array.array.now.items (λ two.
    c.if-len-ne2.true (omega (arith, c.len.ensures, two, c.in_ok-array.array.now.ok.0)))))
