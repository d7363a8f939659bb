use Rattle.std.proofs.Common.{◌≡◌, ◌+◌, ◌-◌, ◌/◌, ◌%◌, ◌^◌, arith, inl, inr}
use Rattle.std.proofs.lemmas.{Bool.Decides.leb_tells, Nat.and_mask}
use Rattle.tariffs.proofs.validators.taken_if_started.Goals as goal

pub returns : goal.returns
returns c =
    let mask = (c.from.result + (18446744073709551616 - (c.from-2.result + 1))) %
    18446744073709551616 / 4294967296 in
    elim (leb_tells c.args.first c.args.number) [
      | inl a ↦
          let whole : mask ≡ 2 ^ 32 - 1 = omega (arith, c.from.ensures, c.from-2.ensures, a.1) in
          let small : c.args.positions % 2 ^ 32 ≡ c.args.positions = omega (arith, c.requires) in
          rw (whole, and_mask c.args.positions 32, a.0) small
      | inr a ↦
          let none : mask ≡ 2 ^ 0 - 1 = omega (arith, c.from.ensures, c.from-2.ensures, a.1) in
          rw (none, and_mask c.args.positions 0, a.0) (omega arith)
    ]
