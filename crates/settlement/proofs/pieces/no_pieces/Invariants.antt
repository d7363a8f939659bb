use Rattle.std.proofs.Common.{◌≡◌, ℕ, ◌<◌, length, get_or, []}
use Rattle.settlement.proofs.pieces.no_pieces.Given as goal

abbrev pub invariant-loop : goal.invariant-loop
invariant-loop l = (length l.made.items ≡ l.counter)
    × ((part : ℕ) → part < l.counter → get_or l.made.items part [] ≡ [])
