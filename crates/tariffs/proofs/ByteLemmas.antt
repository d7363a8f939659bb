-- Texts of the same bytes.
use Rattle.std.proofs.Common.{◌≡◌, ℕ, true, List}
use Rattle.std.proofs.lemmas.Map.Lookups.{exact_bytes}
use Rattle.std.specs.Cmp.{eq_by_cmp_equiv, Equal-is, Lexicographic.nat_list_cmp_total}
use Rattle.std.specs.{Cmp.Lexicographic.slice_cmp, Ordering.is_eq, Ordering.nat_cmp}

pub is_itself : (key : List ℕ) → is_eq (slice_cmp nat_cmp key key) ≡ true
is_itself key = (eq_by_cmp_equiv nat_list_cmp_total).refl key

-- keys that compare as equal have the same bytes
pub same_bytes : (key other : List ℕ) → is_eq (slice_cmp nat_cmp key other) ≡ true → key ≡ other
same_bytes key other is = exact_bytes key other ((Equal-is (slice_cmp nat_cmp key other)).0 is)
