-- Numbers below a bound: what private functions alone cite.
use Rattle.std.specs.Prelude.{ℕ, Option, Some, None, nat_lt}
use Rattle.line_forms.specs.Forms.{value_if}

-- the number, if it is below the bound
abbrev pub below : ℕ → Option ℕ → Option ℕ
below bound None = None
below bound (Some number) = value_if (nat_lt number bound) number
