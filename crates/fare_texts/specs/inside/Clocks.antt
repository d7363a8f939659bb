-- Times of day by their parts. Private functions alone cite this.
use Rattle.std.specs.Prelude.{ℕ, List, ◌++◌, codes}
use Rattle.jiff_fmt.specs.Text.{pad2}
use Rattle.fare_texts.specs.Moments.{pad3}

-- the time of day with these parts, as 17:30:05.250 between `T` and `Z`
abbrev pub clock_of : ℕ → ℕ → ℕ → ℕ → List ℕ
clock_of hour minute second ms =
    codes "T" ++ (pad2 hour ++ (codes ":" ++ (pad2 minute ++ (codes ":" ++ (pad2 second
    ++ (codes "." ++ (pad3 ms ++ codes "Z")))))))
