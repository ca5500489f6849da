-- The earlier of two places, each of which may be missing.
use Rattle.std.specs.Prelude.{ℕ, Option, Some, None, min}

-- the one that there is, or the lesser where there are both
abbrev pub earlier_of : Option ℕ → Option ℕ → Option ℕ
earlier_of None b = b
earlier_of (Some i) None = Some i
earlier_of (Some i) (Some j) = Some (min i j)
