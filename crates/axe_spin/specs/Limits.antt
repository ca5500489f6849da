-- How many generators a module has.
use Rattle.std.specs.Prelude.{ℕ}

-- the most generators that a module has
abbrev pub most_generators : ℕ
most_generators = 16
