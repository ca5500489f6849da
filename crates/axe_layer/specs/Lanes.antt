-- Four small numbers in a word, each in 16 bits of its own.
use Rattle.std.specs.Prelude.{ℕ, ◌+◌, ◌*◌, ◌^◌, List, slice_index}

-- four numbers below 2^16 as the lanes of 16 bits of a word, the first lowest
abbrev pub in_lanes : List ℕ → ℕ
in_lanes numbers =
    slice_index numbers 0 + 2 ^ 16 * slice_index numbers 1 + 2 ^ 32 * slice_index numbers 2
    + 2 ^ 48 * slice_index numbers 3
