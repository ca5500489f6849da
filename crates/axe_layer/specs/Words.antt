-- Lists of digits by words of 64.
use Rattle.std.specs.Prelude.{ℕ, ◌+◌, ◌*◌, ◌/◌, ◌%◌, List, length, slice_index, cond, eqb}
use Rattle.std.specs.Int.{bit_at}
use Rattle.axe_algebra.specs.Lists.{listed}

-- a list of digits in which word k, that is the digits from 64 k on and before 64 (k + 1), has the digits of a word:
-- digit e becomes digit e mod 64 of that word where e / 64 is k, and stays elsewhere
unfoldable pub digits_with_word : List ℕ → ℕ → (ℕ → ℕ) → List ℕ
digits_with_word digits k word =
    listed (length digits) (λ e. cond (eqb (e / 64) k) (word (e % 64)) (slice_index digits e))

-- digit i of two words: bit i of the first, and twice bit i of the second
abbrev pub digit_of_words : List ℕ → ℕ → ℕ
digit_of_words words i = bit_at (slice_index words 0) i + 2 * bit_at (slice_index words 1) i
