-- Lists of digits modulo a prime plus multiples of a few others, and tables of such sums.
use Rattle.std.specs.Prelude.{◌≡◌, ℕ, ◌+◌, ◌<◌, ◌≤◌, List, [], length, slice_index, slice_index_or}
use Rattle.axe_layer.specs.Digits.{digits_with_multiple}

-- a list of digits plus multiples of two others, modulo p, digit by digit
unfoldable pub digits_with_two : ℕ → List ℕ → List ℕ → List ℕ → List ℕ → List ℕ
digits_with_two p x factors a b =
    digits_with_multiple p (digits_with_multiple p x (slice_index factors 0) a) (slice_index factors 1) b

-- a list of digits plus multiples of three others, modulo p, digit by digit
unfoldable pub digits_with_multiples : ℕ → List ℕ → List ℕ → List ℕ → List ℕ → List ℕ → List ℕ
digits_with_multiples p x factors a b c =
    digits_with_multiple p
    (digits_with_multiple p (digits_with_multiple p x (slice_index factors 0) a) (slice_index factors 1) b)
    (slice_index factors 2) c

-- a table of lists after some became copies: list start + i, for each i from 1 on that is below a count, is list i of
-- before, and each other list is the one of before
pub record HaveEntryCopies (start count : ℕ) (before after : List (List ℕ)) : Type 0 where
  pub as_many : length after ≡ length before
  pub copies : (i : ℕ) → 0 < i → i < count → slice_index_or after (start + i) [] ≡ slice_index_or before i []
  pub earlier : (x : ℕ) → x ≤ start → slice_index_or after x [] ≡ slice_index_or before x []
  pub later : (x : ℕ) → start + count ≤ x → x < length before →
      slice_index_or after x [] ≡ slice_index_or before x []

-- a table of lists of digits after some became sums modulo p: list start + i, for each i from 1 on that is below a
-- count, is the sum of list i and list start of before, and each other list is the one of before
pub record HaveEntrySums (p start count : ℕ) (before after : List (List ℕ)) : Type 0 where
  pub as_many : length after ≡ length before
  pub sums : (i : ℕ) → 0 < i → i < count → slice_index_or after (start + i) []
      ≡ digits_with_multiple p (slice_index_or before i []) 1 (slice_index_or before start [])
  pub earlier : (x : ℕ) → x ≤ start → slice_index_or after x [] ≡ slice_index_or before x []
  pub later : (x : ℕ) → start + count ≤ x → x < length before →
      slice_index_or after x [] ≡ slice_index_or before x []

-- there is a list x in a table of lists, counted from 0, and it has n digits
pub record HasEntryOf (n : ℕ) (entries : List (List ℕ)) (x : ℕ) : Type 0 where
  pub within : x < length entries
  pub fits : length (slice_index_or entries x []) ≡ n
