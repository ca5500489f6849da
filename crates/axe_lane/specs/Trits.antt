-- Pairs of lists of 64-bit words as rows over the field of order 3: an entry is 1 where its bit is set in the list of
-- ones, 2 where it is set in the list of twos, and else 0. Bit i of a list is bit i mod 64 of its word i / 64.
use Rattle.std.specs.Prelude.{◌≡◌, ◌⊎◌, ℕ, ◌+◌, ◌*◌, ◌%◌, ◌^◌, ◌<◌, ◌≤◌, List, cond, eqb, length, replicate, slice_index, bit_or, bit_xor}
use Rattle.std.specs.Simd.Lanes.{zip2}
use Rattle.axe_lane.specs.Words.{bit_of, common_bits}

-- entry i of a row
abbrev pub trit_of : List ℕ → List ℕ → ℕ → ℕ
trit_of ones twos i = bit_of ones i + 2 * bit_of twos i

-- two lists of one length, and no bit is set in both
pub record AreTrits (ones twos : List ℕ) : Type 0 where
  pub as_long : length twos ≡ length ones
  pub apart : (i : ℕ) → bit_of ones i + bit_of twos i ≤ 1

-- the words at an index of two rows have 64 bits
pub record FitAt (k : ℕ) (ones twos more_ones more_twos : List ℕ) : Type 0 where
  pub ones_fit : slice_index ones k < 2 ^ 64
  pub twos_fit : slice_index twos k < 2 ^ 64
  pub more_ones_fit : slice_index more_ones k < 2 ^ 64
  pub more_twos_fit : slice_index more_twos k < 2 ^ 64

-- a row of the same length whose entries are the sums modulo 3 of those of two rows; where words of 64 bits were added,
-- so are the sum's
pub record IsTritSum (ones twos more_ones more_twos sum_ones sum_twos : List ℕ) : Type 0 where
  pub long : length sum_ones ≡ length ones
  pub are_trits : AreTrits sum_ones sum_twos
  pub entries : (i : ℕ) → trit_of sum_ones sum_twos i ≡ (trit_of ones twos i + trit_of more_ones more_twos i) % 3
  pub ones_fit : (k : ℕ) → FitAt k ones twos more_ones more_twos → slice_index sum_ones k < 2 ^ 64
  pub twos_fit : (k : ℕ) → FitAt k ones twos more_ones more_twos → slice_index sum_twos k < 2 ^ 64

-- the sum of the products of the entries of two rows at the same index, with 1 for 2 times 2
abbrev pub common_trits : List ℕ → List ℕ → List ℕ → List ℕ → ℕ
common_trits ones twos other_ones other_twos =
    common_bits ones other_ones + common_bits twos other_twos
    + 2 * (common_bits ones other_twos + common_bits twos other_ones)

-- the part that both words of a sum share, where the words of the entries are o and t for ones and twos, and a and b
-- (Harrison, Page, Smart 2002)
abbrev pub turned_bits : ℕ → ℕ → ℕ → ℕ → ℕ
turned_bits o t a b = bit_xor (bit_or o b) (bit_or t a)

-- the word of the ones of that sum: the part, turned where t or b has a bit
abbrev pub ones_of_sum : ℕ → ℕ → ℕ → ℕ → ℕ
ones_of_sum o t a b = bit_xor (turned_bits o t a b) (bit_or t b)

-- the word of the twos of that sum: the part, turned where o or a has a bit
abbrev pub twos_of_sum : ℕ → ℕ → ℕ → ℕ → ℕ
twos_of_sum o t a b = bit_xor (turned_bits o t a b) (bit_or o a)

-- the lists of those words, index by index
abbrev pub turned_lists : List ℕ → List ℕ → List ℕ → List ℕ → List ℕ
turned_lists o t a b = zip2 bit_xor (zip2 bit_or o b) (zip2 bit_or t a)

abbrev pub ones_of_sums : List ℕ → List ℕ → List ℕ → List ℕ → List ℕ
ones_of_sums o t a b = zip2 bit_xor (turned_lists o t a b) (zip2 bit_or t b)

abbrev pub twos_of_sums : List ℕ → List ℕ → List ℕ → List ℕ → List ℕ
twos_of_sums o t a b = zip2 bit_xor (turned_lists o t a b) (zip2 bit_or o a)

-- the words from one index to another are those of the sum, and all others are as they were
pub record HasSumBetween (from to : ℕ) (ones twos more_ones more_twos new_ones new_twos : List ℕ) : Type 0 where
  pub ones_long : length new_ones ≡ length ones
  pub twos_long : length new_twos ≡ length twos
  pub ones_made : (k : ℕ) → from ≤ k → k < to → slice_index new_ones k
      ≡ ones_of_sum (slice_index ones k) (slice_index twos k) (slice_index more_ones k) (slice_index more_twos k)
  pub twos_made : (k : ℕ) → from ≤ k → k < to → slice_index new_twos k
      ≡ twos_of_sum (slice_index ones k) (slice_index twos k) (slice_index more_ones k) (slice_index more_twos k)
  pub ones_kept : (k : ℕ) → (k < from) ⊎ (to ≤ k) → slice_index new_ones k ≡ slice_index ones k
  pub twos_kept : (k : ℕ) → (k < from) ⊎ (to ≤ k) → slice_index new_twos k ≡ slice_index twos k

-- the words at one index of a row
pub record TritWord : Type 0 where
  pub ones : ℕ
  pub twos : ℕ

abbrev pub word_at : List ℕ → List ℕ → ℕ → TritWord
word_at ones twos k = record { ones = slice_index ones k; twos = slice_index twos k }

-- the words of a sum
unfoldable pub sum_of_words : TritWord → TritWord → TritWord
sum_of_words x y = record {
  ones = ones_of_sum x.ones x.twos y.ones y.twos;
  twos = twos_of_sum x.ones x.twos y.ones y.twos;
}

-- those of the sum of three, one after another
abbrev pub sum_of_three : TritWord → TritWord → TritWord → TritWord
sum_of_three x a b = sum_of_words (sum_of_words x a) b

-- those of the sum of five, one after another
abbrev pub sum_of_five : TritWord → TritWord → TritWord → TritWord → TritWord → TritWord
sum_of_five x a b c d = sum_of_words (sum_of_words (sum_of_words (sum_of_words x a) b) c) d

-- the words of a row from one index to another were made the values of a function, and all others are as they were
pub record AreMadeBetween (from to : ℕ) (made : ℕ → TritWord) (ones twos new_ones new_twos : List ℕ) : Type 0 where
  pub ones_long : length new_ones ≡ length ones
  pub twos_long : length new_twos ≡ length twos
  pub made_between : (k : ℕ) → from ≤ k → k < to → word_at new_ones new_twos k ≡ made k
  pub kept : (k : ℕ) → (k < from) ⊎ (to ≤ k) → word_at new_ones new_twos k ≡ word_at ones twos k

-- two lists with a word at each index below a bound
pub record HaveWords (bound : ℕ) (ones twos : List ℕ) : Type 0 where
  pub ones_have : bound ≤ length ones
  pub twos_have : bound ≤ length twos

-- a row of so many words
pub record AreTritsOf (count : ℕ) (ones twos : List ℕ) : Type 0 where
  pub long : length ones ≡ count
  pub are_trits : AreTrits ones twos

-- a row is the sum of five, which were added one after another
pub record IsTritSumOfFive (ones twos a_ones a_twos b_ones b_twos c_ones c_twos d_ones d_twos sum_ones sum_twos : List ℕ) : Type 0 where
  pub ones_of_two : List ℕ
  pub twos_of_two : List ℕ
  pub ones_of_three : List ℕ
  pub twos_of_three : List ℕ
  pub ones_of_four : List ℕ
  pub twos_of_four : List ℕ
  pub first : IsTritSum ones twos a_ones a_twos ones_of_two twos_of_two
  pub second : IsTritSum ones_of_two twos_of_two b_ones b_twos ones_of_three twos_of_three
  pub third : IsTritSum ones_of_three twos_of_three c_ones c_twos ones_of_four twos_of_four
  pub fourth : IsTritSum ones_of_four twos_of_four d_ones d_twos sum_ones sum_twos

-- a row is the sum of three, which were added one after another
pub record IsTritSumOfThree (ones twos a_ones a_twos b_ones b_twos sum_ones sum_twos : List ℕ) : Type 0 where
  pub ones_of_two : List ℕ
  pub twos_of_two : List ℕ
  pub first : IsTritSum ones twos a_ones a_twos ones_of_two twos_of_two
  pub second : IsTritSum ones_of_two twos_of_two b_ones b_twos sum_ones sum_twos

-- a layer of the multiple of a row by 0, 1 or 2, where this layer of the row and the other one are given: twice an entry
-- is the entry with its layers exchanged
abbrev pub multiple_layer : ℕ → List ℕ → List ℕ → List ℕ
multiple_layer m own other = cond (eqb m 0) (replicate (length own) 0) (cond (eqb m 1) own other)

-- a row is another plus the multiples of two rows by p and q, which were added one after another
abbrev pub HasMultiplesOfTwo : ℕ → ℕ → List ℕ → List ℕ → List ℕ → List ℕ → List ℕ → List ℕ → List ℕ → List ℕ → Type 0
HasMultiplesOfTwo p q ones twos a_ones a_twos b_ones b_twos sum_ones sum_twos =
    IsTritSumOfThree ones twos (multiple_layer p a_ones a_twos) (multiple_layer p a_twos a_ones)
    (multiple_layer q b_ones b_twos) (multiple_layer q b_twos b_ones) sum_ones sum_twos
