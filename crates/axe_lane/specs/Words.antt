-- Lists of 64-bit words as rows of bits: bit i of a list is bit i mod 64 of its word i / 64, the lowest bit being bit
-- 0.
use Rattle.std.specs.Prelude.{◌≡◌, ℕ, ◌*◌, ◌-◌, ◌/◌, ◌%◌, ◌^◌, ◌<◌, List, length, map, slice_index, sum, bit_and, bit_xor, count_ones}
use Rattle.std.specs.Int.{bit_at}
use Rattle.std.specs.Simd.Lanes.{zip2}

-- the exclusive or of two lists of words, word by word: the sum of two rows over the field of order 2
abbrev pub xor_of_words : List ℕ → List ℕ → List ℕ
xor_of_words a b = zip2 bit_xor a b

-- the words of a list, of each of which those bits stay that a mask has
abbrev pub masked : ℕ → List ℕ → List ℕ
masked mask words = map (λ word. bit_and word mask) words

-- the sum of two rows over the field of order 2, of each of which the bits of its mask are taken
abbrev pub masked_sum_of_two : List ℕ → List ℕ → List ℕ → List ℕ
masked_sum_of_two masks a b = xor_of_words (masked (slice_index masks 0) a) (masked (slice_index masks 1) b)

-- the sum of three such rows
abbrev pub masked_sum_of_three : List ℕ → List ℕ → List ℕ → List ℕ → List ℕ
masked_sum_of_three masks a b c = xor_of_words (masked_sum_of_two masks a b) (masked (slice_index masks 2) c)

-- the word of which all 64 bits are a digit modulo 2
abbrev pub mask_of : ℕ → ℕ
mask_of digit = digit * (2 ^ 64 - 1)

-- the masks of factors modulo 2
abbrev pub masks_of : List ℕ → List ℕ
masks_of factors = map mask_of factors

-- bit e of a list of words: bit e mod 64 of word e / 64, where bit 0 is the lowest
unfoldable pub bit_of : List ℕ → ℕ → ℕ
bit_of words e = bit_at (slice_index words (e / 64)) (e % 64)

-- no bit before an index is set
abbrev pub HasNoSetBitBefore : List ℕ → ℕ → Type 0
HasNoSetBitBefore words index = (i : ℕ) → i < index → bit_of words i ≡ 0

-- the set bit of the least index is the one at this index
pub record IsFirstSetBit (words : List ℕ) (index : ℕ) : Type 0 where
  pub within : index / 64 < length words
  pub is_set : bit_of words index ≡ 1
  pub unset_before : HasNoSetBitBefore words index

-- how many bits are set in both lists at the same index
abbrev pub common_bits : List ℕ → List ℕ → ℕ
common_bits a b = sum (zip2 (λ x y. count_ones (bit_and x y)) a b)
