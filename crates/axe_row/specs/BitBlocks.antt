-- Blocks of 64 entries of rows over fields of characteristic 2 and 3, by four words of bits.
use Rattle.std.specs.Prelude.{◌≡◌, ◌≤◌, ◌<◌, ℕ, ◌+◌, ◌*◌, List, All, MatchOption, Option, cond, eqb, ltb}
use Rattle.std.specs.Int.{bit_at}
use Rattle.axe_algebra.specs.Lists.{listed}
use Rattle.axe_field.specs.NumberFields.{number_field}
use Rattle.axe_field.specs.Order.{Order, IsElement, order_number, prime_of}
use Rattle.axe_lane.specs.Entries.{AreZerosFrom}
use Rattle.axe_layer.specs.Supports.{restricted}
use Rattle.axe_row.specs.EntryWords.{entries_in_word, weighted_numbers}
use Rattle.axe_row.specs.FoundEntries.{IsNextEntry}
use Rattle.axe_row.specs.Operations.{sum_with_multiple}
use Rattle.axe_row.specs.Rows.{RowValue}
use Rattle.axe_row.specs.declared.bit_block.BitBlock.{BitBlock}

-- the 64 bits of a word, the lowest first
abbrev pub bits_of_word : ℕ → List ℕ
bits_of_word word = listed 64 (bit_at word)

-- the bits of a word after a place, and 0 up to it
abbrev pub bits_after : ℕ → ℕ → List ℕ
bits_after word place = listed 64 (λ i. cond (ltb place i) (bit_at word i) 0)

-- what the higher one of the two numbers below 4 that make an entry's number counts: over fields of characteristic 3 the
-- two are its coefficients of 1 and x, and over those of characteristic 2 they are made of its three bits
abbrev pub weight_of : Order → ℕ
weight_of o = cond (eqb (prime_of o) 3) 3 4

-- the lower number that a block has at a place
abbrev pub low_at : BitBlock → ℕ → ℕ
low_at block i = bit_at block.ones i + 2 * bit_at block.twos i

-- the 64 numbers that a block has over a field
abbrev pub elements_of_block : Order → BitBlock → List ℕ
elements_of_block o block =
    weighted_numbers block.ones block.twos block.high_ones block.high_twos (weight_of o)

-- a block has these 64 entries: their numbers, and each by the lower number that is below the weight, so by one alone
pub record IsBlock (o : Order) (entries : List ℕ) (block : BitBlock) : Type 0 where
  pub numbers : elements_of_block o block ≡ entries
  pub low : (i : ℕ) → i < 64 → low_at block i < weight_of o

-- the block has word k of a row over a field of characteristic 2 or 3: its 64 entries from 64 k on
abbrev pub IsBlockOf : RowValue → ℕ → BitBlock → Type 0
IsBlockOf row k block = prime_of row.order ≤ 3 → IsBlock row.order (entries_in_word row.entries k) block

-- over the field of so many elements, where its characteristic is 2 or 3, this is the first entry of a block other than
-- 0 among the places where a word has a 1, with its place; there is none where each entry there is 0
abbrev pub IsNextOfBlock : ℕ → BitBlock → ℕ → Option (ℕ × ℕ) → Type 0
IsNextOfBlock size block places next = (o : Order) → order_number o ≡ size → prime_of o ≤ 3 →
    MatchOption next (AreZerosFrom (restricted (bits_of_word places) (elements_of_block o block)) 0)
    (λ found. IsNextEntry (bits_of_word places) (elements_of_block o block) 0 found.0 found.1)

-- over the field of so many elements, where its characteristic is 2 or 3: each entry d of the first block becomes d + c s
-- in the last, where c is the scalar and s the entry of the second block
abbrev pub IsBlockWithMultiple : ℕ → ℕ → BitBlock → BitBlock → BitBlock → Type 0
IsBlockWithMultiple size scalar block other sum = (o : Order) → order_number o ≡ size → prime_of o ≤ 3 → IsElement o scalar →
    (entries others : List ℕ) → All (IsElement o) entries → All (IsElement o) others → IsBlock o entries block →
    IsBlock o others other → IsBlock o (sum_with_multiple (number_field o) entries scalar others) sum
