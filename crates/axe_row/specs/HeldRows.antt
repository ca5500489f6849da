-- Rows over fields of characteristic 2 and 3 as lists of blocks of 64 entries.
use Rattle.std.specs.Prelude.{◌≡◌, ℕ, ◌+◌, ◌/◌, ◌%◌, ◌<◌, ◌≤◌, ◌≢◌, List, All, length, slice_index, slice_index_or}
use Rattle.axe_algebra.specs.Lists.{listed}
use Rattle.axe_field.specs.Order.{Order, IsElement, prime_of}
use Rattle.axe_row.specs.BitBlocks.{elements_of_block, low_at, weight_of}
use Rattle.axe_row.specs.Rows.{RowValue}
use Rattle.axe_row.specs.declared.bit_block.BitBlock.{BitBlock}

-- the block at a place of a list, and that of zeros where there is none
abbrev pub block_at : List BitBlock → ℕ → BitBlock
block_at blocks k = slice_index_or blocks k (record { ones = 0; twos = 0; high_ones = 0; high_twos = 0 })

-- entry e of the row that a list of blocks has, one after the other
abbrev pub entry_of_blocks : Order → List BitBlock → ℕ → ℕ
entry_of_blocks o blocks e = slice_index (elements_of_block o (block_at blocks (e / 64))) (e % 64)

-- the first `len` entries of the row that a list of blocks has
unfoldable pub entries_of_blocks : Order → ℕ → List BitBlock → List ℕ
entries_of_blocks o len blocks = listed len (entry_of_blocks o blocks)

-- the blocks have a row of `len` entries over a field of characteristic 2 or 3, as many blocks as have room for it and
-- none that is there for nothing; what is not an entry is 0
pub record AreBlocksOfRow (order : Order) (len : ℕ) (blocks : List BitBlock) : Type 0 where
  pub characteristic : prime_of order ≤ 3
  pub count : (len + 63) / 64 ≡ length blocks
  pub elements : All (IsElement order) (entries_of_blocks order len blocks)
  pub unused : (e : ℕ) → len ≤ e → entry_of_blocks order blocks e ≡ 0
  pub low : (k i : ℕ) → i < 64 → low_at (block_at blocks k) i < weight_of order

-- the row after is the one before with the elements of a block as the entries in word k
pub record HasBlock (k : ℕ) (block : BitBlock) (before after : RowValue) : Type 0 where
  pub order : after.order ≡ before.order
  pub as_long : length after.entries ≡ length before.entries
  pub written : (e : ℕ) → e / 64 ≡ k → e < length before.entries →
      slice_index after.entries e ≡ slice_index (elements_of_block before.order block) (e % 64)
  pub kept : (e : ℕ) → e / 64 ≢ k → slice_index after.entries e ≡ slice_index before.entries e
