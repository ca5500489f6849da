-- The layout of one generator, and that of all.
use Rattle.std.proofs.Common.{◌≡◌, ℕ, ◌+◌, ◌*◌, ◌≤◌, List}
use Rattle.std.proofs.lemmas.Nat.{mul-le}
use Rattle.axe_matrix.specs.Limits.{most_columns}
use Rattle.axe_file.specs.Limits.{most_generators}
use Rattle.axe_file.specs.Packed.{header_length, data_length, matrix_at, data_faults}
use Rattle.axe_file.specs.PackedModules.{generator_at}
use Rattle.axe_file.specs.declared.layout.Layout.{Layout}
use Rattle.axe_file.proofs.Scans.{most_data, data_fits, data_by_layout}

-- the rows of all generators are few
pub all_rows_fit : (layout : Layout) (g : ℕ) → g ≤ most_generators → g * layout.columns ≤ most_generators * most_columns
all_rows_fit layout g few = mul-le g layout.columns most_generators most_columns few layout.columns_fit

-- the bytes of one generator are few
pub generator_fits : (layout : Layout) → data_length layout.field layout.columns layout.columns ≤ most_data
unfolding data_length
generator_fits layout = data_fits layout.field layout.columns layout.columns layout.columns_fit layout.columns_fit

-- and so are those of all
pub all_fit : (layout : Layout) (g : ℕ) → g ≤ most_generators → g * data_length layout.field layout.columns layout.columns ≤ most_generators * most_data
all_fit layout g few = mul-le g (data_length layout.field layout.columns layout.columns) most_generators most_data few (generator_fits layout)

-- a layout that is the generators', and as many rows as it has columns
module _ (layout one : Layout) (r : ℕ) (same : one ≡ layout) (square : r ≡ layout.columns) where
  pub generator_size : r * one.width ≡ data_length layout.field layout.columns layout.columns
  generator_size = rw (same, square) (data_by_layout layout layout.columns)

  pub generator_read : (bytes : List ℕ) (offset i : ℕ)
      → matrix_at one.field r one.columns bytes (offset + i * (r * one.width)) ≡ generator_at layout.field layout.columns bytes offset i
  unfolding generator_at
  generator_read bytes offset i = λ k. matrix_at (same k).field (square k) (same k).columns bytes (offset + i * generator_size k)

pub all_faults : (layout all : Layout) (r g : ℕ) (bytes : List ℕ) → all ≡ layout → r ≡ g * layout.columns
    → data_faults all.field r all.columns bytes header_length ≡ data_faults layout.field (g * layout.columns) layout.columns bytes header_length
all_faults layout all r g bytes same rows = λ k. data_faults (same k).field (rows k) (same k).columns bytes header_length
