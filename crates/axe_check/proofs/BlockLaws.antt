-- Blocks, entry by entry: the conjugated generators are block lower triangular with the factors on the diagonal exactly where they have the entries
-- of these, and zeros to the right.
use Rattle.std.proofs.Common.{◌≡◌, ℕ, suc, ◌+◌, ◌-◌, ◌<◌, ◌≤◌, List, [], length, map, get_or, slice_get, Some, All, refl, sym, ap, subst, ◌∙◌, arith}
use Rattle.std.proofs.lemmas.List.{length-map, get_or-map, get_or_default}
use Rattle.std.proofs.lemmas.Option.{slice_get_within, slice_get-get_or, get_or_from_slice_get}
use Rattle.axe_algebra.specs.NumberField.{NumberField}
use Rattle.axe_algebra.specs.Bridge.{field_of, element, matrix_of, zero_of}
use Rattle.axe_algebra.specs.Blocks.{block_start, block_size, AreBlockSizes}
use Rattle.axe_algebra.specs.Blocks
use Rattle.axe_algebra.specs.BlocksOfLists.{IsBlockLowerTriangular, IsDiagonalBlock}
use Rattle.axe_algebra.specs.Lists.{entry, IsSquareOver}
use Rattle.axe_algebra.proofs.ElementNumbers.{same_number, element_zero, zero-below}
use Rattle.axe_algebra.proofs.ListEntries.{square_shape, matrix_entry-below}
use Rattle.axe_algebra.proofs.ListModules.{generator_over}
use Rattle.axe_algebra.proofs.Flags.{block_start_next}
use Rattle.axe_field.specs.NumberFields.{number_field}
use Rattle.axe_matrix.specs.Matrices.{MatrixValue}
use Rattle.axe_spin.specs.Modules.{ModuleValue, IsModule, generator_of}
use Rattle.axe_action.specs.Actions.{IsConjugateModule}
use Rattle.axe_action.proofs.OneAction.{squares_of}
use Rattle.axe_series.specs.Series.{IsBlockOf, IsPlaceOf, sizes_of_places}
use Rattle.axe_check.specs.Certificates.{HasBlocks}
use Rattle.axe_check.specs.Steps.{HasZerosAt, HasBlockAt, HasBlocksAt, HasAllBlocks, IsLikeModule}
use native.Mathlib.Decide.{dec_lt}

-- ---- one block of one matrix

module _ (K : NumberField) (sizes : List ℕ) (b : ℕ) (below : b < length sizes) (x : MatrixValue) (d : MatrixValue)
    (square : IsSquareOver K (block_start sizes (length sizes)) x.rows) (columns : x.cols ≡ block_start sizes (length sizes))
    (diagonal_square : IsSquareOver K (block_size sizes b) d.rows) where
  abbrev start : ℕ
  start = block_start sizes b

  ends : block_start sizes (suc b) ≡ start + length d.rows
  ends = block_start_next sizes b below ∙ ap (λ n. start + n) (sym diagonal_square.length_is)

  -- the entries that are found make it a diagonal block
  pub diagonal_from : HasBlockAt x start d → IsDiagonalBlock K sizes b x.rows d.rows
  diagonal_from has = record {
    square = square;
    diagonal_square = diagonal_square;
    block_is = record {
      shape = square_shape K (block_size sizes b) d.rows diagonal_square;
      entries = λ i j row column.
          ap (element K) (sym (has.entries i j (omega (arith, row, diagonal_square.length_is)) (omega (arith, column, diagonal_square.length_is))));
    };
  }

  -- a diagonal block has these entries
  pub entries_from : IsDiagonalBlock K sizes b x.rows d.rows → (i j : ℕ) → i < length d.rows → j < length d.rows →
      entry x.rows (start + i) (start + j) ≡ entry d.rows i j
  entries_from is i j row column =
      same_number K (entry x.rows (start + i) (start + j)) (entry d.rows i j)
      (matrix_entry-below K (block_start sizes (length sizes)) x.rows (start + i) (start + j) square.matrix)
      (matrix_entry-below K (block_size sizes b) d.rows i j diagonal_square.matrix)
      (sym (is.block_is.entries i j (omega (arith, row, diagonal_square.length_is)) (omega (arith, column, diagonal_square.length_is))))

  -- the zeros that are found are those right of it
  pub right_from : HasZerosAt x start (length d.rows) → (i j : ℕ) → start ≤ i → i < block_start sizes (suc b) → block_start sizes (suc b) ≤ j →
      matrix_of K x.rows i j ≡ zero_of K
  right_from zeros i j from to right = by_column (dec_lt j x.cols)
    where
      row : start + (i - start) ≡ i
      row = omega (arith, from)

      by_column : Dec (j < x.cols) → matrix_of K x.rows i j ≡ zero_of K
      by_column (yes inside) =
          ap (element K)
          (ap (λ k. entry x.rows k j) (sym row) ∙ zeros (i - start) j (omega (arith, from, to, ends)) (omega (arith, right, ends)) inside)
          ∙ element_zero K
      by_column (no past) =
          (square_shape K (block_start sizes (length sizes)) x.rows square).columns i j (omega (arith, past, columns))

  -- where a matrix is block lower triangular there are these zeros
  pub zeros_from : Blocks.IsBlockLowerTriangular (field_of K) sizes (matrix_of K x.rows) → HasZerosAt x start (length d.rows)
  zeros_from triangular i j row right inside =
      same_number K (entry x.rows (start + i) j) 0
      (matrix_entry-below K (block_start sizes (length sizes)) x.rows (start + i) j square.matrix) (zero-below K)
      (triangular.right b (start + i) j below (omega arith) (omega (arith, row, ends)) (omega (arith, right, ends)) ∙ sym (element_zero K))

-- ---- all of them

module _ (m : ModuleValue) (factors : List ModuleValue) (places : List ℕ) (is : IsModule m) (are : All IsModule factors)
    (like : All (IsLikeModule m) factors) (sizes_are : AreBlockSizes m.dim (sizes_of_places factors places)) where
  abbrev K : NumberField
  K = number_field m.order

  abbrev sizes : List ℕ
  sizes = sizes_of_places factors places

  -- a factor at its number
  factor_has : (P : ModuleValue → Type 0) → All P factors → (number : ℕ) (factor : ModuleValue) → slice_get factors number ≡ Some factor → P factor
  factor_has P all number factor at =
      subst P (get_or_from_slice_get factors number factor factor at) (all number factor (slice_get_within factors number factor at))

  module _ (a number : ℕ) (factor : ModuleValue) (place : IsPlaceOf places a number) (at : slice_get factors number ≡ Some factor) where
    inside : a < length sizes
    inside = omega (arith, slice_get_within places a number place, length-map places (λ number. get_or (map (λ (f : ModuleValue). f.dim) factors) number 0))

    size : factor.dim ≡ block_size sizes a
    size = sym
        (get_or-map (λ number. get_or (map (λ (f : ModuleValue). f.dim) factors) number 0) places a 0 0 (slice_get_within places a number place)
        ∙ ap (λ k. get_or (map (λ (f : ModuleValue). f.dim) factors) k 0) (get_or_from_slice_get places a number 0 place)
        ∙ get_or-map (λ (f : ModuleValue). f.dim) factors number factor 0 (slice_get_within factors number factor at)
        ∙ ap (λ (f : ModuleValue). f.dim) (get_or_from_slice_get factors number factor factor at))

    is_factor : IsModule factor
    is_factor = factor_has IsModule are number factor at

    like_factor : IsLikeModule m factor
    like_factor = factor_has (IsLikeModule m) like number factor at

    whole : m.dim ≡ block_start sizes (length sizes)
    whole = sym sizes_are.total

    square_of : (i : ℕ) → i < length m.generators → IsSquareOver K (block_start sizes (length sizes)) (get_or m.generators i [])
    square_of i below = subst (λ n. IsSquareOver K n (get_or m.generators i [])) whole (generator_over K m.dim m.generators i is.over.square below)

    square_of_factor : (i : ℕ) → i < length m.generators → IsSquareOver K (block_size sizes a) (get_or factor.generators i [])
    square_of_factor i below =
        subst (λ n. IsSquareOver K n (get_or factor.generators i [])) size
        (generator_over K factor.dim factor.generators i (squares_of factor m.order factor.dim is_factor.over.square like_factor.field refl)
        (omega (arith, below, like_factor.count)))

    pub block_from : HasBlocksAt m (block_start sizes a) factor → IsBlockOf m sizes a factor
    block_from has = record {
      well_formed = is_factor;
      field = like_factor.field;
      dimension = size;
      count = like_factor.count;
      each = λ i below.
          diagonal_from K sizes a inside (generator_of m i) (generator_of factor i) (square_of i below) whole (square_of_factor i below) (has i below);
    }

    pub blocks_from : IsBlockOf m sizes a factor → All (IsBlockLowerTriangular K sizes) m.generators → HasBlocksAt m (block_start sizes a) factor
    blocks_from block triangular i below = record {
      entries = entries_from K sizes a inside (generator_of m i) (generator_of factor i) (square_of i below) whole (square_of_factor i below) (block.each i below);
      zeros = zeros_from K sizes a inside (generator_of m i) (generator_of factor i) (square_of i below) whole (square_of_factor i below)
          (triangular i [] below).triangular;
    }

    right_of : HasBlocksAt m (block_start sizes a) factor → (i : ℕ) → i < length m.generators → (s j : ℕ) → block_start sizes a ≤ s →
        s < block_start sizes (suc a) → block_start sizes (suc a) ≤ j → matrix_of K (get_or m.generators i []) s j ≡ zero_of K
    right_of has i below =
        right_from K sizes a inside (generator_of m i) (generator_of factor i) (square_of i below) whole (square_of_factor i below) (has i below).zeros

  -- a place has a factor
  place_at : (b : ℕ) → All (λ number. number < length factors) places → b < length sizes → (number : ℕ) × (factor : ModuleValue) × IsPlaceOf places b number × (slice_get factors number ≡ Some factor)
  place_at b within below =
      let short : b < length places = omega (arith, below, length-map places (λ number. get_or (map (λ (f : ModuleValue). f.dim) factors) number 0)) in
      (get_or places b 0, get_or factors (get_or places b 0) m, slice_get-get_or places b 0 short, slice_get-get_or factors (get_or places b 0) m (within b 0 short))

  pub triangular_from : All (λ number. number < length factors) places → HasAllBlocks m factors places → All (IsBlockLowerTriangular K sizes) m.generators
  triangular_from within has i d below = record {
    square = subst (λ n. IsSquareOver K n (get_or m.generators i d)) (sym sizes_are.total) (is.over.square i d below);
    triangular = record {
      right = λ b s j inside_b from to right.
          let (number, factor, place, at) = place_at b within inside_b in
          subst (λ (rows : List (List ℕ)). matrix_of K rows s j ≡ zero_of K) (same i d below)
          (right_of b number factor place at (has b number factor place at) i below s j from to right);
    };
  }
    where
      same : (i : ℕ) (d : List (List ℕ)) → i < length m.generators → get_or m.generators i [] ≡ get_or m.generators i d
      same i d below = get_or_default m.generators i [] d below

-- ---- the conjugates

module _ (m : ModuleValue) (basis : MatrixValue) (conjugates : ModuleValue) (factors : List ModuleValue) (places : List ℕ) (is : IsModule conjugates)
    (are : All IsModule factors) (like : All (IsLikeModule conjugates) factors)
    (sizes_are : AreBlockSizes conjugates.dim (sizes_of_places factors places)) (within : All (λ number. number < length factors) places)
    (conjugate : IsConjugateModule m basis conjugates) where
  pub has_blocks : HasAllBlocks conjugates factors places → HasBlocks m basis factors places
  has_blocks has = record {
    conjugates = conjugates;
    conjugate = conjugate;
    triangular =
        subst (λ o. All (IsBlockLowerTriangular (number_field o) (sizes_of_places factors places)) conjugates.generators) conjugate.field
        (triangular_from conjugates factors places is are like sizes_are within has);
    diagonal = λ a number factor place at.
        block_from conjugates factors places is are like sizes_are a number factor place at (has a number factor place at);
  }

  pub all_blocks : (one : (other : ModuleValue) → IsConjugateModule m basis other → other ≡ conjugates) → HasBlocks m basis factors places →
      HasAllBlocks conjugates factors places
  all_blocks one blocks a number factor place at =
      blocks_from conjugates factors places is are like sizes_are a number factor place at
      (subst (λ (other : ModuleValue). IsBlockOf other (sizes_of_places factors places) a factor) same (blocks.diagonal a number factor place at))
      (subst (λ (other : ModuleValue). All (IsBlockLowerTriangular (number_field conjugates.order) (sizes_of_places factors places)) other.generators) same
      (subst (λ o. All (IsBlockLowerTriangular (number_field o) (sizes_of_places factors places)) blocks.conjugates.generators) (sym conjugate.field)
      blocks.triangular))
    where
      same : blocks.conjugates ≡ conjugates
      same = one blocks.conjugates blocks.conjugate
