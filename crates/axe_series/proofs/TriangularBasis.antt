-- A basis of a module by rows: conjugated by it the generators are block lower triangular where its first rows are invariant,
-- with the actions on its sections as diagonal blocks.
use Rattle.std.specs.Prelude.{◌≡◌, ℕ, ◌<◌, ◌+◌, List, [], map, length, get_or}
use Rattle.std.specs.List.{All}
use Rattle.std.proofs.lemmas.List.{length-map, get_or-map}
use Rattle.axe_algebra.specs.NumberField.{NumberField}
use Rattle.axe_algebra.specs.Field.{Field}
use Rattle.axe_algebra.specs.Vectors.{Matrix, multiply}
use Rattle.axe_algebra.specs.Spans
use Rattle.axe_algebra.specs.Modules.{Module}
use Rattle.axe_algebra.specs.Modules
use Rattle.axe_algebra.specs.Actions.{IsSectionAction}
use Rattle.axe_algebra.specs.Bridge.{matrix_of, module_of}
use Rattle.axe_algebra.specs.Blocks.{block_start, block_size, AreBlockSizes, conjugate}
use Rattle.axe_algebra.specs.Blocks
use Rattle.axe_algebra.specs.Lists.{IsMatrixOver, IsSquareOver}
use Rattle.axe_algebra.specs.ListArithmetic.{product, IsInverse}
use Rattle.axe_algebra.specs.SpansOfLists.{SpansEverything}
use Rattle.axe_algebra.specs.ModuleTheorems.{IsInvariantChain}
use Rattle.axe_algebra.proofs.SquareMatrices.{invertible_of_rows}
use Rattle.axe_algebra.proofs.FreeColumns.{spanning_rows_independent}
use Rattle.axe_algebra.proofs.Flags.{flag_is_block_triangular, section_is_diagonal_block}
use Rattle.axe_algebra.proofs.Sections.{ActsModulo}
use Rattle.axe_algebra.proofs.ListEntries.{square_shape, rows_length}
use Rattle.axe_algebra.proofs.ListProducts.{product_length}
use Rattle.axe_algebra.proofs.ListLaws.{matrix_of_product_of, product_over_of, inverse_list, inverse_of_lists}
use Rattle.axe_algebra.proofs.ListModules.{generator_over, module_shape}
use Rattle.axe_field.specs.NumberFields.{number_field, gf}
use Rattle.axe_matrix.specs.Matrices.{MatrixValue}
use Rattle.axe_matrix.specs.Matrices
use Rattle.axe_spin.specs.Modules.{ModuleValue, IsModule}
use Rattle.axe_action.proofs.OneAction.{same_module, same_generators, squares_of}
use Rattle.axe_series.specs.Series.{IsTriangularBy, IsBlockOf, basis_of_rows}
use mathlib.Core.Path.{refl, sym, ◌∙◌, ap, subst, fun_ext}
use native.Mathlib.Omega.{arith}
use native.Mathlib.Decide.{dec_lt}

module _ (m : ModuleValue) (is : IsModule m) (rows : List (List ℕ)) (over : IsMatrixOver (number_field m.order) m.dim rows) (size : length rows ≡ m.dim)
    (spans : SpansEverything (number_field m.order) m.dim rows) where
  abbrev K : NumberField
  K = number_field m.order

  abbrev F : Field
  F = gf m.order

  abbrev M : Module F
  M = module_of K m.dim m.generators

  abbrev p : Matrix F
  p = matrix_of K rows

  square : IsSquareOver K m.dim rows
  square = record { length_is = size; matrix = over }

  basis_is_matrix : Matrices.IsMatrix (basis_of_rows m rows)
  unfolding number_field
  basis_is_matrix = record {
    some_column = omega (arith, is.over.positive);
    columns_fit = is.dim_fits;
    rows_fit = omega (arith, size, is.dim_fits);
    row_lengths = λ i d below. (over i d below).length_is;
    elements = λ i d below. (over i d below).elements;
  }

  basis_invertible : Spans.IsInvertible F m.dim p
  basis_invertible =
      invertible_of_rows F m.dim p (square_shape K m.dim rows square)
      (spanning_rows_independent F m.dim p (rows_length K m.dim rows over) (subst (λ k. Spans.SpansAll F m.dim k p) size spans))

  inverse : (b : List (List ℕ)) × IsSquareOver K m.dim b × IsInverse K m.dim rows b
  inverse = inverse_list K m.dim rows square basis_invertible

  q : List (List ℕ)
  unfolding inverse
  q = inverse.0

  square_q : IsSquareOver K m.dim q
  unfolding inverse q
  square_q = inverse.1

  q_inverts : IsInverse K m.dim rows q
  unfolding inverse q
  q_inverts = inverse.2

  inverts : Spans.IsInverse F m.dim p (matrix_of K q)
  inverts = inverse_of_lists K m.dim rows q square square_q q_inverts

  conjugated : List (List ℕ) → List (List ℕ)
  conjugated g = product K m.dim (product K m.dim rows g) q

  pub conjugates : ModuleValue
  conjugates = record { order = m.order; dim = m.dim; generators = map conjugated m.generators }

  conjugate_square : (g : List (List ℕ)) → IsSquareOver K m.dim g → IsSquareOver K m.dim (conjugated g)
  unfolding conjugated
  conjugate_square g of_g = record {
    length_is = product_length K m.dim (product K m.dim rows g) q ∙ product_length K m.dim rows g ∙ size;
    matrix = product_over_of K m.dim m.dim (product K m.dim rows g) q square_q.length_is
        (product_over_of K m.dim m.dim rows g of_g.length_is over of_g.matrix) square_q.matrix;
  }

  conjugate_matrix : (g : List (List ℕ)) → IsSquareOver K m.dim g → matrix_of K (conjugated g) ≡ conjugate F m.dim p (matrix_of K g) (matrix_of K q)
  unfolding conjugated
  conjugate_matrix g of_g =
      matrix_of_product_of K m.dim m.dim (product K m.dim rows g) q square_q.length_is
      (product_over_of K m.dim m.dim rows g of_g.length_is over of_g.matrix) square_q.matrix
      ∙ ap (λ (x : Matrix F). multiply F m.dim x (matrix_of K q)) (matrix_of_product_of K m.dim m.dim rows g of_g.length_is over of_g.matrix)

  conjugate_at : (i : ℕ) (d : List (List ℕ)) → i < length m.generators → get_or (map conjugated m.generators) i d ≡ conjugated (get_or m.generators i [])
  conjugate_at i d below = get_or-map conjugated m.generators i [] d below

  M_is : Modules.HasSquareMatrices F M
  M_is = module_shape K m.dim m.generators is.over.square

  module _ (sizes : List ℕ) (blocks : AreBlockSizes m.dim sizes) where
    square_of_blocks : (i : ℕ) (d : List (List ℕ)) → i < length m.generators → IsSquareOver K (block_start sizes (length sizes)) (get_or (map conjugated m.generators) i d)
    square_of_blocks i d below =
        subst (λ k. IsSquareOver K k (get_or (map conjugated m.generators) i d)) (sym blocks.total)
        (subst (IsSquareOver K m.dim) (sym (conjugate_at i d below)) (conjugate_square (get_or m.generators i []) (generator_over K m.dim m.generators i is.over.square below)))

    matrix_at : (i : ℕ) (d : List (List ℕ)) → i < length m.generators →
        matrix_of K (get_or (map conjugated m.generators) i d) ≡ conjugate F m.dim p (M.generator i) (matrix_of K q)
    matrix_at i d below =
        ap (matrix_of K) (conjugate_at i d below) ∙ conjugate_matrix (get_or m.generators i []) (generator_over K m.dim m.generators i is.over.square below)

    -- where the rows before each block are invariant the conjugates are block lower triangular
    pub triangular_by : IsInvariantChain F M sizes p → IsTriangularBy m (basis_of_rows m rows) sizes conjugates
    unfolding conjugates conjugated
    triangular_by chain = record {
      field = refl;
      columns = refl;
      rows = size;
      well_formed = basis_is_matrix;
      invertible = (
        record { order = m.order; cols = m.dim; rows = q },
        record { field = refl; columns = refl; square = square_q; inverts = q_inverts },
      );
      conjugate = record {
        field = refl;
        dimension = refl;
        count = length-map m.generators conjugated;
        each = λ i below. record { inverse = q; square = square_q; inverts = q_inverts; equals = equal i below };
      };
      sizes_are = blocks;
      triangular = λ i d below.
          let small : i < length m.generators = omega (arith, length-map m.generators conjugated) in
          record {
            square = square_of_blocks i d small;
            triangular = subst (Blocks.IsBlockLowerTriangular F sizes) (sym (matrix_at i d small))
                (flag_is_block_triangular F M M_is p (matrix_of K q) inverts sizes blocks chain i small);
          };
    }
      where
        equal : (i : ℕ) → i < length m.generators → get_or (map conjugated m.generators) i [] ≡ product K m.dim (product K m.dim rows (get_or m.generators i [])) q
        equal i below = conjugate_at i [] below

    -- the action on the rows of a block modulo the rows before is its diagonal block
    pub block_by : (b : ℕ) → b < length sizes → (action : ModuleValue) → IsModule action → action.order ≡ m.order → action.dim ≡ block_size sizes b →
        ActsModulo F M (block_start sizes b) p (λ s. p (block_start sizes b + s)) (module_of K action.dim action.generators) →
        IsBlockOf conjugates sizes b action
    unfolding conjugates
    block_by b below action is_action field dimension acts = record {
      well_formed = is_action;
      field = field;
      dimension = dimension;
      count = acts.count ∙ sym (length-map m.generators conjugated);
      each = λ i inside.
          let small : i < length m.generators = omega (arith, length-map m.generators conjugated) in
          record {
            square = square_of_blocks i [] small;
            diagonal_square = subst (λ k. IsSquareOver K k (get_or action.generators i [])) dimension
                (generator_over K action.dim action.generators i squares (omega (arith, acts.count)));
            block_is = subst (λ a. Blocks.IsDiagonalBlock F sizes b a (matrix_of K (get_or action.generators i []))) (sym (matrix_at i [] small))
                (section_is_diagonal_block F M M_is p (matrix_of K q) inverts sizes blocks b below D section i small);
          };
    }
      where
        D : Module F
        D = module_of K action.dim action.generators

        squares : All (IsSquareOver K action.dim) action.generators
        squares = squares_of action m.order action.dim is_action.over.square field refl

        section : IsSectionAction F M p (block_start sizes b) (block_size sizes b) D
        section = subst (λ d. IsSectionAction F M p (block_start sizes b) d D) dimension (record {
          dimension = refl;
          count = acts.count;
          square = λ i inside. (module_shape K action.dim action.generators squares).square i (subst (λ k. i < k) (sym acts.count) inside);
          acts = acts.acts;
        })

-- a conjugate has one diagonal block of a number
pub block_is_one : (conjugates : ModuleValue) (sizes : List ℕ) (b : ℕ) (x y : ModuleValue) → IsBlockOf conjugates sizes b x → IsBlockOf conjugates sizes b y → x ≡ y
block_is_one conjugates sizes b x y of_x of_y =
    same_module x y (of_x.field ∙ sym of_y.field) (of_x.dimension ∙ sym of_y.dimension)
    (same_generators K (block_size sizes b) x.generators y.generators (squares_of x conjugates.order (block_size sizes b) of_x.well_formed.over.square of_x.field of_x.dimension)
    (squares_of y conjugates.order (block_size sizes b) of_y.well_formed.over.square of_y.field of_y.dimension)
    (of_x.count ∙ sym of_y.count) (λ i below. fun_ext λ s. fun_ext λ t. at i (omega (arith, of_x.count)) s t (dec_lt s (block_size sizes b)) (dec_lt t (block_size sizes b))))
  where
    K : NumberField
    K = number_field conjugates.order

    at : (i : ℕ) → i < length conjugates.generators → (s t : ℕ) → Dec (s < block_size sizes b) → Dec (t < block_size sizes b) →
        matrix_of K (get_or x.generators i []) s t ≡ matrix_of K (get_or y.generators i []) s t
    at i below s t (yes row) (yes column) =
        (of_x.each i below).block_is.entries s t row column ∙ sym ((of_y.each i below).block_is.entries s t row column)
    at i below s t (no past) _ =
        (of_x.each i below).block_is.shape.rows s t (omega arith) ∙ sym ((of_y.each i below).block_is.shape.rows s t (omega arith))
    at i below s t (yes row) (no past) =
        (of_x.each i below).block_is.shape.columns s t (omega arith) ∙ sym ((of_y.each i below).block_is.shape.columns s t (omega arith))
