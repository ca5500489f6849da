-- Null spaces of deciding matrices, their points in turn, and what a match and no match show of a form and a module.
use Rattle.std.proofs.Common.{◌≡◌, ◌≢◌, ℕ, suc, ◌<◌, ◌≤◌, List, [], ◌∷◌, length, get_or, drop, Option, Some, None, Ok, sym, ap, subst, ◌∙◌, arith}
use Rattle.std.proofs.Math.Seq.{drop-cons}
use Rattle.std.proofs.lemmas.List.{length-drop}
use Rattle.axe_algebra.specs.Field.{Field}
use Rattle.axe_algebra.specs.NumberField.{NumberField}
use Rattle.axe_algebra.specs.Vectors.{Vector, Matrix, zero_vector, unit_vector}
use Rattle.axe_algebra.specs.Spans.{IsIndependent, IsNullVector}
use Rattle.axe_algebra.specs.Modules.{Module}
use Rattle.axe_algebra.specs.Modules
use Rattle.axe_algebra.specs.Reduced.{IsReducedBasisOf}
use Rattle.axe_algebra.specs.Standard.{AreStandardMatrices}
use Rattle.axe_algebra.specs.Words.{Word, IsWordOf, word_value}
use Rattle.axe_algebra.specs.Bridge.{vector_of, matrix_of, module_of}
use Rattle.axe_algebra.specs.Lists.{IsMatrixOver, IsSquareOver, IsModuleOver}
use Rattle.axe_algebra.specs.SpansOfLists.{IsReducedBasis}
use Rattle.axe_algebra.specs.ModulesOfLists.{AreIsomorphic}
use Rattle.axe_algebra.specs.PointsOfLists.{points}
use Rattle.axe_algebra.specs.PointTheorems.{IsNonzeroSpanned}
use Rattle.axe_algebra.proofs.ProductLaws.{unit_at}
use Rattle.axe_algebra.proofs.ReducedBases.{reduced_independent}
use Rattle.axe_algebra.proofs.ListEntries.{rows_length}
use Rattle.axe_algebra.proofs.ListModules.{module_shape}
use Rattle.axe_algebra.proofs.Matching.{isomorphism_keeps_nullity}
use Rattle.axe_algebra.proofs.PointSpans.{point_nonzero_spanned}
use Rattle.axe_algebra.proofs.FormMatches.{no_point_matches}
use Rattle.axe_polynomial_algebra.specs.PolynomialValues.{polynomial_value}
use Rattle.axe_polynomial_algebra.proofs.ValueLists.{value_equals}
use Rattle.axe_field.specs.Order.{order_number}
use Rattle.axe_field.specs.NumberFields.{number_field, gf}
use Rattle.axe_row.specs.Rows.{RowValue}
use Rattle.axe_matrix.specs.Matrices.{MatrixValue}
use Rattle.axe_echelon.proofs.InverseLaws.{matrix_over}
use Rattle.axe_poly.specs.Polys.{PolyValue}
use Rattle.axe_spin.specs.Modules.{ModuleValue, IsModule}
use Rattle.axe_word.specs.Words.{WordValue}
use Rattle.axe_word.specs.declared.tested.Tested.{Tested}
use Rattle.axe_word.specs.Tested.{IsTested}
use Rattle.axe_word.specs.Drawing.{drawn_word}
use Rattle.axe_word.specs.Limits.{most_points_in_turn}
use Rattle.axe_word.specs.PointsOfMatrix.{PointsLeft, point_count, points_of, GivesNext}
use Rattle.axe_word.proofs.TestedLaws.{poly_value, poly_value_field, poly_value_over}
use Rattle.axe_iso.specs.Forms.{FormValue, HasNullity, IsTestedWith, IsNullSpaceOf, IsFormOver, IsForm, deciding_matrix}
use Rattle.axe_iso.specs.Matches.{HasStandardMatrices, point_row}
use Rattle.axe_iso.specs.Following.{AreFormMatrices}
use Rattle.axe_iso.proofs.DecidingWords.{deciding_word, is_deciding_word, deciding_value}
use Rattle.axe_iso.proofs.SmallSpaces.{small_dimension, small_nullity, small_count}
use native.Mathlib.Decide.{ℕ_discrete}

-- ---- null spaces

-- the reduced basis of the null space of a matrix, as the theory has it
pub record IsSpaceOf (m : ModuleValue) (x : Matrix (gf m.order)) (space : MatrixValue) : Type 0 where
  pub field : space.order ≡ m.order
  pub columns : space.cols ≡ m.dim
  pub over : IsMatrixOver (number_field m.order) m.dim space.rows
  pub basis : IsReducedBasisOf (gf m.order) (IsNullVector (gf m.order) m.dim x) (length space.rows) (matrix_of (number_field m.order) space.rows)

-- that of a tested matrix
pub space_of_tested : (m : ModuleValue) (t : Tested) (x : Matrix (gf m.order)) → t.matrix.order ≡ m.order → IsSquareOver (number_field m.order) m.dim t.matrix.rows →
    matrix_of (number_field m.order) t.matrix.rows ≡ x → IsTested t → IsSpaceOf m x t.null_space
space_of_tested m t x order square equals is = record {
  field = field;
  columns = columns;
  over = subst (λ o. IsMatrixOver (number_field o) m.dim t.null_space.rows) field
      (subst (λ n. IsMatrixOver (number_field t.null_space.order) n t.null_space.rows) columns (matrix_over t.null_space is.well_formed));
  basis =
      subst (λ y. IsReducedBasisOf (gf m.order) (IsNullVector (gf m.order) m.dim y) (length t.null_space.rows) (matrix_of K t.null_space.rows)) equals
      (subst (λ n. IsReducedBasisOf (gf m.order) (IsNullVector (gf m.order) n (matrix_of K t.matrix.rows)) (length t.null_space.rows) (matrix_of K t.null_space.rows))
      square.length_is
      (subst (λ o. IsReducedBasisOf (gf o) (IsNullVector (gf o) (length t.matrix.rows) (matrix_of (number_field o) t.matrix.rows)) (length t.null_space.rows) (matrix_of (number_field o) t.null_space.rows))
      order is.null_space.basis_of_null_space));
}
  where
    K : NumberField
    K = number_field m.order

    field : t.null_space.order ≡ m.order
    field = is.null_space.field ∙ order

    columns : t.null_space.cols ≡ m.dim
    columns = is.null_space.columns ∙ square.length_is

-- that of the deciding matrix
abbrev pub IsDecidingSpace : ModuleValue → ℕ → ℕ → Option PolyValue → MatrixValue → Type 0
IsDecidingSpace m seed number poly space = IsSpaceOf m (deciding_matrix m.order m.dim m.generators seed number poly) space

pub deciding_space : (m : ModuleValue) (seed number : ℕ) (poly : Option PolyValue) (space : MatrixValue) → IsNullSpaceOf m seed number poly space →
    IsDecidingSpace m seed number poly space
deciding_space m seed number None space is =
    space_of_tested m (record { matrix = is.matrix; null_space = space }) _ is.is_tested.value.field is.is_tested.value.value.square
    is.is_tested.value.value.value is.is_tested.tested
deciding_space m seed number (Some p) space is =
    space_of_tested m (record { matrix = is.matrix; null_space = space }) _
    (poly_value_field m word p x is.matrix is.is_tested.is_value is.is_tested.tested_at.value)
    (poly_value_over m word p x is.matrix is.is_tested.is_value is.is_tested.tested_at.value)
    (value_equals K m.dim x.rows is.is_tested.is_value.value.square p.coefficients is.matrix.rows
    (poly_value m word p x is.matrix is.is_tested.is_value is.is_tested.tested_at.value)
    ∙ ap (polynomial_value (gf m.order) m.dim (length p.coefficients) (vector_of K p.coefficients)) is.is_tested.is_value.value.value)
    is.is_tested.tested_at.tested
  where
    K : NumberField
    K = number_field m.order

    word : WordValue
    word = drawn_word seed number (order_number m.order) (length m.generators)

    x : MatrixValue
    x = is.is_tested.argument

-- a test by a word that was drawn gives the null space
pub null_space_given : (m : ModuleValue) (seed number : ℕ) (poly : Option PolyValue) (word : WordValue) (t : Tested) →
    word ≡ drawn_word seed number (order_number m.order) (length m.generators) → IsTestedWith m word poly t → IsNullSpaceOf m seed number poly t.null_space
null_space_given m seed number poly word t drawn is = record { matrix = t.matrix; is_tested = subst (λ w. IsTestedWith m w poly t) drawn is }

module _ (m : ModuleValue) (x : Matrix (gf m.order)) (space : MatrixValue) (is : IsSpaceOf m x space) where
  abbrev K : NumberField
  K = number_field m.order

  -- the points, over the module's field and of its dimension
  pub points_in_module : points_of space ≡ points K m.dim space.rows
  points_in_module = ap (λ o. points (number_field o) space.cols space.rows) is.field ∙ ap (λ n. points K n space.rows) is.columns

  pub space_independent : IsIndependent (gf m.order) (length space.rows) (matrix_of K space.rows)
  space_independent = reduced_independent (gf m.order) (length space.rows) (matrix_of K space.rows) (length space.rows) (matrix_of K space.rows) is.basis.reduced

  pub point_in_module : (j : ℕ) → j < length (points_of space) → IsNonzeroSpanned K m.dim space.rows (get_or (points_of space) j [])
  point_in_module j inside =
      subst (λ (ps : List (List ℕ)). IsNonzeroSpanned K m.dim space.rows (get_or ps j [])) (sym points_in_module)
      (point_nonzero_spanned K m.dim space.rows j is.over space_independent (subst (λ (ps : List (List ℕ)). j < length ps) points_in_module inside))

  pub space_reduced : IsReducedBasis (number_field space.order) space.rows space.rows
  space_reduced = subst (λ o. IsReducedBasis (number_field o) space.rows space.rows) (sym is.field) is.basis.reduced

-- a null space has the dimension of a nullity
pub nullity_of_space : (m : ModuleValue) (seed number : ℕ) (poly : Option PolyValue) (space : MatrixValue) → IsNullSpaceOf m seed number poly space →
    HasNullity m.order m.dim (deciding_matrix m.order m.dim m.generators seed number poly) (length space.rows)
nullity_of_space m seed number poly space is_space = record {
  basis = matrix_of K space.rows;
  spans = record { lengths = rows_length K m.dim space.rows facts.over; forth = facts.basis.forth; back = facts.basis.back };
  independent = space_independent m _ space facts;
}
  where
    K : NumberField
    K = number_field m.order

    facts : IsDecidingSpace m seed number poly space
    facts = deciding_space m seed number poly space is_space

-- the same null space, by equal numbers of a word and equal polynomials
pub space_of_numbers : (m : ModuleValue) (seed other_seed number other_number : ℕ) (poly other_poly : Option PolyValue) (space : MatrixValue) →
    seed ≡ other_seed → number ≡ other_number → poly ≡ other_poly → IsNullSpaceOf m seed number poly space →
    IsNullSpaceOf m other_seed other_number other_poly space
space_of_numbers m seed other_seed number other_number poly other_poly space e f g is =
    subst (λ p. IsNullSpaceOf m other_seed other_number p space) g
    (subst (λ k. IsNullSpaceOf m other_seed k poly space) f (subst (λ k. IsNullSpaceOf m k number poly space) e is))

pub reduced_of_word : (m : ModuleValue) (seed number : ℕ) (poly : Option PolyValue) (space : MatrixValue) → IsNullSpaceOf m seed number poly space →
    IsReducedBasis (number_field space.order) space.rows space.rows
reduced_of_word m seed number poly space is_space = space_reduced m _ space (deciding_space m seed number poly space is_space)

-- ---- the points in turn

-- the points before those that are left don't have the form's matrices as their standard matrices
pub record AreTried (form : FormValue) (m : ModuleValue) (space : MatrixValue) (left : PointsLeft) : Type 0 where
  pub field : left.order ≡ space.order
  pub place : ℕ
  pub rest : drop place (points_of space) ≡ left.left
  pub tried : (j : ℕ) → j < place → ¬ (HasStandardMatrices m (point_row space j).entries form.matrices)

module _ (form : FormValue) (m : ModuleValue) (space : MatrixValue) where
  module _ (s t : PointsLeft) (point : RowValue) (before : AreTried form m space s) (gives : GivesNext s (Some (Ok point)) t) where
    pub tried_inside : before.place < length (points_of space)
    tried_inside = omega (arith, length-drop before.place (points_of space), ap length before.rest, ap length gives.0)

    split : get_or (points_of space) before.place [] ∷ drop (suc before.place) (points_of space) ≡ point.entries ∷ t.left
    split = sym (drop-cons (points_of space) before.place [] tried_inside) ∙ before.rest ∙ gives.0

    pub tried_point : get_or (points_of space) before.place [] ≡ point.entries
    tried_point = ap (λ (xs : List (List ℕ)). get_or xs 0 []) split

    pub tried_more : ¬ (HasStandardMatrices m point.entries form.matrices) → AreTried form m space t
    tried_more fails = record {
      field = gives.2 ∙ before.field;
      place = suc before.place;
      rest = ap (λ (xs : List (List ℕ)). drop 1 xs) split;
      tried = λ j below. at j below (ℕ_discrete j before.place);
    }
      where
        at : (j : ℕ) → j < suc before.place → Dec (j ≡ before.place) → ¬ (HasStandardMatrices m (point_row space j).entries form.matrices)
        at j below (yes e) = λ has. fails (subst (λ (v : List ℕ). HasStandardMatrices m v form.matrices) (ap (λ k. get_or (points_of space) k []) e ∙ tried_point) has)
        at j below (no other) = before.tried j (omega arith)

  pub tried_all : (s : PointsLeft) → AreTried form m space s → s.left ≡ [] →
      (j : ℕ) → j < length (points_of space) → ¬ (HasStandardMatrices m (point_row space j).entries form.matrices)
  tried_all s before none j inside =
      before.tried j (omega (arith, length-drop before.place (points_of space), ap length before.rest, ap length none))

-- ---- modules that are not isomorphic

-- two modules over one field with as many generators
module _ (a m : ModuleValue) (is_a : IsModule a) (is_m : IsModule m) (field : m.order ≡ a.order) (count : length m.generators ≡ length a.generators) where
  abbrev K' : NumberField
  K' = number_field m.order

  abbrev F : Field
  F = gf m.order

  abbrev A : Module F
  A = module_of K' a.dim a.generators

  abbrev N : Module F
  N = module_of K' m.dim m.generators

  A_is_module : Modules.HasSquareMatrices F A
  A_is_module = module_shape K' a.dim a.generators (subst (λ o. IsModuleOver (number_field o) a.dim a.generators) (sym field) is_a.over).square

  N_is_module : Modules.HasSquareMatrices F N
  N_is_module = module_shape K' m.dim m.generators is_m.over.square

  -- the deciding matrices in both are values of one word
  word_of_both : ℕ → ℕ → Option PolyValue → Word F
  word_of_both seed number poly = deciding_word m.order (length a.generators) seed number poly

  is_word_of_A : (seed number : ℕ) (poly : Option PolyValue) → IsWordOf F A (word_of_both seed number poly)
  unfolding word_of_both
  is_word_of_A seed number = is_deciding_word m.order a.dim a.generators is_a.some_generator seed number

  value_in_A : (seed number : ℕ) (poly : Option PolyValue) →
      word_value F A (word_of_both seed number poly) ≡ deciding_matrix m.order a.dim a.generators seed number poly
  unfolding word_of_both
  value_in_A seed number = deciding_value m.order a.dim a.generators is_a.some_generator seed number
      (subst (λ o. IsModuleOver (number_field o) a.dim a.generators) (sym field) is_a.over).square

  value_in_N : (seed number : ℕ) (poly : Option PolyValue) →
      word_value F N (word_of_both seed number poly) ≡ deciding_matrix m.order m.dim m.generators seed number poly
  unfolding word_of_both
  value_in_N seed number poly =
      ap (λ k. word_value F N (deciding_word m.order k seed number poly)) (sym count)
      ∙ deciding_value m.order m.dim m.generators is_m.some_generator seed number is_m.over.square poly

  -- the claim over the first module's field
  at_first_field : ¬ (AreIsomorphic K' a.dim a.generators m.dim m.generators) →
      ¬ (AreIsomorphic (number_field a.order) a.dim a.generators m.dim m.generators)
  at_first_field none iso = none (subst (λ o. AreIsomorphic (number_field o) a.dim a.generators m.dim m.generators) (sym field) iso)

  -- the null space of the second's, by that word
  space_facts : (seed number : ℕ) (poly : Option PolyValue) (space : MatrixValue) → IsNullSpaceOf m seed number poly space →
      IsSpaceOf m (word_value F N (word_of_both seed number poly)) space
  space_facts seed number poly space is_space =
      subst (λ (x : Matrix F). IsSpaceOf m x space) (sym (value_in_N seed number poly)) (deciding_space m seed number poly space is_space)

  -- modules in which the deciding matrix has null spaces of other dimensions are not isomorphic
  pub other_nullity : (seed number : ℕ) (poly : Option PolyValue) (nullity : ℕ) →
      HasNullity a.order a.dim (deciding_matrix a.order a.dim a.generators seed number poly) nullity →
      (space : MatrixValue) → IsNullSpaceOf m seed number poly space → length space.rows ≢ nullity →
      ¬ (AreIsomorphic (number_field a.order) a.dim a.generators m.dim m.generators)
  other_nullity seed number poly nullity is_nullity space is_space other = at_first_field (λ iso. other (sym
      (isomorphism_keeps_nullity F A N A_is_module N_is_module iso (word_of_both seed number poly) (is_word_of_A seed number poly)
      nullity of_a.basis (length space.rows) (matrix_of K' space.rows) of_a.spans of_a.independent
      (record { lengths = rows_length K' m.dim space.rows facts.over; forth = facts.basis.forth; back = facts.basis.back })
      (space_independent m _ space facts))))
    where
      of_a : HasNullity m.order a.dim (word_value F A (word_of_both seed number poly)) nullity
      of_a =
          subst (λ (x : Matrix F). HasNullity m.order a.dim x nullity) (sym (value_in_A seed number poly))
          (subst (λ o. HasNullity o a.dim (deciding_matrix o a.dim a.generators seed number poly) nullity) (sym field) is_nullity)

      facts : IsSpaceOf m (word_value F N (word_of_both seed number poly)) space
      facts = space_facts seed number poly space is_space

  pub other_null_space : (seed number : ℕ) (poly : Option PolyValue) (mine theirs : MatrixValue) → IsNullSpaceOf a seed number poly mine →
      IsNullSpaceOf m seed number poly theirs → length theirs.rows ≢ length mine.rows →
      ¬ (AreIsomorphic (number_field a.order) a.dim a.generators m.dim m.generators)
  other_null_space seed number poly mine theirs of_a of_m =
      other_nullity seed number poly (length mine.rows) (nullity_of_space a seed number poly mine of_a) theirs of_m

  pub other_dimension : m.dim ≢ a.dim → ¬ (AreIsomorphic (number_field a.order) a.dim a.generators m.dim m.generators)
  other_dimension other iso = other (sym iso.isomorphism.dimension)

-- ---- no match

module _ (form : FormValue) (m : ModuleValue) (is_form : IsForm form) (is_module : IsModule m) (field : m.order ≡ form.matrices.order)
    (count : length m.generators ≡ length form.matrices.generators) (space : MatrixValue)
    (is_space : IsNullSpaceOf m form.seed form.word form.poly space) where
  abbrev F' : Field
  F' = gf m.order

  form_facts : IsFormOver m.order form.matrices.dim form.matrices.generators form.seed form.word form.poly
  form_facts = subst (λ o. IsFormOver o form.matrices.dim form.matrices.generators form.seed form.word form.poly) (sym field) is_form.over

  form_word : Word F'
  form_word = word_of_both form.matrices m is_form.well_formed is_module field count form.seed form.word form.poly

  facts' : IsSpaceOf m (word_value F' (module_of (number_field m.order) m.dim m.generators) form_word) space
  unfolding form_word
  facts' = space_facts form.matrices m is_form.well_formed is_module field count form.seed form.word form.poly space is_space

  -- a null space with more points than are gone over is another than a form's
  pub more_points : ¬ (point_count (order_number m.order) (length space.rows) ≤ most_points_in_turn) →
      ¬ (AreIsomorphic (number_field form.matrices.order) form.matrices.dim form.matrices.generators m.dim m.generators)
  more_points more =
      other_nullity form.matrices m is_form.well_formed is_module field count form.seed form.word form.poly nullity
      (small_nullity form.matrices.order form.seed form.word form.matrices.dim form.matrices.generators form.poly is_form.over.small) space is_space
      (λ e. more (few e))
    where
      nullity : ℕ
      nullity = small_dimension form.matrices.order form.seed form.word form.matrices.dim form.matrices.generators form.poly is_form.over.small

      few : length space.rows ≡ nullity → point_count (order_number m.order) (length space.rows) ≤ most_points_in_turn
      few e =
          subst (λ n. n ≤ most_points_in_turn)
          (sym (ap (λ o. point_count (order_number o) (length space.rows)) field ∙ ap (point_count (order_number form.matrices.order)) e))
          (small_count form.matrices.order form.seed form.word form.matrices.dim form.matrices.generators form.poly is_form.over.small)

  unit-nonzero : unit_vector F' 0 ≢ zero_vector F'
  unit-nonzero e = F'.one-not-zero (sym (unit_at F' 0) ∙ ap (λ (x : Vector F'). x 0) e)

  pub no_match : ((j : ℕ) → j < length (points_of space) → ¬ (HasStandardMatrices m (point_row space j).entries form.matrices)) →
      ¬ (AreIsomorphic (number_field form.matrices.order) form.matrices.dim form.matrices.generators m.dim m.generators)
  unfolding form_word
  no_match none = at_first_field form.matrices m is_form.well_formed is_module field count
      (no_point_matches (number_field m.order) (module_of (number_field m.order) form.matrices.dim form.matrices.generators)
      (module_of (number_field m.order) m.dim m.generators) (A_is_module form.matrices m is_form.well_formed is_module field count)
      (N_is_module form.matrices m is_form.well_formed is_module field count)
      form_word (is_word_of_A form.matrices m is_form.well_formed is_module field count form.seed form.word form.poly) (unit_vector F' 0) unit-nonzero
      (subst (λ (x : Matrix F'). IsNullVector F' form.matrices.dim x (unit_vector F' 0))
      (sym (value_in_A form.matrices m is_form.well_formed is_module field count form.seed form.word form.poly)) form_facts.null) form_facts.standard
      space.rows facts'.over facts'.basis.back
      (subst (λ (ps : List (List ℕ)). (j : ℕ) → j < length ps →
      ¬ (AreStandardMatrices F' (module_of (number_field m.order) m.dim m.generators) (vector_of (number_field m.order) (get_or ps j []))
      (module_of (number_field m.order) form.matrices.dim form.matrices.generators)))
      (points_in_module m _ space facts') none))

-- ---- matrices that are followed

-- the form's matrices, for a module of their dimension
pub form_matrices : (form : FormValue) (m : ModuleValue) → IsForm form → m.order ≡ form.matrices.order → length m.generators ≡ length form.matrices.generators →
    m.dim ≡ form.matrices.dim → AreFormMatrices m form.matrices
form_matrices form m is_form field count dimension = record {
  well_formed = is_form.well_formed;
  field = sym field;
  dimension = sym dimension;
  count = sym count;
  own = is_form.over.standard;
}
