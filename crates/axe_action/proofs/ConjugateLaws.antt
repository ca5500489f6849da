-- Conjugates of generators by an invertible matrix.
use Rattle.std.specs.Prelude.{◌≡◌, ◌≢◌, ℕ, List, [], length, get_or, ◌==◌, ◌&&◌, not, Bool, true, false, Some, None, Result, Ok, if◌then◌else◌}
use Rattle.std.proofs.lemmas.Bool.{eq-eqb, ne_eqb, eqb-true}
use Rattle.std.proofs.lemmas.List.{length-map}
use Rattle.axe_algebra.specs.NumberField.{NumberField}
use Rattle.axe_algebra.specs.Lists.{IsSquareOver}
use Rattle.axe_algebra.specs.ListArithmetic.{product, IsInverse, IsConjugate}
use Rattle.axe_field.specs.Order.{Order, order_number}
use Rattle.axe_field.specs.NumberFields.{number_field}
use Rattle.axe_row.specs.Refusals.{Answers, AnswersOr, RefusedAs}
use Rattle.axe_row.specs.declared.refusals.Refusal.{Refusal}
use Rattle.axe_row.specs.declared.refusals.Refusal.TheVariants.{FieldsDiffer, ShapesDiffer, Singular}
use Rattle.axe_matrix.specs.Matrices.{MatrixValue, IsMatrix, product_refusal, matrix_product}
use Rattle.axe_field.proofs.Orders.{order_number-injective}
use Rattle.axe_matrix.proofs.ProductLaws.{length-product, product_refusal-none}
use Rattle.axe_reduction.specs.Solutions.{IsInverseMatrix, IsInvertibleMatrix}
use Rattle.axe_echelon.specs.Echelons.{inverse_refusal}
use Rattle.axe_echelon.proofs.Exits.{asked_late, answered_or}
use Rattle.axe_echelon.proofs.InverseLaws.{inverse_refusal-none}
use Rattle.axe_spin.specs.Modules.{ModuleValue, generator_of, rows_of_each, rows_refusal}
use Rattle.axe_spin.specs.Generators.{IsGeneratorMatrix}
use Rattle.axe_spin.proofs.SeedLaws.{vectors_of}
use Rattle.axe_action.specs.Actions.{conjugate_refusal, IsConjugateModule}
use Rattle.axe_action.proofs.GeneratorLists.{AreNewGenerators}
use mathlib.Core.Path.{refl, sym, ◌∙◌, ap, ap₂, subst}
use native.Mathlib.Omega.{arith}

-- the matrix is over the module's field and of its dimension
pub record IsBasisFor (m : ModuleValue) (p : MatrixValue) : Type 0 where
  pub field : p.order ≡ m.order
  pub rows : length p.rows ≡ m.dim
  pub columns : p.cols ≡ m.dim

-- then nothing refuses it
pub conjugate_accepted : (m : ModuleValue) (p : MatrixValue) → IsBasisFor m p → conjugate_refusal m p ≡ None
conjugate_accepted m p h =
    rw (eq-eqb (order_number p.order) (order_number m.order) (ap order_number h.field), eq-eqb (length p.rows) m.dim h.rows, eq-eqb p.cols m.dim h.columns) refl

-- and it is one where nothing does
pub basis_if_accepted : (m : ModuleValue) (p : MatrixValue) → conjugate_refusal m p ≡ None → IsBasisFor m p
basis_if_accepted m p none =
    let tests = passed (order_number p.order == order_number m.order) (length p.rows == m.dim) (p.cols == m.dim) none in
    record {
      field = order_number-injective p.order m.order (eqb-true (order_number p.order) (order_number m.order) tests.0);
      rows = eqb-true (length p.rows) m.dim tests.1;
      columns = eqb-true p.cols m.dim tests.2;
    }
  where
    passed : (a b c : Bool) → (if not a then Some FieldsDiffer else (if not (b && c) then Some ShapesDiffer else None)) ≡ None →
        (a ≡ true) × (b ≡ true) × (c ≡ true)
    passed true true true e = (refl, refl, refl)
    passed true true false e = cc
    passed true false c e = cc
    passed false b c e = cc

-- what refuses its rows as vectors of the module refuses it
pub refused_by_rows : (m : ModuleValue) (p : MatrixValue) (refusal : Refusal) → rows_refusal m p ≡ Some refusal → conjugate_refusal m p ≡ Some refusal
refused_by_rows m p refusal = by_tests (order_number p.order == order_number m.order) (length p.rows == m.dim) (p.cols == m.dim)
  where
    by_tests : (a b c : Bool) → (if not a then Some FieldsDiffer else (if not c then Some ShapesDiffer else None)) ≡ Some refusal →
        (if not a then Some FieldsDiffer else (if not (b && c) then Some ShapesDiffer else None)) ≡ Some refusal
    by_tests false b c e = e
    by_tests true true c e = e
    by_tests true false false e = e
    by_tests true false true e = cc

-- and else another number of them than the dimension does
pub refused_by_count : (m : ModuleValue) (p : MatrixValue) → rows_refusal m p ≡ None → length p.rows ≢ m.dim → conjugate_refusal m p ≡ Some ShapesDiffer
refused_by_count m p vectors other =
    rw (eq-eqb (order_number p.order) (order_number m.order) (ap order_number (vectors_of m p vectors).field), ne_eqb (length p.rows) m.dim other) refl

module _ (m : ModuleValue) (p q : MatrixValue) (fits : IsBasisFor m p) (inverse : IsInverseMatrix p q) where
  K : NumberField
  K = number_field m.order

  -- the rows of the conjugate of a generator
  conjugate_rows : (i : ℕ) (c : MatrixValue) → c ≡ matrix_product (matrix_product p (generator_of m i)) q →
      c.rows ≡ product K m.dim (product K m.dim p.rows (get_or m.generators i [])) q.rows
  unfolding K
  conjugate_rows i c is =
      ap (λ (x : MatrixValue). x.rows) is
      ∙ ap₂ (λ (o : Order) (n : ℕ). product (number_field o) n (product (number_field o) m.dim p.rows (get_or m.generators i [])) q.rows)
      fits.field (inverse.columns ∙ fits.columns)

  -- it is one
  pub conjugate_of_generator : (i : ℕ) (c : MatrixValue) → c ≡ matrix_product (matrix_product p (generator_of m i)) q →
      IsConjugate (number_field m.order) m.dim p.rows (get_or m.generators i []) c.rows
  unfolding K
  conjugate_of_generator i c is = record {
    inverse = q.rows;
    square = subst (λ n. IsSquareOver K n q.rows) fits.columns (subst (λ o. IsSquareOver (number_field o) p.cols q.rows) fits.field inverse.square);
    inverts = subst (λ n. IsInverse K n p.rows q.rows) fits.columns (subst (λ o. IsInverse (number_field o) p.cols p.rows q.rows) fits.field inverse.inverts);
    equals = conjugate_rows i c is;
  }

  -- and a generator
  pub conjugate_is_generator : (i : ℕ) (c : MatrixValue) → c ≡ matrix_product (matrix_product p (generator_of m i)) q → IsMatrix c →
      IsGeneratorMatrix m.order m.dim c
  unfolding K
  conjugate_is_generator i c is well_formed = record {
    field = ap (λ (x : MatrixValue). x.order) is ∙ fits.field;
    columns = ap (λ (x : MatrixValue). x.cols) is ∙ inverse.columns ∙ fits.columns;
    rows = ap (λ (l : List (List ℕ)). length l) (conjugate_rows i c is)
        ∙ length-product K m.dim (product K m.dim p.rows (get_or m.generators i [])) q.rows
        ∙ length-product K m.dim p.rows (get_or m.generators i []) ∙ fits.rows;
    well_formed = well_formed;
  }

-- the conjugates of all generators make the conjugate
pub conjugates_made : (m : ModuleValue) (p : MatrixValue) (count : ℕ) (matrices : List MatrixValue) (result : Result ModuleValue Refusal) → count ≡ length m.generators →
    AreNewGenerators m.order m.dim (λ i rows. IsConjugate (number_field m.order) m.dim p.rows (get_or m.generators i []) rows) count matrices →
    result ≡ Ok (record { order = m.order; dim = m.dim; generators = rows_of_each matrices }) → Answers None (IsConjugateModule m p) result
conjugates_made m p count matrices result all are is = rw is made
  where
    made : IsConjugateModule m p (record { order = m.order; dim = m.dim; generators = rows_of_each matrices })
    made = record {
      field = refl;
      dimension = refl;
      count = length-map matrices (λ (x : MatrixValue). x.rows) ∙ are.as_many ∙ all;
      each = λ i below. are.made i (omega arith);
    }

-- the same as the answer of a call that may refuse
pub conjugate_is : (m : ModuleValue) (p : MatrixValue) (count : ℕ) (matrices : List MatrixValue) (result : Result ModuleValue Refusal) → count ≡ length m.generators →
    IsBasisFor m p → AreNewGenerators m.order m.dim (λ i rows. IsConjugate (number_field m.order) m.dim p.rows (get_or m.generators i []) rows) count matrices →
    result ≡ Ok (record { order = m.order; dim = m.dim; generators = rows_of_each matrices }) →
    AnswersOr (conjugate_refusal m p) (IsConjugateModule m p) (RefusedAs Singular (¬ (IsInvertibleMatrix p))) result
conjugate_is m p count matrices result all fits are is =
    answered_or (conjugate_refusal m p) (IsConjugateModule m p) (IsConjugateModule m p) (RefusedAs Singular (¬ (IsInvertibleMatrix p))) result
    (conjugate_accepted m p fits) (λ conjugate made. made) (conjugates_made m p count matrices result all are is)

-- the inverse, or why there is none, of a matrix that is accepted
pub asked_inverse : (m : ModuleValue) (p : MatrixValue) (result : Result MatrixValue Refusal) → IsBasisFor m p →
    AnswersOr (inverse_refusal p) (IsInverseMatrix p) (RefusedAs Singular (¬ (IsInvertibleMatrix p))) result →
    AnswersOr None (IsInverseMatrix p) (RefusedAs Singular (¬ (IsInvertibleMatrix p))) result
asked_inverse m p result fits =
    asked_late (inverse_refusal p) (IsInverseMatrix p) (RefusedAs Singular (¬ (IsInvertibleMatrix p))) result (inverse_refusal-none p (fits.rows ∙ sym fits.columns))

-- a product of three, from those of two
pub product_of_three : (first second third product : MatrixValue) (result : Result MatrixValue Refusal) → product_refusal first second ≡ None →
    Answers (product_refusal first second) (λ whole. whole ≡ matrix_product first second) (Ok product) → third.order ≡ first.order → length third.rows ≡ second.cols →
    Answers (product_refusal product third) (λ whole. whole ≡ matrix_product product third) result →
    Answers None (λ whole. whole ≡ matrix_product (matrix_product first second) third) result
product_of_three first second third product result none answer field fits h =
    let is : product ≡ matrix_product first second = subst (λ why. Answers why (λ whole. whole ≡ matrix_product first second) (Ok product)) none answer in
    subst (λ p. Answers None (λ whole. whole ≡ matrix_product p third) result) is
    (subst (λ why. Answers why (λ whole. whole ≡ matrix_product product third) result)
    (product_refusal-none product third (ap (λ (m : MatrixValue). order_number m.order) is ∙ sym (ap order_number field))
    (ap (λ (m : MatrixValue). m.cols) is ∙ sym fits))
    h)
