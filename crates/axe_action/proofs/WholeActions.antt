-- The action on everything, over the rows of an invertible matrix: the conjugates by it.
use Rattle.std.specs.Prelude.{◌≡◌, ℕ, ◌<◌, List, [], length, get_or, None, Result}
use Rattle.std.specs.List.{All}
use Rattle.axe_algebra.specs.NumberField.{NumberField}
use Rattle.axe_algebra.specs.Field.{Field}
use Rattle.axe_algebra.specs.Vectors.{Matrix, HasShape, times}
use Rattle.axe_algebra.specs.Spans
use Rattle.axe_algebra.specs.Bridge.{field_of, matrix_of}
use Rattle.axe_algebra.specs.Lists.{IsMatrixOver, IsSquareOver}
use Rattle.axe_algebra.specs.ListArithmetic.{product, IsInverse, IsConjugate}
use Rattle.axe_algebra.specs.SpansOfLists.{IsIndependent}
use Rattle.axe_algebra.specs.ModulesOfLists.{IsInvariant, IsSubAction}
use Rattle.axe_algebra.proofs.SquareMatrices.{invertible_of_rows}
use Rattle.axe_algebra.proofs.ListEntries.{square_shape}
use Rattle.axe_algebra.proofs.ListProducts.{product_length}
use Rattle.axe_algebra.proofs.ListLaws.{matrix_of_product_of, product_over_of, product_assoc, product_identity, inverse_list}
use Rattle.axe_field.specs.NumberFields.{number_field, gf}
use Rattle.axe_row.specs.Refusals.{AnswersOr, RefusedAs}
use Rattle.axe_row.specs.declared.refusals.Refusal.{Refusal}
use Rattle.axe_row.specs.declared.refusals.Refusal.TheVariants.{Singular}
use Rattle.axe_matrix.specs.Matrices.{MatrixValue, IsMatrix}
use Rattle.axe_reduction.specs.Solutions.{IsInvertibleMatrix}
use Rattle.axe_echelon.proofs.Exits.{answered_late, asked_late}
use Rattle.axe_echelon.proofs.InverseLaws.{matrix_over}
use Rattle.axe_spin.specs.Modules.{ModuleValue, IsModule}
use Rattle.axe_action.specs.Actions.{action_late, conjugate_refusal, IsActionOverRows, IsConjugateModule}
use Rattle.axe_action.proofs.ConjugateLaws.{IsBasisFor, conjugate_accepted}
use Rattle.axe_action.proofs.SubRows.{module_rows_over}
use mathlib.Core.Path.{refl, sym, ◌∙◌, ap, subst}

module _ (K : NumberField) where
  abbrev F : Field
  F = field_of K

  module _ (n : ℕ) (p g c : List (List ℕ)) (square_p : IsSquareOver K n p) (square_g : IsSquareOver K n g) (is : IsConjugate K n p g c) where
    over_product : IsMatrixOver K n (product K n p g)
    over_product = product_over_of K n n p g square_g.length_is square_p.matrix square_g.matrix

    -- a conjugate of a square matrix is one
    pub conjugate_is_square : IsSquareOver K n c
    conjugate_is_square = subst (IsSquareOver K n) (sym is.equals) (record {
      length_is = product_length K n (product K n p g) is.inverse ∙ product_length K n p g ∙ square_p.length_is;
      matrix = product_over_of K n n (product K n p g) is.inverse is.square.length_is over_product is.square.matrix;
    })

    -- c p = p g
    pub conjugate_times_basis : product K n c p ≡ product K n p g
    conjugate_times_basis =
        ap (λ (x : List (List ℕ)). product K n x p) is.equals
        ∙ product_assoc K n n (product K n p g) is.inverse p (subst (λ k. IsMatrixOver K k (product K n p g)) (sym is.square.length_is) over_product)
        is.square.matrix square_p.length_is square_p.matrix
        ∙ ap (product K n (product K n p g)) is.inverts.left
        ∙ product_identity K n (product K n p g) over_product

    -- so row t of p times g is the combination of the rows of p with row t of c
    pub conjugate_acts : (t : ℕ) → times F n (matrix_of K p t) (matrix_of K g) ≡ times F n (matrix_of K c t) (matrix_of K p)
    conjugate_acts t =
        ap (λ (x : Matrix F). x t)
        (sym (matrix_of_product_of K n n p g square_g.length_is square_p.matrix square_g.matrix)
        ∙ ap (matrix_of K) (sym conjugate_times_basis)
        ∙ matrix_of_product_of K n n c p square_p.length_is conjugate_is_square.matrix square_p.matrix)

  -- the conjugates of the generators are the action over the rows
  pub conjugates_act : (n : ℕ) (generators : List (List (List ℕ))) (rows : List (List ℕ)) (conjugates : List (List (List ℕ))) →
      All (IsSquareOver K n) generators → IsSquareOver K n rows → length conjugates ≡ length generators →
      ((i : ℕ) → i < length generators → IsConjugate K n rows (get_or generators i []) (get_or conjugates i [])) →
      IsSubAction K n generators rows conjugates
  conjugates_act n generators rows conjugates square square_rows count each = record {
    dimension = refl;
    count = count;
    square = λ i below. subst (λ k. HasShape F k k (matrix_of K (get_or conjugates i []))) (sym square_rows.length_is)
        (square_shape K n (get_or conjugates i [])
        (conjugate_is_square n rows (get_or generators i []) (get_or conjugates i []) square_rows (square i [] below) (each i below)));
    acts = λ i t below inside.
        conjugate_acts n rows (get_or generators i []) (get_or conjugates i []) square_rows (square i [] below) (each i below) t
        ∙ ap (λ k. times F k (matrix_of K (get_or conjugates i []) t) (matrix_of K rows)) (sym square_rows.length_is);
  }

  -- a span that has an action is invariant
  pub invariant_by_action : (n : ℕ) (generators : List (List (List ℕ))) (rows : List (List ℕ)) (matrices : List (List (List ℕ))) →
      IsSubAction K n generators rows matrices → IsInvariant K n generators rows
  invariant_by_action n generators rows matrices action = record {
    images = λ t i inside below. record {
      coefficients = matrix_of K (get_or matrices i []) t;
      combines = action.acts i t below inside;
    };
  }

-- independent rows, as many as columns, are invertible
pub invertible_if_independent : (m : MatrixValue) → IsMatrix m → length m.rows ≡ m.cols → IsIndependent (number_field m.order) m.rows → IsInvertibleMatrix m
invertible_if_independent m h square independent =
    make (inverse_list K m.cols m.rows whole
    (invertible_of_rows (gf m.order) m.cols (matrix_of K m.rows) (square_shape K m.cols m.rows whole)
    (subst (λ k. Spans.IsIndependent (gf m.order) k (matrix_of K m.rows)) square independent)))
  where
    K : NumberField
    K = number_field m.order

    whole : IsSquareOver K m.cols m.rows
    whole = record { length_is = square; matrix = matrix_over m h }

    make : (b : List (List ℕ)) × IsSquareOver K m.cols b × IsInverse K m.cols m.rows b → IsInvertibleMatrix m
    make (b, square_b, inverts) = (
      record { order = m.order; cols = m.cols; rows = b },
      record {
        field = refl;
        columns = refl;
        square = square_b;
        inverts = inverts;
      },
    )

-- the conjugate by independent rows is the action over them
pub action_by_conjugate : (m : ModuleValue) (rows : MatrixValue) (result : Result ModuleValue Refusal) → IsModule m → IsMatrix rows →
    IsIndependent (number_field rows.order) rows.rows → IsBasisFor m rows →
    AnswersOr (conjugate_refusal m rows) (IsConjugateModule m rows) (RefusedAs Singular (¬ (IsInvertibleMatrix rows))) result →
    AnswersOr None (IsActionOverRows m rows) (action_late m rows) result
action_by_conjugate m rows result h rows_h independent fits answer =
    answered_late None (IsConjugateModule m rows) (IsActionOverRows m rows) (RefusedAs Singular (¬ (IsInvertibleMatrix rows))) (action_late m rows) result refl
    over_rows
    (λ refusal singular. absurd (singular.1 (invertible_if_independent rows rows_h (fits.rows ∙ sym fits.columns) independent)))
    (asked_late (conjugate_refusal m rows) (IsConjugateModule m rows) (RefusedAs Singular (¬ (IsInvertibleMatrix rows))) result (conjugate_accepted m rows fits) answer)
  where
    K : NumberField
    K = number_field m.order

    square : IsSquareOver K m.dim rows.rows
    square = record { length_is = fits.rows; matrix = module_rows_over m rows rows_h fits.field fits.columns }

    over_rows : (action : ModuleValue) → IsConjugateModule m rows action → IsActionOverRows m rows action
    over_rows action is =
        let acts : IsSubAction K m.dim m.generators rows.rows action.generators =
        conjugates_act K m.dim m.generators rows.rows action.generators h.over.square square is.count is.each in (
          invariant_by_action K m.dim m.generators rows.rows action.generators acts,
          record { field = is.field; dimension = is.dimension ∙ sym fits.rows; acts = acts },
        )
