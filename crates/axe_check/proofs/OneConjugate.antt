-- A basis gives one conjugate of a module.
use Rattle.std.proofs.Common.{◌≡◌, ℕ, ◌<◌, List, [], length, get_or, Option, Some, None, Ok, refl, sym, ap, subst, ◌∙◌, ext_get_or, arith}
use Rattle.axe_algebra.specs.NumberField.{NumberField}
use Rattle.axe_algebra.specs.Bridge.{field_of, matrix_of}
use Rattle.axe_algebra.specs.Lists.{IsSquareOver}
use Rattle.axe_algebra.specs.ListArithmetic.{product, IsConjugate}
use Rattle.axe_algebra.proofs.ListEntries.{same_matrix}
use Rattle.axe_algebra.proofs.ListLaws.{inverse_of_lists}
use Rattle.axe_algebra.proofs.SquareMatrices.{inverse_is_unique}
use Rattle.axe_field.specs.NumberFields.{number_field}
use Rattle.axe_matrix.specs.Matrices.{MatrixValue, IsMatrix}
use Rattle.axe_row.specs.Refusals.{AnswersOr}
use Rattle.axe_row.specs.declared.refusals.Refusal.{Refusal}
use Rattle.axe_algebra.specs.ListArithmetic.{IsInverse}
use Rattle.axe_spin.specs.Modules.{ModuleValue, IsModule}
use Rattle.axe_action.specs.Actions.{IsConjugateModule, conjugate_refusal}
use Rattle.axe_action.proofs.ConjugateLaws.{basis_if_accepted}
use Rattle.axe_check.specs.Certificates.{IsBasisOf}
use Rattle.axe_action.proofs.OneAction.{same_module}
use Rattle.axe_norton.proofs.TruthLaws.{rows_over_field}

-- a square matrix has one conjugate by another
conjugate_list_is_one : (K : NumberField) (n : ℕ) (p g c d : List (List ℕ)) → IsSquareOver K n p → IsConjugate K n p g c → IsConjugate K n p g d → c ≡ d
conjugate_list_is_one K n p g c d square first second =
    first.equals ∙ ap (product K n (product K n p g)) inverses ∙ sym second.equals
  where
    inverses : first.inverse ≡ second.inverse
    inverses =
        same_matrix K n first.inverse second.inverse (first.square.length_is ∙ sym second.square.length_is) first.square.matrix second.square.matrix
        (inverse_is_unique (field_of K) n (matrix_of K p) (matrix_of K first.inverse) (matrix_of K second.inverse)
        (inverse_of_lists K n p first.inverse square first.square first.inverts) (inverse_of_lists K n p second.inverse square second.square second.inverts))

-- the matrix is square over the module's field
pub square_basis : (m : ModuleValue) (p : MatrixValue) → p.order ≡ m.order → length p.rows ≡ m.dim → p.cols ≡ m.dim → IsMatrix p →
    IsSquareOver (number_field m.order) m.dim p.rows
square_basis m p field rows columns formed = record { length_is = rows; matrix = rows_over_field m.order m.dim p field columns formed }

pub conjugate_is_one : (m : ModuleValue) (p : MatrixValue) (a b : ModuleValue) → IsSquareOver (number_field m.order) m.dim p.rows →
    IsConjugateModule m p a → IsConjugateModule m p b → a ≡ b
conjugate_is_one m p a b square first second =
    same_module a b (first.field ∙ sym second.field) (first.dimension ∙ sym second.dimension)
    (ext_get_or [] a.generators b.generators (first.count ∙ sym second.count) (λ i below.
    let small : i < length m.generators = omega (arith, below, first.count) in
    conjugate_list_is_one (number_field m.order) m.dim p.rows (get_or m.generators i []) (get_or a.generators i []) (get_or b.generators i []) square
    (first.each i small) (second.each i small)))

-- a value that is answered was not refused
answered : {T : Type 0} (why : Option Refusal) (P : T → Type 0) (late : Refusal → Type 0) (value : T) → AnswersOr why P late (Ok value) →
    (why ≡ None) × P value
answered (Some refusal) P late value answer = absurd cc
answered None P late value answer = (refl, answer)

-- so a matrix by which there is a conjugate is a basis
pub basis_of_conjugate : (m : ModuleValue) (p : MatrixValue) (late : Refusal → Type 0) (conjugates : ModuleValue) → IsModule m →
    AnswersOr (conjugate_refusal m p) (IsConjugateModule m p) late (Ok conjugates) → IsBasisOf m p × IsConjugateModule m p conjugates
basis_of_conjugate m p late conjugates is answer =
    let (none, conjugate) = answered (conjugate_refusal m p) (IsConjugateModule m p) late conjugates answer in
    let fits = basis_if_accepted m p none in
    let first = conjugate.each 0 (omega (arith, is.some_generator)) in (
      record {
        field = fits.field;
        rows = fits.rows;
        columns = fits.columns;
        invertible = (
          record { order = p.order; cols = p.cols; rows = first.inverse },
          record {
            field = refl;
            columns = refl;
            square =
                subst (λ o. IsSquareOver (number_field o) p.cols first.inverse) (sym fits.field)
                (subst (λ n. IsSquareOver (number_field m.order) n first.inverse) (sym fits.columns) first.square);
            inverts =
                subst (λ o. IsInverse (number_field o) p.cols p.rows first.inverse) (sym fits.field)
                (subst (λ n. IsInverse (number_field m.order) n p.rows first.inverse) (sym fits.columns) first.inverts);
          },
        );
      },
      conjugate,
    )
