-- The standard basis of a vector, from rows that were spun from it.
use Rattle.std.specs.Prelude.{◌≡◌, ℕ, List, [], ◌∷◌, ◌++◌, length, get_or}
use Rattle.std.proofs.lemmas.List.Elements.{All-from_get_or}
use Rattle.axe_algebra.specs.NumberField.{NumberField}
use Rattle.axe_algebra.specs.Field.{Field}
use Rattle.axe_algebra.specs.Vectors.{Vector}
use Rattle.axe_algebra.specs.Bridge.{field_of, matrix_of}
use Rattle.axe_algebra.specs.Lists.{IsVectorOver}
use Rattle.axe_algebra.specs.SpansOfLists.{IsSpanned}
use Rattle.axe_algebra.specs.ModulesOfLists.{IsStandardBasis}
use Rattle.axe_algebra.proofs.ProductLaws.{times_none}
use Rattle.axe_algebra.proofs.ElementNumbers.{element_zero, same_number, zero-below}
use Rattle.axe_algebra.proofs.ListStandard.{standard_basis_by_search}
use Rattle.axe_field.specs.Order.{Order}
use Rattle.axe_field.specs.NumberFields.{number_field}
use Rattle.axe_row.specs.Rows.{RowValue, IsRow}
use Rattle.axe_row.specs.Operations.{IsZeroVector}
use Rattle.axe_matrix.specs.Matrices.{MatrixValue}
use Rattle.axe_matrix.proofs.MatrixLaws.{same_matrix}
use Rattle.axe_echelon.proofs.StepLaws.{over_of_row}
use Rattle.axe_spin.specs.Modules.{ModuleValue, IsModule}
use Rattle.axe_spin.specs.Spinning.{IsStandardMatrix}
use Rattle.axe_spin.specs.Spun.{IsOffered, AreSpun, IsSpunMatrix}
use mathlib.Core.Logic.{inl, inr}
use mathlib.Core.Path.{refl, sym, ◌∙◌, ap, subst}
use native.Mathlib.Omega.{arith}

-- no rows span only zero
pub spanned_by_none : (K : NumberField) (v : List ℕ) → IsVectorOver K (length v) v → IsSpanned K [] v → IsZeroVector v
spanned_by_none K v over spanned =
    All-from_get_or (λ number. number ≡ 0) v 0 (λ i below.
    same_number K (get_or v i 0) 0 (over.elements i 0 below) (zero-below K)
    (ap (λ (x : Vector F). x i) (spanned.combines ∙ times_none F spanned.coefficients (matrix_of K [])) ∙ sym (element_zero K)))
  where
    F : Field
    F = field_of K

-- a vector other than zero that is offered to no rows is their first
pub offered_to_none : (none next : MatrixValue) (v : List ℕ) → none.rows ≡ [] → IsVectorOver (number_field none.order) (length v) v → ¬ (IsZeroVector v) →
    IsOffered none v next → next ≡ record none { rows = v ∷ [] }
offered_to_none none next v empty over nonzero offered = cases offered
  where
    cases : IsOffered none v next → next ≡ record none { rows = v ∷ [] }
    cases (inl (spanned, same)) =
        absurd (nonzero (spanned_by_none (number_field none.order) v over
        (subst (λ (r : List (List ℕ)). IsSpanned (number_field none.order) r v) empty spanned)))
    cases (inr (outside, same)) = same ∙ ap (λ (r : List (List ℕ)). record none { rows = r ++ v ∷ [] }) empty

pub first_is_offered : (m : ModuleValue) (vector first : RowValue) (none next : MatrixValue) (field : Order) (dim : ℕ) →
    none ≡ record { order = field; cols = dim; rows = [] } → field ≡ m.order → dim ≡ m.dim → first ≡ vector → IsRow first → vector.order ≡ m.order →
    ¬ (IsZeroVector vector.entries) → IsOffered none first.entries next → next ≡ record { order = m.order; cols = m.dim; rows = vector.entries ∷ [] }
first_is_offered m vector first none next field dim none_is field_is dim_is copied well_formed of nonzero offered =
    offered_to_none none next first.entries (ap (λ (x : MatrixValue). x.rows) none_is)
    (over_of_row none.order (length first.entries) first (ap (λ (r : RowValue). r.order) copied ∙ of ∙ sym none_order) well_formed refl)
    (λ zeros. nonzero (subst IsZeroVector (ap (λ (r : RowValue). r.entries) copied) zeros)) offered
    ∙ same_matrix _ _ none_order (ap (λ (x : MatrixValue). x.cols) none_is ∙ dim_is) (ap (λ (r : RowValue). r.entries ∷ []) copied)
  where
    none_order : none.order ≡ m.order
    none_order = ap (λ (x : MatrixValue). x.order) none_is ∙ field_is

-- rows that are spun from one vector are its standard basis
pub spun_standard : (m : ModuleValue) (v : List ℕ) (rows : List (List ℕ)) → IsModule m → AreSpun m (v ∷ []) rows →
    IsStandardBasis (number_field m.order) m.dim m.generators v rows
spun_standard m v rows is spun =
    standard_basis_by_search (number_field m.order) m.dim m.generators v rows spun.sources spun.numbers is.over.square spun.spinning.over
    (record {
      nonempty = spun.spinning.grown;
      first = spun.spinning.begins 0 (omega arith);
      independent = spun.spinning.independent;
      earlier = spun.spinning.earlier;
      number-below = spun.spinning.number-below;
      ascending = spun.spinning.ascending;
      equals = spun.spinning.equals;
    })
    (λ r i inside below.
    let found = spun.reached r i inside below in
    record { size = found.size; within = found.within; spanned = found.spanned; before = found.before })

pub standard_matrix : (m : ModuleValue) (v : RowValue) (first rows : MatrixValue) → IsModule m →
    first ≡ record { order = m.order; cols = m.dim; rows = v.entries ∷ [] } → IsSpunMatrix m first rows → IsStandardMatrix m v rows
standard_matrix m v first rows is first_is spun = record {
  field = spun.field ∙ ap (λ (x : MatrixValue). x.order) first_is;
  columns = spun.columns ∙ ap (λ (x : MatrixValue). x.cols) first_is;
  standard = spun_standard m v.entries rows.rows is (subst (λ (x : MatrixValue). AreSpun m x.rows rows.rows) first_is spun.spun);
}
