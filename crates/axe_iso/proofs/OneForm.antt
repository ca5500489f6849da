-- A vector has one form, and a module one match or none.
use Rattle.std.proofs.Common.{◌≡◌, ℕ, ◌<◌, Option, Some, None, refl, sym, ap, subst, ◌∙◌, arith}
use Rattle.axe_algebra.specs.Spans.{IsNullVector}
use Rattle.axe_algebra.specs.Bridge.{matrix_of}
use Rattle.axe_algebra.specs.ModulesOfLists.{AreIsomorphic}
use Rattle.axe_algebra.proofs.ListReduced.{space_basis_list_is_unique}
use Rattle.axe_algebra.proofs.ListStandard.{standard_basis_list_is_unique}
use Rattle.axe_echelon.proofs.OneMatrix.{over_of}
use Rattle.axe_field.specs.NumberFields.{number_field, gf}
use Rattle.axe_row.specs.Rows.{RowValue}
use Rattle.axe_matrix.specs.Matrices.{MatrixValue, IsMatrix}
use Rattle.axe_matrix.proofs.MatrixLaws.{same_matrix}
use Rattle.axe_poly.specs.Polys.{PolyValue}
use Rattle.axe_spin.specs.Modules.{ModuleValue}
use Rattle.axe_spin.specs.Spinning.{IsStandardMatrix}
use Rattle.axe_action.specs.Actions.{IsBasisAction}
use Rattle.axe_action.proofs.OneAction.{basis_action_is_one}
use Rattle.axe_iso.specs.Forms.{FormValue, IsNullSpaceOf, IsFormFrom, deciding_matrix}
use Rattle.axe_iso.specs.Matches.{HasStandardMatrices, point_row, IsFirstMatch, IsMatch}
use Rattle.axe_iso.proofs.FormLaws.{IsDecidingSpace, deciding_space}
use native.Mathlib.Decide.{dec_lt}

-- ---- the parts of a form

pub null_space_of_word_is_one : (m : ModuleValue) (seed number : ℕ) (poly : Option PolyValue) (a b : MatrixValue) → IsNullSpaceOf m seed number poly a →
    IsNullSpaceOf m seed number poly b → a ≡ b
null_space_of_word_is_one m seed number poly a b is_a is_b =
    same_matrix a b (of_a.field ∙ sym of_b.field) (of_a.columns ∙ sym of_b.columns)
    (space_basis_list_is_unique (number_field m.order)
    (IsNullVector (gf m.order) m.dim (deciding_matrix m.order m.dim m.generators seed number poly)) m.dim a.rows b.rows of_a.over of_b.over of_a.basis
    of_b.basis)
  where
    of_a : IsDecidingSpace m seed number poly a
    of_a = deciding_space m seed number poly a is_a

    of_b : IsDecidingSpace m seed number poly b
    of_b = deciding_space m seed number poly b is_b

pub standard_matrix_is_one : (m : ModuleValue) (v : RowValue) (a b : MatrixValue) → IsStandardMatrix m v a → IsMatrix a → IsStandardMatrix m v b → IsMatrix b → a ≡ b
standard_matrix_is_one m v a b first of_a second of_b =
    same_matrix a b (first.field ∙ sym second.field) (first.columns ∙ sym second.columns)
    (standard_basis_list_is_unique (number_field m.order) m.dim m.generators v.entries a.rows b.rows
    (over_of a m.order m.dim of_a first.field first.columns) (over_of b m.order m.dim of_b second.field second.columns)
    first.standard second.standard)

-- ---- forms

pub form_is_one : (m : ModuleValue) (seed number : ℕ) (poly : Option PolyValue) (v : RowValue) (a b : FormValue) → IsFormFrom m seed number poly v a →
    IsFormFrom m seed number poly v b → a ≡ b
form_is_one m seed number poly v a b first second =
    λ i. record {
      matrices = same_matrices i;
      basis = same_basis i;
      word = (first.word_is ∙ sym second.word_is) i;
      poly = (first.poly_is ∙ sym second.poly_is) i;
      seed = (first.seed_is ∙ sym second.seed_is) i;
    }
  where
    same_basis : a.basis ≡ b.basis
    same_basis = standard_matrix_is_one m v a.basis b.basis first.standard first.well_formed second.standard second.well_formed

    same_matrices : a.matrices ≡ b.matrices
    same_matrices = basis_action_is_one m a.basis a.matrices b.matrices first.standard.standard.independent
        (first.acts, first.matrices_well_formed.over.square)
        (subst (λ basis. IsBasisAction m basis b.matrices) (sym same_basis) second.acts, second.matrices_well_formed.over.square)

-- ---- matches

module _ (form : FormValue) (m : ModuleValue) where
  -- no place before that of a first match is the place of another
  not_before : (t u : MatrixValue) (first : IsFirstMatch form m t) (second : IsFirstMatch form m u) → ¬ (first.place < second.place)
  not_before t u first second before =
      second.first first.place before
      (subst (λ space. HasStandardMatrices m (point_row space first.place).entries form.matrices)
      (null_space_of_word_is_one m form.seed form.word form.poly first.space second.space first.is_space second.is_space) first.matches)

  same_place : (t u : MatrixValue) (first : IsFirstMatch form m t) (second : IsFirstMatch form m u) → first.place ≡ second.place
  same_place t u first second = cases (dec_lt first.place second.place) (dec_lt second.place first.place)
    where
      cases : Dec (first.place < second.place) → Dec (second.place < first.place) → first.place ≡ second.place
      cases (yes before) other = absurd (not_before t u first second before)
      cases (no late) (yes before) = absurd (not_before u t second first before)
      cases (no late) (no early) = omega arith

  pub first_match_is_one : (t u : MatrixValue) → IsFirstMatch form m t → IsFirstMatch form m u → t ≡ u
  first_match_is_one t u first second =
      standard_matrix_is_one m (point_row first.space first.place) t u first.standard first.well_formed
      (subst (λ place. IsStandardMatrix m (point_row first.space place) u) (sym (same_place t u first second))
      (subst (λ space. IsStandardMatrix m (point_row space second.place) u)
      (null_space_of_word_is_one m form.seed form.word form.poly second.space first.space second.is_space first.is_space) second.standard))
      second.well_formed

  pub isomorphic_by_match : (t : MatrixValue) → IsFirstMatch form m t →
      AreIsomorphic (number_field form.matrices.order) form.matrices.dim form.matrices.generators m.dim m.generators
  isomorphic_by_match t first =
      subst (λ n. AreIsomorphic (number_field form.matrices.order) form.matrices.dim form.matrices.generators n m.generators)
      (sym first.isomorphism.one_dimension)
      (record { matrix = matrix_of (number_field form.matrices.order) t.rows; isomorphism = first.isomorphism.isomorphism.isomorphism })

  pub match_is_one : (a b : Option MatrixValue) → IsMatch form m a → IsMatch form m b → a ≡ b
  match_is_one (Some t) (Some u) first second = ap Some (first_match_is_one t u first second)
  match_is_one (Some t) None first second = absurd (second (isomorphic_by_match t first))
  match_is_one None (Some u) first second = absurd (first (isomorphic_by_match u second))
  match_is_one None None first second = refl
