-- A form of a constituent is one of another exactly where the two are isomorphic.
use Rattle.std.proofs.Common.{◌≡◌, ℕ, ◌+◌, ◌<◌, List, [], length, get_or, All, Option, Some, None, true, false, refl, sym, ap, subst, ◌∙◌, arith}
use Rattle.std.specs.Option.{is_some}
use Rattle.std.proofs.lemmas.List.{get_or_default, get_or-map}
use Rattle.axe_report.specs.Reports.{FactorValue, names}
use Rattle.axe_algebra.specs.NumberField.{NumberField}
use Rattle.axe_algebra.specs.Field.{Field}
use Rattle.axe_algebra.specs.Modules.{HasSquareMatrices}
use Rattle.axe_algebra.specs.Actions
use Rattle.axe_algebra.specs.Irreducible
use Rattle.axe_algebra.specs.Bridge.{matrix_of, module_of}
use Rattle.axe_algebra.specs.Lists.{IsSquareOver}
use Rattle.axe_algebra.specs.ModulesOfLists.{AreIsomorphic}
use Rattle.axe_algebra.proofs.IsomorphismLaws.{isomorphic_trans, isomorphic_sym}
use Rattle.axe_algebra.proofs.ListEntries.{square_shape}
use Rattle.axe_algebra.proofs.ListModules.{module_shape}
use Rattle.axe_field.specs.NumberFields.{number_field, gf}
use Rattle.axe_matrix.specs.Matrices.{MatrixValue}
use Rattle.axe_spin.specs.Modules.{ModuleValue, IsModule}
use Rattle.axe_action.proofs.OneAction.{squares_of}
use Rattle.axe_norton.proofs.TruthLaws.{rows_over_field}
use Rattle.axe_iso.specs.Forms.{FormValue, IsFormFrom}
use Rattle.axe_iso.specs.Matches.{IsMatch}
use Rattle.axe_iso.proofs.OneForm.{isomorphic_by_match}
use Rattle.axe_series.specs.Series.{IsIsomorphicTo}
use Rattle.axe_series.proofs.IrreducibleImages.{basis_is_isomorphism}
use Rattle.axe_check.specs.Steps.{IsFormOf, AreIsomorphicAt, IsApartTo}
use native.Mathlib.Decide.{ℕ_discrete}

module _ (m : ModuleValue) (form : FormValue) (is : IsModule m) (of : IsFormOf m form) where
  abbrev K : NumberField
  K = number_field m.order

  abbrev F : Field
  F = gf m.order

  abbrev d : ℕ
  d = m.dim

  from : IsFormFrom m form.seed form.word of.poly of.vector form
  from = of.from

  pub form_field : form.matrices.order ≡ m.order
  form_field = from.acts.field

  form_dimension : form.matrices.dim ≡ d
  form_dimension = from.acts.dimension ∙ from.square

  basis_square : IsSquareOver K d form.basis.rows
  basis_square = record {
    length_is = from.square;
    matrix = rows_over_field m.order d form.basis from.standard.field from.standard.columns from.well_formed;
  }

  isomorphism : Irreducible.IsIsomorphism F (module_of K d form.matrices.generators) (module_of K d m.generators) (matrix_of K form.basis.rows)
  isomorphism =
      basis_is_isomorphism F (module_of K d m.generators) (module_of K d form.matrices.generators) d (matrix_of K form.basis.rows) refl refl
      (square_shape K d form.basis.rows basis_square) from.invertible
      (subst (λ k. Actions.IsSubAction F (module_of K d m.generators) k (matrix_of K form.basis.rows) (module_of K k form.matrices.generators)) from.square
      from.acts.acts)

  to_module : Irreducible.AreIsomorphic F (module_of K d form.matrices.generators) (module_of K d m.generators)
  to_module = record { matrix = matrix_of K form.basis.rows; isomorphism = isomorphism }

  form_shape : HasSquareMatrices F (module_of K d form.matrices.generators)
  form_shape = module_shape K d form.matrices.generators
      (squares_of form.matrices m.order d from.matrices_well_formed.over.square form_field form_dimension)

  to_form : Irreducible.AreIsomorphic F (module_of K d m.generators) (module_of K d form.matrices.generators)
  to_form =
      isomorphic_sym F (module_of K d form.matrices.generators) (module_of K d m.generators) form_shape (module_shape K d m.generators is.over.square)
      to_module

  module _ (other : ModuleValue) where
    -- what is isomorphic to the form's matrices, over the module's field and of its dimension
    here : AreIsomorphic (number_field form.matrices.order) form.matrices.dim form.matrices.generators other.dim other.generators →
        AreIsomorphic K d form.matrices.generators other.dim other.generators
    here iso =
        subst (λ k. AreIsomorphic K k form.matrices.generators other.dim other.generators) form_dimension
        (subst (λ o. AreIsomorphic (number_field o) form.matrices.dim form.matrices.generators other.dim other.generators) form_field iso)

    there : AreIsomorphic K d form.matrices.generators other.dim other.generators →
        AreIsomorphic (number_field form.matrices.order) form.matrices.dim form.matrices.generators other.dim other.generators
    there iso =
        subst (λ o. AreIsomorphic (number_field o) form.matrices.dim form.matrices.generators other.dim other.generators) (sym form_field)
        (subst (λ k. AreIsomorphic K k form.matrices.generators other.dim other.generators) (sym form_dimension) iso)

    pub matched_is_isomorphic : (t : MatrixValue) → IsMatch form other (Some t) → IsIsomorphicTo m other
    matched_is_isomorphic t match =
        isomorphic_trans F (module_of K d m.generators) (module_of K d form.matrices.generators) (module_of K other.dim other.generators) to_form
        (here (isomorphic_by_match form other t match))

    pub unmatched_is_not : IsMatch form other None → ¬ (IsIsomorphicTo m other)
    unmatched_is_not none iso =
        none (there
        (isomorphic_trans F (module_of K d form.matrices.generators) (module_of K d m.generators) (module_of K other.dim other.generators) to_module iso))

-- ---- the same of a list of constituents

module _ (factors : List ModuleValue) (first second : ℕ) (other : ModuleValue) (form : FormValue) (are : All IsModule factors) (less : first < second)
    (inside : second < length factors) (other_is : other ≡ get_or factors second other) (of : (d : ModuleValue) → IsFormOf (get_or factors first d) form) where
  abbrev one : ModuleValue
  one = get_or factors first other

  is_one : IsModule one
  is_one = are first other (omega (arith, less, inside))

  pub matched_pair : (t : MatrixValue) → IsMatch form other (Some t) → AreIsomorphicAt factors first second
  matched_pair t match d e =
      let here : IsIsomorphicTo one other = matched_is_isomorphic one form is_one (of other) other t match in
      subst (λ (x : ModuleValue). IsIsomorphicTo x (get_or factors second e)) (get_or_default factors first other d (omega (arith, less, inside)))
      (subst (IsIsomorphicTo one) (other_is ∙ get_or_default factors second other e inside) here)

  pub pair_apart : IsMatch form other None → IsApartTo factors first second → IsApartTo factors first (second + 1)
  pair_apart none apart k later before same = cases (ℕ_discrete k second)
    where
      cases : Dec (k ≡ second) → ⊥
      cases (no earlier) = apart k later (omega arith) same
      cases (yes here) =
          unmatched_is_not one form is_one (of other) other none
          (subst (IsIsomorphicTo one) (sym other_is) (subst (λ n. AreIsomorphicAt factors first n) here same other other))

  pub matched_some : (answer : Option MatrixValue) → true ≡ is_some answer → IsMatch form other answer → AreIsomorphicAt factors first second
  matched_some None some match = absurd cc
  matched_some (Some t) some match = matched_pair t match

  pub matched_none : (answer : Option MatrixValue) → false ≡ is_some answer → IsMatch form other answer → IsApartTo factors first second →
      IsApartTo factors first (second + 1)
  matched_none None none match apart = pair_apart match apart
  matched_none (Some t) none match apart = absurd cc

-- the name that stands at a number
pub name_read : (reported : List FactorValue) (number : ℕ) (one : FactorValue) → number < length reported → one ≡ get_or reported number one →
    one.name ≡ get_or (names reported) number []
name_read reported number one below is =
    ap (λ (f : FactorValue). f.name) is ∙ sym (get_or-map (λ (f : FactorValue). f.name) reported number one [] below)
