-- An irreducible section is a known factor, or its form is a new one.
use Rattle.std.specs.Prelude.{◌≡◌, ℕ, ◌<◌, List, [], ◌∷◌, ◌++◌, length, get_or, slice_get, Option, Some}
use Rattle.std.proofs.lemmas.List.{length-map, map-append, get_or-map}
use Rattle.std.proofs.lemmas.Option.{slice_get_within, get_or_from_slice_get}
use Rattle.axe_algebra.specs.NumberField.{NumberField}
use Rattle.axe_algebra.specs.Field.{Field}
use Rattle.axe_algebra.specs.Spans
use Rattle.axe_algebra.specs.Actions
use Rattle.axe_algebra.specs.Irreducible
use Rattle.axe_algebra.specs.Bridge.{matrix_of, module_of}
use Rattle.axe_algebra.specs.Lists.{IsSquareOver}
use Rattle.axe_algebra.specs.ModulesOfLists.{IsSubAction, IsIrreducible, IsIsomorphism, AreIsomorphic}
use Rattle.axe_algebra.proofs.IsomorphismLaws.{isomorphic_trans}
use Rattle.axe_algebra.proofs.ListEntries.{square_shape}
use Rattle.axe_field.specs.NumberFields.{number_field, gf}
use Rattle.axe_row.specs.Rows.{RowValue}
use Rattle.axe_matrix.specs.Matrices.{MatrixValue}
use Rattle.axe_poly.specs.Polys.{PolyValue}
use Rattle.axe_spin.specs.Modules.{ModuleValue}
use Rattle.axe_spin.specs.SpinLaws.{IsIsomorphismMatrix}
use Rattle.axe_action.proofs.OneAction.{squares_of}
use Rattle.axe_norton.specs.Spaces.{IsIrreducibleModule}
use Rattle.axe_norton.proofs.TruthLaws.{rows_over_field}
use Rattle.axe_iso.specs.Forms.{FormValue, IsFormFrom}
use Rattle.axe_series.specs.Sections.{SectionValue}
use Rattle.axe_series.specs.Runs.{AreOfOthers, IsKnownAs, IsNewForm}
use Rattle.axe_series.specs.Series.{IsIsomorphicTo, factors_of_forms}
use Rattle.axe_series.proofs.IrreducibleImages.{irreducible_of_isomorphic, basis_is_isomorphism}
use Rattle.axe_series.proofs.SectionChain.{IsSectionOf, ActsBySection}
use Rattle.axe_series.proofs.Places.{last_there}
use Rattle.axe_series.proofs.Factors.{IsFactor, AreFactors, one_more_factor}
use Rattle.axe_series.proofs.LiftedSections.{TakesPlace, lifted_section, factor_takes_place, action_of_isomorphism_of_lists}
use mathlib.Core.Path.{refl, sym, ◌∙◌, ap, subst}
use native.Mathlib.Omega.{arith}

module _ (m : ModuleValue) (before : List (List ℕ)) (s : SectionValue) (of_module : IsSectionOf m s) (acts : ActsBySection m before s)
    (forms : List FormValue) (are : AreFactors m (factors_of_forms forms)) where
  abbrev K : NumberField
  K = number_field m.order

  abbrev F : Field
  F = gf m.order

  abbrev d : ℕ
  d = s.action.dim

  -- ---- a known factor

  module _ (number : ℕ) (t : MatrixValue) (known : IsKnownAs forms s.action number t) where
    pub known_factor : slice_get (factors_of_forms forms) number ≡ Some known.form.matrices
    known_factor =
        ap (λ (list : List FormValue). slice_get (factors_of_forms list) number) known.among
        ∙ ap (λ (list : List ModuleValue). slice_get list number) (map-append (λ (form : FormValue). form.matrices) known.earlier (known.form ∷ known.later))
        ∙ ap (slice_get (factors_of_forms known.earlier ++ known.form.matrices ∷ factors_of_forms known.later))
        (known.number_is ∙ sym (length-map known.earlier (λ (form : FormValue). form.matrices)))
        ∙ last_there (factors_of_forms known.earlier) known.form.matrices (factors_of_forms known.later)

    is_factor : IsFactor m known.form.matrices
    is_factor = are.each number known.form.matrices known_factor

    match : IsIsomorphismMatrix known.form.matrices s.action t
    match = known.matches.isomorphism

    isomorphism : IsIsomorphism K d known.form.matrices.generators s.action.generators t.rows
    isomorphism =
        subst (λ k. IsIsomorphism K k known.form.matrices.generators s.action.generators t.rows) (sym match.one_dimension)
        (subst (λ o. IsIsomorphism (number_field o) known.form.matrices.dim known.form.matrices.generators s.action.generators t.rows) is_factor.field match.isomorphism)

    pub known_takes_place : TakesPlace m before s (lifted_section s known.form.matrices t)
    known_takes_place =
        factor_takes_place m before s of_module acts known.form.matrices t is_factor.is_module is_factor.field (match.field ∙ is_factor.field) (sym match.one_dimension)
        isomorphism.square
        (action_of_isomorphism_of_lists K d known.form.matrices.generators s.action.generators t.rows
        (squares_of known.form.matrices m.order d is_factor.is_module.over.square is_factor.field (sym match.one_dimension)) isomorphism)
        isomorphism.isomorphism.invertible

    pub known_below : number < length (factors_of_forms forms)
    known_below = slice_get_within (factors_of_forms forms) number known.form.matrices known_factor

  -- ---- a new one

  module _ (seed word : ℕ) (poly : Option PolyValue) (v : RowValue) (form : FormValue) (irreducible : IsIrreducibleModule s.action)
      (others : AreOfOthers forms s.action) (new : IsNewForm s.action seed word poly v form) where
    from : IsFormFrom s.action seed word poly v form
    from = new.from

    form_field : form.matrices.order ≡ m.order
    form_field = from.acts.field ∙ of_module.field

    form_dimension : form.matrices.dim ≡ d
    form_dimension = from.acts.dimension ∙ from.square

    basis_square : IsSquareOver K d form.basis.rows
    basis_square = record {
      length_is = from.square;
      matrix = rows_over_field m.order d form.basis (from.standard.field ∙ of_module.field) from.standard.columns from.well_formed;
    }

    form_acts : IsSubAction K d s.action.generators form.basis.rows form.matrices.generators
    form_acts = subst (λ o. IsSubAction (number_field o) d s.action.generators form.basis.rows form.matrices.generators) of_module.field from.acts.acts

    basis_invertible : Spans.IsInvertible F d (matrix_of K form.basis.rows)
    basis_invertible = subst (λ o. Spans.IsInvertible (gf o) d (matrix_of (number_field o) form.basis.rows)) of_module.field from.invertible

    pub new_takes_place : TakesPlace m before s (lifted_section s form.matrices form.basis)
    new_takes_place =
        factor_takes_place m before s of_module acts form.matrices form.basis new.is_form.well_formed form_field (from.standard.field ∙ of_module.field)
        form_dimension basis_square form_acts basis_invertible

    new_isomorphism : Irreducible.IsIsomorphism F (module_of K d form.matrices.generators) (module_of K d s.action.generators) (matrix_of K form.basis.rows)
    new_isomorphism =
        basis_is_isomorphism F (module_of K d s.action.generators) (module_of K d form.matrices.generators) d (matrix_of K form.basis.rows) refl refl
        (square_shape K d form.basis.rows basis_square) basis_invertible
        (subst (λ k. Actions.IsSubAction F (module_of K d s.action.generators) k (matrix_of K form.basis.rows) (module_of K k form.matrices.generators)) from.square form_acts)

    form_irreducible : IsIrreducibleModule form.matrices
    form_irreducible =
        subst (λ o. IsIrreducible (number_field o) form.matrices.dim form.matrices.generators) (sym form_field)
        (subst (λ k. IsIrreducible K k form.matrices.generators) (sym form_dimension)
        (irreducible_of_isomorphic F (module_of K d form.matrices.generators) (module_of K d s.action.generators) (matrix_of K form.basis.rows) new_isomorphism
        (subst (λ o. IsIrreducible (number_field o) d s.action.generators) of_module.field irreducible)))

    -- a module that is isomorphic to the form is so to the section's action
    through_form : (factor : ModuleValue) → factor.order ≡ m.order → IsIsomorphicTo factor form.matrices → IsIsomorphicTo factor s.action
    through_form factor field iso =
        isomorphic_trans (gf factor.order) (module_of (number_field factor.order) factor.dim factor.generators)
        (module_of (number_field factor.order) form.matrices.dim form.matrices.generators) (module_of (number_field factor.order) d s.action.generators) iso
        (subst (λ o. AreIsomorphic (number_field o) form.matrices.dim form.matrices.generators d s.action.generators) (sym field)
        (subst (λ k. AreIsomorphic K k form.matrices.generators d s.action.generators) (sym form_dimension)
        (record { matrix = matrix_of K form.basis.rows; isomorphism = new_isomorphism })))

    pub new_factors : AreFactors m (factors_of_forms forms ++ form.matrices ∷ [])
    new_factors =
        one_more_factor m (factors_of_forms forms) form.matrices are
        (record { field = form_field; is_module = new.is_form.well_formed; irreducible = form_irreducible }) other
      where
        other : (i : ℕ) (factor : ModuleValue) → slice_get (factors_of_forms forms) i ≡ Some factor → ¬ (IsIsomorphicTo factor form.matrices)
        other i factor at iso =
            let below : i < length forms = omega (arith, slice_get_within (factors_of_forms forms) i factor at, length-map forms (λ (f : FormValue). f.matrices)) in
            let same : factor ≡ (get_or forms i form).matrices = sym (get_or_from_slice_get (factors_of_forms forms) i factor factor at)
            ∙ get_or-map (λ (f : FormValue). f.matrices) forms i form factor below in
            others i form below
            (subst (λ (x : ModuleValue). IsIsomorphicTo x s.action) same (through_form factor (are.each i factor at).field iso))
