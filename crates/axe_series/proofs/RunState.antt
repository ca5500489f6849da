-- What holds while a composition series is looked for: what is found and the sections still to be decided are one chain,
-- whose rows are a basis, and what is found is placed by irreducible factors.
use Rattle.std.specs.Prelude.{◌≡◌, ℕ, List, [], ◌∷◌, ◌++◌, length}
use Rattle.std.proofs.lemmas.List.{length-append, append_assoc, append-nil}
use Rattle.axe_algebra.specs.NumberField.{NumberField}
use Rattle.axe_algebra.specs.Field.{Field}
use Rattle.axe_algebra.specs.Vectors.{Matrix}
use Rattle.axe_algebra.specs.Spans
use Rattle.axe_algebra.specs.Bridge.{matrix_of, module_of}
use Rattle.axe_algebra.specs.ListArithmetic.{identity}
use Rattle.axe_algebra.specs.SpansOfLists.{SpansEverything}
use Rattle.axe_algebra.proofs.ProductLaws.{times_identity}
use Rattle.axe_algebra.proofs.Sections.{ActsModulo}
use Rattle.axe_algebra.proofs.Sections
use Rattle.axe_algebra.proofs.ListProducts.{identity_length, identity_over, matrix_of_identity}
use Rattle.axe_algebra.proofs.ListModules.{module_shape}
use Rattle.axe_field.specs.NumberFields.{number_field, gf}
use Rattle.axe_spin.specs.Modules.{ModuleValue, IsModule}
use Rattle.axe_iso.specs.Forms.{FormValue}
use Rattle.axe_series.specs.Sections.{SectionValue, whole_section, rows_of_sections}
use Rattle.axe_series.specs.Runs.{FoundValue, nothing_found}
use Rattle.axe_series.specs.Series.{AreInOrderOfAppearance, factors_of_forms}
use Rattle.axe_series.proofs.AppendedRows.{IsWithin, within_refl, within_appended, spans_more}
use Rattle.axe_series.proofs.SectionChain.{IsSectionOf, ActsBySection, IsChain, chain_within, chain_appended, rows_appended}
use Rattle.axe_series.proofs.Places.{nothing_appears}
use Rattle.axe_series.proofs.Factors.{AreFactors, ArePlaced, no_factors}
use Rattle.axe_series.proofs.LiftedSections.{TakesPlace}
use Rattle.axe_series.proofs.CutSections.{TakePlace}
use mathlib.Core.Path.{refl, sym, ◌∙◌, ap, subst}
use native.Mathlib.Omega.{arith}

pub record IsState (m : ModuleValue) (sections : List SectionValue) (found : FoundValue) : Type 0 where
  pub done : List SectionValue
  pub rows_are : found.rows ≡ rows_of_sections done
  pub done_chain : IsChain m [] done
  pub chain : IsChain m found.rows sections
  pub size : length (found.rows ++ rows_of_sections sections) ≡ m.dim
  pub spans : SpansEverything (number_field m.order) m.dim (found.rows ++ rows_of_sections sections)
  pub placed : ArePlaced (factors_of_forms found.forms) done found.places
  pub factors : AreFactors m (factors_of_forms found.forms)
  pub order : AreInOrderOfAppearance (length (factors_of_forms found.forms)) found.places

-- at the beginning the whole module is to be decided
module _ (m : ModuleValue) (is : IsModule m) where
  abbrev K : NumberField
  K = number_field m.order

  abbrev F : Field
  F = gf m.order

  whole_of_module : IsSectionOf m (whole_section m)
  whole_of_module = record {
    field = refl;
    is_module = is;
    rows_field = refl;
    columns = refl;
    size = identity_length K m.dim;
    over = identity_over K m.dim;
  }

  whole_acts : ActsBySection m [] (whole_section m)
  whole_acts =
      subst (λ (r : Matrix F). ActsModulo F (module_of K m.dim m.generators) 0 (matrix_of K []) r (module_of K m.dim m.generators)) (sym (matrix_of_identity K m.dim))
      (Sections.whole_section F (module_of K m.dim m.generators) (module_shape K m.dim m.generators is.over.square) (matrix_of K []))

  identity_spans : SpansEverything K m.dim (identity m.dim)
  identity_spans x long =
      subst (λ k. Spans.InSpan F k (matrix_of K (identity m.dim)) x) (sym (identity_length K m.dim))
      (subst (λ (v : Matrix F). Spans.InSpan F m.dim v x) (sym (matrix_of_identity K m.dim))
      (record { coefficients = x; combines = sym (times_identity F m.dim x long) }))

  pub first_state : IsState m (whole_section m ∷ []) nothing_found
  first_state = record {
    done = [];
    rows_are = refl;
    done_chain = tt;
    chain = (whole_of_module, whole_acts, tt);
    size = ap length (append-nil (identity m.dim)) ∙ identity_length K m.dim;
    spans = subst (SpansEverything K m.dim) (sym (append-nil (identity m.dim))) identity_spans;
    placed = tt;
    factors = no_factors m;
    order = nothing_appears;
  }

module _ (m : ModuleValue) (s : SectionValue) (rest : List SectionValue) (found : FoundValue) (state : IsState m (s ∷ rest) found) where
  -- the two sections of a cut take the section's place
  pub state_after_cut : (sub quotient : SectionValue) → TakePlace m found.rows s sub quotient → IsState m (sub ∷ quotient ∷ rest) found
  state_after_cut sub quotient take = record {
    done = state.done;
    rows_are = state.rows_are;
    done_chain = state.done_chain;
    chain = (take.sub_of_module, take.sub_acts, (take.quotient_of_module, take.quotient_acts, further));
    size =
        omega (
          arith,
          state.size,
          take.as_many,
          length-append found.rows (s.rows.rows ++ r),
          length-append s.rows.rows r,
          length-append found.rows (sub.rows.rows ++ (quotient.rows.rows ++ r)),
          length-append sub.rows.rows (quotient.rows.rows ++ r),
          length-append quotient.rows.rows r,
        );
    spans = spans_more (number_field m.order) m.dim (found.rows ++ (s.rows.rows ++ r)) (found.rows ++ (sub.rows.rows ++ (quotient.rows.rows ++ r))) within state.spans;
    placed = state.placed;
    factors = state.factors;
    order = state.order;
  }
    where
      r : List (List ℕ)
      r = rows_of_sections rest

      further : IsChain m ((found.rows ++ sub.rows.rows) ++ quotient.rows.rows) rest
      further = chain_within m (found.rows ++ s.rows.rows) ((found.rows ++ sub.rows.rows) ++ quotient.rows.rows) rest
          (subst (IsWithin (number_field m.order) (found.rows ++ s.rows.rows)) (sym (append_assoc found.rows sub.rows.rows quotient.rows.rows))
          (within_appended (number_field m.order) found.rows s.rows.rows found.rows (sub.rows.rows ++ quotient.rows.rows)
          (within_refl (number_field m.order) found.rows) take.within))
          state.chain.2

      within : IsWithin (number_field m.order) (found.rows ++ (s.rows.rows ++ r)) (found.rows ++ (sub.rows.rows ++ (quotient.rows.rows ++ r)))
      within =
          within_appended (number_field m.order) found.rows (s.rows.rows ++ r) found.rows (sub.rows.rows ++ (quotient.rows.rows ++ r))
          (within_refl (number_field m.order) found.rows)
          (subst (IsWithin (number_field m.order) (s.rows.rows ++ r)) (append_assoc sub.rows.rows quotient.rows.rows r)
          (within_appended (number_field m.order) s.rows.rows r (sub.rows.rows ++ quotient.rows.rows) r take.within (within_refl (number_field m.order) r)))

  -- the section is placed, by the section of a factor that takes its place
  pub state_after_place : (lifted : SectionValue) (forms : List FormValue) (places : List ℕ) → TakesPlace m found.rows s lifted →
      ArePlaced (factors_of_forms forms) (state.done ++ lifted ∷ []) places → AreFactors m (factors_of_forms forms) →
      AreInOrderOfAppearance (length (factors_of_forms forms)) places →
      IsState m rest (record { rows = found.rows ++ lifted.rows.rows; forms = forms; places = places })
  state_after_place lifted forms places take placed factors order = record {
    done = state.done ++ lifted ∷ [];
    rows_are =
        ap (λ (rows : List (List ℕ)). rows ++ lifted.rows.rows) state.rows_are
        ∙ ap (λ (rows : List (List ℕ)). rows_of_sections state.done ++ rows) (sym (append-nil lifted.rows.rows))
        ∙ sym (rows_appended m state.done (lifted ∷ []));
    done_chain = chain_appended m [] state.done (lifted ∷ []) state.done_chain
        (take.of_module, subst (λ (rows : List (List ℕ)). ActsBySection m rows lifted) state.rows_are take.acts, tt);
    chain = chain_within m (found.rows ++ s.rows.rows) (found.rows ++ lifted.rows.rows) rest
        (within_appended (number_field m.order) found.rows s.rows.rows found.rows lifted.rows.rows (within_refl (number_field m.order) found.rows) take.within)
        state.chain.2;
    size =
        omega (
          arith,
          state.size,
          take.as_many,
          length-append found.rows (s.rows.rows ++ r),
          length-append s.rows.rows r,
          length-append (found.rows ++ lifted.rows.rows) r,
          length-append found.rows lifted.rows.rows,
        );
    spans = spans_more (number_field m.order) m.dim (found.rows ++ (s.rows.rows ++ r)) ((found.rows ++ lifted.rows.rows) ++ r) within state.spans;
    placed = placed;
    factors = factors;
    order = order;
  }
    where
      r : List (List ℕ)
      r = rows_of_sections rest

      within : IsWithin (number_field m.order) (found.rows ++ (s.rows.rows ++ r)) ((found.rows ++ lifted.rows.rows) ++ r)
      within = subst (IsWithin (number_field m.order) (found.rows ++ (s.rows.rows ++ r))) (sym (append_assoc found.rows lifted.rows.rows r))
          (within_appended (number_field m.order) found.rows (s.rows.rows ++ r) found.rows (lifted.rows.rows ++ r) (within_refl (number_field m.order) found.rows)
          (within_appended (number_field m.order) s.rows.rows r lifted.rows.rows r take.within (within_refl (number_field m.order) r)))
