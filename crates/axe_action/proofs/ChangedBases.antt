-- A module over another basis of everything, made generator by generator.
use Rattle.std.specs.Prelude.{◌≡◌, ℕ, List, [], ◌∷◌, ◌++◌, length, get_or, ◌⊎◌, None, Result, Ok, Err}
use Rattle.axe_algebra.specs.ListArithmetic.{IsConjugate}
use Rattle.axe_algebra.specs.SpansOfLists.{IsIndependent}
use Rattle.axe_field.specs.NumberFields.{number_field}
use Rattle.axe_row.specs.Refusals.{Answers, AnswersOr, RefusedAs}
use Rattle.axe_row.specs.declared.refusals.Refusal.{Refusal}
use Rattle.axe_row.specs.declared.refusals.Refusal.TheVariants.{Memory, Singular}
use Rattle.axe_matrix.specs.Matrices.{MatrixValue, IsMatrix, matrix_product}
use Rattle.axe_reduction.specs.Solutions.{IsInverseMatrix, IsInvertibleMatrix}
use Rattle.axe_echelon.specs.Echelons.{inverse_refusal}
use Rattle.axe_spin.specs.Modules.{ModuleValue, IsModule, generator_of, rows_of_each}
use Rattle.axe_action.specs.Actions.{action_late, IsActionOverRows, IsBasisAction}
use Rattle.axe_action.proofs.GeneratorLists.{AreGeneratorsOf, AreNewGenerators, generators_next, next_is}
use Rattle.axe_action.proofs.ConjugateLaws.{IsBasisFor, asked_inverse, conjugate_is, conjugate_is_generator, conjugate_of_generator}
use Rattle.axe_action.proofs.WholeActions.{action_by_conjugate, invertible_if_independent}
use mathlib.Core.Logic.{inl, inr}
use mathlib.Core.Path.{refl, sym, ◌∙◌, ap, subst}

-- the rows are conjugates of the generator with that number
abbrev pub IsConjugateOf : ModuleValue → MatrixValue → ℕ → List (List ℕ) → Type 0
IsConjugateOf m p i rows = IsConjugate (number_field m.order) m.dim p.rows (get_or m.generators i []) rows

-- the next one
pub conjugate_next : (m : ModuleValue) (p q : MatrixValue) → IsBasisFor m p → IsInverseMatrix p q → (done rest : List MatrixValue) →
    AreGeneratorsOf m (done ++ rest) → (g : MatrixValue) (next : List MatrixValue) → rest ≡ g ∷ next → (c : MatrixValue) (matrices more : List MatrixValue) →
    c ≡ matrix_product (matrix_product p g) q → IsMatrix c → AreNewGenerators m.order m.dim (IsConjugateOf m p) (length done) matrices →
    more ≡ matrices ++ c ∷ [] → AreNewGenerators m.order m.dim (IsConjugateOf m p) (length (done ++ g ∷ [])) more
conjugate_next m p q fits inverse done rest are g next is c matrices more c_is formed so_far pushed =
    generators_next m.order m.dim (IsConjugateOf m p) done g matrices more c so_far pushed
    (conjugate_is_generator m p q fits inverse (length done) c at_generator formed) (conjugate_of_generator m p q fits inverse (length done) c at_generator)
  where
    at_generator : c ≡ matrix_product (matrix_product p (generator_of m (length done))) q
    at_generator = c_is ∙ ap (λ (x : MatrixValue). matrix_product (matrix_product p x) q) (next_is m done rest are g next is)

-- all of them make the module over the basis
pub basis_changed : (m : ModuleValue) (p : MatrixValue) (count : ℕ) (matrices : List MatrixValue) (result : Result ModuleValue Refusal) → IsModule m → IsMatrix p →
    IsIndependent (number_field p.order) p.rows → IsBasisFor m p → count ≡ length m.generators →
    AreNewGenerators m.order m.dim (IsConjugateOf m p) count matrices →
    result ≡ Ok (record { order = m.order; dim = m.dim; generators = rows_of_each matrices }) → Answers None (IsBasisAction m p) result
basis_changed m p count matrices result h p_h independent fits all are is = subst (Answers None (IsBasisAction m p)) (sym is) acts.1
  where
    made : Result ModuleValue Refusal
    made = Ok (record { order = m.order; dim = m.dim; generators = rows_of_each matrices })

    acts : AnswersOr None (IsActionOverRows m p) (action_late m p) made
    acts = action_by_conjugate m p made h p_h independent fits (conjugate_is m p count matrices made all fits are refl)

-- a basis is not refused as singular
pub inverse_not_refused : (m : ModuleValue) (p : MatrixValue) (refusal : Refusal) → IsMatrix p → IsIndependent (number_field p.order) p.rows → IsBasisFor m p →
    AnswersOr (inverse_refusal p) (IsInverseMatrix p) (RefusedAs Singular (¬ (IsInvertibleMatrix p))) (Err refusal) → refusal ≡ Memory
inverse_not_refused m p refusal p_h independent fits answer = at (asked_inverse m p (Err refusal) fits answer)
  where
    at : (refusal ≡ Memory) ⊎ RefusedAs Singular (¬ (IsInvertibleMatrix p)) refusal → refusal ≡ Memory
    at (inl memory) = memory
    at (inr stands) = absurd (stands.1 (invertible_if_independent p p_h (fits.rows ∙ sym fits.columns) independent))
