-- What is true of the answer of `chop`, by the laws of composition series.
use Rattle.std.proofs.Common.{◌≡◌, ℕ, ◌≤◌, map, Result, Ok, Err, sym, ap, subst, ◌∙◌}
use Rattle.std.specs.Result.{IsErrAnd}
use mathlib.Core.List.{map-map}
use Rattle.indexmap.specs.IndexMap.{values}
use Rattle.axe_field.specs.Order.{order_number}
use Rattle.axe_matrix.specs.Matrices.{MatrixValue, IsMatrix}
use Rattle.axe_spin.specs.Modules.{ModuleValue, IsModule}
use Rattle.axe_word.specs.PointsOfMatrix.{point_count, most_points}
use Rattle.axe_iso.specs.Forms.{FormValue}
use Rattle.axe_series.specs.Runs.{complete, open_section}
use Rattle.axe_series.specs.Series.{IsSeries, IsOpenSection, basis_of_rows, factors_of_forms}
use Rattle.axe_series.proofs.RunLaws.{runs_are_true}
use Rattle.axe_series.proofs.FewPoints.{small_has_a_series}
use Rattle.axe_chop.specs.Chopped.{IsNamed}
use Rattle.axe_chop.specs.Searches.{found_value, IsSearched}
use Rattle.axe_chop.specs.Answers.{IsChopped, IsUndecided, AnswersChop, IsTrueAnswer, IsNotUndecided, factor_modules}
use Rattle.axe_chop.specs.declared.found.Found
use Rattle.axe_chop.specs.declared.fault.ChopFault.{ChopFault}
use Rattle.axe_chop.specs.declared.fault.ChopFault.TheVariants.{Undecided, Memory}
use Rattle.axe_chop.specs.declared.search.Searched.TheVariants.{Complete, Open}
use Rattle.axe_chop.specs.declared.chopped.Factor.{Factor}
use Rattle.axe_chop.specs.declared.chopped.Chopped.{Chopped}

module _ (m : ModuleValue) (is : IsModule m) (seed words : ℕ) where
  -- what is named is a composition series
  pub chopped_is_series : (chopped : Chopped) → IsChopped m seed words chopped → IsSeries m chopped.basis (factor_modules chopped) chopped.series.items
  chopped_is_series chopped answer =
      subst (λ (basis : MatrixValue). IsSeries m basis (factor_modules chopped) chopped.series.items) (sym answer.basis_is)
      (subst (IsSeries m (basis_of_rows m answer.found.rows) (factor_modules chopped)) (sym answer.named.series)
      (subst (λ factors. IsSeries m (basis_of_rows m answer.found.rows) factors answer.found.places) (sym modules)
      (runs_are_true m seed words (complete answer.found) is answer.run)))
    where
      modules : factor_modules chopped ≡ factors_of_forms answer.found.forms
      modules =
          sym (map-map (λ (form : FormValue). form.matrices) (λ (factor : Factor). factor.form) (values chopped.factors))
          ∙ ap (map (λ (form : FormValue). form.matrices)) answer.named.factors.forms_are

  -- an undecided section is open
  pub undecided_is_open : (basis : MatrixValue) (offset dim : ℕ) → IsUndecided m seed words basis offset dim → IsOpenSection m seed words basis offset dim
  undecided_is_open basis offset dim answer =
      subst (λ (b : MatrixValue). IsOpenSection m seed words b offset dim) (sym answer.basis_is)
      (runs_are_true m seed words (open_section basis.rows offset dim) is answer.run)

  -- and there is none where the module has few points
  pub small_is_decided : (basis : MatrixValue) (offset dim : ℕ) → point_count (order_number m.order) m.dim ≤ most_points →
      ¬ (IsUndecided m seed words basis offset dim)
  small_is_decided basis offset dim few answer = small_has_a_series m seed words basis.rows offset dim is few answer.run

  -- so the answer is true, whatever it is
  pub answer_is_true : (result : Result Chopped ChopFault) → AnswersChop m seed words result → IsTrueAnswer m seed words result
  answer_is_true (Ok chopped) answer = chopped_is_series chopped answer
  answer_is_true (Err (Undecided basis offset dim)) answer = undecided_is_open basis offset dim answer
  answer_is_true (Err Memory) answer = tt

  pub small_answer : point_count (order_number m.order) m.dim ≤ most_points → (result : Result Chopped ChopFault) →
      AnswersChop m seed words result → IsNotUndecided result
  small_answer few (Ok chopped) answer = tt
  small_answer few (Err (Undecided basis offset dim)) answer = absurd (small_is_decided basis offset dim few answer)
  small_answer few (Err Memory) answer = tt

-- where memory was refused nothing is said
pub no_memory_to_chop : (m : ModuleValue) (seed words : ℕ) (result : Result Chopped ChopFault) → IsErrAnd result (λ fault. fault ≡ Memory) →
    AnswersChop m seed words result
no_memory_to_chop m seed words (Ok chopped) memory = absurd memory
no_memory_to_chop m seed words (Err fault) memory = subst (λ (f : ChopFault). AnswersChop m seed words (Err f)) (sym memory) tt

-- what was searched and named is chopped
pub searched_is_chopped : (m : ModuleValue) (seed words : ℕ) (found : Found.Found) (chopped : Chopped) → IsSearched m seed words (Complete found) →
    IsNamed (found_value found) chopped → chopped.basis ≡ found.basis → IsChopped m seed words chopped
searched_is_chopped m seed words found chopped searched named basis = record {
  found = found_value found;
  run = searched.0;
  basis_is = basis ∙ searched.1;
  well_formed = subst IsMatrix (sym basis) searched.2;
  named = named;
}

-- what stays open is undecided
pub searched_is_undecided : (m : ModuleValue) (seed words : ℕ) (basis : MatrixValue) (offset dim : ℕ) → IsSearched m seed words (Open basis offset dim) →
    IsUndecided m seed words basis offset dim
searched_is_undecided m seed words basis offset dim searched = record { run = searched.0; basis_is = searched.1; well_formed = searched.2 }
