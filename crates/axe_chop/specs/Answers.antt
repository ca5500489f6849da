-- What `chop` answers: what a run finds, and what is true of it.
use Rattle.std.specs.Prelude.{◌≡◌, ℕ, ⊤, List, map, Result, Ok, Err}
use Rattle.indexmap.specs.IndexMap.{values}
use Rattle.axe_matrix.specs.Matrices.{MatrixValue, IsMatrix}
use Rattle.axe_spin.specs.Modules.{ModuleValue}
use Rattle.axe_series.specs.Runs.{FoundValue, complete, open_section, RunOf}
use Rattle.axe_series.specs.Series.{IsSeries, IsOpenSection, basis_of_rows}
use Rattle.axe_chop.specs.Chopped.{IsNamed}
use Rattle.axe_chop.specs.declared.chopped.Factor.{Factor}
use Rattle.axe_chop.specs.declared.chopped.Chopped.{Chopped}
use Rattle.axe_chop.specs.declared.fault.ChopFault.{ChopFault}
use Rattle.axe_chop.specs.declared.fault.ChopFault.TheVariants.{Undecided, Memory}

-- the answer is what a run of the words finds, its factors under their names; its basis is over the module's field and
-- of its columns
pub record IsChopped (m : ModuleValue) (seed words : ℕ) (chopped : Chopped) : Type 0 where
  pub found : FoundValue
  pub run : RunOf m seed words (complete found)
  pub basis_is : chopped.basis ≡ basis_of_rows m found.rows
  pub well_formed : IsMatrix chopped.basis
  pub named : IsNamed found chopped

-- the basis, and the place of the section in it, are those of a section that a run leaves undecided
pub record IsUndecided (m : ModuleValue) (seed words : ℕ) (basis : MatrixValue) (offset dim : ℕ) : Type 0 where
  pub run : RunOf m seed words (open_section basis.rows offset dim)
  pub basis_is : basis ≡ basis_of_rows m basis.rows
  pub well_formed : IsMatrix basis

-- the answer is what a run finds, or Memory
abbrev pub AnswersChop : ModuleValue → ℕ → ℕ → Result Chopped ChopFault → Type 0
AnswersChop m seed words (Ok chopped) = IsChopped m seed words chopped
AnswersChop m seed words (Err (Undecided basis offset dim)) = IsUndecided m seed words basis offset dim
AnswersChop m seed words (Err Memory) = ⊤

-- the factors' matrices, in their order
abbrev pub factor_modules : Chopped → List ModuleValue
factor_modules chopped = map (λ (factor : Factor). factor.form.matrices) (values chopped.factors)

-- what is true of the answer: it is a composition series, or the section is open (Parker 1984; Holt and Rees 1994)
abbrev pub IsTrueAnswer : ModuleValue → ℕ → ℕ → Result Chopped ChopFault → Type 0
IsTrueAnswer m seed words (Ok chopped) = IsSeries m chopped.basis (factor_modules chopped) chopped.series.items
IsTrueAnswer m seed words (Err (Undecided basis offset dim)) = IsOpenSection m seed words basis offset dim
IsTrueAnswer m seed words (Err Memory) = ⊤

-- no section is undecided
abbrev pub IsNotUndecided : Result Chopped ChopFault → Type 0
IsNotUndecided (Ok chopped) = ⊤
IsNotUndecided (Err (Undecided basis offset dim)) = ⊥
IsNotUndecided (Err Memory) = ⊤
