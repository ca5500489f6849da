-- The steps that put a module.
use Rattle.std.proofs.Common.{◌≢◌, sym, subst, ℕ, zero, suc, ◌+◌, List, [], ◌∷◌, ◌++◌, codes, decimal, length, map, inl, inr}
use Rattle.std.specs.List.{range_with_len}
use Rattle.axe_spin.specs.Modules.{ModuleValue}
use Rattle.axe_arguments.specs.declared.command.ModuleFiles.{ModuleFiles}
use Rattle.axe_arguments.specs.declared.command.ModuleFiles.TheVariants.{Separate, Whole}
use Rattle.axe_plan.specs.Inputs.{numbered, module_names}
use Rattle.axe_plan.specs.Outputs.{put_generator, put_module}
use Rattle.axe_plan.specs.Outcome.{IsOneOf}
use Rattle.axe_plan.proofs.BrokenSteps.{Spare}
use Rattle.axe_plan.proofs.ReadModules.{HasAsMany}

generators_spare : (file name : List ℕ) (m : ModuleValue) (indices : List ℕ) → ((text : List ℕ) → name ++ 46 ∷ text ≢ file) →
    Spare file (map (put_generator name m) indices)
generators_spare file name m [] differs = tt
generators_spare file name m (i ∷ indices) differs = (differs (decimal (i + 1)), generators_spare file name m indices differs)

-- they spare each file whose name is not that of the module with a dot and more behind it
pub module_spares : (stored : ModuleFiles) (file name : List ℕ) (m : ModuleValue) → ((text : List ℕ) → name ++ 46 ∷ text ≢ file) →
    Spare file (put_module stored name m)
module_spares (Separate count) file name m differs = generators_spare file name m (range_with_len 0 (length m.generators)) differs
module_spares Whole file name m differs = (differs (codes "axm"), tt)

generators_spare_other : (file name : List ℕ) (m : ModuleValue) (first count : ℕ) → ¬ (IsOneOf (map (numbered name) (range_with_len (first + 1) count)) file) →
    Spare file (map (put_generator name m) (range_with_len first count))
generators_spare_other file name m first zero none = tt
generators_spare_other file name m first (suc count) none =
    (λ e. none (inl (sym e)), generators_spare_other file name m (first + 1) count (λ one. none (inr one)))

-- and each that is none of the module's
pub module_spares_other : (stored : ModuleFiles) (file name : List ℕ) (m : ModuleValue) → HasAsMany stored (length m.generators) →
    ¬ (IsOneOf (module_names stored name) file) → Spare file (put_module stored name m)
module_spares_other (Separate count) file name m many none =
    subst (λ n. Spare file (map (put_generator name m) (range_with_len 0 n))) (sym many) (generators_spare_other file name m 0 count none)
module_spares_other Whole file name m many none = (λ e. none (inl (sym e)), tt)
