-- What the steps of a composition series leave at each file.
use Rattle.std.proofs.Common.{◌≡◌, ◌≢◌, refl, sym, ap, subst, ◌∙◌, ℕ, zero, suc, ◌+◌, ◌^◌, ◌<◌, ◌≤◌, List, [], ◌∷◌, ◌++◌, append_assoc, append-nil, codes, decimal, length, map, get_or, Some, Ok, inl, inr, arith}
use Rattle.std.proofs.lemmas.List.{append_cancel_left}
use native.Mathlib.Decide.{ℕ_discrete}
use Rattle.std.specs.List.{range_with_len, AllByRecursion, AllZip}
use Rattle.axe_matrix.specs.Matrices.{MatrixValue, IsMatrix}
use Rattle.axe_spin.specs.Modules.{ModuleValue, IsModule, generator_of}
use Rattle.axe_file.specs.Packed.{packed}
use Rattle.axe_file.specs.PackedModules.{packed_module}
use Rattle.axe_arguments.specs.Commands.{HasFileCount}
use Rattle.axe_arguments.specs.declared.command.ModuleFiles.{ModuleFiles}
use Rattle.axe_arguments.specs.declared.command.ModuleFiles.TheVariants.{Separate, Whole}
use Rattle.axe_folder.specs.Files.{Files, file_at, with_file, without_file}
use Rattle.axe_folder.proofs.FileLaws.{file_at-with_file}
use Rattle.axe_plan.specs.Plans.{Step, Put, step_applied, applied}
use Rattle.axe_plan.specs.Inputs.{matrix_in, numbered, module_file, module_names, module_in}
use Rattle.axe_plan.specs.Outputs.{put_generator, put_generators, matrices_of, put_module}
use Rattle.axe_plan.specs.Outcome.{IsOneOf}
use Rattle.axe_plan.proofs.ReadModules.{HasAsMany}
use Rattle.axe_plan.proofs.ModuleSteps.{module_spares, module_spares_other}
use Rattle.axe_plan.proofs.BrokenSteps.{Spare, spare_append, steps_spare}
use Rattle.axe_execute.specs.SeriesFiles.{report_file, basis_file, factor_name, factor_files, series_files}
use Rattle.axe_execute.specs.ChopCommand.{put_factors, series_steps}
use Rattle.axe_execute.proofs.ConstituentNames.{HasNoDot, IsNotAmong, AreDifferent, parts_at_dot, number_after_dot, no_number_after_dot}
use Rattle.axe_execute.proofs.ReadBack.{HoldsGenerators, matrix_of_spelling, module_of_spellings, module_of_one_spelling, AgreeAt, module_same}
use Rattle.axe_execute.proofs.AfterChop.{AreNonempty, basis_file_differs}

applied_append : (first second : List Step) (files : Files) → applied (first ++ second) files ≡ applied second (applied first files)
applied_append [] second files = refl
applied_append (step ∷ first) second files = applied_append first second (step_applied step files)

-- ---- the generators of one module

later_generators_spare : (name : List ℕ) (m : ModuleValue) (i first count : ℕ) → i < first → first + count < 2 ^ 64 →
    Spare (numbered name (i + 1)) (map (put_generator name m) (range_with_len first count))
later_generators_spare name m i first zero before small = tt
later_generators_spare name m i first (suc count) before small = (
  λ e. omega (arith, before, number_after_dot name (first + 1) (i + 1) (omega (arith, small)) (omega (arith, before, small)) e),
  later_generators_spare name m i (first + 1) count (omega (arith, before)) (omega (arith, small)),
)

generators_put_from : (name : List ℕ) (m : ModuleValue) (first count : ℕ) (files : Files) → first + count < 2 ^ 64 → (i : ℕ) → first ≤ i → i < first + count →
    file_at (applied (map (put_generator name m) (range_with_len first count)) files) (numbered name (i + 1)) ≡ Some (packed (generator_of m i))
generators_put_from name m first zero files small i from to = absurd (omega (arith, from, to))
generators_put_from name m first (suc count) files small i from to =
    cases (ℕ_discrete i first) (λ later. generators_put_from name m (first + 1) count after (omega (arith, small)) i later (omega (arith, to)))
  where
    rest : List Step
    rest = map (put_generator name m) (range_with_len (first + 1) count)

    after : Files
    after = with_file files (numbered name (first + 1)) (packed (generator_of m first))

    cases : Dec (i ≡ first) → (first + 1 ≤ i → file_at (applied rest after) (numbered name (i + 1)) ≡ Some (packed (generator_of m i))) →
        file_at (applied rest after) (numbered name (i + 1)) ≡ Some (packed (generator_of m i))
    cases (yes same) more = subst (λ k. file_at (applied rest after) (numbered name (k + 1)) ≡ Some (packed (generator_of m k))) (sym same)
        (steps_spare (numbered name (first + 1)) rest after (later_generators_spare name m first (first + 1) count (omega arith) (omega (arith, small)))
        ∙ file_at-with_file files (numbered name (first + 1)) (packed (generator_of m first)))
    cases (no other) more = more (omega (arith, from, other))

few_generators : (m : ModuleValue) → IsModule m → 0 + length m.generators < 2 ^ 64
few_generators m is = omega (arith, is.generators_fit)

generators_put : (name : List ℕ) (m : ModuleValue) (files : Files) → IsModule m → HoldsGenerators (applied (put_generators name m) files) name m
generators_put name m files is = λ i below. generators_put_from name m 0 (length m.generators) files (few_generators m is) i (omega arith) (omega (arith, below))

-- a module is read from its files, whatever steps come after that spare these
module_put : (stored : ModuleFiles) (name : List ℕ) (m : ModuleValue) (files : Files) (rest : List Step) → IsModule m →
    HasAsMany stored (length m.generators) → ((text : List ℕ) → Spare (name ++ 46 ∷ text) rest) →
    module_in stored name (applied rest (applied (put_module stored name m) files)) ≡ Ok m
module_put (Separate count) name m files rest is many spared =
    subst (λ n. module_in (Separate n) name (applied rest between) ≡ Ok m) many (module_of_spellings m is (applied rest between) name held)
  where
    between : Files
    between = applied (put_generators name m) files

    held : HoldsGenerators (applied rest between) name m
    held i below = steps_spare (numbered name (i + 1)) rest between (spared (decimal (i + 1))) ∙ generators_put name m files is i below
module_put Whole name m files rest is many spared =
    module_of_one_spelling m is (applied rest between) name
    (steps_spare (module_file name) rest between (spared (codes "axm")) ∙ file_at-with_file files (module_file name) (packed_module (matrices_of m)))
  where
    between : Files
    between = applied (put_module Whole name m) files

-- ---- the factors

-- files are spared where another name, behind the same one, has no dot
factors_spare_others : (stored : ModuleFiles) (name c text : List ℕ) (constituents : List (List ℕ)) (factors : List ModuleValue) → HasNoDot c →
    AllByRecursion HasNoDot constituents → IsNotAmong c constituents → Spare ((name ++ c) ++ 46 ∷ text) (put_factors stored name constituents factors)
factors_spare_others stored name c text [] factors of_c dotless differ = tt
factors_spare_others stored name c text (d ∷ constituents) [] of_c dotless differ = tt
factors_spare_others stored name c text (d ∷ constituents) (factor ∷ factors) of_c dotless differ =
    spare_append ((name ++ c) ++ 46 ∷ text) (put_module stored (factor_name name d) factor) (put_factors stored name constituents factors)
    (module_spares stored ((name ++ c) ++ 46 ∷ text) (factor_name name d) factor
    (λ other e. differ.0 (parts_at_dot name c d text other of_c dotless.0 (sym e)).0))
    (factors_spare_others stored name c text constituents factors of_c dotless.1 differ.1)

-- modules that may lie in such files
abbrev pub AreFactorModules : ModuleFiles → List ModuleValue → Type 0
AreFactorModules stored factors = AllByRecursion (λ factor. IsModule factor × HasAsMany stored (length factor.generators)) factors

-- steps spare the files of all constituents
abbrev SparesConstituents : List ℕ → List Step → Type 0
SparesConstituents name steps = (c text : List ℕ) → HasNoDot c → c ≢ [] → Spare ((name ++ c) ++ 46 ∷ text) steps

-- each factor is read from its files, whatever steps come after that spare these
factors_put : (stored : ModuleFiles) (name : List ℕ) (constituents : List (List ℕ)) (factors : List ModuleValue) (after : List Step) (files : Files) →
    length constituents ≡ length factors → AllByRecursion HasNoDot constituents → AreNonempty constituents → AreDifferent constituents →
    AreFactorModules stored factors → SparesConstituents name after →
    AllZip (λ constituent factor. module_in stored (factor_name name constituent) (applied (put_factors stored name constituents factors ++ after) files) ≡ Ok factor)
    constituents factors
factors_put stored name [] [] after files many dotless some differ are spares = tt
factors_put stored name [] (factor ∷ factors) after files many dotless some differ are spares = absurd (omega (arith, many))
factors_put stored name (c ∷ constituents) [] after files many dotless some differ are spares = absurd (omega (arith, many))
factors_put stored name (c ∷ constituents) (factor ∷ factors) after files many dotless some differ are spares =
    subst (λ (end : Files). AllZip (λ constituent factor. module_in stored (factor_name name constituent) end ≡ Ok factor) (c ∷ constituents) (factor ∷ factors))
    (sym parts) (first, factors_put stored name constituents factors after between (omega (arith, many)) dotless.1 some.1 differ.1 are.1 spares)
  where
    steps : List Step
    steps = put_module stored (factor_name name c) factor

    rest : List Step
    rest = put_factors stored name constituents factors ++ after

    between : Files
    between = applied steps files

    parts : applied ((steps ++ put_factors stored name constituents factors) ++ after) files ≡ applied rest between
    parts = ap (λ all. applied all files) (append_assoc steps (put_factors stored name constituents factors) after) ∙ applied_append steps rest files

    spared : (text : List ℕ) → Spare (factor_name name c ++ 46 ∷ text) rest
    spared text = spare_append (factor_name name c ++ 46 ∷ text) (put_factors stored name constituents factors) after
        (factors_spare_others stored name c text constituents factors dotless.0 dotless.1 differ.0) (spares c text dotless.0 some.0)

    first : module_in stored (factor_name name c) (applied rest between) ≡ Ok factor
    first = module_put stored (factor_name name c) factor files rest are.0.0 are.0.1 spared

-- ---- the report and the basis

-- a name that has a dot right behind that of the module is none of a constituent
behind_nothing : (name text : List ℕ) → (name ++ []) ++ 46 ∷ text ≡ name ++ 46 ∷ text
behind_nothing name text = ap (λ (front : List ℕ). front ++ 46 ∷ text) (append-nil name)

not_among_some : (constituents : List (List ℕ)) → AreNonempty constituents → IsNotAmong [] constituents
not_among_some [] some = tt
not_among_some (c ∷ constituents) some = (λ e. some.0 (sym e), not_among_some constituents some.1)

module _ (stored : ModuleFiles) (name : List ℕ) (basis : MatrixValue) (constituents : List (List ℕ)) (factors : List ModuleValue) (report : List ℕ)
    (files : Files) (many : length constituents ≡ length factors) (dotless : AllByRecursion HasNoDot constituents) (some : AreNonempty constituents)
    (differ : AreDifferent constituents) (are : AreFactorModules stored factors) where
  abbrev steps : List Step
  steps = series_steps stored name basis constituents factors report

  abbrev last : List Step
  last = Put (report_file name) report ∷ []

  -- the file of a constituent is none of a dot right behind the name
  constituent_differs : (c text other : List ℕ) → HasNoDot c → c ≢ [] → name ++ 46 ∷ other ≢ (name ++ c) ++ 46 ∷ text
  constituent_differs c text other of_c not_empty e = not_empty (sym (parts_at_dot name [] c other text tt of_c (behind_nothing name other ∙ e)).0)

  last_spares : SparesConstituents name last
  last_spares c text of_c not_empty = (constituent_differs c text (codes "rep") of_c not_empty, tt)

  -- the steps of the factors spare such names
  factors_spare : (text : List ℕ) → Spare (name ++ 46 ∷ text) (put_factors stored name constituents factors)
  factors_spare text =
      subst (λ file. Spare file (put_factors stored name constituents factors)) (behind_nothing name text)
      (factors_spare_others stored name [] text constituents factors tt dotless (not_among_some constituents some))

  pub report_put : file_at (applied steps files) (report_file name) ≡ Some report
  report_put =
      ap (λ (all : Files). file_at all (report_file name)) (applied_append (put_factors stored name constituents factors) last begun)
      ∙ file_at-with_file (applied (put_factors stored name constituents factors) begun) (report_file name) report
    where
      begun : Files
      begun = with_file (without_file files (report_file name)) (basis_file name) (packed basis)

  pub basis_put : IsMatrix basis → matrix_in (applied steps files) (basis_file name) ≡ Ok basis
  basis_put well = matrix_of_spelling (applied steps files) (basis_file name) basis well
      (steps_spare (basis_file name) (put_factors stored name constituents factors ++ last) (with_file begun (basis_file name) (packed basis))
      (spare_append (basis_file name) (put_factors stored name constituents factors) last (factors_spare (codes "bas")) (λ e. basis_file_differs name (sym e), tt))
      ∙ file_at-with_file begun (basis_file name) (packed basis))
    where
      begun : Files
      begun = without_file files (report_file name)

  pub constituents_put :
      AllZip (λ constituent factor. module_in stored (factor_name name constituent) (applied steps files) ≡ Ok factor) constituents factors
  constituents_put = factors_put stored name constituents factors last _ many dotless some differ are last_spares

  -- ---- the generators of the module stay

  dotted_spared : (text : List ℕ) → name ++ 46 ∷ text ≢ report_file name → name ++ 46 ∷ text ≢ basis_file name → Spare (name ++ 46 ∷ text) steps
  dotted_spared text no_report no_basis = (
    λ e. no_report (sym e),
    (
      λ e. no_basis (sym e),
      spare_append (name ++ 46 ∷ text) (put_factors stored name constituents factors) last (factors_spare text) (λ e. no_report (sym e), tt),
    ),
  )

  number_spared : (number : ℕ) → number < 2 ^ 64 → Spare (numbered name number) steps
  number_spared number small = dotted_spared (decimal number) (no_number_after_dot name (codes "ep") 114 number (omega arith) small)
      (no_number_after_dot name (codes "as") 98 number (omega arith) small)

  whole_spared : Spare (module_file name) steps
  whole_spared = dotted_spared (codes "axm") (λ e. no_report (ap (λ (text : List ℕ). get_or text 1 0) (append_cancel_left name (codes ".axm") (codes ".rep") e)))
      (λ e. no_basis (ap (λ (text : List ℕ). get_or text 1 0) (append_cancel_left name (codes ".axm") (codes ".bas") e)))
    where
      no_report : ◌≡◌ {A = ℕ} 97 114 → ⊥
      no_report same = omega (arith, same)

      no_basis : ◌≡◌ {A = ℕ} 97 98 → ⊥
      no_basis same = omega (arith, same)

  numbers_agree : (first so_many : ℕ) → first + so_many < 2 ^ 64 → AgreeAt (applied steps files) files (map (numbered name) (range_with_len first so_many))
  numbers_agree first zero small = tt
  numbers_agree first (suc so_many) small =
      (steps_spare (numbered name first) steps files (number_spared first (omega (arith, small))), numbers_agree (first + 1) so_many (omega (arith, small)))

  files_agree : (kept : ModuleFiles) → HasFileCount kept → AgreeAt (applied steps files) files (module_names kept name)
  files_agree (Separate so_many) counted = numbers_agree 1 so_many (omega (arith, counted.fits))
  files_agree Whole counted = (steps_spare (module_file name) steps files whole_spared, tt)

  pub module_stays : HasFileCount stored → module_in stored name (applied steps files) ≡ module_in stored name files
  module_stays counted = module_same stored name (applied steps files) files (files_agree stored counted)

-- ---- other files

one_of_first : (first second : List (List ℕ)) (name : List ℕ) → IsOneOf first name → IsOneOf (first ++ second) name
one_of_first [] second name one = absurd one
one_of_first (other ∷ first) second name (inl e) = inl e
one_of_first (other ∷ first) second name (inr one) = inr (one_of_first first second name one)

one_of_second : (first second : List (List ℕ)) (name : List ℕ) → IsOneOf second name → IsOneOf (first ++ second) name
one_of_second [] second name one = one
one_of_second (other ∷ first) second name one = inr (one_of_second first second name one)

factors_spare_other : (stored : ModuleFiles) (name other : List ℕ) (constituents : List (List ℕ)) (factors : List ModuleValue) → AreFactorModules stored factors →
    ¬ (IsOneOf (factor_files stored name constituents) other) → Spare other (put_factors stored name constituents factors)
factors_spare_other stored name other [] factors are none = tt
factors_spare_other stored name other (c ∷ constituents) [] are none = tt
factors_spare_other stored name other (c ∷ constituents) (factor ∷ factors) are none =
    spare_append other (put_module stored (factor_name name c) factor) (put_factors stored name constituents factors)
    (module_spares_other stored other (factor_name name c) factor are.0.1
    (λ one. none (one_of_first (module_names stored (factor_name name c)) (factor_files stored name constituents) other one)))
    (factors_spare_other stored name other constituents factors are.1
    (λ one. none (one_of_second (module_names stored (factor_name name c)) (factor_files stored name constituents) other one)))

pub others_stay : (stored : ModuleFiles) (name : List ℕ) (basis : MatrixValue) (constituents : List (List ℕ)) (factors : List ModuleValue) (report : List ℕ)
    (files : Files) (other : List ℕ) → AreFactorModules stored factors → ¬ (IsOneOf (series_files stored name constituents) other) →
    file_at (applied (series_steps stored name basis constituents factors report) files) other ≡ file_at files other
others_stay stored name basis constituents factors report files other are none =
    steps_spare other (series_steps stored name basis constituents factors report) files (
      λ e. none (inl (sym e)),
      (
        λ e. none (inr (inl (sym e))),
        spare_append other (put_factors stored name constituents factors) (Put (report_file name) report ∷ [])
            (factors_spare_other stored name other constituents factors are (λ one. none (inr (inr one)))) (λ e. none (inl (sym e)), tt),
      ),
    )
