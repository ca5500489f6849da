-- The matrices of constituents, read one after the other.
use Rattle.std.proofs.Common.{◌≡◌, refl, sym, ◌∙◌, ap, ℕ, zero, suc, ◌+◌, ◌<◌, ◌≤◌, List, [], ◌∷◌, ◌++◌, append_assoc, drop, drop-cons, get_or, length, map, Result, Ok, Err, Vec, Global, arith}
use Rattle.std.proofs.lemmas.List.{map-append}
use Rattle.axe_matrix.specs.Matrices.{MatrixValue}
use Rattle.axe_matrix.specs.declared.Matrix.{Matrix}
use Rattle.axe_report.specs.Reports.{FactorValue, names}
use Rattle.axe_check.specs.Certificates.{lists_of}
use Rattle.axe_folder.specs.Files.{Files}
use Rattle.axe_arguments.specs.declared.command.ModuleFiles.{ModuleFiles}
use Rattle.axe_fault.specs.declared.fault.Fault.{Fault}
use Rattle.axe_fault.specs.Causes.{Problem}
use Rattle.axe_plan.specs.Inputs.{and_then, module_names, generators_in}
use Rattle.axe_plan.specs.Meanings.{Is}
use Rattle.axe_plan.specs.Outcome.{Agrees, IsOneOf}
use Rattle.axe_plan.proofs.Sequences.{AreAmong, among_before, among_after, fault_carries}
use Rattle.axe_execute.specs.SeriesFiles.{factor_name, factor_files}
use Rattle.axe_execute.specs.VerifyCommand.{constituents_in}

-- lists that are there, and after them those of the constituents of these names
abbrev pub constituents_after : ModuleFiles → List ℕ → Files → List (List MatrixValue) → List (List ℕ) → Result (List (List MatrixValue)) Problem
constituents_after stored name files before constituents = and_then (constituents_in stored name constituents files) (λ rest. Ok (before ++ rest))

pub all_after_none : (stored : ModuleFiles) (name : List ℕ) (files : Files) (constituents : List (List ℕ)) →
    constituents_in stored name constituents files ≡ constituents_after stored name files [] constituents
all_after_none stored name files constituents = cases (constituents_in stored name constituents files)
  where
    cases : (found : Result (List (List MatrixValue)) Problem) → found ≡ and_then found (λ rest. Ok ([] ++ rest))
    cases (Ok lists) = refl
    cases (Err problem) = refl

read_more : (stored : ModuleFiles) (name : List ℕ) (files : Files) (before : List (List MatrixValue)) (constituent : List ℕ) (rest : List (List ℕ)) (list : List MatrixValue) →
    generators_in stored (factor_name name constituent) files ≡ Ok list →
    constituents_after stored name files before (constituent ∷ rest) ≡ constituents_after stored name files (before ++ list ∷ []) rest
read_more stored name files before constituent rest list e =
    ap (λ first. and_then (and_then first (λ a. and_then (constituents_in stored name rest files) (λ rest. Ok (a ∷ rest)))) (λ rest. Ok (before ++ rest))) e
    ∙ cases (constituents_in stored name rest files)
  where
    cases : (found : Result (List (List MatrixValue)) Problem) →
        and_then (and_then found (λ rest. Ok (list ∷ rest))) (λ rest. Ok (before ++ rest)) ≡ and_then found (λ rest. Ok ((before ++ list ∷ []) ++ rest))
    cases (Ok rest) = ap Ok (sym (append_assoc before (list ∷ []) rest))
    cases (Err problem) = refl

read_problem : (stored : ModuleFiles) (name : List ℕ) (files : Files) (before : List (List MatrixValue)) (constituent : List ℕ) (rest : List (List ℕ)) (problem : Problem) →
    generators_in stored (factor_name name constituent) files ≡ Err problem → constituents_after stored name files before (constituent ∷ rest) ≡ Err problem
read_problem stored name files before constituent rest problem e =
    ap (λ first. and_then (and_then first (λ a. and_then (constituents_in stored name rest files) (λ rest. Ok (a ∷ rest)))) (λ rest. Ok (before ++ rest))) e

next_name : (fs : List FactorValue) (i : ℕ) (f : FactorValue) → i < length fs → f ≡ get_or fs i f → names (drop i fs) ≡ f.name ∷ names (drop (i + 1) fs)
next_name fs i f below is =
    let one : suc i ≡ i + 1 = omega arith in
    ap (λ (l : List FactorValue). names l) (drop-cons fs i f below) ∙ ap (λ (k : ℕ). (get_or fs i f).name ∷ names (drop k fs)) one
    ∙ ap (λ (g : FactorValue). g.name ∷ names (drop (i + 1) fs)) (sym is)

pub constituent_among : (stored : ModuleFiles) (name : List ℕ) (fs : List FactorValue) (i : ℕ) (f : FactorValue) → i < length fs →
    AreAmong (module_names stored (factor_name name (get_or fs i f).name)) (factor_files stored name (names fs))
constituent_among stored name [] i f below = absurd (omega arith)
constituent_among stored name (g ∷ fs) zero f below = among_before (module_names stored (factor_name name g.name)) (factor_files stored name (names fs))
constituent_among stored name (g ∷ fs) (suc i) f below =
    let rest = constituent_among stored name fs i f (omega arith) in
    record { each = λ file is. (among_after (module_names stored (factor_name name g.name)) (factor_files stored name (names fs))).each file (rest.each file is) }

-- the reading of one more constituent, from a folder that still has these files
pub next_read : (stored : ModuleFiles) (files now : Files) (before after : List (Vec Matrix Global)) (name stem : List ℕ) (fs : List FactorValue) (i : ℕ) (f : FactorValue) (list : Vec Matrix Global) →
    i < length fs → f ≡ get_or fs i f → now ≡ files → stem ≡ factor_name name f.name →
    constituents_in stored name (names fs) files ≡ constituents_after stored name files (lists_of before) (names (drop i fs)) →
    generators_in stored stem now ≡ Ok list.items → after ≡ before ++ list ∷ [] →
    constituents_in stored name (names fs) files ≡ constituents_after stored name files (lists_of after) (names (drop (i + 1) fs))
next_read stored files now before after name stem fs i f list below is same stem_is so_far e pushed =
    so_far ∙ ap (constituents_after stored name files (lists_of before)) (next_name fs i f below is)
    ∙ read_more stored name files (lists_of before) f.name (names (drop (i + 1) fs)) list.items (sym (λ j. generators_in stored (stem_is j) (same j)) ∙ e)
    ∙ ap (λ (read : List (List MatrixValue)). constituents_after stored name files read (names (drop (i + 1) fs)))
    (sym (ap (λ (lists : List (Vec Matrix Global)). lists_of lists) pushed ∙ map-append (λ (l : Vec Matrix Global). l.items) before (list ∷ [])))

-- a fault of one of the constituents is a fault of them all
pub constituent_fault : {U : Type 0} (stored : ModuleFiles) (files now : Files) (before : List (List MatrixValue)) (name stem : List ℕ) (fs : List FactorValue) (i : ℕ) (f : FactorValue)
    (other : U → List (List MatrixValue)) (fault : Fault) → i < length fs → f ≡ get_or fs i f → now ≡ files → stem ≡ factor_name name f.name →
    constituents_in stored name (names fs) files ≡ constituents_after stored name files before (names (drop i fs)) →
    Agrees (module_names stored stem) (λ (l : Vec Matrix Global). l.items) (Err fault) (Is (generators_in stored stem now)) →
    Agrees (factor_files stored name (names fs)) other (Err fault) (Is (constituents_in stored name (names fs) files))
constituent_fault stored files now before name stem fs i f other fault below is same stem_is so_far right =
    fault_carries (module_names stored (factor_name name (get_or fs i f).name)) (factor_files stored name (names fs)) (λ (l : Vec Matrix Global). l.items) other fault
    (Is (generators_in stored (factor_name name (get_or fs i f).name) files)) (Is (constituents_in stored name (names fs) files)) (constituent_among stored name fs i f below)
    (λ problem e. so_far ∙ ap (constituents_after stored name files before) (next_name fs i f below is)
    ∙ read_problem stored name files before f.name (names (drop (i + 1) fs)) problem (ap (λ (g : FactorValue). generators_in stored (factor_name name g.name) files) is ∙ e))
    (coe 0 1 (j. Agrees (module_names stored (named j)) (λ (l : Vec Matrix Global). l.items) (Err fault) (Is (generators_in stored (named j) (same j)))) right)
  where
    named : stem ≡ factor_name name (get_or fs i f).name
    named = stem_is ∙ ap (λ (g : FactorValue). factor_name name g.name) is
