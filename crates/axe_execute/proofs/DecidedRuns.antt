-- The witnesses of what a run finds do not leave its factors open.
use Rattle.std.proofs.Common.{◌≡◌, ℕ, zero, suc, List, [], ◌∷◌, length, get_or, Some, All, sym, ap, subst}
use Rattle.std.proofs.lemmas.List.Elements.{All-head, All-tail, All-nil}
use Rattle.axe_spin.specs.Modules.{ModuleValue}
use Rattle.axe_iso.specs.Forms.{FormValue}
use Rattle.axe_series.specs.Series.{factors_of_forms}
use Rattle.axe_report.specs.Reports.{WitnessValue}
use Rattle.axe_check.specs.Certificates.{WitnessLeavesOpen}
use Rattle.axe_check.proofs.FormDecisions.{form_decides}
use Rattle.axe_chop.specs.Reported.{witness_of, witnesses_of_forms}
use Rattle.axe_chop.proofs.FormWitnesses.{IsFormBy}
use Rattle.axe_execute.specs.SeriesFiles.{AllDecide}

same_of_some : {A : Type 0} (x y : A) → Some x ≡ Some y → x ≡ y
same_of_some x y e = cc

pub forms_decide : (seed words : ℕ) (forms : List FormValue) → All (IsFormBy seed words) forms → AllDecide seed (factors_of_forms forms) (witnesses_of_forms forms)
forms_decide seed words [] all number factor witness at there left = absurd cc
forms_decide seed words (form ∷ forms) all zero factor witness at there left =
    let by : IsFormBy seed words form = All-head (IsFormBy seed words) form forms all in
    form_decides form by.is_form
    (subst (λ (s : ℕ). WitnessLeavesOpen form.matrices s (witness_of form)) (sym by.of_seed)
    (subst (λ (m : ModuleValue). WitnessLeavesOpen m seed (witness_of form)) (sym (same_of_some form.matrices factor at))
    (subst (λ (w : WitnessValue). WitnessLeavesOpen factor seed w) (sym (same_of_some (witness_of form) witness there)) left)))
forms_decide seed words (form ∷ forms) all (suc number) factor witness at there left =
    forms_decide seed words forms (All-tail (IsFormBy seed words) form forms all) number factor witness at there left
