-- Constituents that are seen to be irreducible, one after the other, with their forms.
use Rattle.std.proofs.Common.{◌≡◌, ℕ, ◌+◌, ◌<◌, List, [], ◌∷◌, ◌++◌, length, get_or, None, sym, ap, subst, ◌∙◌, length-append, arith}
use Rattle.std.specs.List.{All}
use Rattle.std.proofs.lemmas.List.{get_or_default, get_or_append_left, get_or-append-add}
use Rattle.axe_field.specs.Order.{Order}
use Rattle.axe_spin.specs.Modules.{ModuleValue}
use Rattle.axe_iso.specs.Forms.{FormValue}
use Rattle.axe_report.specs.Reports.{FactorValue}
use Rattle.axe_check.specs.Certificates.{witnesses}
use Rattle.axe_check.specs.Steps.{IsSeenBy, AreSeenTo, IsFormOf, AreFormsOf, IsUnseenReason, IsFirstUnseenReason}
use Rattle.axe_report.specs.declared.reasons.Reason.{Reason}
use Rattle.axe_check.proofs.Certifying.{witness_at}
use native.Mathlib.Decide.{ℕ_discrete}

-- a factor is over the field of all
pub field_here : (order : Order) (factors : List ModuleValue) (number : ℕ) (one : ModuleValue) → All (λ (f : ModuleValue). f.order ≡ order) factors →
    number < length factors → one ≡ get_or factors number one → one.order ≡ order
field_here order factors number one fields inside one_is = ap (λ (f : ModuleValue). f.order) one_is ∙ fields number one inside

module _ (factors : List ModuleValue) (seed : ℕ) (reported : List FactorValue) (number : ℕ) (one : ModuleValue) (told : FactorValue)
    (inside : number < length factors) (counts : length factors ≡ length reported) (one_is : one ≡ get_or factors number one)
    (told_is : told ≡ get_or reported number told) where
  there : number < length reported
  there = omega (arith, inside, counts)

  one_at : (d : ModuleValue) → one ≡ get_or factors number d
  one_at d = one_is ∙ get_or_default factors number one d inside

  told_at : (e : FactorValue) → told ≡ get_or reported number e
  told_at e = told_is ∙ get_or_default reported number told e there

  witness_is : told.witness ≡ get_or (witnesses reported) number None
  witness_is = ap (λ (f : FactorValue). f.witness) told_is ∙ sym (witness_at reported number told there)

  pub seen_more : AreSeenTo factors seed reported number → IsSeenBy one seed told.witness → AreSeenTo factors seed reported (number + 1)
  seen_more seen here i d below = cases (ℕ_discrete i number)
    where
      cases : Dec (i ≡ number) → IsSeenBy (get_or factors i d) seed (get_or (witnesses reported) i None)
      cases (no earlier) = seen i d (omega arith)
      cases (yes same) =
          subst (λ k. IsSeenBy (get_or factors k d) seed (get_or (witnesses reported) k None)) (sym same)
          (subst (λ (m : ModuleValue). IsSeenBy m seed (get_or (witnesses reported) number None)) (one_at d) (subst (IsSeenBy one seed) witness_is here))

  pub forms_more : (forms next : List FormValue) (form : FormValue) → AreFormsOf factors forms → length forms ≡ number → IsFormOf one form →
      next ≡ forms ++ form ∷ [] → AreFormsOf factors next
  forms_more forms next form are count here pushed = subst (AreFormsOf factors) (sym pushed) (record {
    no_more = omega (arith, length-append forms (form ∷ []), count, inside);
    each = λ i d e below. cases i d e below (ℕ_discrete i number);
  })
    where
      cases : (i : ℕ) (d : ModuleValue) (e : FormValue) → i < length (forms ++ form ∷ []) → Dec (i ≡ number) → IsFormOf (get_or factors i d) (get_or (forms ++ form ∷ []) i e)
      cases i d e below (no other) =
          let early : i < length forms = omega (arith, below, length-append forms (form ∷ []), count) in
          subst (IsFormOf (get_or factors i d)) (sym (get_or_append_left forms (form ∷ []) e i early)) (are.each i d e early)
      cases i d e below (yes same) =
          let place : i ≡ length forms + 0 = omega (arith, same, count) in
          subst (λ k. IsFormOf (get_or factors k d) (get_or (forms ++ form ∷ []) k e)) (sym place)
          (subst (IsFormOf (get_or factors (length forms + 0) d)) (sym (get_or-append-add forms (form ∷ []) 0 e))
          (subst (λ k. IsFormOf (get_or factors k d) form) (sym same ∙ place)
          (subst (λ (m : ModuleValue). IsFormOf m form) (one_at d) here)))

  pub unseen_here : AreSeenTo factors seed reported number → (reason : Reason) → IsUnseenReason one seed told reason → IsFirstUnseenReason factors seed reported reason
  unseen_here seen reason found = record {
    number = number;
    below = inside;
    earlier = seen;
    wrong = λ d e. subst (λ (m : ModuleValue). IsUnseenReason m seed (get_or reported number e) reason) (one_at d)
        (subst (λ (f : FactorValue). IsUnseenReason one seed f reason) (told_at e) found);
  }
