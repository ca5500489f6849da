-- Whether a span is invariant, decided.
use Rattle.std.specs.Prelude.{◌≡◌, ℕ, zero, suc, ◌<◌, List, [], length, get_or}
use Rattle.std.specs.List.{All}
use Rattle.axe_algebra.specs.NumberField.{NumberField}
use Rattle.axe_algebra.specs.Lists.{IsMatrixOver, IsSquareOver}
use Rattle.axe_algebra.specs.ListArithmetic.{combination}
use Rattle.axe_algebra.specs.SpansOfLists.{IsSpanned}
use Rattle.axe_algebra.specs.ModulesOfLists.{IsInvariant}
use Rattle.axe_algebra.proofs.ListEntries.{row_over}
use Rattle.axe_algebra.proofs.ListSpans.{spanned_or_not}
use Rattle.axe_algebra.proofs.ListModules.{image_over, invariant_by_images, images_of_invariant}
use mathlib.Core.Path.{sym, subst}
use native.Mathlib.Omega.{arith}
use native.Mathlib.Decide.{ℕ_discrete}

-- what is decided at each number below a bound is decided of all
all_or_not : (P : ℕ → Type 0) (n : ℕ) → ((i : ℕ) → i < n → Dec (P i)) → Dec ((i : ℕ) → i < n → P i)
all_or_not P zero decide = yes (λ i below. absurd (omega arith))
all_or_not P (suc n) decide = cases (all_or_not P n (λ i below. decide i (omega arith))) (decide n (omega arith))
  where
    at : ((i : ℕ) → i < n → P i) → P n → (i : ℕ) → i < suc n → Dec (i ≡ n) → P i
    at before here i below (yes e) = subst P (sym e) here
    at before here i below (no other) = before i (omega arith)

    cases : Dec ((i : ℕ) → i < n → P i) → Dec (P n) → Dec ((i : ℕ) → i < suc n → P i)
    cases (yes before) (yes here) = yes (λ i below. at before here i below (ℕ_discrete i n))
    cases (yes before) (no fails) = no (λ all. fails (all n (omega arith)))
    cases (no fails) _ = no (λ all. fails (λ i below. all i (omega arith)))

pub invariant_or_not : (K : NumberField) (n : ℕ) (generators : List (List (List ℕ))) (rows : List (List ℕ)) → All (IsSquareOver K n) generators → IsMatrixOver K n rows →
    Dec (IsInvariant K n generators rows)
invariant_or_not K n generators rows square over =
    cases (all_or_not (λ t. (i : ℕ) → i < length generators → IsSpanned K rows (combination K n (get_or rows t []) (get_or generators i []))) (length rows)
    (λ t inside. all_or_not (λ i. IsSpanned K rows (combination K n (get_or rows t []) (get_or generators i []))) (length generators)
    (λ i below. spanned_or_not K n rows (combination K n (get_or rows t []) (get_or generators i [])) over
    (image_over K n generators (get_or rows t []) i square below (row_over K n rows t over inside)).length_is)))
  where
    cases : Dec ((t : ℕ) → t < length rows → (i : ℕ) → i < length generators → IsSpanned K rows (combination K n (get_or rows t []) (get_or generators i []))) →
        Dec (IsInvariant K n generators rows)
    cases (yes all) = yes (invariant_by_images K n generators rows square over (λ t i inside below. all t inside i below))
    cases (no fails) = no (λ invariant. fails (λ t inside i below. images_of_invariant K n generators rows square over invariant t i inside below))
