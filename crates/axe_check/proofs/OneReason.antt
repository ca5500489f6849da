-- A certificate has at most one first reason.
use Rattle.std.proofs.Common.{◌≡◌, ℕ, ◌<◌, inl, inr, List, [], ◌++◌, get_or, codes, string_bytes, String, refl, sym, ap, ap₂, subst, ◌∙◌, arith}
use Rattle.std.specs.declared.alloc.Global.{Global}
use Rattle.axe_report.specs.Reports.{names}
use Rattle.axe_check.specs.Certificates.{Certificate, IsShaped, IsLeftOpen}
use Rattle.axe_check.specs.Reasons.{IsSeenIrreducible, IsFirstMisshapen, IsFirstUnseen, IsReducibleFactor, IsFirstSame, IsFirstReason}
use Rattle.axe_report.specs.Reasons.{reason_text}
use Rattle.axe_check.specs.Reasons.{IsEarlierPair, IsNameOf}
use Rattle.axe_report.specs.declared.reasons.Reason.{Reason}
use Rattle.axe_report.specs.declared.reasons.Reason.TheVariants.{Header, Basis, Shape, Blocks, Open, Reducible, Same}
use native.Mathlib.Decide.{dec_lt}

-- the first number that has not a property is one
least_is_one : (P : ℕ → Type 0) (i j : ℕ) → ((k : ℕ) → k < i → P k) → ¬ (P i) → ((k : ℕ) → k < j → P k) → ¬ (P j) → i ≡ j
least_is_one P i j before_i not_i before_j not_j = cases (dec_lt i j) (dec_lt j i)
  where
    cases : Dec (i < j) → Dec (j < i) → i ≡ j
    cases (yes early) other = absurd (not_i (before_j i early))
    cases (no late) (yes early) = absurd (not_j (before_i j early))
    cases (no late) (no early) = omega arith

module _ (c : Certificate) where
  same_name : (i j : ℕ) (a b : String Global) → i ≡ j → IsNameOf c i a → IsNameOf c j b → string_bytes a ≡ string_bytes b
  same_name i j a b same named also = named ∙ ap (λ k. get_or (names c.report.factors) k []) same ∙ sym also

  same_misshapen : (a b : String Global) → IsFirstMisshapen c a → IsFirstMisshapen c b → string_bytes a ≡ string_bytes b
  same_misshapen a b first second =
      same_name first.number second.number a b
      (least_is_one (IsShaped c) first.number second.number first.earlier first.wrong second.earlier second.wrong)
      first.named second.named

  open_is_unseen : (i : ℕ) → IsLeftOpen c i → ¬ (IsSeenIrreducible c i)
  open_is_unseen i left seen = seen.decided left

  reducible_is_unseen : (i : ℕ) → IsReducibleFactor c i → ¬ (IsSeenIrreducible c i)
  reducible_is_unseen i wrong seen = wrong.reducible seen.irreducible

  module _ (a b : String Global) (V W : ℕ → Type 0) (v : (i : ℕ) → V i → ¬ (IsSeenIrreducible c i)) (w : (i : ℕ) → W i → ¬ (IsSeenIrreducible c i))
      (first : IsFirstUnseen c a V) (second : IsFirstUnseen c b W) where
    same_number : first.number ≡ second.number
    same_number =
        least_is_one (IsSeenIrreducible c) first.number second.number first.earlier (v first.number first.wrong) second.earlier
        (w second.number second.wrong)

    same_unseen : string_bytes a ≡ string_bytes b
    same_unseen = same_name first.number second.number a b same_number first.named second.named

  open_or_reducible : (a b : String Global) → IsFirstUnseen c a (IsLeftOpen c) → IsFirstUnseen c b (IsReducibleFactor c) → ⊥
  open_or_reducible a b first second =
      second.wrong.decided
      (subst (IsLeftOpen c)
      (same_number a b (IsLeftOpen c) (IsReducibleFactor c) open_is_unseen reducible_is_unseen first second) first.wrong)

  -- ---- pairs

  module _ (a b d e : String Global) (one : IsFirstSame c a b) (other : IsFirstSame c d e) where
    not_earlier : ¬ (IsEarlierPair one.first one.second other.first other.second)
    not_earlier early = other.earlier one.first one.second one.ascending one.below early one.same

    not_later : ¬ (IsEarlierPair other.first other.second one.first one.second)
    not_later early = one.earlier other.first other.second other.ascending other.below early other.same

    firsts : one.first ≡ other.first
    firsts = cases (dec_lt one.first other.first) (dec_lt other.first one.first)
      where
        cases : Dec (one.first < other.first) → Dec (other.first < one.first) → one.first ≡ other.first
        cases (yes early) _ = absurd (not_earlier (inl early))
        cases (no late) (yes early) = absurd (not_later (inl early))
        cases (no late) (no early) = omega arith

    seconds : one.second ≡ other.second
    seconds = cases (dec_lt one.second other.second) (dec_lt other.second one.second)
      where
        cases : Dec (one.second < other.second) → Dec (other.second < one.second) → one.second ≡ other.second
        cases (yes early) _ = absurd (not_earlier (inr (firsts, early)))
        cases (no late) (yes early) = absurd (not_later (inr (sym firsts, early)))
        cases (no late) (no early) = omega arith

    same_first : string_bytes a ≡ string_bytes d
    same_first = same_name one.first other.first a d firsts one.first_named other.first_named

    same_second : string_bytes b ≡ string_bytes e
    same_second = same_name one.second other.second b e seconds one.second_named other.second_named

  -- ---- one reason

  pub one_reason : (r s : Reason) → IsFirstReason c r → IsFirstReason c s → reason_text r ≡ reason_text s
  one_reason Header Header first second = refl
  one_reason Header Basis first second = absurd (first second.0)
  one_reason Header (Shape d) first second = absurd (first second.before.header)
  one_reason Header Blocks first second = absurd (first second.0.before.header)
  one_reason Header (Open d) first second = absurd (first second.before.before.before.header)
  one_reason Header (Reducible d) first second = absurd (first second.before.before.before.header)
  one_reason Header (Same d e) first second = absurd (first second.before.before.before.before.header)
  one_reason Basis Header first second = absurd (second first.0)
  one_reason Basis Basis first second = refl
  one_reason Basis (Shape d) first second = absurd (first.1 second.before.basis)
  one_reason Basis Blocks first second = absurd (first.1 second.0.before.basis)
  one_reason Basis (Open d) first second = absurd (first.1 second.before.before.before.basis)
  one_reason Basis (Reducible d) first second = absurd (first.1 second.before.before.before.basis)
  one_reason Basis (Same d e) first second = absurd (first.1 second.before.before.before.before.basis)
  one_reason (Shape a) Header first second = absurd (second first.before.header)
  one_reason (Shape a) Basis first second = absurd (second.1 first.before.basis)
  one_reason (Shape a) (Shape d) first second = ap (λ (name : List ℕ). codes "shape " ++ name) (same_misshapen a d first second)
  one_reason (Shape a) Blocks first second = absurd (first.wrong (second.0.shapes first.number first.below))
  one_reason (Shape a) (Open d) first second = absurd (first.wrong (second.before.before.shapes first.number first.below))
  one_reason (Shape a) (Reducible d) first second = absurd (first.wrong (second.before.before.shapes first.number first.below))
  one_reason (Shape a) (Same d e) first second = absurd (first.wrong (second.before.before.before.shapes first.number first.below))
  one_reason Blocks Header first second = absurd (second first.0.before.header)
  one_reason Blocks Basis first second = absurd (second.1 first.0.before.basis)
  one_reason Blocks (Shape d) first second = absurd (second.wrong (first.0.shapes second.number second.below))
  one_reason Blocks Blocks first second = refl
  one_reason Blocks (Open d) first second = absurd (first.1 second.before.blocks)
  one_reason Blocks (Reducible d) first second = absurd (first.1 second.before.blocks)
  one_reason Blocks (Same d e) first second = absurd (first.1 second.before.before.blocks)
  one_reason (Open a) Header first second = absurd (second first.before.before.before.header)
  one_reason (Open a) Basis first second = absurd (second.1 first.before.before.before.basis)
  one_reason (Open a) (Shape d) first second = absurd (second.wrong (first.before.before.shapes second.number second.below))
  one_reason (Open a) Blocks first second = absurd (second.1 first.before.blocks)
  one_reason (Open a) (Open d) first second = ap (λ (name : List ℕ). codes "open " ++ name) (same_unseen a d (IsLeftOpen c) (IsLeftOpen c) open_is_unseen open_is_unseen first second)
  one_reason (Open a) (Reducible d) first second = absurd (open_or_reducible a d first second)
  one_reason (Open a) (Same d e) first second = absurd ((second.before.seen first.number first.below).decided first.wrong)
  one_reason (Reducible a) Header first second = absurd (second first.before.before.before.header)
  one_reason (Reducible a) Basis first second = absurd (second.1 first.before.before.before.basis)
  one_reason (Reducible a) (Shape d) first second = absurd (second.wrong (first.before.before.shapes second.number second.below))
  one_reason (Reducible a) Blocks first second = absurd (second.1 first.before.blocks)
  one_reason (Reducible a) (Open d) first second = absurd (open_or_reducible d a second first)
  one_reason (Reducible a) (Reducible d) first second = ap (λ (name : List ℕ). codes "reducible " ++ name) (same_unseen a d (IsReducibleFactor c) (IsReducibleFactor c) reducible_is_unseen reducible_is_unseen first second)
  one_reason (Reducible a) (Same d e) first second = absurd (first.wrong.reducible (second.before.seen first.number first.below).irreducible)
  one_reason (Same a b) Header first second = absurd (second first.before.before.before.before.header)
  one_reason (Same a b) Basis first second = absurd (second.1 first.before.before.before.before.basis)
  one_reason (Same a b) (Shape d) first second = absurd (second.wrong (first.before.before.before.shapes second.number second.below))
  one_reason (Same a b) Blocks first second = absurd (second.1 first.before.before.blocks)
  one_reason (Same a b) (Open d) first second = absurd ((first.before.seen second.number second.below).decided second.wrong)
  one_reason (Same a b) (Reducible d) first second = absurd (second.wrong.reducible (first.before.seen second.number second.below).irreducible)
  one_reason (Same a b) (Same d e) first second = ap₂ (λ (x y : List ℕ). codes "same " ++ x ++ codes " " ++ y) (same_first a b d e first second) (same_second a b d e first second)
