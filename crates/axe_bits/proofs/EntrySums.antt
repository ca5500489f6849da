-- Tables of lists of digits of which some become copies or sums of earlier ones.
use Rattle.std.proofs.Common.{◌≡◌, ◌≢◌, ℕ, ◌+◌, ◌<◌, ◌≤◌, List, [], length, get_or, set, refl, sym, ap, ap₂, ◌∙◌, arith, inl, inr, get_or-set_other, get_or-set_same}
use Rattle.std.proofs.lemmas.Bool.{cases_eq}
use Rattle.std.proofs.lemmas.List.{length-set}
use Rattle.axe_layer.specs.Digits.{digits_with_multiple}
use Rattle.axe_bits.specs.Combinations.{HaveEntryCopies, HaveEntrySums}

-- ---- sums that are put one after another

-- before the first sum
pub HaveEntrySums-none : (p start : ℕ) (table : List (List ℕ)) → HaveEntrySums p start 1 table table
HaveEntrySums-none p start table = record {
  as_many = refl;
  sums = λ i positive below. absurd (omega (arith, positive, below));
  earlier = λ x early. refl;
  later = λ x late inside. refl;
}

-- after one more
pub HaveEntrySums-more : (p start count : ℕ) (before now after : List (List ℕ)) → HaveEntrySums p start count before now →
    1 ≤ count → count < start → start + count < length now →
    after ≡ set now (start + count) (digits_with_multiple p (get_or now count []) 1 (get_or now start [])) →
    HaveEntrySums p start (count + 1) before after
HaveEntrySums-more p start count before now after h some small within is = record {
  as_many = ap length is ∙ length-set now (start + count) sum ∙ h.as_many;
  sums = λ i positive below. elim (cases_eq i count) [
    | inl same ↦
        ap₂ (λ (s : List (List ℕ)) k. get_or s (start + k) []) is same ∙ get_or-set_same now (start + count) sum [] within
        ∙ ap₂ (λ (a b : List ℕ). digits_with_multiple p a 1 b) (h.earlier count (omega (arith, small))) (h.earlier start (omega arith))
        ∙ ap (λ k. digits_with_multiple p (get_or before k []) 1 (get_or before start [])) (sym same)
    | inr other ↦ kept (start + i) (λ e. other (omega (arith, e))) ∙ h.sums i positive (omega (arith, other, below))
  ];
  earlier = λ x early. kept x (λ e. absurd (omega (arith, early, e, some))) ∙ h.earlier x early;
  later = λ x late inside. kept x (λ e. absurd (omega (arith, late, e))) ∙ h.later x (omega (arith, late)) inside;
}
  where
    sum : List ℕ
    sum = digits_with_multiple p (get_or now count []) 1 (get_or now start [])

    kept : (x : ℕ) → x ≢ start + count → get_or after x [] ≡ get_or now x []
    kept x other = ap (λ (s : List (List ℕ)). get_or s x []) is ∙ get_or-set_other now (start + count) x sum [] other

-- ---- copies to which the list before them is added, one after another

-- the copies before number k have become sums
pub record AreSumsOfCopies (p start count k : ℕ) (before now : List (List ℕ)) : Type 0 where
  pub as_many : length now ≡ length before
  pub sums : (i : ℕ) → 0 < i → i < k → get_or now (start + i) []
      ≡ digits_with_multiple p (get_or before i []) 1 (get_or before start [])
  pub copies : (i : ℕ) → k ≤ i → i < count → get_or now (start + i) [] ≡ get_or before i []
  pub earlier : (x : ℕ) → x ≤ start → get_or now x [] ≡ get_or before x []
  pub later : (x : ℕ) → start + count ≤ x → x < length before → get_or now x [] ≡ get_or before x []

pub AreSumsOfCopies-none : (p start count : ℕ) (before now : List (List ℕ)) → HaveEntryCopies start count before now →
    AreSumsOfCopies p start count 1 before now
AreSumsOfCopies-none p start count before now h = record {
  as_many = h.as_many;
  sums = λ i positive below. absurd (omega (arith, positive, below));
  copies = λ i positive below. h.copies i (omega (arith, positive)) below;
  earlier = h.earlier;
  later = h.later;
}

pub AreSumsOfCopies-more : (p start count k : ℕ) (before now after : List (List ℕ)) →
    AreSumsOfCopies p start count k before now → 1 ≤ k → k < count → start + k < length now →
    after ≡ set now (start + k) (digits_with_multiple p (get_or now (start + k) []) 1 (get_or now start [])) →
    AreSumsOfCopies p start count (k + 1) before after
AreSumsOfCopies-more p start count k before now after h some small within is = record {
  as_many = ap length is ∙ length-set now (start + k) sum ∙ h.as_many;
  sums = λ i positive below. elim (cases_eq i k) [
    | inl same ↦
        ap₂ (λ (s : List (List ℕ)) m. get_or s (start + m) []) is same ∙ get_or-set_same now (start + k) sum [] within
        ∙ ap₂ (λ (a b : List ℕ). digits_with_multiple p a 1 b) (h.copies k (omega arith) small) (h.earlier start (omega arith))
        ∙ ap (λ m. digits_with_multiple p (get_or before m []) 1 (get_or before start [])) (sym same)
    | inr other ↦ kept (start + i) (λ e. other (omega (arith, e))) ∙ h.sums i positive (omega (arith, other, below))
  ];
  copies = λ i past below. kept (start + i) (λ e. absurd (omega (arith, e, past))) ∙ h.copies i (omega (arith, past)) below;
  earlier = λ x early. kept x (λ e. absurd (omega (arith, early, e, some))) ∙ h.earlier x early;
  later = λ x late inside. kept x (λ e. absurd (omega (arith, late, e, small))) ∙ h.later x late inside;
}
  where
    sum : List ℕ
    sum = digits_with_multiple p (get_or now (start + k) []) 1 (get_or now start [])

    kept : (x : ℕ) → x ≢ start + k → get_or after x [] ≡ get_or now x []
    kept x other = ap (λ (s : List (List ℕ)). get_or s x []) is ∙ get_or-set_other now (start + k) x sum [] other

-- all of them have
pub AreSumsOfCopies-all : (p start count k : ℕ) (before now : List (List ℕ)) → AreSumsOfCopies p start count k before now →
    count ≤ k → HaveEntrySums p start count before now
AreSumsOfCopies-all p start count k before now h all = record {
  as_many = h.as_many;
  sums = λ i positive below. h.sums i positive (omega (arith, below, all));
  earlier = h.earlier;
  later = h.later;
}
