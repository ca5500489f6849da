-- The columns with a property, found one by one.
use Rattle.std.specs.Prelude.{◌≡◌, ℕ, ◌+◌, ◌<◌, List, [], ◌∷◌, ◌++◌, length, get_or}
use Rattle.std.proofs.lemmas.List.{length-append, get_or_append_left, get_or-append-add}
use Rattle.axe_echelon.proofs.FormLaws.{below_or_at}
use mathlib.Core.Path.{sym, ◌∙◌, ap, subst}
use native.Mathlib.Omega.{arith}
use native.Mathlib.Decide.{ℕ_discrete}

-- the columns below i with P, ascending
pub record AreColumnsBelow (P : ℕ → Type 0) (i : ℕ) (columns : List ℕ) : Type 0 where
  pub ascending : (s t : ℕ) → s < t → t < length columns → get_or columns s 0 < get_or columns t 0
  pub below : (t : ℕ) → t < length columns → get_or columns t 0 < i
  pub each : (t : ℕ) → t < length columns → P (get_or columns t 0)
  pub all : (j : ℕ) → j < i → P j → (t : ℕ) × (t < length columns) × (get_or columns t 0 ≡ j)

-- none below 0
pub columns_none : (P : ℕ → Type 0) (columns : List ℕ) → columns ≡ [] → AreColumnsBelow P 0 columns
columns_none P columns is = subst (AreColumnsBelow P 0) (sym is) (record {
  ascending = λ s t order below. absurd (omega arith);
  below = λ t below. absurd (omega arith);
  each = λ t below. absurd (omega arith);
  all = λ j below holds. absurd (omega arith);
})

-- a column without P
pub column_passed : (P : ℕ → Type 0) (i : ℕ) (columns : List ℕ) → AreColumnsBelow P i columns → ¬ (P i) → AreColumnsBelow P (i + 1) columns
column_passed P i columns so_far without = record {
  ascending = so_far.ascending;
  below = λ t below. let before : get_or columns t 0 < i = so_far.below t below in omega arith;
  each = so_far.each;
  all = λ j below holds. at j below holds (ℕ_discrete j i);
}
  where
    at : (j : ℕ) → j < i + 1 → P j → Dec (j ≡ i) → (t : ℕ) × (t < length columns) × (get_or columns t 0 ≡ j)
    at j below holds (yes same) = absurd (without (subst P same holds))
    at j below holds (no other) = so_far.all j (omega arith) holds

-- one more column
pub column_taken : (P : ℕ → Type 0) (i : ℕ) (columns next : List ℕ) → AreColumnsBelow P i columns → next ≡ columns ++ i ∷ [] → P i →
    AreColumnsBelow P (i + 1) next
column_taken P i columns next so_far is found = subst (AreColumnsBelow P (i + 1)) (sym is) (record {
  ascending = λ s t order below. rising s t order (omega (arith, below, grown)) (ℕ_discrete t (length columns));
  below = λ t below. small t (omega (arith, below, grown)) (ℕ_discrete t (length columns));
  each = λ t below. below_or_at (λ t. P (get_or (columns ++ i ∷ []) t 0)) (length columns)
      (λ t before. subst P (sym (first t before)) (so_far.each t before))
      (subst P (sym last) found)
      t (omega (arith, below, grown));
  all = λ j below holds. at j below holds (ℕ_discrete j i);
})
  where
    grown : length (columns ++ i ∷ []) ≡ length columns + 1
    grown = length-append columns (i ∷ [])

    first : (t : ℕ) → t < length columns → get_or (columns ++ i ∷ []) t 0 ≡ get_or columns t 0
    first t before = get_or_append_left columns (i ∷ []) 0 t before

    last : get_or (columns ++ i ∷ []) (length columns) 0 ≡ i
    last = ap (λ k. get_or (columns ++ i ∷ []) k 0) (let same : length columns ≡ length columns + 0 = omega arith in same) ∙ get_or-append-add columns (i ∷ []) 0 0

    small : (t : ℕ) → t < length columns + 1 → Dec (t ≡ length columns) → get_or (columns ++ i ∷ []) t 0 < i + 1
    small t below (yes same) = omega (arith, ap (λ k. get_or (columns ++ i ∷ []) k 0) same, last)
    small t below (no other) = let before : get_or columns t 0 < i = so_far.below t (omega arith) in omega (arith, first t (omega arith))

    rising : (s t : ℕ) → s < t → t < length columns + 1 → Dec (t ≡ length columns) → get_or (columns ++ i ∷ []) s 0 < get_or (columns ++ i ∷ []) t 0
    rising s t order below (yes same) =
        let before : get_or columns s 0 < i = so_far.below s (omega arith) in
        omega (arith, first s (omega arith), ap (λ k. get_or (columns ++ i ∷ []) k 0) same, last)
    rising s t order below (no other) =
        let before : get_or columns s 0 < get_or columns t 0 = so_far.ascending s t order (omega arith) in
        omega (arith, first s (omega arith), first t (omega arith))

    longer : (j : ℕ) → (t : ℕ) × (t < length columns) × (get_or columns t 0 ≡ j) →
        (t : ℕ) × (t < length (columns ++ i ∷ [])) × (get_or (columns ++ i ∷ []) t 0 ≡ j)
    longer j (t, below, found) = (t, omega (arith, grown), first t below ∙ found)

    at : (j : ℕ) → j < i + 1 → P j → Dec (j ≡ i) → (t : ℕ) × (t < length (columns ++ i ∷ [])) × (get_or (columns ++ i ∷ []) t 0 ≡ j)
    at j below holds (yes same) = (length columns, omega (arith, grown), last ∙ sym same)
    at j below holds (no other) = longer j (so_far.all j (omega arith) holds)
