-- Filters of numbers in a row, and of lists that are made from them.
use Rattle.std.specs.Prelude.{◌≡◌, ℕ, zero, suc, ◌+◌, ◌<◌, ◌≤◌, Bool, true, false, cond, List, [], ◌∷◌, ◌++◌, map, length, get_or}
use Rattle.std.specs.List.{filter, range_with_len}
use Rattle.std.proofs.lemmas.List.{ext_get_or}
use Rattle.std.proofs.lemmas.List.FromFn.{length-map-range_with_len, get_or-map-range_with_len}
use Rattle.axe_algebra.specs.Lists.{listed}
use Rattle.axe_algebra.proofs.ListEntries.{listed_length, listed_at}
use Rattle.std.proofs.lemmas.Bool.{true≢false}
use mathlib.Core.Path.{refl, sym, ◌∙◌, ap, ap₂}
use native.Mathlib.Nat.{zero-add, add-zero, suc-add}
use native.Mathlib.Omega.{arith}
use native.Mathlib.Decide.{ℕ_discrete}

-- a filter of what a function gives
pub filter_of_map : {X Y : Type 0} (p : X → Bool) (f : Y → X) (xs : List Y) → filter p (map f xs) ≡ map f (filter (λ y. p (f y)) xs)
filter_of_map p f [] = refl
filter_of_map p f (x ∷ xs) =
    elim (p (f x)) as (λ b. cond b (f x ∷ filter p (map f xs)) (filter p (map f xs))
    ≡ map f (cond b (x ∷ filter (λ y. p (f y)) xs) (filter (λ y. p (f y)) xs)))
    [ true ↦ ap (λ ys. f x ∷ ys) (filter_of_map p f xs) | false ↦ filter_of_map p f xs ]

-- a filter that everything passes
pub filter_keeps : {X : Type 0} (p : X → Bool) (xs : List X) → ((i : ℕ) (d : X) → i < length xs → p (get_or xs i d) ≡ true) → filter p xs ≡ xs
filter_keeps p [] all = refl
filter_keeps p (x ∷ xs) all =
    ap (λ b. cond b (x ∷ filter p xs) (filter p xs)) (all 0 x (omega arith))
    ∙ ap (λ ys. x ∷ ys) (filter_keeps p xs (λ i d below. all (suc i) d (omega arith)))

-- a filter that no number passes
pub filter_skips : (t : ℕ → Bool) (a n : ℕ) → ((x : ℕ) → a ≤ x → x < a + n → t x ≡ false) → filter t (range_with_len a n) ≡ []
filter_skips t a zero none = refl
filter_skips t a (suc n) none =
    ap (λ b. cond b (a ∷ filter t (range_with_len (a + 1) n)) (filter t (range_with_len (a + 1) n))) (none a (omega arith) (omega arith))
    ∙ filter_skips t (a + 1) n (λ x above below. none x (omega arith) (omega arith))

-- numbers in a row in two parts
pub range_append : (a m n : ℕ) → range_with_len a (m + n) ≡ range_with_len a m ++ range_with_len (a + m) n
range_append a zero n = ap₂ range_with_len (sym (add-zero a)) (zero-add n)
range_append a (suc m) n =
    ap (range_with_len a) (suc-add m n)
    ∙ ap (λ (xs : List ℕ). a ∷ xs)
    (range_append (a + 1) m n ∙ ap (λ b. range_with_len (a + 1) m ++ range_with_len b n) (let e : a + 1 + m ≡ a + suc m = omega arith in e))

-- what a function gives at numbers in a row, as a list from 0 on
pub range_as_listed : {X : Type 0} (f g : ℕ → X) (a n : ℕ) (d : X) → ((y : ℕ) → y < n → f (a + y) ≡ g y) → map f (range_with_len a n) ≡ listed n g
range_as_listed f g a n d same =
    ext_get_or d (map f (range_with_len a n)) (listed n g)
    (length-map-range_with_len f a n ∙ sym (listed_length n g))
    (λ i below.
    let inside : i < n = omega (arith, length-map-range_with_len f a n) in
    get_or-map-range_with_len f a n i (a + i) d inside (omega arith) ∙ same i inside ∙ sym (listed_at n g i d inside))

-- xs are the numbers from a to a + n that pass a test, ascending
pub record IsFilteredRange (t : ℕ → Bool) (a n : ℕ) (xs : List ℕ) : Type 0 where
  pub passes : (i : ℕ) → i < length xs → t (get_or xs i 0) ≡ true
  pub above : (i : ℕ) → i < length xs → a ≤ get_or xs i 0
  pub below : (i : ℕ) → i < length xs → get_or xs i 0 < a + n
  pub ascending : (i j : ℕ) → i < j → j < length xs → get_or xs i 0 < get_or xs j 0
  pub all : (x : ℕ) → a ≤ x → x < a + n → t x ≡ true → (i : ℕ) × (i < length xs) × (get_or xs i 0 ≡ x)

module _ (t : ℕ → Bool) (a n : ℕ) (xs : List ℕ) (rest : IsFilteredRange t (a + 1) n xs) where
  kept : t a ≡ true → IsFilteredRange t a (suc n) (a ∷ xs)
  kept pass = record { passes = passes; above = above; below = below; ascending = ascending; all = λ x from to e. all x from to e (ℕ_discrete x a) }
    where
      passes : (i : ℕ) → i < length (a ∷ xs) → t (get_or (a ∷ xs) i 0) ≡ true
      passes zero inside = pass
      passes (suc i) inside = rest.passes i (omega arith)

      above : (i : ℕ) → i < length (a ∷ xs) → a ≤ get_or (a ∷ xs) i 0
      above zero inside = omega arith
      above (suc i) inside = let h = rest.above i (omega arith) in omega arith

      below : (i : ℕ) → i < length (a ∷ xs) → get_or (a ∷ xs) i 0 < a + suc n
      below zero inside = omega arith
      below (suc i) inside = let h = rest.below i (omega arith) in omega arith

      ascending : (i j : ℕ) → i < j → j < length (a ∷ xs) → get_or (a ∷ xs) i 0 < get_or (a ∷ xs) j 0
      ascending i zero ahead inside = absurd (omega arith)
      ascending zero (suc j) ahead inside = let h = rest.above j (omega arith) in omega arith
      ascending (suc i) (suc j) ahead inside = rest.ascending i j (omega arith) (omega arith)

      all : (x : ℕ) → a ≤ x → x < a + suc n → t x ≡ true → Dec (x ≡ a) → (i : ℕ) × (i < length (a ∷ xs)) × (get_or (a ∷ xs) i 0 ≡ x)
      all x from to e (yes here) = (0, omega arith, sym here)
      all x from to e (no other) =
          let (i, inside, same) = rest.all x (omega arith) (omega arith) e in (suc i, omega arith, same)

  skipped : t a ≡ false → IsFilteredRange t a (suc n) xs
  skipped fails = record {
    passes = rest.passes;
    above = λ i inside. let h = rest.above i inside in omega arith;
    below = λ i inside. let h = rest.below i inside in omega arith;
    ascending = rest.ascending;
    all = λ x from to e. all x from to e (ℕ_discrete x a);
  }
    where
      all : (x : ℕ) → a ≤ x → x < a + suc n → t x ≡ true → Dec (x ≡ a) → (i : ℕ) × (i < length xs) × (get_or xs i 0 ≡ x)
      all x from to e (yes here) = absurd (true≢false (sym e ∙ ap t here ∙ fails))
      all x from to e (no other) = rest.all x (omega arith) (omega arith) e

one_more : (t : ℕ → Bool) (a n : ℕ) (xs : List ℕ) → IsFilteredRange t (a + 1) n xs → (b : Bool) → t a ≡ b → IsFilteredRange t a (suc n) (cond b (a ∷ xs) xs)
one_more t a n xs rest true e = kept t a n xs rest e
one_more t a n xs rest false e = skipped t a n xs rest e

pub filtered_range : (t : ℕ → Bool) (a n : ℕ) → IsFilteredRange t a n (filter t (range_with_len a n))
filtered_range t a zero = record {
  passes = λ i inside. absurd (omega arith);
  above = λ i inside. absurd (omega arith);
  below = λ i inside. absurd (omega arith);
  ascending = λ i j ahead inside. absurd (omega arith);
  all = λ x from to e. absurd (omega arith);
}
filtered_range t a (suc n) = one_more t a n (filter t (range_with_len (a + 1) n)) (filtered_range t (a + 1) n) (t a) refl
