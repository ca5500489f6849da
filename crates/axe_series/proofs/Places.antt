-- Places of a series: what stands at a place of a list with one more element, and factors in order of appearance.
use Rattle.std.specs.Prelude.{◌≡◌, ℕ, zero, suc, ◌<◌, ◌≤◌, ◌⊎◌, List, [], ◌∷◌, ◌++◌, length, get_or, slice_get, Some}
use Rattle.std.specs.List.{All}
use Rattle.std.specs.Option.{unwrap_or}
use Rattle.std.proofs.lemmas.List.{length-append, get_or_append_left}
use Rattle.std.proofs.lemmas.Option.{slice_get_within, get_or_from_slice_get}
use Rattle.axe_series.specs.Series.{IsPlaceOf, AreInOrderOfAppearance}
use mathlib.Core.Logic.{inl, inr}
use mathlib.Core.Path.{refl, sym, ◌∙◌, ap, subst}
use native.Mathlib.Omega.{arith}
use native.Mathlib.Decide.{dec_lt}

pub same_of_some : {A : Type 0} (x y : A) → Some x ≡ Some y → x ≡ y
same_of_some x y e = ap (λ o. unwrap_or o x) e

-- an element that stands in a list stands there in a longer one
pub still_there : {A : Type 0} (xs ys : List A) (i : ℕ) (x : A) → slice_get xs i ≡ Some x → slice_get (xs ++ ys) i ≡ Some x
still_there [] ys i x is = absurd (omega (arith, slice_get_within [] i x is))
still_there (y ∷ xs) ys zero x is = is
still_there (y ∷ xs) ys (suc i) x is = still_there xs ys i x is

pub last_there : {A : Type 0} (xs : List A) (x : A) (ys : List A) → slice_get (xs ++ x ∷ ys) (length xs) ≡ Some x
last_there [] x ys = refl
last_there (y ∷ xs) x ys = last_there xs x ys

-- what stands in a list with one more element: what stood there, or that element, at the end
pub before_or_last : {A : Type 0} (xs : List A) (x y : A) (i : ℕ) → slice_get (xs ++ x ∷ []) i ≡ Some y →
    ((i < length xs) × (slice_get xs i ≡ Some y)) ⊎ ((i ≡ length xs) × (y ≡ x))
before_or_last [] x y zero is = inr (refl, same_of_some y x (sym is))
before_or_last [] x y (suc i) is = absurd (omega (arith, slice_get_within (x ∷ []) (suc i) y is))
before_or_last (z ∷ xs) x y zero is = inl (omega arith, is)
before_or_last (z ∷ xs) x y (suc i) is = further (before_or_last xs x y i is)
  where
    further : ((i < length xs) × (slice_get xs i ≡ Some y)) ⊎ ((i ≡ length xs) × (y ≡ x)) →
        ((suc i < length (z ∷ xs)) × (slice_get xs i ≡ Some y)) ⊎ ((suc i ≡ length (z ∷ xs)) × (y ≡ x))
    further (inl (below, at)) = inl (omega arith, at)
    further (inr (end, same)) = inr (ap suc end, same)

-- ---- order of appearance

pub nothing_appears : AreInOrderOfAppearance 0 []
nothing_appears = record {
  within = λ i d below. absurd (omega arith);
  appear = λ number below. absurd (omega arith);
  ascend = λ b number smaller place less. absurd (omega (arith, slice_get_within [] b number place));
}

-- the numbers below count, with one more place
within_more : (count more number : ℕ) (places : List ℕ) → count ≤ more → number < more → All (λ k. k < count) places → All (λ k. k < more) (places ++ number ∷ [])
within_more count more number places fits below within i d inside = at (dec_lt i (length places))
  where
    at : Dec (i < length places) → get_or (places ++ number ∷ []) i d < more
    at (yes before) =
        let old : get_or places i d < count = within i d before in
        let same : get_or (places ++ number ∷ []) i d ≡ get_or places i d = get_or_append_left places (number ∷ []) d i before in
        omega (arith, old, same, fits)
    at (no past) =
        let end : length places ≡ i = omega (arith, length-append places (number ∷ [])) in
        let last : get_or (places ++ number ∷ []) i d ≡ number = get_or_from_slice_get (places ++ number ∷ []) i number d
        (subst (λ k. slice_get (places ++ number ∷ []) k ≡ Some number) end (last_there places number [])) in
        omega (arith, last, below)

ascend_more : (count number : ℕ) (places : List ℕ) → AreInOrderOfAppearance count places → number ≤ count →
    (b k smaller : ℕ) → IsPlaceOf (places ++ number ∷ []) b k → smaller < k → (a : ℕ) × (a < b) × IsPlaceOf (places ++ number ∷ []) a smaller
ascend_more count number places order fits b k smaller place less = by_place (before_or_last places number k b place)
  where
    from_old : (a : ℕ) × (a < b) × IsPlaceOf places a smaller → (a : ℕ) × (a < b) × IsPlaceOf (places ++ number ∷ []) a smaller
    from_old (a, before, at) = (a, before, still_there places (number ∷ []) a smaller at)

    from_first : b ≡ length places → (a : ℕ) × IsPlaceOf places a smaller → (a : ℕ) × (a < b) × IsPlaceOf (places ++ number ∷ []) a smaller
    from_first end (a, at) =
        let inside : a < length places = slice_get_within places a smaller at in
        (a, omega (arith, inside, end), still_there places (number ∷ []) a smaller at)

    by_place : ((b < length places) × (slice_get places b ≡ Some k)) ⊎ ((b ≡ length places) × (k ≡ number)) →
        (a : ℕ) × (a < b) × IsPlaceOf (places ++ number ∷ []) a smaller
    by_place (inl (inside, at)) = from_old (order.ascend b k smaller at less)
    by_place (inr (end, same)) = from_first end (order.appear smaller (omega (arith, same, fits, less)))

-- one more place of a known factor, and of a new one
pub known_appears : (count number : ℕ) (places : List ℕ) → number < count → AreInOrderOfAppearance count places →
    AreInOrderOfAppearance count (places ++ number ∷ [])
known_appears count number places below order = record {
  within = within_more count count number places (omega arith) below order.within;
  appear = λ k inside. further k (order.appear k inside);
  ascend = ascend_more count number places order (omega arith);
}
  where
    further : (k : ℕ) → (a : ℕ) × IsPlaceOf places a k → (a : ℕ) × IsPlaceOf (places ++ number ∷ []) a k
    further k (a, at) = (a, still_there places (number ∷ []) a k at)

pub new_appears : (count : ℕ) (places : List ℕ) → AreInOrderOfAppearance count places → AreInOrderOfAppearance (suc count) (places ++ count ∷ [])
new_appears count places order = record {
  within = within_more count (suc count) count places (omega arith) (omega arith) order.within;
  appear = λ k inside. by_size k inside (dec_lt k count);
  ascend = ascend_more count count places order (omega arith);
}
  where
    further : (k : ℕ) → (a : ℕ) × IsPlaceOf places a k → (a : ℕ) × IsPlaceOf (places ++ count ∷ []) a k
    further k (a, at) = (a, still_there places (count ∷ []) a k at)

    by_size : (k : ℕ) → k < suc count → Dec (k < count) → (a : ℕ) × IsPlaceOf (places ++ count ∷ []) a k
    by_size k inside (yes below) = further k (order.appear k below)
    by_size k inside (no past) =
        let same : count ≡ k = omega arith in
        (length places, last_there places count [] ∙ ap (λ x. Some x) same)
