-- The members of a list, and those of its first appearances.
use Rattle.std.proofs.Common.{◌≡◌, ℕ, zero, suc, ◌+◌, ◌<◌, not, eqb, List, [], ◌∷◌, filter, All, sym, subst, inl, inr, arith}
use Rattle.std.specs.List.{AllByRecursion, range_with_len}
use Rattle.std.proofs.lemmas.Bool.{cases_Bool, eqb-true}
use Rattle.std.proofs.lemmas.List.Elements.{All-from_recursion}
use Rattle.axe_report.specs.Reports.{first_appearances}

-- what holds of a number, and of the members of a list other than it, holds of the members of the list
all_with : (P : ℕ → Type 0) (x : ℕ) → P x → (ys : List ℕ) → AllByRecursion P (filter (λ y. not (eqb y x)) ys) → AllByRecursion P ys
all_with P x p [] h = tt
all_with P x p (y ∷ ys) h = elim (cases_Bool (eqb y x)) [
  | inl e ↦
      let same : x ≡ y = sym (eqb-true y x e) in
      let rest = rw e at h in
      (subst P same p, all_with P x p ys rest)
  | inr d ↦
      let rest = rw d at h in
      (rest.0, all_with P x p ys rest.1)
]

-- what holds of the first appearances in a list holds of its members
pub all_from_first : (P : ℕ → Type 0) (xs : List ℕ) → AllByRecursion P (first_appearances xs) → AllByRecursion P xs
all_from_first P [] h = tt
all_from_first P (x ∷ xs) h = (h.0, all_from_first P xs (all_with P x h.0 (first_appearances xs) h.1))

all_of_range : (bound a n : ℕ) → a + n ≡ bound → AllByRecursion (λ k. k < bound) (range_with_len a n)
all_of_range bound a zero e = tt
all_of_range bound a (suc n) e = (omega arith, all_of_range bound (a + 1) n (omega arith))

pub places_in_range : (series : List ℕ) (count : ℕ) → first_appearances series ≡ range_with_len 0 count → AllByRecursion (λ place. place < count) series
places_in_range series count e =
    all_from_first (λ place. place < count) series
    (subst (λ (xs : List ℕ). AllByRecursion (λ place. place < count) xs) (sym e) (all_of_range count 0 count (omega arith)))

pub places_fit : (series : List ℕ) (count : ℕ) → first_appearances series ≡ range_with_len 0 count → All (λ place. place < count) series
places_fit series count e = All-from_recursion (λ place. place < count) series (places_in_range series count e)
