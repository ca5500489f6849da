-- Whether there is a number or a list below a bound that has a property, by looking at each.
use Rattle.std.proofs.Common.{◌≡◌, ◌≢◌, ℕ, zero, suc, ◌+◌, ◌<◌, ◌≤◌, ◌⊎◌, List, [], ◌∷◌, ◌++◌, length, All, refl, sym, ap, ap₂, subst, ◌∙◌, inl, inr, arith}
use Rattle.std.proofs.Math.Decide.{ℕ_discrete, dec_lt, map_dec}
use Rattle.std.proofs.lemmas.Bool.{cases_lt}
use Rattle.std.proofs.lemmas.List.Elements.{All-head, All-tail, All-nil, All-cons}

-- ---- what is decided by parts

pub dec_both : {A B : Type 0} → Dec A → Dec B → Dec (A × B)
dec_both (no none) b = no (λ both. none both.0)
dec_both (yes a) (no none) = no (λ both. none both.1)
dec_both (yes a) (yes b) = yes (a, b)

pub dec_le : (a b : ℕ) → Dec (a ≤ b)
dec_le a b = map_dec (λ lt. omega (arith, lt)) (λ le. omega (arith, le)) (dec_lt a (b + 1))

pub same_list : (a b : List ℕ) → Dec (a ≡ b)
same_list [] [] = yes refl
same_list [] (y ∷ b) = no (λ e. absurd cc)
same_list (x ∷ a) [] = no (λ e. absurd cc)
same_list (x ∷ a) (y ∷ b) = elim (ℕ_discrete x y) [
  | no differ ↦ no (λ e. let one : x ≡ y = cc in differ one)
  | yes one ↦ elim (same_list a b) [
    | no differ ↦ no (λ e. let rest : a ≡ b = cc in differ rest)
    | yes rest ↦ yes (ap₂ (λ (n : ℕ) (l : List ℕ). n ∷ l) one rest)
  ]
]

pub dec_all : (P : ℕ → Type 0) → ((k : ℕ) → Dec (P k)) → (xs : List ℕ) → Dec (All P xs)
dec_all P each [] = yes (All-nil P)
dec_all P each (x ∷ xs) =
    map_dec (λ both. All-cons P x xs both.0 both.1) (λ all. (All-head P x xs all, All-tail P x xs all)) (dec_both (each x) (dec_all P each xs))

-- whether bytes begin with these
pub rest_after : (front text : List ℕ) → Dec ((rest : List ℕ) × (text ≡ front ++ rest))
rest_after [] text = yes (text, refl)
rest_after (x ∷ front) [] = no (λ s. let e : [] ≡ x ∷ (front ++ s.0) = s.1 in absurd cc)
rest_after (x ∷ front) (y ∷ text) = elim (ℕ_discrete y x) [
  | no differ ↦ no (λ s. let e : y ∷ text ≡ x ∷ (front ++ s.0) = s.1 in let one : y ≡ x = cc in differ one)
  | yes one ↦
      map_dec (λ s. (s.0, ap₂ (λ (n : ℕ) (l : List ℕ). n ∷ l) one s.1)) (λ s. let e : y ∷ text ≡ x ∷ (front ++ s.0) = s.1 in (s.0, cc)) (rest_after front text)
]

-- ---- searches

-- whether a number below the bound has the property
pub some_below : (P : ℕ → Type 0) → ((k : ℕ) → Dec (P k)) → (bound : ℕ) → Dec ((k : ℕ) × (k < bound) × P k)
some_below P each zero = no (λ s. absurd (omega (arith, s.1)))
some_below P each (suc n) = elim (each n) [
  | yes here ↦ yes (n, omega arith, here)
  | no nowhere ↦ elim (some_below P each n) [
    | yes s ↦ yes (s.0, omega (arith, s.1), s.2)
    | no none ↦ no (λ s. elim (cases_lt s.0 n) [
      | inl lt ↦ none (s.0, lt, s.2)
      | inr ge ↦ let e : s.0 ≡ n = omega (arith, s.1) in nowhere (subst P e s.2)
    ])
  ]
]

-- whether some number has a property that only numbers below the bound have
pub some_number : (P : ℕ → Type 0) → ((k : ℕ) → Dec (P k)) → (bound : ℕ) → ((k : ℕ) → P k → k < bound) → Dec ((k : ℕ) × P k)
some_number P each bound small = map_dec (λ s. (s.0, s.2)) (λ s. (s.0, small s.0 s.1, s.1)) (some_below P each bound)

-- whether a list of at most so many numbers below a base has the property
pub some_short : (base : ℕ) (bound : ℕ) (P : List ℕ → Type 0) → ((l : List ℕ) → Dec (P l)) → Dec ((l : List ℕ) × (length l ≤ bound) × All (λ k. k < base) l × P l)
some_short base zero P each =
    map_dec (λ p. ([], omega arith, All-nil (λ k. k < base), p)) (λ s. none s.0 s.1 s.3) (each [])
  where
    none : (l : List ℕ) → length l ≤ 0 → P l → P []
    none [] few p = p
    none (x ∷ l) few p = absurd (omega (arith, few))
some_short base (suc n) P each = elim (each []) [
  | yes p ↦ yes ([], omega arith, All-nil (λ k. k < base), p)
  | no empty ↦
      map_dec
      (λ s. (s.0 ∷ s.2.0, omega (arith, s.2.1), All-cons (λ k. k < base) s.0 s.2.0 s.1 s.2.2, s.2.3))
      (λ s. longer empty s.0 s.1 s.2 s.3)
      (some_below (λ k. (l : List ℕ) × (length l ≤ n) × All (λ k. k < base) l × P (k ∷ l)) (λ k. some_short base n (λ l. P (k ∷ l)) (λ l. each (k ∷ l))) base)
]
  where
    longer : ¬ (P []) → (l : List ℕ) → length l ≤ suc n → All (λ k. k < base) l → P l → (k : ℕ) × (k < base) × ((l : List ℕ) × (length l ≤ n) × All (λ k. k < base) l × P (k ∷ l))
    longer empty [] few all p = absurd (empty p)
    longer empty (x ∷ l) few all p = (x, All-head (λ k. k < base) x l all, (l, omega (arith, few), All-tail (λ k. k < base) x l all, p))

-- whether some list has a property that only lists of at most so many numbers below a base have
pub some_list : (base bound : ℕ) (P : List ℕ → Type 0) → ((l : List ℕ) → Dec (P l)) → ((l : List ℕ) → P l → (length l ≤ bound) × All (λ k. k < base) l) → Dec ((l : List ℕ) × P l)
some_list base bound P each short =
    map_dec (λ s. (s.0, s.3)) (λ s. let small = short s.0 s.1 in (s.0, small.0, small.1, s.1)) (some_short base bound P each)
