-- First appearances, one place after another.
use Rattle.std.proofs.Common.{◌≡◌, ℕ, zero, suc, ◌+◌, ◌<◌, ◌≤◌, true, false, not, cond, eqb, List, [], ◌∷◌, ◌++◌, length, filter, take, drop, get_or, ◌⊎◌, refl, sym, ap, ap₂, subst, ◌∙◌, inl, inr, append_assoc, append-nil, take_all, take-append-drop, arith}
use Rattle.std.specs.List.{range_with_len}
use Rattle.std.proofs.lemmas.Bool.{cases_Bool, cases_lt, eqb-true, eqb-false, ne_eqb, eq-eqb}
use Rattle.std.proofs.lemmas.List.{take_more}
use Rattle.std.proofs.lemmas.List.Elements.{filter-append}
use Rattle.axe_report.specs.Reports.{first_appearances}

-- the others than a number
abbrev others : ℕ → List ℕ → List ℕ
others x ys = filter (λ y. not (eqb y x)) ys

-- a number stands in a list
abbrev pub Has : List ℕ → ℕ → Type 0
Has [] p = ⊥
Has (x ∷ xs) p = (x ≡ p) ⊎ Has xs p

has_other : (p x : ℕ) (ys : List ℕ) → (p ≡ x → ⊥) → Has ys p → Has (others x ys) p
has_other p x [] ne h = absurd h
has_other p x (y ∷ ys) ne (inl e) =
    let differ : eqb y x ≡ false = ne_eqb y x (λ s. ne (sym e ∙ s)) in
    rw differ (inl e)
has_other p x (y ∷ ys) ne (inr h) = elim (cases_Bool (eqb y x)) [
  | inl t ↦ rw t (has_other p x ys ne h)
  | inr f ↦ rw f (inr (has_other p x ys ne h))
]

has_from_others : (p x : ℕ) (ys : List ℕ) → Has (others x ys) p → Has ys p
has_from_others p x [] h = absurd h
has_from_others p x (y ∷ ys) h = elim (cases_Bool (eqb y x)) [
  | inl t ↦
      let rest = rw t at h in
      inr (has_from_others p x ys rest)
  | inr f ↦
      let rest : (y ≡ p) ⊎ Has (others x ys) p = rw f at h in
      elim rest [ inl e ↦ inl e | inr g ↦ inr (has_from_others p x ys g) ]
]

-- what appears first stands in the list
pub has_from_first : (p : ℕ) (xs : List ℕ) → Has (first_appearances xs) p → Has xs p
has_from_first p [] h = absurd h
has_from_first p (x ∷ xs) (inl e) = inl e
has_from_first p (x ∷ xs) (inr h) = inr (has_from_first p xs (has_from_others p x (first_appearances xs) h))

-- ---- one more place

others_here : (x : ℕ) (ys : List ℕ) → others x (ys ++ x ∷ []) ≡ others x ys
others_here x ys =
    let test : eqb x x ≡ true = eq-eqb x x refl in
    let none : others x (x ∷ []) ≡ [] = rw test refl in
    filter-append (λ y. not (eqb y x)) ys (x ∷ []) ∙ ap (λ (l : List ℕ). others x ys ++ l) none ∙ append-nil (others x ys)

others_there : (x p : ℕ) (ys : List ℕ) → (p ≡ x → ⊥) → others x (ys ++ p ∷ []) ≡ others x ys ++ p ∷ []
others_there x p ys ne =
    let test : eqb p x ≡ false = ne_eqb p x ne in
    let one : others x (p ∷ []) ≡ p ∷ [] = rw test refl in
    filter-append (λ y. not (eqb y x)) ys (p ∷ []) ∙ ap (λ (l : List ℕ). others x ys ++ l) one

-- the last place is new, or it is not
first_push : (xs : List ℕ) (p : ℕ) → (first_appearances (xs ++ p ∷ []) ≡ first_appearances xs) ⊎ (first_appearances (xs ++ p ∷ []) ≡ first_appearances xs ++ p ∷ [])
first_push [] p = inr refl
first_push (x ∷ xs) p = elim (first_push xs p) [
  | inl e ↦ inl (ap (λ (l : List ℕ). x ∷ others x l) e)
  | inr e ↦ elim (cases_Bool (eqb p x)) [
    | inl t ↦
        let same : p ≡ x = eqb-true p x t in
        inl (ap (λ (l : List ℕ). x ∷ others x l) e ∙ ap (λ (l : List ℕ). x ∷ l) (rw same (others_here x (first_appearances xs))))
    | inr f ↦ inr (ap (λ (l : List ℕ). x ∷ others x l) e ∙ ap (λ (l : List ℕ). x ∷ l) (others_there x p (first_appearances xs) (eqb-false p x f)))
  ]
]

again_here : (x : ℕ) (xs : List ℕ) (p : ℕ) → p ≡ x → first_appearances (x ∷ (xs ++ p ∷ [])) ≡ first_appearances (x ∷ xs)
again_here x xs p same = elim (first_push xs p) [
  | inl e ↦ ap (λ (l : List ℕ). x ∷ others x l) e
  | inr e ↦ ap (λ (l : List ℕ). x ∷ others x l) e ∙ ap (λ (l : List ℕ). x ∷ l) (rw same (others_here x (first_appearances xs)))
]

-- a place that stands there already is no new one
first_again : (xs : List ℕ) (p : ℕ) → Has xs p → first_appearances (xs ++ p ∷ []) ≡ first_appearances xs
first_again [] p h = absurd h
first_again (x ∷ xs) p (inl e) = again_here x xs p (sym e)
first_again (x ∷ xs) p (inr h) = ap (λ (l : List ℕ). x ∷ others x l) (first_again xs p h)

-- ---- ranges

pub has_range : (a n p : ℕ) → a ≤ p → p < a + n → Has (range_with_len a n) p
has_range a zero p low high = absurd (omega arith)
has_range a (suc n) p low high = elim (cases_lt a p) [
  | inl lt ↦ inr (has_range (a + 1) n p (omega arith) (omega arith))
  | inr ge ↦ inl (omega arith)
]

range_more : (a n : ℕ) → range_with_len a n ++ (a + n) ∷ [] ≡ range_with_len a (n + 1)
range_more a zero =
    let one : 0 + 1 ≡ suc 0 = omega arith in
    let here : a + 0 ≡ a = omega arith in
    ap (λ (k : ℕ). k ∷ []) here ∙ sym (ap (λ (k : ℕ). range_with_len a k) one)
range_more a (suc n) =
    let count : suc n + 1 ≡ suc (n + 1) = omega arith in
    let place : a + suc n ≡ a + 1 + n = omega arith in
    ap (λ (k : ℕ). a ∷ (range_with_len (a + 1) n ++ k ∷ [])) place ∙ ap (λ (l : List ℕ). a ∷ l) (range_more (a + 1) n) ∙ sym (ap (λ (k : ℕ). range_with_len a k) count)

pub length_range : (a n : ℕ) → length (range_with_len a n) ≡ n
length_range a zero = refl
length_range a (suc n) = ap suc (length_range (a + 1) n)

-- a range goes on by its next number
range_next : (a n m p : ℕ) (l : List ℕ) → range_with_len a n ++ p ∷ l ≡ range_with_len a m → p ≡ a + n
range_next a zero zero p l e = absurd cc
range_next a zero (suc m) p l e =
    let same : p ≡ a = cc in
    omega (arith, same)
range_next a (suc n) zero p l e = absurd cc
range_next a (suc n) (suc m) p l e =
    let rest : range_with_len (a + 1) n ++ p ∷ l ≡ range_with_len (a + 1) m = cc in
    omega (arith, range_next (a + 1) n m p l rest)

-- what stands in a list stands among its first appearances
pub first_from_has : (p : ℕ) (xs : List ℕ) → Has xs p → Has (first_appearances xs) p
first_from_has p [] h = absurd h
first_from_has p (x ∷ xs) (inl e) = inl e
first_from_has p (x ∷ xs) (inr h) = elim (cases_Bool (eqb p x)) [
  | inl t ↦ inl (sym (eqb-true p x t))
  | inr f ↦ inr (has_other p x (first_appearances xs) (eqb-false p x f) (first_from_has p xs h))
]

pub range_has : (a n p : ℕ) → Has (range_with_len a n) p → p < a + n
range_has a zero p h = absurd h
range_has a (suc n) p (inl e) = omega arith
range_has a (suc n) p (inr h) = omega (arith, range_has (a + 1) n p h)

-- a place that does not stand there is a new one
first_fresh : (xs : List ℕ) (p : ℕ) → (Has xs p → ⊥) → first_appearances (xs ++ p ∷ []) ≡ first_appearances xs ++ p ∷ []
first_fresh [] p fresh = refl
first_fresh (x ∷ xs) p fresh =
    ap (λ (l : List ℕ). x ∷ others x l) (first_fresh xs p (λ h. fresh (inr h)))
    ∙ ap (λ (l : List ℕ). x ∷ l) (others_there x p (first_appearances xs) (λ e. fresh (inl (sym e))))

first_new : (xs : List ℕ) (p seen : ℕ) → first_appearances xs ≡ range_with_len 0 seen → seen ≤ p → first_appearances (xs ++ p ∷ []) ≡ first_appearances xs ++ p ∷ []
first_new xs p seen e le =
    first_fresh xs p (λ h. let there = range_has 0 seen p (subst (λ (l : List ℕ). Has l p) e (first_from_has p xs h)) in omega (arith, there))

-- ---- the code's loop

-- the places so far appear in their order
pub record InOrderTo (series : List ℕ) (i seen : ℕ) : Type 0 where
  pub first : first_appearances (take i series) ≡ range_with_len 0 seen
  pub few : seen ≤ i

pub in_order_begun : (series : List ℕ) → InOrderTo series 0 0
in_order_begun series = record { first = refl; few = omega arith }

pub in_order_more : (series : List ℕ) (i seen v : ℕ) → i < length series → get_or series i 0 ≤ seen → v ≡ cond (eqb (get_or series i 0) seen) 1 0 → InOrderTo series i seen → InOrderTo series (i + 1) (seen + v)
in_order_more series i seen v lt le one inv = elim (cases_lt (get_or series i 0) seen) [
  | inl less ↦
      let test : eqb (get_or series i 0) seen ≡ false = ne_eqb (get_or series i 0) seen (λ e. omega arith) in
      let none : v ≡ 0 = one ∙ rw test refl in
      let place : seen + v ≡ seen = omega arith in
      let there : Has (take i series) (get_or series i 0) =
      has_from_first (get_or series i 0) (take i series) (subst (λ (l : List ℕ). Has l (get_or series i 0)) (sym inv.first) (has_range 0 seen (get_or series i 0) (omega arith) (omega arith))) in
      record {
        first = ap (λ (l : List ℕ). first_appearances l) (take_more series i 0 lt) ∙ first_again (take i series) (get_or series i 0) there ∙ inv.first ∙ ap (λ (k : ℕ). range_with_len 0 k) (sym place);
        few = omega (arith, inv.few);
      }
  | inr ge ↦
      let test : eqb (get_or series i 0) seen ≡ true = eq-eqb (get_or series i 0) seen (omega arith) in
      let some : v ≡ 1 = one ∙ rw test refl in
      let place : seen + v ≡ seen + 1 = omega arith in
      let here : get_or series i 0 ≡ 0 + seen = omega arith in
      record {
        first =
            ap (λ (l : List ℕ). first_appearances l) (take_more series i 0 lt)
            ∙ first_new (take i series) (get_or series i 0) seen inv.first ge
            ∙ ap₂ (λ (l : List ℕ) (k : ℕ). l ++ k ∷ []) inv.first here
            ∙ range_more 0 seen
            ∙ ap (λ (k : ℕ). range_with_len 0 k) (sym place);
        few = omega (arith, inv.few);
      }
]

-- more places leave the first appearances so far at the front
first_front : (xs ys : List ℕ) → (l : List ℕ) × (first_appearances (xs ++ ys) ≡ first_appearances xs ++ l)
first_front [] ys = (first_appearances ys, refl)
first_front (x ∷ xs) ys =
    let rest = first_front xs ys in
    (others x rest.0, ap (λ (l : List ℕ). x ∷ others x l) rest.1 ∙ ap (λ (l : List ℕ). x ∷ l) (filter-append (λ y. not (eqb y x)) (first_appearances xs) rest.0))

-- a place past the next one is out of order
pub out_of_order : (series : List ℕ) (i seen count : ℕ) → i < length series → seen < get_or series i 0 → InOrderTo series i seen → first_appearances series ≡ range_with_len 0 count → ⊥
out_of_order series i seen count lt more inv e =
    let p = get_or series i 0 in
    let here = ap (λ (l : List ℕ). first_appearances l) (take_more series i 0 lt) ∙ first_new (take i series) p seen inv.first (omega arith) ∙ ap (λ (l : List ℕ). l ++ p ∷ []) inv.first in
    let front = first_front (take (i + 1) series) (drop (i + 1) series) in
    let whole : range_with_len 0 seen ++ p ∷ front.0 ≡ range_with_len 0 count =
    sym (append_assoc (range_with_len 0 seen) (p ∷ []) front.0)
    ∙ ap (λ (l : List ℕ). l ++ front.0) (sym here)
    ∙ sym front.1
    ∙ ap (λ (l : List ℕ). first_appearances l) (take-append-drop (i + 1) series)
    ∙ e in
    let next = range_next 0 seen count p front.0 whole in
    omega (arith, next)

pub in_order_done : (series : List ℕ) (i seen : ℕ) → length series ≤ i → InOrderTo series i seen → first_appearances series ≡ range_with_len 0 seen
in_order_done series i seen le inv = ap (λ (l : List ℕ). first_appearances l) (sym (take_all i series le)) ∙ inv.first

pub other_count : (series : List ℕ) (seen count : ℕ) → first_appearances series ≡ range_with_len 0 seen → first_appearances series ≡ range_with_len 0 count → seen ≡ count
other_count series seen count a b = sym (length_range 0 seen) ∙ ap (λ (l : List ℕ). length l) (sym a ∙ b) ∙ length_range 0 count
