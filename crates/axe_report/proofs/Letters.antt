-- The letters of a number: they tell it, and are made by division.
use Rattle.std.proofs.Common.{◌≡◌, ℕ, zero, suc, ◌+◌, ◌-◌, ◌*◌, ◌/◌, ◌%◌, ◌<◌, ◌≤◌, false, eqb, List, [], ◌∷◌, ◌++◌, reverse, length, ◌⊎◌, refl, sym, ap, ap₂, ◌∙◌, inl, inr, append_assoc, arith, length-append}
use Rattle.std.proofs.lemmas.Bool.{cases_Bool, cases_lt, eqb-true, eqb-false, ne_eqb}
use Rattle.std.proofs.lemmas.List.{reverse-append, reverse-reverse}
use Rattle.axe_report.specs.Limits.{most_dimension}
use Rattle.axe_report.specs.Names.{next_letters, letters_backwards, letters}

-- ---- the letters after some letters

next_of_z : (w : List ℕ) → next_letters (122 ∷ w) ≡ 97 ∷ next_letters w
next_of_z w = refl

next_of_other : (c : ℕ) (w : List ℕ) → eqb c 122 ≡ false → next_letters (c ∷ w) ≡ (c + 1) ∷ w
next_of_other c w e = rw e refl

backwards_zero : letters_backwards 0 ≡ 97 ∷ []
unfolding letters_backwards
backwards_zero = refl

backwards_next : (k : ℕ) → letters_backwards (suc k) ≡ next_letters (letters_backwards k)
unfolding letters_backwards
backwards_next k = refl

-- ---- made by division

one_letter : (r : ℕ) → r < 26 → letters_backwards r ≡ (97 + r) ∷ []
one_letter zero lt = backwards_zero
one_letter (suc r) lt =
    let here = one_letter r (omega arith) in
    let other : eqb (97 + r) 122 ≡ false = ne_eqb (97 + r) 122 (λ e. omega arith) in
    let place : 97 + r + 1 ≡ 97 + suc r = omega arith in
    backwards_next r ∙ ap next_letters here ∙ next_of_other (97 + r) [] other ∙ ap (λ (n : ℕ). n ∷ []) place

more_letters : (q r : ℕ) → r < 26 → letters_backwards (26 * suc q + r) ≡ (97 + r) ∷ letters_backwards q
more_letters zero zero lt =
    let place : 26 * 1 + 0 ≡ suc 25 = omega arith in
    ap letters_backwards place ∙ backwards_next 25 ∙ ap next_letters (one_letter 25 (omega arith)) ∙ next_of_z [] ∙ ap (λ (w : List ℕ). 97 ∷ w) (sym backwards_zero)
more_letters (suc q) zero lt =
    let place : 26 * suc (suc q) + 0 ≡ suc (26 * suc q + 25) = omega arith in
    ap letters_backwards place
    ∙ backwards_next (26 * suc q + 25)
    ∙ ap next_letters (more_letters q 25 (omega arith))
    ∙ next_of_z (letters_backwards q)
    ∙ ap (λ (w : List ℕ). 97 ∷ w) (sym (backwards_next q))
more_letters q (suc r) lt =
    let place : 26 * suc q + suc r ≡ suc (26 * suc q + r) = omega arith in
    let other : eqb (97 + r) 122 ≡ false = ne_eqb (97 + r) 122 (λ e. omega arith) in
    let letter : 97 + r + 1 ≡ 97 + suc r = omega arith in
    ap letters_backwards place
    ∙ backwards_next (26 * suc q + r)
    ∙ ap next_letters (more_letters q r (omega arith))
    ∙ next_of_other (97 + r) (letters_backwards q) other
    ∙ ap (λ (n : ℕ). n ∷ letters_backwards q) letter

pub letters_few : (n : ℕ) → n < 26 → letters n ≡ (97 + n) ∷ []
unfolding letters
letters_few n lt = ap (λ (w : List ℕ). reverse w) (one_letter n lt)

pub letters_many : (n q r : ℕ) → n ≡ 26 * suc q + r → r < 26 → letters n ≡ letters q ++ (97 + r) ∷ []
unfolding letters
letters_many n q r e lt =
    ap (λ (k : ℕ). reverse (letters_backwards k)) e
    ∙ ap (λ (w : List ℕ). reverse w) (more_letters q r lt)
    ∙ reverse-append ((97 + r) ∷ []) (letters_backwards q)

-- ---- letters are letters

abbrev pub AreLetters : List ℕ → Type 0
AreLetters [] = Unit {0}
AreLetters (c ∷ w) = (97 ≤ c) × (c ≤ 122) × AreLetters w

next_are_letters : (w : List ℕ) → AreLetters w → AreLetters (next_letters w)
next_are_letters [] h = (omega arith, omega arith, tt)
next_are_letters (c ∷ w) h = elim (cases_Bool (eqb c 122)) [
  | inl z ↦
      let low : 97 ≤ 97 = omega arith in
      let high : 97 ≤ 122 = omega arith in
      rw z (low, high, next_are_letters w h.2)
  | inr o ↦
      let ne = eqb-false c 122 o in
      let low : 97 ≤ c + 1 = omega (arith, h.0) in
      let high : c + 1 ≤ 122 = omega (arith, h.1, ne) in
      rw o (low, high, h.2)
]

pub backwards_are_letters : (k : ℕ) → AreLetters (letters_backwards k)
unfolding letters_backwards
backwards_are_letters zero = (omega arith, omega arith, tt)
backwards_are_letters (suc k) = next_are_letters (letters_backwards k) (backwards_are_letters k)

letters_append : (a b : List ℕ) → AreLetters a → AreLetters b → AreLetters (a ++ b)
letters_append [] b p q = q
letters_append (c ∷ a) b p q = (p.0, p.1, letters_append a b p.2 q)

letters_reverse : (w : List ℕ) → AreLetters w → AreLetters (reverse w)
letters_reverse [] h = tt
letters_reverse (c ∷ w) h =
    rw (reverse-append (c ∷ []) w) (letters_append (reverse w) (c ∷ []) (letters_reverse w h.2) (h.0, h.1, tt))

pub are_letters : (k : ℕ) → AreLetters (letters k)
unfolding letters
are_letters k = letters_reverse (letters_backwards k) (backwards_are_letters k)

-- ---- letters tell their number

-- the number of letters, from 1 on, in base 26 with digits from 1 to 26
abbrev value : List ℕ → ℕ
value [] = 0
value (c ∷ w) = (c - 96) + 26 * value w

value_next : (w : List ℕ) → AreLetters w → value (next_letters w) ≡ value w + 1
value_next [] h = refl
value_next (c ∷ w) h = elim (cases_Bool (eqb c 122)) [
  | inl z ↦
      let same = eqb-true c 122 z in
      let before = value_next w h.2 in
      let goal : (97 - 96) + 26 * value (next_letters w) ≡ (c - 96) + 26 * value w + 1 = omega (arith, same, before) in
      rw z goal
  | inr o ↦
      let goal : (c + 1 - 96) + 26 * value w ≡ (c - 96) + 26 * value w + 1 = omega (arith, h.0) in
      rw o goal
]

value_of_backwards : (k : ℕ) → value (letters_backwards k) ≡ k + 1
value_of_backwards zero = ap value backwards_zero
value_of_backwards (suc k) =
    let before = value_of_backwards k in
    let next = value_next (letters_backwards k) (backwards_are_letters k) in
    ap value (backwards_next k) ∙ omega (arith, before, next)

pub letters_injective : (j k : ℕ) → letters j ≡ letters k → j ≡ k
unfolding letters
letters_injective j k e =
    let same : letters_backwards j ≡ letters_backwards k = sym (reverse-reverse (letters_backwards j)) ∙ ap (λ (w : List ℕ). reverse w) e ∙ reverse-reverse (letters_backwards k) in
    let values : value (letters_backwards j) ≡ value (letters_backwards k) = ap value same in
    omega (arith, values, value_of_backwards j, value_of_backwards k)

-- ---- there is a letter, and there are few

pub some_letter : (k : ℕ) → 1 ≤ length (letters k)
some_letter k = elim (cases_lt k 26) [
  | inl lt ↦ rw (letters_few k lt) (omega arith)
  | inr ge ↦
      let e : k ≡ 26 * suc (k / 26 - 1) + k % 26 = omega arith in
      rw (letters_many k (k / 26 - 1) (k % 26) e (omega arith), length-append) (omega arith)
]

-- with at most n constituents there are at most three letters
pub three_letters : (k : ℕ) → k < most_dimension → length (letters k) ≤ 3
three_letters k small = elim (cases_lt k 26) [
  | inl lt ↦ rw (letters_few k lt) (omega arith)
  | inr ge ↦
      let e : k ≡ 26 * suc (k / 26 - 1) + k % 26 = omega arith in
      let q : ℕ = k / 26 - 1 in
      let last : length (letters k) ≡ length (letters (k / 26 - 1)) + 1 =
      ap (λ (w : List ℕ). length w) (letters_many k (k / 26 - 1) (k % 26) e (omega arith)) ∙ length-append (letters (k / 26 - 1)) ((97 + k % 26) ∷ []) in
      elim (cases_lt (k / 26 - 1) 26) [
        | inl lt ↦
            let one : length (letters (k / 26 - 1)) ≡ 1 = ap (λ (w : List ℕ). length w) (letters_few (k / 26 - 1) lt) in
            omega (arith, last, one)
        | inr ge' ↦
            let e' : k / 26 - 1 ≡ 26 * suc ((k / 26 - 1) / 26 - 1) + (k / 26 - 1) % 26 = omega arith in
            let before : length (letters (k / 26 - 1)) ≡ length (letters ((k / 26 - 1) / 26 - 1)) + 1 =
            ap (λ (w : List ℕ). length w) (letters_many (k / 26 - 1) ((k / 26 - 1) / 26 - 1) ((k / 26 - 1) % 26) e' (omega arith))
            ∙ length-append (letters ((k / 26 - 1) / 26 - 1)) ((97 + (k / 26 - 1) % 26) ∷ []) in
            let first : length (letters ((k / 26 - 1) / 26 - 1)) ≡ 1 = ap (λ (w : List ℕ). length w) (letters_few ((k / 26 - 1) / 26 - 1) (omega arith)) in
            omega (arith, last, before, first)
      ]
]

-- ---- the code's step

-- the letters before the last are written, where there are some; then comes the last
pub letters_pushed : (n : ℕ) (old items next : List ℕ) (c : ℕ) → ((n < 26) × (items ≡ old)) ⊎ ((26 ≤ n) × (items ≡ old ++ letters (n / 26 - 1)))
    → c ≡ 97 + n % 26 → next ≡ items ++ c ∷ [] → next ≡ old ++ letters n
letters_pushed n old items next c (inl (lt, e)) l new =
    let same : c ≡ 97 + n = omega arith in
    new ∙ ap₂ (λ (x : List ℕ) (k : ℕ). x ++ k ∷ []) e same ∙ ap (λ (x : List ℕ). old ++ x) (sym (letters_few n lt))
letters_pushed n old items next c (inr (ge, e)) l new =
    let whole : n ≡ 26 * suc (n / 26 - 1) + n % 26 = omega arith in
    new
    ∙ ap₂ (λ (x : List ℕ) (k : ℕ). x ++ k ∷ []) e l
    ∙ append_assoc old (letters (n / 26 - 1)) ((97 + n % 26) ∷ [])
    ∙ ap (λ (x : List ℕ). old ++ x) (sym (letters_many n (n / 26 - 1) (n % 26) whole (omega arith)))
