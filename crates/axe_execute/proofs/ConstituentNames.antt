-- Names of constituents have no dot and are all different, so that their files have names of their own.
use Rattle.std.proofs.Common.{◌≡◌, ◌≢◌, refl, sym, ap, subst, ◌∙◌, ℕ, ◌^◌, ◌<◌, ◌≤◌, true, not, eqb, leb, ltb, cond, List, [], ◌∷◌, ◌++◌, append_assoc, decimal, arith}
use Rattle.std.specs.List.{AllByRecursion}
use Rattle.std.proofs.lemmas.Bool.{and_parts, ne_eqb, leb-true, ltb-true}
use Rattle.std.proofs.lemmas.Fmt.{decimal_injective}
use Rattle.std.proofs.lemmas.List.{append_cancel_left}
use Rattle.std.proofs.lemmas.List.Sums.{sum_by_push}
use Rattle.axe_report.specs.Fronts.{is_digit}
use Rattle.axe_report.specs.Names.{letters, constituent_name, count_of, names_after, names_of}
use Rattle.axe_report.proofs.Fronts.{Passes, passes_append, front_unique}
use Rattle.axe_report.proofs.Letters.{AreLetters, are_letters}
use Rattle.axe_report.proofs.Numerals.{decimal_digits, name_unique}
use Rattle.axe_report.proofs.Counts.{count_split}
use Rattle.axe_report.proofs.Plain.{names_none, names_more}

-- ---- no dots

-- no byte is a dot
abbrev pub HasNoDot : List ℕ → Type 0
HasNoDot text = Passes (λ byte. not (eqb byte 46)) text

no_dot : (c : ℕ) → (c ≡ 46 → ⊥) → not (eqb c 46) ≡ true
no_dot c differs = ap not (ne_eqb c 46 differs)

digits_without_dot : (text : List ℕ) → Passes is_digit text → HasNoDot text
digits_without_dot [] h = tt
digits_without_dot (c ∷ text) h =
    let low = leb-true 48 c (and_parts (leb 48 c) (ltb c 58) h.0).0 in
    (no_dot c (λ e. omega (arith, e, low)), digits_without_dot text h.1)

letters_without_dot : (text : List ℕ) → AreLetters text → HasNoDot text
letters_without_dot [] h = tt
letters_without_dot (c ∷ text) h = (no_dot c (λ e. omega (arith, e, h.0)), letters_without_dot text h.2)

name_without_dot : (dim number : ℕ) → dim < 2 ^ 64 → HasNoDot (constituent_name dim number)
unfolding constituent_name
name_without_dot dim number small =
    passes_append (λ byte. not (eqb byte 46)) (decimal dim) (letters number) (digits_without_dot (decimal dim) (decimal_digits dim small))
    (letters_without_dot (letters number) (are_letters number))

-- dimensions whose numerals are told apart
abbrev pub AreSmall : List ℕ → Type 0
AreSmall dims = AllByRecursion (λ dim. dim < 2 ^ 64) dims

names_after_without_dot : (earlier dims : List ℕ) → AreSmall dims → AllByRecursion HasNoDot (names_after earlier dims)
names_after_without_dot earlier [] small = rw (names_none earlier) tt
names_after_without_dot earlier (dim ∷ dims) small =
    rw (names_more earlier dim dims) (name_without_dot dim (count_of dim earlier) small.0, names_after_without_dot (earlier ++ dim ∷ []) dims small.1)

pub names_without_dot : (dims : List ℕ) → AreSmall dims → AllByRecursion HasNoDot (names_of dims)
unfolding names_of
names_without_dot dims small = names_after_without_dot [] dims small

-- ---- all different

abbrev pub IsNotAmong : List ℕ → List (List ℕ) → Type 0
IsNotAmong name names = AllByRecursion (λ other. name ≢ other) names

abbrev pub AreDifferent : List (List ℕ) → Type 0
AreDifferent [] = Unit {0}
AreDifferent (name ∷ names) = IsNotAmong name names × AreDifferent names

count_grows : (d x : ℕ) (earlier : List ℕ) → count_of d earlier ≤ count_of d (earlier ++ x ∷ [])
unfolding count_of
count_grows d x earlier = omega (arith, sum_by_push (λ (y : ℕ). cond (eqb y d) 1 0) earlier x)

count_grows_here : (d : ℕ) (earlier : List ℕ) → count_of d earlier < count_of d (earlier ++ d ∷ [])
count_grows_here d earlier = omega (arith, count_split d earlier [])

-- a name whose number has passed doesn't come again
later_differ : (d number : ℕ) (earlier dims : List ℕ) → d < 2 ^ 64 → AreSmall dims → number < count_of d earlier →
    IsNotAmong (constituent_name d number) (names_after earlier dims)
later_differ d number earlier [] small all below = rw (names_none earlier) tt
later_differ d number earlier (x ∷ dims) small all below =
    rw (names_more earlier x dims) (differs, later_differ d number (earlier ++ x ∷ []) dims small all.1 (omega (arith, below, count_grows d x earlier)))
  where
    differs : constituent_name d number ≢ constituent_name x (count_of x earlier)
    differs e =
        let parts = name_unique d x number (count_of x earlier) small all.0 e in
        let here : count_of d earlier ≡ number = ap (λ k. count_of k earlier) parts.0 ∙ sym parts.1 in
        omega (arith, here, below)

names_after_differ : (earlier dims : List ℕ) → AreSmall dims → AreDifferent (names_after earlier dims)
names_after_differ earlier [] small = rw (names_none earlier) tt
names_after_differ earlier (dim ∷ dims) small =
    rw (names_more earlier dim dims) (
      later_differ dim (count_of dim earlier) (earlier ++ dim ∷ []) dims small.0 small.1 (count_grows_here dim earlier),
      names_after_differ (earlier ++ dim ∷ []) dims small.1,
    )

pub names_differ : (dims : List ℕ) → AreSmall dims → AreDifferent (names_of dims)
unfolding names_of
names_differ dims small = names_after_differ [] dims small

-- ---- before and after a dot

same_after_dot : (x y : List ℕ) → ◌≡◌ {A = List ℕ} (46 ∷ x) (46 ∷ y) → x ≡ y
same_after_dot x y e = cc

-- a name without a dot, behind another one, is told by what has it before its first dot
pub parts_at_dot : (name c d x y : List ℕ) → HasNoDot c → HasNoDot d → (name ++ c) ++ 46 ∷ x ≡ (name ++ d) ++ 46 ∷ y → (c ≡ d) × (x ≡ y)
parts_at_dot name c d x y of_c of_d e =
    let same = append_cancel_left name (c ++ 46 ∷ x) (d ++ 46 ∷ y) (sym (append_assoc name c (46 ∷ x)) ∙ e ∙ append_assoc name d (46 ∷ y)) in
    let parts = front_unique (λ byte. not (eqb byte 46)) c d (46 ∷ x) (46 ∷ y) of_c of_d refl refl same in
    (parts.0, same_after_dot x y parts.1)

pub number_after_dot : (name : List ℕ) (i j : ℕ) → i < 2 ^ 64 → j < 2 ^ 64 → name ++ 46 ∷ decimal i ≡ name ++ 46 ∷ decimal j → i ≡ j
number_after_dot name i j fi fj e =
    decimal_injective i j fi fj (same_after_dot (decimal i) (decimal j) (append_cancel_left name (46 ∷ decimal i) (46 ∷ decimal j) e))

-- what has a letter behind the dot has no number there
pub no_number_after_dot : (name rest : List ℕ) (letter number : ℕ) → 58 ≤ letter → number < 2 ^ 64 → name ++ 46 ∷ decimal number ≢ name ++ 46 ∷ letter ∷ rest
no_number_after_dot name rest letter number high small e =
    let same = same_after_dot (decimal number) (letter ∷ rest) (append_cancel_left name (46 ∷ decimal number) (46 ∷ letter ∷ rest) e) in
    let digits : Passes is_digit (letter ∷ rest) = subst (Passes is_digit) same (decimal_digits number small) in
    let low = ltb-true letter 58 (and_parts (leb 48 letter) (ltb letter 58) digits.0).1 in
    omega (arith, low, high)
