-- Numerals and names at the front of bytes: each is told apart from what follows it.
use Rattle.std.proofs.Common.{◌≡◌, ℕ, ◌+◌, ◌%◌, ◌^◌, ◌<◌, ◌≤◌, Bool, true, false, not, eqb, leb, ltb, List, [], ◌∷◌, ◌++◌, length, decimal, refl, sym, ◌∙◌, append-nil, arith}
use Rattle.std.proofs.lemmas.Bool.{and_parts, and_from, ne_eqb, leb-true, le-leb, lt-ltb, le-ltb}
use Rattle.std.proofs.lemmas.Fmt.{decimal_by_steps, decimal_injective}
use Rattle.axe_report.specs.Fronts.{is_digit, is_no_separator, Stops}
use Rattle.axe_report.specs.Names.{letters, constituent_name}
use Rattle.axe_report.proofs.Fronts.{Passes, passes_append, front_unique, cancel_front}
use Rattle.axe_report.proofs.Letters.{AreLetters, are_letters, some_letter, letters_injective}

pub digit_passes : (d : ℕ) → d < 10 → is_digit (48 + d) ≡ true
digit_passes d lt = and_from (leb 48 (48 + d)) (ltb (48 + d) 58) (le-leb 48 (48 + d) (omega arith)) (lt-ltb (48 + d) 58 (omega arith))

pub decimal_digits : (n : ℕ) → n < 2 ^ 64 → Passes is_digit (decimal n)
decimal_digits =
    decimal_by_steps (λ n ds. Passes is_digit ds) (λ n lt. (digit_passes n lt, tt))
    (λ n ds ge h. passes_append is_digit ds ((48 + n % 10) ∷ []) h (digit_passes (n % 10) (omega arith), tt))

not_false : (b : Bool) → b ≡ false → not b ≡ true
not_false b e = rw e refl

dark_from : (c : ℕ) → (c ≡ 32 → ⊥) → (c ≡ 10 → ⊥) → is_no_separator c ≡ true
dark_from c a b = and_from (not (eqb c 32)) (not (eqb c 10)) (not_false (eqb c 32) (ne_eqb c 32 a)) (not_false (eqb c 10) (ne_eqb c 10 b))

dark_digits : (ds : List ℕ) → Passes is_digit ds → Passes is_no_separator ds
dark_digits [] h = tt
dark_digits (c ∷ ds) h =
    let low = leb-true 48 c (and_parts (leb 48 c) (ltb c 58) h.0).0 in
    (dark_from c (λ e. omega arith) (λ e. omega arith), dark_digits ds h.1)

dark_letters : (w : List ℕ) → AreLetters w → Passes is_no_separator w
dark_letters [] h = tt
dark_letters (c ∷ w) h = (dark_from c (λ e. omega (arith, h.0)) (λ e. omega (arith, h.0)), dark_letters w h.2)

stops_letters : (w rest : List ℕ) → AreLetters w → 1 ≤ length w → Stops is_digit (w ++ rest)
stops_letters [] rest h some = absurd (omega arith)
stops_letters (c ∷ w) rest h some =
    let high : ltb c 58 ≡ false = le-ltb c 58 (omega (arith, h.0)) in
    let low : leb 48 c ≡ true = le-leb 48 c (omega (arith, h.0)) in
    rw (low, high) refl

-- letters, and whatever comes after them, begin with no digit
pub letters_stop : (k : ℕ) (rest : List ℕ) → Stops is_digit (letters k ++ rest)
letters_stop k rest = stops_letters (letters k) rest (are_letters k) (some_letter k)

letters_alone_stop : (k : ℕ) → Stops is_digit (letters k)
letters_alone_stop k = rw (← append-nil (letters k)) (letters_stop k [])

pub name_dark : (d k : ℕ) → d < 2 ^ 64 → Passes is_no_separator (constituent_name d k)
unfolding constituent_name
name_dark d k small = passes_append is_no_separator (decimal d) (letters k) (dark_digits (decimal d) (decimal_digits d small)) (dark_letters (letters k) (are_letters k))

pub numeral_unique : (m n : ℕ) (x y : List ℕ) → m < 2 ^ 64 → n < 2 ^ 64 → Stops is_digit x → Stops is_digit y → decimal m ++ x ≡ decimal n ++ y → (m ≡ n) × (x ≡ y)
numeral_unique m n x y fm fn sx sy e =
    let parts = front_unique is_digit (decimal m) (decimal n) x y (decimal_digits m fm) (decimal_digits n fn) sx sy e in
    (decimal_injective m n fm fn parts.0, parts.1)

-- the same after a word
pub setting_unique : (word text : List ℕ) (m n : ℕ) (x y : List ℕ) → m < 2 ^ 64 → n < 2 ^ 64 → Stops is_digit x → Stops is_digit y
    → text ≡ word ++ (decimal m ++ x) → text ≡ word ++ (decimal n ++ y) → (m ≡ n) × (x ≡ y)
setting_unique word text m n x y fm fn sx sy a b = numeral_unique m n x y fm fn sx sy (cancel_front word (decimal m ++ x) (decimal n ++ y) (sym a ∙ b))

-- names tell the dimension and the number
pub name_unique : (d e j k : ℕ) → d < 2 ^ 64 → e < 2 ^ 64 → constituent_name d j ≡ constituent_name e k → (d ≡ e) × (j ≡ k)
unfolding constituent_name
name_unique d e j k fd fe same =
    let parts = numeral_unique d e (letters j) (letters k) fd fe (letters_alone_stop j) (letters_alone_stop k) same in
    (parts.0, letters_injective j k parts.1)
