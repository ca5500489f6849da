-- A reader of numerals against their language.
use Rattle.std.proofs.Common.{◌≡◌, ℕ, zero, suc, ◌+◌, ◌*◌, ◌≤◌, Bool, true, false, not, List, [], ◌∷◌, ◌++◌, length, map, Ok, Err, refl, sym, ap, subst, ◌∙◌, inl, inr, zero-add, arith}
use Rattle.std.specs.Prelude.{IsTrue, All}
use Rattle.std.specs.Int.Digits.{number_from_digits_after}
use Rattle.std.proofs.lemmas.Bool.{cases_Bool}
use Rattle.std.proofs.lemmas.List.Elements.{All-nil, All-cons, All-head, All-tail}
use Rattle.axe_file.specs.TextGrammar.{is_white, is_digit, digit_value, is_apart, IsNumeral, numeral_value, Numeral}
use Rattle.axe_file.specs.TextReading.{Found, Reading, with_value, read_digits, read_numeral}
use Rattle.axe_file.proofs.TextSteps.{digits_on, digits_end, digits_none, digits_full, numeral_on, numeral_fails, numeral_none, digit_is_dark}
use Rattle.axe_file.proofs.TextParts.{Starts, Begins, Reads, Then, IsDark}

-- ---- a value before others

pub with_value_ok : (v : ℕ) (x : Reading) (found : Found) → with_value v x ≡ Ok found → (f : Found) × (x ≡ Ok f) × (found.values ≡ v ∷ f.values) × (found.end ≡ f.end)
with_value_ok v (Ok f) found e =
    let same : record { values = v ∷ f.values; end = f.end } ≡ found = cc in
    (f, refl, sym (ap (λ (g : Found). g.values) same), sym (ap (λ (g : Found). g.end) same))
with_value_ok v (Err k) found e = absurd (cc)

pub with_value_err : (v : ℕ) (x : Reading) (k : ℕ) → with_value v x ≡ Err k → x ≡ Err k
with_value_err v (Ok f) k e = absurd (cc)
with_value_err v (Err j) k e = e

-- ---- digits

-- the first byte, where there is one, is no digit
abbrev pub no_digit_first : List ℕ → Bool
no_digit_first [] = true
no_digit_first (b ∷ bytes) = not (is_digit b)

-- where a word of the language comes, and then white space or the end, a numeral ends
pub record EndsNumeral (L : List ℕ → List ℕ → Type 0) : Type 0 where
  pub ends : (word rest values : List ℕ) → L word values → is_apart rest ≡ true → no_digit_first (word ++ rest) ≡ true

-- up to so many digits of a numeral with this value so far, and then a word of a language
abbrev pub Digits : ℕ → ℕ → (List ℕ → List ℕ → Type 0) → List ℕ → List ℕ → Type 0
Digits room value L bytes values =
    (digits : List ℕ) × (rest : List ℕ) × (others : List ℕ) × (bytes ≡ digits ++ rest) × (length digits ≤ room) × All (λ byte. IsTrue (is_digit byte)) digits
    × (values ≡ number_from_digits_after 10 value (map digit_value digits) ∷ others) × L rest others

pub digits_stop : (room value : ℕ) (next : ℕ → List ℕ → ℕ → Reading) (bytes : List ℕ) (at : ℕ) → no_digit_first bytes ≡ true → read_digits room value next bytes at ≡ next value bytes at
digits_stop room value next [] at e = digits_none room value next at
digits_stop room value next (b ∷ bytes) at e = elim (cases_Bool (is_digit b)) [
  | inl w ↦ absurd (let h : not true ≡ true = rw w at e in cc)
  | inr d ↦ digits_end room value next b bytes at d
]

-- a reader, with a value before its own
abbrev pub valued : (List ℕ → ℕ → Reading) → ℕ → List ℕ → ℕ → Reading
valued k value bytes at = with_value value (k bytes at)

module _ (L : List ℕ → List ℕ → Type 0) (k : List ℕ → ℕ → Reading) (r : Reads L k) where
  pub no_digits : (room value : ℕ) (word others : List ℕ) → L word others → Digits room value L word (value ∷ others)
  no_digits room value word others l = ([], word, others, refl, omega arith, All-nil (λ byte. IsTrue (is_digit byte)), refl, l)

  pub one_more_digit : (room value b : ℕ) (word values : List ℕ) → is_digit b ≡ true → Digits room (value * 10 + digit_value b) L word values → Digits (suc room) value L (b ∷ word) values
  one_more_digit room value b word values w (digits, rest, others, eb, few, all, ev, l) =
      (b ∷ digits, rest, others, ap (λ (x : List ℕ). b ∷ x) eb, omega (arith, few), All-cons (λ byte. IsTrue (is_digit byte)) b digits w all, ev, l)

  pub value_sound : (room value : ℕ) (bytes : List ℕ) (at : ℕ) (found : Found) → valued k value bytes at ≡ Ok found → Starts (Digits room value L) bytes at found
  value_sound room value bytes at found e =
      let f = with_value_ok value (k bytes at) found e in
      let s = r.sound bytes at f.0 f.1 in
      let belongs = subst (λ (v : List ℕ). Digits room value L s.word v) (sym f.2) (no_digits room value s.word f.0.values s.belongs) in
      record { word = s.word; rest = s.rest; whole = s.whole; end = f.3 ∙ s.end; belongs = belongs; apart = s.apart }

  pub digits_sound : (room value : ℕ) (bytes : List ℕ) (at : ℕ) (found : Found) → read_digits room value (valued k) bytes at ≡ Ok found → Starts (Digits room value L) bytes at found
  digits_sound room value [] at found e = value_sound room value [] at found (sym (digits_none room value (valued k) at) ∙ e)
  digits_sound zero value (b ∷ bytes) at found e = value_sound zero value (b ∷ bytes) at found (sym (digits_full value (valued k) (b ∷ bytes) at) ∙ e)
  digits_sound (suc room) value (b ∷ bytes) at found e = elim (cases_Bool (is_digit b)) [
    | inl w ↦
        let s = digits_sound room (value * 10 + digit_value b) bytes (at + 1) found (sym (digits_on room value (valued k) b bytes at w) ∙ e) in
        record { word = b ∷ s.word; rest = s.rest; whole = ap (λ (x : List ℕ). b ∷ x) s.whole; end = omega (arith, s.end); belongs = one_more_digit room value b s.word found.values w s.belongs; apart = s.apart }
    | inr d ↦ value_sound (suc room) value (b ∷ bytes) at found (sym (digits_end (suc room) value (valued k) b bytes at d) ∙ e)
  ]

  pub value_progress : (room value : ℕ) (bytes : List ℕ) (at j : ℕ) → valued k value bytes at ≡ Err j → Begins (Digits room value L) bytes at j
  value_progress room value bytes at j e =
      let s = r.progress bytes at j (with_value_err value (k bytes at) j e) in
      record { front = s.front; rest = s.rest; more = s.more; values = value ∷ s.values; whole = s.whole; offset = s.offset; belongs = no_digits room value (s.front ++ s.more) s.values s.belongs }

  pub digits_progress : (room value : ℕ) (bytes : List ℕ) (at j : ℕ) → read_digits room value (valued k) bytes at ≡ Err j → Begins (Digits room value L) bytes at j
  digits_progress room value [] at j e = value_progress room value [] at j (sym (digits_none room value (valued k) at) ∙ e)
  digits_progress zero value (b ∷ bytes) at j e = value_progress zero value (b ∷ bytes) at j (sym (digits_full value (valued k) (b ∷ bytes) at) ∙ e)
  digits_progress (suc room) value (b ∷ bytes) at j e = elim (cases_Bool (is_digit b)) [
    | inl w ↦
        let s = digits_progress room (value * 10 + digit_value b) bytes (at + 1) j (sym (digits_on room value (valued k) b bytes at w) ∙ e) in
        record { front = b ∷ s.front; rest = s.rest; more = s.more; values = s.values; whole = ap (λ (x : List ℕ). b ∷ x) s.whole; offset = omega (arith, s.offset); belongs = one_more_digit room value b (s.front ++ s.more) s.values w s.belongs }
    | inr d ↦ value_progress (suc room) value (b ∷ bytes) at j (sym (digits_end (suc room) value (valued k) b bytes at d) ∙ e)
  ]

  pub digits_complete : EndsNumeral L → (digits word rest others : List ℕ) (room value at : ℕ) → length digits ≤ room → All (λ byte. IsTrue (is_digit byte)) digits → L word others → is_apart rest ≡ true
      → read_digits room value (valued k) ((digits ++ word) ++ rest) at ≡ Ok (record { values = number_from_digits_after 10 value (map digit_value digits) ∷ others; end = at + length (digits ++ word) })
  digits_complete ends [] word rest others room value at few all l a =
      digits_stop room value (valued k) (word ++ rest) at (ends.ends word rest others l a) ∙ ap (λ (x : Reading). with_value value x) (r.complete word rest others at l a)
  digits_complete ends (b ∷ digits) word rest others zero value at few all l a = absurd (omega (arith, few))
  digits_complete ends (b ∷ digits) word rest others (suc room) value at few all l a =
      digits_on room value (valued k) b ((digits ++ word) ++ rest) at (All-head (λ byte. IsTrue (is_digit byte)) b digits all)
      ∙ digits_complete ends digits word rest others room (value * 10 + digit_value b) (at + 1) (omega (arith, few)) (All-tail (λ byte. IsTrue (is_digit byte)) b digits all) l a
      ∙ ap (λ (n : ℕ). Ok (record { values = number_from_digits_after 10 (value * 10 + digit_value b) (map digit_value digits) ∷ others; end = n })) (omega arith)

  pub value_local : (value : ℕ) (p : List ℕ) (b : ℕ) (u v : List ℕ) (at j : ℕ) → j ≡ at + length p → valued k value (p ++ b ∷ u) at ≡ Err j → valued k value (p ++ b ∷ v) at ≡ Err j
  value_local value p b u v at j o e =
      ap (λ (x : Reading). with_value value x) (r.local p b u v at j o (with_value_err value (k (p ++ b ∷ u) at) j e))

  pub digits_local : (room value : ℕ) (p : List ℕ) (b : ℕ) (u v : List ℕ) (at j : ℕ) → j ≡ at + length p
      → read_digits room value (valued k) (p ++ b ∷ u) at ≡ Err j → read_digits room value (valued k) (p ++ b ∷ v) at ≡ Err j
  digits_local zero value p b u v at j o e =
      digits_full value (valued k) (p ++ b ∷ v) at ∙ value_local value p b u v at j o (sym (digits_full value (valued k) (p ++ b ∷ u) at) ∙ e)
  digits_local (suc room) value [] b u v at j o e = elim (cases_Bool (is_digit b)) [
    | inl w ↦
        let s = digits_progress room (value * 10 + digit_value b) u (at + 1) j (sym (digits_on room value (valued k) b u at w) ∙ e) in
        absurd (omega (arith, s.offset, o))
    | inr d ↦ digits_end (suc room) value (valued k) b v at d ∙ value_local value [] b u v at j o (sym (digits_end (suc room) value (valued k) b u at d) ∙ e)
  ]
  digits_local (suc room) value (c ∷ p) b u v at j o e = elim (cases_Bool (is_digit c)) [
    | inl w ↦
        digits_on room value (valued k) c (p ++ b ∷ v) at w
        ∙ digits_local room (value * 10 + digit_value c) p b u v (at + 1) j (omega (arith, o)) (sym (digits_on room value (valued k) c (p ++ b ∷ u) at w) ∙ e)
    | inr d ↦ digits_end (suc room) value (valued k) c (p ++ b ∷ v) at d ∙ value_local value (c ∷ p) b u v at j o (sym (digits_end (suc room) value (valued k) c (p ++ b ∷ u) at d) ∙ e)
  ]

  -- ---- numerals

  pub numeral_from_digits : (b : ℕ) (word values : List ℕ) → is_digit b ≡ true → Digits 8 (digit_value b) L word values → Then Numeral L (b ∷ word) values
  unfolding numeral_value
  numeral_from_digits b word values w (digits, rest, others, eb, few, all, ev, l) =
      let numeral : IsNumeral (b ∷ digits) = record { some_digit = omega arith; not_too_many = omega (arith, few); digits = All-cons (λ byte. IsTrue (is_digit byte)) b digits w all } in
      let value : numeral_value (b ∷ digits) ≡ number_from_digits_after 10 (digit_value b) (map digit_value digits) = ap (λ (n : ℕ). number_from_digits_after 10 n (map digit_value digits)) (zero-add (digit_value b)) in
      (b ∷ digits, rest, numeral_value (b ∷ digits) ∷ [], others, ap (λ (x : List ℕ). b ∷ x) eb, ev ∙ ap (λ (n : ℕ). n ∷ others) (sym value), (numeral, refl), l)

  pub some_numeral : Then Numeral L (48 ∷ r.some.0) (0 ∷ r.some.1)
  unfolding is_digit digit_value
  some_numeral = numeral_from_digits 48 r.some.0 (0 ∷ r.some.1) refl (no_digits 8 0 r.some.0 r.some.1 r.some.2)

  pub numeral_sound : (bytes : List ℕ) (at : ℕ) (found : Found) → read_numeral (valued k) bytes at ≡ Ok found → Starts (Then Numeral L) bytes at found
  numeral_sound [] at found e = absurd (cc (numeral_none (valued k) at))
  numeral_sound (b ∷ bytes) at found e = elim (cases_Bool (is_digit b)) [
    | inl w ↦
        let s = digits_sound 8 (digit_value b) bytes (at + 1) found (sym (numeral_on (valued k) b bytes at w) ∙ e) in
        record { word = b ∷ s.word; rest = s.rest; whole = ap (λ (x : List ℕ). b ∷ x) s.whole; end = omega (arith, s.end); belongs = numeral_from_digits b s.word found.values w s.belongs; apart = s.apart }
    | inr d ↦ absurd (cc (numeral_fails (valued k) b bytes at d))
  ]

  pub numeral_missing : (bytes : List ℕ) (at j : ℕ) → at ≡ j → Begins (Then Numeral L) bytes at j
  numeral_missing bytes at j o =
      record { front = []; rest = bytes; more = 48 ∷ r.some.0; values = 0 ∷ r.some.1; whole = refl; offset = omega (arith, o); belongs = some_numeral }

  pub numeral_progress : (bytes : List ℕ) (at j : ℕ) → read_numeral (valued k) bytes at ≡ Err j → Begins (Then Numeral L) bytes at j
  numeral_progress [] at j e = numeral_missing [] at j (cc (numeral_none (valued k) at))
  numeral_progress (b ∷ bytes) at j e = elim (cases_Bool (is_digit b)) [
    | inl w ↦
        let s = digits_progress 8 (digit_value b) bytes (at + 1) j (sym (numeral_on (valued k) b bytes at w) ∙ e) in
        record { front = b ∷ s.front; rest = s.rest; more = s.more; values = s.values; whole = ap (λ (x : List ℕ). b ∷ x) s.whole; offset = omega (arith, s.offset); belongs = numeral_from_digits b (s.front ++ s.more) s.values w s.belongs }
    | inr d ↦ numeral_missing (b ∷ bytes) at j (cc (numeral_fails (valued k) b bytes at d))
  ]

  pub numeral_complete_by : EndsNumeral L → (first word rest others : List ℕ) (at : ℕ) → IsNumeral first → L word others → is_apart rest ≡ true
      → read_numeral (valued k) ((first ++ word) ++ rest) at ≡ Ok (record { values = numeral_value first ∷ others; end = at + length (first ++ word) })
  unfolding numeral_value
  numeral_complete_by ends [] word rest others at n l a = absurd (omega (arith, n.some_digit))
  numeral_complete_by ends (b ∷ digits) word rest others at n l a =
      numeral_on (valued k) b ((digits ++ word) ++ rest) at (All-head (λ byte. IsTrue (is_digit byte)) b digits n.digits)
      ∙ digits_complete ends digits word rest others 8 (digit_value b) (at + 1) (omega (arith, n.not_too_many)) (All-tail (λ byte. IsTrue (is_digit byte)) b digits n.digits) l a
      ∙ ap (λ (x : ℕ). Ok (record { values = number_from_digits_after 10 (digit_value b) (map digit_value digits) ∷ others; end = x })) (omega arith)
      ∙ ap (λ (x : ℕ). Ok (record { values = number_from_digits_after 10 x (map digit_value digits) ∷ others; end = at + length (b ∷ digits ++ word) })) (sym (zero-add (digit_value b)))

  pub numeral_local : (p : List ℕ) (b : ℕ) (u v : List ℕ) (at j : ℕ) → j ≡ at + length p → read_numeral (valued k) (p ++ b ∷ u) at ≡ Err j → read_numeral (valued k) (p ++ b ∷ v) at ≡ Err j
  numeral_local [] b u v at j o e = elim (cases_Bool (is_digit b)) [
    | inl w ↦
        let s = digits_progress 8 (digit_value b) u (at + 1) j (sym (numeral_on (valued k) b u at w) ∙ e) in
        absurd (omega (arith, s.offset, o))
    | inr d ↦ numeral_fails (valued k) b v at d ∙ sym (numeral_fails (valued k) b u at d) ∙ e
  ]
  numeral_local (c ∷ p) b u v at j o e = elim (cases_Bool (is_digit c)) [
    | inl w ↦
        numeral_on (valued k) c (p ++ b ∷ v) at w
        ∙ digits_local 8 (digit_value c) p b u v (at + 1) j (omega (arith, o)) (sym (numeral_on (valued k) c (p ++ b ∷ u) at w) ∙ e)
    | inr d ↦ numeral_fails (valued k) c (p ++ b ∷ v) at d ∙ sym (numeral_fails (valued k) c (p ++ b ∷ u) at d) ∙ e
  ]

  pub reads_numeral : EndsNumeral L → Reads (Then Numeral L) (read_numeral (valued k))
  reads_numeral ends = record {
    some = (48 ∷ r.some.0, 0 ∷ r.some.1, some_numeral);
    sound = numeral_sound;
    progress = numeral_progress;
    complete = λ bytes rest values at (first, word, own, others, eb, ev, (numeral, is), l) a.
        let same : values ≡ numeral_value first ∷ others = ev ∙ ap (λ (x : List ℕ). x ++ others) is in
        rw (eb, same) (numeral_complete_by ends first word rest others at numeral l a);
    local = numeral_local;
  }

dark_first : (bytes first rest : List ℕ) → bytes ≡ first ++ rest → IsNumeral first → (c : ℕ) × (t : List ℕ) × (bytes ≡ c ∷ t) × (is_white c ≡ false)
dark_first bytes [] rest eb n = absurd (omega (arith, n.some_digit))
dark_first bytes (c ∷ first) rest eb n = (c, first ++ rest, eb, digit_is_dark c (All-head (λ byte. IsTrue (is_digit byte)) c first n.digits))

-- a numeral begins with a digit, which is no white space
pub dark_numeral : (L : List ℕ → List ℕ → Type 0) → IsDark (Then Numeral L)
dark_numeral L = record {
  first = λ bytes values (first, rest, own, others, eb, ev, (numeral, is), l). dark_first bytes first rest eb numeral;
}
