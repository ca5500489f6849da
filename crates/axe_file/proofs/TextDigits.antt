-- The digits after a header, read from left to right.
use Rattle.std.proofs.Common.{◌≡◌, ℕ, zero, suc, ◌+◌, ◌-◌, ◌<◌, true, false, ◌||◌, eqb, List, [], ◌∷◌, ◌++◌, length, Option, Some, None, refl, sym, ap, subst, ◌∙◌, inl, inr, ne_eqb, append-nil, arith}
use Rattle.std.specs.Prelude.{IsTrue}
use Rattle.std.specs.List.{filter}
use Rattle.std.proofs.lemmas.Bool.{cases_Bool, not-true}
use Rattle.std.proofs.lemmas.List.Elements.{All-nil, All-cons, All-head, All-tail}
use Rattle.axe_file.specs.TextGrammar.{is_white, is_dark, is_element_digit, AreElementDigits}
use Rattle.axe_file.specs.TextReading.{digits_fault}
use Rattle.axe_file.specs.declared.fault.FileFault.{FileFault}
use Rattle.axe_file.specs.declared.fault.FileFault.TheVariants.{BadDigit, TooFewDigits, TrailingText}

-- ---- bytes that are no white space

pub white_no_dark : (b : ℕ) → is_white b ≡ true → is_dark b ≡ false
unfolding is_dark
white_no_dark b w = rw w refl

pub dark_no_white : (b : ℕ) → is_white b ≡ false → is_dark b ≡ true
unfolding is_dark
dark_no_white b d = rw d refl

pub white_from_dark : (b : ℕ) → is_dark b ≡ true → is_white b ≡ false
unfolding is_dark
white_from_dark b d = not-true (is_white b) d

pub dark_after_white : (b : ℕ) (bytes : List ℕ) → is_white b ≡ true → filter is_dark (b ∷ bytes) ≡ filter is_dark bytes
dark_after_white b bytes w = rw (white_no_dark b w) refl

pub dark_after_dark : (b : ℕ) (bytes : List ℕ) → is_white b ≡ false → filter is_dark (b ∷ bytes) ≡ b ∷ filter is_dark bytes
dark_after_dark b bytes d = rw (dark_no_white b d) refl

-- ---- one byte

pub fault_white : (o w b : ℕ) (bytes : List ℕ) (at : ℕ) → is_white b ≡ true → digits_fault o w (b ∷ bytes) at ≡ digits_fault o w bytes (at + 1)
unfolding digits_fault
fault_white o w b bytes at e = rw e refl

pub fault_trailing : (o b : ℕ) (bytes : List ℕ) (at : ℕ) → is_white b ≡ false → digits_fault o 0 (b ∷ bytes) at ≡ Some (TrailingText at)
unfolding digits_fault
fault_trailing o b bytes at d = rw d refl

pub fault_digit : (o w b : ℕ) (bytes : List ℕ) (at : ℕ) → is_white b ≡ false → is_element_digit o b ≡ true → digits_fault o (suc w) (b ∷ bytes) at ≡ digits_fault o w bytes (at + 1)
unfolding digits_fault
fault_digit o w b bytes at d e =
    let some : eqb (suc w) 0 ≡ false = ne_eqb (suc w) 0 (λ z. omega (arith, z)) in
    let less : suc w - 1 ≡ w = omega arith in
    rw (d, some, e, less) refl

pub fault_bad : (o w b : ℕ) (bytes : List ℕ) (at : ℕ) → is_white b ≡ false → is_element_digit o b ≡ false → digits_fault o (suc w) (b ∷ bytes) at ≡ Some (BadDigit at)
unfolding digits_fault
fault_bad o w b bytes at d e =
    let some : eqb (suc w) 0 ≡ false = ne_eqb (suc w) 0 (λ z. omega (arith, z)) in
    rw (d, some, e) refl

pub fault_none : (o at : ℕ) → digits_fault o 0 [] at ≡ None
unfolding digits_fault
fault_none o at = refl

pub fault_few : (o w at : ℕ) → digits_fault o (suc w) [] at ≡ Some TooFewDigits
unfolding digits_fault
fault_few o w at =
    let some : eqb (suc w) 0 ≡ false = ne_eqb (suc w) 0 (λ z. omega (arith, z)) in
    rw some refl

-- ---- a front without fault

-- white space or the digit of an element
abbrev pub IsFit : ℕ → ℕ → Type 0
IsFit o b = IsTrue (is_white b || is_element_digit o b)

pub fit_white : (o b : ℕ) → is_white b ≡ true → IsFit o b
fit_white o b w = rw w refl

pub fit_digit : (o b : ℕ) → is_white b ≡ false → is_element_digit o b ≡ true → IsFit o b
fit_digit o b d e = rw (d, e) refl

pub digit_if_fit : (o b : ℕ) → is_white b ≡ false → IsFit o b → is_element_digit o b ≡ true
digit_if_fit o b d f = rw d at f

pub after_front : (o : ℕ) (before tail : List ℕ) (w at : ℕ) → AreElementDigits o before → digits_fault o (length (filter is_dark before) + w) (before ++ tail) at ≡ digits_fault o w tail (at + length before)
after_front o [] tail w at all =
    let none : 0 + w ≡ w = omega arith in
    let here : at ≡ at + 0 = omega arith in
    ap (λ (n : ℕ). digits_fault o n tail at) none ∙ ap (λ (n : ℕ). digits_fault o w tail n) here
after_front o (b ∷ before) tail w at all =
    let rest = All-tail (IsFit o) b before all in
    let place : at + 1 + length before ≡ at + length (b ∷ before) = omega arith in
    elim (cases_Bool (is_white b)) [
      | inl e ↦
          ap (λ (x : List ℕ). digits_fault o (length x + w) (b ∷ (before ++ tail)) at) (dark_after_white b before e)
          ∙ fault_white o (length (filter is_dark before) + w) b (before ++ tail) at e
          ∙ after_front o before tail w (at + 1) rest
          ∙ ap (λ (n : ℕ). digits_fault o w tail n) place
      | inr d ↦
          let more : length (b ∷ filter is_dark before) + w ≡ suc (length (filter is_dark before) + w) = omega arith in
          ap (λ (x : List ℕ). digits_fault o (length x + w) (b ∷ (before ++ tail)) at) (dark_after_dark b before d)
          ∙ ap (λ (n : ℕ). digits_fault o n (b ∷ (before ++ tail)) at) more
          ∙ fault_digit o (length (filter is_dark before) + w) b (before ++ tail) at d (digit_if_fit o b d (All-head (IsFit o) b before all))
          ∙ after_front o before tail w (at + 1) rest
          ∙ ap (λ (n : ℕ). digits_fault o w tail n) place
    ]

-- ---- what a fault says

-- at the offset k stands a byte that is no white space, and before it only white space and so many digits
pub record StandsAt (o : ℕ) (bytes : List ℕ) (at k count byte : ℕ) : Type 0 where
  pub before : List ℕ
  pub after : List ℕ
  pub whole : bytes ≡ before ++ byte ∷ after
  pub offset : k ≡ at + length before
  pub fit : AreElementDigits o before
  pub counted : length (filter is_dark before) ≡ count
  pub dark : is_dark byte ≡ true

abbrev pub IsDigitsFault : ℕ → ℕ → List ℕ → ℕ → FileFault → Type 0
IsDigitsFault o w bytes at (BadDigit k) = (count : ℕ) × (byte : ℕ) × StandsAt o bytes at k count byte × (count < w) × (is_element_digit o byte ≡ true → ⊥)
IsDigitsFault o w bytes at TooFewDigits = AreElementDigits o bytes × (length (filter is_dark bytes) < w)
IsDigitsFault o w bytes at (TrailingText k) = (byte : ℕ) × StandsAt o bytes at k w byte
IsDigitsFault o w bytes at _ = ⊥

stands_here : (o b : ℕ) (bytes : List ℕ) (at : ℕ) → is_white b ≡ false → StandsAt o (b ∷ bytes) at at 0 b
stands_here o b bytes at d = record { before = []; after = bytes; whole = refl; offset = omega arith; fit = All-nil (IsFit o); counted = refl; dark = dark_no_white b d }

stands_white : (o b : ℕ) (bytes : List ℕ) (at k count byte : ℕ) → is_white b ≡ true → StandsAt o bytes (at + 1) k count byte → StandsAt o (b ∷ bytes) at k count byte
stands_white o b bytes at k count byte w s = record {
  before = b ∷ s.before;
  after = s.after;
  whole = ap (λ (x : List ℕ). b ∷ x) s.whole;
  offset = omega (arith, s.offset);
  fit = All-cons (IsFit o) b s.before (fit_white o b w) s.fit;
  counted = ap length (dark_after_white b s.before w) ∙ s.counted;
  dark = s.dark;
}

stands_digit : (o b : ℕ) (bytes : List ℕ) (at k count byte : ℕ) → is_white b ≡ false → is_element_digit o b ≡ true → StandsAt o bytes (at + 1) k count byte → StandsAt o (b ∷ bytes) at k (suc count) byte
stands_digit o b bytes at k count byte d e s = record {
  before = b ∷ s.before;
  after = s.after;
  whole = ap (λ (x : List ℕ). b ∷ x) s.whole;
  offset = omega (arith, s.offset);
  fit = All-cons (IsFit o) b s.before (fit_digit o b d e) s.fit;
  counted = ap length (dark_after_dark b s.before d) ∙ ap suc s.counted;
  dark = s.dark;
}

more_white : (o w b : ℕ) (bytes : List ℕ) (at : ℕ) (f : FileFault) → is_white b ≡ true → IsDigitsFault o w bytes (at + 1) f → IsDigitsFault o w (b ∷ bytes) at f
more_white o w b bytes at (BadDigit k) e (count, byte, s, few, bad) = (count, byte, stands_white o b bytes at k count byte e s, few, bad)
more_white o w b bytes at TooFewDigits e (fit, few) =
    (All-cons (IsFit o) b bytes (fit_white o b e) fit, subst (λ (x : List ℕ). length x < w) (sym (dark_after_white b bytes e)) few)
more_white o w b bytes at (TrailingText k) e (byte, s) = (byte, stands_white o b bytes at k w byte e s)
more_white o w b bytes at _ e h = absurd h

more_digits : (o w b : ℕ) (bytes : List ℕ) (at : ℕ) (f : FileFault) → is_white b ≡ false → is_element_digit o b ≡ true → IsDigitsFault o w bytes (at + 1) f → IsDigitsFault o (suc w) (b ∷ bytes) at f
more_digits o w b bytes at (BadDigit k) d e (count, byte, s, few, bad) = (suc count, byte, stands_digit o b bytes at k count byte d e s, omega (arith, few), bad)
more_digits o w b bytes at TooFewDigits d e (fit, few) =
    (All-cons (IsFit o) b bytes (fit_digit o b d e) fit, subst (λ (x : List ℕ). length x < suc w) (sym (dark_after_dark b bytes d)) (omega (arith, few)))
more_digits o w b bytes at (TrailingText k) d e (byte, s) = (byte, stands_digit o b bytes at k w byte d e s)
more_digits o w b bytes at _ d e h = absurd h

same_fault : (o w : ℕ) (bytes : List ℕ) (at : ℕ) (g f : FileFault) (x : Option FileFault) → x ≡ Some g → x ≡ Some f → IsDigitsFault o w bytes at g → IsDigitsFault o w bytes at f
same_fault o w bytes at g f x a b h =
    let same : g ≡ f = cc in
    subst (λ (y : FileFault). IsDigitsFault o w bytes at y) same h

pub fault_is : (o w : ℕ) (bytes : List ℕ) (at : ℕ) (f : FileFault) → digits_fault o w bytes at ≡ Some f → IsDigitsFault o w bytes at f
fault_is o zero [] at f e = absurd (cc (fault_none o at))
fault_is o (suc w) [] at f e = same_fault o (suc w) [] at TooFewDigits f (digits_fault o (suc w) [] at) (fault_few o w at) e (All-nil (IsFit o), omega arith)
fault_is o zero (b ∷ bytes) at f e = elim (cases_Bool (is_white b)) [
  | inl w ↦ more_white o zero b bytes at f w (fault_is o zero bytes (at + 1) f (sym (fault_white o zero b bytes at w) ∙ e))
  | inr d ↦ same_fault o zero (b ∷ bytes) at (TrailingText at) f (digits_fault o zero (b ∷ bytes) at) (fault_trailing o b bytes at d) e (b, stands_here o b bytes at d)
]
fault_is o (suc n) (b ∷ bytes) at f e = elim (cases_Bool (is_white b)) [
  | inl w ↦ more_white o (suc n) b bytes at f w (fault_is o (suc n) bytes (at + 1) f (sym (fault_white o (suc n) b bytes at w) ∙ e))
  | inr d ↦ elim (cases_Bool (is_element_digit o b)) [
    | inl g ↦ more_digits o n b bytes at f d g (fault_is o n bytes (at + 1) f (sym (fault_digit o n b bytes at d g) ∙ e))
    | inr g ↦
        same_fault o (suc n) (b ∷ bytes) at (BadDigit at) f (digits_fault o (suc n) (b ∷ bytes) at) (fault_bad o n b bytes at d g) e (0, b, stands_here o b bytes at d, omega arith, λ t. absurd (cc))
  ]
]

-- white space and so many digits, and nothing else
pub record AreAllDigits (o w : ℕ) (bytes : List ℕ) : Type 0 where
  pub fit : AreElementDigits o bytes
  pub counted : length (filter is_dark bytes) ≡ w

pub faultless_digits : (o w : ℕ) (bytes : List ℕ) (at : ℕ) → digits_fault o w bytes at ≡ None → AreAllDigits o w bytes
faultless_digits o zero [] at e = record { fit = All-nil (IsFit o); counted = refl }
faultless_digits o (suc w) [] at e = absurd (cc (fault_few o w at))
faultless_digits o zero (b ∷ bytes) at e = elim (cases_Bool (is_white b)) [
  | inl w ↦
      let h = faultless_digits o zero bytes (at + 1) (sym (fault_white o zero b bytes at w) ∙ e) in
      record { fit = All-cons (IsFit o) b bytes (fit_white o b w) h.fit; counted = ap length (dark_after_white b bytes w) ∙ h.counted }
  | inr d ↦ absurd (cc (fault_trailing o b bytes at d))
]
faultless_digits o (suc n) (b ∷ bytes) at e = elim (cases_Bool (is_white b)) [
  | inl w ↦
      let h = faultless_digits o (suc n) bytes (at + 1) (sym (fault_white o (suc n) b bytes at w) ∙ e) in
      record { fit = All-cons (IsFit o) b bytes (fit_white o b w) h.fit; counted = ap length (dark_after_white b bytes w) ∙ h.counted }
  | inr d ↦ elim (cases_Bool (is_element_digit o b)) [
    | inl g ↦
        let h = faultless_digits o n bytes (at + 1) (sym (fault_digit o n b bytes at d g) ∙ e) in
        record { fit = All-cons (IsFit o) b bytes (fit_digit o b d g) h.fit; counted = ap length (dark_after_dark b bytes d) ∙ ap suc h.counted }
    | inr g ↦ absurd (cc (fault_bad o n b bytes at d g))
  ]
]

-- ---- faults where they are said

pub no_fault : (o w : ℕ) (bytes : List ℕ) (at : ℕ) → AreAllDigits o w bytes → digits_fault o w bytes at ≡ None
no_fault o w bytes at h =
    let enough : w ≡ length (filter is_dark bytes) + 0 = omega (arith, h.counted) in
    ap (λ (n : ℕ). digits_fault o n bytes at) enough
    ∙ ap (λ (x : List ℕ). digits_fault o (length (filter is_dark bytes) + 0) x at) (sym (append-nil bytes))
    ∙ after_front o bytes [] 0 at h.fit
    ∙ fault_none o (at + length bytes)

-- what is still wanted after so many of more
still_wanted : (n w : ℕ) → n < w → (m : ℕ) × (w ≡ n + suc m)
still_wanted n w lt = (w - n - 1, omega arith)

too_few : (o w : ℕ) (bytes : List ℕ) (at : ℕ) → AreElementDigits o bytes → length (filter is_dark bytes) < w → digits_fault o w bytes at ≡ Some TooFewDigits
too_few o w bytes at fit few =
    let m = still_wanted (length (filter is_dark bytes)) w few in
    ap (λ (n : ℕ). digits_fault o n bytes at) m.1
    ∙ ap (λ (x : List ℕ). digits_fault o (length (filter is_dark bytes) + suc m.0) x at) (sym (append-nil bytes))
    ∙ after_front o bytes [] (suc m.0) at fit
    ∙ fault_few o m.0 (at + length bytes)

bad_digit : (o w : ℕ) (bytes : List ℕ) (at k count byte : ℕ) → StandsAt o bytes at k count byte → count < w → (is_element_digit o byte ≡ true → ⊥) → digits_fault o w bytes at ≡ Some (BadDigit k)
bad_digit o w bytes at k count byte s few bad =
    let m = still_wanted (length (filter is_dark s.before)) w (omega (arith, s.counted, few)) in
    let other : is_element_digit o byte ≡ false = elim (cases_Bool (is_element_digit o byte)) [ inl t ↦ absurd (bad t) | inr f ↦ f ] in
    ap (λ (n : ℕ). digits_fault o n bytes at) m.1
    ∙ ap (λ (x : List ℕ). digits_fault o (length (filter is_dark s.before) + suc m.0) x at) s.whole
    ∙ after_front o s.before (byte ∷ s.after) (suc m.0) at s.fit
    ∙ fault_bad o m.0 byte s.after (at + length s.before) (white_from_dark byte s.dark) other
    ∙ ap (λ (n : ℕ). Some (BadDigit n)) (sym s.offset)

trailing_text : (o w : ℕ) (bytes : List ℕ) (at k byte : ℕ) → StandsAt o bytes at k w byte → digits_fault o w bytes at ≡ Some (TrailingText k)
trailing_text o w bytes at k byte s =
    let enough : w ≡ length (filter is_dark s.before) + 0 = omega (arith, s.counted) in
    ap (λ (n : ℕ). digits_fault o n bytes at) enough
    ∙ ap (λ (x : List ℕ). digits_fault o (length (filter is_dark s.before) + 0) x at) s.whole
    ∙ after_front o s.before (byte ∷ s.after) 0 at s.fit
    ∙ fault_trailing o byte s.after (at + length s.before) (white_from_dark byte s.dark)
    ∙ ap (λ (n : ℕ). Some (TrailingText n)) (sym s.offset)

pub is_fault : (o w : ℕ) (bytes : List ℕ) (at : ℕ) (f : FileFault) → IsDigitsFault o w bytes at f → digits_fault o w bytes at ≡ Some f
is_fault o w bytes at (BadDigit k) (count, byte, s, few, bad) = bad_digit o w bytes at k count byte s few bad
is_fault o w bytes at TooFewDigits (fit, few) = too_few o w bytes at fit few
is_fault o w bytes at (TrailingText k) (byte, s) = trailing_text o w bytes at k byte s
is_fault o w bytes at _ h = absurd h
