-- The loops that read a text, a byte at a time.
use Rattle.std.proofs.Common.{◌≡◌, ℕ, zero, suc, ◌+◌, ◌-◌, ◌*◌, ◌^◌, ◌<◌, ◌≤◌, true, false, eqb, List, [], ◌∷◌, ◌++◌, length, map, drop, get_or, Result, Ok, Err, None, Some, min, leb, ltb, ◌⊎◌, refl, sym, ap, subst, ◌∙◌, inl, inr, leb-true, ltb-true, ap₂, append_assoc, append-nil, length-append, length-drop, get_or-drop, take_at, drop_at, arith}
use Rattle.std.specs.Prelude.{All}
use Rattle.std.specs.List.{filter, prefix_len}
use Rattle.std.proofs.lemmas.Bool.{cases_Bool, cases_lt, and_parts}
use Rattle.std.proofs.lemmas.Grind.{pow_more}
use Rattle.std.proofs.lemmas.List.{drop_more, drop_all, drop-drop, length-map, length_push}
use Rattle.std.proofs.lemmas.List.Elements.{All-head, All-tail}
use Rattle.std.proofs.lemmas.List.Sums.{prefix_len_stops}
use Rattle.axe_field.specs.Order.{Order, order_number}
use Rattle.axe_matrix.specs.Matrices.{MatrixValue}
use Rattle.axe_file.specs.TextGrammar.{is_white, is_dark, is_digit, digit_value, is_element_digit}
use Rattle.axe_file.specs.TextReading.{Reading, GoesOn, read_space, read_gap, read_word, read_digits, read_numeral, read_parts, digits_fault, in_rows}
use Rattle.axe_file.specs.declared.fault.FileFault.{FileFault}
use Rattle.axe_file.specs.declared.fault.FileFault.TheVariants.{BadDigit, TooFewDigits, TrailingText}
use Rattle.axe_file.proofs.TextSteps.{space_on, space_ends, space_none, gap_on, gap_fails, gap_none, word_on, word_fails, word_none, word_done, digits_on, digits_end, digits_none, digits_full, numeral_on, numeral_fails, numeral_none}
use Rattle.axe_file.proofs.TextDigits.{dark_after_white, dark_after_dark, fault_white, fault_trailing, fault_bad, fault_none, fault_few}
use Rattle.axe_file.proofs.TextRows.{IsDigitOf}
use Rattle.axe_file.proofs.TextForms.{end_found, end_missing}

-- ---- one reader after another

pub goes_on : {T : Type 0} (r : Result T FileFault) (x y : Reading) (rest : T → Reading) → y ≡ x → GoesOn r x rest → GoesOn r y rest
goes_on (Ok found) x y rest e h = e ∙ h
goes_on (Err fault) x y rest e (k, f, h) = (k, f, e ∙ h)

-- ---- white space

pub space_is_front : (next : List ℕ → ℕ → Reading) (bytes : List ℕ) (at : ℕ) → read_space next bytes at ≡ next (drop (prefix_len is_white bytes) bytes) (at + prefix_len is_white bytes)
space_is_front next [] at = space_none next at ∙ ap (λ (n : ℕ). next [] n) (let e : at ≡ at + 0 = omega arith in e)
space_is_front next (b ∷ bytes) at = elim (cases_Bool (is_white b)) [
  | inl w ↦
      let one : prefix_len is_white (b ∷ bytes) ≡ suc (prefix_len is_white bytes) = rw w (omega arith) in
      let place : at + 1 + prefix_len is_white bytes ≡ at + suc (prefix_len is_white bytes) = omega arith in
      rw one (space_on next b bytes at w ∙ space_is_front next bytes (at + 1) ∙ ap (λ (n : ℕ). next (drop (prefix_len is_white bytes) bytes) n) place)
  | inr d ↦
      let none : prefix_len is_white (b ∷ bytes) ≡ 0 = rw d refl in
      let place : at ≡ at + 0 = omega arith in
      rw none (space_ends next b bytes at d ∙ ap (λ (n : ℕ). next (b ∷ bytes) n) place)
]

pub dark_after_front : (bytes : List ℕ) → filter is_dark bytes ≡ filter is_dark (drop (prefix_len is_white bytes) bytes)
dark_after_front [] = refl
dark_after_front (b ∷ bytes) = elim (cases_Bool (is_white b)) [
  | inl w ↦
      let one : prefix_len is_white (b ∷ bytes) ≡ suc (prefix_len is_white bytes) = rw w (omega arith) in
      rw one (dark_after_white b bytes w ∙ dark_after_front bytes)
  | inr d ↦
      let none : prefix_len is_white (b ∷ bytes) ≡ 0 = rw d refl in
      rw none refl
]

pub gap_read : (next : List ℕ → ℕ → Reading) (bytes : List ℕ) (start end : ℕ) → start < length bytes → is_white (get_or bytes start 0) ≡ true
    → end ≡ start + 1 + prefix_len is_white (drop (start + 1) bytes) → read_gap next (drop start bytes) start ≡ next (drop end bytes) end
gap_read next bytes start end lt w e =
    rw e
    (ap (λ (x : List ℕ). read_gap next x start) (drop_more bytes start 0 lt)
    ∙ gap_on next (get_or bytes start 0) (drop (start + 1) bytes) start w
    ∙ space_is_front next (drop (start + 1) bytes) (start + 1)
    ∙ ap (λ (x : List ℕ). next x (start + 1 + prefix_len is_white (drop (start + 1) bytes))) (drop-drop (prefix_len is_white (drop (start + 1) bytes)) (start + 1) bytes))

pub gap_unread : (next : List ℕ → ℕ → Reading) (bytes : List ℕ) (start : ℕ) → is_white (get_or bytes start 0) ≡ false → start < length bytes → read_gap next (drop start bytes) start ≡ Err start
gap_unread next bytes start d lt =
    ap (λ (x : List ℕ). read_gap next x start) (drop_more bytes start 0 lt) ∙ gap_fails next (get_or bytes start 0) (drop (start + 1) bytes) start d

pub gap_at_end : (next : List ℕ → ℕ → Reading) (bytes : List ℕ) (start : ℕ) → length bytes ≤ start → read_gap next (drop start bytes) start ≡ Err start
gap_at_end next bytes start le = ap (λ (x : List ℕ). read_gap next x start) (drop_all start bytes le) ∙ gap_none next start

-- ---- words

-- as many letters of the word are read
pub record WordRead (word bytes : List ℕ) (start index : ℕ) : Type 0 where
  pub within : start + index ≤ length bytes
  pub left : (next : List ℕ → ℕ → Reading) → read_word word next (drop start bytes) start ≡ read_word (drop index word) next (drop (start + index) bytes) (start + index)

word_at : (word bytes : List ℕ) (start index : ℕ) → index < length word → start + index < length bytes → (next : List ℕ → ℕ → Reading)
    → read_word (drop index word) next (drop (start + index) bytes) (start + index)
    ≡ read_word (get_or word index 0 ∷ drop (index + 1) word) next (get_or bytes (start + index) 0 ∷ drop (start + index + 1) bytes) (start + index)
word_at word bytes start index lt in' next =
    ap (λ (x : List ℕ). read_word x next (drop (start + index) bytes) (start + index)) (drop_more word index 0 lt)
    ∙ ap (λ (x : List ℕ). read_word (get_or word index 0 ∷ drop (index + 1) word) next x (start + index)) (drop_more bytes (start + index) 0 in')

pub word_more : (word bytes : List ℕ) (start index : ℕ) → WordRead word bytes start index → index < length word → start + index < length bytes → eqb (get_or bytes (start + index) 0) (get_or word index 0) ≡ true
    → WordRead word bytes start (index + 1)
word_more word bytes start index r lt in' e =
    let place : start + index + 1 ≡ start + (index + 1) = omega arith in
    record {
      within = omega arith;
      left = λ next.
          r.left next
          ∙ word_at word bytes start index lt in' next
          ∙ word_on (get_or word index 0) (drop (index + 1) word) next (get_or bytes (start + index) 0) (drop (start + index + 1) bytes) (start + index) e
          ∙ ap (λ (n : ℕ). read_word (drop (index + 1) word) next (drop n bytes) n) place;
    }

pub word_differs : (word bytes : List ℕ) (start index : ℕ) → WordRead word bytes start index → index < length word → start + index < length bytes → eqb (get_or bytes (start + index) 0) (get_or word index 0) ≡ false
    → (next : List ℕ → ℕ → Reading) → read_word word next (drop start bytes) start ≡ Err (start + index)
word_differs word bytes start index r lt in' e next =
    r.left next
    ∙ word_at word bytes start index lt in' next
    ∙ word_fails (get_or word index 0) (drop (index + 1) word) next (get_or bytes (start + index) 0) (drop (start + index + 1) bytes) (start + index) e

pub word_cut : (word bytes : List ℕ) (start index : ℕ) → WordRead word bytes start index → index < length word → length bytes ≤ start + index → (next : List ℕ → ℕ → Reading) → read_word word next (drop start bytes) start ≡ Err (start + index)
word_cut word bytes start index r lt out next =
    r.left next
    ∙ ap (λ (x : List ℕ). read_word x next (drop (start + index) bytes) (start + index)) (drop_more word index 0 lt)
    ∙ ap (λ (x : List ℕ). read_word (get_or word index 0 ∷ drop (index + 1) word) next x (start + index)) (drop_all (start + index) bytes out)
    ∙ word_none (get_or word index 0) (drop (index + 1) word) next (start + index)

pub word_ended : (word bytes : List ℕ) (start index : ℕ) → WordRead word bytes start index → length word ≤ index → (next : List ℕ → ℕ → Reading)
    → read_word word next (drop start bytes) start ≡ next (drop (start + index) bytes) (start + index)
word_ended word bytes start index r le next =
    r.left next
    ∙ ap (λ (x : List ℕ). read_word x next (drop (start + index) bytes) (start + index)) (drop_all index word le)
    ∙ word_done next (drop (start + index) bytes) (start + index)

-- ---- numerals

-- the digits up to an offset are read, and the numeral has this value so far
pub record DigitsRead (bytes : List ℕ) (start first at value : ℕ) : Type 0 where
  pub begun : start ≤ at
  pub few : at ≤ start + 8
  pub small : value < 10 ^ (at - start + 1)
  pub left : (next : ℕ → List ℕ → ℕ → Reading) → read_digits 8 first next (drop start bytes) start ≡ read_digits (start + 8 - at) value next (drop at bytes) at

pub digit_low : (b : ℕ) → is_digit b ≡ true → 48 ≤ b
unfolding is_digit
digit_low b e = leb-true 48 b (and_parts (leb 48 b) (ltb b 58) e).0

pub digit_high : (b : ℕ) → is_digit b ≡ true → b < 58
unfolding is_digit
digit_high b e = ltb-true b 58 (and_parts (leb 48 b) (ltb b 58) e).1

pub digit_is_value : (b d : ℕ) → d ≡ b - 48 → d ≡ digit_value b
unfolding digit_value
digit_is_value b d e = e

power_up : (k j : ℕ) → 10 ^ k ≤ 10 ^ (k + j)
power_up k zero =
    let same : k + 0 ≡ k = omega arith in
    rw same (omega arith)
power_up k (suc j) =
    let place : k + suc j ≡ k + j + 1 = omega arith in
    rw (place, pow_more 10 (k + j)) (omega (arith, power_up k j))

-- so many digits stand for less than 10 ^ 8
pub fits_so_far : (bytes : List ℕ) (start first at value : ℕ) → DigitsRead bytes start first at value → at < start + 8 → value < 100000000
fits_so_far bytes start first at value r lt =
    let place : at - start + 1 + (start + 7 - at) ≡ 8 = omega (arith, r.begun) in
    let most : 10 ^ (at - start + 1) ≤ 10 ^ 8 = subst (λ (n : ℕ). 10 ^ (at - start + 1) ≤ 10 ^ n) place (power_up (at - start + 1) (start + 7 - at)) in
    omega (arith, r.small)

digits_at : (bytes : List ℕ) (start first at value : ℕ) → DigitsRead bytes start first at value → at < start + 8 → at < length bytes → (next : ℕ → List ℕ → ℕ → Reading)
    → read_digits 8 first next (drop start bytes) start ≡ read_digits (suc (start + 8 - (at + 1))) value next (get_or bytes at 0 ∷ drop (at + 1) bytes) at
digits_at bytes start first at value r lt in' next =
    let room : start + 8 - at ≡ suc (start + 8 - (at + 1)) = omega arith in
    r.left next
    ∙ ap (λ (n : ℕ). read_digits n value next (drop at bytes) at) room
    ∙ ap (λ (x : List ℕ). read_digits (suc (start + 8 - (at + 1))) value next x at) (drop_more bytes at 0 in')

pub digits_more : (bytes : List ℕ) (start first at value d : ℕ) → DigitsRead bytes start first at value → at < start + 8 → at < length bytes → is_digit (get_or bytes at 0) ≡ true → d ≡ get_or bytes at 0 - 48
    → DigitsRead bytes start first (at + 1) (value * 10 + d)
digits_more bytes start first at value d r lt in' e v =
    let high = digit_high (get_or bytes at 0) e in
    let power : 10 ^ (at - start + 1 + 1) ≡ 10 ^ (at - start + 1) * 10 = pow_more 10 (at - start + 1) in
    let place : at + 1 - start + 1 ≡ at - start + 1 + 1 = omega (arith, r.begun) in
    record {
      begun = omega (arith, r.begun);
      few = omega arith;
      small = rw (place, power) (omega (arith, r.small));
      left = λ next.
          digits_at bytes start first at value r lt in' next
          ∙ digits_on (start + 8 - (at + 1)) value next (get_or bytes at 0) (drop (at + 1) bytes) at e
          ∙ ap (λ (n : ℕ). read_digits (start + 8 - (at + 1)) (value * 10 + n) next (drop (at + 1) bytes) (at + 1)) (sym (digit_is_value (get_or bytes at 0) d v));
    }

pub digits_stopped : (bytes : List ℕ) (start first at value : ℕ) → DigitsRead bytes start first at value → at < start + 8 → at < length bytes → is_digit (get_or bytes at 0) ≡ false
    → (next : ℕ → List ℕ → ℕ → Reading) → read_digits 8 first next (drop start bytes) start ≡ next value (drop at bytes) at
digits_stopped bytes start first at value r lt in' e next =
    digits_at bytes start first at value r lt in' next
    ∙ digits_end (suc (start + 8 - (at + 1))) value next (get_or bytes at 0) (drop (at + 1) bytes) at e
    ∙ ap (λ (x : List ℕ). next value x at) (sym (drop_more bytes at 0 in'))

digits_ended_by : (bytes : List ℕ) (start first at value : ℕ) → DigitsRead bytes start first at value → (at ≡ start + 8) ⊎ (length bytes ≤ at)
    → (next : ℕ → List ℕ → ℕ → Reading) → read_digits 8 first next (drop start bytes) start ≡ next value (drop at bytes) at
digits_ended_by bytes start first at value r (inl e) next =
    let none : start + 8 - at ≡ 0 = omega arith in
    r.left next ∙ ap (λ (n : ℕ). read_digits n value next (drop at bytes) at) none ∙ digits_full value next (drop at bytes) at
digits_ended_by bytes start first at value r (inr le) next =
    r.left next
    ∙ ap (λ (x : List ℕ). read_digits (start + 8 - at) value next x at) (drop_all at bytes le)
    ∙ digits_none (start + 8 - at) value next at
    ∙ ap (λ (x : List ℕ). next value x at) (sym (drop_all at bytes le))

pub digits_ended : (bytes : List ℕ) (start first at value end : ℕ) → DigitsRead bytes start first at value → start ≤ length bytes → end ≡ start + min (length bytes - start) 8 → end ≤ at → at ≤ end
    → (next : ℕ → List ℕ → ℕ → Reading) → read_digits 8 first next (drop start bytes) start ≡ next value (drop end bytes) end
digits_ended bytes start first at value end r low e le ge next =
    let same : at ≡ end = omega arith in
    let reached : (at ≡ start + 8) ⊎ (length bytes ≤ at) = elim (cases_lt (length bytes - start) 8) [ inl lt ↦ inr (omega arith) | inr more ↦ inl (omega arith) ] in
    digits_ended_by bytes start first at value r reached next ∙ ap (λ (n : ℕ). next value (drop n bytes) n) same

pub numeral_read : (bytes : List ℕ) (start d : ℕ) → start < length bytes → is_digit (get_or bytes start 0) ≡ true → d ≡ get_or bytes start 0 - 48
    → (next : ℕ → List ℕ → ℕ → Reading) → read_numeral next (drop start bytes) start ≡ read_digits 8 d next (drop (start + 1) bytes) (start + 1)
numeral_read bytes start d lt e v next =
    ap (λ (x : List ℕ). read_numeral next x start) (drop_more bytes start 0 lt)
    ∙ numeral_on next (get_or bytes start 0) (drop (start + 1) bytes) start e
    ∙ ap (λ (n : ℕ). read_digits 8 n next (drop (start + 1) bytes) (start + 1)) (sym (digit_is_value (get_or bytes start 0) d v))

pub numeral_unread : (bytes : List ℕ) (start : ℕ) → start < length bytes → is_digit (get_or bytes start 0) ≡ false → (next : ℕ → List ℕ → ℕ → Reading) → read_numeral next (drop start bytes) start ≡ Err start
numeral_unread bytes start lt e next =
    ap (λ (x : List ℕ). read_numeral next x start) (drop_more bytes start 0 lt) ∙ numeral_fails next (get_or bytes start 0) (drop (start + 1) bytes) start e

pub numeral_at_end : (bytes : List ℕ) (start : ℕ) → length bytes ≤ start → (next : ℕ → List ℕ → ℕ → Reading) → read_numeral next (drop start bytes) start ≡ Err start
numeral_at_end bytes start le next = ap (λ (x : List ℕ). read_numeral next x start) (drop_all start bytes le) ∙ numeral_none next start

-- ---- the end of a header

pub end_read : (bytes : List ℕ) (at : ℕ) → at < length bytes → is_white (get_or bytes at 0) ≡ true → read_parts [] (drop at bytes) at ≡ Ok (record { values = []; end = at })
end_read bytes at lt w = ap (λ (x : List ℕ). read_parts [] x at) (drop_more bytes at 0 lt) ∙ end_found (get_or bytes at 0 ∷ drop (at + 1) bytes) at w

pub end_at_end : (bytes : List ℕ) (at : ℕ) → length bytes ≤ at → read_parts [] (drop at bytes) at ≡ Ok (record { values = []; end = at })
end_at_end bytes at le = ap (λ (x : List ℕ). read_parts [] x at) (drop_all at bytes le) ∙ end_found [] at refl

pub end_unread : (bytes : List ℕ) (at : ℕ) → at < length bytes → is_white (get_or bytes at 0) ≡ false → read_parts [] (drop at bytes) at ≡ Err at
end_unread bytes at lt d = ap (λ (x : List ℕ). read_parts [] x at) (drop_more bytes at 0 lt) ∙ end_missing (get_or bytes at 0 ∷ drop (at + 1) bytes) at d

-- ---- digits

some_wanted : (left : ℕ) → (left ≡ 0 → ⊥) → left ≡ suc (left - 1)
some_wanted left h = omega (arith, h)

pub scan_white : (o left : ℕ) (bytes : List ℕ) (at : ℕ) → at < length bytes → is_white (get_or bytes at 0) ≡ true → digits_fault o left (drop (at + 1) bytes) (at + 1) ≡ digits_fault o left (drop at bytes) at
scan_white o left bytes at lt w =
    sym (ap (λ (x : List ℕ). digits_fault o left x at) (drop_more bytes at 0 lt) ∙ fault_white o left (get_or bytes at 0) (drop (at + 1) bytes) at w)

pub scan_trailing : (o left : ℕ) (bytes : List ℕ) (at : ℕ) → at < length bytes → is_white (get_or bytes at 0) ≡ false → left ≡ 0 → digits_fault o left (drop at bytes) at ≡ Some (TrailingText at)
scan_trailing o left bytes at lt d none =
    ap (λ (x : List ℕ). digits_fault o left x at) (drop_more bytes at 0 lt)
    ∙ ap (λ (n : ℕ). digits_fault o n (get_or bytes at 0 ∷ drop (at + 1) bytes) at) none
    ∙ fault_trailing o (get_or bytes at 0) (drop (at + 1) bytes) at d

pub scan_bad : (o left : ℕ) (bytes : List ℕ) (at : ℕ) → at < length bytes → is_white (get_or bytes at 0) ≡ false → is_element_digit o (get_or bytes at 0) ≡ false → (left ≡ 0 → ⊥) → digits_fault o left (drop at bytes) at ≡ Some (BadDigit at)
scan_bad o left bytes at lt d e h =
    ap (λ (x : List ℕ). digits_fault o left x at) (drop_more bytes at 0 lt)
    ∙ ap (λ (n : ℕ). digits_fault o n (get_or bytes at 0 ∷ drop (at + 1) bytes) at) (some_wanted left h)
    ∙ fault_bad o (left - 1) (get_or bytes at 0) (drop (at + 1) bytes) at d e

pub scan_end : (o left : ℕ) (bytes : List ℕ) (at : ℕ) → length bytes ≤ at → left ≡ 0 → digits_fault o left (drop at bytes) at ≡ None
scan_end o left bytes at le none =
    ap (λ (x : List ℕ). digits_fault o left x at) (drop_all at bytes le) ∙ ap (λ (n : ℕ). digits_fault o n [] at) none ∙ fault_none o at

pub scan_few : (o left : ℕ) (bytes : List ℕ) (at : ℕ) → length bytes ≤ at → (left ≡ 0 → ⊥) → digits_fault o left (drop at bytes) at ≡ Some TooFewDigits
scan_few o left bytes at le h =
    ap (λ (x : List ℕ). digits_fault o left x at) (drop_all at bytes le) ∙ ap (λ (n : ℕ). digits_fault o n [] at) (some_wanted left h) ∙ fault_few o (left - 1) at

-- ---- rows

-- the next digit stands at an offset, after white space
pub record NextDigit (q : ℕ) (bytes : List ℕ) (end at : ℕ) : Type 0 where
  pub within : at < length bytes
  pub digit : is_element_digit q (get_or bytes at 0) ≡ true
  pub rest : filter is_dark (drop end bytes) ≡ get_or bytes at 0 ∷ filter is_dark (drop (at + 1) bytes)
  pub elements : All (IsDigitOf q) (filter is_dark (drop (at + 1) bytes))

pub next_digit : (q : ℕ) (bytes : List ℕ) (end at : ℕ) → at ≡ end + prefix_len is_white (drop end bytes) → All (IsDigitOf q) (filter is_dark (drop end bytes)) → 0 < length (filter is_dark (drop end bytes)) → NextDigit q bytes end at
next_digit q bytes end at e all some =
    let after : filter is_dark (drop end bytes) ≡ filter is_dark (drop at bytes) =
    dark_after_front (drop end bytes) ∙ ap (λ (x : List ℕ). filter is_dark x) (drop-drop (prefix_len is_white (drop end bytes)) end bytes) ∙ ap (λ (n : ℕ). filter is_dark (drop n bytes)) (sym e) in
    let within : at < length bytes = elim (cases_lt at (length bytes)) [
      | inl lt ↦ lt
      | inr le ↦
          let none : length (filter is_dark (drop end bytes)) ≡ 0 = ap length after ∙ ap (λ (x : List ℕ). length (filter is_dark x)) (drop_all at bytes le) in
          absurd (omega (arith, none, some))
    ] in
    let inside : prefix_len is_white (drop end bytes) < length (drop end bytes) = omega (arith, length-drop end bytes) in
    let dark : is_white (get_or bytes at 0) ≡ false =
    ap (λ (n : ℕ). is_white (get_or bytes n 0)) e ∙ ap is_white (sym (get_or-drop end bytes (prefix_len is_white (drop end bytes)) 0)) ∙ prefix_len_stops is_white (drop end bytes) 0 inside in
    let rest : filter is_dark (drop end bytes) ≡ get_or bytes at 0 ∷ filter is_dark (drop (at + 1) bytes) =
    after ∙ ap (λ (x : List ℕ). filter is_dark x) (drop_more bytes at 0 within) ∙ dark_after_dark (get_or bytes at 0) (drop (at + 1) bytes) dark in
    let whole : All (IsDigitOf q) (get_or bytes at 0 ∷ filter is_dark (drop (at + 1) bytes)) = subst (λ (x : List ℕ). All (IsDigitOf q) x) rest all in
    record {
      within = within;
      digit = All-head (IsDigitOf q) (get_or bytes at 0) (filter is_dark (drop (at + 1) bytes)) whole;
      rest = rest;
      elements = All-tail (IsDigitOf q) (get_or bytes at 0) (filter is_dark (drop (at + 1) bytes)) whole;
    }

-- ---- matrices

-- so many rows are read, up to an offset
pub record RowsRead (field : Order) (rows columns : ℕ) (bytes : List ℕ) (start count at : ℕ) (m : MatrixValue) : Type 0 where
  pub within : at ≤ length bytes
  pub order : m.order ≡ field
  pub cols : m.cols ≡ columns
  pub counted : length m.rows ≡ count
  pub read : m.rows ++ in_rows (rows - count) columns (map digit_value (filter is_dark (drop at bytes))) ≡ in_rows rows columns (map digit_value (filter is_dark (drop start bytes)))
  pub elements : All (IsDigitOf (order_number field)) (filter is_dark (drop at bytes))
  pub enough : (rows - count) * columns ≤ length (filter is_dark (drop at bytes))

pub rows_begun : (field : Order) (rows columns : ℕ) (bytes : List ℕ) (start : ℕ) (m : MatrixValue) → m ≡ record { order = field; cols = columns; rows = [] } → start ≤ length bytes
    → All (IsDigitOf (order_number field)) (filter is_dark (drop start bytes)) → rows * columns ≤ length (filter is_dark (drop start bytes)) → RowsRead field rows columns bytes start 0 start m
rows_begun field rows columns bytes start m e low all enough =
    let whole : rows - 0 ≡ rows = omega arith in
    record {
      within = low;
      order = ap (λ (x : MatrixValue). x.order) e;
      cols = ap (λ (x : MatrixValue). x.cols) e;
      counted = ap (λ (x : MatrixValue). length x.rows) e;
      read =
          ap (λ (x : MatrixValue). x.rows ++ in_rows (rows - 0) columns (map digit_value (filter is_dark (drop start bytes)))) e
          ∙ ap (λ (n : ℕ). in_rows n columns (map digit_value (filter is_dark (drop start bytes)))) whole;
      elements = all;
      enough = subst (λ (n : ℕ). n * columns ≤ length (filter is_dark (drop start bytes))) (sym whole) enough;
    }

-- while rows are left, there are the digits of one
pub row_left : (field : Order) (rows columns : ℕ) (bytes : List ℕ) (start count at : ℕ) (m : MatrixValue) → RowsRead field rows columns bytes start count at m → count < rows → columns ≤ length (filter is_dark (drop at bytes))
row_left field rows columns bytes start count at m r lt =
    let one : rows - count ≡ suc (rows - (count + 1)) = omega arith in
    let need : suc (rows - (count + 1)) * columns ≤ length (filter is_dark (drop at bytes)) = subst (λ (n : ℕ). n * columns ≤ length (filter is_dark (drop at bytes))) one r.enough in
    omega (arith, need)

one_row : (rows columns : ℕ) (entries left : List ℕ) → length entries ≡ columns → in_rows (suc rows) columns (entries ++ left) ≡ entries ∷ in_rows rows columns left
unfolding in_rows
one_row rows columns entries left long =
    ap₂ (λ (x : List ℕ) (xs : List (List ℕ)). x ∷ xs) (take_at entries left columns long) (ap (λ (x : List ℕ). in_rows rows columns x) (drop_at entries left columns long))

pub rows_more : (field : Order) (rows columns : ℕ) (bytes : List ℕ) (start count at end : ℕ) (m next : MatrixValue) (entries : List ℕ) → RowsRead field rows columns bytes start count at m → count < rows → end ≤ length bytes
    → length entries ≡ columns → entries ++ map digit_value (filter is_dark (drop end bytes)) ≡ map digit_value (filter is_dark (drop at bytes)) → All (IsDigitOf (order_number field)) (filter is_dark (drop end bytes))
    → next ≡ record m { rows = m.rows ++ entries ∷ [] } → RowsRead field rows columns bytes start (count + 1) end next
rows_more field rows columns bytes start count at end m next entries r lt low long digits all new =
    let one : rows - count ≡ suc (rows - (count + 1)) = omega arith in
    let values = map digit_value (filter is_dark (drop end bytes)) in
    let need : suc (rows - (count + 1)) * columns ≤ length (filter is_dark (drop at bytes)) = subst (λ (n : ℕ). n * columns ≤ length (filter is_dark (drop at bytes))) one r.enough in
    let both : length entries + length values ≡ length (map digit_value (filter is_dark (drop at bytes))) = sym (length-append entries values) ∙ ap length digits in
    record {
      within = low;
      order = ap (λ (x : MatrixValue). x.order) new ∙ r.order;
      cols = ap (λ (x : MatrixValue). x.cols) new ∙ r.cols;
      counted = ap (λ (x : MatrixValue). length x.rows) new ∙ length_push m.rows entries ∙ ap (λ (n : ℕ). n + 1) r.counted;
      read =
          ap (λ (x : MatrixValue). x.rows ++ in_rows (rows - (count + 1)) columns values) new
          ∙ append_assoc m.rows (entries ∷ []) (in_rows (rows - (count + 1)) columns values)
          ∙ ap (λ (x : List (List ℕ)). m.rows ++ x) (sym (one_row (rows - (count + 1)) columns entries values long))
          ∙ ap (λ (x : List ℕ). m.rows ++ in_rows (suc (rows - (count + 1))) columns x) digits
          ∙ ap (λ (n : ℕ). m.rows ++ in_rows n columns (map digit_value (filter is_dark (drop at bytes)))) (sym one)
          ∙ r.read;
      elements = all;
      enough = omega (arith, need, length-map (filter is_dark (drop end bytes)) digit_value, length-map (filter is_dark (drop at bytes)) digit_value);
    }

no_rows : (columns : ℕ) (xs : List ℕ) → in_rows 0 columns xs ≡ []
unfolding in_rows
no_rows columns xs = refl

pub rows_done : (field : Order) (rows columns : ℕ) (bytes : List ℕ) (start count at : ℕ) (m : MatrixValue) → RowsRead field rows columns bytes start count at m → rows ≤ count
    → m ≡ record { order = field; cols = columns; rows = in_rows rows columns (map digit_value (filter is_dark (drop start bytes))) }
rows_done field rows columns bytes start count at m r le =
    let none : rows - count ≡ 0 = omega arith in
    let values = map digit_value (filter is_dark (drop at bytes)) in
    let all : m.rows ≡ in_rows rows columns (map digit_value (filter is_dark (drop start bytes))) =
    sym
    (ap (λ (n : ℕ). m.rows ++ in_rows n columns values) none
    ∙ ap (λ (x : List (List ℕ)). m.rows ++ x) (no_rows columns values)
    ∙ append-nil m.rows)
    ∙ r.read in
    λ i. record { order = r.order i; cols = r.cols i; rows = all i }
