-- Digits that stand one after another in a text, read and written at once.
use Rattle.std.proofs.Common.{◌≡◌, ℕ, zero, suc, ◌+◌, ◌-◌, ◌%◌, ◌<◌, ◌≤◌, false, Bool, min, leb, ltb, List, [], ◌∷◌, ◌++◌, length, map, take, drop, get_or, refl, sym, ap, ap₂, subst, ◌∙◌, inl, inr, take-append-drop, leb-true, ltb-true, append_assoc, length-append, length-drop, get_or-drop, arith}
use Rattle.std.specs.Prelude.{All}
use Rattle.std.specs.List.{filter, prefix_len}
use Rattle.std.proofs.lemmas.Bool.{cases_Bool, and_parts}
use Rattle.std.proofs.lemmas.List.{drop-drop, drop-take, length-take, take_all, take_at, drop_at, map-append}
use Rattle.std.proofs.lemmas.Slice.{take-put_mid}
use Rattle.std.proofs.lemmas.List.Elements.{All-nil, All-cons, All-head, All-tail, All-take, All-drop, filter-append}
use Rattle.std.proofs.lemmas.List.Sums.{prefix_len-le-length, prefix_len_stops}
use Rattle.axe_lane.specs.Runs.{is_within}
use Rattle.axe_lane.proofs.RunLaws.{run_has}
use Rattle.axe_file.specs.TextGrammar.{is_white, is_dark, is_element_digit, digit_value, digit_code, AreElementDigits}
use Rattle.axe_file.specs.TextReading.{digits_fault}
use Rattle.axe_file.proofs.TextDigits.{IsFit, fit_digit, dark_after_dark, after_front}
use Rattle.axe_file.proofs.TextRows.{IsDigitOf, digit_no_white, values_below}
use Rattle.axe_file.proofs.TextScans.{dark_after_front, NextDigit, next_digit}

-- ---- digits and what they stand for, modulo 256

digit_is_within : (q : ℕ) (bytes : List ℕ) → prefix_len (is_within 48 q) bytes ≡ prefix_len (is_element_digit q) bytes
unfolding is_within is_element_digit
digit_is_within q bytes = refl

prefix_of_front : (p : ℕ → Bool) (k : ℕ) (xs : List ℕ) → prefix_len p (take k xs) ≡ min k (prefix_len p xs)
prefix_of_front p zero xs = omega arith
prefix_of_front p (suc k) [] = omega arith
prefix_of_front p (suc k) (x ∷ xs) = elim (cases_Bool (p x)) [
  | inl t ↦
      let more : min (suc k) (1 + prefix_len p xs) ≡ 1 + min k (prefix_len p xs) = omega arith in
      rw t (ap (λ n. 1 + n) (prefix_of_front p k xs) ∙ sym more)
  | inr f ↦ rw f (omega arith)
]

-- a run among so many bytes from an offset on
pub run_at_most : (q : ℕ) (bytes : List ℕ) (start most end : ℕ) → end ≡ start + min most (length bytes - start) →
    prefix_len (is_within 48 q) (drop start (take end bytes)) ≡ min most (prefix_len (is_element_digit q) (drop start bytes))
run_at_most q bytes start most end is =
    let k = min most (length bytes - start) in
    let run = prefix_len-le-length (is_element_digit q) (drop start bytes) in
    let least : min k (prefix_len (is_element_digit q) (drop start bytes)) ≡ min most (prefix_len (is_element_digit q) (drop start bytes)) =
    omega (arith, run, length-drop start bytes) in
    ap (λ e. prefix_len (is_within 48 q) (drop start (take e bytes))) is
    ∙ ap (prefix_len (is_within 48 q)) (drop-take start k bytes)
    ∙ digit_is_within q (take k (drop start bytes))
    ∙ prefix_of_front (is_element_digit q) k (drop start bytes)
    ∙ least

pub spelled : (q : ℕ) (row : List ℕ) → q ≤ 9 → All (λ a. a < q) row → map (λ byte. (byte + 48) % 256) row ≡ map digit_code row
unfolding digit_code
spelled q [] fits all = refl
spelled q (a ∷ row) fits all =
    let below = All-head (λ x. x < q) a row all in
    let code : (a + 48) % 256 ≡ 48 + a = omega (arith, below) in
    ap₂ (λ (x : ℕ) (xs : List ℕ). x ∷ xs) code (spelled q row fits (All-tail (λ x. x < q) a row all))

pub unspelled : (q : ℕ) (digits : List ℕ) → q ≤ 9 → All (IsDigitOf q) digits → map (λ byte. (byte + 208) % 256) digits ≡ map digit_value digits
unfolding digit_value is_element_digit
unspelled q [] fits all = refl
unspelled q (d ∷ digits) fits all =
    let parts = and_parts (leb 48 d) (ltb d (48 + q)) (All-head (IsDigitOf q) d digits all) in
    let low = leb-true 48 d parts.0 in
    let high = ltb-true d (48 + q) parts.1 in
    let value : (d + 208) % 256 ≡ d - 48 = omega (arith, low, high) in
    ap₂ (λ (x : ℕ) (xs : List ℕ). x ∷ xs) value (unspelled q digits fits (All-tail (IsDigitOf q) d digits all))

-- ---- the beginning of a run

-- the first n digits of a run are dark, and fit
pub dark_run : (q n : ℕ) (bytes : List ℕ) → n ≤ prefix_len (is_element_digit q) bytes → filter is_dark (take n bytes) ≡ take n bytes
dark_run q zero bytes le = refl
dark_run q (suc n) [] le = refl
dark_run q (suc n) (b ∷ bytes) le = elim (cases_Bool (is_element_digit q b)) [
  | inl d ↦
      let more : prefix_len (is_element_digit q) (b ∷ bytes) ≡ 1 + prefix_len (is_element_digit q) bytes = rw d refl in
      dark_after_dark b (take n bytes) (digit_no_white q b d) ∙ ap (λ (xs : List ℕ). b ∷ xs) (dark_run q n bytes (omega (arith, le, more)))
  | inr d ↦
      let none : prefix_len (is_element_digit q) (b ∷ bytes) ≡ 0 = rw d refl in
      absurd (omega (arith, le, none))
]

fit_run : (q n : ℕ) (bytes : List ℕ) → n ≤ prefix_len (is_element_digit q) bytes → AreElementDigits q (take n bytes)
fit_run q zero bytes le = All-nil (IsFit q)
fit_run q (suc n) [] le = All-nil (IsFit q)
fit_run q (suc n) (b ∷ bytes) le = elim (cases_Bool (is_element_digit q b)) [
  | inl d ↦
      let more : prefix_len (is_element_digit q) (b ∷ bytes) ≡ 1 + prefix_len (is_element_digit q) bytes = rw d refl in
      All-cons (IsFit q) b (take n bytes) (fit_digit q b (digit_no_white q b d) d) (fit_run q n bytes (omega (arith, le, more)))
  | inr d ↦
      let none : prefix_len (is_element_digit q) (b ∷ bytes) ≡ 0 = rw d refl in
      absurd (omega (arith, le, none))
]

-- ---- a check of runs

module _ (q left : ℕ) (bytes : List ℕ) (at : ℕ) where
  -- some digits of a run that are wanted
  pub scan_run : (n next : ℕ) → n ≤ left → n ≤ prefix_len (is_element_digit q) (drop at bytes) → next ≡ at + n →
      digits_fault q left (drop at bytes) at ≡ digits_fault q (left - n) (drop next bytes) next
  scan_run n next few inside is =
      let front = take n (drop at bytes) in
      let within : n ≤ length (drop at bytes) = omega (arith, inside, prefix_len-le-length (is_element_digit q) (drop at bytes)) in
      let long : length front ≡ n = length-take n (drop at bytes) ∙ omega (arith, within) in
      let dark : length (filter is_dark front) ≡ n = ap length (dark_run q n (drop at bytes) inside) ∙ long in
      let wanted : left ≡ length (filter is_dark front) + (left - n) = omega (arith, dark, few) in
      let end : at + length front ≡ next = omega (arith, long, is) in
      let rest : drop n (drop at bytes) ≡ drop next bytes = drop-drop n at bytes ∙ ap (λ k. drop k bytes) (sym is) in
      ap (λ k. digits_fault q k (drop at bytes) at) wanted
      ∙ ap (λ (xs : List ℕ). digits_fault q (length (filter is_dark front) + (left - n)) xs at) (sym (take-append-drop n (drop at bytes)))
      ∙ after_front q front (drop n (drop at bytes)) (left - n) at (fit_run q n (drop at bytes) inside)
      ∙ ap₂ (λ (xs : List ℕ) k. digits_fault q (left - n) xs k) rest end

-- what stands after a run is no digit
pub run_is_over : (q : ℕ) (bytes : List ℕ) (at end : ℕ) → end ≡ at + prefix_len (is_element_digit q) (drop at bytes) → end < length bytes → is_element_digit q (get_or bytes end 0) ≡ false
run_is_over q bytes at end is lt =
    let n = prefix_len (is_element_digit q) (drop at bytes) in
    let inside : n < length (drop at bytes) = omega (arith, is, lt, length-drop at bytes) in
    ap (λ k. is_element_digit q (get_or bytes k 0)) is
    ∙ ap (is_element_digit q) (sym (get_or-drop at bytes n 0))
    ∙ prefix_len_stops (is_element_digit q) (drop at bytes) 0 inside

-- ---- digits that are copied

-- the first of some digits are those that stand in a text before an offset
pub record DigitsCopied (bytes : List ℕ) (start done end : ℕ) (digits : List ℕ) : Type 0 where
  pub within : end ≤ length bytes
  pub room : done ≤ length digits
  pub copied : take done digits ++ filter is_dark (drop end bytes) ≡ filter is_dark (drop start bytes)

module _ (q : ℕ) (bytes : List ℕ) (start done end : ℕ) (digits : List ℕ) (so_far : DigitsCopied bytes start done end digits)
    (elements : All (IsDigitOf q) (filter is_dark (drop start bytes))) where
  both_parts : All (IsDigitOf q) (take done digits ++ filter is_dark (drop end bytes))
  both_parts = subst (All (IsDigitOf q)) (sym so_far.copied) elements

  long_front : length (take done digits) ≡ done
  long_front = length-take done digits ∙ omega (arith, so_far.room)

  pub elements_after : All (IsDigitOf q) (filter is_dark (drop end bytes))
  elements_after =
      subst (All (IsDigitOf q)) (drop_at (take done digits) (filter is_dark (drop end bytes)) done long_front)
      (All-drop (IsDigitOf q) done (take done digits ++ filter is_dark (drop end bytes)) both_parts)

  pub elements_before : All (IsDigitOf q) (take done digits)
  elements_before =
      subst (All (IsDigitOf q)) (take_at (take done digits) (filter is_dark (drop end bytes)) done long_front)
      (All-take (IsDigitOf q) done (take done digits ++ filter is_dark (drop end bytes)) both_parts)

  -- while there is room, there is a next digit, at which a run begins
  module _ (at : ℕ) (less : done < length digits) (enough : length digits ≤ length (filter is_dark (drop start bytes)))
      (skipped : at ≡ end + prefix_len is_white (drop end bytes)) where
    next : NextDigit q bytes end at
    next =
        let counted : length (take done digits) + length (filter is_dark (drop end bytes)) ≡ length (filter is_dark (drop start bytes)) =
        sym (length-append (take done digits) (filter is_dark (drop end bytes))) ∙ ap length so_far.copied in
        next_digit q bytes end at skipped elements_after (omega (arith, counted, long_front, less, enough))

    pub run_within : at ≤ length bytes
    run_within = omega (arith, next.within)

    pub some_digit : 0 < prefix_len (is_element_digit q) (drop at bytes)
    some_digit = omega (arith, run_has (is_element_digit q) bytes at next.within next.digit)

    pub copied_more : (count l last stop : ℕ) (run : List ℕ) → count ≤ prefix_len (is_element_digit q) (drop at bytes) → run ≡ take count (drop at bytes) →
        last ≡ done + count → stop ≡ at + count → DigitsCopied bytes start last stop (take done digits ++ (run ++ drop l (drop done digits)))
    copied_more count l last stop run inside is el es =
        let whole : count ≤ length (drop at bytes) = omega (arith, inside, prefix_len-le-length (is_element_digit q) (drop at bytes)) in
        let long : length run ≡ count = ap length is ∙ length-take count (drop at bytes) ∙ omega (arith, whole) in
        let skipped_all : filter is_dark (drop end bytes) ≡ filter is_dark (drop at bytes) =
        dark_after_front (drop end bytes)
        ∙ ap (λ (xs : List ℕ). filter is_dark xs) (drop-drop (prefix_len is_white (drop end bytes)) end bytes)
        ∙ ap (λ n. filter is_dark (drop n bytes)) (sym skipped) in
        let split : filter is_dark (drop at bytes) ≡ run ++ filter is_dark (drop stop bytes) =
        ap (λ (xs : List ℕ). filter is_dark xs) (sym (take-append-drop count (drop at bytes)))
        ∙ filter-append is_dark (take count (drop at bytes)) (drop count (drop at bytes))
        ∙ ap₂ (λ (xs ys : List ℕ). xs ++ filter is_dark ys) (dark_run q count (drop at bytes) inside ∙ sym is) (drop-drop count at bytes ∙ ap (λ n. drop n bytes) (sym es)) in
        let new = take done digits ++ (run ++ drop l (drop done digits)) in
        let front : take last new ≡ take done digits ++ run = take-put_mid done l digits run last (omega (arith, el, long)) so_far.room in
        let kept : last ≤ length new =
        omega (arith, length-append (take done digits) (run ++ drop l (drop done digits)), length-append run (drop l (drop done digits)), long_front, long, el) in
        record {
          within = omega (arith, es, whole, length-drop at bytes, run_within);
          room = kept;
          copied =
              ap (λ (xs : List ℕ). xs ++ filter is_dark (drop stop bytes)) front
              ∙ append_assoc (take done digits) run (filter is_dark (drop stop bytes))
              ∙ ap (λ (xs : List ℕ). take done digits ++ xs) (sym (skipped_all ∙ split))
              ∙ so_far.copied;
        }

pub copied_begun : (bytes : List ℕ) (start : ℕ) (digits : List ℕ) → start ≤ length bytes → DigitsCopied bytes start 0 start digits
copied_begun bytes start digits low = record { within = low; room = omega arith; copied = refl }

-- all digits are copied
module _ (q : ℕ) (bytes : List ℕ) (start done end : ℕ) (digits : List ℕ) (so_far : DigitsCopied bytes start done end digits)
    (elements : All (IsDigitOf q) (filter is_dark (drop start bytes))) (all : length digits ≤ done) where
  pub all_copied : digits ++ filter is_dark (drop end bytes) ≡ filter is_dark (drop start bytes)
  all_copied = ap (λ (xs : List ℕ). xs ++ filter is_dark (drop end bytes)) (sym (take_all done digits all)) ∙ so_far.copied

  pub all_digits : All (IsDigitOf q) digits
  all_digits = subst (All (IsDigitOf q)) (take_all done digits all) (elements_before q bytes start done end digits so_far elements)

  pub entries_read : (entries : List ℕ) → q ≤ 9 → entries ≡ map (λ byte. (byte + 208) % 256) digits →
      (entries ++ map digit_value (filter is_dark (drop end bytes)) ≡ map digit_value (filter is_dark (drop start bytes))) × All (λ a. a < q) entries
  entries_read entries fits is =
      let values : entries ≡ map digit_value digits = is ∙ unspelled q digits fits all_digits in (
        ap (λ (xs : List ℕ). xs ++ map digit_value (filter is_dark (drop end bytes))) values
            ∙ sym (map-append digit_value digits (filter is_dark (drop end bytes)))
            ∙ ap (map digit_value) all_copied,
        subst (All (λ a. a < q)) (sym values) (values_below q digits all_digits),
      )
