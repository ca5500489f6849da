-- Lists that keep what stands before an index: sums with lists that are 0 there.
use Rattle.std.proofs.Common.{◌≡◌, ℕ, ◌-◌, ◌*◌, ◌+◌, ◌/◌, ◌%◌, ◌^◌, ◌<◌, ◌≤◌, List, ◌++◌, length, get_or, take, drop, sym, ap, ◌∙◌, arith, lit<, length-append, inl, inr}
use Rattle.std.specs.Simd.Lanes.{zip2}
use Rattle.std.proofs.lemmas.Bool.{cases_lt}
use Rattle.std.proofs.lemmas.List.{append-nil, drop_all, ext_get_or, get_or_append_left, get_or-append_right, get_or-drop, get_or-take, length-drop, length-take, take_all}
use Rattle.std.proofs.lemmas.Nat.Bits.{bit_at-zero, same_from_bits_below}
use Rattle.std.proofs.lemmas.Simd.{get_or-zip2, length-zip2}
use Rattle.axe_lane.specs.Entries.{AreZerosBefore}
use Rattle.axe_lane.specs.Words.{bit_of}
use Rattle.axe_layer.specs.Bits.{bits, HoldsBits}
use Rattle.axe_layer.proofs.BitLaws.{bit_of-word, get_or-bits, written}

-- ---- a list with another end

module _ (a : ℕ) (xs new : List ℕ) (room : a ≤ length xs) where
  front_long : length (take a xs) ≡ a
  front_long = omega (arith, length-take a xs)

  -- the entries before the index stay
  pub end-before : (j : ℕ) → j < a → get_or (take a xs ++ new) j 0 ≡ get_or xs j 0
  end-before j before = get_or_append_left (take a xs) new 0 j (omega (arith, front_long)) ∙ get_or-take a xs j 0 before

  -- the others are those of the end
  pub end-after : (j : ℕ) → a ≤ j → get_or (take a xs ++ new) j 0 ≡ get_or new (j - a) 0
  end-after j from = get_or-append_right (take a xs) new a j 0 front_long from

  pub length-end : length new ≡ length (drop a xs) → length (take a xs ++ new) ≡ length xs
  length-end same = omega (arith, length-append (take a xs) new, front_long, same, length-drop a xs)

-- the end itself, counted as the rest of a list
pub end_is : (a : ℕ) (xs : List ℕ) → take (length xs - a) (drop a xs) ≡ drop a xs
end_is a xs = take_all (length xs - a) (drop a xs) (omega (arith, length-drop a xs))

-- the same with nothing after it
pub end_written : (a : ℕ) (xs new : List ℕ) → take a xs ++ (new ++ drop (length xs - a) (drop a xs)) ≡ take a xs ++ new
end_written a xs new =
    ap (λ (rest : List ℕ). take a xs ++ (new ++ rest)) (drop_all (length xs - a) (drop a xs) (omega (arith, length-drop a xs)))
    ∙ ap (λ (l : List ℕ). take a xs ++ l) (append-nil new)

-- ---- two lists side by side, where the entries of the first before an index stay

module _ (f : ℕ → ℕ → ℕ) (a : ℕ) (xs ys : List ℕ) (room : a ≤ length xs) (same : length ys ≡ length xs)
    (kept : (j : ℕ) → j < a → f (get_or xs j 0) (get_or ys j 0) ≡ get_or xs j 0) where
  ends : length (drop a xs) ≡ length (drop a ys)
  ends = omega (arith, length-drop a xs, length-drop a ys, same)

  abbrev whole : List ℕ
  whole = take a xs ++ zip2 f (drop a xs) (drop a ys)

  whole_long : length whole ≡ length xs
  whole_long = length-end a xs (zip2 f (drop a xs) (drop a ys)) room (length-zip2 f (drop a xs) (drop a ys) ends)

  at : (j : ℕ) → j < length xs → get_or whole j 0 ≡ f (get_or xs j 0) (get_or ys j 0)
  at j inside = elim (cases_lt j a) [
    | inl before ↦ end-before a xs _ room j before ∙ sym (kept j before)
    | inr from ↦
        let there : a + (j - a) ≡ j = omega arith in
        let left : j - a < length (drop a xs) = omega (arith, length-drop a xs) in
        let right : j - a < length (drop a ys) = omega (arith, length-drop a ys, same) in
        end-after a xs _ room j from ∙ get_or-zip2 f (drop a xs) (drop a ys) (j - a) 0 0 0 left right
        ∙ ap (λ x. f x (get_or (drop a ys) (j - a) 0)) (get_or-drop a xs (j - a) 0 ∙ ap (λ i. get_or xs i 0) there)
        ∙ ap (f (get_or xs j 0)) (get_or-drop a ys (j - a) 0 ∙ ap (λ i. get_or ys i 0) there)
  ]

  zip2-end : whole ≡ zip2 f xs ys
  zip2-end =
      ext_get_or 0 whole (zip2 f xs ys) (whole_long ∙ sym (length-zip2 f xs ys (sym same))) (λ j inside.
      let here : j < length xs = omega (arith, whole_long) in
      let there : j < length ys = omega (arith, same) in
      at j here ∙ sym (get_or-zip2 f xs ys j 0 0 0 here there))

  -- and what a vector is, the end of which was written anew
  pub zip2-written : (k : ℕ) (v w new : List ℕ) → k ≡ length xs → v ≡ xs → w ≡ ys →
      new ≡ zip2 f (take (length v - a) (drop a v)) (take (length w - a) (drop a w)) →
      take k ((take a v ++ (new ++ drop (length v - a) (drop a v))) ++ drop (length (take a v ++ (new ++ drop (length v - a) (drop a v)))) xs)
      ≡ zip2 f xs ys
  zip2-written k v w new all ev ew e =
      let made : new ≡ zip2 f (drop a xs) (drop a ys) =
      e ∙ ap (λ (l : List ℕ). zip2 f (take (length l - a) (drop a l)) (take (length w - a) (drop a w))) ev
      ∙ ap (λ (l : List ℕ). zip2 f l (take (length w - a) (drop a w))) (end_is a xs)
      ∙ ap (λ (l : List ℕ). zip2 f (drop a xs) (take (length l - a) (drop a l))) ew ∙ ap (zip2 f (drop a xs)) (end_is a ys) in
      let is : take a v ++ (new ++ drop (length v - a) (drop a v)) ≡ zip2 f xs ys =
      ap (λ (l : List ℕ). take a l ++ (new ++ drop (length l - a) (drop a l))) ev ∙ end_written a xs new
      ∙ ap (λ (l : List ℕ). take a xs ++ l) made ∙ zip2-end in
      written k _ xs all (ap length is ∙ length-zip2 f xs ys (sym same)) ∙ is

-- ---- words whose first bits are 0

-- words before that of an index, before which no bit is set
pub zero_words_below : (words : List ℕ) (start k : ℕ) → ((e : ℕ) → e < start → bit_of words e ≡ 0) → get_or words k 0 < 2 ^ 64 →
    k < start / 64 → get_or words k 0 ≡ 0
zero_words_below words start k none fits before =
    same_from_bits_below 64 (get_or words k 0) 0 fits (lit< tt) (λ i below.
    let word : (k * 64 + i) / 64 ≡ k = omega arith in
    let place : (k * 64 + i) % 64 ≡ i = omega arith in
    let bit = bit_of-word words (k * 64 + i) in
    rw (word, place) at (sym bit ∙ none (k * 64 + i) (omega arith)) ∙ sym (bit_at-zero i))

-- the words of digits of which those before an index are 0
pub zero_words_before : (n : ℕ) (words : List ℕ) (start : ℕ) → HoldsBits n words → AreZerosBefore (bits n words) start →
    AreZerosBefore words (start / 64)
zero_words_before n words start held zeros k before =
    zero_words_below words start k (λ e below. elim (cases_lt e n) [
      | inl inside ↦ sym (get_or-bits n words e inside) ∙ zeros e below
      | inr past ↦ held.unused e past
    ]) (held.fits k) before

-- how many words there are before that of an index
pub word_within : (n start : ℕ) (words : List ℕ) → HoldsBits n words → start ≤ n → start / 64 ≤ length words
word_within n start words held within = omega (arith, held.long)
