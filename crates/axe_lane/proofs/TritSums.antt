-- The sum of two rows over the field of order 3, words by words: what is made so far, and what it is at each entry.
use Rattle.std.proofs.Common.{◌≡◌, ◌⊎◌, ℕ, ◌+◌, ◌-◌, ◌*◌, ◌/◌, ◌%◌, ◌^◌, ◌<◌, ◌≤◌, List, length, get_or, set, max, sym, ap, ap₂, subst, ◌∙◌, arith, inl, inr, bit_or, bit_xor, get_or-set_same, get_or-set_other}
use Rattle.std.specs.Int.{bit_at}
use Rattle.std.specs.Simd.Lanes.{chunk, put_chunk, zip2}
use Rattle.std.proofs.lemmas.Bool.{cases_lt}
use Rattle.std.proofs.lemmas.List.{get_or_past, length-set}
use Rattle.std.proofs.lemmas.Nat.Bits.{bit_at-lt, bit_at_or, bit_at_xor}
use Rattle.std.proofs.lemmas.Nat.{or_lt, xor_lt}
use Rattle.std.proofs.lemmas.Simd.{get_or-chunk, get_or-put_chunk_above, get_or-put_chunk_at, get_or-put_chunk_below, get_or-zip2, length-chunk, length-put_chunk}
use Rattle.axe_lane.specs.Words.{bit_of}
use Rattle.axe_lane.specs.Trits.{trit_of, turned_bits, ones_of_sum, twos_of_sum, AreTrits, FitAt, HasSumBetween, IsTritSum}
use Rattle.axe_lane.proofs.VectorLaws.{length-zip2_of}

-- a part more
pub made_more : (n m : ℕ) (o t a b o' t' p q : List ℕ) → HasSumBetween 0 n o t a b o' t' → HasSumBetween n m o' t' a b p q → n ≤ m →
    HasSumBetween 0 m o t a b p q
made_more n m o t a b o' t' p q before more le = record {
  ones_long = more.ones_long ∙ before.ones_long;
  twos_long = more.twos_long ∙ before.twos_long;
  ones_made = λ k from to. elim (cases_lt k n) [
    | inl below ↦ more.ones_kept k (inl below) ∙ before.ones_made k from below
    | inr past ↦
        more.ones_made k (omega arith) to
        ∙ ap₂ (λ x y. ones_of_sum x y (get_or a k 0) (get_or b k 0)) (before.ones_kept k (inr (omega arith))) (before.twos_kept k (inr (omega arith)))
  ];
  twos_made = λ k from to. elim (cases_lt k n) [
    | inl below ↦ more.twos_kept k (inl below) ∙ before.twos_made k from below
    | inr past ↦
        more.twos_made k (omega arith) to
        ∙ ap₂ (λ x y. twos_of_sum x y (get_or a k 0) (get_or b k 0)) (before.ones_kept k (inr (omega arith))) (before.twos_kept k (inr (omega arith)))
  ];
  ones_kept = λ k outside. elim outside [
    | inl below ↦ absurd (omega arith)
    | inr past ↦ more.ones_kept k (inr past) ∙ before.ones_kept k (inr (omega arith))
  ];
  twos_kept = λ k outside. elim outside [
    | inl below ↦ absurd (omega arith)
    | inr past ↦ more.twos_kept k (inr past) ∙ before.twos_kept k (inr (omega arith))
  ];
}

-- one word more
pub word_made : (n : ℕ) (o t a b : List ℕ) (x y : ℕ) → n < length o → n < length t →
    x ≡ ones_of_sum (get_or o n 0) (get_or t n 0) (get_or a n 0) (get_or b n 0) →
    y ≡ twos_of_sum (get_or o n 0) (get_or t n 0) (get_or a n 0) (get_or b n 0) →
    HasSumBetween n (n + 1) o t a b (set o n x) (set t n y)
word_made n o t a b x y inside inside' ex ey = record {
  ones_long = length-set o n x;
  twos_long = length-set t n y;
  ones_made = λ k from to.
      let same : k ≡ n = omega arith in
      rw same (get_or-set_same o n x 0 inside ∙ ex);
  twos_made = λ k from to.
      let same : k ≡ n = omega arith in
      rw same (get_or-set_same t n y 0 inside' ∙ ey);
  ones_kept = λ k outside. get_or-set_other o n k x 0 (λ same. elim outside [ inl below ↦ omega arith | inr past ↦ omega arith ]);
  twos_kept = λ k outside. get_or-set_other t n k y 0 (λ same. elim outside [ inl below ↦ omega arith | inr past ↦ omega arith ]);
}

-- a block more: an entry of a list into which a block was written that was made entry by entry
module _ (w n : ℕ) (old new : List ℕ) (long : length new ≡ w) (room : n + w ≤ length old) where
  pub block_made : (k : ℕ) → n ≤ k → k < n + w → get_or (put_chunk n old new) k 0 ≡ get_or new (k - n) 0
  block_made k from to =
      let place : k ≡ n + (k - n) = omega arith in
      ap (λ j. get_or (put_chunk n old new) j 0) place ∙ get_or-put_chunk_at n old new (k - n) 0 (omega arith) (omega arith)

  pub block_kept : (k : ℕ) → (k < n) ⊎ (n + w ≤ k) → get_or (put_chunk n old new) k 0 ≡ get_or old k 0
  block_kept k (inl below) = get_or-put_chunk_below n old new k 0 below
  block_kept k (inr past) = get_or-put_chunk_above n old new k 0 (omega arith)

-- ---- bits

sum_of_bits : (o t a b : ℕ) → o < 2 → t < 2 → a < 2 → b < 2 → o + t ≤ 1 → a + b ≤ 1 →
    ((max o b + max t a) % 2 + max t b) % 2 + 2 * (((max o b + max t a) % 2 + max o a) % 2) ≡ (o + 2 * t + (a + 2 * b)) % 3
sum_of_bits o t a b ho ht ha hb apart more = omega arith

apart_bits : (o t a b : ℕ) → o < 2 → t < 2 → a < 2 → b < 2 → o + t ≤ 1 → a + b ≤ 1 →
    ((max o b + max t a) % 2 + max t b) % 2 + ((max o b + max t a) % 2 + max o a) % 2 ≤ 1
apart_bits o t a b ho ht ha hb apart more = omega arith

-- ---- the block of a sum

-- a list of so many words, each by its index
pub record AreWords (w : ℕ) (f : ℕ → ℕ) (xs : List ℕ) : Type 0 where
  pub long : length xs ≡ w
  pub entry : (j : ℕ) → j < w → get_or xs j 0 ≡ f j

pub both_words : (w : ℕ) (h : ℕ → ℕ → ℕ) (f g : ℕ → ℕ) (xs ys : List ℕ) → AreWords w f xs → AreWords w g ys → AreWords w (λ j. h (f j) (g j)) (zip2 h xs ys)
both_words w h f g xs ys left right = record {
  long = length-zip2_of h xs ys w left.long right.long;
  entry = λ j below.
      get_or-zip2 h xs ys j 0 0 0 (omega (arith, left.long)) (omega (arith, right.long))
      ∙ ap₂ h (left.entry j below) (right.entry j below);
}

pub chunk_words : (w n : ℕ) (xs : List ℕ) → n + w ≤ length xs → AreWords w (λ j. get_or xs (n + j) 0) (chunk n w xs)
chunk_words w n xs room = record { long = length-chunk n w xs room; entry = λ j below. get_or-chunk n w xs j 0 below }

module _ (w n : ℕ) (o t a b : List ℕ) (o_room : n + w ≤ length o) (t_room : n + w ≤ length t) (a_room : n + w ≤ length a) (b_room : n + w ≤ length b) where
  abbrev turned_block : List ℕ
  turned_block = zip2 bit_xor (zip2 bit_or (chunk n w o) (chunk n w b)) (zip2 bit_or (chunk n w t) (chunk n w a))

  abbrev ones_block : List ℕ
  ones_block = zip2 bit_xor turned_block (zip2 bit_or (chunk n w t) (chunk n w b))

  abbrev twos_block : List ℕ
  twos_block = zip2 bit_xor turned_block (zip2 bit_or (chunk n w o) (chunk n w a))

  or_words : (x y : List ℕ) → n + w ≤ length x → n + w ≤ length y →
      AreWords w (λ j. bit_or (get_or x (n + j) 0) (get_or y (n + j) 0)) (zip2 bit_or (chunk n w x) (chunk n w y))
  or_words x y hx hy = both_words w bit_or _ _ _ _ (chunk_words w n x hx) (chunk_words w n y hy)

  turned_words : AreWords w (λ j. turned_bits (get_or o (n + j) 0) (get_or t (n + j) 0) (get_or a (n + j) 0) (get_or b (n + j) 0)) turned_block
  turned_words = both_words w bit_xor _ _ _ _ (or_words o b o_room b_room) (or_words t a t_room a_room)

  ones_words : AreWords w (λ j. ones_of_sum (get_or o (n + j) 0) (get_or t (n + j) 0) (get_or a (n + j) 0) (get_or b (n + j) 0)) ones_block
  ones_words = both_words w bit_xor _ _ _ _ turned_words (or_words t b t_room b_room)

  twos_words : AreWords w (λ j. twos_of_sum (get_or o (n + j) 0) (get_or t (n + j) 0) (get_or a (n + j) 0) (get_or b (n + j) 0)) twos_block
  twos_words = both_words w bit_xor _ _ _ _ turned_words (or_words o a o_room a_room)

  -- the words of a list from n on into which a block was written
  put_words : (f : ℕ → ℕ) (old new : List ℕ) → AreWords w (λ j. f (n + j)) new → n + w ≤ length old → (k : ℕ) → n ≤ k → k < n + w →
      get_or (put_chunk n old new) k 0 ≡ f k
  put_words f old new h room k from to =
      let place : n + (k - n) ≡ k = omega arith in
      block_made w n old new h.long room k from to ∙ h.entry (k - n) (omega arith) ∙ ap f place

  pub block_of_sum : HasSumBetween n (n + w) o t a b (put_chunk n o ones_block) (put_chunk n t twos_block)
  block_of_sum = record {
    ones_long = length-put_chunk n o ones_block;
    twos_long = length-put_chunk n t twos_block;
    ones_made = put_words (λ k. ones_of_sum (get_or o k 0) (get_or t k 0) (get_or a k 0) (get_or b k 0)) o ones_block ones_words o_room;
    twos_made = put_words (λ k. twos_of_sum (get_or o k 0) (get_or t k 0) (get_or a k 0) (get_or b k 0)) t twos_block twos_words t_room;
    ones_kept = block_kept w n o ones_block ones_words.long o_room;
    twos_kept = block_kept w n t twos_block twos_words.long t_room;
  }

-- ---- the entries of the sum

-- all words are made
module _ (o t a b p q : List ℕ) (row : AreTrits o t) (more : AreTrits a b) (fits : length a ≡ length o)
    (all : HasSumBetween 0 (length o) o t a b p q) where
  -- beyond the words too
  ones_word : (k : ℕ) → get_or p k 0 ≡ ones_of_sum (get_or o k 0) (get_or t k 0) (get_or a k 0) (get_or b k 0)
  ones_word k = elim (cases_lt k (length o)) [
    | inl below ↦ all.ones_made k (omega arith) below
    | inr past ↦
        all.ones_kept k (inr (omega arith)) ∙ get_or_past o k 0 (omega arith)
        ∙ sym (ap₂ (λ x y. ones_of_sum x y (get_or a k 0) (get_or b k 0)) (get_or_past o k 0 (omega arith)) (get_or_past t k 0 (omega (arith, row.as_long)))
        ∙ ap₂ (λ x y. ones_of_sum 0 0 x y) (get_or_past a k 0 (omega arith)) (get_or_past b k 0 (omega (arith, more.as_long))))
  ]

  twos_word : (k : ℕ) → get_or q k 0 ≡ twos_of_sum (get_or o k 0) (get_or t k 0) (get_or a k 0) (get_or b k 0)
  twos_word k = elim (cases_lt k (length o)) [
    | inl below ↦ all.twos_made k (omega arith) below
    | inr past ↦
        all.twos_kept k (inr (omega arith)) ∙ get_or_past t k 0 (omega (arith, row.as_long))
        ∙ sym (ap₂ (λ x y. twos_of_sum x y (get_or a k 0) (get_or b k 0)) (get_or_past o k 0 (omega arith)) (get_or_past t k 0 (omega (arith, row.as_long)))
        ∙ ap₂ (λ x y. twos_of_sum 0 0 x y) (get_or_past a k 0 (omega arith)) (get_or_past b k 0 (omega (arith, more.as_long))))
  ]

  module _ (i : ℕ) where
    abbrev bit : List ℕ → ℕ
    bit words = bit_of words i

    turned_bit : bit_at (turned_bits (get_or o (i / 64) 0) (get_or t (i / 64) 0) (get_or a (i / 64) 0) (get_or b (i / 64) 0)) (i % 64)
        ≡ (max (bit o) (bit b) + max (bit t) (bit a)) % 2
    unfolding bit_of
    turned_bit = bit_at_xor _ _ (i % 64) ∙ ap₂ (λ x y. (x + y) % 2) (bit_at_or _ _ (i % 64)) (bit_at_or _ _ (i % 64))

    ones_bit : bit p ≡ ((max (bit o) (bit b) + max (bit t) (bit a)) % 2 + max (bit t) (bit b)) % 2
    unfolding bit_of
    ones_bit =
        ap (λ w. bit_at w (i % 64)) (ones_word (i / 64)) ∙ bit_at_xor _ _ (i % 64)
        ∙ ap₂ (λ x y. (x + y) % 2) turned_bit (bit_at_or _ _ (i % 64))

    twos_bit : bit q ≡ ((max (bit o) (bit b) + max (bit t) (bit a)) % 2 + max (bit o) (bit a)) % 2
    unfolding bit_of
    twos_bit =
        ap (λ w. bit_at w (i % 64)) (twos_word (i / 64)) ∙ bit_at_xor _ _ (i % 64)
        ∙ ap₂ (λ x y. (x + y) % 2) turned_bit (bit_at_or _ _ (i % 64))

    apart_here : bit p + bit q ≤ 1
    unfolding bit_of
    apart_here =
        omega (arith, ones_bit, twos_bit, apart_bits (bit o) (bit t) (bit a) (bit b) (bit_at-lt _ _) (bit_at-lt _ _) (bit_at-lt _ _) (bit_at-lt _ _) (row.apart i) (more.apart i))

    sum_here : trit_of p q i ≡ (trit_of o t i + trit_of a b i) % 3
    unfolding bit_of
    sum_here =
        ap₂ (λ x y. x + 2 * y) ones_bit twos_bit
        ∙ sum_of_bits (bit o) (bit t) (bit a) (bit b) (bit_at-lt _ _) (bit_at-lt _ _) (bit_at-lt _ _) (bit_at-lt _ _) (row.apart i) (more.apart i)

  turned_fits : (k : ℕ) → FitAt k o t a b → turned_bits (get_or o k 0) (get_or t k 0) (get_or a k 0) (get_or b k 0) < 2 ^ 64
  turned_fits k f = xor_lt 64 _ _ (or_lt 64 _ _ f.ones_fit f.more_twos_fit) (or_lt 64 _ _ f.twos_fit f.more_ones_fit)

  pub sum_made : IsTritSum o t a b p q
  sum_made = record {
    long = all.ones_long;
    are_trits = record { as_long = all.twos_long ∙ row.as_long ∙ sym all.ones_long; apart = apart_here };
    entries = sum_here;
    ones_fit = λ k f. subst (λ w. w < 2 ^ 64) (sym (ones_word k)) (xor_lt 64 _ _ (turned_fits k f) (or_lt 64 _ _ f.twos_fit f.more_twos_fit));
    twos_fit = λ k f. subst (λ w. w < 2 ^ 64) (sym (twos_word k)) (xor_lt 64 _ _ (turned_fits k f) (or_lt 64 _ _ f.ones_fit f.more_ones_fit));
  }
