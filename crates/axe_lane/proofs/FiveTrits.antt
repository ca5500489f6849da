-- The sum of three or five rows over the field of order 3, words by words: what is made so far, and why it is one sum after another.
use Rattle.std.proofs.Common.{◌≡◌, ◌≢◌, ℕ, ◌+◌, ◌-◌, ◌<◌, ◌≤◌, List, length, get_or, set, refl, sym, ap, ◌∙◌, arith, inl, inr, bit_or, bit_xor, get_or-set_same, get_or-set_other}
use Rattle.std.specs.Simd.Lanes.{chunk, put_chunk}
use Rattle.std.proofs.lemmas.Bool.{cases_lt}
use Rattle.std.proofs.lemmas.List.{get_or_past, length-set}
use Rattle.std.proofs.lemmas.Simd.{length-put_chunk}
use Rattle.axe_lane.specs.Trits.{ones_of_sum, twos_of_sum, ones_of_sums, twos_of_sums, sum_of_five, sum_of_three, sum_of_words, turned_bits, turned_lists, word_at, AreMadeBetween, AreTrits, AreTritsOf, HaveWords, IsTritSum, IsTritSumOfFive, IsTritSumOfThree, TritWord}
use Rattle.axe_lane.proofs.TritSums.{block_kept, block_made, both_words, chunk_words, sum_made, AreWords}

-- ---- what is made so far

-- nothing
pub made_none : (made : ℕ → TritWord) (o t : List ℕ) → AreMadeBetween 0 0 made o t o t
made_none made o t = record {
  ones_long = refl;
  twos_long = refl;
  made_between = λ k from to. absurd (omega arith);
  kept = λ k outside. refl;
}

-- a part more, where each word is made from the one that is there
part_more : (made : ℕ → TritWord → TritWord) (n m e : ℕ) (o t u v p q : List ℕ) → AreMadeBetween 0 n (λ k. made k (word_at o t k)) o t u v →
    AreMadeBetween n m (λ k. made k (word_at u v k)) u v p q → n ≤ m → m ≡ e → AreMadeBetween 0 e (λ k. made k (word_at o t k)) o t p q
part_more made n m e o t u v p q before more le same = record {
  ones_long = more.ones_long ∙ before.ones_long;
  twos_long = more.twos_long ∙ before.twos_long;
  made_between = λ k from to. elim (cases_lt k n) [
    | inl below ↦ more.kept k (inl below) ∙ before.made_between k from below
    | inr past ↦ more.made_between k (omega arith) (omega arith) ∙ ap (made k) (before.kept k (inr (omega arith)))
  ];
  kept = λ k outside. elim outside [
    | inl below ↦ absurd (omega arith)
    | inr past ↦ more.kept k (inr (omega arith)) ∙ before.kept k (inr (omega arith))
  ];
}

-- of the sum of what is there with two rows
pub three_more : (n m e : ℕ) (o t a a' b b' u v p q : List ℕ) →
    AreMadeBetween 0 n (λ k. sum_of_three (word_at o t k) (word_at a a' k) (word_at b b' k)) o t u v →
    AreMadeBetween n m (λ k. sum_of_three (word_at u v k) (word_at a a' k) (word_at b b' k)) u v p q → n ≤ m → m ≡ e →
    AreMadeBetween 0 e (λ k. sum_of_three (word_at o t k) (word_at a a' k) (word_at b b' k)) o t p q
three_more n m e o t a a' b b' u v p q before more le same =
    part_more (λ k w. sum_of_three w (word_at a a' k) (word_at b b' k)) n m e o t u v p q before more le same

-- and with four
pub five_more : (n m e : ℕ) (o t a a' b b' c c' d d' u v p q : List ℕ) →
    AreMadeBetween 0 n (λ k. sum_of_five (word_at o t k) (word_at a a' k) (word_at b b' k) (word_at c c' k) (word_at d d' k)) o t u v →
    AreMadeBetween n m (λ k. sum_of_five (word_at u v k) (word_at a a' k) (word_at b b' k) (word_at c c' k) (word_at d d' k)) u v p q →
    n ≤ m → m ≡ e →
    AreMadeBetween 0 e (λ k. sum_of_five (word_at o t k) (word_at a a' k) (word_at b b' k) (word_at c c' k) (word_at d d' k)) o t p q
five_more n m e o t a a' b b' c c' d d' u v p q before more le same =
    part_more (λ k w. sum_of_five w (word_at a a' k) (word_at b b' k) (word_at c c' k) (word_at d d' k)) n m e o t u v p q before more le same

-- ---- one word

pub word_of_five : (n : ℕ) (o t : List ℕ) (made : ℕ → TritWord) (x y : ℕ) → HaveWords (n + 1) o t → record { ones = x; twos = y } ≡ made n →
    AreMadeBetween n (n + 1) made o t (set o n x) (set t n y)
word_of_five n o t made x y room is = record {
  ones_long = length-set o n x;
  twos_long = length-set t n y;
  made_between = λ k from to.
      let same : k ≡ n = omega arith in
      rw same ((λ i. record { ones = get_or-set_same o n x 0 ones_in i; twos = get_or-set_same t n y 0 twos_in i }) ∙ is);
  kept = λ k outside.
      let other : k ≢ n = λ same. elim outside [ inl below ↦ omega arith | inr past ↦ omega arith ] in
      λ i. record { ones = get_or-set_other o n k x 0 other i; twos = get_or-set_other t n k y 0 other i };
}
  where
    ones_in : n < length o
    ones_in = omega (arith, room.ones_have)

    twos_in : n < length t
    twos_in = omega (arith, room.twos_have)

-- ---- a block

-- the words of a block
pub record AreBlock (w n : ℕ) (made : ℕ → TritWord) (xs ys : List ℕ) : Type 0 where
  pub ones_are : AreWords w (λ j. (made (n + j)).ones) xs
  pub twos_are : AreWords w (λ j. (made (n + j)).twos) ys

pub block_of_row : (w n : ℕ) (o t : List ℕ) → HaveWords (n + w) o t → AreBlock w n (word_at o t) (chunk n w o) (chunk n w t)
block_of_row w n o t room = record { ones_are = chunk_words w n o room.ones_have; twos_are = chunk_words w n t room.twos_have }

pub block_more : (w n : ℕ) (made : ℕ → TritWord) (xs ys a b new_xs new_ys : List ℕ) → AreBlock w n made xs ys → HaveWords (n + w) a b →
    new_xs ≡ ones_of_sums xs ys (chunk n w a) (chunk n w b) → new_ys ≡ twos_of_sums xs ys (chunk n w a) (chunk n w b) →
    AreBlock w n (λ k. sum_of_words (made k) (word_at a b k)) new_xs new_ys
unfolding sum_of_words
block_more w n made xs ys a b new_xs new_ys h room ones_is twos_is =
    let more = block_of_row w n a b room in
    let turned = both_words w bit_xor _ _ _ _ (both_words w bit_or _ _ _ _ h.ones_are more.twos_are) (both_words w bit_or _ _ _ _ h.twos_are more.ones_are) in
    rw (ones_is, twos_is) (record {
      ones_are = both_words w bit_xor _ _ _ _ turned (both_words w bit_or _ _ _ _ h.twos_are more.twos_are);
      twos_are = both_words w bit_xor _ _ _ _ turned (both_words w bit_or _ _ _ _ h.ones_are more.ones_are);
    })

pub block_of_five : (w n : ℕ) (made : ℕ → TritWord) (o t xs ys : List ℕ) → HaveWords (n + w) o t → AreBlock w n made xs ys →
    AreMadeBetween n (n + w) made o t (put_chunk n o xs) (put_chunk n t ys)
block_of_five w n made o t xs ys room h = record {
  ones_long = length-put_chunk n o xs;
  twos_long = length-put_chunk n t ys;
  made_between = λ k from to.
      let place : n + (k - n) ≡ k = omega arith in
      let low : k - n < w = omega arith in
      let one = block_made w n o xs h.ones_are.long room.ones_have k from to ∙ h.ones_are.entry (k - n) low in
      let two = block_made w n t ys h.twos_are.long room.twos_have k from to ∙ h.twos_are.entry (k - n) low in
      (λ i. record { ones = one i; twos = two i }) ∙ ap made place;
  kept = λ k outside.
      let one = block_kept w n o xs h.ones_are.long room.ones_have k outside in
      let two = block_kept w n t ys h.twos_are.long room.twos_have k outside in
      λ i. record { ones = one i; twos = two i };
}

-- ---- one sum after another

-- the words of the lists of a sum
whole_words : (w : ℕ) (xs : List ℕ) → length xs ≡ w → AreWords w (λ j. get_or xs j 0) xs
whole_words w xs long = record { long = long; entry = λ j below. refl }

module _ (o t a b : List ℕ) (row : AreTrits o t) (more : AreTritsOf (length o) a b) where
  turned_are : AreWords (length o) (λ j. turned_bits (get_or o j 0) (get_or t j 0) (get_or a j 0) (get_or b j 0)) (turned_lists o t a b)
  turned_are =
      both_words (length o) bit_xor _ _ _ _
      (both_words (length o) bit_or _ _ _ _ (whole_words (length o) o refl) (whole_words (length o) b (more.are_trits.as_long ∙ more.long)))
      (both_words (length o) bit_or _ _ _ _ (whole_words (length o) t row.as_long) (whole_words (length o) a more.long))

  ones_are : AreWords (length o) (λ j. ones_of_sum (get_or o j 0) (get_or t j 0) (get_or a j 0) (get_or b j 0)) (ones_of_sums o t a b)
  ones_are =
      both_words (length o) bit_xor _ _ _ _ turned_are
      (both_words (length o) bit_or _ _ _ _ (whole_words (length o) t row.as_long) (whole_words (length o) b (more.are_trits.as_long ∙ more.long)))

  twos_are : AreWords (length o) (λ j. twos_of_sum (get_or o j 0) (get_or t j 0) (get_or a j 0) (get_or b j 0)) (twos_of_sums o t a b)
  twos_are =
      both_words (length o) bit_xor _ _ _ _ turned_are
      (both_words (length o) bit_or _ _ _ _ (whole_words (length o) o refl) (whole_words (length o) a more.long))

  sum_of_lists : IsTritSum o t a b (ones_of_sums o t a b) (twos_of_sums o t a b)
  sum_of_lists =
      sum_made o t a b _ _ row more.are_trits more.long (record {
        ones_long = ones_are.long;
        twos_long = twos_are.long ∙ sym row.as_long;
        ones_made = λ k from to. ones_are.entry k to;
        twos_made = λ k from to. twos_are.entry k to;
        ones_kept = λ k outside. elim outside [
          | inl below ↦ absurd (omega arith)
          | inr past ↦ get_or_past (ones_of_sums o t a b) k 0 (omega (arith, ones_are.long)) ∙ sym (get_or_past o k 0 past)
        ];
        twos_kept = λ k outside. elim outside [
          | inl below ↦ absurd (omega arith)
          | inr past ↦
              get_or_past (twos_of_sums o t a b) k 0 (omega (arith, twos_are.long)) ∙ sym (get_or_past t k 0 (omega (arith, row.as_long)))
        ];
      })

  words_of_lists : (k : ℕ) → k < length o →
      word_at (ones_of_sums o t a b) (twos_of_sums o t a b) k ≡ sum_of_words (word_at o t k) (word_at a b k)
  unfolding sum_of_words
  words_of_lists k inside =
      let one = ones_are.entry k inside in
      let two = twos_are.entry k inside in
      λ i. record { ones = one i; twos = two i }

-- a row of which each word is that of the sum
sum_of_made : (o t a b x y p q : List ℕ) → AreTrits o t → AreTritsOf (length o) a b → length x ≡ length o → length y ≡ length o →
    ((k : ℕ) → length o ≤ k → word_at p q k ≡ word_at x y k) → length p ≡ length x → length q ≡ length y →
    ((k : ℕ) → k < length o → word_at p q k ≡ sum_of_words (word_at o t k) (word_at a b k)) → IsTritSum o t a b p q
unfolding sum_of_words
sum_of_made o t a b x y p q row more x_long y_long kept p_long q_long made =
    sum_made o t a b p q row more.are_trits more.long (record {
      ones_long = p_long ∙ x_long;
      twos_long = q_long ∙ y_long ∙ sym row.as_long;
      ones_made = λ k from to. ap (λ (w : TritWord). w.ones) (made k to);
      twos_made = λ k from to. ap (λ (w : TritWord). w.twos) (made k to);
      ones_kept = λ k outside. elim outside [
        | inl below ↦ absurd (omega arith)
        | inr past ↦
            ap (λ (w : TritWord). w.ones) (kept k past) ∙ get_or_past x k 0 (omega (arith, x_long)) ∙ sym (get_or_past o k 0 past)
      ];
      twos_kept = λ k outside. elim outside [
        | inl below ↦ absurd (omega arith)
        | inr past ↦
            ap (λ (w : TritWord). w.twos) (kept k past) ∙ get_or_past y k 0 (omega (arith, y_long)) ∙ sym (get_or_past t k 0 (omega (arith, row.as_long)))
      ];
    })

-- a row of as many words as another
as_many : (o o' a b : List ℕ) → length o' ≡ length o → AreTritsOf (length o) a b → AreTritsOf (length o') a b
as_many o o' a b long h = record { long = h.long ∙ sym long; are_trits = h.are_trits }

pub three_made : (n : ℕ) (o t a a' b b' p q : List ℕ) → AreTrits o t → AreTritsOf (length o) a a' → AreTritsOf (length o) b b' → n ≡ length o →
    AreMadeBetween 0 n (λ k. sum_of_three (word_at o t k) (word_at a a' k) (word_at b b' k)) o t p q → IsTritSumOfThree o t a a' b b' p q
three_made n o t a a' b b' p q row ha hb all h =
    let o2 : List ℕ = ones_of_sums o t a a' in
    let t2 : List ℕ = twos_of_sums o t a a' in
    let first : IsTritSum o t a a' o2 t2 = sum_of_lists o t a a' row ha in
    let second : IsTritSum o2 t2 b b' p q =
    sum_of_made o2 t2 b b' o t p q first.are_trits (as_many o o2 b b' first.long hb) (sym first.long) (row.as_long ∙ sym first.long)
    (λ k past. h.kept k (inr (omega (arith, first.long)))) h.ones_long h.twos_long (λ k below.
    h.made_between k (omega arith) (omega (arith, first.long))
    ∙ ap (λ (w : TritWord). sum_of_words w (word_at b b' k)) (sym (words_of_lists o t a a' row ha k (omega (arith, first.long))))) in
    record { ones_of_two = o2; twos_of_two = t2; first = first; second = second }

pub five_made : (n : ℕ) (o t a a' b b' c c' d d' p q : List ℕ) → AreTrits o t → AreTritsOf (length o) a a' → AreTritsOf (length o) b b' →
    AreTritsOf (length o) c c' → AreTritsOf (length o) d d' → n ≡ length o →
    AreMadeBetween 0 n (λ k. sum_of_five (word_at o t k) (word_at a a' k) (word_at b b' k) (word_at c c' k) (word_at d d' k)) o t p q →
    IsTritSumOfFive o t a a' b b' c c' d d' p q
five_made n o t a a' b b' c c' d d' p q row ha hb hc hd all h = record {
  ones_of_two = o2;
  twos_of_two = t2;
  ones_of_three = o3;
  twos_of_three = t3;
  ones_of_four = o4;
  twos_of_four = t4;
  first = first;
  second = second;
  third = third;
  fourth =
      sum_of_made o4 t4 d d' o t p q third.are_trits (as_many o o4 d d' long4 hd) (sym long4) (row.as_long ∙ sym long4)
      (λ k past. h.kept k (inr (omega (arith, long4)))) h.ones_long h.twos_long (λ k below.
      let inside : k < length o = omega (arith, long4) in
      h.made_between k (omega arith) (omega arith)
      ∙ ap (λ (w : TritWord). sum_of_words w (word_at d d' k)) (sym (word4 k inside)));
}
  where
    o2 : List ℕ
    o2 = ones_of_sums o t a a'

    t2 : List ℕ
    t2 = twos_of_sums o t a a'

    first : IsTritSum o t a a' o2 t2
    first = sum_of_lists o t a a' row ha

    o3 : List ℕ
    o3 = ones_of_sums o2 t2 b b'

    t3 : List ℕ
    t3 = twos_of_sums o2 t2 b b'

    second : IsTritSum o2 t2 b b' o3 t3
    second = sum_of_lists o2 t2 b b' first.are_trits (as_many o o2 b b' first.long hb)

    o4 : List ℕ
    o4 = ones_of_sums o3 t3 c c'

    t4 : List ℕ
    t4 = twos_of_sums o3 t3 c c'

    long3 : length o3 ≡ length o
    long3 = second.long ∙ first.long

    third : IsTritSum o3 t3 c c' o4 t4
    third = sum_of_lists o3 t3 c c' second.are_trits (as_many o o3 c c' long3 hc)

    long4 : length o4 ≡ length o
    long4 = third.long ∙ long3

    word4 : (k : ℕ) → k < length o →
        word_at o4 t4 k ≡ sum_of_words (sum_of_words (sum_of_words (word_at o t k) (word_at a a' k)) (word_at b b' k)) (word_at c c' k)
    word4 k inside =
        words_of_lists o3 t3 c c' second.are_trits (as_many o o3 c c' long3 hc) k (omega (arith, long3))
        ∙ ap (λ (w : TritWord). sum_of_words w (word_at c c' k))
        (words_of_lists o2 t2 b b' first.are_trits (as_many o o2 b b' first.long hb) k (omega (arith, first.long))
        ∙ ap (λ (w : TritWord). sum_of_words w (word_at b b' k)) (words_of_lists o t a a' row ha k inside))
