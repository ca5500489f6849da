-- Multiples of two rows over the field of order 3 that are added to a third, words by words.
use Rattle.std.proofs.Common.{◌≡◌, ℕ, ◌+◌, ◌/◌, ◌%◌, ◌≤◌, Bool, true, false, List, cond, length, get_or, replicate, refl, sym, ap, ap₂, ◌∙◌, arith, inl, inr, bit_or, bit_xor}
use Rattle.std.specs.Int.{bit_at}
use Rattle.std.specs.Simd.Lanes.{chunk, put_chunk}
use Rattle.std.proofs.lemmas.Bool.{cases_lt}
use Rattle.std.proofs.lemmas.List.{get_or_past, get_or-replicate, length-replicate}
use Rattle.std.proofs.lemmas.Nat.Bits.{bit_at-zero}
use Rattle.std.proofs.lemmas.Simd.{length-chunk}
use Rattle.axe_lane.specs.Words.{bit_of}
use Rattle.axe_lane.specs.Trits.{multiple_layer, ones_of_sums, twos_of_sums, sum_of_three, sum_of_words, word_at, AreMadeBetween, AreTrits, AreTritsOf, HasMultiplesOfTwo, HaveWords, TritWord}
use Rattle.axe_lane.proofs.TritSums.{both_words, chunk_words, AreWords}
use Rattle.axe_lane.proofs.FiveTrits.{block_of_five, block_of_row, three_made, AreBlock}

-- ---- a layer of a multiple, where c is whether it is by 0, and d whether by 1

abbrev layer_of : Bool → Bool → List ℕ → List ℕ → List ℕ
layer_of c d own other = cond c (replicate (length own) 0) (cond d own other)

layer_long : (c d : Bool) (own other : List ℕ) → length other ≡ length own → length (layer_of c d own other) ≡ length own
layer_long true d own other same = length-replicate (length own) 0
layer_long false true own other same = refl
layer_long false false own other same = same

abbrev zeros : ℕ → List ℕ
zeros n = replicate n 0

zeros_long : (n : ℕ) → length (zeros n) ≡ n
zeros_long n = length-replicate n 0

zero_at : (n k : ℕ) → get_or (zeros n) k 0 ≡ 0
zero_at n k = elim (cases_lt k n) [
  | inl below ↦ get_or-replicate n k 0 0 below
  | inr past ↦ get_or_past (zeros n) k 0 (omega (arith, zeros_long n))
]

zeros_apart : (n m i : ℕ) → bit_of (zeros n) i + bit_of (zeros m) i ≤ 1
unfolding bit_of
zeros_apart n m i =
    let one = ap (λ w. bit_at w (i % 64)) (zero_at n (i / 64)) ∙ bit_at-zero (i % 64) in
    let two = ap (λ w. bit_at w (i % 64)) (zero_at m (i / 64)) ∙ bit_at-zero (i % 64) in
    omega (arith, one, two)

layers_are_trits : (c d : Bool) (a b : List ℕ) → AreTrits a b → AreTrits (layer_of c d a b) (layer_of c d b a)
layers_are_trits true d a b h = record {
  as_long = length-replicate (length b) 0 ∙ h.as_long ∙ sym (length-replicate (length a) 0);
  apart = zeros_apart (length a) (length b);
}
layers_are_trits false true a b h = h
layers_are_trits false false a b h = record { as_long = sym h.as_long; apart = λ i. omega (arith, h.apart i) }

pub multiple_is_row : (m : ℕ) (o a b : List ℕ) → AreTritsOf (length o) a b →
    AreTritsOf (length o) (multiple_layer m a b) (multiple_layer m b a)
multiple_is_row m o a b h = record {
  long = layer_long _ _ a b h.are_trits.as_long ∙ h.long;
  are_trits = layers_are_trits _ _ a b h.are_trits;
}

layer_words : (c d : Bool) (w n : ℕ) (own other : List ℕ) → n + w ≤ length own → n + w ≤ length other →
    AreWords w (λ j. get_or (layer_of c d own other) (n + j) 0) (layer_of c d (chunk n w own) (chunk n w other))
layer_words true d w n own other room more = record {
  long = length-replicate (length (chunk n w own)) 0 ∙ length-chunk n w own room;
  entry = λ j below. zero_at (length (chunk n w own)) j ∙ sym (zero_at (length own) (n + j));
}
layer_words false true w n own other room more = chunk_words w n own room
layer_words false false w n own other room more = chunk_words w n other more

-- ---- a block

block_sum : (w n : ℕ) (f g : ℕ → TritWord) (xs ys us vs : List ℕ) → AreBlock w n f xs ys → AreBlock w n g us vs →
    AreBlock w n (λ k. sum_of_words (f k) (g k)) (ones_of_sums xs ys us vs) (twos_of_sums xs ys us vs)
unfolding sum_of_words
block_sum w n f g xs ys us vs h more =
    let turned = both_words w bit_xor _ _ _ _ (both_words w bit_or _ _ _ _ h.ones_are more.twos_are) (both_words w bit_or _ _ _ _ h.twos_are more.ones_are) in
    record {
      ones_are = both_words w bit_xor _ _ _ _ turned (both_words w bit_or _ _ _ _ h.twos_are more.twos_are);
      twos_are = both_words w bit_xor _ _ _ _ turned (both_words w bit_or _ _ _ _ h.ones_are more.ones_are);
    }

block_of_multiple : (m w n : ℕ) (a b : List ℕ) → HaveWords (n + w) a b →
    AreBlock w n (word_at (multiple_layer m a b) (multiple_layer m b a)) (multiple_layer m (chunk n w a) (chunk n w b)) (multiple_layer m (chunk n w b) (chunk n w a))
block_of_multiple m w n a b room = record {
  ones_are = layer_words _ _ w n a b room.ones_have room.twos_have;
  twos_are = layer_words _ _ w n b a room.twos_have room.ones_have;
}

-- what the words of a row become
abbrev pub with_multiples : ℕ → ℕ → List ℕ → List ℕ → List ℕ → List ℕ → List ℕ → List ℕ → ℕ → TritWord
with_multiples p q o t a a' b b' k =
    sum_of_three (word_at o t k) (word_at (multiple_layer p a a') (multiple_layer p a' a) k) (word_at (multiple_layer q b b') (multiple_layer q b' b) k)

pub pair_made : (n p q : ℕ) (o t a a' b b' x y x' y' new_o new_t : List ℕ) → HaveWords (n + 2) o t → HaveWords (n + 2) a a' → HaveWords (n + 2) b b' →
    x ≡ multiple_layer p (chunk n 2 a) (chunk n 2 a') → y ≡ multiple_layer p (chunk n 2 a') (chunk n 2 a) →
    x' ≡ multiple_layer q (chunk n 2 b) (chunk n 2 b') → y' ≡ multiple_layer q (chunk n 2 b') (chunk n 2 b) →
    new_o ≡ put_chunk n o (ones_of_sums (ones_of_sums (chunk n 2 o) (chunk n 2 t) x y) (twos_of_sums (chunk n 2 o) (chunk n 2 t) x y) x' y') →
    new_t ≡ put_chunk n t (twos_of_sums (ones_of_sums (chunk n 2 o) (chunk n 2 t) x y) (twos_of_sums (chunk n 2 o) (chunk n 2 t) x y) x' y') →
    AreMadeBetween n (n + 2) (with_multiples p q o t a a' b b') o t new_o new_t
pair_made n p q o t a a' b b' x y x' y' new_o new_t room a_room b_room ex ey ex' ey' eo et =
    rw (eo, et, ex, ey, ex', ey') (block_of_five 2 n (with_multiples p q o t a a' b b') o t _ _ room
    (block_sum 2 n _ _ _ _ _ _ (block_sum 2 n _ _ _ _ _ _ (block_of_row 2 n o t room) (block_of_multiple p 2 n a a' a_room)) (block_of_multiple q 2 n b b' b_room)))

pub word_made : (n p q : ℕ) (o t a a' b b' new_o new_t : List ℕ) (u v u' v' : ℕ) →
    u ≡ get_or (multiple_layer p a a') n 0 → v ≡ get_or (multiple_layer p a' a) n 0 →
    u' ≡ get_or (multiple_layer q b b') n 0 → v' ≡ get_or (multiple_layer q b' b) n 0 →
    AreMadeBetween n (n + 1) (λ k. sum_of_three (word_at o t k) (record { ones = u; twos = v }) (record { ones = u'; twos = v' })) o t new_o new_t →
    AreMadeBetween n (n + 1) (with_multiples p q o t a a' b b') o t new_o new_t
word_made n p q o t a a' b b' new_o new_t u v u' v' eu ev eu' ev' h = record {
  ones_long = h.ones_long;
  twos_long = h.twos_long;
  made_between = λ k from to.
      let same : k ≡ n = omega arith in
      rw same (h.made_between n (omega arith) (omega arith)
      ∙ ap₂ (λ (x y : TritWord). sum_of_three (word_at o t n) x y) (λ i. record { ones = eu i; twos = ev i }) (λ i. record { ones = eu' i; twos = ev' i }));
  kept = h.kept;
}

pub multiples_made : (n p q : ℕ) (o t a a' b b' new_o new_t : List ℕ) → AreTrits o t → AreTritsOf (length o) a a' → AreTritsOf (length o) b b' → n ≡ length o →
    AreMadeBetween 0 n (with_multiples p q o t a a' b b') o t new_o new_t → HasMultiplesOfTwo p q o t a a' b b' new_o new_t
multiples_made n p q o t a a' b b' new_o new_t row ha hb all h =
    three_made n o t _ _ _ _ new_o new_t row (multiple_is_row p o a a' ha) (multiple_is_row q o b b' hb) all h

-- ---- how long the lists are

-- a row of as many words as another
pub as_long : (o o' a b : List ℕ) → length o' ≡ length o → AreTritsOf (length o) a b → AreTritsOf (length o') a b
as_long o o' a b long h = record { long = h.long ∙ sym long; are_trits = h.are_trits }

-- a row has words as far as another of its length
pub have_words : (n : ℕ) (o a b : List ℕ) → AreTritsOf (length o) a b → n ≤ length o → HaveWords n a b
have_words n o a b h inside = record {
  ones_have = omega (arith, h.long);
  twos_have = omega (arith, h.long, h.are_trits.as_long);
}

-- and so has what a part of it was made
pub kept_words : (n from to : ℕ) (made : ℕ → TritWord) (o t new_o new_t : List ℕ) → AreMadeBetween from to made o t new_o new_t → n ≤ length o → n ≤ length t →
    HaveWords n new_o new_t
kept_words n from to made o t new_o new_t h ones_inside twos_inside = record {
  ones_have = omega (arith, h.ones_long);
  twos_have = omega (arith, h.twos_long);
}
