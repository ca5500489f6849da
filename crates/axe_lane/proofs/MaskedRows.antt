-- Sums of rows of words of which masks take some bits: their blocks and words, and what they are added to so far.
use Rattle.std.proofs.Common.{◌≡◌, ℕ, ◌+◌, ◌<◌, ◌≤◌, List, length, get_or, set, take, drop, sym, ap, ap₂, ◌∙◌, arith}
use Rattle.std.specs.Int.RustNames.{bit_and, bit_xor}
use Rattle.std.specs.Simd.Lanes.{chunk, put_chunk, zip2}
use Rattle.std.proofs.lemmas.List.{drop-map, get_or-map, length-map, take-map}
use Rattle.std.proofs.lemmas.Simd.{get_or-zip2, length-zip2}
use Rattle.axe_lane.specs.Words.{masked, masked_sum_of_two, masked_sum_of_three}
use Rattle.axe_lane.proofs.FiveRows.{chunk-zip2}
use Rattle.axe_lane.proofs.Progress.{combined_to, combined_to_block, last_one}

pub length-masked : (m : ℕ) (a : List ℕ) → length (masked m a) ≡ length a
length-masked m a = length-map a (λ word. bit_and word m)

pub chunk-masked : (m i k : ℕ) (a : List ℕ) → chunk i k (masked m a) ≡ masked m (chunk i k a)
chunk-masked m i k a =
    ap (λ (l : List ℕ). take k l) (drop-map (λ word. bit_and word m) i a) ∙ take-map (λ word. bit_and word m) k (drop i a)

pub get_or-masked : (m i : ℕ) (a : List ℕ) → i < length a → get_or (masked m a) i 0 ≡ bit_and (get_or a i 0) m
get_or-masked m i a inside = get_or-map (λ word. bit_and word m) a i 0 0 inside

module _ (masks : List ℕ) (n : ℕ) (a b : List ℕ) (a_long : length a ≡ n) (b_long : length b ≡ n) where
  abbrev left : List ℕ
  left = masked (get_or masks 0 0) a

  abbrev right : List ℕ
  right = masked (get_or masks 1 0) b

  left_long : length left ≡ n
  left_long = length-masked (get_or masks 0 0) a ∙ a_long

  right_long : length right ≡ n
  right_long = length-masked (get_or masks 1 0) b ∙ b_long

  pub two_long : length (masked_sum_of_two masks a b) ≡ n
  two_long = length-zip2 bit_xor left right (left_long ∙ sym right_long) ∙ left_long

  pub chunk-two : (i k : ℕ) → chunk i k (masked_sum_of_two masks a b) ≡ masked_sum_of_two masks (chunk i k a) (chunk i k b)
  chunk-two i k =
      chunk-zip2 bit_xor i k left right (right_long ∙ sym left_long)
      ∙ ap₂ (zip2 bit_xor) (chunk-masked (get_or masks 0 0) i k a) (chunk-masked (get_or masks 1 0) i k b)

  pub get_or-two : (i : ℕ) → i < n →
      get_or (masked_sum_of_two masks a b) i 0 ≡ bit_xor (bit_and (get_or a i 0) (get_or masks 0 0)) (bit_and (get_or b i 0) (get_or masks 1 0))
  get_or-two i inside =
      get_or-zip2 bit_xor left right i 0 0 0 (omega (arith, left_long)) (omega (arith, right_long))
      ∙ ap₂ bit_xor (get_or-masked (get_or masks 0 0) i a (omega (arith, a_long))) (get_or-masked (get_or masks 1 0) i b (omega (arith, b_long)))

  module _ (c : List ℕ) (c_long : length c ≡ n) where
    abbrev last : List ℕ
    last = masked (get_or masks 2 0) c

    last_long : length last ≡ n
    last_long = length-masked (get_or masks 2 0) c ∙ c_long

    pub three_long : length (masked_sum_of_three masks a b c) ≡ n
    three_long = length-zip2 bit_xor (masked_sum_of_two masks a b) last (two_long ∙ sym last_long) ∙ two_long

    pub chunk-three : (i k : ℕ) →
        chunk i k (masked_sum_of_three masks a b c) ≡ masked_sum_of_three masks (chunk i k a) (chunk i k b) (chunk i k c)
    chunk-three i k =
        chunk-zip2 bit_xor i k (masked_sum_of_two masks a b) last (last_long ∙ sym two_long)
        ∙ ap₂ (zip2 bit_xor) (chunk-two i k) (chunk-masked (get_or masks 2 0) i k c)

    pub get_or-three : (i : ℕ) → i < n →
        get_or (masked_sum_of_three masks a b c) i 0
        ≡ bit_xor (bit_xor (bit_and (get_or a i 0) (get_or masks 0 0)) (bit_and (get_or b i 0) (get_or masks 1 0))) (bit_and (get_or c i 0) (get_or masks 2 0))
    get_or-three i inside =
        get_or-zip2 bit_xor (masked_sum_of_two masks a b) last i 0 0 0 (omega (arith, two_long)) (omega (arith, last_long))
        ∙ ap₂ bit_xor (get_or-two i inside) (get_or-masked (get_or masks 2 0) i c (omega (arith, c_long)))

-- a row that sums are added to: a block more, and the last word
module _ (n : ℕ) (x sum now next : List ℕ) (so_far : now ≡ combined_to bit_xor n x sum) (e : length sum ≡ length x) where
  pub block_added : (k m : ℕ) (piece : List ℕ) → chunk n k sum ≡ piece → m ≡ n + k → m ≤ length x →
      next ≡ put_chunk n now (zip2 bit_xor (chunk n k now) piece) → next ≡ combined_to bit_xor m x sum
  block_added k m piece of_sum more room is =
      is
      ∙ ap (λ (s : List ℕ). put_chunk n now (zip2 bit_xor (chunk n k now) s)) (sym of_sum)
      ∙ ap (λ (l : List ℕ). put_chunk n l (zip2 bit_xor (chunk n k l) (chunk n k sum))) so_far
      ∙ combined_to_block bit_xor k n m x sum more room e

  pub word_added : (word : ℕ) → get_or sum n 0 ≡ word → length x ≡ n + 1 →
      next ≡ set now n (bit_xor (get_or now n 0) word) → next ≡ zip2 bit_xor x sum
  word_added word of_sum end is =
      is ∙ ap (λ s. set now n (bit_xor (get_or now n 0) s)) (sym of_sum) ∙ last_one bit_xor n x sum now so_far e end
