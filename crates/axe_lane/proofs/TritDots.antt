-- The dot product of two rows over the field of order 3, word by word.
use Rattle.std.proofs.Common.{◌≡◌, ℕ, ◌+◌, ◌*◌, ◌%◌, ◌<◌, ◌≤◌, List, length, get_or, take, sym, ap, ◌∙◌, arith, bit_and}
use Rattle.std.specs.Int.RustNames.{count_ones}
use Rattle.std.specs.Simd.Lanes.{sum_l, zip2}
use Rattle.std.proofs.lemmas.List.{take_all}
use Rattle.std.proofs.lemmas.Simd.{get_or-zip2, length-zip2}
use Rattle.axe_lane.specs.Trits.{common_trits}
use Rattle.axe_lane.specs.Words.{common_bits}
use Rattle.axe_lane.proofs.SumLaws.{sum_is, sum_more}

-- how many bits are set in both lists at the same index, in the first n words
abbrev pub common_to : ℕ → List ℕ → List ℕ → ℕ
common_to n a b = sum_l (take n (zip2 (λ x y. count_ones (bit_and x y)) a b))

-- the sum of products in the first n words
abbrev pub trits_to : ℕ → List ℕ → List ℕ → List ℕ → List ℕ → ℕ
trits_to n o t a b = common_to n o a + common_to n t b + 2 * (common_to n o b + common_to n t a)

common_more : (n : ℕ) (a b : List ℕ) → n < length a → length b ≡ length a →
    common_to (n + 1) a b ≡ common_to n a b + count_ones (bit_and (get_or a n 0) (get_or b n 0))
common_more n a b inside fits =
    let f : ℕ → ℕ → ℕ = λ x y. count_ones (bit_and x y) in
    let within : n < length (zip2 f a b) = omega (arith, length-zip2 f a b (sym fits)) in
    let entry : get_or (zip2 f a b) n 0 ≡ f (get_or a n 0) (get_or b n 0) = get_or-zip2 f a b n 0 0 0 inside (omega arith) in
    sum_more n (n + 1) (zip2 f a b) (omega arith) within ∙ ap (λ s. common_to n a b + s) entry

common_all : (n : ℕ) (a b : List ℕ) → length a ≤ n → length b ≡ length a → common_to n a b ≡ common_bits a b
common_all n a b end fits =
    let f : ℕ → ℕ → ℕ = λ x y. count_ones (bit_and x y) in
    ap sum_l (take_all n (zip2 f a b) (omega (arith, length-zip2 f a b (sym fits)))) ∙ sym (sum_is (zip2 f a b))

module _ (o t a b : List ℕ) (t_fits : length t ≡ length o) (a_fits : length a ≡ length o) (b_fits : length b ≡ length o) where
  -- a word more
  pub trits_more : (n s : ℕ) → n < length o → s ≡ trits_to n o t a b % 3 →
      (s + (count_ones (bit_and (get_or o n 0) (get_or a n 0)) + count_ones (bit_and (get_or t n 0) (get_or b n 0)))
      + 2 * (count_ones (bit_and (get_or o n 0) (get_or b n 0)) + count_ones (bit_and (get_or t n 0) (get_or a n 0)))) % 3
      ≡ trits_to (n + 1) o t a b % 3
  trits_more n s inside before =
      omega (
        arith,
        before,
        common_more n o a inside a_fits,
        common_more n t b (omega arith) (omega arith),
        common_more n o b inside b_fits,
        common_more n t a (omega arith) (omega arith),
      )

  -- all words
  pub trits_all : (n s : ℕ) → length o ≤ n → s ≡ trits_to n o t a b % 3 → s ≡ common_trits o t a b % 3
  trits_all n s end before =
      omega (
        arith,
        before,
        common_all n o a end a_fits,
        common_all n t b (omega arith) (omega arith),
        common_all n o b end b_fits,
        common_all n t a (omega arith) (omega arith),
      )
