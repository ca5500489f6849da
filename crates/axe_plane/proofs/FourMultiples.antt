-- Sums of a list of digits and multiples of four others.
use Rattle.std.proofs.Common.{◌≡◌, ℕ, ◌<◌, List, length, slice_index, sym, ap, ◌∙◌, lit<}
use Rattle.axe_lane.specs.Bytes.{multiple_modulo, sum_with_four_multiples, sum_with_multiple_modulo}
use Rattle.axe_bits.specs.Trits.{trits}
use Rattle.axe_layer.specs.Bits.{bits}
use Rattle.axe_layer.specs.Digits.{digits_with_four, digits_with_multiple}
use Rattle.axe_bits.proofs.TritZeros.{added_multiple}
use Rattle.axe_layer.proofs.DigitLaws.{length-digits_with_multiple, zip2-sum}
use Rattle.axe_plane.proofs.PlaneLaws.{four_held}

-- a list of digits and multiples of four others, modulo p
abbrev pub with_multiples : ℕ → List ℕ → List ℕ → List ℕ → List ℕ → List ℕ → List ℕ → List ℕ
with_multiples p factors x a b c d =
    digits_with_multiple p (digits_with_multiple p (digits_with_multiple p (digits_with_multiple p x (slice_index factors 0) a)
    (slice_index factors 1) b) (slice_index factors 2) c) (slice_index factors 3) d

-- where all factors are 1
pub multiples_by_one : (p : ℕ) (factors x a b c d : List ℕ) → ((i : ℕ) → i < 4 → slice_index factors i ≡ 1) →
    digits_with_four p x a b c d ≡ with_multiples p factors x a b c d
multiples_by_one p factors x a b c d ones =
    let first : 1 ≡ slice_index factors 0 = sym (ones 0 (lit< tt)) in
    let second : 1 ≡ slice_index factors 1 = sym (ones 1 (lit< tt)) in
    let third : 1 ≡ slice_index factors 2 = sym (ones 2 (lit< tt)) in
    let fourth : 1 ≡ slice_index factors 3 = sym (ones 3 (lit< tt)) in
    λ i. digits_with_multiple p (digits_with_multiple p (digits_with_multiple p (digits_with_multiple p x (first i) a) (second i) b) (third i) c) (fourth i) d

-- by lists that are the same
pub bytes_of_multiples : (p : ℕ) (factors x wa wb wc wd a b c d new : List ℕ) → wa ≡ a → wb ≡ b → wc ≡ c → wd ≡ d →
    new ≡ with_multiples p factors x wa wb wc wd → new ≡ with_multiples p factors x a b c d
bytes_of_multiples p factors x wa wb wc wd a b c d new ea eb ec ed e =
    let same : with_multiples p factors x wa wb wc wd ≡ with_multiples p factors x a b c d = λ i. with_multiples p factors x (ea i) (eb i) (ec i) (ed i) in
    e ∙ same

module _ (p : ℕ) (factors x a b c d : List ℕ) where
  abbrev first : List ℕ
  first = digits_with_multiple p x (slice_index factors 0) a

  abbrev second : List ℕ
  second = digits_with_multiple p first (slice_index factors 1) b

  abbrev third : List ℕ
  third = digits_with_multiple p second (slice_index factors 2) c

  first_long : length first ≡ length x
  first_long = length-digits_with_multiple p x (slice_index factors 0) a

  second_long : length second ≡ length x
  second_long = length-digits_with_multiple p first (slice_index factors 1) b ∙ first_long

  third_long : length third ≡ length x
  third_long = length-digits_with_multiple p second (slice_index factors 2) c ∙ second_long

  pub length-with_multiples : length (with_multiples p factors x a b c d) ≡ length x
  length-with_multiples = length-digits_with_multiple p third (slice_index factors 3) d ∙ third_long

  -- the lists side by side
  pub sums_with_multiples : length a ≡ length x → length b ≡ length x → length c ≡ length x → length d ≡ length x →
      sum_with_four_multiples p factors x a b c d ≡ with_multiples p factors x a b c d
  sums_with_multiples ha hb hc hd =
      let add : ℕ → List ℕ → List ℕ → List ℕ = λ i (r : List ℕ) (l : List ℕ). sum_with_multiple_modulo p r (slice_index factors i) l in
      ap (λ (r : List ℕ). add 3 (add 2 (add 1 r b) c) d) (zip2-sum p x (slice_index factors 0) a ha)
      ∙ ap (λ (r : List ℕ). add 3 (add 2 r c) d) (zip2-sum p first (slice_index factors 1) b (hb ∙ sym first_long))
      ∙ ap (λ (r : List ℕ). add 3 r d) (zip2-sum p second (slice_index factors 2) c (hc ∙ sym second_long))
      ∙ zip2-sum p third (slice_index factors 3) d (hd ∙ sym third_long)

-- ---- digits modulo 3, whose multiples are added once

module _ (factors x a b c d : List ℕ) (ha : length a ≡ length x) (hb : length b ≡ length x) (hc : length c ≡ length x) (hd : length d ≡ length x) where
  -- the multiple of a list
  abbrev multiple : ℕ → List ℕ → List ℕ
  multiple i l = multiple_modulo 3 (slice_index factors i) l

  added_once : digits_with_four 3 x (multiple 0 a) (multiple 1 b) (multiple 2 c) (multiple 3 d) ≡ with_multiples 3 factors x a b c d
  added_once =
      let once : List ℕ → List ℕ → List ℕ = λ (r : List ℕ) (l : List ℕ). digits_with_multiple 3 r 1 l in
      ap (λ (r : List ℕ). once (once (once r (multiple 1 b)) (multiple 2 c)) (multiple 3 d)) (added_multiple (slice_index factors 0) x a ha)
      ∙ ap (λ (r : List ℕ). once (once r (multiple 2 c)) (multiple 3 d))
      (added_multiple (slice_index factors 1) (first 3 factors x a b c d) b (hb ∙ sym (first_long 3 factors x a b c d)))
      ∙ ap (λ (r : List ℕ). once r (multiple 3 d))
      (added_multiple (slice_index factors 2) (second 3 factors x a b c d) c (hc ∙ sym (second_long 3 factors x a b c d)))
      ∙ added_multiple (slice_index factors 3) (third 3 factors x a b c d) d (hd ∙ sym (third_long 3 factors x a b c d))

  -- by the layers that hold the multiples
  pub held_multiples : (oa ta ob tb oc tc od td new : List ℕ) → trits (bits (length a) oa) (bits (length a) ta) ≡ multiple_modulo 3 (slice_index factors 0) a →
      trits (bits (length b) ob) (bits (length b) tb) ≡ multiple_modulo 3 (slice_index factors 1) b →
      trits (bits (length c) oc) (bits (length c) tc) ≡ multiple_modulo 3 (slice_index factors 2) c →
      trits (bits (length d) od) (bits (length d) td) ≡ multiple_modulo 3 (slice_index factors 3) d →
      new ≡ digits_with_four 3 x (trits (bits (length x) oa) (bits (length x) ta)) (trits (bits (length x) ob) (bits (length x) tb))
      (trits (bits (length x) oc) (bits (length x) tc)) (trits (bits (length x) od) (bits (length x) td)) → new ≡ with_multiples 3 factors x a b c d
  held_multiples oa ta ob tb oc tc od td new ea eb ec ed e =
      four_held x oa ta ob tb oc tc od td a b c d (multiple 0 a) (multiple 1 b) (multiple 2 c) (multiple 3 d) new ha hb hc hd ea eb ec ed e
      ∙ added_once
