-- Blocks of 64 entries: the numbers that their words make, and the entries that they have.
use Rattle.std.proofs.Common.{◌≡◌, ℕ, ◌+◌, ◌*◌, ◌<◌, List, length, get_or, replicate, refl, sym, ap, ◌∙◌, arith, inl, inr}
use Rattle.std.specs.Int.{bit_at}
use Rattle.std.proofs.lemmas.List.{ext_get_or, get_or-replicate, length-replicate}
use Rattle.std.proofs.lemmas.Nat.Bits.{bit_at-zero}
use Rattle.axe_field.specs.Order.{Order, Two, Three, Four, Five, Seven, Eight, Nine, prime_of}
use Rattle.axe_row.specs.BitBlocks.{elements_of_block, low_at, weight_of, IsBlock}
use Rattle.axe_row.specs.EntryWords.{IsWeight}
use Rattle.axe_row.specs.declared.bit_block.BitBlock.{BitBlock}
use Rattle.axe_row.proofs.EntryWordLaws.{length-weighted_numbers, weighted_number-at}

-- the higher number that a block has at a place
abbrev pub high_at : BitBlock → ℕ → ℕ
high_at block i = bit_at block.high_ones i + 2 * bit_at block.high_twos i

-- ---- what the higher number counts

pub weight-even : (o : Order) → prime_of o ≡ 2 → weight_of o ≡ 4
weight-even Two two = refl
weight-even Three two = absurd (omega (arith, two))
weight-even Four two = refl
weight-even Five two = refl
weight-even Seven two = refl
weight-even Eight two = refl
weight-even Nine two = absurd (omega (arith, two))

pub weight-three : (o : Order) → prime_of o ≡ 3 → weight_of o ≡ 3
weight-three Two three = absurd (omega (arith, three))
weight-three Three three = refl
weight-three Four three = absurd (omega (arith, three))
weight-three Five three = absurd (omega (arith, three))
weight-three Seven three = absurd (omega (arith, three))
weight-three Eight three = absurd (omega (arith, three))
weight-three Nine three = refl

pub weight-is : (o : Order) → IsWeight (weight_of o)
weight-is Two = inr refl
weight-is Three = inl refl
weight-is Four = inr refl
weight-is Five = inr refl
weight-is Seven = inr refl
weight-is Eight = inr refl
weight-is Nine = inl refl

-- ---- the numbers of a block

module _ (o : Order) (block : BitBlock) where
  abbrev pub number_at : ℕ → ℕ
  number_at i = low_at block i + weight_of o * high_at block i

  pub length-block : length (elements_of_block o block) ≡ 64
  length-block = length-weighted_numbers block.ones block.twos block.high_ones block.high_twos (weight_of o)

  pub element-at : (i : ℕ) → i < 64 → get_or (elements_of_block o block) i 0 ≡ number_at i
  element-at i low = weighted_number-at block.ones block.twos block.high_ones block.high_twos (weight_of o) i low

  pub elements-are : (xs : List ℕ) → length xs ≡ 64 → ((i : ℕ) → i < 64 → number_at i ≡ get_or xs i 0) → elements_of_block o block ≡ xs
  elements-are xs long at =
      ext_get_or 0 (elements_of_block o block) xs (length-block ∙ sym long) (λ i inside.
      let low : i < 64 = omega (arith, inside, length-block) in
      element-at i low ∙ at i low)

  -- the number at a place, over a field of known characteristic
  pub even-number : prime_of o ≡ 2 → (i : ℕ) → i < 64 → get_or (elements_of_block o block) i 0 ≡ low_at block i + 4 * high_at block i
  even-number two i low = element-at i low ∙ ap (λ w. low_at block i + w * high_at block i) (weight-even o two)

  pub trit-number : prime_of o ≡ 3 → (i : ℕ) → i < 64 → get_or (elements_of_block o block) i 0 ≡ low_at block i + 3 * high_at block i
  trit-number three i low = element-at i low ∙ ap (λ w. low_at block i + w * high_at block i) (weight-three o three)

  -- a block has the entries that it has at each place
  pub even-block : (xs : List ℕ) → prime_of o ≡ 2 → length xs ≡ 64 → ((i : ℕ) → i < 64 → low_at block i + 4 * high_at block i ≡ get_or xs i 0) →
      ((i : ℕ) → i < 64 → low_at block i < 4) → IsBlock o xs block
  even-block xs two long at small = record {
    numbers = elements-are xs long (λ i low. ap (λ w. low_at block i + w * high_at block i) (weight-even o two) ∙ at i low);
    low = λ i low. omega (arith, weight-even o two, small i low);
  }

  pub trit-block : (xs : List ℕ) → prime_of o ≡ 3 → length xs ≡ 64 → ((i : ℕ) → i < 64 → low_at block i + 3 * high_at block i ≡ get_or xs i 0) →
      ((i : ℕ) → i < 64 → low_at block i < 3) → IsBlock o xs block
  trit-block xs three long at small = record {
    numbers = elements-are xs long (λ i low. ap (λ w. low_at block i + w * high_at block i) (weight-three o three) ∙ at i low);
    low = λ i low. omega (arith, weight-three o three, small i low);
  }

-- ---- the block of zeros

pub zero_block : (o : Order) (block : BitBlock) → block.ones ≡ 0 → block.twos ≡ 0 → block.high_ones ≡ 0 → block.high_twos ≡ 0 →
    IsBlock o (replicate 64 0) block
zero_block o block a b c d = record {
  numbers =
      elements-are o block (replicate 64 0) (length-replicate {A = ℕ} 64 0) (λ i low.
      let high : high_at block i ≡ 0 = no_high i in
      let lower : low_at block i ≡ 0 = no_low i in
      rw lower (rw high (omega arith)) ∙ sym (get_or-replicate {A = ℕ} 64 i 0 0 low));
  low = λ i low. small (weight_of o) i (weight-is o);
}
  where
    no_low : (i : ℕ) → low_at block i ≡ 0
    no_low i =
        let one : bit_at block.ones i ≡ 0 = ap (λ w. bit_at w i) a ∙ bit_at-zero i in
        let two : bit_at block.twos i ≡ 0 = ap (λ w. bit_at w i) b ∙ bit_at-zero i in
        omega (arith, one, two)

    no_high : (i : ℕ) → high_at block i ≡ 0
    no_high i =
        let one : bit_at block.high_ones i ≡ 0 = ap (λ w. bit_at w i) c ∙ bit_at-zero i in
        let two : bit_at block.high_twos i ≡ 0 = ap (λ w. bit_at w i) d ∙ bit_at-zero i in
        omega (arith, one, two)

    small : (w i : ℕ) → IsWeight w → low_at block i < w
    small w i (inl three) = omega (arith, three, no_low i)
    small w i (inr four) = omega (arith, four, no_low i)
