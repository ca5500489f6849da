-- The bytes that 64 words have at an index, one after another.
use Rattle.std.proofs.Common.{◌≡◌, ◌≢◌, ℕ, ◌%◌, ◌+◌, ◌*◌, ◌^◌, ◌/◌, ◌<◌, List, length, get_or, set, bit_and, arith, ap, sym, ◌∙◌, inl, inr, get_or-set_same, get_or-set_other}
use Rattle.std.specs.Int.{bit_at}
use Rattle.std.proofs.lemmas.Bool.{cases_eq}
use Rattle.std.proofs.lemmas.List.{length-set}
use Rattle.axe_layer.proofs.BitLaws.{bit_at-shifted}
use Rattle.axe_layer.proofs.DigitWords.{lowest_kept}

-- of 64 bytes the first are those that words have at an index
pub record HaveBytes (words : List ℕ) (at until : ℕ) (bytes : List ℕ) : Type 0 where
  pub long : length bytes ≡ 64
  pub so_far : (i k : ℕ) → i < until → k < 8 → bit_at (get_or bytes i 0) k ≡ bit_at (get_or words i 0) (at * 8 + k)

-- one more
pub HaveBytes-next : (words : List ℕ) (at n : ℕ) (bytes : List ℕ) → HaveBytes words at n bytes → n < 64 →
    HaveBytes words at (n + 1) (set bytes n (bit_and (get_or words n 0 / 2 ^ (at * 8)) 255))
HaveBytes-next words at n bytes h below = record {
  long = length-set bytes n byte ∙ h.long;
  so_far = λ i k inside low. elim (cases_eq i n) [
    | inl same ↦
        ap (λ j. bit_at (get_or (set bytes n byte) j 0) k) same
        ∙ ap (λ b. bit_at b k) (get_or-set_same bytes n byte 0 (omega (arith, h.long)))
        ∙ lowest_kept (get_or words n 0 / 2 ^ (at * 8)) 8 k low ∙ bit_at-shifted (get_or words n 0) (at * 8) k
        ∙ ap (λ j. bit_at (get_or words j 0) (at * 8 + k)) (sym same)
    | inr other ↦
        ap (λ b. bit_at b k) (get_or-set_other bytes n i byte 0 other) ∙ h.so_far i k (omega (arith, inside, other)) low
  ];
}
  where
    byte : ℕ
    byte = bit_and (get_or words n 0 / 2 ^ (at * 8)) 255

-- bit j of the words before an index is bit i of word j of a block, i being the word's index
abbrev pub AreTransposedBelow : List ℕ → ℕ → List ℕ → Type 0
AreTransposedBelow block until words =
    (i j : ℕ) → i < until → j < 64 → bit_at (get_or words i 0) j ≡ bit_at (get_or block j 0) i

-- eight words more, made of the bytes at an index
pub AreTransposedBelow-more : (block : List ℕ) (at : ℕ) (words bytes next : List ℕ) → AreTransposedBelow block (at * 8) words →
    ((i k : ℕ) → i < 64 → k < 8 → bit_at (get_or bytes i 0) k ≡ bit_at (get_or block i 0) (at * 8 + k)) →
    ((k i : ℕ) → k < 8 → i < 64 → bit_at (get_or next (at * 8 + k) 0) i ≡ bit_at (get_or bytes i 0) k) →
    ((j : ℕ) → j / 8 ≢ at → get_or next j 0 ≡ get_or words j 0) → AreTransposedBelow block ((at + 1) * 8) next
AreTransposedBelow-more block at words bytes next before made written kept i j below low = elim (cases_eq (i / 8) at) [
  | inl same ↦
      let whole : i ≡ at * 8 + i % 8 = omega arith in
      let small : i % 8 < 8 = omega arith in
      ap (λ e. bit_at (get_or next e 0) j) whole ∙ written (i % 8) j small low ∙ made j (i % 8) low small ∙ ap (bit_at (get_or block j 0)) (sym whole)
  | inr other ↦ ap (λ w. bit_at w j) (kept i other) ∙ before i j (omega arith) low
]
