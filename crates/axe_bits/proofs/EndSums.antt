-- Planes of bits of which the end was added to: their words from that of an index on.
use Rattle.std.proofs.Common.{◌≡◌, ◌++◌, ◌-◌, ◌/◌, ◌≤◌, List, ℕ, length, get_or, take, drop, ap, sym, subst, ◌∙◌, arith, bit_xor}
use Rattle.std.specs.Int.Bits.{xor_zero_r}
use Rattle.std.specs.Simd.Lanes.{zip2}
use Rattle.std.proofs.lemmas.List.{length-drop}
use Rattle.axe_lane.specs.Entries.{AreZerosBefore}
use Rattle.axe_layer.specs.Bits.{bits, HoldsBits}
use Rattle.axe_layer.proofs.BitLaws.{plane_long}
use Rattle.axe_layer.proofs.EndLaws.{end_is, zip2-written, word_within}

-- words that hold n given digits
pub record HoldsDigits (n : ℕ) (words digits : List ℕ) : Type 0 where
  pub held : HoldsBits n words
  pub are : bits n words ≡ digits

-- so are the words of a plane of n digits
pub with_length : (n m : ℕ) (words digits : List ℕ) → HoldsBits m words → bits m words ≡ digits → length digits ≡ n → HoldsDigits n words digits
with_length n m words digits h is long =
    let same : m ≡ n = sym (plane_long m words digits is) ∙ long in
    record { held = subst (λ k. HoldsBits k words) same h; are = ap (λ k. bits k words) (sym same) ∙ is }

-- the word of an index is one of them, or the next
pub word_inside : (n start : ℕ) (words digits v : List ℕ) → HoldsDigits n words digits → v ≡ words → start ≤ n → start / 64 ≤ length v
word_inside n start words digits v h e within = omega (arith, word_within n start words h.held within, ap length e)

-- the ends of two planes of one length have as many words
pub ends_long : (n i : ℕ) (a b da db v w : List ℕ) → HoldsDigits n a da → HoldsDigits n b db → v ≡ a → w ≡ b →
    length (take (length w - i) (drop i w)) ≡ length (take (length v - i) (drop i v))
ends_long n i a b da db v w ha hb ev ew =
    let same : length w ≡ length v = ap length ew ∙ hb.held.long ∙ sym ha.held.long ∙ sym (ap length ev) in
    ap length (end_is i w) ∙ omega (arith, same, length-drop i w, length-drop i v) ∙ sym (ap length (end_is i v))

-- the words after, where words from that of an index on were written anew: their sums with others that are 0 before it
pub added : (n k start : ℕ) (x sum v w dst : List ℕ) → HoldsBits n x → HoldsBits n sum → AreZerosBefore sum (start / 64) → k ≡ length x →
    v ≡ x → w ≡ sum → start ≤ n →
    dst ≡ zip2 bit_xor (take (length v - start / 64) (drop (start / 64) v)) (take (length w - start / 64) (drop (start / 64) w)) →
    take k ((take (start / 64) v ++ (dst ++ drop (length v - start / 64) (drop (start / 64) v)))
    ++ drop (length (take (start / 64) v ++ (dst ++ drop (length v - start / 64) (drop (start / 64) v)))) x) ≡ zip2 bit_xor x sum
added n k start x sum v w dst hx hs zeros all ev ew within e =
    zip2-written bit_xor (start / 64) x sum (word_within n start x hx within) (hs.long ∙ sym hx.long)
    (λ j before. ap (bit_xor (get_or x j 0)) (zeros j before) ∙ xor_zero_r (get_or x j 0)) k v w dst all ev ew e
