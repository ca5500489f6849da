-- Runs of consecutive indices, as bits tell them.
use Rattle.std.proofs.Common.{◌≡◌, ◌↔◌, ℕ, ◌+◌, ◌-◌, ◌*◌, ◌/◌, ◌%◌, ◌^◌, ◌<◌, ◌≤◌, List, length, get_or, set, suc, zero, refl, sym, ap, ap₂, ◌∙◌, arith, inl, inr, w64, get_or-set_same, get_or-set_other}
use Rattle.std.specs.Int.{bit_at, trailing_ones}
use Rattle.std.specs.Int.Count.{count_trailing_zeros}
use Rattle.std.proofs.lemmas.Bool.{cases_eq}
use Rattle.std.proofs.lemmas.Nat.Bits.{bit_at_ones, bit_at-trailing_ones}
use Rattle.std.proofs.Math.Nat.{div-le_self}
use native.Mathlib.Decide.{dec_lt}
use Rattle.axe_lane.specs.Words.{bit_of}
use Rattle.axe_layer.specs.Runs.{AreFollowed}
use Rattle.axe_layer.proofs.BitLaws.{bit_at-shifted, bit_of-past, bit_of-word}

-- whether an index is followed by the next number
abbrev pub IsFollowed : List ℕ → ℕ → Type 0
IsFollowed indices e = get_or indices (e + 1) 0 ≡ get_or indices e 0 + 1

-- ---- a word

-- the bits of a word that tell of the indices from one on and before another; the others are 0
pub record TellsBetween (indices : List ℕ) (from at word : ℕ) : Type 0 where
  pub done : (i : ℕ) → i < 64 → from + i < at → bit_at word i ≡ 1 ↔ IsFollowed indices (from + i)
  pub left : (i : ℕ) → i < 64 → at ≤ from + i → bit_at word i ≡ 0

-- the ones from a place of a word on
pub ones_from : (word place i : ℕ) → word < 2 ^ 64 → place + i < 64 → i < trailing_ones w64 (word / 2 ^ place) → bit_at word (place + i) ≡ 1
ones_from word place i fits low inside = sym (bit_at-shifted word place i) ∙ elim (dec_lt (rest + 1) (2 ^ 64)) [
  | yes below ↦ (bit_at-trailing_ones w64 rest below).2 i inside
  | no above ↦
      let all : rest ≡ 2 ^ 64 - 1 = omega (arith, fits, div-le_self word (2 ^ place)) in
      ap (λ w. bit_at w i) all ∙ bit_at_ones 64 i (omega (arith, low))
]
  where
    rest : ℕ
    rest = word / 2 ^ place

no_zero : trailing_ones w64 (2 ^ 64 - 1) ≡ 64
unfolding count_trailing_zeros
no_zero = refl

-- the 0 after them
pub zero_after_ones : (word place ones : ℕ) → word < 2 ^ 64 → ones ≡ trailing_ones w64 (word / 2 ^ place) → place + (1 + ones) ≤ 64 →
    bit_at word (place + (1 + ones) - 1) ≡ 0
zero_after_ones word place ones fits is low = elim (dec_lt (rest + 1) (2 ^ 64)) [
  | yes below ↦
      let there : place + (1 + ones) - 1 ≡ place + ones = omega arith in
      ap (bit_at word) there ∙ sym (bit_at-shifted word place ones) ∙ ap (bit_at rest) is ∙ (bit_at-trailing_ones w64 rest below).1
  | no above ↦
      let all : rest ≡ 2 ^ 64 - 1 = omega (arith, fits, div-le_self word (2 ^ place)) in
      absurd (omega (arith, low, is ∙ ap (trailing_ones w64) all ∙ no_zero))
]
  where
    rest : ℕ
    rest = word / 2 ^ place

-- ---- words

-- the bits below an index tell which indices are followed by the next number
abbrev pub TellFollowed : List ℕ → List ℕ → ℕ → Type 0
TellFollowed indices words until =
    (e : ℕ) → e < until → e + 1 < length indices → bit_of words e ≡ 1 ↔ IsFollowed indices e

-- a word more
pub tell_more : (indices words : List ℕ) (at word until : ℕ) → TellFollowed indices words (at * 64) → at < length words →
    ((i : ℕ) → i < 64 → at * 64 + i + 1 < length indices →
    bit_at word i ≡ 1 ↔ get_or indices (at * 64 + i + 1) 0 ≡ get_or indices (at * 64 + i) 0 + 1) →
    until ≡ (at + 1) * 64 → TellFollowed indices (set words at word) until
tell_more indices words at word until h within is next = λ e below inside. elim (cases_eq (e / 64) at) [
  | inl same ↦
      let whole : at * 64 + e % 64 ≡ e = omega arith in
      let bit : bit_of (set words at word) e ≡ bit_at word (e % 64) =
      bit_of-word (set words at word) e ∙ ap (λ w. bit_at w (e % 64)) (ap (λ j. get_or (set words at word) j 0) same ∙ get_or-set_same words at word 0 within) in
      let both = is (e % 64) (omega arith) (omega (arith, whole, inside)) in
      let here = ap (λ j. get_or indices j 0) whole in
      let after = ap (λ j. get_or indices (j + 1) 0) whole in
      (λ one. sym after ∙ both.0 (sym bit ∙ one) ∙ ap (λ x. x + 1) here, λ follows. bit ∙ both.1 (after ∙ follows ∙ ap (λ x. x + 1) (sym here)))
  | inr other ↦
      let earlier : e < at * 64 = omega arith in
      let bit : bit_of (set words at word) e ≡ bit_of words e =
      bit_of-word (set words at word) e ∙ ap (λ w. bit_at w (e % 64)) (get_or-set_other words at (e / 64) word 0 other) ∙ sym (bit_of-word words e) in
      let both = h e earlier inside in
      (λ one. both.0 (sym bit ∙ one), λ follows. bit ∙ both.1 follows)
]

-- words that tell of all indices that they have bits for
pub told_are_followed : (indices words : List ℕ) (until : ℕ) → TellFollowed indices words until →
    ((e : ℕ) → e + 1 < length indices → e / 64 < length words → e < until) → AreFollowed indices words
told_are_followed indices words until h all = λ e inside one. elim (dec_lt (e / 64) (length words)) [
  | yes there ↦ (h e (all e inside there) inside).0 one
  | no past ↦ absurd (omega (arith, one, bit_of-past words e (omega arith)))
]

-- what a word of such words tells
pub followed_in_word : (indices words : List ℕ) (at word i : ℕ) → AreFollowed indices words → word ≡ get_or words at 0 → i < 64 →
    at * 64 + i + 1 < length indices → bit_at word i ≡ 1 → get_or indices (at * 64 + i + 1) 0 ≡ get_or indices (at * 64 + i) 0 + 1
followed_in_word indices words at word i h is low inside one =
    let index : (at * 64 + i) / 64 ≡ at = omega arith in
    let place : (at * 64 + i) % 64 ≡ i = omega arith in
    h (at * 64 + i) inside
    (bit_of-word words (at * 64 + i) ∙ ap₂ (λ w p. bit_at (get_or words w 0) p) index place ∙ ap (λ w. bit_at w i) (sym is) ∙ one)

-- ---- runs

-- the indices of a run
pub run_index : (indices : List ℕ) (followed from at count : ℕ) → from ≤ at → at + count ≤ from + 64 → at + count ≤ length indices →
    ((i : ℕ) → i < 64 → from + i + 1 < length indices → bit_at followed i ≡ 1 →
    get_or indices (from + i + 1) 0 ≡ get_or indices (from + i) 0 + 1) →
    ((i : ℕ) → i + 1 < count → at - from + i < 64 → bit_at followed (at - from + i) ≡ 1) →
    (k : ℕ) → k < count → get_or indices (at + k) 0 ≡ get_or indices at 0 + k
run_index indices followed from at count begun short within told ones zero below =
    let first : at + 0 ≡ at = omega arith in
    ap (λ j. get_or indices j 0) first ∙ omega arith
run_index indices followed from at count begun short within told ones (suc k) below =
    let place : from + (at - from + k) ≡ at + k = omega (arith, begun) in
    let next : at + suc k ≡ from + (at - from + k) + 1 = omega (arith, begun) in
    let before = run_index indices followed from at count begun short within told ones k (omega (arith, below)) in
    let step = told (at - from + k) (omega (arith, begun, short, below)) (omega (arith, begun, within, below))
    (ones k (omega (arith, below)) (omega (arith, begun, short, below))) in
    let here = ap (λ j. get_or indices j 0) place in
    ap (λ j. get_or indices j 0) next ∙ step ∙ ap (λ x. x + 1) (here ∙ before) ∙ omega arith
