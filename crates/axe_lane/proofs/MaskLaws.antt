-- Words that tell which bytes have a bit, and which are other than 0.
use Rattle.std.proofs.Common.{◌≡◌, ◌↔◌, ℕ, zero, suc, ◌*◌, ◌+◌, ◌-◌, ◌%◌, ◌^◌, ◌<◌, List, ◌++◌, false, not, cond, eqb, map, length, get_or, drop, replicate, refl, sym, ap, ◌∙◌, arith, inl, inr, w8}
use Rattle.std.specs.Int.{bit_at}
use Rattle.std.specs.Int.RustNames.{bit_and}
use Rattle.std.specs.Simd.Lanes.{zip2, mask_l, top}
use Rattle.std.proofs.lemmas.Bool.{cases_eq, eq-eqb, ne_eqb}
use Rattle.std.proofs.lemmas.List.{get_or-append_right, get_or_append_left, get_or-drop, get_or-map, get_or_past, get_or-replicate, length-map}
use native.Mathlib.Decide.{dec_lt}
use Rattle.std.proofs.lemmas.Nat.{pow_pos}
use Rattle.std.proofs.lemmas.Nat.Bits.{and_pow, bit_at-lt}
use Rattle.std.proofs.lemmas.Simd.{bit_mask_l, bitmask_splat, map-map, zip2_splat}

-- a byte of which one bit is left, against that bit alone
pub bit_tested : (x place d : ℕ) → bit_at x place ≡ d → d < 2 → cond (eqb (bit_and x (2 ^ place)) (2 ^ place)) 1 0 ≡ d
bit_tested x place zero is below =
    let none : bit_and x (2 ^ place) ≡ 0 = and_pow x place ∙ ap (λ b. b * 2 ^ place) is ∙ omega arith in
    let other : eqb (bit_and x (2 ^ place)) (2 ^ place) ≡ false =
    ne_eqb _ _ (λ same. let some = pow_pos place in omega (arith, none, same, some)) in
    ap (λ t. cond t 1 0) other
bit_tested x place (suc zero) is below =
    let all : bit_and x (2 ^ place) ≡ 2 ^ place = and_pow x place ∙ ap (λ b. b * 2 ^ place) is ∙ omega arith in
    ap (λ n. cond (eqb n (2 ^ place)) 1 0) all ∙ ap (λ t. cond t 1 0) (eq-eqb (2 ^ place) (2 ^ place) refl)
bit_tested x place (suc (suc d)) is below = absurd (omega arith)

-- the word of the bits that 64 bytes have at one place
pub bits_of_lanes : (lanes : List ℕ) (y place i : ℕ) → length lanes ≡ 64 → y ≡ 2 ^ place → i < 64 →
    bit_at (mask_l (map (top 7) (zip2 (λ a b. cond (eqb a b) 255 0) (zip2 bit_and lanes (replicate 64 y)) (replicate 64 y))) % 2 ^ 64) i
    ≡ bit_at (get_or lanes i 0) place
bits_of_lanes lanes y place i long is low =
    let within : i < length lanes = omega (arith, long) in
    let kept = zip2_splat bit_and lanes 64 y long in
    ap (λ v. bit_at (mask_l (map (top 7) (zip2 (λ a b. cond (eqb a b) 255 0) v (replicate 64 y))) % 2 ^ 64) i) kept
    ∙ ap (λ n. bit_at n i) (bitmask_splat w8 eqb (map (λ x. bit_and x y) lanes) 64 y (length-map lanes (λ x. bit_and x y) ∙ long) (omega arith))
    ∙ bit_mask_l (map (λ x. eqb x y) (map (λ x. bit_and x y) lanes)) i
    ∙ ap (λ ms. cond (get_or ms i false) 1 0) (map-map (λ x. eqb x y) (λ x. bit_and x y) lanes)
    ∙ ap (λ t. cond t 1 0) (get_or-map (λ x. eqb (bit_and x y) y) lanes i 0 false within)
    ∙ ap (λ m. cond (eqb (bit_and (get_or lanes i 0) m) m) 1 0) is
    ∙ bit_tested (get_or lanes i 0) place (bit_at (get_or lanes i 0) place) refl (bit_at-lt (get_or lanes i 0) place)

-- ---- bytes other than 0

abbrev tested : ℕ → ℕ
tested x = cond (not (eqb x 0)) 1 0

nonzero_tested : (x : ℕ) → tested x ≡ 0 ↔ x ≡ 0
nonzero_tested x = elim (cases_eq x 0) [
  | inl same ↦ (λ _. same, λ _. ap (λ t. cond (not t) 1 0) (eq-eqb x 0 same))
  | inr other ↦
      let one : tested x ≡ 1 = ap (λ t. cond (not t) 1 0) (ne_eqb x 0 other) in
      (λ none. absurd (omega (arith, one, none)), λ none. absurd (other none))
]

-- the word of the places where 64 bytes are other than 0
pub support_of_lanes : (lanes : List ℕ) (i : ℕ) → length lanes ≡ 64 → i < 64 →
    bit_at (mask_l (map (top 7) (zip2 (λ a b. cond (not (eqb a b)) 255 0) lanes (replicate 64 0))) % 2 ^ 64) i ≡ 0 ↔ get_or lanes i 0 ≡ 0
support_of_lanes lanes i long low =
    let within : i < length lanes = omega (arith, long) in
    let one = nonzero_tested (get_or lanes i 0) in
    let bit : bit_at (mask_l (map (top 7) (zip2 (λ a b. cond (not (eqb a b)) 255 0) lanes (replicate 64 0))) % 2 ^ 64) i ≡ tested (get_or lanes i 0) =
    ap (λ n. bit_at n i) (bitmask_splat w8 (λ a b. not (eqb a b)) lanes 64 0 long (omega arith))
    ∙ bit_mask_l (map (λ x. not (eqb x 0)) lanes) i
    ∙ ap (λ t. cond t 1 0) (get_or-map (λ x. not (eqb x 0)) lanes i 0 false within) in
    (λ none. one.0 (sym bit ∙ none), λ none. bit ∙ one.1 none)

-- the same of another number
pub support_along : (word x y i : ℕ) → x ≡ y → bit_at word i ≡ 0 ↔ x ≡ 0 → bit_at word i ≡ 0 ↔ y ≡ 0
support_along word x y i same h = (λ none. sym same ∙ h.0 none, λ none. h.1 (same ∙ none))

-- bytes in the place of the first of n zeros
pub filled_with_zeros : (n : ℕ) (bytes front : List ℕ) (i : ℕ) → front ≡ bytes → i < n →
    get_or (front ++ drop (length bytes) (replicate n 0)) i 0 ≡ get_or bytes i 0
filled_with_zeros n bytes front i is low =
    ap (λ (x : List ℕ). get_or (x ++ drop (length bytes) (replicate n 0)) i 0) is ∙ elim (dec_lt i (length bytes)) [
      | yes inside ↦ get_or_append_left bytes _ 0 i inside
      | no outside ↦
          let there : length bytes + (i - length bytes) ≡ i = omega arith in
          get_or-append_right bytes (drop (length bytes) (replicate n 0)) (length bytes) i 0 refl (omega arith)
          ∙ get_or-drop (length bytes) (replicate n 0) (i - length bytes) 0
          ∙ ap (λ k. get_or (replicate n 0) k 0) there ∙ get_or-replicate n i 0 0 low
          ∙ sym (get_or_past bytes i 0 (omega arith))
    ]
