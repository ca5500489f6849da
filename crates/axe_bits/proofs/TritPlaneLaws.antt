-- Lists of digits modulo 3 that are made of two layers: digits of numbers, selected ones, parts and sums.
use Rattle.std.proofs.Common.{◌≡◌, ℕ, ◌+◌, ◌*◌, ◌/◌, ◌%◌, ◌^◌, ◌<◌, ◌≤◌, List, length, get_or, set, map, sym, ap, ◌∙◌, arith, inl, inr, get_or-set_same, get_or-set_other}
use Rattle.std.proofs.lemmas.Bool.{cases_eq}
use Rattle.std.proofs.lemmas.List.{ext_get_or, get_or_past, get_or-map, length-map, length-set}
use Rattle.std.proofs.lemmas.List.Elements.{All-from_get_or}
use native.Mathlib.Decide.{dec_lt}
use Rattle.axe_algebra.specs.Lists.{listed}
use Rattle.axe_algebra.proofs.ListEntries.{listed_length, listed_at}
use Rattle.axe_lane.specs.Bytes.{AreDigits}
use Rattle.axe_layer.specs.Digits.{digits_at}
use Rattle.axe_bits.specs.Trits.{trits, HoldTrits}
use Rattle.axe_bits.proofs.TritLaws.{length-trits, get_or-trits}

-- ---- a list of digits that two layers have

pub trits_long : (a b x : List ℕ) → trits a b ≡ x → length x ≡ length a
trits_long a b x is = sym (ap length is) ∙ length-trits a b

pub trits_at : (a b x : List ℕ) → HoldTrits a b → trits a b ≡ x → (e : ℕ) →
    get_or x e 0 ≡ get_or a e 0 + 2 * get_or b e 0
trits_at a b x h is e = ap (λ (v : List ℕ). get_or v e 0) (sym is) ∙ get_or-trits a b h e

pub trits_below : (a b x : List ℕ) → HoldTrits a b → trits a b ≡ x → AreDigits 3 x
trits_below a b x h is =
    All-from_get_or (λ digit. digit < 3) x 0 (λ e _. omega (arith, trits_at a b x h is e, h.apart e))

-- two layers of one length, no place of which has a bit in both
pub layers : (n : ℕ) (a b : List ℕ) → length a ≡ n → length b ≡ n →
    ((e : ℕ) → e < n → get_or a e 0 + get_or b e 0 ≤ 1) → HoldTrits a b
layers n a b long_a long_b one = record {
  as_long = long_b ∙ sym long_a;
  ones_digits = All-from_get_or (λ digit. digit < 2) a 0 (λ e _. omega (arith, apart e));
  twos_digits = All-from_get_or (λ digit. digit < 2) b 0 (λ e _. omega (arith, apart e));
  apart = apart;
}
  where
    apart : (e : ℕ) → get_or a e 0 + get_or b e 0 ≤ 1
    apart e = elim (dec_lt e n) [
      | yes inside ↦ one e inside
      | no past ↦
          let left = get_or_past a e 0 (omega (arith, long_a)) in
          let right = get_or_past b e 0 (omega (arith, long_b)) in
          omega (arith, left, right)
    ]

-- a list with the digits of two layers
pub trits_are : (a b x : List ℕ) → HoldTrits a b → length x ≡ length a →
    ((e : ℕ) → e < length a → get_or a e 0 + 2 * get_or b e 0 ≡ get_or x e 0) → trits a b ≡ x
trits_are a b x h long same =
    ext_get_or 0 (trits a b) x (length-trits a b ∙ sym long) (λ e inside.
    get_or-trits a b h e ∙ same e (omega (arith, length-trits a b)))

-- ---- the digits of numbers

digit_bits : (d : ℕ) → d < 3 → (d / 2 ^ 0) % 2 + 2 * ((d / 2 ^ 1) % 2) ≡ d
digit_bits d below = omega arith

digit_apart : (d : ℕ) → d < 3 → (d / 2 ^ 0) % 2 + (d / 2 ^ 1) % 2 ≤ 1
digit_apart d below = omega arith

bit_long : (place : ℕ) (xs : List ℕ) → length (digits_at 2 place xs) ≡ length xs
bit_long place xs = length-map xs (λ x. (x / 2 ^ place) % 2)

bit_entry : (place : ℕ) (xs : List ℕ) (e : ℕ) → e < length xs →
    get_or (digits_at 2 place xs) e 0 ≡ (get_or xs e 0 / 2 ^ place) % 2
bit_entry place xs e inside = get_or-map (λ x. (x / 2 ^ place) % 2) xs e 0 0 inside

pub layers_of_digits : (xs a b : List ℕ) → AreDigits 3 xs → a ≡ digits_at 2 0 xs → b ≡ digits_at 2 1 xs → HoldTrits a b
layers_of_digits xs a b below left right =
    layers (length xs) a b (ap length left ∙ bit_long 0 xs) (ap length right ∙ bit_long 1 xs) (λ e inside.
    let one = ap (λ (v : List ℕ). get_or v e 0) left ∙ bit_entry 0 xs e inside in
    let two = ap (λ (v : List ℕ). get_or v e 0) right ∙ bit_entry 1 xs e inside in
    let apart = digit_apart (get_or xs e 0) (below e 0 inside) in
    omega (arith, one, two, apart))

pub trits_of_digits : (xs a b : List ℕ) → AreDigits 3 xs → a ≡ digits_at 2 0 xs → b ≡ digits_at 2 1 xs → trits a b ≡ xs
trits_of_digits xs a b below left right =
    let long = ap length left ∙ bit_long 0 xs in
    trits_are a b xs (layers_of_digits xs a b below left right) (sym long) (λ e within.
    let inside : e < length xs = omega (arith, long) in
    let one = ap (λ (v : List ℕ). get_or v e 0) left ∙ bit_entry 0 xs e inside in
    let two = ap (λ (v : List ℕ). get_or v e 0) right ∙ bit_entry 1 xs e inside in
    let whole = digit_bits (get_or xs e 0) (below e 0 inside) in
    omega (arith, one, two, whole))

-- ---- another digit at an index

-- the entries of a list at whose index i another number was put
at_same : (x : List ℕ) (i n e : ℕ) → e ≡ i → i < length x → get_or (set x i n) e 0 ≡ n
at_same x i n e same inside = ap (λ k. get_or (set x i n) k 0) same ∙ get_or-set_same x i n 0 inside

changed : (a b : List ℕ) (i d e : ℕ) → HoldTrits a b → d < 3 → e < length a →
    get_or (set a i (d % 2)) e 0 + get_or (set b i (d / 2)) e 0 ≤ 1
changed a b i d e h small inside = elim (cases_eq e i) [
  | inl same ↦
      let one = at_same a i (d % 2) e same (omega arith) in
      let two = at_same b i (d / 2) e same (omega (arith, h.as_long)) in
      omega (arith, one, two)
  | inr other ↦
      let one = get_or-set_other a i e (d % 2) 0 other in
      let two = get_or-set_other b i e (d / 2) 0 other in
      omega (arith, one, two, h.apart e)
]

pub layers_set : (a b : List ℕ) (i d : ℕ) → HoldTrits a b → d < 3 → HoldTrits (set a i (d % 2)) (set b i (d / 2))
layers_set a b i d h small =
    layers (length a) _ _ (length-set a i (d % 2)) (length-set b i (d / 2) ∙ h.as_long)
    (λ e inside. changed a b i d e h small inside)

pub trits_set : (a b x new_a new_b : List ℕ) (i d : ℕ) → HoldTrits a b → trits a b ≡ x → d < 3 →
    new_a ≡ set a i (d % 2) → new_b ≡ set b i (d / 2) → trits new_a new_b ≡ set x i d
trits_set a b x new_a new_b i d h is small left right =
    rw (left, right) (trits_are (set a i (d % 2)) (set b i (d / 2)) (set x i d) (layers_set a b i d h small)
    (length-set x i d ∙ trits_long a b x is ∙ sym (length-set a i (d % 2))) at)
  where
    at : (e : ℕ) → e < length (set a i (d % 2)) →
        get_or (set a i (d % 2)) e 0 + 2 * get_or (set b i (d / 2)) e 0 ≡ get_or (set x i d) e 0
    at e inside = elim (cases_eq e i) [
      | inl same ↦
          let there : i < length a = omega (arith, length-set a i (d % 2)) in
          let one = at_same a i (d % 2) e same there in
          let two = at_same b i (d / 2) e same (omega (arith, h.as_long)) in
          let new = at_same x i d e same (omega (arith, trits_long a b x is)) in
          omega (arith, one, two, new)
      | inr other ↦
          let one = get_or-set_other a i e (d % 2) 0 other in
          let two = get_or-set_other b i e (d / 2) 0 other in
          let old = get_or-set_other x i e d 0 other in
          omega (arith, one, two, old, trits_at a b x h is e)
    ]

-- ---- selected digits

-- the entries at some indices
abbrev selected : List ℕ → List ℕ → List ℕ
selected x indices = map (λ i. get_or x i 0) indices

selected_long : (x indices : List ℕ) → length (selected x indices) ≡ length indices
selected_long x indices = length-map indices (λ i. get_or x i 0)

selected_at : (x indices : List ℕ) (e : ℕ) → e < length indices →
    get_or (selected x indices) e 0 ≡ get_or x (get_or indices e 0) 0
selected_at x indices e inside = get_or-map (λ i. get_or x i 0) indices e 0 0 inside

pub layers_selected : (a b indices : List ℕ) → HoldTrits a b → HoldTrits (selected a indices) (selected b indices)
layers_selected a b indices h =
    layers (length indices) _ _ (selected_long a indices) (selected_long b indices) (λ e inside.
    omega (arith, selected_at a indices e inside, selected_at b indices e inside, h.apart (get_or indices e 0)))

pub trits_selected : (a b x indices : List ℕ) → HoldTrits a b → trits a b ≡ x →
    trits (selected a indices) (selected b indices) ≡ selected x indices
trits_selected a b x indices h is =
    trits_are _ _ (selected x indices) (layers_selected a b indices h)
    (selected_long x indices ∙ sym (selected_long a indices)) (λ e within.
    let inside : e < length indices = omega (arith, selected_long a indices) in
    let one = selected_at a indices e inside in
    let two = selected_at b indices e inside in
    let digit = selected_at x indices e inside in
    omega (arith, one, two, digit, trits_at a b x h is (get_or indices e 0)))

-- ---- a part

-- the entries from an index on, so many of them
abbrev part_of : List ℕ → ℕ → ℕ → List ℕ
part_of x start len = listed len (λ j. get_or x (start + j) 0)

part_long : (x : List ℕ) (start len : ℕ) → length (part_of x start len) ≡ len
part_long x start len = listed_length len (λ j. get_or x (start + j) 0)

part_at : (x : List ℕ) (start len e : ℕ) → e < len → get_or (part_of x start len) e 0 ≡ get_or x (start + e) 0
part_at x start len e inside = listed_at len (λ j. get_or x (start + j) 0) e 0 inside

pub layers_part : (a b : List ℕ) (start len : ℕ) → HoldTrits a b → HoldTrits (part_of a start len) (part_of b start len)
layers_part a b start len h =
    layers len _ _ (part_long a start len) (part_long b start len) (λ e inside.
    omega (arith, part_at a start len e inside, part_at b start len e inside, h.apart (start + e)))

pub trits_part : (a b x : List ℕ) (start len : ℕ) → HoldTrits a b → trits a b ≡ x →
    trits (part_of a start len) (part_of b start len) ≡ part_of x start len
trits_part a b x start len h is =
    trits_are _ _ (part_of x start len) (layers_part a b start len h)
    (part_long x start len ∙ sym (part_long a start len)) (λ e within.
    let inside : e < len = omega (arith, part_long a start len) in
    let one = part_at a start len e inside in
    let two = part_at b start len e inside in
    let digit = part_at x start len e inside in
    omega (arith, one, two, digit, trits_at a b x h is (start + e)))
