-- Bits of a word, each in a lane of its own.
use Rattle.std.proofs.Common.{◌≡◌, ℕ, zero, suc, ◌*◌, ◌%◌, ◌<◌, [], ◌∷◌, Bool, true, ◌&&◌, bit_and, eqb, refl, ap, ◌∙◌, arith, inl, inr}
use Rattle.std.specs.Int.{bit_at}
use Rattle.std.proofs.lemmas.Bool.{and_parts, cases_eq, eqb-true}
use Rattle.axe_layer.specs.Lanes.{in_lanes}

-- the numbers below n satisfy a test
abbrev pub all_below : (ℕ → Bool) → ℕ → Bool
all_below test zero = true
all_below test (suc n) = test n && all_below test n

test_at : (test : ℕ → Bool) (m n : ℕ) → all_below test m ≡ true → n < m → test n ≡ true
test_at test zero n all below = absurd (omega arith)
test_at test (suc m) n all below =
    let parts = and_parts (test m) (all_below test m) all in
    elim (cases_eq n m) [
      | inl same ↦ ap test same ∙ parts.0
      | inr other ↦ test_at test m n parts.1 (omega (arith, other))
    ]

-- ---- each bit

abbrev pub each_spread : ℕ → ℕ
each_spread n = bit_and (n * 35185445863425) 281479271743489

each_test : ℕ → Bool
each_test n = eqb (each_spread n) (in_lanes (bit_at n 0 ∷ bit_at n 1 ∷ bit_at n 2 ∷ bit_at n 3 ∷ []))

each_right : all_below each_test 16 ≡ true
unfolding each_test
each_right = refl

pub each_in_lanes : (w : ℕ) → each_spread (w % 16) ≡ in_lanes (bit_at w 0 ∷ bit_at w 1 ∷ bit_at w 2 ∷ bit_at w 3 ∷ [])
unfolding each_test
each_in_lanes w =
    let small : w % 16 < 16 = omega arith in
    let zeroth : bit_at (w % 16) 0 ≡ bit_at w 0 = omega arith in
    let first : bit_at (w % 16) 1 ≡ bit_at w 1 = omega arith in
    let second : bit_at (w % 16) 2 ≡ bit_at w 2 = omega arith in
    let third : bit_at (w % 16) 3 ≡ bit_at w 3 = omega arith in
    eqb-true _ _ (test_at each_test 16 (w % 16) each_right small) ∙ omega (arith, zeroth, first, second, third)

-- ---- those at even places

abbrev pub even_spread : ℕ → ℕ
even_spread n = bit_and (bit_and n 85 * 4398314962945) 281479271743489

even_test : ℕ → Bool
even_test n = eqb (even_spread n) (in_lanes (bit_at n 0 ∷ bit_at n 2 ∷ bit_at n 4 ∷ bit_at n 6 ∷ []))

even_right : all_below even_test 256 ≡ true
unfolding even_test
even_right = refl

pub even_in_lanes : (w : ℕ) → even_spread (w % 256) ≡ in_lanes (bit_at w 0 ∷ bit_at w 2 ∷ bit_at w 4 ∷ bit_at w 6 ∷ [])
unfolding even_test
even_in_lanes w =
    let small : w % 256 < 256 = omega arith in
    let zeroth : bit_at (w % 256) 0 ≡ bit_at w 0 = omega arith in
    let second : bit_at (w % 256) 2 ≡ bit_at w 2 = omega arith in
    let fourth : bit_at (w % 256) 4 ≡ bit_at w 4 = omega arith in
    let sixth : bit_at (w % 256) 6 ≡ bit_at w 6 = omega arith in
    eqb-true _ _ (test_at even_test 256 (w % 256) even_right small) ∙ omega (arith, zeroth, second, fourth, sixth)
