-- The numbers that have digits modulo 3 of a list, from those of its two layers.
use Rattle.std.proofs.Common.{◌≡◌, ℕ, ◌+◌, ◌*◌, ◌<◌, ◌≤◌, List, [], ◌∷◌, length, get_or, refl, sym, ap, ap₂, subst, ◌∙◌, arith}
use Rattle.axe_layer.specs.Digits.{number_bound, number_from, numbers_from}
use Rattle.axe_layer.specs.Bits.{bits}
use Rattle.axe_layer.specs.Lanes.{in_lanes}
use Rattle.axe_bits.specs.Trits.{trits, HoldLayers, HoldTrits}
use Rattle.axe_layer.proofs.LaneSums.{lanes_sum}
use Rattle.axe_layer.proofs.PieceDigits.{with_values, with_values-same, with_values-small, with_values-sum, count_from, number_from-values, same_four, four_small}
use Rattle.axe_bits.proofs.TritPlaneLaws.{trits_long, trits_at}

-- the number of up to eight digits modulo 3
number_of_layers : (q size at : ℕ) (a b x : List ℕ) → HoldTrits a b → trits a b ≡ x →
    number_from q size at a + 2 * number_from q size at b ≡ number_from q size at x
number_of_layers q size at a b x h is =
    let count = count_from size at (length a) in
    let one = number_from-values q size at a in
    let two =
    number_from-values q size at b
    ∙ ap (λ n. with_values q (λ j. get_or b (at + j) 0) (count_from size at n)) h.as_long in
    let whole =
    number_from-values q size at x
    ∙ ap (λ n. with_values q (λ j. get_or x (at + j) 0) (count_from size at n)) (trits_long a b x is)
    ∙ with_values-same q _ _ count (λ j _. trits_at a b x h is (at + j))
    ∙ with_values-sum q 2 (λ j. get_or a (at + j) 0) (λ j. get_or b (at + j) 0) count in
    ap₂ (λ m n. m + 2 * n) one two ∙ sym whole

number_small : (q size at : ℕ) (a b x : List ℕ) → HoldTrits a b → trits a b ≡ x → q ≤ 9 → size ≤ 8 →
    number_from q size at x < number_bound
number_small q size at a b x h is base short =
    let count = count_from size at (length x) in
    let small = with_values-small q (λ j. get_or x (at + j) 0) count base
    (λ j. omega (arith, trits_at a b x h is (at + j), h.apart (at + j))) (omega arith) in
    omega (arith, number_from-values q size at x, small)

-- the four numbers of two layers together
abbrev pub four_sums : List ℕ → List ℕ → List ℕ
four_sums ones twos =
    (get_or ones 0 0 + 2 * get_or twos 0 0) ∷ (get_or ones 1 0 + 2 * get_or twos 1 0)
    ∷ (get_or ones 2 0 + 2 * get_or twos 2 0) ∷ (get_or ones 3 0 + 2 * get_or twos 3 0) ∷ []

pub four_numbers : (q size at : ℕ) (a b x ones twos : List ℕ) → HoldTrits a b → trits a b ≡ x →
    ones ≡ numbers_from q size at a → twos ≡ numbers_from q size at b → four_sums ones twos ≡ numbers_from q size at x
four_numbers q size at a b x ones twos h is left right =
    ap₂ four_sums left right
    ∙ same_four _ _ _ _ _ _ _ _ (number_of_layers q size at a b x h is) (number_of_layers q size (at + size) a b x h is)
    (number_of_layers q size (at + 2 * size) a b x h is) (number_of_layers q size (at + 3 * size) a b x h is)

pub four_numbers_small : (q size at : ℕ) (a b x ones twos : List ℕ) → HoldTrits a b → trits a b ≡ x →
    ones ≡ numbers_from q size at a → twos ≡ numbers_from q size at b → q ≤ 9 → size ≤ 8 → (i : ℕ) →
    get_or (four_sums ones twos) i 0 < number_bound
four_numbers_small q size at a b x ones twos h is left right base short i =
    subst (λ (v : List ℕ). get_or v i 0 < number_bound) (sym (four_numbers q size at a b x ones twos h is left right))
    (four_small number_bound _ _ _ _ (small at) (small (at + size)) (small (at + 2 * size)) (small (at + 3 * size)) i)
  where
    small : (at : ℕ) → number_from q size at x < number_bound
    small at = number_small q size at a b x h is base short

-- ---- in the lanes of a word

-- a word of the numbers of a layer of words
abbrev pub ArePackedNumbers : ℕ → ℕ → ℕ → List ℕ → ℕ → Type 0
ArePackedNumbers q size at words packed = (n : ℕ) → at + 4 * size ≤ n → packed ≡ in_lanes (numbers_from q size at (bits n words))

pub packed_layers : (q size at ones twos : ℕ) (a b x : List ℕ) → HoldLayers (length x) a b →
    trits (bits (length x) a) (bits (length x) b) ≡ x → at + 4 * size ≤ length x →
    ArePackedNumbers q size at a ones → ArePackedNumbers q size at b twos →
    ones + 2 * twos ≡ in_lanes (numbers_from q size at x)
packed_layers q size at ones twos a b x h is inside left right =
    let n = length x in
    ap₂ (λ u v. u + 2 * v) (left n inside) (right n inside)
    ∙ lanes_sum 2 _ _ _ _ _ _ _ _
    ∙ ap in_lanes (four_numbers q size at (bits n a) (bits n b) x _ _ h.together is refl refl)
