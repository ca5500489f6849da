-- The dot product of two rows over the field of order 3, layer by layer.
use Rattle.std.proofs.Common.{◌≡◌, ℕ, zero, suc, ◌+◌, ◌*◌, ◌%◌, ◌<◌, List, length, get_or, refl, sym, ap, ap₂, subst, ◌∙◌, arith}
use Rattle.std.proofs.Math.Nat.{add-mul}
use native.Mathlib.Nat.{mul-add, mul_assoc, mul_comm}
use Rattle.axe_lane.specs.Bytes.{sum_of_products}
use Rattle.axe_lane.specs.Words.{bit_of, common_bits}
use Rattle.axe_lane.specs.Trits.{common_trits}
use Rattle.axe_layer.specs.Bits.{bits, HoldsBits}
use Rattle.axe_bits.specs.Trits.{trits, HoldLayers}
use Rattle.axe_layer.proofs.BitLaws.{length-bits, get_or-bits}
use Rattle.axe_layer.proofs.DotLaws.{common_bits-dot, dot_by_entries, sum_below, sum_below-same}
use Rattle.axe_bits.proofs.TritWords.{length-layers, get_or-layers}

-- a product of digits, by the products of their layers
product_of_layers : (o t a b : ℕ) → (o + 2 * t) * (a + 2 * b) ≡ o * a + 2 * (o * b) + (2 * (t * a) + 4 * (t * b))
product_of_layers o t a b =
    let first : o * (a + 2 * b) ≡ o * a + o * (2 * b) = mul-add o a (2 * b) in
    let second : 2 * t * (a + 2 * b) ≡ 2 * t * a + 2 * t * (2 * b) = mul-add (2 * t) a (2 * b) in
    let crossed : o * (2 * b) ≡ 2 * (o * b) = mul_comm o (2 * b) ∙ mul_assoc 2 b o ∙ ap (λ x. 2 * x) (mul_comm b o) in
    let left : 2 * t * a ≡ 2 * (t * a) = mul_assoc 2 t a in
    let right : 2 * t * (2 * b) ≡ 2 * (2 * (t * b)) =
    mul_assoc 2 t (2 * b) ∙ ap (λ x. 2 * x) (mul_comm t (2 * b) ∙ mul_assoc 2 b t ∙ ap (λ x. 2 * x) (mul_comm b t)) in
    add-mul o (2 * t) (a + 2 * b) ∙ omega (arith, first, second, crossed, left, right)

-- sums of such products, modulo 3
sums_of_layers : (n : ℕ) (f g h k whole : ℕ → ℕ) → ((e : ℕ) → e < n → whole e ≡ f e + 2 * g e + (2 * h e + 4 * k e)) →
    (sum_below f n + sum_below k n + 2 * (sum_below g n + sum_below h n)) % 3 ≡ sum_below whole n % 3
sums_of_layers zero f g h k whole same = refl
sums_of_layers (suc n) f g h k whole same =
    let here = same n (omega arith) in
    omega (arith, here, sums_of_layers n f g h k whole (λ e below. same e (omega arith)))

module _ (n : ℕ) (o t a b : List ℕ) (row : HoldLayers n o t) (other : HoldLayers n a b) where
  -- how many bits two layers have in common
  in_common : (x y : List ℕ) → HoldsBits n x → HoldsBits n y → common_bits x y ≡ sum_below (λ e. bit_of x e * bit_of y e) n
  in_common x y hx hy =
      common_bits-dot n x y hx hy ∙ dot_by_entries (bits n x) (bits n y) (length-bits n y ∙ sym (length-bits n x))
      ∙ ap (sum_below (λ e. get_or (bits n x) e 0 * get_or (bits n y) e 0)) (length-bits n x)
      ∙ sum_below-same n _ _ (λ e below. ap₂ (λ i j. i * j) (get_or-bits n x e below) (get_or-bits n y e below))

  pub common_trits-dot : common_trits o t a b % 3 ≡ sum_of_products (trits (bits n o) (bits n t)) (trits (bits n a) (bits n b)) % 3
  common_trits-dot =
      let x : List ℕ = trits (bits n o) (bits n t) in
      let y : List ℕ = trits (bits n a) (bits n b) in
      let whole : sum_of_products x y ≡ sum_below (λ e. get_or x e 0 * get_or y e 0) n =
      dot_by_entries x y (length-layers n a b ∙ sym (length-layers n o t))
      ∙ ap (sum_below (λ e. get_or x e 0 * get_or y e 0)) (length-layers n o t) in
      let sums = sums_of_layers n (λ e. bit_of o e * bit_of a e) (λ e. bit_of o e * bit_of b e) (λ e. bit_of t e * bit_of a e)
      (λ e. bit_of t e * bit_of b e) (λ e. get_or x e 0 * get_or y e 0) (λ e below.
      ap₂ (λ i j. i * j) (get_or-layers n o t e below) (get_or-layers n a b e below)
      ∙ product_of_layers (bit_of o e) (bit_of t e) (bit_of a e) (bit_of b e)) in
      omega (
        arith,
        in_common o a row.ones_held other.ones_held,
        in_common t b row.twos_held other.twos_held,
        in_common o b row.ones_held other.twos_held,
        in_common t a row.twos_held other.ones_held,
        whole,
        sums,
      )

-- the same of two planes, by the words of their layers
pub dot_of_planes : (x y o t a b : List ℕ) → HoldLayers (length x) o t → trits (bits (length x) o) (bits (length x) t) ≡ x →
    HoldLayers (length y) a b → trits (bits (length y) a) (bits (length y) b) ≡ y → length y ≡ length x →
    common_trits o t a b % 3 ≡ sum_of_products x y % 3
dot_of_planes x y o t a b row row_is other other_is fits =
    common_trits-dot (length x) o t a b row (subst (λ n. HoldLayers n a b) fits other)
    ∙ ap₂ (λ (l r : List ℕ). sum_of_products l r % 3) row_is (ap (λ n. trits (bits n a) (bits n b)) (sym fits) ∙ other_is)
