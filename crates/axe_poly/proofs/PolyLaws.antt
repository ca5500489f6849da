-- Monic polynomials as values: what their tests say, and what their coefficients are.
use Rattle.std.specs.Prelude.{◌≡◌, ◌↔◌, IsTrue, Bool, ℕ, ◌+◌, ◌-◌, ◌^◌, ◌<◌, ◌≤◌, List, length, get_or}
use Rattle.std.specs.List.{All}
use Rattle.std.proofs.lemmas.List.{get_or_default}
use Rattle.axe_algebra.specs.Lists.{AreElements}
use Rattle.axe_field.specs.Arithmetic.{field_add, field_mul, field_neg}
use Rattle.axe_field.specs.NumberFields.{number_field}
use Rattle.axe_field.specs.Order.{Order, Two, Three, Four, Five, Seven, Eight, Nine, order_number, IsElement}
use Rattle.axe_polynomial_algebra.specs.PolynomialsOfLists.{Divides}
use Rattle.axe_poly.specs.Limits.{greatest_degree}
use Rattle.axe_poly.specs.Polys.{IsPoly, poly_with}
use mathlib.Core.Path.{sym, ◌∙◌, ap, subst}
use native.Mathlib.Nat.{pow-le-pow_right}
use native.Mathlib.Omega.{arith}

-- elements of the field are numbers below its order
pub elements_are_below : (o : Order) (xs : List ℕ) → All (IsElement o) xs → AreElements (number_field o) xs
unfolding number_field
elements_are_below o xs all = all

pub below_are_elements : (o : Order) (xs : List ℕ) → AreElements (number_field o) xs → All (IsElement o) xs
unfolding number_field
below_are_elements o xs all = all

pub element_at : (o : Order) (xs : List ℕ) (i x : ℕ) → AreElements (number_field o) xs → i < length xs →
    x ≡ get_or xs i x → IsElement o x
element_at o xs i x all inside is = subst (IsElement o) (sym is) (below_are_elements o xs all i x inside)

-- the tests of a monic polynomial
pub monic_of_tests : (o : Order) (xs : List ℕ) (last : ℕ) → 2 ≤ length xs → last ≡ get_or xs (length xs - 1) last →
    last ≡ 1 → All (IsElement o) xs → IsPoly (poly_with o xs)
monic_of_tests o xs last long is one all = record {
  elements = elements_are_below o xs all;
  positive = long;
  leads = get_or_default xs (length xs - 1) 0 last (omega (arith, long)) ∙ sym is ∙ one;
}

pub leads_with_one : (o : Order) (xs : List ℕ) (last : ℕ) → IsPoly (poly_with o xs) →
    last ≡ get_or xs (length xs - 1) last → last ≡ 1
leads_with_one o xs last monic is = is ∙ get_or_default xs (length xs - 1) last 0 (omega (arith, monic.positive))
    ∙ monic.leads

-- the orders and the greatest degrees
pub greatest_fits : (o : Order) → order_number o ^ greatest_degree o ≤ 4096
greatest_fits Two = omega arith
greatest_fits Three = omega arith
greatest_fits Four = omega arith
greatest_fits Five = omega arith
greatest_fits Seven = omega arith
greatest_fits Eight = omega arith
greatest_fits Nine = omega arith

pub greatest_is_greatest : (o : Order) → 4096 < order_number o ^ (greatest_degree o + 1)
greatest_is_greatest Two = omega arith
greatest_is_greatest Three = omega arith
greatest_is_greatest Four = omega arith
greatest_is_greatest Five = omega arith
greatest_is_greatest Seven = omega arith
greatest_is_greatest Eight = omega arith
greatest_is_greatest Nine = omega arith

order-positive : (o : Order) → 0 < order_number o
order-positive Two = omega arith
order-positive Three = omega arith
order-positive Four = omega arith
order-positive Five = omega arith
order-positive Seven = omega arith
order-positive Eight = omega arith
order-positive Nine = omega arith

pub power_fits : (o : Order) (n : ℕ) → n ≤ greatest_degree o → order_number o ^ n ≤ 4096
power_fits o n small = omega (arith, greatest_fits o, pow-le-pow_right (order-positive o) small)

pub greatest-below : (o : Order) → greatest_degree o ≤ 12
greatest-below Two = omega arith
greatest-below Three = omega arith
greatest-below Four = omega arith
greatest-below Five = omega arith
greatest-below Seven = omega arith
greatest-below Eight = omega arith
greatest-below Nine = omega arith

-- an entry plus a multiple of another, as the field computes it
pub sum_in_field : (o f : Order) (a b c product sum : ℕ) → f ≡ o → product ≡ field_mul f c b →
    sum ≡ field_add f a product →
    sum ≡ (number_field o).add a ((number_field o).mul c b)
unfolding number_field
sum_in_field o f a b c product sum same product_is sum_is =
    sum_is ∙ ap (field_add f a) product_is ∙ ap (λ g. field_add g a (field_mul g c b)) same

-- the negative of an entry, as the field computes it
pub negative_in_field : (o f : Order) (a n : ℕ) → f ≡ o → n ≡ field_neg f a → n ≡ (number_field o).neg a
unfolding number_field
negative_in_field o f a n same is = is ∙ ap (λ g. field_neg g a) same

-- what a division tells, said of the table
pub divides_tells : (o q : Order) (p r f : List ℕ) (b : Bool) → o ≡ q → p ≡ r →
    (IsTrue b ↔ Divides (number_field o) p f) → IsTrue b ↔ Divides (number_field q) r f
divides_tells o q p r f b same listed tells =
    subst (λ (x : List ℕ). IsTrue b ↔ Divides (number_field q) x f) listed
    (subst (λ k. IsTrue b ↔ Divides (number_field k) p f) same tells)
