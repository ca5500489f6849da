-- The laws of codes: there are few lanes, so each law is computed at all of them.
use Rattle.std.specs.Prelude.{◌≡◌, ℕ, suc, ◌+◌, ◌*◌, ◌-◌, ◌<◌, Bool, true, ◌&&◌, ◌||◌, eqb, ltb, ◌⊎◌, refl}
use Rattle.std.specs.Prelude.{◌/◌, ◌%◌}
use Rattle.std.proofs.Common.{arith, ap, ◌∙◌, inl, inr}
use Rattle.std.proofs.lemmas.Bool.{and_parts, or_cases, ltb-true, eqb-true}
use Rattle.axe_field.specs.Order.{Order, Two, Three, Four, Five, Seven, Eight, Nine, order_number, prime_of}
use Rattle.axe_field.specs.Arithmetic.{coefficients, number_of, polynomial_sum, polynomial_of, field_add}
use Rattle.axe_field.specs.CheckedLaws.{passes_below, passes_below-at}
use Rattle.axe_poly.specs.Lanes.{part_base, lane_base, code, meaning, weight, IsLane}

sum_law : Order → ℕ → ℕ → Bool
sum_law o x a =
    ltb (part_base o) (suc (weight o x + (prime_of o - 1)))
    || (eqb (meaning o (x + code o a)) (field_add o (meaning o x) a)
    && (ltb (weight o (x + code o a)) (suc (weight o x + (prime_of o - 1))) && ltb (x + code o a) (lane_base o)))

sum_laws : Order → Bool
sum_laws o = passes_below (lane_base o) (λ x. passes_below (order_number o) (sum_law o x))

sum_laws-true : (o : Order) → sum_laws o ≡ true
unfolding sum_laws sum_law passes_below weight meaning code coefficients number_of polynomial_sum polynomial_of field_add
sum_laws-true Two = refl
sum_laws-true Three = refl
sum_laws-true Four = refl
sum_laws-true Five = refl
sum_laws-true Seven = refl
sum_laws-true Eight = refl
sum_laws-true Nine = refl

code_law : Order → ℕ → Bool
code_law o a = eqb (meaning o (code o a)) a && (ltb (weight o (code o a)) (prime_of o) && ltb (code o a) (lane_base o))

code_laws : Order → Bool
code_laws o = passes_below (order_number o) (code_law o)

code_laws-true : (o : Order) → code_laws o ≡ true
unfolding code_laws code_law passes_below weight meaning code
code_laws-true Two = refl
code_laws-true Three = refl
code_laws-true Four = refl
code_laws-true Five = refl
code_laws-true Seven = refl
code_laws-true Eight = refl
code_laws-true Nine = refl

meaning_laws : Order → Bool
meaning_laws o = passes_below (lane_base o) (λ x. ltb (meaning o x) (order_number o))

meaning_laws-true : (o : Order) → meaning_laws o ≡ true
unfolding meaning_laws passes_below meaning
meaning_laws-true Two = refl
meaning_laws-true Three = refl
meaning_laws-true Four = refl
meaning_laws-true Five = refl
meaning_laws-true Seven = refl
meaning_laws-true Eight = refl
meaning_laws-true Nine = refl

pub meaning-below : (o : Order) (x : ℕ) → x < lane_base o → meaning o x < order_number o
unfolding meaning_laws
meaning-below o x inside =
    ltb-true (meaning o x) (order_number o)
    (passes_below-at (lane_base o) (λ x. ltb (meaning o x) (order_number o)) (meaning_laws-true o) x inside)

-- the code of an element is a light lane, and stands for the element
pub code_is_lane : (o : Order) (a : ℕ) → a < order_number o → IsLane o (code o a) a (prime_of o - 1)
unfolding code_laws code_law
code_is_lane o a inside =
    let parts = and_parts (eqb (meaning o (code o a)) a) _
    (passes_below-at (order_number o) (code_law o) (code_laws-true o) a inside) in
    let more = and_parts (ltb (weight o (code o a)) (prime_of o)) _ parts.1 in
    record {
      means = eqb-true (meaning o (code o a)) a parts.0;
      light = let e : weight o (code o a) < prime_of o = ltb-true (weight o (code o a)) (prime_of o) more.0 in omega (arith, e);
      below = ltb-true (code o a) (lane_base o) more.1;
    }

-- a lane with the code of one more element
pub sum_is_lane : (o : Order) (x a b bound : ℕ) → IsLane o x a bound → b < order_number o →
    bound + (prime_of o - 1) < part_base o → IsLane o (x + code o b) (field_add o a b) (bound + (prime_of o - 1))
unfolding sum_laws sum_law
sum_is_lane o x a b bound lane inside light = cases (or_cases
    (ltb (part_base o) (suc (weight o x + (prime_of o - 1)))) _
    (passes_below-at (order_number o) (sum_law o x)
    (passes_below-at (lane_base o) (λ x. passes_below (order_number o) (sum_law o x)) (sum_laws-true o) x lane.below)
    b inside))
  where
    Rest : Bool
    Rest = eqb (meaning o (x + code o b)) (field_add o (meaning o x) b)
        && (ltb (weight o (x + code o b)) (suc (weight o x + (prime_of o - 1))) && ltb (x + code o b) (lane_base o))

    cases : (ltb (part_base o) (suc (weight o x + (prime_of o - 1))) ≡ true) ⊎ (Rest ≡ true) →
        IsLane o (x + code o b) (field_add o a b) (bound + (prime_of o - 1))
    cases (inl heavy) =
        let e : part_base o < suc (weight o x + (prime_of o - 1)) = ltb-true _ _ heavy in
        absurd (omega (arith, e, lane.light, light))
    cases (inr passes) =
        let parts = and_parts (eqb (meaning o (x + code o b)) (field_add o (meaning o x) b)) _ passes in
        let more = and_parts (ltb (weight o (x + code o b)) (suc (weight o x + (prime_of o - 1)))) _ parts.1 in
        record {
          means = eqb-true (meaning o (x + code o b)) _ parts.0 ∙ ap (λ y. field_add o y b) lane.means;
          light = let e : weight o (x + code o b) < suc (weight o x + (prime_of o - 1)) = ltb-true _ _ more.0 in omega (arith, e, lane.light);
          below = ltb-true (x + code o b) (lane_base o) more.1;
        }

pub code_of_parts : (o : Order) (p b e x : ℕ) → p ≡ prime_of o → b ≡ part_base o → e ≡ x →
    e % p + b * (e / p % p) + b * b * (e / p / p) ≡ code o x
unfolding code
code_of_parts o p b e x p_is b_is e_is =
    λ i. e_is i % p_is i + b_is i * (e_is i / p_is i % p_is i) + b_is i * b_is i * (e_is i / p_is i / p_is i)

pub meaning_of_parts : (o : Order) (p b x : ℕ) → p ≡ prime_of o → b ≡ part_base o →
    x % b % p + p * (x / b % b % p) + p * p * (x / b / b % p) ≡ meaning o x
unfolding meaning
meaning_of_parts o p b x p_is b_is =
    λ i. x % b_is i % p_is i + p_is i * (x / b_is i % b_is i % p_is i)
    + p_is i * p_is i * (x / b_is i / b_is i % p_is i)

pub meaning-zero : (o : Order) → meaning o 0 ≡ 0
unfolding meaning
meaning-zero Two = refl
meaning-zero Three = refl
meaning-zero Four = refl
meaning-zero Five = refl
meaning-zero Seven = refl
meaning-zero Eight = refl
meaning-zero Nine = refl

pub weight-zero : (o : Order) → weight o 0 ≡ 0
unfolding weight
weight-zero Two = refl
weight-zero Three = refl
weight-zero Four = refl
weight-zero Five = refl
weight-zero Seven = refl
weight-zero Eight = refl
weight-zero Nine = refl

pub code-zero : (o : Order) → code o 0 ≡ 0
unfolding code
code-zero Two = refl
code-zero Three = refl
code-zero Four = refl
code-zero Five = refl
code-zero Seven = refl
code-zero Eight = refl
code-zero Nine = refl
