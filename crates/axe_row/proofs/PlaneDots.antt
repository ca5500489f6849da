-- Dot products of rows by their planes.
use Rattle.std.proofs.Common.{◌≡◌, ◌≢◌, ℕ, zero, suc, ◌+◌, ◌*◌, ◌%◌, ◌<◌, Bool, true, false, List, [], ◌∷◌, length, get_or, cond, ltb, eqb, refl, sym, ap, ap₂, subst, ◌∙◌, arith, inl, inr, lit<, add-one}
use Rattle.std.proofs.lemmas.Bool.{cases_eq, eqb-true}
use Rattle.std.proofs.lemmas.List.{get_or_past}
use Rattle.std.proofs.Math.Nat.{add-mod, mod-eq_of_lt, mod-lt}
use Rattle.std.specs.List.{All}
use Rattle.axe_field.specs.Arithmetic.{coefficients, number_of, polynomial_sum, polynomial_multiple, polynomial_negative, polynomial_product, without_leading, polynomial_remainder, polynomial_of, field_add, field_mul}
use Rattle.axe_field.specs.CheckedLaws.{passes_below, passes_below-at, field_add-below, field_mul-below, field_add_comm, field_add_assoc, field_add-zero, field_mul_comm, field_mul_assoc, field_mul-add}
use Rattle.axe_field.specs.NumberFields.{number_field}
use Rattle.axe_field.specs.Order.{Order, Two, Three, Four, Five, Seven, Eight, Nine, order_number, prime_of, degree_of, IsElement}
use Rattle.axe_field.specs.Planes.{coefficient, IsCoefficient, element_of}
use Rattle.axe_field.proofs.CoefficientLaws.{coefficient-add, element_of-coefficients, coefficients_are, IsElementOf}
use Rattle.axe_field.proofs.Laws.{field_zero-mul}
use Rattle.axe_field.proofs.Orders.{zero_is_element}
use Rattle.axe_lane.specs.Bytes as lane
use Rattle.axe_lane.specs.Bytes.{AreDigits}
use Rattle.axe_plane.specs.Planes.{prime_of_plane, digits_of, IsPlaneOf}
use Rattle.axe_plane.specs.declared.Plane.{Plane}
use Rattle.axe_layer.proofs.DigitLaws.{digit-below}
use Rattle.axe_layer.proofs.DotLaws.{sum_below, dot_by_entries}
use Rattle.axe_plane.proofs.PlaneLaws.{prime_of_plane-positive}
use Rattle.axe_row.specs.Operations.{dot_product}
use Rattle.axe_row.specs.Planes.{ArePlanes}
use Rattle.axe_row.specs.Rows.{RowValue, IsRow}
use Rattle.axe_row.proofs.OperationLaws.{sum_of_products, sum_of_products-none, sum_of_products-more, sum_of_products-all}
use Rattle.axe_row.proofs.PrimeRows.{constant_alone}
use Rattle.axe_row.proofs.RowPlanes.{entries_of, length-entries, entries-at, linear_within, quadratic_within, prime-positive, element_of-zeros, length_of_row, IsRow-of_planes}

-- ---- elements by their coefficients

-- c + x (l + x q)
abbrev pub horner : Order → ℕ → ℕ → ℕ → ℕ → ℕ
horner o x c l q = field_add o c (field_mul o x (field_add o l (field_mul o x q)))

is_horner : Order → ℕ → ℕ → ℕ → Bool
is_horner o c l q = eqb (element_of o c l q) (horner o (prime_of o) c l q)

are_horner : Order → Bool
are_horner o =
    passes_below (prime_of o) (λ c. passes_below (cond (ltb 1 (degree_of o)) (prime_of o) 1)
    (λ l. passes_below (cond (ltb 2 (degree_of o)) (prime_of o) 1) (λ q. is_horner o c l q)))

are_horner-all : (o : Order) → degree_of o ≢ 1 → are_horner o ≡ true
unfolding are_horner passes_below is_horner coefficients number_of polynomial_sum polynomial_multiple polynomial_negative polynomial_product without_leading polynomial_remainder polynomial_of field_add field_mul
are_horner-all Two h = absurd (h refl)
are_horner-all Three h = absurd (h refl)
are_horner-all Four h = refl
are_horner-all Five h = absurd (h refl)
are_horner-all Seven h = absurd (h refl)
are_horner-all Eight h = refl
are_horner-all Nine h = refl

-- an element is c + x (l + x q) by its coefficients
horner_passes : (o : Order) (c l q : ℕ) → degree_of o ≢ 1 → c < prime_of o → IsCoefficient o 1 l → IsCoefficient o 2 q → is_horner o c l q ≡ true
unfolding are_horner
horner_passes o c l q h hc hl hq =
    passes_below-at _ _ (passes_below-at _ _ (passes_below-at _ _ (are_horner-all o h) c hc) l hl) q hq

element_of-horner : (o : Order) (c l q : ℕ) → degree_of o ≢ 1 → c < prime_of o → IsCoefficient o 1 l → IsCoefficient o 2 q →
    element_of o c l q ≡ horner o (prime_of o) c l q
unfolding is_horner
element_of-horner o c l q h hc hl hq = eqb-true _ _ (horner_passes o c l q h hc hl hq)

multiplies_coefficients : Order → ℕ → ℕ → Bool
multiplies_coefficients o d b = passes_below 3 (λ j. eqb (coefficient o (field_mul o d b) j) ((d * coefficient o b j) % prime_of o))

multiply_coefficients : Order → Bool
multiply_coefficients o = passes_below (prime_of o) (λ d. passes_below (order_number o) (λ b. multiplies_coefficients o d b))

multiply_coefficients-all : (o : Order) → multiply_coefficients o ≡ true
unfolding multiply_coefficients passes_below multiplies_coefficients coefficients number_of polynomial_sum polynomial_multiple polynomial_negative polynomial_product without_leading polynomial_remainder polynomial_of field_mul
multiply_coefficients-all Two = refl
multiply_coefficients-all Three = refl
multiply_coefficients-all Four = refl
multiply_coefficients-all Five = refl
multiply_coefficients-all Seven = refl
multiply_coefficients-all Eight = refl
multiply_coefficients-all Nine = refl

coefficients_pass : (o : Order) (d b : ℕ) → d < prime_of o → IsElement o b → multiplies_coefficients o d b ≡ true
unfolding multiply_coefficients
coefficients_pass o d b hd hb = passes_below-at _ _ (passes_below-at _ _ (multiply_coefficients-all o) d hd) b hb

-- a digit times an element multiplies its coefficients
coefficient-digit : (o : Order) (d b j : ℕ) → d < prime_of o → IsElement o b → j < 3 →
    coefficient o (field_mul o d b) j ≡ (d * coefficient o b j) % prime_of o
unfolding multiplies_coefficients
coefficient-digit o d b j hd hb hj = eqb-true _ _ (passes_below-at _ _ (coefficients_pass o d b hd hb) j hj)

-- a digit is an element
digit-element : (o : Order) (d : ℕ) → d < prime_of o → IsElement o d
digit-element Two d h = h
digit-element Three d h = h
digit-element Four d h = omega arith
digit-element Five d h = h
digit-element Seven d h = h
digit-element Eight d h = omega arith
digit-element Nine d h = omega arith

-- x is the element whose number is the prime
pub x-element : (o : Order) → degree_of o ≢ 1 → IsElement o (prime_of o)
x-element Two h = absurd (h refl)
x-element Three h = absurd (h refl)
x-element Four h = lit< tt
x-element Five h = absurd (h refl)
x-element Seven h = absurd (h refl)
x-element Eight h = lit< tt
x-element Nine h = lit< tt

-- ---- sums and products of c + x (l + x q)

swap : (o : Order) (a b c d : ℕ) → IsElement o a → IsElement o b → IsElement o c → IsElement o d →
    field_add o (field_add o a b) (field_add o c d) ≡ field_add o (field_add o a c) (field_add o b d)
swap o a b c d ha hb hc hd =
    field_add_assoc o a b (field_add o c d) ha hb (field_add-below o c d hc hd)
    ∙ ap (field_add o a) (sym (field_add_assoc o b c d hb hc hd) ∙ ap (λ s. field_add o s d) (field_add_comm o b c hb hc)
    ∙ field_add_assoc o c b d hc hb hd)
    ∙ sym (field_add_assoc o a c (field_add o b d) ha hc (field_add-below o b d hb hd))

-- (a + c) + x (b + d) = (a + x b) + (c + x d)
inner_add : (o : Order) (x a b c d : ℕ) → IsElement o x → IsElement o a → IsElement o b → IsElement o c → IsElement o d →
    field_add o (field_add o a c) (field_mul o x (field_add o b d))
    ≡ field_add o (field_add o a (field_mul o x b)) (field_add o c (field_mul o x d))
inner_add o x a b c d hx ha hb hc hd =
    ap (field_add o (field_add o a c)) (field_mul-add o x b d hx hb hd)
    ∙ swap o a c (field_mul o x b) (field_mul o x d) ha hc (field_mul-below o x b hx hb) (field_mul-below o x d hx hd)

-- (a + x s) b = a b + x (s b)
inner_mul : (o : Order) (x a s b : ℕ) → IsElement o x → IsElement o a → IsElement o s → IsElement o b →
    field_mul o (field_add o a (field_mul o x s)) b ≡ field_add o (field_mul o a b) (field_mul o x (field_mul o s b))
inner_mul o x a s b hx ha hs hb =
    let xs = field_mul-below o x s hx hs in
    field_mul_comm o (field_add o a (field_mul o x s)) b (field_add-below o a (field_mul o x s) ha xs) hb
    ∙ field_mul-add o b a (field_mul o x s) hb ha xs
    ∙ ap₂ (field_add o) (field_mul_comm o b a hb ha) (field_mul_comm o b (field_mul o x s) hb xs ∙ field_mul_assoc o x s b hx hs hb)

inner-below : (o : Order) (x a b : ℕ) → IsElement o x → IsElement o a → IsElement o b → IsElement o (field_add o a (field_mul o x b))
inner-below o x a b hx ha hb = field_add-below o a (field_mul o x b) ha (field_mul-below o x b hx hb)

record AreElements (o : Order) (c l q : ℕ) : Type 0 where
  constant : IsElement o c
  linear : IsElement o l
  quadratic : IsElement o q

horner_add : (o : Order) (x c l q c' l' q' : ℕ) → IsElement o x → AreElements o c l q → AreElements o c' l' q' →
    horner o x (field_add o c c') (field_add o l l') (field_add o q q') ≡ field_add o (horner o x c l q) (horner o x c' l' q')
horner_add o x c l q c' l' q' hx h h' =
    ap (λ s. field_add o (field_add o c c') (field_mul o x s)) (inner_add o x l q l' q' hx h.linear h.quadratic h'.linear h'.quadratic)
    ∙ inner_add o x c (field_add o l (field_mul o x q)) c' (field_add o l' (field_mul o x q')) hx h.constant
    (inner-below o x l q hx h.linear h.quadratic) h'.constant (inner-below o x l' q' hx h'.linear h'.quadratic)

horner_mul : (o : Order) (x c l q b : ℕ) → IsElement o x → AreElements o c l q → IsElement o b →
    field_mul o (horner o x c l q) b ≡ horner o x (field_mul o c b) (field_mul o l b) (field_mul o q b)
horner_mul o x c l q b hx h hb =
    inner_mul o x c (field_add o l (field_mul o x q)) b hx h.constant (inner-below o x l q hx h.linear h.quadratic) hb
    ∙ ap (λ s. field_add o (field_mul o c b) (field_mul o x s)) (inner_mul o x l q b hx h.linear h.quadratic hb)

horner_zero : (o : Order) (x : ℕ) → IsElement o x → 0 ≡ horner o x 0 0 0
horner_zero o x hx =
    let none : field_add o 0 (field_mul o x 0) ≡ 0 =
    ap (field_add o 0) (field_mul_comm o x 0 hx (zero_is_element o) ∙ field_zero-mul o x hx) ∙ field_add-zero o 0 (zero_is_element o) in
    sym (ap (λ s. field_add o 0 (field_mul o x s)) none ∙ none)

-- ---- the sums of the first products

sum-element : (o : Order) (u b : List ℕ) (n : ℕ) → ((e : ℕ) → IsElement o (get_or u e 0)) → ((e : ℕ) → IsElement o (get_or b e 0)) →
    IsElement o (sum_of_products (number_field o) u b n)
sum-element o u b zero hu hb = subst (IsElement o) (sym (sum_of_products-none (number_field o) u b)) (zero_is_element o)
sum-element o u b (suc n) hu hb =
    subst (IsElement o) (sym (ap (sum_of_products (number_field o) u b) (sym (add-one n)) ∙ sum_of_products-more o u b n))
    (field_add-below o _ _ (sum-element o u b n hu hb) (field_mul-below o _ _ (hu n) (hb n)))

-- a vector without entries
sum-nothing : (o : Order) (u b : List ℕ) (n : ℕ) → length u ≡ 0 → ((e : ℕ) → IsElement o (get_or b e 0)) →
    sum_of_products (number_field o) u b n ≡ 0
sum-nothing o u b zero none hb = sum_of_products-none (number_field o) u b
sum-nothing o u b (suc n) none hb =
    ap (sum_of_products (number_field o) u b) (sym (add-one n)) ∙ sum_of_products-more o u b n
    ∙ ap₂ (field_add o) (sum-nothing o u b n none hb)
    (ap (λ d. field_mul o d (get_or b n 0)) (get_or_past u n 0 (omega (arith, none))) ∙ field_zero-mul o (get_or b n 0) (hb n))
    ∙ field_add-zero o 0 (zero_is_element o)

dot_up_to : (o : Order) (u b : List ℕ) (n : ℕ) → (length u ≢ 0 → length u ≡ n) → ((e : ℕ) → IsElement o (get_or b e 0)) →
    dot_product (number_field o) u b ≡ sum_of_products (number_field o) u b n
dot_up_to o u b n fits hb = elim (cases_eq (length u) 0) [
  | inl none ↦
      sym (sum_of_products-all (number_field o) u b (length u) refl) ∙ sum-nothing o u b (length u) none hb ∙ sym (sum-nothing o u b n none hb)
  | inr some ↦ sym (sum_of_products-all (number_field o) u b n (sym (fits some)))
]

-- entry by entry, a is c + x (l + x q)
record AreParts (o : Order) (x : ℕ) (a c l q : List ℕ) (n : ℕ) : Type 0 where
  constant : (e : ℕ) → IsElement o (get_or c e 0)
  linear : (e : ℕ) → IsElement o (get_or l e 0)
  quadratic : (e : ℕ) → IsElement o (get_or q e 0)
  at : (e : ℕ) → e < n → get_or a e 0 ≡ horner o x (get_or c e 0) (get_or l e 0) (get_or q e 0)

-- then so are the sums of products
parts_sum : (o : Order) (x : ℕ) (a c l q b : List ℕ) (m n : ℕ) → IsElement o x → AreParts o x a c l q m → n < m + 1 →
    ((e : ℕ) → IsElement o (get_or b e 0)) →
    sum_of_products (number_field o) a b n
    ≡ horner o x (sum_of_products (number_field o) c b n) (sum_of_products (number_field o) l b n) (sum_of_products (number_field o) q b n)
parts_sum o x a c l q b m zero hx h within hb =
    let none : (u : List ℕ) → 0 ≡ sum_of_products (number_field o) u b 0 = λ u. sym (sum_of_products-none (number_field o) u b) in
    sym (none a) ∙ horner_zero o x hx ∙ ap (λ y. horner o x y 0 0) (none c) ∙ ap₂ (horner o x (sum_of_products (number_field o) c b 0)) (none l) (none q)
parts_sum o x a c l q b m (suc n) hx h within hb =
    let s : List ℕ → ℕ → ℕ = λ u k. sum_of_products (number_field o) u b k in
    let t : List ℕ → ℕ = λ u. field_mul o (get_or u n 0) (get_or b n 0) in
    let more : (u : List ℕ) → s u (suc n) ≡ field_add o (s u n) (t u) =
    λ u. ap (s u) (sym (add-one n)) ∙ sum_of_products-more o u b n in
    let these : AreElements o (get_or c n 0) (get_or l n 0) (get_or q n 0) =
    record { constant = h.constant n; linear = h.linear n; quadratic = h.quadratic n } in
    let sums : AreElements o (s c n) (s l n) (s q n) = record {
      constant = sum-element o c b n h.constant hb;
      linear = sum-element o l b n h.linear hb;
      quadratic = sum-element o q b n h.quadratic hb;
    } in
    let products : AreElements o (t c) (t l) (t q) = record {
      constant = field_mul-below o _ _ (h.constant n) (hb n);
      linear = field_mul-below o _ _ (h.linear n) (hb n);
      quadratic = field_mul-below o _ _ (h.quadratic n) (hb n);
    } in
    more a
    ∙ ap₂ (field_add o) (parts_sum o x a c l q b m n hx h (omega arith) hb)
    (ap (λ y. field_mul o y (get_or b n 0)) (h.at n (omega arith)) ∙ horner_mul o x _ _ _ (get_or b n 0) hx these (hb n))
    ∙ sym (horner_add o x (s c n) (s l n) (s q n) (t c) (t l) (t q) hx sums products)
    ∙ sym (ap (λ y. horner o x y (s l (suc n)) (s q (suc n))) (more c)
    ∙ ap₂ (horner o x (field_add o (s c n) (t c))) (more l) (more q))

-- ---- digits times a row, coefficient by coefficient

digit_sum : ℕ → List ℕ → List ℕ → ℕ → ℕ
digit_sum p u v n = sum_below (λ e. get_or u e 0 * get_or v e 0) n % p

-- a vector of digits times digits that may not be there
nothing_below : (u v : List ℕ) (n : ℕ) → ((e : ℕ) → get_or v e 0 ≡ 0) → sum_below (λ e. get_or u e 0 * get_or v e 0) n ≡ 0
nothing_below u v zero none = refl
nothing_below u v (suc n) none = ap₂ (λ x y. x + get_or u n 0 * y) (nothing_below u v n none) (none n) ∙ omega arith

pub dot_by_digits : (u v : List ℕ) → (length u ≢ 0 → length v ≢ 0 → length v ≡ length u) →
    lane.sum_of_products u v ≡ sum_below (λ e. get_or u e 0 * get_or v e 0) (length u)
dot_by_digits [] v fits = refl
dot_by_digits (d ∷ u) [] fits = sym (nothing_below (d ∷ u) [] (length (d ∷ u)) (λ e. refl))
dot_by_digits (d ∷ u) (f ∷ v) fits = dot_by_entries (d ∷ u) (f ∷ v) (fits (λ none. absurd (omega (arith, none))) (λ none. absurd (omega (arith, none))))

no_rest : (p : ℕ) → 0 < p → 0 % p ≡ 0
no_rest p positive = mod-eq_of_lt positive

-- a vector of digits times none
pub unequal_dot : (p : ℕ) (u v : List ℕ) → 0 < p → (length u ≢ 0 → length v ≢ 0 → length v ≡ length u) → length u ≢ length v →
    0 ≡ lane.sum_of_products u v % p
unequal_dot p [] v positive fits other = sym (no_rest p positive)
unequal_dot p (d ∷ u) [] positive fits other = sym (no_rest p positive)
unequal_dot p (d ∷ u) (f ∷ v) positive fits other =
    absurd (other (sym (fits (λ none. absurd (omega (arith, none))) (λ none. absurd (omega (arith, none))))))

digit_sum-within : (b : Bool) (p n : ℕ) (u v : List ℕ) → 0 < p → ((e : ℕ) → get_or v e 0 < cond b p 1) → digit_sum p u v n < cond b p 1
unfolding digit_sum
digit_sum-within true p n u v positive below = mod-lt _ positive
digit_sum-within false p n u v positive below =
    let none : sum_below (λ e. get_or u e 0 * get_or v e 0) n ≡ 0 = nothing_below u v n (λ e. let small = below e in omega (arith, small)) in
    subst (λ s. s < 1) (sym (ap (λ s. s % p) none ∙ no_rest p positive)) (lit< tt)

digit_sum-none : (p : ℕ) (u v : List ℕ) → 0 < p → digit_sum p u v 0 ≡ 0
unfolding digit_sum
digit_sum-none p u v positive = no_rest p positive

digit_sum-more : (p : ℕ) (u v : List ℕ) (n : ℕ) →
    digit_sum p u v (suc n) ≡ (digit_sum p u v n + (get_or u n 0 * get_or v n 0) % p) % p
unfolding digit_sum
digit_sum-more p u v n = add-mod (sum_below (λ e. get_or u e 0 * get_or v e 0) n) (get_or u n 0 * get_or v n 0) p

-- entry by entry, b is the element with these coefficients
record HasCoefficients (o : Order) (b c l q : List ℕ) (n : ℕ) : Type 0 where
  constant : (e : ℕ) → get_or c e 0 < prime_of o
  linear : (e : ℕ) → IsCoefficient o 1 (get_or l e 0)
  quadratic : (e : ℕ) → IsCoefficient o 2 (get_or q e 0)
  at : (e : ℕ) → e < n → get_or b e 0 ≡ element_of o (get_or c e 0) (get_or l e 0) (get_or q e 0)

sums_are : (o : Order) (u b c l q : List ℕ) (m n : ℕ) → HasCoefficients o b c l q m →
    IsElementOf o (digit_sum (prime_of o) u c n) (digit_sum (prime_of o) u l n) (digit_sum (prime_of o) u q n)
sums_are o u b c l q m n h =
    coefficients_are o _ _ _ (digit_sum-within true (prime_of o) n u c (prime-positive o) h.constant)
    (digit_sum-within (ltb 1 (degree_of o)) (prime_of o) n u l (prime-positive o) h.linear)
    (digit_sum-within (ltb 2 (degree_of o)) (prime_of o) n u q (prime-positive o) h.quadratic)

-- one coefficient of a sum with one more product
coefficient_more : (o : Order) (s d a j sj aj : ℕ) → IsElement o s → d < prime_of o → IsElement o a → j < 3 →
    coefficient o s j ≡ sj → coefficient o a j ≡ aj →
    coefficient o (field_add o s (field_mul o d a)) j ≡ (sj + (d * aj) % prime_of o) % prime_of o
coefficient_more o s d a j sj aj hs hd ha hj es ea =
    coefficient-add o s (field_mul o d a) j hs (field_mul-below o d a (digit-element o d hd) ha) hj
    ∙ ap₂ (λ x y. (x + y) % prime_of o) es (coefficient-digit o d a j hd ha hj ∙ ap (λ x. (d * x) % prime_of o) ea)

digits_dot : (o : Order) (u b c l q : List ℕ) (m n : ℕ) → ((e : ℕ) → get_or u e 0 < prime_of o) → HasCoefficients o b c l q m → n < m + 1 →
    element_of o (digit_sum (prime_of o) u c n) (digit_sum (prime_of o) u l n) (digit_sum (prime_of o) u q n)
    ≡ sum_of_products (number_field o) u b n
digits_dot o u b c l q m zero hu h within =
    let none = λ (v : List ℕ). digit_sum-none (prime_of o) u v (prime-positive o) in
    ap (λ x. element_of o x (digit_sum (prime_of o) u l 0) (digit_sum (prime_of o) u q 0)) (none c)
    ∙ ap₂ (element_of o 0) (none l) (none q) ∙ element_of-zeros o ∙ sym (sum_of_products-none (number_field o) u b)
digits_dot o u b c l q m (suc n) hu h within =
    let p = prime_of o in
    let s : ℕ = element_of o (digit_sum p u c n) (digit_sum p u l n) (digit_sum p u q n) in
    let a : ℕ = element_of o (get_or c n 0) (get_or l n 0) (get_or q n 0) in
    let so_far = sums_are o u b c l q m n h in
    let one : IsElementOf o (get_or c n 0) (get_or l n 0) (get_or q n 0) = coefficients_are o _ _ _ (h.constant n) (h.linear n) (h.quadratic n) in
    let r : ℕ = field_add o s (field_mul o (get_or u n 0) a) in
    let hr : IsElement o r =
    field_add-below o s _ so_far.element (field_mul-below o (get_or u n 0) a (digit-element o (get_or u n 0) (hu n)) one.element) in
    let first : coefficient o r 0 ≡ digit_sum p u c (suc n) =
    coefficient_more o s (get_or u n 0) a 0 _ _ so_far.element (hu n) one.element (lit< tt) so_far.first one.first
    ∙ sym (digit_sum-more p u c n) in
    let second : coefficient o r 1 ≡ digit_sum p u l (suc n) =
    coefficient_more o s (get_or u n 0) a 1 _ _ so_far.element (hu n) one.element (lit< tt) so_far.second one.second
    ∙ sym (digit_sum-more p u l n) in
    let third : coefficient o r 2 ≡ digit_sum p u q (suc n) =
    coefficient_more o s (get_or u n 0) a 2 _ _ so_far.element (hu n) one.element (lit< tt) so_far.third one.third
    ∙ sym (digit_sum-more p u q n) in
    sym (ap (λ x. element_of o x (coefficient o r 1) (coefficient o r 2)) first ∙ ap₂ (element_of o (digit_sum p u c (suc n))) second third)
    ∙ element_of-coefficients o r hr
    ∙ ap₂ (λ x y. field_add o x (field_mul o (get_or u n 0) y)) (digits_dot o u b c l q m n hu h (omega arith)) (sym (h.at n (omega arith)))
    ∙ sym (sum_of_products-more o u b n) ∙ ap (sum_of_products (number_field o) u b) (add-one n)

-- ---- the planes of rows

row_coefficients : (o : Order) (n : ℕ) (c l q : Plane) → ArePlanes o n c l q →
    HasCoefficients o (entries_of o c l q) (digits_of c) (digits_of l) (digits_of q) (length (digits_of c))
row_coefficients o n c l q h = record {
  constant = λ e. digit-below (prime_of o) (digits_of c) e (prime-positive o) h.constant.digits;
  linear = λ e. linear_within o n c l q e h;
  quadratic = λ e. quadratic_within o n c l q e h;
  at = λ e inside. entries-at o (digits_of c) (digits_of l) (digits_of q) e 0 inside;
}

present_fits : (b : Bool) (u v : List ℕ) (n : ℕ) → (length u ≢ 0 → length u ≡ n) → length v ≡ cond b n 0 →
    length u ≢ 0 → length v ≢ 0 → length v ≡ length u
present_fits true u v n fits long some other = long ∙ sym (fits some)
present_fits false u v n fits long some other = absurd (other long)

-- a vector of digits times a row, from those times its planes
plane_dot : (o : Order) (u : List ℕ) (n : ℕ) (c l q : Plane) → AreDigits (prime_of o) u → (length u ≢ 0 → length u ≡ n) → ArePlanes o n c l q →
    element_of o (lane.sum_of_products u (digits_of c) % prime_of o) (lane.sum_of_products u (digits_of l) % prime_of o)
    (lane.sum_of_products u (digits_of q) % prime_of o)
    ≡ dot_product (number_field o) u (entries_of o c l q)
unfolding digit_sum
plane_dot o u n c l q hu fits h =
    let one : (v : List ℕ) → (length u ≢ 0 → length v ≢ 0 → length v ≡ length u) →
    lane.sum_of_products u v % prime_of o ≡ digit_sum (prime_of o) u v (length u) =
    λ v fit. ap (λ s. s % prime_of o) (dot_by_digits u v fit) in
    let within : length u < length (digits_of c) + 1 = elim (cases_eq (length u) 0) [
      | inl none ↦ omega (arith, none)
      | inr some ↦ omega (arith, fits some, h.constant.long)
    ] in
    ap (λ x. element_of o x (lane.sum_of_products u (digits_of l) % prime_of o) (lane.sum_of_products u (digits_of q) % prime_of o))
    (one (digits_of c) (present_fits true u (digits_of c) n fits h.constant.long))
    ∙ ap₂ (element_of o (digit_sum (prime_of o) u (digits_of c) (length u)))
    (one (digits_of l) (present_fits (ltb 1 (degree_of o)) u (digits_of l) n fits h.linear.long))
    (one (digits_of q) (present_fits (ltb 2 (degree_of o)) u (digits_of q) n fits h.quadratic.long))
    ∙ digits_dot o u (entries_of o c l q) (digits_of c) (digits_of l) (digits_of q) (length (digits_of c)) (length u)
    (λ e. digit-below (prime_of o) u e (prime-positive o) hu) (row_coefficients o n c l q h) within
    ∙ sum_of_products-all (number_field o) u (entries_of o c l q) (length u) refl

-- an entry of a row, also past the end
entry_element : (o : Order) (b : List ℕ) (e : ℕ) → All (IsElement o) b → IsElement o (get_or b e 0)
entry_element o b e all = digit-below (order_number o) b e (zero_is_element o) all

row_parts : (o : Order) (n : ℕ) (c l q : Plane) → degree_of o ≢ 1 → ArePlanes o n c l q →
    AreParts o (prime_of o) (entries_of o c l q) (digits_of c) (digits_of l) (digits_of q) (length (digits_of c))
row_parts o n c l q high h =
    let digit : (plane : Plane) (m e : ℕ) → IsPlaneOf (prime_of o) m plane → IsElement o (get_or (digits_of plane) e 0) =
    λ plane m e hp. digit-element o _ (digit-below (prime_of o) (digits_of plane) e (prime-positive o) hp.digits) in
    let row = row_coefficients o n c l q h in
    record {
      constant = λ e. digit c _ e h.constant;
      linear = λ e. digit l _ e h.linear;
      quadratic = λ e. digit q _ e h.quadratic;
      at = λ e inside. row.at e inside ∙ element_of-horner o _ _ _ high (row.constant e) (row.linear e) (row.quadratic e);
    }

absent_fits : (b : Bool) (u : List ℕ) (n : ℕ) → length u ≡ cond b n 0 → length u ≢ 0 → length u ≡ n
absent_fits true u n long some = long
absent_fits false u n long some = absurd (some long)

-- a row is c + x (l + x q), and so is its dot product
planes_dot : (o : Order) (n : ℕ) (c l q : Plane) (b : List ℕ) → degree_of o ≢ 1 → ArePlanes o n c l q → All (IsElement o) b →
    horner o (prime_of o) (dot_product (number_field o) (digits_of c) b) (dot_product (number_field o) (digits_of l) b)
    (dot_product (number_field o) (digits_of q) b)
    ≡ dot_product (number_field o) (entries_of o c l q) b
planes_dot o n c l q b high h hb =
    let elements : (e : ℕ) → IsElement o (get_or b e 0) = λ e. entry_element o b e hb in
    let up_to : (u : List ℕ) → (length u ≢ 0 → length u ≡ n) → dot_product (number_field o) u b ≡ sum_of_products (number_field o) u b n =
    λ u fits. dot_up_to o u b n fits elements in
    ap (λ y. horner o (prime_of o) y (dot_product (number_field o) (digits_of l) b) (dot_product (number_field o) (digits_of q) b))
    (up_to (digits_of c) (λ some. h.constant.long))
    ∙ ap₂ (horner o (prime_of o) (sum_of_products (number_field o) (digits_of c) b n))
    (up_to (digits_of l) (absent_fits (ltb 1 (degree_of o)) (digits_of l) n h.linear.long))
    (up_to (digits_of q) (absent_fits (ltb 2 (degree_of o)) (digits_of q) n h.quadratic.long))
    ∙ sym (parts_sum o (prime_of o) (entries_of o c l q) (digits_of c) (digits_of l) (digits_of q) b (length (digits_of c)) n (x-element o high)
    (row_parts o n c l q high h) (omega (arith, h.constant.long)) elements)
    ∙ sym (up_to (entries_of o c l q) (λ some. length-entries o (digits_of c) (digits_of l) (digits_of q) ∙ h.constant.long))

-- ---- rows as values

-- how long a vector of digits is that may be multiplied by a row
pub fits_row : (o : Order) (u : List ℕ) (c l q : Plane) (self : RowValue) → record { order = o; entries = entries_of o c l q } ≡ self →
    (length u ≢ 0 → length u ≡ length self.entries) → length u ≢ 0 → length u ≡ length (digits_of c)
fits_row o u c l q self self_is fits some = fits some ∙ length_of_row o c l q self self_is

-- the coefficient that a plane gives
part_is : (o : Order) (m r : ℕ) (u c l q : Plane) (v : List ℕ) (self : RowValue) → record { order = o; entries = entries_of o c l q } ≡ self →
    IsPlaneOf (prime_of self.order) m u → r ≡ lane.sum_of_products (digits_of u) v % prime_of_plane u →
    r ≡ lane.sum_of_products (digits_of u) v % prime_of o
part_is o m r u c l q v self self_is hu is =
    is ∙ ap (λ p. lane.sum_of_products (digits_of u) v % p) (hu.prime ∙ ap (λ (t : RowValue). prime_of t.order) (sym self_is))

part-within : (b : Bool) (p : ℕ) (u v : List ℕ) → 0 < p → (length u ≢ 0 → length v ≢ 0 → length v ≡ length u) →
    ((e : ℕ) → get_or v e 0 < cond b p 1) → lane.sum_of_products u v % p < cond b p 1
unfolding digit_sum
part-within b p u v positive fits below =
    subst (λ s. s % p < cond b p 1) (sym (dot_by_digits u v fits)) (digit_sum-within b p (length u) u v positive below)

-- a vector of digits and the planes of a row that it is multiplied by
pub record AreFactors (o : Order) (m : ℕ) (u c l q : Plane) (self : RowValue) : Type 0 where
  pub planes : ArePlanes o (length (digits_of c)) c l q
  pub view_is : record { order = o; entries = entries_of o c l q } ≡ self
  pub plane : IsPlaneOf (prime_of self.order) m u
  pub fits : length (digits_of u) ≢ 0 → length (digits_of u) ≡ length self.entries

pub constant_fits : (o : Order) (m : ℕ) (u c l q : Plane) (self : RowValue) → AreFactors o m u c l q self →
    length (digits_of u) ≢ 0 → length (digits_of c) ≢ 0 → length (digits_of c) ≡ length (digits_of u)
constant_fits o m u c l q self h =
    present_fits true (digits_of u) (digits_of c) (length (digits_of c)) (fits_row o (digits_of u) c l q self h.view_is h.fits) refl

pub linear_fits : (o : Order) (m : ℕ) (u c l q : Plane) (self : RowValue) → AreFactors o m u c l q self →
    length (digits_of u) ≢ 0 → length (digits_of l) ≢ 0 → length (digits_of l) ≡ length (digits_of u)
linear_fits o m u c l q self h =
    present_fits (ltb 1 (degree_of o)) (digits_of u) (digits_of l) (length (digits_of c)) (fits_row o (digits_of u) c l q self h.view_is h.fits)
    h.planes.linear.long

pub quadratic_fits : (o : Order) (m : ℕ) (u c l q : Plane) (self : RowValue) → AreFactors o m u c l q self →
    length (digits_of u) ≢ 0 → length (digits_of q) ≢ 0 → length (digits_of q) ≡ length (digits_of u)
quadratic_fits o m u c l q self h =
    present_fits (ltb 2 (degree_of o)) (digits_of u) (digits_of q) (length (digits_of c)) (fits_row o (digits_of u) c l q self h.view_is h.fits)
    h.planes.quadratic.long

-- what the coefficients have to be
pub linear_part : (o : Order) (m r : ℕ) (u c l q : Plane) (self : RowValue) → AreFactors o m u c l q self →
    r ≡ lane.sum_of_products (digits_of u) (digits_of l) % prime_of_plane u → IsCoefficient o 1 r
linear_part o m r u c l q self h is =
    subst (IsCoefficient o 1) (sym (part_is o m r u c l q (digits_of l) self h.view_is h.plane is))
    (part-within (ltb 1 (degree_of o)) (prime_of o) (digits_of u) (digits_of l) (prime-positive o) (linear_fits o m u c l q self h)
    (λ e. linear_within o _ c l q e h.planes))

pub quadratic_part : (o : Order) (m r : ℕ) (u c l q : Plane) (self : RowValue) → AreFactors o m u c l q self →
    r ≡ lane.sum_of_products (digits_of u) (digits_of q) % prime_of_plane u → IsCoefficient o 2 r
quadratic_part o m r u c l q self h is =
    subst (IsCoefficient o 2) (sym (part_is o m r u c l q (digits_of q) self h.view_is h.plane is))
    (part-within (ltb 2 (degree_of o)) (prime_of o) (digits_of u) (digits_of q) (prime-positive o) (quadratic_fits o m u c l q self h)
    (λ e. quadratic_within o _ c l q e h.planes))

pub digits_by_row : (o : Order) (m r0 r1 r2 : ℕ) (u c l q : Plane) (self : RowValue) → AreFactors o m u c l q self →
    r0 ≡ lane.sum_of_products (digits_of u) (digits_of c) % prime_of_plane u →
    r1 ≡ lane.sum_of_products (digits_of u) (digits_of l) % prime_of_plane u →
    r2 ≡ lane.sum_of_products (digits_of u) (digits_of q) % prime_of_plane u →
    element_of o r0 r1 r2 ≡ dot_product (number_field self.order) (digits_of u) self.entries
digits_by_row o m r0 r1 r2 u c l q self h e0 e1 e2 =
    ap (λ x. element_of o x r1 r2) (part_is o m r0 u c l q (digits_of c) self h.view_is h.plane e0)
    ∙ ap₂ (element_of o (lane.sum_of_products (digits_of u) (digits_of c) % prime_of o))
    (part_is o m r1 u c l q (digits_of l) self h.view_is h.plane e1) (part_is o m r2 u c l q (digits_of q) self h.view_is h.plane e2)
    ∙ plane_dot o (digits_of u) (length (digits_of c)) c l q
    (subst (λ r. AreDigits (prime_of r) (digits_of u)) (sym (ap (λ (t : RowValue). t.order) h.view_is)) h.plane.digits)
    (fits_row o (digits_of u) c l q self h.view_is h.fits) h.planes
    ∙ ap (λ (t : RowValue). dot_product (number_field t.order) (digits_of u) t.entries) h.view_is

dot-element : (o : Order) (u b : List ℕ) → AreDigits (prime_of o) u → All (IsElement o) b → IsElement o (dot_product (number_field o) u b)
dot-element o u b hu hb =
    subst (IsElement o) (sum_of_products-all (number_field o) u b (length u) refl)
    (sum-element o u b (length u) (λ e. digit-element o _ (digit-below (prime_of o) u e (prime-positive o) hu)) (λ e. entry_element o b e hb))

-- where there are no digits the sum of products is 0
no_products : (p : ℕ) (u v : List ℕ) → 0 < p → length v ≡ 0 → 0 ≡ lane.sum_of_products u v % p
no_products p [] v positive none = sym (no_rest p positive)
no_products p (d ∷ u) [] positive none = sym (no_rest p positive)
no_products p (d ∷ u) (f ∷ v) positive none = absurd (omega (arith, none))

-- over a prime field the product with the one plane is the whole
pub digits_by_plane : (o : Order) (m r : ℕ) (u c l q : Plane) (self : RowValue) → AreFactors o m u c l q self → length (digits_of l) ≡ 0 →
    length (digits_of q) ≡ 0 → r ≡ lane.sum_of_products (digits_of u) (digits_of c) % prime_of_plane u →
    r ≡ dot_product (number_field self.order) (digits_of u) self.entries
digits_by_plane o m r u c l q self h linear quadratic is =
    let positive = prime_of_plane-positive u in
    sym (constant_alone o r)
    ∙ digits_by_row o m r 0 0 u c l q self h is (no_products _ (digits_of u) (digits_of l) positive linear)
    (no_products _ (digits_of u) (digits_of q) positive quadratic)

pub digits_element : (o : Order) (m r : ℕ) (u c l q : Plane) (self : RowValue) → AreFactors o m u c l q self →
    r ≡ dot_product (number_field self.order) (digits_of u) self.entries → IsElement self.order r
digits_element o m r u c l q self h is =
    let row : IsRow self = subst IsRow h.view_is (IsRow-of_planes o _ c l q h.planes) in
    subst (IsElement self.order) (sym is) (dot-element self.order (digits_of u) self.entries h.plane.digits row.elements)

-- the planes of a row as vectors of digits
pub linear_long : (o : Order) (c l q : Plane) (self other : RowValue) → ArePlanes o (length (digits_of c)) c l q →
    record { order = o; entries = entries_of o c l q } ≡ self → length other.entries ≡ length self.entries →
    length (digits_of l) ≢ 0 → length (digits_of l) ≡ length other.entries
linear_long o c l q self other h self_is lengths some =
    absent_fits (ltb 1 (degree_of o)) (digits_of l) (length (digits_of c)) h.linear.long some
    ∙ sym (lengths ∙ length_of_row o c l q self self_is)

pub quadratic_long : (o : Order) (c l q : Plane) (self other : RowValue) → ArePlanes o (length (digits_of c)) c l q →
    record { order = o; entries = entries_of o c l q } ≡ self → length other.entries ≡ length self.entries →
    length (digits_of q) ≢ 0 → length (digits_of q) ≡ length other.entries
quadratic_long o c l q self other h self_is lengths some =
    absent_fits (ltb 2 (degree_of o)) (digits_of q) (length (digits_of c)) h.quadratic.long some
    ∙ sym (lengths ∙ length_of_row o c l q self self_is)

pub row_dot : (o : Order) (x r0 r1 r2 : ℕ) (c l q : Plane) (self other : RowValue) → ArePlanes o (length (digits_of c)) c l q →
    record { order = o; entries = entries_of o c l q } ≡ self → degree_of self.order ≢ 1 → other.order ≡ self.order → IsRow other →
    x ≡ prime_of self.order →
    r0 ≡ dot_product (number_field other.order) (digits_of c) other.entries →
    r1 ≡ dot_product (number_field other.order) (digits_of l) other.entries →
    r2 ≡ dot_product (number_field other.order) (digits_of q) other.entries →
    horner self.order x r0 r1 r2 ≡ dot_product (number_field self.order) self.entries other.entries
row_dot o x r0 r1 r2 c l q self other h self_is high orders row ex e0 e1 e2 =
    let same : self.order ≡ o = sym (ap (λ (t : RowValue). t.order) self_is) in
    let part : (u : List ℕ) → dot_product (number_field other.order) u other.entries ≡ dot_product (number_field o) u other.entries =
    λ u. ap (λ s. dot_product (number_field s) u other.entries) (orders ∙ same) in
    ap (λ s. horner s x r0 r1 r2) same
    ∙ ap (λ y. horner o y r0 r1 r2) (ex ∙ ap prime_of same)
    ∙ ap (λ y. horner o (prime_of o) y r1 r2) (e0 ∙ part (digits_of c))
    ∙ ap₂ (horner o (prime_of o) (dot_product (number_field o) (digits_of c) other.entries)) (e1 ∙ part (digits_of l)) (e2 ∙ part (digits_of q))
    ∙ planes_dot o _ c l q other.entries (λ one. high (ap degree_of same ∙ one)) h (subst (λ s. All (IsElement s) other.entries) (orders ∙ same) row.elements)
    ∙ ap (λ (t : RowValue). dot_product (number_field t.order) t.entries other.entries) self_is

-- c + x (l + x q), step by step
pub high_part : (r o : Order) (x c l q sum product high inner : ℕ) → r ≡ o → sum ≡ field_add r c product → product ≡ field_mul r x high →
    high ≡ field_add r l inner → inner ≡ field_mul r x q → sum ≡ horner o x c l q
high_part r o x c l q sum product high inner same es ep eh ei =
    es ∙ ap (field_add r c) (ep ∙ ap (field_mul r x) (eh ∙ ap (field_add r l) ei)) ∙ ap (λ s. horner s x c l q) same
