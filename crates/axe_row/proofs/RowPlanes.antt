-- Rows as planes of coefficients.
use Rattle.std.proofs.Common.{◌≡◌, ◌≢◌, ℕ, ◌+◌, ◌*◌, ◌<◌, ◌≤◌, Bool, true, false, List, length, get_or, set, replicate, cond, ltb, refl, sym, ap, subst, ◌∙◌, arith, inl, inr, lit<, get_or-set_other, get_or-set_same}
use Rattle.std.proofs.lemmas.Bool.{cases_eq}
use Rattle.std.proofs.lemmas.List.{ext_get_or, get_or_past, get_or-replicate, length-replicate, length-set}
use Rattle.axe_algebra.specs.Lists.{entry}
use Rattle.axe_algebra.proofs.ListEntries.{listed_length, listed_at}
use Rattle.axe_field.specs.Arithmetic.{number_of}
use Rattle.axe_field.specs.Order.{Order, Two, Three, Four, Five, Seven, Eight, Nine, prime_of, degree_of, IsElement}
use Rattle.axe_field.specs.Planes.{coefficient, IsCoefficient, element_of, matrix_of_multiplication}
use Rattle.axe_field.proofs.CoefficientLaws.{coefficient-below, element_of-coefficients, coefficients_are, IsElementOf, matrix_of_multiplication-below, matrix_of_multiplication-first}
use Rattle.axe_lane.specs.Bytes.{AreDigits}
use Rattle.axe_plane.specs.Planes.{prime_of_plane, digits_of, IsPlane, IsPlaneOf}
use Rattle.axe_plane.specs.declared.Plane.{Plane}
use Rattle.axe_layer.proofs.BitLaws.{get_or-zeros}
use Rattle.axe_layer.proofs.DigitLaws.{digit-below}
use Rattle.axe_plane.proofs.PlaneLaws.{plane_of_zeros, plane_of_set, same_plane}
use Rattle.axe_row.specs.Planes.{entries_of_digits, ArePlanes}
use Rattle.axe_row.specs.Rows.{RowValue, IsRow}

-- the entries of a row of these planes
abbrev pub entries_of : Order → Plane → Plane → Plane → List ℕ
entries_of o c l q = entries_of_digits o (digits_of c) (digits_of l) (digits_of q)

pub length-entries : (o : Order) (c l q : List ℕ) → length (entries_of_digits o c l q) ≡ length c
unfolding entries_of_digits
length-entries o c l q = listed_length (length c) _

pub entries-at : (o : Order) (c l q : List ℕ) (e d : ℕ) → e < length c →
    get_or (entries_of_digits o c l q) e d ≡ element_of o (get_or c e 0) (get_or l e 0) (get_or q e 0)
unfolding entries_of_digits
entries-at o c l q e d below = listed_at (length c) _ e d below

pub prime-positive : (o : Order) → 0 < prime_of o
prime-positive Two = lit< tt
prime-positive Three = lit< tt
prime-positive Four = lit< tt
prime-positive Five = lit< tt
prime-positive Seven = lit< tt
prime-positive Eight = lit< tt
prime-positive Nine = lit< tt

pub constant_is_there : (o : Order) (n : ℕ) → cond (ltb 0 (degree_of o)) n 0 ≡ n
constant_is_there Two n = refl
constant_is_there Three n = refl
constant_is_there Four n = refl
constant_is_there Five n = refl
constant_is_there Seven n = refl
constant_is_there Eight n = refl
constant_is_there Nine n = refl

-- where the degree is not 3 there are no coefficients of x^2
pub no_quadratic : (o : Order) (n : ℕ) (q : Plane) → IsPlaneOf (prime_of o) (cond (ltb 2 (degree_of o)) n 0) q →
    degree_of o ≢ 3 → length (digits_of q) ≡ 0
no_quadratic Two n q h not_three = h.long
no_quadratic Three n q h not_three = h.long
no_quadratic Four n q h not_three = h.long
no_quadratic Five n q h not_three = h.long
no_quadratic Seven n q h not_three = h.long
no_quadratic Eight n q h not_three = absurd (not_three refl)
no_quadratic Nine n q h not_three = h.long

-- a digit of a plane that may not be there
coefficient_within : (b : Bool) (p n : ℕ) (digits : List ℕ) (e : ℕ) → length digits ≡ cond b n 0 → 0 < p → AreDigits p digits →
    get_or digits e 0 < cond b p 1
coefficient_within true p n digits e long positive all = digit-below p digits e positive all
coefficient_within false p n digits e long positive all =
    subst (λ x. x < 1) (sym (get_or_past digits e 0 (omega (arith, long)))) (lit< tt)

-- the element at an index
pub element_at : (o : Order) (n : ℕ) (c l q : Plane) (e : ℕ) → ArePlanes o n c l q →
    IsElementOf o (get_or (digits_of c) e 0) (get_or (digits_of l) e 0) (get_or (digits_of q) e 0)
element_at o n c l q e h =
    coefficients_are o _ _ _ (digit-below (prime_of o) (digits_of c) e (prime-positive o) h.constant.digits)
    (coefficient_within (ltb 1 (degree_of o)) (prime_of o) n (digits_of l) e h.linear.long (prime-positive o) h.linear.digits)
    (coefficient_within (ltb 2 (degree_of o)) (prime_of o) n (digits_of q) e h.quadratic.long (prime-positive o) h.quadratic.digits)

-- what the parts of an element have to be
pub linear_within : (o : Order) (n : ℕ) (c l q : Plane) (e : ℕ) → ArePlanes o n c l q → IsCoefficient o 1 (get_or (digits_of l) e 0)
linear_within o n c l q e h =
    coefficient_within (ltb 1 (degree_of o)) (prime_of o) n (digits_of l) e h.linear.long (prime-positive o) h.linear.digits

pub quadratic_within : (o : Order) (n : ℕ) (c l q : Plane) (e : ℕ) → ArePlanes o n c l q → IsCoefficient o 2 (get_or (digits_of q) e 0)
quadratic_within o n c l q e h =
    coefficient_within (ltb 2 (degree_of o)) (prime_of o) n (digits_of q) e h.quadratic.long (prime-positive o) h.quadratic.digits

-- the digits of a plane are below its prime
pub own_digits : {p n : ℕ} {plane : Plane} → IsPlaneOf p n plane → AreDigits (prime_of_plane plane) (digits_of plane)
own_digits {p} {n} {plane} h = subst (λ r. AreDigits r (digits_of plane)) (sym h.prime) h.digits

-- such a row is well formed
pub IsRow-of_planes : (o : Order) (n : ℕ) (c l q : Plane) → ArePlanes o n c l q → IsRow (record { order = o; entries = entries_of o c l q })
IsRow-of_planes o n c l q h = record {
  elements = λ e d inside.
      let here : e < length (digits_of c) = omega (arith, length-entries o (digits_of c) (digits_of l) (digits_of q)) in
      subst (IsElement o) (sym (entries-at o (digits_of c) (digits_of l) (digits_of q) e d here)) (element_at o n c l q e h).element;
}

-- the length that the planes speak of is that of the plane of constants
pub with_length : (o : Order) (n : ℕ) (c l q : Plane) → ArePlanes o n c l q → ArePlanes o (length (digits_of c)) c l q
with_length o n c l q h = subst (λ m. ArePlanes o m c l q) (sym h.constant.long) h

-- ---- zeros

pub zero_planes : (o : Order) (n : ℕ) (c l q : Plane) → IsPlane (prime_of o) (replicate n 0) c →
    IsPlane (prime_of o) (replicate (cond (ltb 1 (degree_of o)) n 0) 0) l →
    IsPlane (prime_of o) (replicate (cond (ltb 2 (degree_of o)) n 0) 0) q → ArePlanes o n c l q
zero_planes o n c l q hc hl hq = record {
  constant = plane_of_zeros (prime_of o) n c (prime-positive o) hc;
  linear = plane_of_zeros (prime_of o) _ l (prime-positive o) hl;
  quadratic = plane_of_zeros (prime_of o) _ q (prime-positive o) hq;
}

pub element_of-zeros : (o : Order) → element_of o 0 0 0 ≡ 0
unfolding number_of
element_of-zeros Two = refl
element_of-zeros Three = refl
element_of-zeros Four = refl
element_of-zeros Five = refl
element_of-zeros Seven = refl
element_of-zeros Eight = refl
element_of-zeros Nine = refl

pub zero_entries : (o : Order) (n k m : ℕ) (c l q : List ℕ) → c ≡ replicate n 0 → l ≡ replicate k 0 → q ≡ replicate m 0 →
    entries_of_digits o c l q ≡ replicate n 0
zero_entries o n k m c l q ec el eq =
    ext_get_or 0 (entries_of_digits o c l q) (replicate n 0) (length-entries o c l q ∙ ap length ec) (λ e inside.
    let here : e < length c = omega (arith, length-entries o c l q) in
    let small : e < n = omega (arith, length-replicate {A = ℕ} n 0, ap length ec) in
    let constant : get_or c e 0 ≡ 0 = ap (λ (x : List ℕ). get_or x e 0) ec ∙ get_or-zeros n e in
    let linear : get_or l e 0 ≡ 0 = ap (λ (x : List ℕ). get_or x e 0) el ∙ get_or-zeros k e in
    let quadratic : get_or q e 0 ≡ 0 = ap (λ (x : List ℕ). get_or x e 0) eq ∙ get_or-zeros m e in
    entries-at o c l q e 0 here ∙ ap (λ x. element_of o x (get_or l e 0) (get_or q e 0)) constant
    ∙ ap (λ x. element_of o 0 x (get_or q e 0)) linear ∙ ap (element_of o 0 0) quadratic ∙ element_of-zeros o
    ∙ sym (get_or-replicate n e 0 0 small))

-- ---- another entry

-- the digit that was set, also where there is none
digit_set : (b : Bool) (p n : ℕ) (digits : List ℕ) (i d : ℕ) → length digits ≡ cond b n 0 → i < n → d < cond b p 1 →
    get_or (set digits i d) i 0 ≡ d
digit_set true p n digits i d long inside below = let here : i < length digits = omega (arith, long) in get_or-set_same digits i d 0 here
digit_set false p n digits i d long inside below =
    let none : d ≡ 0 = omega arith in
    get_or_past (set digits i d) i 0 (omega (arith, long, length-set {A = ℕ})) ∙ sym none

pub set_planes : (o : Order) (n i a : ℕ) (c l q c' l' q' : Plane) (m : List (List ℕ)) → ArePlanes o n c l q → IsElement o a →
    m ≡ matrix_of_multiplication o a →
    IsPlane (prime_of_plane c) (set (digits_of c) i (entry m 0 0)) c' → IsPlane (prime_of_plane l) (set (digits_of l) i (entry m 0 1)) l' →
    IsPlane (prime_of_plane q) (set (digits_of q) i (entry m 0 2)) q' → ArePlanes o n c' l' q'
set_planes o n i a c l q c' l' q' m h ha em hc hl hq = record {
  constant = plane_of_set _ _ i (entry m 0 0) c c' (below 0 (lit< tt)) h.constant hc;
  linear = plane_of_set _ _ i (entry m 0 1) l l' (below 1 (lit< tt)) h.linear hl;
  quadratic = plane_of_set _ _ i (entry m 0 2) q q' (below 2 (lit< tt)) h.quadratic hq;
}
  where
    below : (j : ℕ) → j < 3 → entry m 0 j < prime_of o
    below j hj = subst (λ (x : List (List ℕ)). entry x 0 j < prime_of o) (sym em) (matrix_of_multiplication-below o a 0 j ha (lit< tt) hj)

pub set_entries : (o : Order) (n i a : ℕ) (c l q : Plane) (m : List (List ℕ)) → ArePlanes o n c l q → IsElement o a →
    m ≡ matrix_of_multiplication o a → i < length (digits_of c) →
    entries_of_digits o (set (digits_of c) i (entry m 0 0)) (set (digits_of l) i (entry m 0 1)) (set (digits_of q) i (entry m 0 2))
    ≡ set (entries_of o c l q) i a
set_entries o n i a c l q m h ha em within =
    ext_get_or 0 after (set (entries_of o c l q) i a) (length-entries o _ _ _ ∙ length-set (digits_of c) i _ ∙ sym long) (λ e inside.
    let here : e < length (set (digits_of c) i (entry m 0 0)) = omega (arith, length-entries o (set (digits_of c) i (entry m 0 0)) (set (digits_of l) i (entry m 0 1)) (set (digits_of q) i (entry m 0 2))) in
    entries-at o _ _ _ e 0 here ∙ at e (omega (arith, length-set (digits_of c) i (entry m 0 0))))
  where
    after : List ℕ
    after = entries_of_digits o (set (digits_of c) i (entry m 0 0)) (set (digits_of l) i (entry m 0 1)) (set (digits_of q) i (entry m 0 2))

    long : length (set (entries_of o c l q) i a) ≡ length (digits_of c)
    long = length-set (entries_of o c l q) i a ∙ length-entries o (digits_of c) (digits_of l) (digits_of q)

    is : (j : ℕ) → j < 3 → entry m 0 j ≡ coefficient o a j
    is j hj = ap (λ (x : List (List ℕ)). entry x 0 j) em ∙ matrix_of_multiplication-first o a j ha hj

    small : i < n
    small = omega (arith, h.constant.long)

    constant : get_or (set (digits_of c) i (entry m 0 0)) i 0 ≡ coefficient o a 0
    constant = get_or-set_same (digits_of c) i (entry m 0 0) 0 within ∙ is 0 (lit< tt)

    linear : get_or (set (digits_of l) i (entry m 0 1)) i 0 ≡ coefficient o a 1
    linear =
        digit_set (ltb 1 (degree_of o)) (prime_of o) n (digits_of l) i (entry m 0 1) h.linear.long small
        (subst (IsCoefficient o 1) (sym (is 1 (lit< tt))) (coefficient-below o a 1 ha (lit< tt))) ∙ is 1 (lit< tt)

    quadratic : get_or (set (digits_of q) i (entry m 0 2)) i 0 ≡ coefficient o a 2
    quadratic =
        digit_set (ltb 2 (degree_of o)) (prime_of o) n (digits_of q) i (entry m 0 2) h.quadratic.long small
        (subst (IsCoefficient o 2) (sym (is 2 (lit< tt))) (coefficient-below o a 2 ha (lit< tt))) ∙ is 2 (lit< tt)

    here_is : element_of o (get_or (set (digits_of c) i (entry m 0 0)) i 0) (get_or (set (digits_of l) i (entry m 0 1)) i 0)
        (get_or (set (digits_of q) i (entry m 0 2)) i 0) ≡ a
    here_is =
        ap (λ x. element_of o x (get_or (set (digits_of l) i (entry m 0 1)) i 0) (get_or (set (digits_of q) i (entry m 0 2)) i 0)) constant
        ∙ ap (λ x. element_of o (coefficient o a 0) x (get_or (set (digits_of q) i (entry m 0 2)) i 0)) linear
        ∙ ap (element_of o (coefficient o a 0) (coefficient o a 1)) quadratic ∙ element_of-coefficients o a ha

    at : (e : ℕ) → e < length (digits_of c) →
        element_of o (get_or (set (digits_of c) i (entry m 0 0)) e 0) (get_or (set (digits_of l) i (entry m 0 1)) e 0)
        (get_or (set (digits_of q) i (entry m 0 2)) e 0) ≡ get_or (set (entries_of o c l q) i a) e 0
    at e below = elim (cases_eq e i) [
      | inl same ↦
          let inside : i < length (entries_of o c l q) = omega (arith, length-entries o (digits_of c) (digits_of l) (digits_of q)) in
          subst (λ k. element_of o (get_or (set (digits_of c) i (entry m 0 0)) k 0) (get_or (set (digits_of l) i (entry m 0 1)) k 0)
          (get_or (set (digits_of q) i (entry m 0 2)) k 0) ≡ get_or (set (entries_of o c l q) i a) k 0) (sym same)
          (here_is ∙ sym (get_or-set_same (entries_of o c l q) i a 0 inside))
      | inr other ↦
          ap (λ x. element_of o x (get_or (set (digits_of l) i (entry m 0 1)) e 0) (get_or (set (digits_of q) i (entry m 0 2)) e 0))
          (get_or-set_other (digits_of c) i e (entry m 0 0) 0 other)
          ∙ ap (λ x. element_of o (get_or (digits_of c) e 0) x (get_or (set (digits_of q) i (entry m 0 2)) e 0))
          (get_or-set_other (digits_of l) i e (entry m 0 1) 0 other)
          ∙ ap (element_of o (get_or (digits_of c) e 0) (get_or (digits_of l) e 0)) (get_or-set_other (digits_of q) i e (entry m 0 2) 0 other)
          ∙ sym (entries-at o (digits_of c) (digits_of l) (digits_of q) e 0 below)
          ∙ sym (get_or-set_other (entries_of o c l q) i e a 0 other)
    ]

-- what has to be a digit when an entry is set
pub set_digit : (o : Order) (a j n : ℕ) (m : List (List ℕ)) (plane : Plane) → IsPlaneOf (prime_of o) n plane → IsElement o a → j < 3 →
    m ≡ matrix_of_multiplication o a → entry m 0 j < prime_of_plane plane
set_digit o a j n m plane h ha hj em =
    subst (λ r. entry m 0 j < r) (sym h.prime)
    (subst (λ (x : List (List ℕ)). entry x 0 j < prime_of o) (sym em) (matrix_of_multiplication-below o a 0 j ha (lit< tt) hj))

-- the order that a row is seen with is that of its field
pub element_along : (o : Order) (a : ℕ) (entries : List ℕ) (self : RowValue) → record { order = o; entries = entries } ≡ self →
    IsElement self.order a → IsElement o a
element_along o a entries self e h = subst (λ r. IsElement r a) (sym (ap (λ (r : RowValue). r.order) e)) h

pub row_set : (o : Order) (n i a : ℕ) (c l q c' l' q' : Plane) (m : List (List ℕ)) (self : RowValue) → ArePlanes o n c l q →
    record { order = o; entries = entries_of o c l q } ≡ self → IsElement self.order a → i < length self.entries →
    m ≡ matrix_of_multiplication o a →
    IsPlane (prime_of_plane c) (set (digits_of c) i (entry m 0 0)) c' → IsPlane (prime_of_plane l) (set (digits_of l) i (entry m 0 1)) l' →
    IsPlane (prime_of_plane q) (set (digits_of q) i (entry m 0 2)) q' →
    ◌≡◌ {A = RowValue} (record { order = o; entries = entries_of o c' l' q' }) (record { order = self.order; entries = set self.entries i a })
row_set o n i a c l q c' l' q' m self h self_is ha inside em hc hl hq =
    let element = element_along o a (entries_of o c l q) self self_is ha in
    let within : i < length (digits_of c) =
    omega (arith, ap (λ (r : RowValue). length r.entries) self_is, length-entries o (digits_of c) (digits_of l) (digits_of q)) in
    let entries : entries_of o c' l' q' ≡ set (entries_of o c l q) i a =
    ap (λ (x : List ℕ). entries_of_digits o x (digits_of l') (digits_of q')) hc.digits_are
    ∙ ap (λ (x : List ℕ). entries_of_digits o (set (digits_of c) i (entry m 0 0)) x (digits_of q')) hl.digits_are
    ∙ ap (entries_of_digits o (set (digits_of c) i (entry m 0 0)) (set (digits_of l) i (entry m 0 1))) hq.digits_are
    ∙ set_entries o n i a c l q m h element em within in
    ap (λ (x : List ℕ). record { order = o; entries = x }) entries
    ∙ ap (λ (r : RowValue). record { order = r.order; entries = set r.entries i a }) self_is

-- how many entries a row of these planes has
pub length_of_row : (o : Order) (c l q : Plane) (self : RowValue) → record { order = o; entries = entries_of o c l q } ≡ self →
    length self.entries ≡ length (digits_of c)
length_of_row o c l q self self_is =
    sym (ap (λ (r : RowValue). length r.entries) self_is) ∙ length-entries o (digits_of c) (digits_of l) (digits_of q)

pub zero_plane_along : (p r n m : ℕ) (plane : Plane) → r ≡ p → m ≡ n → IsPlane r (replicate m 0) plane → IsPlane p (replicate n 0) plane
zero_plane_along p r n m plane er em h =
    subst (λ s. IsPlane s (replicate n 0) plane) er (subst (λ k. IsPlane r (replicate k 0) plane) em h)

-- the number of an element from its coefficients
pub element_value : (o : Order) (c l q : ℕ) → element_of o c l q ≡ c + prime_of o * (l + prime_of o * q)
unfolding number_of
element_value Two c l q = omega arith
element_value Three c l q = omega arith
element_value Four c l q = omega arith
element_value Five c l q = omega arith
element_value Seven c l q = omega arith
element_value Eight c l q = omega arith
element_value Nine c l q = omega arith

-- ---- equal rows have equal planes

pub along_order : (o r : Order) (n m : ℕ) (c l q : Plane) → r ≡ o → m ≡ n → ArePlanes r m c l q → ArePlanes o n c l q
along_order o r n m c l q er em h = subst (λ s. ArePlanes s n c l q) er (subst (λ k. ArePlanes r k c l q) em h)

-- a plane that may be without digits has at most as many as the row has entries
pub no_longer : (b : Bool) (n : ℕ) → cond b n 0 ≤ n
no_longer true n = omega arith
no_longer false n = omega arith

-- an index of a digit of such a plane is one of an entry
pub within_all : (b : Bool) (n e : ℕ) → e < cond b n 0 → e < n
within_all true n e h = h
within_all false n e h = absurd (omega arith)

-- one of the planes, by the coefficients that it has
same_digits : (o : Order) (n : ℕ) (b : Bool) (p p' : Plane) → IsPlaneOf (prime_of o) (cond b n 0) p → IsPlaneOf (prime_of o) (cond b n 0) p' →
    ((e : ℕ) → e < n → get_or (digits_of p) e 0 ≡ get_or (digits_of p') e 0) → p ≡ p'
same_digits o n b p p' h h' at =
    same_plane p p' (h.prime ∙ sym h'.prime)
    (ext_get_or 0 (digits_of p) (digits_of p') (h.long ∙ sym h'.long) (λ e inside. at e (within_all b n e (omega (arith, h.long)))))

pub record AreSamePlanes (o r : Order) (c l q c' l' q' : Plane) : Type 0 where
  pub order : o ≡ r
  pub constant : c ≡ c'
  pub linear : l ≡ l'
  pub quadratic : q ≡ q'

same_parts : (o : Order) (n : ℕ) (c l q c' l' q' : Plane) → ArePlanes o n c l q → ArePlanes o n c' l' q' →
    entries_of o c l q ≡ entries_of o c' l' q' → AreSamePlanes o o c l q c' l' q'
same_parts o n c l q c' l' q' h h' same = record {
  order = refl;
  constant = same_digits o n true c c' h.constant h'.constant (λ e inside.
      sym (element_at o n c l q e h).first ∙ ap (λ x. coefficient o x 0) (at e inside) ∙ (element_at o n c' l' q' e h').first);
  linear = same_digits o n (ltb 1 (degree_of o)) l l' h.linear h'.linear (λ e inside.
      sym (element_at o n c l q e h).second ∙ ap (λ x. coefficient o x 1) (at e inside) ∙ (element_at o n c' l' q' e h').second);
  quadratic = same_digits o n (ltb 2 (degree_of o)) q q' h.quadratic h'.quadratic (λ e inside.
      sym (element_at o n c l q e h).third ∙ ap (λ x. coefficient o x 2) (at e inside) ∙ (element_at o n c' l' q' e h').third);
}
  where
    at : (e : ℕ) → e < n →
        element_of o (get_or (digits_of c) e 0) (get_or (digits_of l) e 0) (get_or (digits_of q) e 0)
        ≡ element_of o (get_or (digits_of c') e 0) (get_or (digits_of l') e 0) (get_or (digits_of q') e 0)
    at e inside =
        sym (entries-at o (digits_of c) (digits_of l) (digits_of q) e 0 (omega (arith, h.constant.long)))
        ∙ ap (λ (x : List ℕ). get_or x e 0) same
        ∙ entries-at o (digits_of c') (digits_of l') (digits_of q') e 0 (omega (arith, h'.constant.long))

pub same_row_planes : (o r : Order) (c l q c' l' q' : Plane) (self other : RowValue) → ArePlanes o (length (digits_of c)) c l q →
    ArePlanes r (length (digits_of c')) c' l' q' → record { order = o; entries = entries_of o c l q } ≡ self →
    record { order = r; entries = entries_of r c' l' q' } ≡ other → self ≡ other → AreSamePlanes o r c l q c' l' q'
same_row_planes o r c l q c' l' q' self other h h' self_is other_is same =
    let whole : ◌≡◌ {A = RowValue} (record { order = o; entries = entries_of o c l q }) (record { order = r; entries = entries_of r c' l' q' }) =
    self_is ∙ same ∙ sym other_is in
    let orders : o ≡ r = ap (λ (x : RowValue). x.order) whole in
    let entries : entries_of o c l q ≡ entries_of o c' l' q' =
    ap (λ (x : RowValue). x.entries) whole ∙ ap (λ s. entries_of s c' l' q') (sym orders) in
    let lengths : length (digits_of c') ≡ length (digits_of c) =
    sym (length-entries o (digits_of c') (digits_of l') (digits_of q')) ∙ sym (ap length entries)
    ∙ length-entries o (digits_of c) (digits_of l) (digits_of q) in
    let parts = same_parts o (length (digits_of c)) c l q c' l' q' h
    (along_order o r _ _ c' l' q' (sym orders) lengths h') entries in
    record { order = orders; constant = parts.constant; linear = parts.linear; quadratic = parts.quadratic }

pub same_planes_row : (o r : Order) (c l q c' l' q' : Plane) (self other : RowValue) → record { order = o; entries = entries_of o c l q } ≡ self →
    record { order = r; entries = entries_of r c' l' q' } ≡ other → o ≡ r → c ≡ c' → l ≡ l' → q ≡ q' → self ≡ other
same_planes_row o r c l q c' l' q' self other self_is other_is orders ec el eq =
    sym self_is ∙ ap (λ s. record { order = s; entries = entries_of s c l q }) orders
    ∙ ap (λ x. record { order = r; entries = entries_of r x l q }) ec ∙ ap (λ x. record { order = r; entries = entries_of r c' x q }) el
    ∙ ap (λ x. record { order = r; entries = entries_of r c' l' x }) eq ∙ other_is
