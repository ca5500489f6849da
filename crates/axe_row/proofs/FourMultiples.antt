-- Multiples of four rows over a prime field that are added to a row, and the entries of a row at four indices.
use Rattle.std.proofs.Common.{◌≡◌, ℕ, ◌<◌, List, [], ◌∷◌, length, get_or, sym, ap, ap₂, subst, ◌∙◌, lit<}
use Rattle.std.specs.List.{All}
use Rattle.std.proofs.lemmas.List.Elements.{All-nil, All-cons}
use Rattle.axe_field.specs.Order.{Order, prime_of, degree_of, IsElement}
use Rattle.axe_lane.specs.Bytes.{AreDigits}
use Rattle.axe_layer.specs.Digits.{digits_with_multiple}
use Rattle.axe_layer.proofs.DigitLaws.{AreDigits-sum, length-digits_with_multiple}
use Rattle.axe_plane.specs.Planes.{prime_of_plane, digits_of, IsPlane}
use Rattle.axe_plane.specs.declared.Plane.{Plane}
use Rattle.axe_row.specs.Operations.{row_with_multiple}
use Rattle.axe_row.specs.Rows.{RowValue, four_entries}
use Rattle.axe_row.proofs.PrimeRows.{one_plane, prime_sum, with_constant}
use Rattle.axe_row.proofs.RowPlanes.{prime-positive, element_along}
use Rattle.axe_row.proofs.TableSums.{IsRowOf}

-- ---- multiples of four rows

-- a list of digits plus multiples of four others
abbrev pub digits_with_multiples_of : ℕ → List ℕ → List ℕ → List ℕ → List ℕ → List ℕ → List ℕ → List ℕ
digits_with_multiples_of p x factors a b c d =
    digits_with_multiple p
    (digits_with_multiple p
    (digits_with_multiple p (digits_with_multiple p x (get_or factors 0 0) a) (get_or factors 1 0) b) (get_or factors 2 0) c)
    (get_or factors 3 0) d

-- a row plus multiples of four others
abbrev pub row_with_multiples_of : RowValue → List ℕ → RowValue → RowValue → RowValue → RowValue → RowValue
row_with_multiples_of row factors a b c d =
    row_with_multiple
    (row_with_multiple
    (row_with_multiple (row_with_multiple row (get_or factors 0 0) a) (get_or factors 1 0) b) (get_or factors 2 0) c)
    (get_or factors 3 0) d

-- a row over a prime field, by its digits
record HasDigits (o : Order) (digits : List ℕ) (row : RowValue) : Type 0 where
  pub below : AreDigits (prime_of o) digits
  pub is : record { order = o; entries = digits } ≡ row

digits_of_row : {o : Order} {n : ℕ} {c l q : Plane} {row : RowValue} → degree_of o ≡ 1 → IsRowOf o n c l q row → HasDigits o (digits_of c) row
digits_of_row {o} {n} {c} {l} {q} {row} one h = record {
  below = h.planes.constant.digits;
  is = ap (λ (x : List ℕ). record { order = o; entries = x }) (sym (one_plane o n c l q one h.planes)) ∙ h.is;
}

-- a multiple was added
with_next : {o : Order} {x y : List ℕ} {row other : RowValue} (k : ℕ) → degree_of o ≡ 1 → HasDigits o x row → HasDigits o y other →
    IsElement row.order k → HasDigits o (digits_with_multiple (prime_of o) x k y) (row_with_multiple row k other)
with_next {o} {x} {y} {row} {other} k one h h' element = record {
  below = AreDigits-sum (prime_of o) x k y (prime-positive o);
  is =
      ap (λ (z : List ℕ). record { order = o; entries = z }) (prime_sum o x k y one (element_along o k x row h.is element) h.below h'.below)
      ∙ ap₂ (λ (r s : RowValue). row_with_multiple r k s) h.is h'.is;
}

length-digits_with_multiples_of : (p : ℕ) (x factors a b c d : List ℕ) → length (digits_with_multiples_of p x factors a b c d) ≡ length x
length-digits_with_multiples_of p x factors a b c d =
    length-digits_with_multiple p _ (get_or factors 3 0) d ∙ length-digits_with_multiple p _ (get_or factors 2 0) c
    ∙ length-digits_with_multiple p _ (get_or factors 1 0) b ∙ length-digits_with_multiple p x (get_or factors 0 0) a

-- a plane after multiples of four others were added
abbrev pub IsWithMultiples : Plane → List ℕ → Plane → Plane → Plane → Plane → Plane → Type 0
IsWithMultiples plane factors a b c d after =
    IsPlane (prime_of_plane plane)
    (digits_with_multiples_of (prime_of_plane plane) (digits_of plane) factors (digits_of a) (digits_of b) (digits_of c) (digits_of d)) after

pub with_four_multiples : {o : Order} {n : ℕ} {c l q c0 l0 q0 c1 l1 q1 c2 l2 q2 c3 l3 q3 c' : Plane} {row r0 r1 r2 r3 : RowValue} → (factors : List ℕ) →
    degree_of o ≡ 1 → ((i : ℕ) → i < 4 → IsElement row.order (get_or factors i 0)) →
    IsRowOf o n c l q row → IsRowOf o n c0 l0 q0 r0 → IsRowOf o n c1 l1 q1 r1 → IsRowOf o n c2 l2 q2 r2 → IsRowOf o n c3 l3 q3 r3 →
    IsWithMultiples c factors c0 c1 c2 c3 c' → IsRowOf o n c' l q (row_with_multiples_of row factors r0 r1 r2 r3)
with_four_multiples {o} {n} {c} {l} {q} {c0} {l0} {q0} {c1} {l1} {q1} {c2} {l2} {q2} {c3} {l3} {q3} {c'} {row} {r0} {r1} {r2} {r3} factors one elements h h0 h1 h2 h3 e =
    let digits : List ℕ = digits_with_multiples_of (prime_of o) (digits_of c) factors (digits_of c0) (digits_of c1) (digits_of c2) (digits_of c3) in
    let after : HasDigits o digits (row_with_multiples_of row factors r0 r1 r2 r3) =
    with_next (get_or factors 3 0) one
    (with_next (get_or factors 2 0) one
    (with_next (get_or factors 1 0) one
    (with_next (get_or factors 0 0) one (digits_of_row one h) (digits_of_row one h0) (elements 0 (lit< tt)))
    (digits_of_row one h1) (elements 1 (lit< tt)))
    (digits_of_row one h2) (elements 2 (lit< tt)))
    (digits_of_row one h3) (elements 3 (lit< tt)) in
    let made : IsPlane (prime_of_plane c) digits c' =
    subst (λ p.
    IsPlane (prime_of_plane c)
    (digits_with_multiples_of p (digits_of c) factors (digits_of c0) (digits_of c1) (digits_of c2) (digits_of c3)) c') h.planes.constant.prime e in
    let planes = with_constant o n c l q c' digits h.planes made
    (length-digits_with_multiples_of (prime_of o) (digits_of c) factors (digits_of c0) (digits_of c1) (digits_of c2) (digits_of c3)) after.below in
    record {
      planes = planes;
      is = ap (λ (x : List ℕ). record { order = o; entries = x }) (one_plane o n c' l q one planes ∙ made.digits_are) ∙ after.is;
    }

-- ---- the entries of a row at four indices

-- each has what all entries have
pub all_of_four : (P : ℕ → Type 0) (entries indices : List ℕ) → All P entries → ((i : ℕ) → i < 4 → get_or indices i 0 < length entries) →
    All P (four_entries entries indices)
all_of_four P entries indices all within =
    let at : (i : ℕ) → i < 4 → P (get_or entries (get_or indices i 0) 0) = λ i below. all (get_or indices i 0) 0 (within i below) in
    let entry : ℕ → ℕ = λ i. get_or entries (get_or indices i 0) 0 in
    All-cons P (entry 0) (entry 1 ∷ entry 2 ∷ entry 3 ∷ []) (at 0 (lit< tt))
    (All-cons P (entry 1) (entry 2 ∷ entry 3 ∷ []) (at 1 (lit< tt))
    (All-cons P (entry 2) (entry 3 ∷ []) (at 2 (lit< tt)) (All-cons P (entry 3) [] (at 3 (lit< tt)) (All-nil P))))

-- the digits of a plane at the indices, where they are the entries
pub four_digits : (digits entries indices : List ℕ) (a b c d : ℕ) → digits ≡ entries → a ≡ get_or digits (get_or indices 0 0) 0 →
    b ≡ get_or digits (get_or indices 1 0) 0 → c ≡ get_or digits (get_or indices 2 0) 0 → d ≡ get_or digits (get_or indices 3 0) 0 →
    a ∷ b ∷ c ∷ d ∷ [] ≡ four_entries entries indices
four_digits digits entries indices a b c d e ea eb ec ed =
    (λ i. ea i ∷ eb i ∷ ec i ∷ ed i ∷ []) ∙ ap (λ (x : List ℕ). four_entries x indices) e
