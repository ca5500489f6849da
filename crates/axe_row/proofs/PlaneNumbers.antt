-- The number of a piece of a row, by the numbers of the digits of its planes.
use Rattle.std.proofs.Common.{◌≡◌, ℕ, ◌+◌, ◌*◌, ◌<◌, Bool, true, false, List, length, get_or, drop, cond, ltb, sym, ap, ap₂, ◌∙◌, arith}
use Rattle.std.specs.Simd.Lanes.{chunk}
use Rattle.std.proofs.lemmas.List.{ext_get_or, get_or_past, length-take}
use Rattle.std.proofs.lemmas.Simd.{get_or-chunk}
use Rattle.axe_algebra.specs.Digits.{number_with_digits}
use Rattle.axe_algebra.proofs.ElementNumbers.{entry-below}
use Rattle.axe_field.specs.NumberFields.{number_field}
use Rattle.axe_field.specs.Order.{Order, order_number, prime_of, degree_of}
use Rattle.axe_field.proofs.Laws.{field_one-mul}
use Rattle.axe_layer.specs.Digits.{number_from}
use Rattle.axe_plane.specs.Planes.{digits_of}
use Rattle.axe_plane.specs.declared.Plane.{Plane}
use Rattle.axe_layer.proofs.PieceDigits.{with_values, with_values-same, with_values-none, with_values-sum, count_from, number_from-values}
use Rattle.axe_row.specs.Combinations.{piece_number}
use Rattle.axe_row.specs.Operations.{multiple}
use Rattle.axe_row.specs.Planes.{ArePlanes}
use Rattle.axe_row.specs.Rows.{RowValue, IsRow}
use Rattle.axe_row.proofs.OperationLaws.{length-multiple, get_or-multiple}
use Rattle.axe_row.proofs.RowPlanes.{entries_of, length-entries, entries-at, element_value, IsRow-of_planes}

-- the entries of a piece, each once, are the digits of its number
pub once_each : (row : RowValue) (size at : ℕ) → IsRow row →
    piece_number row 1 size at ≡ number_from (order_number row.order) size at row.entries
unfolding number_field
once_each row size at h = ap (number_with_digits (order_number row.order)) same
  where
    piece : List ℕ
    piece = chunk at size row.entries

    same : multiple (number_field row.order) 1 piece ≡ piece
    same = ext_get_or 0 (multiple (number_field row.order) 1 piece) piece (length-multiple (number_field row.order) 1 piece) (λ j below.
        let inside : j < length piece = omega (arith, length-multiple (number_field row.order) 1 piece) in
        let within : j < size = omega (arith, length-take size (drop at row.entries)) in
        let here : get_or piece j 0 ≡ get_or row.entries (at + j) 0 = get_or-chunk at size row.entries j 0 within in
        get_or-multiple (number_field row.order) 1 piece j inside
        ∙ ap (λ x. (number_field row.order).mul 1 x) here
        ∙ field_one-mul row.order (get_or row.entries (at + j) 0) (entry-below (number_field row.order) row.entries (at + j) h.elements)
        ∙ sym here)

-- the digits of a plane that is as long as another, or has none
digits_of_part : (b : Bool) (q size at n : ℕ) (xs : List ℕ) → length xs ≡ cond b n 0 →
    with_values q (λ j. get_or xs (at + j) 0) (count_from size at n) ≡ number_from q size at xs
digits_of_part true q size at n xs long =
    ap (λ m. with_values q (λ j. get_or xs (at + j) 0) (count_from size at m)) (sym long) ∙ sym (number_from-values q size at xs)
digits_of_part false q size at n xs long =
    with_values-none q _ (count_from size at n) none
    ∙ sym (number_from-values q size at xs ∙ with_values-none q _ (count_from size at (length xs)) none)
  where
    none : (j : ℕ) → get_or xs (at + j) 0 ≡ 0
    none j = get_or_past xs (at + j) 0 (omega (arith, long))

-- the number of a piece is made of those of the planes as an element is of its coefficients
number_of_entries : (o : Order) (q size at : ℕ) (c l k : Plane) → ArePlanes o (length (digits_of c)) c l k →
    number_from q size at (entries_of o c l k)
    ≡ number_from q size at (digits_of c) + prime_of o * (number_from q size at (digits_of l) + prime_of o * number_from q size at (digits_of k))
number_of_entries o q size at c l k h =
    number_from-values q size at (entries_of o c l k)
    ∙ ap (λ m. with_values q (λ j. get_or (entries_of o c l k) (at + j) 0) (count_from size at m)) (length-entries o (digits_of c) (digits_of l) (digits_of k))
    ∙ with_values-same q _ (λ j. first j + p * (second j + p * third j)) n (λ j below.
    entries-at o (digits_of c) (digits_of l) (digits_of k) (at + j) 0 (omega arith) ∙ element_value o (first j) (second j) (third j))
    ∙ with_values-sum q p first (λ j. second j + p * third j) n
    ∙ ap₂ (λ x y. x + p * y) (sym (number_from-values q size at (digits_of c)))
    (with_values-sum q p second third n
    ∙ ap₂ (λ x y. x + p * y) (digits_of_part (ltb 1 (degree_of o)) q size at _ (digits_of l) h.linear.long)
    (digits_of_part (ltb 2 (degree_of o)) q size at _ (digits_of k) h.quadratic.long))
  where
    p : ℕ
    p = prime_of o

    n : ℕ
    n = count_from size at (length (digits_of c))

    first : ℕ → ℕ
    first j = get_or (digits_of c) (at + j) 0

    second : ℕ → ℕ
    second j = get_or (digits_of l) (at + j) 0

    third : ℕ → ℕ
    third j = get_or (digits_of k) (at + j) 0

-- the same of the row that they are seen as
pub number_of_planes : (o : Order) (q size at : ℕ) (c l k : Plane) (self : RowValue) → ArePlanes o (length (digits_of c)) c l k →
    record { order = o; entries = entries_of o c l k } ≡ self → q ≡ order_number o →
    number_from q size at (digits_of c) + prime_of o * (number_from q size at (digits_of l) + prime_of o * number_from q size at (digits_of k))
    ≡ piece_number self 1 size at
number_of_planes o q size at c l k self h self_is base =
    sym (number_of_entries o q size at c l k h)
    ∙ ap (λ b. number_from b size at (entries_of o c l k)) base
    ∙ sym (once_each (record { order = o; entries = entries_of o c l k }) size at (IsRow-of_planes o _ c l k h))
    ∙ ap (λ (r : RowValue). piece_number r 1 size at) self_is

-- over a prime field there is one plane
number_of_none : (b : Bool) (q size at n : ℕ) (xs : List ℕ) → b ≡ false → length xs ≡ cond b n 0 → number_from q size at xs ≡ 0
number_of_none b q size at n xs none long =
    let empty : length xs ≡ 0 = long ∙ ap (λ (a : Bool). cond a n 0) none in
    number_from-values q size at xs
    ∙ with_values-none q _ (count_from size at (length xs)) (λ j. get_or_past xs (at + j) 0 (omega (arith, empty)))

pub number_of_plane : (o : Order) (d q size at : ℕ) (c l k : Plane) (self : RowValue) → ArePlanes o (length (digits_of c)) c l k →
    record { order = o; entries = entries_of o c l k } ≡ self → q ≡ order_number o → d ≡ degree_of o → d ≡ 1 →
    number_from q size at (digits_of c) ≡ piece_number self 1 size at
number_of_plane o d q size at c l k self h self_is base is one =
    let e : degree_of o ≡ 1 = sym is ∙ one in
    let linear = number_of_none _ q size at _ (digits_of l) (ap (ltb 1) e) h.linear.long in
    let quadratic = number_of_none _ q size at _ (digits_of k) (ap (ltb 2) e) h.quadratic.long in
    sum_of_none (prime_of o) (number_from q size at (digits_of c)) _ _ linear quadratic ∙ number_of_planes o q size at c l k self h self_is base
  where
    sum_of_none : (p x y z : ℕ) → y ≡ 0 → z ≡ 0 → x ≡ x + p * (y + p * z)
    sum_of_none p x y z ey ez = sym (ap₂ (λ a b. x + p * (a + p * b)) ey ez ∙ omega arith)

-- over a field of degree 2 there are two
pub number_of_two_planes : (o : Order) (q size at : ℕ) (c l k : Plane) (self : RowValue) → ArePlanes o (length (digits_of c)) c l k →
    record { order = o; entries = entries_of o c l k } ≡ self → q ≡ order_number o → degree_of o ≡ 2 →
    number_from q size at (digits_of c) + prime_of o * number_from q size at (digits_of l) ≡ piece_number self 1 size at
number_of_two_planes o q size at c l k self h self_is base two =
    let quadratic = number_of_none _ q size at _ (digits_of k) (ap (ltb 2) two) h.quadratic.long in
    with_none (prime_of o) (number_from q size at (digits_of c)) (number_from q size at (digits_of l)) _ quadratic
    ∙ number_of_planes o q size at c l k self h self_is base
  where
    with_none : (p x y z : ℕ) → z ≡ 0 → x + p * y ≡ x + p * (y + p * z)
    with_none p x y z none = sym (ap (λ a. x + p * (y + p * a)) none ∙ omega arith)

-- the same, where the numbers and the prime are known by what they equal
pub number_is : (a b e p r : ℕ) (a' b' e' wanted : ℕ) → a ≡ a' → b ≡ b' → e ≡ e' → p ≡ r → a' + r * (b' + r * e') ≡ wanted → a + p * (b + p * e) ≡ wanted
number_is a b e p r a' b' e' wanted ea eb ee ep is =
    ap (λ s. a + s * (b + s * e)) ep ∙ ap (λ x. x + r * (b + r * e)) ea ∙ ap₂ (λ y z. a' + r * (y + r * z)) eb ee ∙ is
