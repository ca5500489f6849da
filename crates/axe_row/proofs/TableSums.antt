-- Rows plus rows of tables, by the entries of the tables of planes.
use Rattle.std.proofs.Common.{◌≡◌, ℕ, ◌+◌, ◌*◌, ◌%◌, ◌^◌, ◌<◌, ◌≤◌, List, [], ◌∷◌, length, get_or, cond, ltb, refl, sym, ap, ap₂, subst, ◌∙◌, arith, lit<}
use Rattle.std.proofs.Math.Nat.{mod-eq_of_lt}
use Rattle.std.proofs.lemmas.Bool.{le-ltb}
use Rattle.std.proofs.lemmas.List.{ext_get_or, get_or_past}
use native.Mathlib.Decide.{dec_lt}
use Rattle.axe_algebra.specs.Lists.{entry}
use Rattle.axe_field.specs.Arithmetic.{field_add, field_mul}
use Rattle.axe_field.specs.CheckedLaws.{field_add-below}
use Rattle.axe_field.specs.NumberFields.{number_field}
use Rattle.axe_field.specs.Order.{Order, order_number, prime_of, degree_of, IsElement}
use Rattle.axe_field.specs.Planes.{coefficient, element_of, matrix_of_multiplication}
use Rattle.axe_field.proofs.CoefficientLaws.{coefficient-add, element_of-coefficients}
use Rattle.axe_field.proofs.Laws.{field_one-mul}
use Rattle.axe_lane.specs.Bytes.{AreDigits}
use Rattle.axe_layer.specs.Digits.{digits_with_multiple, digits_with_four}
use Rattle.axe_plane.specs.Planes.{prime_of_plane, digits_of, IsPlane, IsPlaneOf}
use Rattle.axe_plane.specs.Primes.{byte_prime}
use Rattle.axe_plane.specs.Tables.{entries_of_table, plane_at, IsEntryFor}
use Rattle.axe_plane.specs.declared.Plane.{Plane}
use Rattle.axe_plane.specs.declared.Plane.TheVariants.{Bits as BitsOf, Trits as TritsOf, Bytes as BytesOf}
use Rattle.axe_plane.specs.declared.tables.PlaneTable.{PlaneTable}
use Rattle.axe_layer.proofs.DigitLaws.{AreDigits-sum, length-digits_with_multiple, get_or-digits_with_multiple, length-digits_with_four}
use Rattle.axe_plane.proofs.PlaneLaws.{same_plane}
use Rattle.axe_row.specs.Combinations.{CombosValue, combination_at, row_with_four, IsRowFor}
use Rattle.axe_row.specs.Operations.{sum_with_multiple, row_with_multiple}
use Rattle.axe_row.specs.Planes.{entries_of_digits, ArePlanes}
use Rattle.axe_row.specs.PlaneTables.{rows_of_tables, ArePlaneTables}
use Rattle.axe_row.specs.Rows.{RowValue}
use Rattle.axe_row.proofs.OperationLaws.{length-sum_with_multiple, get_or-row_with_multiple}
use Rattle.axe_row.proofs.RowPlanes.{entries_of, length-entries, entries-at, element_at, prime-positive, along_order, length_of_row, with_length}
use Rattle.axe_row.proofs.PlaneSums.{AreSummands, summands, row_after}
use Rattle.axe_row.proofs.TableRows.{length-rows_of_tables, get_or-rows_of_tables}
use Rattle.axe_row.proofs.TablePlanes.{prime_of-plane_at, digits_of-plane_at, plane_of_entry}

-- ---- an entry of a table of planes

-- it may be added to a plane of its prime and length
entry_for : {p n x : ℕ} {plane : Plane} {table : PlaneTable} → IsPlaneOf p n plane → IsPlaneOf p n (plane_at table x) →
    x < length (entries_of_table table) → IsEntryFor plane table x
entry_for {x = x} {table = table} h entry within = record {
  within = within;
  prime = sym (prime_of-plane_at table x) ∙ entry.prime ∙ sym h.prime;
  fits = entry.long ∙ sym h.long;
}

-- ---- a row of a table

-- a row of n entries, by its planes
pub record IsRowOf (o : Order) (n : ℕ) (c l q : Plane) (row : RowValue) : Type 0 where
  pub planes : ArePlanes o n c l q
  pub is : record { order = o; entries = entries_of o c l q } ≡ row

pub row_of : {o : Order} {n : ℕ} {c l q : Plane} {row : RowValue} → ArePlanes o n c l q →
    record { order = o; entries = entries_of o c l q } ≡ row → IsRowOf o n c l q row
row_of planes is = record { planes = planes; is = is }

pub as_long_as : {o : Order} {n : ℕ} {c l q c' l' q' : Plane} {row other : RowValue} → IsRowOf o n c l q row → IsRowOf o n c' l' q' other →
    length other.entries ≡ length row.entries
as_long_as {o} {n} {c} {l} {q} {c'} {l'} {q'} {row} {other} h h' =
    length_of_row o c' l' q' other h'.is ∙ h'.planes.constant.long ∙ sym (length_of_row o c l q row h.is ∙ h.planes.constant.long)

-- a multiple of a row may be added to another
pub row_summands : {o : Order} {n k : ℕ} {c l q c' l' q' : Plane} {m : List (List ℕ)} {row other : RowValue} →
    IsRowOf o n c l q row → IsRowOf o n c' l' q' other → IsElement row.order k → m ≡ matrix_of_multiplication o k →
    AreSummands o (length (digits_of c)) k c l q c' l' q' (entry m 0 0 ∷ entry m 1 0 ∷ entry m 2 0 ∷ [])
    (entry m 0 1 ∷ entry m 1 1 ∷ entry m 2 1 ∷ []) (entry m 0 2 ∷ entry m 1 2 ∷ entry m 2 2 ∷ [])
row_summands {o} {n} {k} {c} {l} {q} {c'} {l'} {q'} {m} {row} {other} h h' element em =
    summands o o k c l q c' l' q' m row other (with_length o n c l q h.planes) (with_length o n c' l' q' h'.planes) h.is h'.is
    (sym (ap (λ (r : RowValue). r.order) h'.is) ∙ ap (λ (r : RowValue). r.order) h.is) (as_long_as h h') element em

pub summed_row : {o : Order} {n : ℕ} {c l q c' l' q' : Plane} {after : List ℕ} {row other : RowValue} → (k : ℕ) →
    IsRowOf o n c l q row → IsRowOf o n c' l' q' other → after ≡ sum_with_multiple (number_field o) (entries_of o c l q) k (entries_of o c' l' q') →
    record { order = o; entries = after } ≡ row_with_multiple row k other
summed_row {o} {n} {c} {l} {q} {c'} {l'} {q'} {after} {row} {other} k h h' e = row_after o o k c l q c' l' q' after row other h.is h'.is refl e

-- a row of n entries, by the entries at x of three tables of planes
pub record AreEntries (o : Order) (n x : ℕ) (c l q : PlaneTable) (row : RowValue) : Type 0 where
  pub constant : x < length (entries_of_table c)
  pub linear : x < length (entries_of_table l)
  pub quadratic : x < length (entries_of_table q)
  pub is_row : IsRowOf o n (plane_at c x) (plane_at l x) (plane_at q x) row

-- row x of a table that may be added to a row
pub entries_for : {o r : Order} {n size len x : ℕ} {c l q : Plane} {c' l' q' : PlaneTable} {self : RowValue} {table : CombosValue} →
    IsRowOf o n c l q self → ArePlaneTables r size len c' l' q' →
    record { order = r; size = size; len = len; rows = rows_of_tables r (entries_of_table c') (entries_of_table l') (entries_of_table q') } ≡ table →
    IsRowFor self table x → AreEntries o n x c' l' q' (combination_at table x)
entries_for {o} {r} {n} {size} {len} {x} {c} {l} {q} {c'} {l'} {q'} {self} {table} row tables table_is h = record {
  constant = inside;
  linear = omega (arith, below, tables.linear.counted);
  quadratic = omega (arith, below, tables.quadratic.counted);
  is_row = record {
    planes = along_order o r _ _ _ _ _ same fits (record {
      constant = plane_of_entry _ _ _ x c' tables.constant below;
      linear = plane_of_entry _ _ _ x l' tables.linear below;
      quadratic = plane_of_entry _ _ _ x q' tables.quadratic below;
    });
    is =
        ap (λ s. record { order = s; entries = entries_of s (plane_at c' x) (plane_at l' x) (plane_at q' x) }) (sym same)
        ∙ ap (λ (y : List ℕ). record { order = r; entries = y }) entries ∙ ap (λ (t : CombosValue). combination_at t x) table_is;
  };
}
  where
    same : r ≡ o
    same = ap (λ (t : CombosValue). t.order) table_is ∙ h.field ∙ sym (ap (λ (s : RowValue). s.order) row.is)

    fits : len ≡ n
    fits = ap (λ (t : CombosValue). t.len) table_is ∙ h.fits ∙ length_of_row o c l q self row.is ∙ row.planes.constant.long

    inside : x < length (entries_of_table c')
    inside =
        omega (
          arith,
          h.within,
          ap (λ (t : CombosValue). length t.rows) table_is,
          length-rows_of_tables r (entries_of_table c') (entries_of_table l') (entries_of_table q'),
        )

    below : x < order_number r ^ size
    below = subst (λ m. x < m) tables.constant.counted inside

    entries : entries_of r (plane_at c' x) (plane_at l' x) (plane_at q' x)
        ≡ get_or (rows_of_tables r (entries_of_table c') (entries_of_table l') (entries_of_table q')) x []
    entries =
        ap (λ (y : List ℕ). entries_of_digits r y (digits_of (plane_at l' x)) (digits_of (plane_at q' x))) (digits_of-plane_at c' x)
        ∙ ap₂ (entries_of_digits r (get_or (entries_of_table c') x [])) (digits_of-plane_at l' x) (digits_of-plane_at q' x)
        ∙ sym (get_or-rows_of_tables r (entries_of_table c') (entries_of_table l') (entries_of_table q') x inside)

-- what the planes may be given
pub constant_entry : {o : Order} {n x : ℕ} {c l q : Plane} {c' l' q' : PlaneTable} {row : RowValue} →
    ArePlanes o n c l q → AreEntries o n x c' l' q' row → IsEntryFor c c' x
constant_entry planes h = entry_for planes.constant h.is_row.planes.constant h.constant

pub linear_entry : {o : Order} {n x : ℕ} {c l q : Plane} {c' l' q' : PlaneTable} {row : RowValue} →
    ArePlanes o n c l q → AreEntries o n x c' l' q' row → IsEntryFor l l' x
linear_entry planes h = entry_for planes.linear h.is_row.planes.linear h.linear

pub quadratic_entry : {o : Order} {n x : ℕ} {c l q : Plane} {c' l' q' : PlaneTable} {row : RowValue} →
    ArePlanes o n c l q → AreEntries o n x c' l' q' row → IsEntryFor q q' x
quadratic_entry planes h = entry_for planes.quadratic h.is_row.planes.quadratic h.quadratic

-- ---- a row plus another

-- a plane plus another
abbrev pub plane_plus : Plane → Plane → Plane
plane_plus (BitsOf digits) other = BitsOf (digits_with_multiple 2 digits 1 (digits_of other))
plane_plus (TritsOf digits) other = TritsOf (digits_with_multiple 3 digits 1 (digits_of other))
plane_plus (BytesOf plane) other =
    BytesOf (record { prime = plane.prime; digits = digits_with_multiple (byte_prime plane.prime) plane.digits 1 (digits_of other) })

pub prime-plane_plus : (a b : Plane) → prime_of_plane (plane_plus a b) ≡ prime_of_plane a
prime-plane_plus (BitsOf digits) b = refl
prime-plane_plus (TritsOf digits) b = refl
prime-plane_plus (BytesOf plane) b = refl

pub digits-plane_plus : (a b : Plane) → digits_of (plane_plus a b) ≡ digits_with_multiple (prime_of_plane a) (digits_of a) 1 (digits_of b)
digits-plane_plus (BitsOf digits) b = refl
digits-plane_plus (TritsOf digits) b = refl
digits-plane_plus (BytesOf plane) b = refl

plus_digits : (p n : ℕ) (a b : Plane) → IsPlaneOf p n a → digits_of (plane_plus a b) ≡ digits_with_multiple p (digits_of a) 1 (digits_of b)
plus_digits p n a b h = digits-plane_plus a b ∙ ap (λ r. digits_with_multiple r (digits_of a) 1 (digits_of b)) h.prime

pub plus_plane : (p n : ℕ) (a b : Plane) → 0 < p → IsPlaneOf p n a → IsPlaneOf p n (plane_plus a b)
plus_plane p n a b positive h = record {
  prime = prime-plane_plus a b ∙ h.prime;
  long = ap length (plus_digits p n a b h) ∙ length-digits_with_multiple p (digits_of a) 1 (digits_of b) ∙ h.long;
  digits = subst (AreDigits p) (sym (plus_digits p n a b h)) (AreDigits-sum p (digits_of a) 1 (digits_of b) positive);
}

plus_planes : (o : Order) (n : ℕ) (c l q c' l' q' : Plane) → ArePlanes o n c l q →
    ArePlanes o n (plane_plus c c') (plane_plus l l') (plane_plus q q')
plus_planes o n c l q c' l' q' h = record {
  constant = plus_plane (prime_of o) _ c c' (prime-positive o) h.constant;
  linear = plus_plane (prime_of o) _ l l' (prime-positive o) h.linear;
  quadratic = plus_plane (prime_of o) _ q q' (prime-positive o) h.quadratic;
}

-- a digit of it, also where there is none
plus_at : (p n : ℕ) (a b : Plane) (e : ℕ) → 0 < p → IsPlaneOf p n a → IsPlaneOf p n b →
    get_or (digits_of (plane_plus a b)) e 0 ≡ (get_or (digits_of a) e 0 + get_or (digits_of b) e 0) % p
plus_at p n a b e positive ha hb = elim (dec_lt e (length (digits_of a))) [
  | yes inside ↦
      let one : 1 * get_or (digits_of b) e 0 ≡ get_or (digits_of b) e 0 = omega arith in
      ap (λ (x : List ℕ). get_or x e 0) (plus_digits p n a b ha)
      ∙ get_or-digits_with_multiple p (digits_of a) 1 (digits_of b) e inside
      ∙ ap (λ y. (get_or (digits_of a) e 0 + y) % p) one
  | no outside ↦
      let sum = plus_plane p n a b positive ha in
      get_or_past (digits_of (plane_plus a b)) e 0 (omega (arith, outside, sum.long, ha.long))
      ∙ sym (ap₂ (λ x y. (x + y) % p) (get_or_past (digits_of a) e 0 (omega arith))
      (get_or_past (digits_of b) e 0 (omega (arith, outside, ha.long, hb.long))) ∙ mod-eq_of_lt positive)
]

pub plus_entries : (o : Order) (n : ℕ) (c l q c' l' q' : Plane) → ArePlanes o n c l q → ArePlanes o n c' l' q' →
    entries_of o (plane_plus c c') (plane_plus l l') (plane_plus q q')
    ≡ sum_with_multiple (number_field o) (entries_of o c l q) 1 (entries_of o c' l' q')
plus_entries o n c l q c' l' q' h h' =
    ext_get_or 0 (entries_of o (plane_plus c c') (plane_plus l l') (plane_plus q q')) _
    (length-entries o _ _ _ ∙ long ∙ sym (length-sum_with_multiple (number_field o) (entries_of o c l q) 1 (entries_of o c' l' q')
    ∙ length-entries o _ _ _ ∙ h.constant.long))
    (λ e inside. at e (omega (arith, length-entries o (digits_of (plane_plus c c')) (digits_of (plane_plus l l')) (digits_of (plane_plus q q')), long)))
  where
    long : length (digits_of (plane_plus c c')) ≡ n
    long = (plus_plane (prime_of o) n c c' (prime-positive o) h.constant).long

    at : (e : ℕ) → e < n → get_or (entries_of o (plane_plus c c') (plane_plus l l') (plane_plus q q')) e 0
        ≡ get_or (sum_with_multiple (number_field o) (entries_of o c l q) 1 (entries_of o c' l' q')) e 0
    at e small =
        let ha = element_at o n c l q e h in
        let hs = element_at o n c' l' q' e h' in
        let a : ℕ = element_of o (get_or (digits_of c) e 0) (get_or (digits_of l) e 0) (get_or (digits_of q) e 0) in
        let s : ℕ = element_of o (get_or (digits_of c') e 0) (get_or (digits_of l') e 0) (get_or (digits_of q') e 0) in
        let sum : ℕ = field_add o a s in
        let is_sum : IsElement o sum = field_add-below o a s ha.element hs.element in
        let here : e < length (digits_of c) = omega (arith, h.constant.long) in
        let there : e < length (digits_of c') = omega (arith, h'.constant.long) in
        let after : e < length (digits_of (plane_plus c c')) = omega (arith, long) in
        let within : e < length (entries_of o c l q) = omega (arith, length-entries o (digits_of c) (digits_of l) (digits_of q)) in
        let constant : get_or (digits_of (plane_plus c c')) e 0 ≡ coefficient o sum 0 =
        plus_at (prime_of o) n c c' e (prime-positive o) h.constant h'.constant
        ∙ sym (coefficient-add o a s 0 ha.element hs.element (lit< tt) ∙ ap₂ (λ x y. (x + y) % prime_of o) ha.first hs.first) in
        let linear : get_or (digits_of (plane_plus l l')) e 0 ≡ coefficient o sum 1 =
        plus_at (prime_of o) _ l l' e (prime-positive o) h.linear h'.linear
        ∙ sym (coefficient-add o a s 1 ha.element hs.element (lit< tt) ∙ ap₂ (λ x y. (x + y) % prime_of o) ha.second hs.second) in
        let quadratic : get_or (digits_of (plane_plus q q')) e 0 ≡ coefficient o sum 2 =
        plus_at (prime_of o) _ q q' e (prime-positive o) h.quadratic h'.quadratic
        ∙ sym (coefficient-add o a s 2 ha.element hs.element (lit< tt) ∙ ap₂ (λ x y. (x + y) % prime_of o) ha.third hs.third) in
        entries-at o (digits_of (plane_plus c c')) (digits_of (plane_plus l l')) (digits_of (plane_plus q q')) e 0 after
        ∙ ap (λ x. element_of o x (get_or (digits_of (plane_plus l l')) e 0) (get_or (digits_of (plane_plus q q')) e 0)) constant
        ∙ ap₂ (element_of o (coefficient o sum 0)) linear quadratic ∙ element_of-coefficients o sum is_sum
        ∙ sym (get_or-row_with_multiple o (entries_of o c l q) 1 (entries_of o c' l' q') e within
        ∙ ap₂ (λ x y. field_add o x (field_mul o 1 y)) (entries-at o (digits_of c) (digits_of l) (digits_of q) e 0 here)
        (entries-at o (digits_of c') (digits_of l') (digits_of q') e 0 there)
        ∙ ap (field_add o a) (field_one-mul o s hs.element))

pub plus_row : {o : Order} {n : ℕ} {c l q c' l' q' : Plane} {row other : RowValue} → IsRowOf o n c l q row → IsRowOf o n c' l' q' other →
    IsRowOf o n (plane_plus c c') (plane_plus l l') (plane_plus q q') (row_with_multiple row 1 other)
plus_row {o} {n} {c} {l} {q} {c'} {l'} {q'} {row} {other} h h' = record {
  planes = plus_planes o n c l q c' l' q' h.planes;
  is = summed_row 1 h h' (plus_entries o n c l q c' l' q' h.planes h'.planes);
}

-- ---- a row plus four others

-- a plane after four others were added
abbrev pub IsPlusFour : Plane → Plane → Plane → Plane → Plane → Plane → Type 0
IsPlusFour plane a b c d after =
    IsPlane (prime_of_plane plane)
    (digits_with_four (prime_of_plane plane) (digits_of plane) (digits_of a) (digits_of b) (digits_of c) (digits_of d)) after

is_plus_four : (plane a b c d after : Plane) → IsPlusFour plane a b c d after → plane_plus (plane_plus (plane_plus (plane_plus plane a) b) c) d ≡ after
is_plus_four (BitsOf digits) a b c d after h = same_plane _ after (sym h.prime) (sym h.digits_are)
is_plus_four (TritsOf digits) a b c d after h = same_plane _ after (sym h.prime) (sym h.digits_are)
is_plus_four (BytesOf plane) a b c d after h = same_plane _ after (sym h.prime) (sym h.digits_are)

-- a plane of no digits stays as it is
no_digits_plus_four : (plane a b c d : Plane) → length (digits_of plane) ≡ 0 → IsPlusFour plane a b c d plane
no_digits_plus_four plane a b c d none = record {
  prime = refl;
  digits_are =
      ext_get_or 0 (digits_of plane) _ (sym (length-digits_with_four (prime_of_plane plane) (digits_of plane) (digits_of a) (digits_of b) (digits_of c) (digits_of d)))
      (λ e inside. absurd (omega (arith, none)));
}

pub plus_four : {o : Order} {n : ℕ} {c l q c0 l0 q0 c1 l1 q1 c2 l2 q2 c3 l3 q3 c' l' q' : Plane} {row r0 r1 r2 r3 : RowValue} →
    IsRowOf o n c l q row → IsRowOf o n c0 l0 q0 r0 → IsRowOf o n c1 l1 q1 r1 → IsRowOf o n c2 l2 q2 r2 → IsRowOf o n c3 l3 q3 r3 →
    IsPlusFour c c0 c1 c2 c3 c' → IsPlusFour l l0 l1 l2 l3 l' → IsPlusFour q q0 q1 q2 q3 q' →
    IsRowOf o n c' l' q' (row_with_four row r0 r1 r2 r3)
plus_four {o} {n} {c} {l} {q} {c0} {l0} {q0} {c1} {l1} {q1} {c2} {l2} {q2} {c3} {l3} {q3} {c'} {l'} {q'} {row} {r0} {r1} {r2} {r3} h h0 h1 h2 h3 ec el eq =
    let constant = is_plus_four c c0 c1 c2 c3 c' ec in
    let linear = is_plus_four l l0 l1 l2 l3 l' el in
    let quadratic = is_plus_four q q0 q1 q2 q3 q' eq in
    coe 0 1 (i. IsRowOf o n (constant i) (linear i) (quadratic i) (row_with_four row r0 r1 r2 r3))
    (plus_row (plus_row (plus_row (plus_row h h0) h1) h2) h3)

-- where the degree is 1 the planes of x and x^2 have no digits
absent : (d j n : ℕ) (plane : Plane) (p : ℕ) → d ≤ j → IsPlaneOf p (cond (ltb j d) n 0) plane → length (digits_of plane) ≡ 0
absent d j n plane p none h = h.long ∙ ap (λ b. cond b n 0) (le-ltb j d none)

pub plus_four_constant : {o : Order} {d n : ℕ} {c l q c0 l0 q0 c1 l1 q1 c2 l2 q2 c3 l3 q3 c' : Plane} {row r0 r1 r2 r3 : RowValue} →
    d ≡ degree_of o → d ≤ 1 →
    IsRowOf o n c l q row → IsRowOf o n c0 l0 q0 r0 → IsRowOf o n c1 l1 q1 r1 → IsRowOf o n c2 l2 q2 r2 → IsRowOf o n c3 l3 q3 r3 →
    IsPlusFour c c0 c1 c2 c3 c' → IsRowOf o n c' l q (row_with_four row r0 r1 r2 r3)
plus_four_constant {o} {d} {n} {c} {l} {q} {c0} {l0} {q0} {c1} {l1} {q1} {c2} {l2} {q2} {c3} {l3} {q3} {c'} {row} {r0} {r1} {r2} {r3} ed one h h0 h1 h2 h3 ec =
    plus_four h h0 h1 h2 h3 ec
    (no_digits_plus_four l l0 l1 l2 l3 (absent (degree_of o) 1 n l (prime_of o) (omega (arith, ed)) h.planes.linear))
    (no_digits_plus_four q q0 q1 q2 q3 (absent (degree_of o) 2 n q (prime_of o) (omega (arith, ed)) h.planes.quadratic))
