-- Rows that are made of entries of another row, plane by plane.
use Rattle.std.proofs.Common.{◌≡◌, ◌≢◌, ℕ, ◌+◌, ◌<◌, ◌≤◌, Bool, true, false, List, length, get_or, map, take, cond, ltb, refl, sym, ap, ap₂, subst, ◌∙◌, arith}
use Rattle.std.specs.List.{All}
use Rattle.std.proofs.lemmas.List.{ext_get_or, get_or_past, get_or-map, get_or-take, length-map, length-take}
use Rattle.std.proofs.Math.Seq.{take-length}
use Rattle.std.proofs.lemmas.List.Elements.{All-from_get_or, All-take}
use Rattle.axe_algebra.specs.Lists.{listed}
use Rattle.axe_algebra.proofs.ListEntries.{listed_length, listed_at}
use Rattle.axe_field.specs.Order.{Order, prime_of, degree_of}
use Rattle.axe_field.specs.Planes.{element_of}
use Rattle.axe_plane.specs.Planes.{prime_of_plane, digits_of, IsPlane, IsPlaneOf}
use Rattle.axe_plane.specs.declared.Plane.{Plane}
use Rattle.axe_layer.proofs.DigitLaws.{digit-below}
use Rattle.axe_row.specs.Planes.{ArePlanes}
use Rattle.axe_row.specs.Rows.{RowValue, part_of}
use Rattle.axe_row.proofs.KeptPlanes.{linear_is_there}
use Rattle.axe_row.proofs.RowPlanes.{entries_of, length-entries, entries-at, prime-positive, length_of_row, within_all}

-- a plane of m digits, or of none where it is not there: digit e is digit `at e` of another plane
pub record IsTaken (b : Bool) (m : ℕ) (at : ℕ → ℕ) (plane after : Plane) : Type 0 where
  pub prime : prime_of_plane after ≡ prime_of_plane plane
  pub long : length (digits_of after) ≡ cond b m 0
  pub digits : (e : ℕ) → e < m → get_or (digits_of after) e 0 ≡ get_or (digits_of plane) (at e) 0

taken_plane : (b : Bool) (p n m : ℕ) (at : ℕ → ℕ) (plane after : Plane) → 0 < p → IsPlaneOf p (cond b n 0) plane → IsTaken b m at plane after →
    IsPlaneOf p (cond b m 0) after
taken_plane b p n m at plane after positive h taken = record {
  prime = taken.prime ∙ h.prime;
  long = taken.long;
  digits = All-from_get_or (λ digit. digit < p) (digits_of after) 0 (λ e inside.
      subst (λ d. d < p) (sym (taken.digits e (within_all b m e (omega (arith, taken.long)))))
      (digit-below p (digits_of plane) (at e) positive h.digits));
}

-- the planes of a row that is taken from another one
pub record AreTaken (o : Order) (m : ℕ) (at : ℕ → ℕ) (c l q c' l' q' : Plane) : Type 0 where
  pub constant : IsTaken true m at c c'
  pub linear : IsTaken (ltb 1 (degree_of o)) m at l l'
  pub quadratic : IsTaken (ltb 2 (degree_of o)) m at q q'

pub taken_planes : (o : Order) (n m : ℕ) (at : ℕ → ℕ) (c l q c' l' q' : Plane) → ArePlanes o n c l q → AreTaken o m at c l q c' l' q' →
    ArePlanes o m c' l' q'
taken_planes o n m at c l q c' l' q' h taken = record {
  constant = taken_plane true (prime_of o) n m at c c' (prime-positive o) h.constant taken.constant;
  linear = taken_plane (ltb 1 (degree_of o)) (prime_of o) n m at l l' (prime-positive o) h.linear taken.linear;
  quadratic = taken_plane (ltb 2 (degree_of o)) (prime_of o) n m at q q' (prime-positive o) h.quadratic taken.quadratic;
}

-- one plane that is taken from another
taken_alone : (p n m : ℕ) (at : ℕ → ℕ) (plane after : Plane) → 0 < p → IsPlaneOf p n plane → IsTaken true m at plane after →
    IsPlaneOf p (length (digits_of after)) after
taken_alone p n m at plane after positive h taken =
    let whole = taken_plane true p n m at plane after positive h taken in
    record { prime = whole.prime; long = refl; digits = whole.digits }

taken_entries : (o : Order) (m : ℕ) (at : ℕ → ℕ) (c l q c' l' q' : Plane) (entries : List ℕ) → AreTaken o m at c l q c' l' q' →
    ((e : ℕ) → e < m → at e < length (digits_of c)) → length entries ≡ m →
    ((e : ℕ) → e < m → get_or entries e 0 ≡ get_or (entries_of o c l q) (at e) 0) → entries_of o c' l' q' ≡ entries
taken_entries o m at c l q c' l' q' entries taken within long is =
    let here = length-entries o (digits_of c') (digits_of l') (digits_of q') in
    ext_get_or 0 (entries_of o c' l' q') entries (here ∙ taken.constant.long ∙ sym long) (λ e inside.
    let small : e < m = omega (arith, here, taken.constant.long) in
    entries-at o (digits_of c') (digits_of l') (digits_of q') e 0 (omega (arith, here))
    ∙ ap (λ x. element_of o x (get_or (digits_of l') e 0) (get_or (digits_of q') e 0)) (taken.constant.digits e small)
    ∙ ap₂ (element_of o (get_or (digits_of c) (at e) 0)) (taken.linear.digits e small) (taken.quadratic.digits e small)
    ∙ sym (entries-at o (digits_of c) (digits_of l) (digits_of q) (at e) 0 (within e small)) ∙ sym (is e small))

-- the row of these planes
pub taken_row : (o : Order) (m : ℕ) (at : ℕ → ℕ) (c l q c' l' q' : Plane) (self : RowValue) (entries : List ℕ) → AreTaken o m at c l q c' l' q' →
    record { order = o; entries = entries_of o c l q } ≡ self → ((e : ℕ) → e < m → at e < length self.entries) → length entries ≡ m →
    ((e : ℕ) → e < m → get_or entries e 0 ≡ get_or self.entries (at e) 0) →
    ◌≡◌ {A = RowValue} (record { order = o; entries = entries_of o c' l' q' }) (record { order = self.order; entries = entries })
taken_row o m at c l q c' l' q' self entries taken self_is within long is =
    let there = λ (e : ℕ) (small : e < m). is e small ∙ ap (λ (r : RowValue). get_or r.entries (at e) 0) (sym self_is) in
    ap (λ (x : List ℕ). record { order = o; entries = x })
    (taken_entries o m at c l q c' l' q' entries taken (λ e small. omega (arith, within e small, length_of_row o c l q self self_is)) long there)
    ∙ ap (λ (r : RowValue). record { order = r.order; entries = entries }) self_is

-- ---- at chosen columns

pub entries_within : (o : Order) (c l q : Plane) (self : RowValue) (columns : List ℕ) → record { order = o; entries = entries_of o c l q } ≡ self →
    All (λ column. column < length self.entries) columns → All (λ column. column < length (digits_of c)) columns
entries_within o c l q self columns self_is all = λ e d inside. omega (arith, all e d inside, length_of_row o c l q self self_is)

-- the columns that one of the planes is asked for are within it
pub columns_within : (b : Bool) (n m : ℕ) (digits columns : List ℕ) → length digits ≡ cond b n 0 → m ≡ cond b (length columns) 0 →
    All (λ column. column < n) columns → All (λ column. column < length digits) (take m columns)
columns_within true n m digits columns long is all =
    All-take (λ column. column < length digits) m columns (λ e d inside. omega (arith, long, all e d inside))
columns_within false n m digits columns long is all = λ e d inside. absurd (omega (arith, is, length-take m columns))

pub selected_plane : (b : Bool) (p n m : ℕ) (columns : List ℕ) (plane after : Plane) → IsPlaneOf p (cond b n 0) plane → m ≡ cond b (length columns) 0 →
    IsPlane (prime_of_plane plane) (map (λ column. get_or (digits_of plane) column 0) (take m columns)) after →
    IsTaken b (length columns) (λ e. get_or columns e 0) plane after
selected_plane true p n m columns plane after h is made =
    let f : ℕ → ℕ = λ column. get_or (digits_of plane) column 0 in
    let long : length (take m columns) ≡ length columns = omega (arith, is, length-take m columns) in
    record {
      prime = made.prime;
      long = ap length made.digits_are ∙ length-map (take m columns) f ∙ long;
      digits = λ e small.
          ap (λ (x : List ℕ). get_or x e 0) made.digits_are ∙ get_or-map f (take m columns) e 0 0 (omega (arith, long))
          ∙ ap f (get_or-take m columns e 0 (omega (arith, is)));
    }
selected_plane false p n m columns plane after h is made =
    let f : ℕ → ℕ = λ column. get_or (digits_of plane) column 0 in
    let none : length (digits_of after) ≡ 0 =
    omega (arith, ap length made.digits_are, length-map (take m columns) f, is, length-take m columns) in
    record {
      prime = made.prime;
      long = none;
      digits = λ e small.
          get_or_past (digits_of after) e 0 (omega (arith, none)) ∙ sym (get_or_past (digits_of plane) (get_or columns e 0) 0 (omega (arith, h.long)));
    }

pub selected_whole : (p n : ℕ) (columns : List ℕ) (plane after : Plane) → IsPlaneOf p n plane →
    IsPlane (prime_of_plane plane) (map (λ column. get_or (digits_of plane) column 0) columns) after →
    IsTaken true (length columns) (λ e. get_or columns e 0) plane after
selected_whole p n columns plane after h made =
    selected_plane true p n (length columns) columns plane after h refl
    (subst (λ (x : List ℕ). IsPlane (prime_of_plane plane) (map (λ column. get_or (digits_of plane) column 0) x) after) (sym (take-length columns)) made)

-- the coefficients of x, where they are there
pub columns_in_linear : (o : Order) (n : ℕ) (plane : Plane) (columns : List ℕ) → IsPlaneOf (prime_of o) (cond (ltb 1 (degree_of o)) n 0) plane →
    degree_of o ≢ 1 → All (λ column. column < n) columns → All (λ column. column < length (digits_of plane)) columns
columns_in_linear o n plane columns h degree all =
    λ e d inside. omega (arith, all e d inside, h.long ∙ linear_is_there o n degree)

pub selected_all : (o : Order) (p n : ℕ) (columns : List ℕ) (plane after : Plane) → IsPlaneOf p (cond (ltb 1 (degree_of o)) n 0) plane →
    degree_of o ≢ 1 → IsPlane (prime_of_plane plane) (map (λ column. get_or (digits_of plane) column 0) columns) after →
    IsTaken (ltb 1 (degree_of o)) (length columns) (λ e. get_or columns e 0) plane after
selected_all o p n columns plane after h degree made =
    selected_plane (ltb 1 (degree_of o)) p n (length columns) columns plane after h (sym (linear_is_there o (length columns) degree))
    (subst (λ (x : List ℕ). IsPlane (prime_of_plane plane) (map (λ column. get_or (digits_of plane) column 0) x) after) (sym (take-length columns)) made)

pub selected_row : (o : Order) (c l q c' l' q' : Plane) (self : RowValue) (columns : List ℕ) →
    AreTaken o (length columns) (λ e. get_or columns e 0) c l q c' l' q' → record { order = o; entries = entries_of o c l q } ≡ self →
    All (λ column. column < length self.entries) columns →
    ◌≡◌ {A = RowValue} (record { order = o; entries = entries_of o c' l' q' })
    (record { order = self.order; entries = map (λ column. get_or self.entries column 0) columns })
selected_row o c l q c' l' q' self columns taken self_is all =
    let f : ℕ → ℕ = λ column. get_or self.entries column 0 in
    taken_row o (length columns) (λ e. get_or columns e 0) c l q c' l' q' self (map f columns) taken self_is
    (λ e small. all e 0 small) (length-map columns f) (λ e small. get_or-map f columns e 0 0 small)

-- over a prime field
pub selected_alone : (o : Order) (n : ℕ) (columns : List ℕ) (plane after : Plane) → IsPlaneOf (prime_of o) n plane →
    IsPlane (prime_of_plane plane) (map (λ column. get_or (digits_of plane) column 0) columns) after →
    IsPlaneOf (prime_of o) (length (digits_of after)) after
selected_alone o n columns plane after h made =
    taken_alone (prime_of o) n (length columns) (λ e. get_or columns e 0) plane after (prime-positive o) h
    (selected_whole (prime_of o) n columns plane after h made)

-- ---- from an index on

pub part_within : (b : Bool) (n start len at count : ℕ) (digits : List ℕ) → length digits ≡ cond b n 0 → start + len ≤ n → at ≡ cond b start 0 →
    count ≡ cond b len 0 → at + count ≤ length digits
part_within true n start len at count digits long room at_is count_is = omega (arith, long, room, at_is, count_is)
part_within false n start len at count digits long room at_is count_is = omega (arith, at_is, count_is)

pub part_plane : (b : Bool) (p n start len at count : ℕ) (plane after : Plane) → IsPlaneOf p (cond b n 0) plane → at ≡ cond b start 0 →
    count ≡ cond b len 0 → IsPlane (prime_of_plane plane) (listed count (λ j. get_or (digits_of plane) (at + j) 0)) after →
    IsTaken b len (λ e. start + e) plane after
part_plane true p n start len at count plane after h at_is count_is made =
    let f : ℕ → ℕ = λ j. get_or (digits_of plane) (at + j) 0 in
    record {
      prime = made.prime;
      long = ap length made.digits_are ∙ listed_length count f ∙ count_is;
      digits = λ e small.
          ap (λ (x : List ℕ). get_or x e 0) made.digits_are ∙ listed_at count f e 0 (omega (arith, count_is))
          ∙ ap (λ k. get_or (digits_of plane) (k + e) 0) at_is;
    }
part_plane false p n start len at count plane after h at_is count_is made =
    let f : ℕ → ℕ = λ j. get_or (digits_of plane) (at + j) 0 in
    let none : length (digits_of after) ≡ 0 = omega (arith, ap length made.digits_are, listed_length count f, count_is) in
    record {
      prime = made.prime;
      long = none;
      digits = λ e small.
          get_or_past (digits_of after) e 0 (omega (arith, none)) ∙ sym (get_or_past (digits_of plane) (start + e) 0 (omega (arith, h.long)));
    }

pub part_row : (o : Order) (start len : ℕ) (c l q c' l' q' : Plane) (self : RowValue) → AreTaken o len (λ e. start + e) c l q c' l' q' →
    record { order = o; entries = entries_of o c l q } ≡ self → start + len ≤ length self.entries →
    ◌≡◌ {A = RowValue} (record { order = o; entries = entries_of o c' l' q' }) (part_of self start len)
part_row o start len c l q c' l' q' self taken self_is room =
    let f : ℕ → ℕ = λ j. get_or self.entries (start + j) 0 in
    taken_row o len (λ e. start + e) c l q c' l' q' self (listed len f) taken self_is
    (λ e small. omega (arith, room)) (listed_length len f) (λ e small. listed_at len f e 0 small)

-- over a prime field
pub part_alone : (o : Order) (n start len : ℕ) (plane after : Plane) → IsPlaneOf (prime_of o) n plane →
    IsPlane (prime_of_plane plane) (listed len (λ j. get_or (digits_of plane) (start + j) 0)) after →
    IsPlaneOf (prime_of o) (length (digits_of after)) after
part_alone o n start len plane after h made =
    taken_alone (prime_of o) n len (λ e. start + e) plane after (prime-positive o) h
    (part_plane true (prime_of o) n start len start len plane after h refl refl made)
