-- Tables of planes, what they are after an entry was written, and the rows that they stand for.
use Rattle.std.proofs.Common.{◌≡◌, ℕ, ◌+◌, ◌*◌, ◌%◌, ◌^◌, ◌<◌, ◌≤◌, List, [], ◌∷◌, length, get_or, set, replicate, cond, ltb, sym, refl, ap, subst, ◌∙◌, arith, inl, inr, lit<, lit≤, get_or-set_other, get_or-set_same}
use Rattle.std.specs.List.{All}
use Rattle.std.proofs.Math.Nat.{le_trans, mod-eq_of_lt, pow-le-pow_right}
use Rattle.std.proofs.lemmas.Bool.{cases_eq}
use Rattle.std.proofs.lemmas.List.{ext_get_or, get_or_default, get_or_past, get_or-replicate, length-replicate, length-set}
use Rattle.std.proofs.lemmas.List.Elements.{All-replicate, All-set}
use Rattle.axe_algebra.specs.Lists.{entry}
use Rattle.axe_algebra.proofs.Digits.{pow-positive}
use Rattle.axe_field.specs.NumberFields.{number_field}
use Rattle.axe_field.specs.Order.{Order, Two, Three, Four, Five, Seven, Eight, Nine, order_number, prime_of, degree_of, IsElement}
use Rattle.axe_field.specs.Planes.{matrix_of_multiplication}
use Rattle.axe_lane.specs.Bytes.{AreDigits}
use Rattle.axe_layer.specs.Digits.{digits_with_multiple}
use Rattle.axe_plane.specs.Planes.{prime_of_plane, digits_of, IsPlaneOf}
use Rattle.axe_plane.specs.Tables.{prime_of_table, entries_of_table, plane_at, IsTable}
use Rattle.axe_plane.specs.declared.Plane.{Plane}
use Rattle.axe_plane.specs.declared.tables.PlaneTable.{PlaneTable}
use Rattle.axe_plane.specs.declared.tables.PlaneTable.TheVariants.{Bits, Trits, Bytes}
use Rattle.axe_plane.proofs.TableLaws.{written_at}
use Rattle.axe_layer.proofs.DigitLaws.{AreDigits-zeros, AreDigits-sum, digit-below, length-digits_with_multiple, get_or-digits_with_multiple}
use Rattle.axe_row.specs.Combinations.{CombosValue, IsTableOfRows, most_combined}
use Rattle.axe_row.specs.Operations.{sum_with_multiple}
use Rattle.axe_bits.specs.Combinations.{digits_with_multiples}
use Rattle.axe_row.specs.Planes.{ArePlanes, entries_of_digits}
use Rattle.axe_row.specs.PlaneTables.{ArePlaneTables, IsPlaneTable, rows_of_tables}
use Rattle.axe_row.specs.Rows.{RowValue}
use Rattle.axe_row.proofs.PlaneSums.{AreSummands, IsSummed, summands, summed_planes, summed_entries}
use Rattle.axe_row.proofs.RowPlanes.{entries_of, length-entries, zero_entries, IsRow-of_planes, prime-positive}
use Rattle.axe_row.proofs.TableRows.{length-rows_of_tables, get_or-rows_of_tables}

-- ---- an entry as a plane

pub prime_of-plane_at : (table : PlaneTable) (x : ℕ) → prime_of_plane (plane_at table x) ≡ prime_of_table table
prime_of-plane_at (Bits entries) x = refl
prime_of-plane_at (Trits entries) x = refl
prime_of-plane_at (Bytes table) x = refl

pub digits_of-plane_at : (table : PlaneTable) (x : ℕ) → digits_of (plane_at table x) ≡ get_or (entries_of_table table) x []
digits_of-plane_at (Bits entries) x = refl
digits_of-plane_at (Trits entries) x = refl
digits_of-plane_at (Bytes table) x = refl

-- ---- an entry that was written

-- the sum of another entry and a plane, by that entry as a plane
pub sum_with_entry : (to from f : ℕ) (b : List ℕ) (before after : PlaneTable) →
    IsTable (prime_of_table before) (set (entries_of_table before) to
    (digits_with_multiple (prime_of_table before) (get_or (entries_of_table before) from []) f b)) after →
    IsTable (prime_of_table before) (set (entries_of_table before) to
    (digits_with_multiple (prime_of_table before) (digits_of (plane_at before from)) f b)) after
sum_with_entry to from f b before after h = record {
  prime = h.prime;
  entries_are =
      h.entries_are ∙ ap (λ (d : List ℕ). set (entries_of_table before) to (digits_with_multiple (prime_of_table before) d f b))
      (sym (digits_of-plane_at before from));
}

-- ---- a table of planes of one length

pub entry_within : (p count n x : ℕ) (table : PlaneTable) → IsPlaneTable p count n table → x < count → x < length (entries_of_table table)
entry_within p count n x table h within = subst (λ m. x < m) (sym h.counted) within

-- an entry of it is such a plane
pub plane_of_entry : (p count n x : ℕ) (table : PlaneTable) → IsPlaneTable p count n table → x < count → IsPlaneOf p n (plane_at table x)
plane_of_entry p count n x table h within =
    let inside : x < length (entries_of_table table) = entry_within p count n x table h within in
    record {
      prime = prime_of-plane_at table x ∙ h.prime;
      long = ap length (digits_of-plane_at table x) ∙ h.long x [] inside;
      digits = subst (AreDigits p) (sym (digits_of-plane_at table x)) (h.digits x [] inside);
    }

-- and so it is after an entry other than the first became such a plane
pub table_after : (p count n to : ℕ) (digits : List ℕ) (table after : PlaneTable) → IsPlaneTable p count n table → 0 < to → to < count →
    IsTable (prime_of_table table) (set (entries_of_table table) to digits) after → IsPlaneOf p n (plane_at after to) →
    IsPlaneTable p count n after
table_after p count n to digits table after h later within e plane =
    let inside : to < length (entries_of_table table) = entry_within p count n to table h within in
    let is : digits_of (plane_at after to) ≡ digits =
    digits_of-plane_at after to ∙ written_at (prime_of_table table) to (entries_of_table table) digits after inside e in
    record {
      prime = e.prime ∙ h.prime;
      counted = ap length e.entries_are ∙ length-set (entries_of_table table) to digits ∙ h.counted;
      long =
          subst (All (λ (entry : List ℕ). length entry ≡ n)) (sym e.entries_are)
          (All-set (λ (entry : List ℕ). length entry ≡ n) (entries_of_table table) to digits (sym (ap length is) ∙ plane.long) h.long);
      digits =
          subst (All (AreDigits p)) (sym e.entries_are)
          (All-set (AreDigits p) (entries_of_table table) to digits (subst (AreDigits p) is plane.digits) h.digits);
      zero_first =
          ap (λ (s : List (List ℕ)). get_or s 0 []) e.entries_are
          ∙ get_or-set_other (entries_of_table table) to 0 digits [] (λ none. omega (arith, none)) ∙ h.zero_first;
    }

-- a table of planes whose entry `to` became its entry `from` plus multiples of three planes
abbrev pub IsPut : PlaneTable → ℕ → ℕ → List ℕ → Plane → Plane → Plane → PlaneTable → Type 0
IsPut table to from f c l q after =
    IsTable (prime_of_table table)
    (set (entries_of_table table) to
    (digits_with_multiples (prime_of_table table) (digits_of (plane_at table from)) f (digits_of c) (digits_of l) (digits_of q))) after

-- ---- over a prime field the tables of x and x^2 have no digits

pub same_empty : (xs ys : List ℕ) → length xs ≡ 0 → length ys ≡ 0 → xs ≡ ys
same_empty xs ys none none' = ext_get_or 0 xs ys (none ∙ sym none') (λ e inside. absurd (omega (arith, none)))

pub empty_put : (p count n to from : ℕ) (table : PlaneTable) (f : List ℕ) (c l q : Plane) → IsPlaneTable p count n table → n ≡ 0 → from < to →
    to < count → IsPut table to from f c l q table
unfolding digits_with_multiples
empty_put p count n to from table f c l q h none earlier within =
    let inside : to < length (entries_of_table table) = entry_within p count n to table h within in
    let before : length (digits_of (plane_at table from)) ≡ 0 =
    (plane_of_entry p count n from table h (omega (arith, earlier, within))).long ∙ none in
    let there : length (get_or (entries_of_table table) to []) ≡ 0 = h.long to [] inside ∙ none in
    let after : List ℕ = digits_with_multiples (prime_of_table table) (digits_of (plane_at table from)) f (digits_of c) (digits_of l) (digits_of q) in
    let long : length after ≡ 0 =
    length-digits_with_multiple _ _ _ (digits_of q) ∙ length-digits_with_multiple _ _ _ (digits_of l)
    ∙ length-digits_with_multiple _ (digits_of (plane_at table from)) _ (digits_of c) ∙ before in
    record {
      prime = refl;
      entries_are =
          ext_get_or [] (entries_of_table table) (set (entries_of_table table) to after) (sym (length-set (entries_of_table table) to after)) (λ x below.
          elim (cases_eq x to) [
            | inl same ↦
                subst (λ y. get_or (entries_of_table table) y [] ≡ get_or (set (entries_of_table table) to after) y []) (sym same)
                (same_empty _ after there long ∙ sym (get_or-set_same (entries_of_table table) to after [] inside))
            | inr other ↦ sym (get_or-set_other (entries_of_table table) to x after [] other)
          ]);
    }

-- nothing is added by planes of no digits
sum_with_none : (p : ℕ) (a : List ℕ) (f : ℕ) (b : List ℕ) → 0 < p → AreDigits p a → length b ≡ 0 → digits_with_multiple p a f b ≡ a
sum_with_none p a f b positive all none =
    ext_get_or 0 (digits_with_multiple p a f b) a (length-digits_with_multiple p a f b) (λ e inside.
    let here : e < length a = omega (arith, length-digits_with_multiple p a f b) in
    let zero : get_or b e 0 ≡ 0 = get_or_past b e 0 (omega (arith, none)) in
    let kept : get_or a e 0 + f * 0 ≡ get_or a e 0 = omega arith in
    get_or-digits_with_multiple p a f b e here ∙ ap (λ x. (get_or a e 0 + f * x) % p) zero ∙ ap (λ x. x % p) kept
    ∙ mod-eq_of_lt (digit-below p a e positive all))

sums_of_one : (p : ℕ) (a : List ℕ) (k : ℕ) (factors u v w : List ℕ) → 0 < p → get_or factors 0 0 ≡ k → length v ≡ 0 → length w ≡ 0 →
    digits_with_multiple p a k u ≡ digits_with_multiples p a factors u v w
unfolding digits_with_multiples
sums_of_one p a k factors u v w positive first none none' =
    let f0 = get_or factors 0 0 in
    let f1 = get_or factors 1 0 in
    let f2 = get_or factors 2 0 in
    let one : List ℕ = digits_with_multiple p a f0 u in
    let digits : AreDigits p one = AreDigits-sum p a f0 u positive in
    ap (λ x. digits_with_multiple p a x u) (sym first)
    ∙ sym (ap (λ (x : List ℕ). digits_with_multiple p x f2 w) (sum_with_none p one f1 v positive digits none)
    ∙ sum_with_none p one f2 w positive digits none')

-- what is put there by the one plane
pub put_alone : (p to from k : ℕ) (table : PlaneTable) (factors : List ℕ) (c l q : Plane) (after : PlaneTable) → p ≡ prime_of_table table → 0 < p →
    get_or factors 0 0 ≡ k → length (digits_of l) ≡ 0 → length (digits_of q) ≡ 0 →
    IsTable (prime_of_table table)
    (set (entries_of_table table) to (digits_with_multiple (prime_of_table table) (digits_of (plane_at table from)) k (digits_of c))) after →
    IsPut table to from factors c l q after
put_alone p to from k table factors c l q after is positive first none none' h =
    subst (λ (d : List ℕ). IsTable (prime_of_table table) (set (entries_of_table table) to d) after)
    (sums_of_one (prime_of_table table) _ k factors (digits_of c) (digits_of l) (digits_of q) (subst (λ r. 0 < r) is positive) first none none') h

-- that entry is the sum
pub summed_entry : (p count n to from : ℕ) (table : PlaneTable) (f : List ℕ) (c l q : Plane) (after : PlaneTable) →
    IsPlaneTable p count n table → to < count → IsPut table to from f c l q after →
    IsSummed (plane_at table from) f c l q (plane_at after to)
summed_entry p count n to from table f c l q after h within e =
    let inside : to < length (entries_of_table table) = entry_within p count n to table h within in
    let prime : prime_of_table table ≡ prime_of_plane (plane_at table from) = sym (prime_of-plane_at table from) in
    record {
      prime = prime_of-plane_at after to ∙ e.prime ∙ prime;
      digits_are =
          digits_of-plane_at after to ∙ written_at _ to (entries_of_table table) _ after inside e
          ∙ ap (λ r. digits_with_multiples r (digits_of (plane_at table from)) f (digits_of c) (digits_of l) (digits_of q)) prime;
    }

-- ---- the tables of the planes of a table of rows

-- the rows of a table of these tables of planes
abbrev pub rows_of : Order → PlaneTable → PlaneTable → PlaneTable → List (List ℕ)
rows_of o c l q = rows_of_tables o (entries_of_table c) (entries_of_table l) (entries_of_table q)

pub length-rows : (o : Order) (size n : ℕ) (c l q : PlaneTable) → ArePlaneTables o size n c l q → length (rows_of o c l q) ≡ order_number o ^ size
length-rows o size n c l q h =
    length-rows_of_tables o (entries_of_table c) (entries_of_table l) (entries_of_table q) ∙ h.constant.counted

-- the planes of a row
pub planes_at : (o : Order) (size n x : ℕ) (c l q : PlaneTable) → ArePlaneTables o size n c l q → x < order_number o ^ size →
    ArePlanes o n (plane_at c x) (plane_at l x) (plane_at q x)
planes_at o size n x c l q h within = record {
  constant = plane_of_entry (prime_of o) _ n x c h.constant within;
  linear = plane_of_entry (prime_of o) _ _ x l h.linear within;
  quadratic = plane_of_entry (prime_of o) _ _ x q h.quadratic within;
}

-- a row by its planes
pub row_at : (o : Order) (size n x : ℕ) (c l q : PlaneTable) → ArePlaneTables o size n c l q → x < order_number o ^ size →
    get_or (rows_of o c l q) x [] ≡ entries_of o (plane_at c x) (plane_at l x) (plane_at q x)
row_at o size n x c l q h within =
    let inside : x < length (entries_of_table c) = entry_within _ _ _ x c h.constant within in
    get_or-rows_of_tables o (entries_of_table c) (entries_of_table l) (entries_of_table q) x inside
    ∙ sym (ap (λ (d : List ℕ). entries_of_digits o d (digits_of (plane_at l x)) (digits_of (plane_at q x))) (digits_of-plane_at c x)
    ∙ ap (λ (d : List ℕ). entries_of_digits o (get_or (entries_of_table c) x []) d (digits_of (plane_at q x))) (digits_of-plane_at l x)
    ∙ ap (λ (d : List ℕ). entries_of_digits o (get_or (entries_of_table c) x []) (get_or (entries_of_table l) x []) d) (digits_of-plane_at q x))

-- what holds of the entries of each such row holds of each row
all_rows : (o : Order) (size n : ℕ) (c l q : PlaneTable) (P : List ℕ → Type 0) → ArePlaneTables o size n c l q →
    ((x : ℕ) → x < order_number o ^ size → P (entries_of o (plane_at c x) (plane_at l x) (plane_at q x))) → All P (rows_of o c l q)
all_rows o size n c l q P h each = λ x d inside.
    let within : x < order_number o ^ size = subst (λ m. x < m) (length-rows o size n c l q h) inside in
    subst P (sym (get_or_default (rows_of o c l q) x d [] inside ∙ row_at o size n x c l q h within)) (each x within)

order_number-positive : (o : Order) → 0 < order_number o
order_number-positive Two = lit< tt
order_number-positive Three = lit< tt
order_number-positive Four = lit< tt
order_number-positive Five = lit< tt
order_number-positive Seven = lit< tt
order_number-positive Eight = lit< tt
order_number-positive Nine = lit< tt

-- there are at most 256 rows
pub few_rows : (o : Order) (size : ℕ) → size ≤ most_combined o → order_number o ^ size ≤ 256
few_rows o size h = le_trans (pow-le-pow_right (order_number-positive o) h) (most o)
  where
    most : (o : Order) → order_number o ^ most_combined o ≤ 256
    most Two = lit≤ tt
    most Three = lit≤ tt
    most Four = lit≤ tt
    most Five = lit≤ tt
    most Seven = lit≤ tt
    most Eight = lit≤ tt
    most Nine = lit≤ tt

pub count_fits : (o : Order) (q size : ℕ) → q ≡ order_number o → size ≤ most_combined o → q ^ size < 2 ^ 64
count_fits o q size e h = let few : q ^ size ≤ 256 = subst (λ r. r ^ size ≤ 256) (sym e) (few_rows o size h) in omega (arith, few)

-- such a table of rows is well formed
pub IsTableOfRows-of_planes : (o : Order) (size n : ℕ) (c l q : PlaneTable) → ArePlaneTables o size n c l q →
    IsTableOfRows (record { order = o; size = size; len = n; rows = rows_of o c l q })
IsTableOfRows-of_planes o size n c l q h =
    let first : 0 < length (entries_of_table c) =
    entry_within _ _ _ 0 c h.constant (pow-positive (order_number o) size (order_number-positive o)) in
    record {
      size_fits = h.size_fits;
      counted = length-rows o size n c l q h;
      row_lengths = all_rows o size n c l q (λ (row : List ℕ). length row ≡ n) h (λ x within.
          length-entries o (digits_of (plane_at c x)) (digits_of (plane_at l x)) (digits_of (plane_at q x))
          ∙ (planes_at o size n x c l q h within).constant.long);
      elements = all_rows o size n c l q (All (IsElement o)) h (λ x within.
          (IsRow-of_planes o n (plane_at c x) (plane_at l x) (plane_at q x) (planes_at o size n x c l q h within)).elements);
      zero_first =
          get_or-rows_of_tables o (entries_of_table c) (entries_of_table l) (entries_of_table q) 0 first
          ∙ zero_entries o n _ _ _ _ _ h.constant.zero_first h.linear.zero_first h.quadratic.zero_first;
    }

-- ---- zeros

zero_plane_table : (p count n : ℕ) (table : PlaneTable) → 0 < p → 0 < count → IsTable p (replicate count (replicate n 0)) table →
    IsPlaneTable p count n table
zero_plane_table p count n table positive some h = record {
  prime = h.prime;
  counted = ap length h.entries_are ∙ length-replicate count (replicate n 0);
  long =
      subst (All (λ (entry : List ℕ). length entry ≡ n)) (sym h.entries_are)
      (All-replicate (λ (entry : List ℕ). length entry ≡ n) count (replicate n 0) (length-replicate n 0));
  digits =
      subst (All (AreDigits p)) (sym h.entries_are)
      (All-replicate (AreDigits p) count (replicate n 0) (AreDigits-zeros p n positive));
  zero_first = ap (λ (s : List (List ℕ)). get_or s 0 []) h.entries_are ∙ get_or-replicate count 0 (replicate n 0) [] some;
}

zero_table_along : (p r count m n k : ℕ) (table : PlaneTable) → r ≡ p → m ≡ count → k ≡ n →
    IsTable r (replicate m (replicate k 0)) table → IsTable p (replicate count (replicate n 0)) table
zero_table_along p r count m n k table ep ec en h = record {
  prime = h.prime ∙ ep;
  entries_are =
      h.entries_are ∙ ap (λ i. replicate i (replicate {A = ℕ} k 0)) ec ∙ ap (λ i. replicate count (replicate {A = ℕ} i 0)) en;
}

-- tables of zeros
pub record AreZeroTables (o : Order) (size n : ℕ) (c l q : PlaneTable) : Type 0 where
  pub size_fits : size ≤ most_combined o
  pub constant : IsTable (prime_of o) (replicate (order_number o ^ size) (replicate n 0)) c
  pub linear : IsTable (prime_of o) (replicate (order_number o ^ size) (replicate (cond (ltb 1 (degree_of o)) n 0) 0)) l
  pub quadratic : IsTable (prime_of o) (replicate (order_number o ^ size) (replicate (cond (ltb 2 (degree_of o)) n 0) 0)) q

pub AreZeroTables-made : (o : Order) (p size count n i j : ℕ) (c l q : PlaneTable) → size ≤ most_combined o → p ≡ prime_of o →
    count ≡ order_number o ^ size → i ≡ cond (ltb 1 (degree_of o)) n 0 → j ≡ cond (ltb 2 (degree_of o)) n 0 →
    IsTable p (replicate count (replicate n 0)) c → IsTable p (replicate count (replicate i 0)) l →
    IsTable p (replicate count (replicate j 0)) q → AreZeroTables o size n c l q
AreZeroTables-made o p size count n i j c l q fits ep ec ei ej hc hl hq = record {
  size_fits = fits;
  constant = zero_table_along _ _ _ _ _ _ c ep ec refl hc;
  linear = zero_table_along _ _ _ _ _ _ l ep ec ei hl;
  quadratic = zero_table_along _ _ _ _ _ _ q ep ec ej hq;
}

pub zero_tables : (o : Order) (size n : ℕ) (c l q : PlaneTable) → AreZeroTables o size n c l q → ArePlaneTables o size n c l q
zero_tables o size n c l q h =
    let some = pow-positive (order_number o) size (order_number-positive o) in
    record {
      size_fits = h.size_fits;
      constant = zero_plane_table (prime_of o) _ n c (prime-positive o) some h.constant;
      linear = zero_plane_table (prime_of o) _ _ l (prime-positive o) some h.linear;
      quadratic = zero_plane_table (prime_of o) _ _ q (prime-positive o) some h.quadratic;
    }

-- an entry of zeros
zero_entry : (p count n x : ℕ) (table : PlaneTable) → IsTable p (replicate count (replicate n 0)) table → x < count →
    get_or (entries_of_table table) x [] ≡ replicate n 0
zero_entry p count n x table h within =
    ap (λ (s : List (List ℕ)). get_or s x []) h.entries_are ∙ get_or-replicate count x (replicate n 0) [] within

-- its rows are zeros
pub zero_rows : (o : Order) (size n : ℕ) (c l q : PlaneTable) → AreZeroTables o size n c l q →
    rows_of o c l q ≡ replicate (order_number o ^ size) (replicate n 0)
zero_rows o size n c l q h =
    let tables = zero_tables o size n c l q h in
    let count = order_number o ^ size in
    let counted = length-rows o size n c l q tables in
    ext_get_or [] (rows_of o c l q) (replicate count (replicate n 0)) (counted ∙ sym (length-replicate count (replicate n 0))) (λ x inside.
    let within : x < count = subst (λ m. x < m) counted inside in
    get_or-rows_of_tables o (entries_of_table c) (entries_of_table l) (entries_of_table q) x (entry_within _ _ _ x c tables.constant within)
    ∙ zero_entries o n _ _ _ _ _ (zero_entry _ _ _ x c h.constant within) (zero_entry _ _ _ x l h.linear within) (zero_entry _ _ _ x q h.quadratic within)
    ∙ sym (get_or-replicate count x (replicate n 0) [] within))

-- ---- a row that becomes an earlier one plus a multiple of another

-- the tables of planes, the planes of the other row, and the columns of the scalar's matrix
pub record AreTableSummands (o : Order) (size n k to from : ℕ) (c l q : PlaneTable) (c' l' q' : Plane) (f0 f1 f2 : List ℕ) : Type 0 where
  pub tables : ArePlaneTables o size n c l q
  pub summands : AreSummands o n k (plane_at c from) (plane_at l from) (plane_at q from) c' l' q' f0 f1 f2
  pub earlier : from < to
  pub within : to < order_number o ^ size

-- the planes of the row that is written
pub put_planes : (o : Order) (size n k to from : ℕ) (c l q : PlaneTable) (c' l' q' : Plane) (f0 f1 f2 : List ℕ) (c2 l2 q2 : PlaneTable) →
    AreTableSummands o size n k to from c l q c' l' q' f0 f1 f2 →
    IsPut c to from f0 c' l' q' c2 → IsPut l to from f1 c' l' q' l2 → IsPut q to from f2 c' l' q' q2 →
    ArePlanes o n (plane_at c2 to) (plane_at l2 to) (plane_at q2 to)
put_planes o size n k to from c l q c' l' q' f0 f1 f2 c2 l2 q2 h hc hl hq =
    summed_planes o n k _ _ _ c' l' q' _ _ _ f0 f1 f2 h.summands (summed_entry _ _ _ to from c f0 c' l' q' c2 h.tables.constant h.within hc)
    (summed_entry _ _ _ to from l f1 c' l' q' l2 h.tables.linear h.within hl)
    (summed_entry _ _ _ to from q f2 c' l' q' q2 h.tables.quadratic h.within hq)

-- its entries
pub put_entries : (o : Order) (size n k to from : ℕ) (c l q : PlaneTable) (c' l' q' : Plane) (f0 f1 f2 : List ℕ) (c2 l2 q2 : PlaneTable) →
    AreTableSummands o size n k to from c l q c' l' q' f0 f1 f2 →
    IsPut c to from f0 c' l' q' c2 → IsPut l to from f1 c' l' q' l2 → IsPut q to from f2 c' l' q' q2 →
    entries_of o (plane_at c2 to) (plane_at l2 to) (plane_at q2 to)
    ≡ sum_with_multiple (number_field o) (get_or (rows_of o c l q) from []) k (entries_of o c' l' q')
put_entries o size n k to from c l q c' l' q' f0 f1 f2 c2 l2 q2 h hc hl hq =
    let before : from < order_number o ^ size = omega (arith, h.earlier, h.within) in
    summed_entries o n k _ _ _ c' l' q' _ _ _ f0 f1 f2 h.summands (summed_entry _ _ _ to from c f0 c' l' q' c2 h.tables.constant h.within hc)
    (summed_entry _ _ _ to from l f1 c' l' q' l2 h.tables.linear h.within hl)
    (summed_entry _ _ _ to from q f2 c' l' q' q2 h.tables.quadratic h.within hq)
    ∙ ap (λ (row : List ℕ). sum_with_multiple (number_field o) row k (entries_of o c' l' q')) (sym (row_at o size n from c l q h.tables before))

-- the tables of planes after
pub put_tables : (o : Order) (size n k to from : ℕ) (c l q : PlaneTable) (c' l' q' : Plane) (f0 f1 f2 : List ℕ) (c2 l2 q2 : PlaneTable) →
    AreTableSummands o size n k to from c l q c' l' q' f0 f1 f2 →
    IsPut c to from f0 c' l' q' c2 → IsPut l to from f1 c' l' q' l2 → IsPut q to from f2 c' l' q' q2 →
    ArePlaneTables o size n c2 l2 q2
put_tables o size n k to from c l q c' l' q' f0 f1 f2 c2 l2 q2 h hc hl hq =
    let later : 0 < to = omega (arith, h.earlier) in
    let planes = put_planes o size n k to from c l q c' l' q' f0 f1 f2 c2 l2 q2 h hc hl hq in
    record {
      size_fits = h.tables.size_fits;
      constant = table_after _ _ n to _ c c2 h.tables.constant later h.within hc planes.constant;
      linear = table_after _ _ _ to _ l l2 h.tables.linear later h.within hl planes.linear;
      quadratic = table_after _ _ _ to _ q q2 h.tables.quadratic later h.within hq planes.quadratic;
    }

-- an entry other than the one that was written
kept_entry : (table after : PlaneTable) (to x : ℕ) (digits : List ℕ) → IsTable (prime_of_table table) (set (entries_of_table table) to digits) after →
    (x ≡ to → ⊥) → get_or (entries_of_table after) x [] ≡ get_or (entries_of_table table) x []
kept_entry table after to x digits e other =
    ap (λ (s : List (List ℕ)). get_or s x []) e.entries_are ∙ get_or-set_other (entries_of_table table) to x digits [] other

-- the rows after
pub put_rows : (o : Order) (size n k to from : ℕ) (c l q : PlaneTable) (c' l' q' : Plane) (f0 f1 f2 : List ℕ) (c2 l2 q2 : PlaneTable) →
    AreTableSummands o size n k to from c l q c' l' q' f0 f1 f2 →
    IsPut c to from f0 c' l' q' c2 → IsPut l to from f1 c' l' q' l2 → IsPut q to from f2 c' l' q' q2 →
    rows_of o c2 l2 q2
    ≡ set (rows_of o c l q) to (sum_with_multiple (number_field o) (get_or (rows_of o c l q) from []) k (entries_of o c' l' q'))
put_rows o size n k to from c l q c' l' q' f0 f1 f2 c2 l2 q2 h hc hl hq =
    ext_get_or [] (rows_of o c2 l2 q2) (set (rows_of o c l q) to sum)
    (length-rows o size n c2 l2 q2 after ∙ sym (length-set (rows_of o c l q) to sum ∙ length-rows o size n c l q h.tables))
    (λ x inside. at x (subst (λ m. x < m) (length-rows o size n c2 l2 q2 after) inside))
  where
    sum : List ℕ
    sum = sum_with_multiple (number_field o) (get_or (rows_of o c l q) from []) k (entries_of o c' l' q')

    after : ArePlaneTables o size n c2 l2 q2
    after = put_tables o size n k to from c l q c' l' q' f0 f1 f2 c2 l2 q2 h hc hl hq

    at : (x : ℕ) → x < order_number o ^ size → get_or (rows_of o c2 l2 q2) x [] ≡ get_or (set (rows_of o c l q) to sum) x []
    at x within = elim (cases_eq x to) [
      | inl same ↦
          let inside : to < length (rows_of o c l q) = subst (λ m. to < m) (sym (length-rows o size n c l q h.tables)) h.within in
          subst (λ y. get_or (rows_of o c2 l2 q2) y [] ≡ get_or (set (rows_of o c l q) to sum) y []) (sym same)
          (row_at o size n to c2 l2 q2 after h.within
          ∙ put_entries o size n k to from c l q c' l' q' f0 f1 f2 c2 l2 q2 h hc hl hq
          ∙ sym (get_or-set_same (rows_of o c l q) to sum [] inside))
      | inr other ↦
          let in_old : x < length (entries_of_table c) = entry_within _ _ _ x c h.tables.constant within in
          let in_new : x < length (entries_of_table c2) = entry_within _ _ _ x c2 after.constant within in
          get_or-rows_of_tables o (entries_of_table c2) (entries_of_table l2) (entries_of_table q2) x in_new
          ∙ ap (λ (d : List ℕ). entries_of_digits o d (get_or (entries_of_table l2) x []) (get_or (entries_of_table q2) x []))
          (kept_entry c c2 to x _ hc other)
          ∙ ap (λ (d : List ℕ). entries_of_digits o (get_or (entries_of_table c) x []) d (get_or (entries_of_table q2) x []))
          (kept_entry l l2 to x _ hl other)
          ∙ ap (λ (d : List ℕ). entries_of_digits o (get_or (entries_of_table c) x []) (get_or (entries_of_table l) x []) d)
          (kept_entry q q2 to x _ hq other)
          ∙ sym (get_or-rows_of_tables o (entries_of_table c) (entries_of_table l) (entries_of_table q) x in_old)
          ∙ sym (get_or-set_other (rows_of o c l q) to x sum [] other)
    ]

-- the table after
pub table_with_sum : (o r : Order) (size n k to from : ℕ) (c l q : PlaneTable) (c' l' q' : Plane) (rows : List (List ℕ)) (self : CombosValue)
    (other : RowValue) → record { order = o; size = size; len = n; rows = rows_of o c l q } ≡ self →
    record { order = r; entries = entries_of r c' l' q' } ≡ other → other.order ≡ self.order →
    rows ≡ set (rows_of o c l q) to (sum_with_multiple (number_field o) (get_or (rows_of o c l q) from []) k (entries_of o c' l' q')) →
    ◌≡◌ {A = CombosValue} (record { order = o; size = size; len = n; rows = rows })
    (record {
      order = self.order;
      size = self.size;
      len = self.len;
      rows = set self.rows to (sum_with_multiple (number_field self.order) (get_or self.rows from []) k other.entries);
    })
table_with_sum o r size n k to from c l q c' l' q' rows self other self_is other_is orders e =
    let same : o ≡ r = ap (λ (t : CombosValue). t.order) self_is ∙ sym orders ∙ sym (ap (λ (t : RowValue). t.order) other_is) in
    ap (λ (s : List (List ℕ)). record { order = o; size = size; len = n; rows = s }) e
    ∙ ap (λ (t : CombosValue). record {
      order = t.order;
      size = t.size;
      len = t.len;
      rows = set t.rows to (sum_with_multiple (number_field t.order) (get_or t.rows from []) k (entries_of o c' l' q'));
    }) self_is
    ∙ ap (λ (x : List ℕ). record {
      order = self.order;
      size = self.size;
      len = self.len;
      rows = set self.rows to (sum_with_multiple (number_field self.order) (get_or self.rows from []) k x);
    })
    (ap (λ w. entries_of w c' l' q') same ∙ ap (λ (t : RowValue). t.entries) other_is)

-- the column j of a matrix of three rows
abbrev column : List (List ℕ) → ℕ → List ℕ
column m j = entry m 0 j ∷ entry m 1 j ∷ entry m 2 j ∷ []

pub table_summands : (o r : Order) (size n k to from : ℕ) (c l q : PlaneTable) (c' l' q' : Plane) (m : List (List ℕ)) (self : CombosValue)
    (other : RowValue) → ArePlaneTables o size n c l q → ArePlanes r (length (digits_of c')) c' l' q' →
    record { order = o; size = size; len = n; rows = rows_of o c l q } ≡ self → record { order = r; entries = entries_of r c' l' q' } ≡ other →
    other.order ≡ self.order → length other.entries ≡ self.len → IsElement self.order k → m ≡ matrix_of_multiplication o k →
    from < to → to < length self.rows → AreTableSummands o size n k to from c l q c' l' q' (column m 0) (column m 1) (column m 2)
table_summands o r size n k to from c l q c' l' q' m self other h h' self_is other_is orders lengths element em earlier inside = record {
  tables = h;
  summands =
      subst (λ i. AreSummands o i k (plane_at c from) (plane_at l from) (plane_at q from) c' l' q' (column m 0) (column m 1) (column m 2))
      planes.constant.long
      (summands o r k _ _ _ c' l' q' m (record { order = o; entries = entries_of o (plane_at c from) (plane_at l from) (plane_at q from) }) other
      (subst (λ i. ArePlanes o i (plane_at c from) (plane_at l from) (plane_at q from)) (sym planes.constant.long) planes) h' refl other_is
      (orders ∙ sym (ap (λ (t : CombosValue). t.order) self_is))
      (lengths ∙ sym (ap (λ (t : CombosValue). t.len) self_is) ∙ sym (length-entries o _ _ _ ∙ planes.constant.long))
      (subst (λ s. IsElement s k) (sym (ap (λ (t : CombosValue). t.order) self_is)) element) em);
  earlier = earlier;
  within = within;
}
  where
    within : to < order_number o ^ size
    within = subst (λ i. to < i) (sym (ap (λ (t : CombosValue). length t.rows) self_is) ∙ length-rows o size n c l q h) inside

    planes : ArePlanes o n (plane_at c from) (plane_at l from) (plane_at q from)
    planes = planes_at o size n from c l q h (omega (arith, earlier, within))
