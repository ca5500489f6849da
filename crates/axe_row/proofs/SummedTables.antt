-- Tables of planes of which some entries became sums of two earlier ones, and the rows that they stand for.
use Rattle.std.proofs.Common.{◌≡◌, ℕ, ◌+◌, ◌-◌, ◌^◌, ◌<◌, ◌≤◌, List, [], length, get_or, set, replicate, ◌*◌, ◌⊎◌, get_or-set_other, get_or-set_same, cond, ltb, refl, sym, ap, ap₂, subst, ◌∙◌, arith, inl, inr}
use Rattle.std.proofs.lemmas.Bool.{cases_lt, le-ltb}
use Rattle.std.proofs.lemmas.List.{ext_get_or, get_or_default, get_or-replicate, length-replicate}
use Rattle.std.specs.List.{All}
use Rattle.axe_bits.specs.Combinations.{HaveEntrySums}
use Rattle.axe_field.specs.Arithmetic.{field_add, field_mul}
use Rattle.axe_field.specs.CheckedLaws.{field_add_comm, field_add-zero, field_mul-below}
use Rattle.axe_field.specs.NumberFields.{number_field}
use Rattle.axe_field.specs.Order.{Order, order_number, degree_of, IsElement}
use Rattle.axe_field.proofs.Laws.{field_one-mul}
use Rattle.axe_lane.specs.Bytes.{AreDigits}
use Rattle.axe_layer.specs.Digits.{digits_with_multiple}
use Rattle.axe_layer.proofs.DigitLaws.{length-digits_with_multiple}
use Rattle.axe_plane.specs.Planes.{digits_of, IsPlaneOf}
use Rattle.axe_plane.specs.Tables.{prime_of_table, entries_of_table, plane_at}
use Rattle.axe_plane.specs.declared.Plane.{Plane}
use Rattle.axe_plane.specs.declared.tables.PlaneTable.{PlaneTable}
use Rattle.axe_plane.proofs.PlaneLaws.{same_plane}
use Rattle.axe_row.specs.Combinations.{CombosValue, AreOfOneKind, IsTableOfRows}
use Rattle.axe_row.specs.Operations.{sum_with_multiple}
use Rattle.axe_row.specs.PlaneTables.{ArePlaneTables, IsPlaneTable}
use Rattle.axe_row.proofs.OperationLaws.{length-sum_with_multiple, get_or-row_with_multiple}
use Rattle.axe_row.proofs.RowPlanes.{entries_of, prime-positive}
use Rattle.axe_row.proofs.TablePlanes.{digits_of-plane_at, entry_within, length-rows, plane_of_entry, planes_at, prime_of-plane_at, row_at, rows_of, same_empty, IsTableOfRows-of_planes}
use Rattle.axe_row.proofs.TableSums.{digits-plane_plus, plane_plus, plus_entries, plus_plane, prime-plane_plus}

-- a table of planes after entries from number `start` + 1 on became sums
pub record IsSummedTable (start count : ℕ) (table after : PlaneTable) : Type 0 where
  pub prime : prime_of_table after ≡ prime_of_table table
  pub sums : HaveEntrySums (prime_of_table table) start count (entries_of_table table) (entries_of_table after)

-- planes without digits stay as they are
pub no_sums : (p many n start count : ℕ) (table : PlaneTable) → IsPlaneTable p many n table → n ≡ 0 → count ≤ start →
    start + count ≤ many → IsSummedTable start count table table
no_sums p many n start count table h none early within = record {
  prime = refl;
  sums = record {
    as_many = refl;
    sums = λ i positive below.
        same_empty _ _ (empty (start + i) (omega (arith, below, within)))
        (length-digits_with_multiple (prime_of_table table) (get_or (entries_of_table table) i []) 1 (get_or (entries_of_table table) start [])
        ∙ empty i (omega (arith, below, within)));
    earlier = λ x before. refl;
    later = λ x past inside. refl;
  };
}
  where
    empty : (x : ℕ) → x < many → length (get_or (entries_of_table table) x []) ≡ 0
    empty x inside = h.long x [] (entry_within p many n x table h inside) ∙ none

module _ (p many n start count : ℕ) (table after : PlaneTable) (positive : 0 < p) (h : IsPlaneTable p many n table)
    (e : IsSummedTable start count table after) (some : 1 ≤ count) (early : count ≤ start) (within : start + count ≤ many) where
  same : (x : ℕ) → get_or (entries_of_table after) x [] ≡ get_or (entries_of_table table) x [] → plane_at after x ≡ plane_at table x
  same x is =
      same_plane (plane_at after x) (plane_at table x)
      (prime_of-plane_at after x ∙ e.prime ∙ sym (prime_of-plane_at table x))
      (digits_of-plane_at after x ∙ is ∙ sym (digits_of-plane_at table x))

  pub earlier_plane : (x : ℕ) → x ≤ start → plane_at after x ≡ plane_at table x
  earlier_plane x before = same x (e.sums.earlier x before)

  pub sum_plane : (i : ℕ) → 0 < i → i < count → plane_at after (start + i) ≡ plane_plus (plane_at table i) (plane_at table start)
  sum_plane i some below =
      same_plane (plane_at after (start + i)) (plane_plus (plane_at table i) (plane_at table start))
      (prime_of-plane_at after (start + i) ∙ e.prime ∙ sym (prime-plane_plus (plane_at table i) (plane_at table start) ∙ prime_of-plane_at table i))
      (digits_of-plane_at after (start + i) ∙ e.sums.sums i some below
      ∙ ap₂ (λ (a b : List ℕ). digits_with_multiple (prime_of_table table) a 1 b) (sym (digits_of-plane_at table i)) (sym (digits_of-plane_at table start))
      ∙ ap (λ r. digits_with_multiple r (digits_of (plane_at table i)) 1 (digits_of (plane_at table start))) (sym (prime_of-plane_at table i))
      ∙ sym (digits-plane_plus (plane_at table i) (plane_at table start)))

  plane_after : (x : ℕ) → x < many → IsPlaneOf p n (plane_at after x)
  plane_after x inside = elim (cases_lt start x) [
    | inl past ↦ elim (cases_lt x (start + count)) [
      | inl below ↦
          let i : ℕ = x - start in
          let is : start + i ≡ x = omega (arith, past) in
          subst (λ k. IsPlaneOf p n (plane_at after k)) is
          (subst (IsPlaneOf p n) (sym (sum_plane i (omega (arith, past)) (omega (arith, past, below))))
          (plus_plane p n (plane_at table i) (plane_at table start) positive (plane_of_entry p many n i table h (omega (arith, inside)))))
      | inr beyond ↦
          let there : x < length (entries_of_table table) = entry_within p many n x table h inside in
          subst (IsPlaneOf p n) (sym (same x (e.sums.later x (omega (arith, beyond)) there))) (plane_of_entry p many n x table h inside)
    ]
    | inr before ↦ subst (IsPlaneOf p n) (sym (earlier_plane x (omega (arith, before)))) (plane_of_entry p many n x table h inside)
  ]

  counted : length (entries_of_table after) ≡ many
  counted = e.sums.as_many ∙ h.counted

  pub summed_table : IsPlaneTable p many n after
  summed_table = record {
    prime = e.prime ∙ h.prime;
    counted = counted;
    long = λ x d inside.
        ap length (get_or_default (entries_of_table after) x d [] inside ∙ sym (digits_of-plane_at after x))
        ∙ (plane_after x (omega (arith, inside, counted))).long;
    digits = λ x d inside.
        subst (AreDigits p) (digits_of-plane_at after x ∙ sym (get_or_default (entries_of_table after) x d [] inside))
        (plane_after x (omega (arith, inside, counted))).digits;
    zero_first = e.sums.earlier 0 (omega arith) ∙ h.zero_first;
  }

-- ---- the rows

-- a table of rows after its rows from number `start` + 1 on became sums
pub record AreSummedRows (start count : ℕ) (before after : CombosValue) : Type 0 where
  pub kept : (x : ℕ) → x ≤ start → get_or after.rows x [] ≡ get_or before.rows x []
  pub sums : (i : ℕ) → 1 ≤ i → i < count → get_or after.rows (start + i) []
      ≡ sum_with_multiple (number_field before.order) (get_or before.rows i []) 1 (get_or before.rows start [])
  pub kind : AreOfOneKind after before
  pub well_formed : IsTableOfRows after

pub AreSummedRows-none : (start count : ℕ) (table : CombosValue) → count ≡ 1 → IsTableOfRows table → AreSummedRows start count table table
AreSummedRows-none start count table one h = record {
  kept = λ x before. refl;
  sums = λ i some below. absurd (omega (arith, some, below, one));
  kind = record { order = refl; size = refl; len = refl };
  well_formed = h;
}

module _ (o : Order) (size n start count : ℕ) (c l q c2 l2 q2 : PlaneTable) (h : ArePlaneTables o size n c l q)
    (ec : IsSummedTable start count c c2) (el : IsSummedTable start count l l2) (eq : IsSummedTable start count q q2)
    (some : 1 ≤ count) (early : count ≤ start) (within : start + count ≤ order_number o ^ size) where
  pub summed_tables : ArePlaneTables o size n c2 l2 q2
  summed_tables = record {
    size_fits = h.size_fits;
    constant = summed_table _ _ _ start count c c2 (prime-positive o) h.constant ec some early within;
    linear = summed_table _ _ _ start count l l2 (prime-positive o) h.linear el some early within;
    quadratic = summed_table _ _ _ start count q q2 (prime-positive o) h.quadratic eq some early within;
  }

  -- three planes that are equal to others
  same_entries : (a b d a' b' d' : Plane) → a ≡ a' → b ≡ b' → d ≡ d' → entries_of o a b d ≡ entries_of o a' b' d'
  same_entries a b d a' b' d' ea eb ed =
      ap (λ x. entries_of o x b d) ea ∙ ap (λ x. entries_of o a' x d) eb ∙ ap (entries_of o a' b') ed

  kept_row : (x : ℕ) → x ≤ start → get_or (rows_of o c2 l2 q2) x [] ≡ get_or (rows_of o c l q) x []
  kept_row x before =
      let inside : x < order_number o ^ size = omega (arith, before, some, within) in
      row_at o size n x c2 l2 q2 summed_tables inside
      ∙ same_entries _ _ _ _ _ _ (earlier_plane _ _ _ start count c c2 (prime-positive o) h.constant ec some early within x before)
      (earlier_plane _ _ _ start count l l2 (prime-positive o) h.linear el some early within x before)
      (earlier_plane _ _ _ start count q q2 (prime-positive o) h.quadratic eq some early within x before)
      ∙ sym (row_at o size n x c l q h inside)

  sum_row : (i : ℕ) → 1 ≤ i → i < count → get_or (rows_of o c2 l2 q2) (start + i) []
      ≡ sum_with_multiple (number_field o) (get_or (rows_of o c l q) i []) 1 (get_or (rows_of o c l q) start [])
  sum_row i positive below =
      let there : start + i < order_number o ^ size = omega (arith, below, within) in
      let here : i < order_number o ^ size = omega (arith, below, within) in
      let first : start < order_number o ^ size = omega (arith, some, within) in
      row_at o size n (start + i) c2 l2 q2 summed_tables there
      ∙ same_entries _ _ _ _ _ _ (sum_plane _ _ _ start count c c2 (prime-positive o) h.constant ec some early within i positive below)
      (sum_plane _ _ _ start count l l2 (prime-positive o) h.linear el some early within i positive below)
      (sum_plane _ _ _ start count q q2 (prime-positive o) h.quadratic eq some early within i positive below)
      ∙ plus_entries o n _ _ _ _ _ _ (planes_at o size n i c l q h here) (planes_at o size n start c l q h first)
      ∙ ap₂ (λ (a b : List ℕ). sum_with_multiple (number_field o) a 1 b) (sym (row_at o size n i c l q h here))
      (sym (row_at o size n start c l q h first))

  pub summed_rows : (self : CombosValue) → record { order = o; size = size; len = n; rows = rows_of o c l q } ≡ self →
      AreSummedRows start count self (record { order = o; size = size; len = n; rows = rows_of o c2 l2 q2 })
  summed_rows self is =
      subst (λ (t : CombosValue). AreSummedRows start count t (record { order = o; size = size; len = n; rows = rows_of o c2 l2 q2 })) is
      (record {
        kept = kept_row;
        sums = sum_row;
        kind = record { order = refl; size = refl; len = refl };
        well_formed = IsTableOfRows-of_planes o size n c2 l2 q2 summed_tables;
      })

-- so many rows
pub rows_within : (o : Order) (size n last : ℕ) (c l q : PlaneTable) (self : CombosValue) → ArePlaneTables o size n c l q →
    record { order = o; size = size; len = n; rows = rows_of o c l q } ≡ self → last ≤ length self.rows → last ≤ order_number o ^ size
rows_within o size n last c l q self h is within =
    omega (arith, within, ap (λ (t : CombosValue). length t.rows) is, length-rows o size n c l q h)

-- planes that are not there have no digits
pub not_there : (o : Order) (d j n : ℕ) → d ≡ degree_of o → d ≤ j → cond (ltb j (degree_of o)) n 0 ≡ 0
not_there o d j n is few = ap (λ b. cond b n 0) (le-ltb j (degree_of o) (omega (arith, is, few)))

-- ---- all sums with a multiple of a row

-- a row plus the multiple that was added to zeros
sum_with_sum : (o : Order) (n c : ℕ) (a b : List ℕ) → length a ≡ n → length b ≡ n → IsElement o c → All (IsElement o) b →
    sum_with_multiple (number_field o) a 1 (sum_with_multiple (number_field o) (replicate n 0) c b) ≡ sum_with_multiple (number_field o) a c b
sum_with_sum o n c a b la lb hc hb =
    ext_get_or 0 (sum_with_multiple (number_field o) a 1 multiple) (sum_with_multiple (number_field o) a c b)
    (length-sum_with_multiple (number_field o) a 1 multiple ∙ sym (length-sum_with_multiple (number_field o) a c b)) (λ j inside.
    let here : j < length a = omega (arith, inside, length-sum_with_multiple (number_field o) a 1 multiple) in
    let small : j < n = omega (arith, here, la) in
    let zero : j < length (replicate {A = ℕ} n 0) = omega (arith, small, length-replicate {A = ℕ} n 0) in
    let element : IsElement o (get_or b j 0) = hb j 0 (omega (arith, small, lb)) in
    let product : IsElement o (field_mul o c (get_or b j 0)) = field_mul-below o c (get_or b j 0) hc element in
    get_or-row_with_multiple o a 1 multiple j here
    ∙ ap (λ x. field_add o (get_or a j 0) (field_mul o 1 x))
    (get_or-row_with_multiple o (replicate n 0) c b j zero
    ∙ ap (λ x. field_add o x (field_mul o c (get_or b j 0))) (get_or-replicate n j 0 0 small)
    ∙ field_add_comm o 0 (field_mul o c (get_or b j 0)) (omega (arith, product)) product
    ∙ field_add-zero o (field_mul o c (get_or b j 0)) product)
    ∙ ap (field_add o (get_or a j 0)) (field_one-mul o (field_mul o c (get_or b j 0)) product)
    ∙ sym (get_or-row_with_multiple o a c b j here))
  where
    multiple : List ℕ
    multiple = sum_with_multiple (number_field o) (replicate n 0) c b

-- the rows from number c times `filled` on, as many as `filled`, are sums of the first rows and of c times another row
pub record AreSumsWith (filled c : ℕ) (b : List ℕ) (before table : CombosValue) : Type 0 where
  pub kind : AreOfOneKind table before
  pub kept : (x : ℕ) → x < c * filled → get_or table.rows x [] ≡ get_or before.rows x []
  pub summed : (i : ℕ) → i < filled →
      get_or table.rows (c * filled + i) [] ≡ sum_with_multiple (number_field before.order) (get_or before.rows i []) c b
  pub well_formed : IsTableOfRows table

pub sums_with : (filled c to : ℕ) (b : List ℕ) (before table after : CombosValue) → IsTableOfRows before →
    IsElement before.order c → All (IsElement before.order) b → length b ≡ before.len → to ≡ c * filled → 1 ≤ filled →
    filled ≤ to → to + filled ≤ length before.rows →
    table ≡ record before { rows = set before.rows to (sum_with_multiple (number_field before.order) (get_or before.rows 0 []) c b) } →
    AreSummedRows to filled table after → AreSumsWith filled c b before after
sums_with filled c to b before table after h element elements long at some early within is sums = record {
  kind = record {
    order = sums.kind.order ∙ ap (λ (t : CombosValue). t.order) is;
    size = sums.kind.size ∙ ap (λ (t : CombosValue). t.size) is;
    len = sums.kind.len ∙ ap (λ (t : CombosValue). t.len) is;
  };
  kept = λ x below. sums.kept x (omega (arith, below, at)) ∙ other x (omega (arith, below, at));
  summed = λ i below. subst (λ k. get_or after.rows (k + i) [] ≡ sum_with_multiple (number_field before.order) (get_or before.rows i []) c b) at (at_index i below (cases_lt 0 i));
  well_formed = sums.well_formed;
}
  where
    first : get_or table.rows to [] ≡ sum_with_multiple (number_field before.order) (get_or before.rows 0 []) c b
    first =
        ap (λ (t : CombosValue). get_or t.rows to []) is
        ∙ get_or-set_same before.rows to (sum_with_multiple (number_field before.order) (get_or before.rows 0 []) c b) []
        (omega (arith, some, within))

    other : (x : ℕ) → x < to → get_or table.rows x [] ≡ get_or before.rows x []
    other x below =
        ap (λ (t : CombosValue). get_or t.rows x []) is
        ∙ get_or-set_other before.rows to x (sum_with_multiple (number_field before.order) (get_or before.rows 0 []) c b) []
        (λ e. absurd (omega (arith, e, below)))

    at_index : (i : ℕ) → i < filled → ((0 < i) ⊎ (i ≤ 0)) → get_or after.rows (to + i) []
        ≡ sum_with_multiple (number_field before.order) (get_or before.rows i []) c b
    at_index i below (inl positive) =
        sums.sums i positive below
        ∙ ap (λ (t : Order). sum_with_multiple (number_field t) (get_or table.rows i []) 1 (get_or table.rows to [])) (ap (λ (t : CombosValue). t.order) is)
        ∙ ap₂ (λ (x y : List ℕ). sum_with_multiple (number_field before.order) x 1 y) (other i (omega (arith, below, early)))
        (first ∙ ap (λ (z : List ℕ). sum_with_multiple (number_field before.order) z c b) h.zero_first)
        ∙ sum_with_sum before.order before.len c (get_or before.rows i []) b
        (h.row_lengths i [] (omega (arith, below, early, within))) long element elements
    at_index i below (inr none) =
        let zero : i ≡ 0 = omega (arith, none) in
        let start : to + i ≡ to = omega (arith, zero) in
        ap (λ k. get_or after.rows k []) start ∙ sums.kept to (omega arith) ∙ first
        ∙ ap (λ k. sum_with_multiple (number_field before.order) (get_or before.rows k []) c b) (sym zero)
