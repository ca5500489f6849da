-- The rows of a table as combinations: those with one row more, by the rows of the table that are there.
use Rattle.std.proofs.Common.{◌≡◌, ℕ, zero, suc, ◌+◌, ◌-◌, ◌*◌, ◌/◌, ◌%◌, ◌^◌, ◌<◌, ◌≤◌, List, [], ◌∷◌, length, get_or, map, drop, replicate, refl, sym, ap, ap₂, subst, ◌∙◌, arith}
use Rattle.std.specs.List.{All}
use Rattle.std.proofs.lemmas.List.{ext_get_or, get_or-replicate, length-replicate, drop_more, drop_all, length-drop, get_or-map, length-map}
use Rattle.std.proofs.lemmas.List.Elements.{All-nil, All-cons}
use Rattle.std.proofs.lemmas.Nat.{mul-add-lt}
use native.Mathlib.Nat.{mul_comm, pow-zero, pow-suc, mul-le-mul_right, pow-le-pow_right}
use native.Mathlib.Decide.{dec_lt}
use Rattle.axe_algebra.specs.Digits.{digits}
use Rattle.axe_algebra.specs.ListArithmetic.{number_sum, combination, combination_entry}
use Rattle.axe_algebra.specs.Lists.{entry, listed, AreElements, IsVectorOver, IsMatrixOver}
use Rattle.axe_algebra.specs.NumberField.{NumberField}
use Rattle.axe_algebra.proofs.Digits.{digits_cons, digits-below, leading_digit}
use Rattle.axe_algebra.proofs.ElementNumbers.{number_sum-below, entry-below}
use Rattle.axe_algebra.proofs.ListEntries.{listed_length, listed_at, matrix_entry-below}
use Rattle.axe_field.specs.NumberFields.{number_field}
use Rattle.axe_field.specs.Order.{Order, order_number, IsElement}
use Rattle.axe_field.proofs.Laws.{field_zero-mul}
use Rattle.axe_field.proofs.Orders.{order_number-at_least}
use Rattle.axe_row.specs.Combinations.{CombosValue, IsTableOfRows, AreOfOneKind, Combines}
use Rattle.axe_row.specs.Operations.{sum_with_multiple}
use Rattle.axe_row.specs.Rows.{RowValue}
use Rattle.axe_row.proofs.OperationLaws.{length-sum_with_multiple, get_or-sum_with_multiple}
use Rattle.axe_row.proofs.TablePlanes.{few_rows}

-- ---- combinations

-- a sum of elements, its first term taken last
pub number_sum_front : (K : NumberField) (n : ℕ) (f : ℕ → ℕ) → ((t : ℕ) → t < suc n → f t < K.order) →
    number_sum K f (suc n) ≡ K.add (number_sum K (λ t. f (suc t)) n) (f 0)
unfolding number_sum
number_sum_front K zero f below = refl
number_sum_front K (suc n) f below =
    let rest = number_sum K (λ t. f (suc t)) n in
    let rest_below : rest < K.order = number_sum-below K n (λ t. f (suc t)) (λ t inside. below (suc t) (omega arith)) in
    let first_below : f 0 < K.order = below 0 (omega arith) in
    let last_below : f (suc n) < K.order = below (suc n) (omega arith) in
    ap (λ x. K.add x (f (suc n))) (number_sum_front K n f (λ t inside. below t (omega arith)))
    ∙ K.add_assoc rest (f 0) (f (suc n)) rest_below first_below last_below
    ∙ ap (K.add rest) (K.add_comm (f 0) (f (suc n)) first_below last_below)
    ∙ sym (K.add_assoc rest (f (suc n)) (f 0) rest_below last_below first_below)

-- the combination of no rows is zero
pub combination-none : (K : NumberField) (n : ℕ) (v : List ℕ) → combination K n v [] ≡ replicate n 0
unfolding combination combination_entry number_sum
combination-none K n v =
    ext_get_or 0 (listed n none) (replicate n 0) (listed_length n none ∙ sym (length-replicate n 0)) (λ j below.
    let inside : j < n = omega (arith, listed_length n none) in
    listed_at n none j 0 inside ∙ sym (get_or-replicate n j 0 0 inside))
  where
    none : ℕ → ℕ
    none j = 0

-- entry j of a combination
combination_at : (K : NumberField) (n : ℕ) (v : List ℕ) (b : List (List ℕ)) (j : ℕ) → j < n →
    get_or (combination K n v b) j 0 ≡ number_sum K (λ t. K.mul (get_or v t 0) (entry b t j)) (length b)
unfolding combination combination_entry
combination_at K n v b j below = listed_at n _ j 0 below

-- a combination has an entry for each column
pub length-combination : (K : NumberField) (n : ℕ) (v : List ℕ) (b : List (List ℕ)) → length (combination K n v b) ≡ n
unfolding combination
length-combination K n v b = listed_length n _

-- the combination with one row more in front
pub combination-cons : (K : NumberField) (n d : ℕ) (v r : List ℕ) (b : List (List ℕ)) → d < K.order → AreElements K v →
    IsMatrixOver K n (r ∷ b) → combination K n (d ∷ v) (r ∷ b) ≡ sum_with_multiple K (combination K n v b) d r
combination-cons K n d v r b d_below v_below over =
    ext_get_or 0 (combination K n (d ∷ v) (r ∷ b)) (sum_with_multiple K (combination K n v b) d r)
    (length-combination K n (d ∷ v) (r ∷ b) ∙ sym (length-sum_with_multiple K (combination K n v b) d r ∙ length-combination K n v b)) (λ j below.
    let inside : j < n = omega (arith, length-combination K n (d ∷ v) (r ∷ b)) in
    let within : j < length (combination K n v b) = omega (arith, length-combination K n v b) in
    combination_at K n (d ∷ v) (r ∷ b) j inside
    ∙ number_sum_front K (length b) (λ t. K.mul (get_or (d ∷ v) t 0) (entry (r ∷ b) t j)) (λ t _.
    K.mul-below (get_or (d ∷ v) t 0) (entry (r ∷ b) t j) (entry-below K (d ∷ v) t (All-cons (λ (e : ℕ). e < K.order) d v d_below v_below))
    (matrix_entry-below K n (r ∷ b) t j over))
    ∙ ap (λ x. K.add x (K.mul d (get_or r j 0))) (sym (combination_at K n v b j inside))
    ∙ sym (get_or-sum_with_multiple K (combination K n v b) d r j within))

-- a vector plus no times another
pub sum_with_none : (o : Order) (a b : List ℕ) → All (IsElement o) a → All (IsElement o) b → sum_with_multiple (number_field o) a 0 b ≡ a
unfolding number_field
sum_with_none o a b a_below b_below =
    ext_get_or 0 (sum_with_multiple (number_field o) a 0 b) a (length-sum_with_multiple (number_field o) a 0 b) (λ j below.
    let inside : j < length a = omega (arith, length-sum_with_multiple (number_field o) a 0 b) in
    get_or-sum_with_multiple (number_field o) a 0 b j inside
    ∙ ap ((number_field o).add (get_or a j 0)) (field_zero-mul o (get_or b j 0) (entry-below (number_field o) b j b_below))
    ∙ (number_field o).add-zero (get_or a j 0) (entry-below (number_field o) a j a_below))

-- ---- all multiples of a row

-- row d `filled` + i, for d below n, is the sum of row i and of d times another row
pub record AreMultiplesBelow (n filled : ℕ) (b : List ℕ) (before table : CombosValue) : Type 0 where
  pub kind : AreOfOneKind table before
  pub kept : (i : ℕ) → i < filled → get_or table.rows i [] ≡ get_or before.rows i []
  pub summed : (d i : ℕ) → d < n → i < filled → get_or table.rows (d * filled + i) [] ≡ sum_with_multiple (number_field before.order) (get_or before.rows i []) d b
  pub well_formed : IsTableOfRows table

-- no times the other row
pub AreMultiplesBelow-none : (filled : ℕ) (b : List ℕ) (before : CombosValue) → IsTableOfRows before → filled ≤ length before.rows →
    All (IsElement before.order) b → AreMultiplesBelow 1 filled b before before
AreMultiplesBelow-none filled b before h room below = record {
  kind = record { order = refl; size = refl; len = refl };
  kept = λ i _. refl;
  summed = λ d i none inside.
      let first : d ≡ 0 = omega arith in
      let here : 0 * filled + i ≡ i = omega arith in
      ap (λ e. get_or before.rows (e * filled + i) []) first ∙ ap (λ x. get_or before.rows x []) here
      ∙ sym (ap (λ e. sum_with_multiple (number_field before.order) (get_or before.rows i []) e b) first
      ∙ sum_with_none before.order (get_or before.rows i []) b (h.elements i [] (omega arith)) below);
  well_formed = h;
}

-- one multiple more
pub AreMultiplesBelow-more : (n filled : ℕ) (b : List ℕ) (before table next : CombosValue) → AreMultiplesBelow n filled b before table →
    1 ≤ n → ((x : ℕ) → x < n * filled → get_or next.rows x [] ≡ get_or table.rows x []) →
    ((i : ℕ) → i < filled → get_or next.rows (n * filled + i) [] ≡ sum_with_multiple (number_field table.order) (get_or table.rows i []) n b) →
    AreOfOneKind next table → IsTableOfRows next → AreMultiplesBelow (n + 1) filled b before next
AreMultiplesBelow-more n filled b before table next h some kept sums kind well_formed = record {
  kind = record {
    order = kind.order ∙ h.kind.order;
    size = kind.size ∙ h.kind.size;
    len = kind.len ∙ h.kind.len;
  };
  kept = λ i inside. let within : i < n * filled = omega (arith, mul-le-mul_right filled some) in kept i within ∙ h.kept i inside;
  summed = λ d i below inside. at d i below inside (dec_lt d n);
  well_formed = well_formed;
}
  where
    at : (d i : ℕ) → d < n + 1 → i < filled → Dec (d < n) →
        get_or next.rows (d * filled + i) [] ≡ sum_with_multiple (number_field before.order) (get_or before.rows i []) d b
    at d i below inside (yes earlier) =
        let within : d * filled + i < n * filled = omega (arith, mul-add-lt d filled i n earlier inside, mul_comm n filled) in
        kept (d * filled + i) within ∙ h.summed d i earlier inside
    at d i below inside (no past) =
        let last : d ≡ n = omega arith in
        ap (λ e. get_or next.rows (e * filled + i) []) last ∙ sums i inside
        ∙ ap₂ (λ (o : Order) (a : List ℕ). sum_with_multiple (number_field o) a n b) h.kind.order (h.kept i inside)
        ∙ ap (λ e. sum_with_multiple (number_field before.order) (get_or before.rows i []) e b) (sym last)

-- ---- a table of few rows

pub rows-below : (table : CombosValue) → IsTableOfRows table → length table.rows ≤ 256
rows-below table h = omega (arith, h.counted, few_rows table.order table.size h.size_fits)

-- ---- combinations of all rows

-- the first rows are the combinations of rows of elements
pub record IsFilledWith (b : List (List ℕ)) (before table : CombosValue) : Type 0 where
  pub kind : AreOfOneKind table before
  pub matrix : IsMatrixOver (number_field table.order) table.len b
  pub combines : Combines b table
  pub well_formed : IsTableOfRows table

pub IsFilledWith-none : (before : CombosValue) → IsTableOfRows before → IsFilledWith [] before before
unfolding digits
IsFilledWith-none before h = record {
  kind = record { order = refl; size = refl; len = refl };
  matrix = All-nil (IsVectorOver (number_field before.order) before.len);
  combines = record {
    combined = λ i small.
        let first : i ≡ 0 = omega (arith, pow-zero (order_number before.order)) in
        ap (λ x. get_or before.rows x []) first ∙ h.zero_first ∙ sym (combination-none (number_field before.order) before.len []);
  };
  well_formed = h;
}

-- the rows of the table with one row more
combined_more : (filled : ℕ) (r : List ℕ) (b : List (List ℕ)) (table next : CombosValue) → Combines b table →
    IsMatrixOver (number_field table.order) table.len (r ∷ b) → filled ≡ order_number table.order ^ length b →
    ((d i : ℕ) → d < order_number table.order → i < filled →
    get_or next.rows (d * filled + i) [] ≡ sum_with_multiple (number_field table.order) (get_or table.rows i []) d r) →
    (i : ℕ) → i < order_number table.order ^ suc (length b) →
    get_or next.rows i [] ≡ combination (number_field table.order) table.len (digits (order_number table.order) (suc (length b)) i) (r ∷ b)
unfolding number_field
combined_more filled r b table next h over power sums i small =
    ap (λ x. get_or next.rows x []) (sym parts.2 ∙ ap (λ p. d * p + k) (sym power))
    ∙ sums d k parts.0 (subst (λ p. k < p) (sym power) parts.1)
    ∙ ap (λ (a : List ℕ). sum_with_multiple (number_field table.order) a d r) (h.combined k parts.1)
    ∙ sym (combination-cons (number_field table.order) table.len d (digits q m k) r b parts.0 (digits-below q m k positive) over)
    ∙ ap (λ (v : List ℕ). combination (number_field table.order) table.len v (r ∷ b))
    (sym (digits_cons q m d k parts.0 parts.1) ∙ ap (digits q (suc m)) parts.2)
  where
    q : ℕ
    q = order_number table.order

    m : ℕ
    m = length b

    d : ℕ
    d = i / q ^ m

    k : ℕ
    k = i % q ^ m

    positive : 0 < q
    positive = omega (arith, order_number-at_least table.order)

    parts : (d < q) × (k < q ^ m) × (d * q ^ m + k ≡ i)
    parts = leading_digit q m i positive small

-- a row of elements over a table's field
vector_over : (o : Order) (n : ℕ) (r : List ℕ) → All (IsElement o) r → length r ≡ n → IsVectorOver (number_field o) n r
unfolding number_field
vector_over o n r elements long = record { length_is = long; elements = elements }

pub IsFilledWith-more : (filled : ℕ) (r : List ℕ) (b : List (List ℕ)) (before table next : CombosValue) → IsFilledWith b before table →
    filled ≡ order_number before.order ^ length b → All (IsElement before.order) r → length r ≡ before.len →
    ((d i : ℕ) → d < order_number table.order → i < filled →
    get_or next.rows (d * filled + i) [] ≡ sum_with_multiple (number_field table.order) (get_or table.rows i []) d r) →
    AreOfOneKind next table → IsTableOfRows next → IsFilledWith (r ∷ b) before next
IsFilledWith-more filled r b before table next h power elements long sums kind well_formed = record {
  kind = record {
    order = kind.order ∙ h.kind.order;
    size = kind.size ∙ h.kind.size;
    len = kind.len ∙ h.kind.len;
  };
  matrix =
      subst (λ (o : Order). IsMatrixOver (number_field o) next.len (r ∷ b)) (sym kind.order)
      (subst (λ n. IsMatrixOver (number_field table.order) n (r ∷ b)) (sym kind.len) over);
  combines = record {
    combined =
        subst (λ (o : Order). (i : ℕ) → i < order_number o ^ suc (length b) →
        get_or next.rows i [] ≡ combination (number_field o) next.len (digits (order_number o) (suc (length b)) i) (r ∷ b)) (sym kind.order)
        (subst (λ n. (i : ℕ) → i < order_number table.order ^ suc (length b) →
        get_or next.rows i [] ≡ combination (number_field table.order) n (digits (order_number table.order) (suc (length b)) i) (r ∷ b)) (sym kind.len)
        (combined_more filled r b table next h.combines over (power ∙ ap (λ (o : Order). order_number o ^ length b) (sym h.kind.order)) sums));
  };
  well_formed = well_formed;
}
  where
    over : IsMatrixOver (number_field table.order) table.len (r ∷ b)
    over = All-cons (IsVectorOver (number_field table.order) table.len) r b
        (vector_over table.order table.len r (subst (λ (o : Order). All (IsElement o) r) (sym h.kind.order) elements) (long ∙ sym h.kind.len))
        h.matrix

-- ---- the last rows of a list

-- the entries of the last n rows
abbrev pub last_entries : ℕ → List RowValue → List (List ℕ)
last_entries n rows = drop (length rows - n) (map (λ (row : RowValue). row.entries) rows)

pub last_entries-none : (rows : List RowValue) → last_entries 0 rows ≡ []
last_entries-none rows = drop_all (length rows - 0) (map (λ (row : RowValue). row.entries) rows) (omega (arith, length-map rows (λ (row : RowValue). row.entries)))

pub last_entries-all : (n : ℕ) (rows : List RowValue) → length rows ≤ n → last_entries n rows ≡ map (λ (row : RowValue). row.entries) rows
last_entries-all n rows all = ap (λ k. drop k (map (λ (row : RowValue). row.entries) rows)) (let e : length rows - n ≡ 0 = omega arith in e)

pub last_entries-length : (n : ℕ) (rows : List RowValue) → n ≤ length rows → length (last_entries n rows) ≡ n
last_entries-length n rows within =
    length-drop (length rows - n) (map (λ (row : RowValue). row.entries) rows)
    ∙ (let e : length (map (λ (row : RowValue). row.entries) rows) - (length rows - n) ≡ n = omega (arith, length-map rows (λ (row : RowValue). row.entries)) in e)

pub last_entries-more : (n at : ℕ) (rows : List RowValue) (row : RowValue) → at + 1 + n ≡ length rows → row ≡ get_or rows at row →
    last_entries (n + 1) rows ≡ row.entries ∷ last_entries n rows
last_entries-more n at rows row place is =
    ap (λ k. drop k entries) (let e : length rows - (n + 1) ≡ at = omega arith in e)
    ∙ drop_more entries at [] (omega (arith, length-map rows (λ (row : RowValue). row.entries)))
    ∙ ap₂ (λ (r : List ℕ) (b : List (List ℕ)). r ∷ b)
    (get_or-map (λ (row : RowValue). row.entries) rows at row [] (omega arith) ∙ ap (λ (r : RowValue). r.entries) (sym is))
    (ap (λ k. drop k entries) (let e : at + 1 ≡ length rows - n = omega arith in e))
  where
    entries : List (List ℕ)
    entries = map (λ (row : RowValue). row.entries) rows

-- ---- room for one row more

pub room_for_more : (filled n : ℕ) (b : List (List ℕ)) (before table : CombosValue) → IsFilledWith b before table →
    filled ≡ order_number before.order ^ n → n < before.size → filled * order_number table.order ≤ length table.rows
room_for_more filled n b before table h power within =
    let rows : length table.rows ≡ order_number before.order ^ before.size =
    h.well_formed.counted ∙ ap₂ (λ (o : Order) (s : ℕ). order_number o ^ s) h.kind.order h.kind.size in
    let times : filled * order_number table.order ≡ order_number before.order ^ suc n =
    ap₂ (λ a b. a * b) power (ap order_number h.kind.order) ∙ sym (pow-suc (order_number before.order) n) in
    let base : 0 < order_number before.order = omega (arith, order_number-at_least before.order) in
    let exponent : suc n ≤ before.size = omega arith in
    let more : order_number before.order ^ suc n ≤ order_number before.order ^ before.size =
    pow-le-pow_right {n = order_number before.order} base exponent in
    omega (arith, rows, times, more)
