-- Entries that are put at columns, one after the other: the combination of the unit vectors of these columns.
use Rattle.std.proofs.Common.{◌≡◌, ◌≢◌, ℕ, suc, ◌+◌, ◌<◌, List, [], length, map, get_or, set, replicate, cond, eqb, ◌⊎◌, inl, inr, refl, sym, ap, subst, ◌∙◌, arith}
use Rattle.std.specs.List.{All}
use Rattle.std.proofs.lemmas.Bool.{cases_eq, eq-eqb, ne_eqb}
use Rattle.std.proofs.lemmas.List.{ext_get_or, get_or-map, get_or-replicate, get_or-set_same, get_or-set_other, length-map, length-replicate, length-set}
use Rattle.axe_algebra.specs.NumberField.{NumberField}
use Rattle.axe_algebra.specs.Lists.{entry, listed, unit_row}
use Rattle.axe_algebra.specs.ListArithmetic.{number_sum, combination_entry, combination}
use Rattle.axe_algebra.proofs.ElementNumbers.{number_sum-below}
use Rattle.axe_algebra.proofs.ListEntries.{listed_length, listed_at}
use Rattle.axe_field.specs.Order.{Order, IsElement}
use Rattle.axe_field.specs.Arithmetic.{field_add}
use Rattle.axe_field.specs.NumberFields.{number_field}
use Rattle.axe_field.proofs.Laws.{field_mul-zero}
use Rattle.axe_row.specs.Rows.{RowValue, IsRow}
use Rattle.axe_chop.proofs.Choosing.{unit_row_over}

-- the combination of the first i unit vectors
abbrev pub combined : Order → List ℕ → ℕ → List ℕ → ℕ → List ℕ
combined o v n columns i = listed n (combination_entry (number_field o) v (map (unit_row n) columns) i)

-- the row has the first i entries at their columns
pub record IsPlaced (row : RowValue) (n : ℕ) (columns : List ℕ) (i : ℕ) (placed : RowValue) : Type 0 where
  pub field : placed.order ≡ row.order
  pub entries : placed.entries ≡ combined row.order row.entries n columns i

-- none of them: zeros
combined_none : (o : Order) (v : List ℕ) (n : ℕ) (columns : List ℕ) → replicate n 0 ≡ combined o v n columns 0
unfolding combination_entry number_sum
combined_none o v n columns =
    ext_get_or 0 (replicate n 0) (combined o v n columns 0)
    (length-replicate {A = ℕ} n 0 ∙ sym (listed_length n (combination_entry K v units 0)))
    (λ j inside.
    let below : j < n = omega (arith, inside, length-replicate {A = ℕ} n 0) in
    get_or-replicate n j 0 0 below ∙ sym (listed_at n (combination_entry K v units 0) j 0 below))
  where
    K : NumberField
    K = number_field o

    units : List (List ℕ)
    units = map (unit_row n) columns

-- all of them
combined_all : (o : Order) (v : List ℕ) (n : ℕ) (columns : List ℕ) →
    combined o v n columns (length columns) ≡ combination (number_field o) n v (map (unit_row n) columns)
unfolding combination
combined_all o v n columns =
    ap (λ m. listed n (combination_entry (number_field o) v (map (unit_row n) columns) m))
    (sym (length-map columns (unit_row n)))

module _ (o : Order) (v : List ℕ) (n : ℕ) (columns : List ℕ) (elements : All (IsElement o) v)
    (fits : length v ≡ length columns) where
  abbrev K : NumberField
  K = number_field o

  abbrev units : List (List ℕ)
  units = map (unit_row n) columns

  entry_at : (t j : ℕ) → t < length columns → j < n → entry units t j ≡ cond (eqb (get_or columns t 0) j) 1 0
  entry_at t j below inside =
      ap (λ (r : List ℕ). get_or r j 0) (get_or-map (unit_row n) columns t 0 [] below)
      ∙ listed_at n (λ j. cond (eqb (get_or columns t 0) j) 1 0) j 0 inside

  entry_below : (t j : ℕ) → t < length columns → j < n → entry units t j < K.order
  entry_below t j below inside =
      subst (λ (r : List ℕ). get_or r j 0 < K.order) (sym (get_or-map (unit_row n) columns t 0 [] below))
      ((unit_row_over K n (get_or columns t 0)).elements j 0
      (omega (arith, inside, (unit_row_over K n (get_or columns t 0)).length_is)))

  coefficient_below : (t : ℕ) → t < length columns → get_or v t 0 < K.order
  unfolding number_field
  coefficient_below t below = elements t 0 (omega (arith, below, fits))

  sum_below : (i j : ℕ) → i < length columns → j < n → combination_entry K v units i j < K.order
  unfolding combination_entry
  sum_below i j below inside =
      number_sum-below K i (λ t. K.mul (get_or v t 0) (entry units t j)) (λ t before.
      let early : t < length columns = omega (arith, before, below) in
      K.mul-below (get_or v t 0) (entry units t j) (coefficient_below t early) (entry_below t j early inside))

  sum_suc : (i j : ℕ) →
      combination_entry K v units (suc i) j ≡ K.add (combination_entry K v units i j) (K.mul (get_or v i 0) (entry units i j))
  unfolding combination_entry number_sum
  sum_suc i j = refl

  sum_more : (i j : ℕ) →
      combination_entry K v units (i + 1) j ≡ K.add (combination_entry K v units i j) (K.mul (get_or v i 0) (entry units i j))
  sum_more i j =
      let same : suc i ≡ i + 1 = omega arith in
      subst (λ m. combination_entry K v units m j ≡ K.add (combination_entry K v units i j) (K.mul (get_or v i 0) (entry units i j)))
      same (sum_suc i j)

  times_zero : (a : ℕ) → a < K.order → K.mul a 0 ≡ 0
  unfolding number_field
  times_zero a below = field_mul-zero o a below

  -- one more: it is added at its column
  module _ (i : ℕ) (below : i < length columns) where
    abbrev column : ℕ
    column = get_or columns i 0

    at_column : (j : ℕ) → j < n → column ≡ j →
        combination_entry K v units (i + 1) j ≡ K.add (combination_entry K v units i j) (get_or v i 0)
    at_column j inside same =
        sum_more i j
        ∙ ap (K.add (combination_entry K v units i j))
        (ap (K.mul (get_or v i 0)) (entry_at i j below inside ∙ ap (λ b. cond b 1 0) (eq-eqb column j same))
        ∙ K.mul-one (get_or v i 0) (coefficient_below i below))

    elsewhere : (j : ℕ) → j < n → column ≢ j → combination_entry K v units (i + 1) j ≡ combination_entry K v units i j
    elsewhere j inside other =
        sum_more i j
        ∙ ap (K.add (combination_entry K v units i j))
        (ap (K.mul (get_or v i 0)) (entry_at i j below inside ∙ ap (λ b. cond b 1 0) (ne_eqb column j other))
        ∙ times_zero (get_or v i 0) (coefficient_below i below))
        ∙ K.add-zero (combination_entry K v units i j) (sum_below i j below inside)

    combined_more : (sum : ℕ) → column < n →
        sum ≡ K.add (get_or (combined o v n columns i) column 0) (get_or v i 0) →
        set (combined o v n columns i) column sum ≡ combined o v n columns (i + 1)
    combined_more sum within is =
        ext_get_or 0 (set before column sum) (combined o v n columns (i + 1))
        (long ∙ sym (listed_length n (combination_entry K v units (i + 1))))
        (λ j inside.
        let here : j < n = omega (arith, inside, long) in
        at j here (cases_eq column j) ∙ sym (listed_at n (combination_entry K v units (i + 1)) j 0 here))
      where
        before : List ℕ
        before = combined o v n columns i

        before_count : length before ≡ n
        before_count = listed_length n (combination_entry K v units i)

        long : length (set before column sum) ≡ n
        long = length-set before column sum ∙ before_count

        at : (j : ℕ) → j < n → (column ≡ j) ⊎ (column ≢ j) → get_or (set before column sum) j 0 ≡ combination_entry K v units (i + 1) j
        at j here (inl same) =
            ap (λ k. get_or (set before column sum) k 0) (sym same)
            ∙ get_or-set_same before column sum 0 (omega (arith, within, before_count))
            ∙ is
            ∙ ap (λ k. K.add (get_or before k 0) (get_or v i 0)) same
            ∙ ap (λ x. K.add x (get_or v i 0)) (listed_at n (combination_entry K v units i) j 0 here)
            ∙ sym (at_column j here same)
        at j here (inr other) =
            get_or-set_other before column j sum 0 (λ e. other (sym e))
            ∙ listed_at n (combination_entry K v units i) j 0 here
            ∙ sym (elsewhere j here other)

-- ---- as rows

sum_of_field : (o : Order) (a b : ℕ) → field_add o a b ≡ (number_field o).add a b
unfolding number_field
sum_of_field o a b = refl

module _ (row : RowValue) (n : ℕ) (columns : List ℕ) where
  pub placed_none : (placed : RowValue) (o : Order) → o ≡ row.order → placed ≡ record { order = o; entries = replicate n 0 } →
      IsPlaced row n columns 0 placed
  placed_none placed o field is = record {
    field = ap (λ (r : RowValue). r.order) is ∙ field;
    entries = ap (λ (r : RowValue). r.entries) is ∙ combined_none row.order row.entries n columns;
  }

  pub placed_count : (i : ℕ) (placed : RowValue) → IsPlaced row n columns i placed → length placed.entries ≡ n
  placed_count i placed so_far =
      ap (λ (entries : List ℕ). length entries) so_far.entries
      ∙ listed_length n (combination_entry (number_field row.order) row.entries (map (unit_row n) columns) i)

  pub placed_more : (i : ℕ) (placed next : RowValue) (sum : ℕ) → IsRow row → length row.entries ≡ length columns →
      i < length columns → All (λ column. column < n) columns → IsPlaced row n columns i placed →
      sum ≡ field_add row.order (get_or placed.entries (get_or columns i 0) 0) (get_or row.entries i 0) →
      next ≡ record { order = placed.order; entries = set placed.entries (get_or columns i 0) sum } →
      IsPlaced row n columns (i + 1) next
  placed_more i placed next sum is_row fits below within so_far sum_is next_is = record {
    field = ap (λ (r : RowValue). r.order) next_is ∙ so_far.field;
    entries = ap (λ (r : RowValue). r.entries) next_is
        ∙ ap (λ (entries : List ℕ). set entries (get_or columns i 0) sum) so_far.entries
        ∙ combined_more row.order row.entries n columns is_row.elements fits i below sum (within i 0 below)
        (sum_is ∙ ap (λ (entries : List ℕ). field_add row.order (get_or entries (get_or columns i 0) 0) (get_or row.entries i 0))
        so_far.entries ∙ sum_of_field row.order (get_or (combined row.order row.entries n columns i) (get_or columns i 0) 0) (get_or row.entries i 0));
  }

  pub placed_all : (i : ℕ) (placed : RowValue) → i ≡ length columns → IsPlaced row n columns i placed →
      placed ≡ record { order = row.order; entries = combination (number_field row.order) n row.entries (map (unit_row n) columns) }
  placed_all i placed whole so_far = λ k. record { order = so_far.field k; entries = all k }
    where
      all : placed.entries ≡ combination (number_field row.order) n row.entries (map (unit_row n) columns)
      all =
          so_far.entries ∙ ap (combined row.order row.entries n columns) whole
          ∙ combined_all row.order row.entries n columns
