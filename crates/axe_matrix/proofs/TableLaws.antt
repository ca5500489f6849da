-- The rows of tables that combine pieces of a matrix's rows.
use Rattle.std.proofs.Common.{◌≡◌, ℕ, ◌+◌, ◌-◌, ◌^◌, ◌<◌, ◌≤◌, List, [], length, get_or, min, map, take, drop, inl, inr, sym, ap, ◌∙◌, subst, arith}
use Rattle.std.specs.List.{All}
use Rattle.std.specs.Simd.Lanes.{chunk}
use Rattle.std.proofs.Math.Nat.{pow-le-pow_right, pow-zero}
use Rattle.std.proofs.lemmas.Bool.{cases_lt}
use Rattle.std.proofs.lemmas.List.{length-drop, take_all, drop_all, take-map, drop-map}
use Rattle.std.proofs.lemmas.List.Elements.{All-drop, All-take, All-from_get_or, All-get_or}
use Rattle.axe_algebra.specs.Digits.{digits, number_with_digits}
use Rattle.axe_algebra.specs.ListArithmetic.{number_sum, combination_entry, combination}
use Rattle.axe_algebra.proofs.Digits.{number_with_digits-below, digits_of_their_number}
use Rattle.axe_field.specs.CheckedLaws.{order_number-above}
use Rattle.axe_field.specs.Order.{Order, order_number, IsElement}
use Rattle.axe_field.specs.NumberFields.{number_field}
use Rattle.axe_row.specs.Combinations.{CombosValue, Combines, IsRowFor, IsTableOfRows, zero_table}
use Rattle.axe_row.specs.Operations.{multiple}
use Rattle.axe_row.specs.Rows.{RowValue}
use Rattle.axe_row.proofs.OperationLaws.{length-multiple, get_or-multiple}
use Rattle.axe_matrix.specs.PieceTables.{IsTableFor}
use Rattle.axe_matrix.proofs.BlockLaws.{length_of_piece, piece_fits}
use Rattle.axe_matrix.proofs.VectorLaws.{replicate-listed}

-- a new table
pub new_table : (o : Order) (size len : ℕ) (table : CombosValue) → table ≡ zero_table o size len → IsTableOfRows table → IsTableFor o len size table
new_table o size len table is h = record {
  field = ap (λ (t : CombosValue). t.order) is;
  long = ap (λ (t : CombosValue). t.len) is;
  combined = ap (λ (t : CombosValue). t.size) is;
  well_formed = h;
}

-- a table whose first row is zero combines no rows
combines_nothing : (table : CombosValue) → IsTableOfRows table → Combines [] table
unfolding combination combination_entry number_sum
combines_nothing table h = record {
  combined = λ i below. let one : order_number table.order ^ 0 ≡ 1 = pow-zero (order_number table.order) in
      let first : i ≡ 0 = omega (arith, below, one) in
      ap (λ k. get_or table.rows k []) first ∙ h.zero_first ∙ replicate-listed table.len 0;
}

pub combines_past_the_end : (table : CombosValue) (at size : ℕ) (rows : List (List ℕ)) → IsTableOfRows table → length rows ≤ at →
    Combines (chunk at size rows) table
combines_past_the_end table at size rows h past =
    subst (λ piece. Combines piece table)
    (sym (ap (take size) (drop_all at rows past) ∙ take_all size [] (omega arith))) (combines_nothing table h)

-- the entries of a piece of a list of rows
pub entries_of_piece : (rows : List RowValue) (at size end : ℕ) → end ≡ min (at + size) (length rows) →
    map (λ (row : RowValue). row.entries) (take (end - at) (drop at rows)) ≡ chunk at size (map (λ (row : RowValue). row.entries) rows)
entries_of_piece rows at size end is =
    ap (map (λ (row : RowValue). row.entries)) same ∙ sym (ap (take size) (drop-map (λ (row : RowValue). row.entries) at rows) ∙ take-map (λ (row : RowValue). row.entries) size (drop at rows))
  where
    same : take (end - at) (drop at rows) ≡ take size (drop at rows)
    same = elim (cases_lt (length rows) (at + size)) [
      | inl short ↦ take_all (end - at) (drop at rows) (omega (arith, is, length-drop at rows)) ∙ sym (take_all size (drop at rows) (omega (arith, length-drop at rows)))
      | inr long ↦ let whole : end - at ≡ size = omega (arith, is) in ap (λ k. take k (drop at rows)) whole
    ]

module _ (o : Order) (c at size : ℕ) (v : List ℕ) (small : IsElement o c) (over : All (IsElement o) v) where
  -- the piece of the vector that names a row of a table, each entry times c
  abbrev named : List ℕ
  named = multiple (number_field o) c (chunk at size v)

  abbrev name : ℕ
  name = number_with_digits (order_number o) named

  named_elements : All (IsElement o) named
  unfolding number_field
  named_elements = All-from_get_or (IsElement o) named 0 (λ j below.
      let inside : j < length (chunk at size v) = omega (arith, length-multiple (number_field o) c (chunk at size v)) in
      subst (IsElement o) (sym (get_or-multiple (number_field o) c (chunk at size v) j inside))
      ((number_field o).mul-below c _ small (All-get_or (IsElement o) (chunk at size v) j 0 inside (All-take (IsElement o) size (drop at v) (All-drop (IsElement o) at v over)))))

  name-below : name < order_number o ^ length named
  name-below = number_with_digits-below (order_number o) named named_elements

  -- there are so few combinations of so many rows
  pub name-fits : name < order_number o ^ size
  name-fits =
      let long : length named ≤ size =
      omega (arith, length-multiple (number_field o) c (chunk at size v), piece_fits at size v) in
      let most : order_number o ^ length named ≤ order_number o ^ size =
      pow-le-pow_right (let above : 1 < order_number o = order_number-above o in omega arith) long in
      omega (arith, name-below, most)

  -- the row that it names is the combination of the piece of the rows
  pub row_of_table : (b : List (List ℕ)) (table : CombosValue) → length v ≡ length b → table.order ≡ o → Combines (chunk at size b) table →
      get_or table.rows name [] ≡ combination (number_field o) table.len named (chunk at size b)
  row_of_table b table same field combines =
      let long : length named ≡ length (chunk at size b) = length-multiple (number_field o) c (chunk at size v) ∙ length_of_piece at size v b same in
      combines.combined name (subst (λ p. name < order_number p ^ length (chunk at size b)) (sym field) (subst (λ n. name < order_number o ^ n) long name-below))
      ∙ ap (λ p. combination (number_field p) table.len (digits (order_number p) (length (chunk at size b)) name) (chunk at size b)) field
      ∙ ap (λ ds. combination (number_field o) table.len ds (chunk at size b))
      (ap (λ n. digits (order_number o) n name) (sym long) ∙ digits_of_their_number (order_number o) named named_elements)

  -- and the table has it
  pub is_row_for : (columns : ℕ) (row : RowValue) (table : CombosValue) → IsTableFor o columns size table → row.order ≡ o → length row.entries ≡ columns →
      IsRowFor row table name
  is_row_for columns row table h field fits = record {
    within =
        subst (λ n. name < n)
        (sym (h.well_formed.counted ∙ ap (λ p. order_number p ^ table.size) h.field
        ∙ ap (λ n. order_number o ^ n) h.combined)) name-fits;
    field = h.field ∙ sym field;
    fits = h.long ∙ sym fits;
  }
