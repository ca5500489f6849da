-- Held rows from which the pivots in a word of 64 columns are cleared.
use Rattle.std.specs.Prelude.{◌≡◌, ℕ, ◌+◌, ◌*◌, ◌/◌, ◌<◌, ◌≤◌, List, length, get_or, replicate}
use Rattle.axe_algebra.specs.Vectors.{Vector, zero_vector, add_vectors, times}
use Rattle.axe_algebra.specs.Bridge.{vector_of, matrix_of}
use Rattle.axe_algebra.specs.Lists.{IsVectorOver}
use Rattle.axe_algebra.specs.SpansOfLists.{IsPivot}
use Rattle.axe_algebra.proofs.ListEntries.{vector_past}
use Rattle.axe_algebra.proofs.ProductLaws.{times_zero}
use Rattle.axe_field.specs.NumberFields.{number_field, gf}
use Rattle.axe_field.specs.Order.{Order}
use Rattle.axe_lane.specs.Entries.{AreZerosBefore}
use Rattle.axe_row.specs.BitBlocks.{bits_of_word, IsBlockOf}
use Rattle.axe_row.specs.EntryWords.{entries_in_word}
use Rattle.axe_row.specs.FoundEntries.{IsNextEntry}
use Rattle.axe_row.specs.Rows.{RowValue}
use Rattle.axe_row.specs.declared.bit_block.BitBlock.{BitBlock}
use Rattle.axe_echelon.specs.Echelons.{EchelonValue}
use Rattle.axe_echelon.specs.PivotTables.{marks_of}
use Rattle.axe_echelon.specs.Subspaces.{IsReducedBelow, IsClearedBelow, AreTabledRows}
use Rattle.axe_echelon.specs.declared.subspace.PivotRow.{PivotRow}
use Rattle.axe_echelon.specs.declared.pivot_table.PivotTable.{PivotTable}
use Rattle.axe_echelon.proofs.PivotTableLaws.{found_is_marked}
use Rattle.axe_echelon.proofs.StepLaws.{zeros_over, vector_of_zeros}
use Rattle.axe_echelon.proofs.WordsOfPivots.{IsHalfCleared, found_in_row, place_low, zeros_there}
use mathlib.Core.Path.{sym, ◌∙◌, ap, subst, fun_ext}
use native.Mathlib.Omega.{arith}
use native.Mathlib.Decide.{dec_lt}

-- what is kept of the row that has its pivot at the next entry among the places
module _ (e : EchelonValue) (o : Order) (n : ℕ) (rows : List PivotRow) (table : PivotTable) (at : ℕ) (given row : RowValue) (places : ℕ)
    (tabled : AreTabledRows o n rows table) (half : IsHalfCleared e o n rows table at given row places) (place entry : ℕ)
    (found : IsNextEntry (bits_of_word places) (entries_in_word row.entries at) 0 place entry) (t : ℕ)
    (told : t ≡ get_or table.rows.items (at * 64 + place) 0) (p : PivotRow) (is : p ≡ get_or rows t p) where
  pub zeros_before_word : AreZerosBefore p.row.entries (at * 64)
  zeros_before_word j low =
      zeros_there e o n rows table at given row places tabled half place entry found t told p is j (omega (arith, low))

  pub block_of_word : (block : BitBlock) → block ≡ get_or table.blocks.items (at * 64 + place) block → IsBlockOf p.row at block
  block_of_word block block_is =
      subst (λ k. IsBlockOf p.row k block)
      (let word : (at * 64 + place) / 64 ≡ at =
      omega (arith, place_low (marks_of table) row.entries places at half.start half.passed half.ahead place found.next) in word)
      (tabled.has_blocks (at * 64 + place) p block
      (found_is_marked (marks_of table) row.entries (at * 64 + half.start) (at * 64 + place)
      (found_in_row (marks_of table) row.entries places at half.start half.passed half.ahead place entry found).next)
      (is ∙ ap (λ k. get_or rows k p) told) block_is)

-- nothing is cleared yet, and each multiplier is 0
pub cleared_below_none : (e : EchelonValue) (row multipliers : RowValue) → row.order ≡ e.order →
    IsVectorOver (number_field e.order) e.cols row.entries → multipliers ≡ record { order = e.order; entries = replicate e.cols 0 } →
    IsClearedBelow e 0 row row multipliers
cleared_below_none e row multipliers field over none = record {
  row_field = field;
  multipliers_field = ap (λ (r : RowValue). r.order) none;
  row_over = over;
  multipliers_over = subst (λ (r : RowValue). IsVectorOver (number_field e.order) e.cols r.entries) (sym none) (zeros_over e.order e.cols);
  offset = fun_ext (λ j. sym ((gf e.order).add-zero (vector_of (number_field e.order) row.entries j)))
      ∙ ap (add_vectors (gf e.order) (vector_of (number_field e.order) row.entries))
      (sym (times_zero (gf e.order) (length e.rows) (matrix_of (number_field e.order) e.rows))
      ∙ ap (λ (x : Vector (gf e.order)). times (gf e.order) (length e.rows) x (matrix_of (number_field e.order) e.rows)) (sym no_multipliers));
  zeros = λ j pivot ahead. absurd (omega (arith, ahead));
  no_others = λ t below past. ap (λ (x : Vector (gf e.order)). x t) no_multipliers;
  few = λ j past. ap (λ (x : Vector (gf e.order)). x j) no_multipliers;
}
  where
    no_multipliers : vector_of (number_field e.order) multipliers.entries ≡ zero_vector (gf e.order)
    no_multipliers = ap (λ (r : RowValue). vector_of (number_field e.order) r.entries) none ∙ vector_of_zeros e.order e.cols

-- a row that is 0 at the pivots before a column after which there are none is 0 at all pivots
zeros_past : (e : EchelonValue) (column : ℕ) (row : RowValue) → IsVectorOver (number_field e.order) e.cols row.entries →
    ((j : ℕ) → IsPivot (number_field e.order) e.rows j → j < column → vector_of (number_field e.order) row.entries j ≡ (gf e.order).zero) →
    e.cols ≤ column → (j : ℕ) → IsPivot (number_field e.order) e.rows j → vector_of (number_field e.order) row.entries j ≡ (gf e.order).zero
zeros_past e column row over zeros whole j pivot = at (dec_lt j column)
  where
    at : Dec (j < column) → vector_of (number_field e.order) row.entries j ≡ (gf e.order).zero
    at (yes ahead) = zeros j pivot ahead
    at (no past) = vector_past (number_field e.order) row.entries j (omega (arith, past, whole, over.length_is))

pub reduced_past : (e : EchelonValue) (column more : ℕ) (first row : RowValue) → e.cols ≤ column → IsReducedBelow e column first row →
    IsReducedBelow e more first row
reduced_past e column more first row whole below = record {
  field = below.field;
  over = below.over;
  in_coset = below.in_coset;
  zeros = λ j pivot ahead. zeros_past e column row below.over below.zeros whole j pivot;
}

pub cleared_past : (e : EchelonValue) (column more : ℕ) (first row multipliers : RowValue) → e.cols ≤ column → column ≤ more →
    IsClearedBelow e column first row multipliers → IsClearedBelow e more first row multipliers
cleared_past e column more first row multipliers whole up below = record {
  row_field = below.row_field;
  multipliers_field = below.multipliers_field;
  row_over = below.row_over;
  multipliers_over = below.multipliers_over;
  offset = below.offset;
  zeros = λ j pivot ahead. zeros_past e column row below.row_over below.zeros whole j pivot;
  no_others = λ t inside zeros. below.no_others t inside (λ i ahead. zeros i (omega (arith, ahead, up)));
  few = below.few;
}
