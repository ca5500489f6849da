-- Rows from which the pivots in a word of 64 columns are cleared.
use Rattle.std.specs.Prelude.{◌≡◌, ◌≢◌, ◌⊎◌, ℕ, zero, suc, ◌+◌, ◌-◌, ◌*◌, ◌/◌, ◌%◌, ◌<◌, ◌≤◌, List, [], ◌∷◌, All, length, get_or, set, cond, eqb, ltb, true}
use Rattle.std.specs.Int.{bit_at}
use Rattle.std.proofs.Common.{inl, inr}
use Rattle.std.proofs.lemmas.List.{get_or_past, length-set}
use Rattle.std.proofs.lemmas.Bool.{eqb-true, lt-ltb, le-ltb}
use Rattle.axe_algebra.specs.Bridge.{vector_of, matrix_of}
use Rattle.axe_algebra.specs.Lists.{IsVectorOver}
use Rattle.axe_algebra.specs.Reduced.{IsZeroAtPivots}
use Rattle.axe_algebra.specs.SpansOfLists.{IsPivot, IsRepresentative}
use Rattle.axe_algebra.proofs.ElementNumbers.{entry-below}
use Rattle.axe_algebra.proofs.ListEntries.{listed_at, listed_length, vector_past}
use Rattle.axe_algebra.proofs.ListVectors.{coset_of_itself}
use Rattle.axe_layer.specs.Supports.{restricted}
use Rattle.axe_layer.proofs.SupportLaws.{length-restricted, restricted_away}
use Rattle.axe_lane.specs.Entries.{AreZerosBefore, AreZerosFrom, AreZerosBetween, IsNextNonzero}
use Rattle.axe_field.specs.Order.{Order, Two, Three, Four, Five, Seven, Eight, Nine, IsElement, order_number, prime_of}
use Rattle.axe_field.specs.Arithmetic.{coefficients, number_of, polynomial_negative, polynomial_of, field_neg}
use Rattle.axe_field.specs.CheckedLaws.{passes_below, passes_below-at}
use Rattle.axe_field.specs.NumberFields.{number_field, gf}
use Rattle.axe_row.specs.Rows.{RowValue, IsRow}
use Rattle.axe_row.specs.BitBlocks.{bits_of_word, bits_after, elements_of_block, IsBlock}
use Rattle.axe_row.specs.EntryWords.{entries_in_word}
use Rattle.axe_row.specs.FoundEntries.{IsNextEntry}
use Rattle.axe_row.specs.Operations.{sum_with_multiple, row_with_multiple}
use Rattle.axe_row.specs.declared.bit_block.BitBlock.{BitBlock}
use Rattle.axe_echelon.specs.Echelons.{EchelonValue}
use Rattle.axe_echelon.specs.PivotTables.{marks_of, HasRoom}
use Rattle.axe_echelon.specs.Subspaces.{rows_of, pivots_of, space_of, IsRowOfForm, AreFormRows, AreTabledRows}
use Rattle.axe_echelon.specs.Subspaces.{IsReducedBelow, IsClearedBelow, IsCleared}
use Rattle.axe_echelon.specs.declared.subspace.PivotRow.{PivotRow}
use Rattle.axe_echelon.specs.declared.pivot_table.PivotTable.{PivotTable}
use Rattle.axe_row.proofs.BlockLaws.{entry_in_word, length-entries_in_word, sum_in_word}
use Rattle.axe_echelon.proofs.ClearingLaws.{IsClearBefore, IsReducedBefore, IsClearedBefore, IsFoundRow, IsNegative, clear_up_to}
use Rattle.axe_echelon.proofs.ClearingLaws.{found_row, room_of_found, place_of_found, reduce_found, clear_found, zeros_before_pivot}
use Rattle.axe_echelon.proofs.PivotLaws.{row_of_pivot, pivot_of_row_at}
use Rattle.axe_echelon.proofs.PivotRowLaws.{length-rows_of, form_row_at}
use Rattle.axe_echelon.proofs.StepLaws.{element_of_below, over_of_row}
use Rattle.axe_echelon.proofs.PivotTableLaws.{restricted_at, restricted_zero, found_is_marked}
use mathlib.Core.Path.{refl, sym, ◌∙◌, ap, ap₂, subst}
use native.Mathlib.Omega.{arith}
use native.Mathlib.Decide.{dec_lt}

-- ---- fields of characteristic 2

negates_two : passes_below 2 (λ a. eqb (field_neg Two a) a) ≡ true
unfolding passes_below field_neg number_of polynomial_negative polynomial_of coefficients
negates_two = refl

negates_four : passes_below 4 (λ a. eqb (field_neg Four a) a) ≡ true
unfolding passes_below field_neg number_of polynomial_negative polynomial_of coefficients
negates_four = refl

negates_eight : passes_below 8 (λ a. eqb (field_neg Eight a) a) ≡ true
unfolding passes_below field_neg number_of polynomial_negative polynomial_of coefficients
negates_eight = refl

own_negative : (o : Order) (a : ℕ) → prime_of o ≡ 2 → IsElement o a → a ≡ field_neg o a
own_negative Two a two element = sym (eqb-true _ _ (passes_below-at 2 (λ a. eqb (field_neg Two a) a) negates_two a element))
own_negative Three a two element = absurd (omega (arith, two))
own_negative Four a two element = sym (eqb-true _ _ (passes_below-at 4 (λ a. eqb (field_neg Four a) a) negates_four a element))
own_negative Five a two element = absurd (omega (arith, two))
own_negative Seven a two element = absurd (omega (arith, two))
own_negative Eight a two element = sym (eqb-true _ _ (passes_below-at 8 (λ a. eqb (field_neg Eight a) a) negates_eight a element))
own_negative Nine a two element = absurd (omega (arith, two))

-- two, four and eight are even
even_size : (size : ℕ) → (size ≡ 2) ⊎ ((size ≡ 4) ⊎ (size ≡ 8)) → size % 2 ≡ 0
even_size size (inl two) = ap (λ k. k % 2) two
even_size size (inr (inl four)) = ap (λ k. k % 2) four
even_size size (inr (inr eight)) = ap (λ k. k % 2) eight

even_of_size : (o : Order) → (order_number o ≡ 2) ⊎ ((order_number o ≡ 4) ⊎ (order_number o ≡ 8)) → prime_of o ≡ 2
even_of_size Two size = refl
even_of_size Three size = absurd (omega (arith, even_size 3 size))
even_of_size Four size = refl
even_of_size Five size = absurd (omega (arith, even_size 5 size))
even_of_size Seven size = absurd (omega (arith, even_size 7 size))
even_of_size Eight size = refl
even_of_size Nine size = absurd (omega (arith, even_size 9 size))

-- over two, four or eight elements an element is its own negative
pub own_negative_of : (o : Order) (a : ℕ) → (order_number o ≡ 2) ⊎ ((order_number o ≡ 4) ⊎ (order_number o ≡ 8)) → IsElement o a → a ≡ field_neg o a
own_negative_of o a size element = own_negative o a (even_of_size o size) element

-- an element is its own negative
pub negative_of_two : (o : Order) (a : ℕ) → prime_of o ≡ 2 → IsElement o a → IsNegative o a a
negative_of_two o a two element = record { element = element; value = own_negative o a two element }

-- ---- how many zeros a list begins with

unfoldable pub zeros_ahead : List ℕ → ℕ
zeros_ahead [] = 0
zeros_ahead (zero ∷ rest) = suc (zeros_ahead rest)
zeros_ahead (suc a ∷ rest) = 0

pub ahead_of_some : (numbers : List ℕ) (j : ℕ) → get_or numbers j 0 ≢ 0 → zeros_ahead numbers ≤ j
unfolding zeros_ahead
ahead_of_some [] j some = absurd (some refl)
ahead_of_some (zero ∷ rest) zero some = absurd (some refl)
ahead_of_some (zero ∷ rest) (suc j) some =
    let more : zeros_ahead (zero ∷ rest) ≡ suc (zeros_ahead rest) = refl in omega (arith, more, ahead_of_some rest j some)
ahead_of_some (suc a ∷ rest) j some = let none : zeros_ahead (suc a ∷ rest) ≡ 0 = refl in omega (arith, none)

pub ahead_of_zeros : (numbers : List ℕ) (n : ℕ) → n ≤ length numbers → ((i : ℕ) → i < n → get_or numbers i 0 ≡ 0) → n ≤ zeros_ahead numbers
unfolding zeros_ahead
ahead_of_zeros numbers zero few zeros = omega arith
ahead_of_zeros [] (suc n) few zeros = absurd (omega (arith, few))
ahead_of_zeros (zero ∷ rest) (suc n) few zeros =
    let more : zeros_ahead (zero ∷ rest) ≡ suc (zeros_ahead rest) = refl in
    omega (arith, more, ahead_of_zeros rest n (omega (arith, few)) (λ i low. zeros (suc i) (omega (arith, low))))
ahead_of_zeros (suc a ∷ rest) (suc n) few zeros = absurd (omega (arith, zeros 0 (omega arith)))

-- ---- the places of one word

pub bit_in_word : (word i : ℕ) → i < 64 → get_or (bits_of_word word) i 0 ≡ bit_at word i
bit_in_word word i low = listed_at 64 (bit_at word) i 0 low

-- the places that are left after one
module _ (old next place : ℕ) (rest : bits_of_word next ≡ bits_after old place) where
  at_place : (i : ℕ) → i < 64 → bit_at next i ≡ cond (ltb place i) (bit_at old i) 0
  at_place i low =
      sym (bit_in_word next i low) ∙ ap (λ (l : List ℕ). get_or l i 0) rest ∙ listed_at 64 (λ i. cond (ltb place i) (bit_at old i) 0) i 0 low

  pub bit_passed : (i : ℕ) → i < 64 → i < place + 1 → bit_at next i ≡ 0
  bit_passed i low passed = at_place i low ∙ ap (λ b. cond b (bit_at old i) 0) (le-ltb place i (omega (arith, passed)))

  pub bit_ahead : (i : ℕ) → i < 64 → place + 1 ≤ i → bit_at next i ≡ bit_at old i
  bit_ahead i low ahead = at_place i low ∙ ap (λ b. cond b (bit_at old i) 0) (lt-ltb place i (omega (arith, ahead)))

  pub fewer_places : place < 64 → get_or (bits_of_word old) place 0 ≢ 0 → 64 - zeros_ahead (bits_of_word next) < 64 - zeros_ahead (bits_of_word old)
  fewer_places low there =
      let before = ahead_of_some (bits_of_word old) place there in
      let after = ahead_of_zeros (bits_of_word next) (place + 1) (omega (arith, low, listed_length 64 (bit_at next)))
      (λ i passed. bit_in_word next i (omega (arith, passed, low)) ∙ bit_passed i (omega (arith, passed, low)) passed) in
      omega (arith, before, after, low)

-- a search among the marks of a word from a start on is one in the row
module _ (marks entries : List ℕ) (places at start : ℕ) (passed : (i : ℕ) → i < 64 → i < start → bit_at places i ≡ 0)
    (ahead : (i : ℕ) → i < 64 → start ≤ i → bit_at places i ≡ get_or marks (at * 64 + i) 0) where
  abbrev bits : List ℕ
  bits = bits_of_word places

  abbrev word : List ℕ
  word = entries_in_word entries at

  same : (i : ℕ) → i < 64 → start ≤ i → get_or (restricted bits word) i 0 ≡ get_or (restricted marks entries) (at * 64 + i) 0
  same i low from =
      restricted_at bits word i
      ∙ ap₂ (λ b e. cond (eqb b 0) 0 e) (bit_in_word places i low ∙ ahead i low from) (entry_in_word entries at i low)
      ∙ sym (restricted_at marks entries (at * 64 + i))

  pub place_low : (place : ℕ) → IsNextNonzero (restricted bits word) 0 place → place < 64
  place_low place found = omega (arith, found.within, length-restricted bits word, length-entries_in_word entries at)

  pub place_marked : (place : ℕ) → IsNextNonzero (restricted bits word) 0 place → get_or bits place 0 ≢ 0
  place_marked place found none = found.nonzero (restricted_away bits word place none)

  place_from : (place : ℕ) → IsNextNonzero (restricted bits word) 0 place → start ≤ place
  place_from place found = at_or (dec_lt place start)
    where
      at_or : Dec (place < start) → start ≤ place
      at_or (yes before) =
          absurd (place_marked place found (bit_in_word places place (place_low place found) ∙ passed place (place_low place found) before))
      at_or (no from) = omega (arith, from)

  pub found_in_row : (place entry : ℕ) → IsNextEntry bits word 0 place entry → IsNextEntry marks entries (at * 64 + start) (at * 64 + place) entry
  found_in_row place entry found = record {
    next = record {
      within = inside (dec_lt (at * 64 + place) (length (restricted marks entries)));
      not_before = omega (arith, from);
      nonzero = nonzero;
      zeros_between = λ j later before.
          let there : at * 64 + (j - at * 64) ≡ j = omega (arith, later) in
          sym (ap (λ k. get_or (restricted marks entries) k 0) there)
          ∙ sym (same (j - at * 64) (omega (arith, later, before, low)) (omega (arith, later)))
          ∙ found.next.zeros_between (j - at * 64) (omega arith) (omega (arith, later, before));
    };
    entry_is = found.entry_is ∙ entry_in_word entries at place low;
  }
    where
      low : place < 64
      low = place_low place found.next

      from : start ≤ place
      from = place_from place found.next

      nonzero : get_or (restricted marks entries) (at * 64 + place) 0 ≢ 0
      nonzero none = found.next.nonzero (same place low from ∙ none)

      inside : Dec (at * 64 + place < length (restricted marks entries)) → at * 64 + place < length (restricted marks entries)
      inside (yes there) = there
      inside (no past) = absurd (nonzero (get_or_past (restricted marks entries) (at * 64 + place) 0 (omega (arith, past))))

  pub none_in_row : AreZerosFrom (restricted bits word) 0 → AreZerosBetween (restricted marks entries) (at * 64 + start) (at * 64 + 64)
  none_in_row zeros j later before =
      let there : at * 64 + (j - at * 64) ≡ j = omega (arith, later) in
      sym (ap (λ k. get_or (restricted marks entries) k 0) there)
      ∙ sym (same (j - at * 64) (omega (arith, later, before)) (omega (arith, later))) ∙ zeros (j - at * 64) (omega arith)

-- ---- the row, while a word is gone through

-- a row from which the pivots in a word of 64 columns are cleared up to a start: the places are the marks from there on
pub record IsHalfCleared (e : EchelonValue) (o : Order) (n : ℕ) (rows : List PivotRow) (table : PivotTable) (at : ℕ) (given row : RowValue)
    (places : ℕ) : Type 0 where
  pub start : ℕ
  pub passed : (i : ℕ) → i < 64 → i < start → bit_at places i ≡ 0
  pub ahead : (i : ℕ) → i < 64 → start ≤ i → bit_at places i ≡ get_or (marks_of table) (at * 64 + i) 0
  pub field : row.order ≡ o
  pub as_long : length row.entries ≡ n
  pub so_far : (first : RowValue) → IsReducedBelow e (at * 64) first given → IsReducedBefore o n rows (at * 64 + start) first row

-- the same with the multipliers of the rows that were added for that: those kept so far, and those of this word
pub record IsHalfClearedWith (e : EchelonValue) (o : Order) (n : ℕ) (rows : List PivotRow) (table : PivotTable) (at : ℕ) (given row : RowValue)
    (places : ℕ) (kept multipliers : RowValue) : Type 0 where
  pub half : IsHalfCleared e o n rows table at given row places
  pub start_low : half.start ≤ 64
  pub multipliers_field : multipliers.order ≡ o
  pub multipliers_long : length multipliers.entries ≡ n
  pub so_far : (first : RowValue) → IsClearedBelow e (at * 64) first given kept →
      IsClearedBefore o n rows (at * 64 + half.start) first row multipliers

-- a row that is 0 at the pivots of the rows before a column is so at those of their span
zeros_below : (o : Order) (n : ℕ) (rows : List PivotRow) (column : ℕ) (row : RowValue) → AreFormRows o n rows → IsClearBefore o n rows column row →
    (j : ℕ) → IsPivot (number_field o) (rows_of rows) j → j < column → vector_of (number_field o) row.entries j ≡ (gf o).zero
zeros_below o n rows column row are clear j pivot ahead = at (row_of_pivot o n rows j are pivot)
  where
    at : (t : ℕ) × (t < length rows) × (get_or (pivots_of rows) t 0 ≡ j) → vector_of (number_field o) row.entries j ≡ (gf o).zero
    at (t, inside, is) =
        subst (λ k. vector_of (number_field o) row.entries k ≡ (gf o).zero) is
        (clear.cleared t (omega (arith, inside, length-rows_of rows)) (omega (arith, ahead, is)))

-- a row that is 0 at the pivots before a column, as callers see it
module _ (e : EchelonValue) (o : Order) (n : ℕ) (rows : List PivotRow) (view : space_of o n rows ≡ e) (are : AreFormRows o n rows) (column : ℕ) (first row : RowValue) where
  pub before_of_below : IsReducedBelow e column first row → IsReducedBefore o n rows column first row
  before_of_below below = at (subst (λ (x : EchelonValue). IsReducedBelow x column first row) (sym view) below)
    where
      at : IsReducedBelow (space_of o n rows) column first row → IsReducedBefore o n rows column first row
      at h = record {
        clear = record {
          field = h.field;
          over = h.over;
          cleared = λ s inside ahead. h.zeros (get_or (pivots_of rows) s 0) (pivot_of_row_at o n rows s are (omega (arith, inside, length-rows_of rows))) ahead;
        };
        in_coset = h.in_coset;
      }

  pub below_of_before : IsReducedBefore o n rows column first row → IsReducedBelow e column first row
  below_of_before h = subst (λ (x : EchelonValue). IsReducedBelow x column first row) view (record {
    field = h.clear.field;
    over = h.clear.over;
    in_coset = h.in_coset;
    zeros = zeros_below o n rows column row are h.clear;
  })

-- with the multipliers
module _ (e : EchelonValue) (o : Order) (n : ℕ) (rows : List PivotRow) (view : space_of o n rows ≡ e) (are : AreFormRows o n rows) (column : ℕ)
    (first row multipliers : RowValue) where
  pub cleared_before_of_below : IsClearedBelow e column first row multipliers → IsClearedBefore o n rows column first row multipliers
  cleared_before_of_below below = at (subst (λ (x : EchelonValue). IsClearedBelow x column first row multipliers) (sym view) below)
    where
      at : IsClearedBelow (space_of o n rows) column first row multipliers → IsClearedBefore o n rows column first row multipliers
      at h = record {
        clear = record {
          field = h.row_field;
          over = h.row_over;
          cleared = λ s inside ahead. h.zeros (get_or (pivots_of rows) s 0) (pivot_of_row_at o n rows s are (omega (arith, inside, length-rows_of rows))) ahead;
        };
        multipliers_field = h.multipliers_field;
        multipliers_over = h.multipliers_over;
        offset = h.offset;
        no_others = λ t inside past. h.no_others t inside (λ i ahead. are.form.before t i inside (omega (arith, ahead, past)));
        few = h.few;
      }

  pub cleared_below_of_before : IsClearedBefore o n rows column first row multipliers → IsClearedBelow e column first row multipliers
  cleared_below_of_before h = subst (λ (x : EchelonValue). IsClearedBelow x column first row multipliers) view (record {
    row_field = h.clear.field;
    multipliers_field = h.multipliers_field;
    row_over = h.clear.over;
    multipliers_over = h.multipliers_over;
    offset = h.offset;
    zeros = zeros_below o n rows column row are h.clear;
    no_others = λ t inside zeros. h.no_others t inside (past t inside zeros (dec_lt (get_or (pivots_of rows) t 0) column));
    few = h.few;
  })
    where
      -- a row that is 0 before the column has its pivot, at which it is 1, there or after it
      past : (t : ℕ) → t < length (rows_of rows) → ((i : ℕ) → i < column → matrix_of (number_field o) (rows_of rows) t i ≡ (gf o).zero) →
          Dec (get_or (pivots_of rows) t 0 < column) → column ≤ get_or (pivots_of rows) t 0
      past t inside zeros (yes ahead) =
          absurd ((gf o).one-not-zero (sym (are.form.one t inside) ∙ zeros (get_or (pivots_of rows) t 0) ahead))
      past t inside zeros (no after) = omega (arith, after)

elements_in_word : (o : Order) (n : ℕ) (entries : List ℕ) (k : ℕ) → IsVectorOver (number_field o) n entries → All (IsElement o) (entries_in_word entries k)
elements_in_word o n entries k over i d inside =
    subst (IsElement o) (sym (listed_at 64 (λ i. get_or entries (k * 64 + i) 0) i d (omega (arith, inside, length-entries_in_word entries k))))
    (element_of_below o o (get_or entries (k * 64 + i) 0) refl (entry-below (number_field o) entries (k * 64 + i) over.elements))

-- what is found by a block that has the entries of a word, over the field of so many elements, of characteristic 2
module _ (o q : Order) (size : ℕ) (same : o ≡ q) (sized : order_number q ≡ size) (two : prime_of q ≡ 2) (block : BitBlock) (word : List ℕ)
    (places : ℕ) (block_is : IsBlock o word block) where
  pub found_by_block : (place entry : ℕ) →
      ((r : Order) → order_number r ≡ size → prime_of r ≤ 3 → IsNextEntry (bits_of_word places) (elements_of_block r block) 0 place entry) →
      IsNextEntry (bits_of_word places) word 0 place entry
  found_by_block place entry found =
      subst (λ (l : List ℕ). IsNextEntry (bits_of_word places) l 0 place entry) block_is.numbers
      (found o (ap order_number same ∙ sized) (omega (arith, ap prime_of same, two)))

  pub none_by_block :
      ((r : Order) → order_number r ≡ size → prime_of r ≤ 3 → AreZerosFrom (restricted (bits_of_word places) (elements_of_block r block)) 0) →
      AreZerosFrom (restricted (bits_of_word places) word) 0
  none_by_block none =
      subst (λ (l : List ℕ). AreZerosFrom (restricted (bits_of_word places) l) 0) block_is.numbers
      (none o (ap order_number same ∙ sized) (omega (arith, ap prime_of same, two)))

-- the next entry that the row's word has among the places
module _ (e : EchelonValue) (o : Order) (n : ℕ) (rows : List PivotRow) (table : PivotTable) (at : ℕ) (given row : RowValue) (places : ℕ)
    (tabled : AreTabledRows o n rows table) (half : IsHalfCleared e o n rows table at given row places) (place entry : ℕ)
    (found : IsNextEntry (bits_of_word places) (entries_in_word row.entries at) 0 place entry) where
  in_row : IsNextEntry (marks_of table) row.entries (at * 64 + half.start) (at * 64 + place) entry
  in_row = found_in_row (marks_of table) row.entries places at half.start half.passed half.ahead place entry found

  low_place : place < 64
  low_place = place_low (marks_of table) row.entries places at half.start half.passed half.ahead place found.next

  pub still_fewer : (left : ℕ) → bits_of_word left ≡ bits_after places place →
      64 - zeros_ahead (bits_of_word left) < 64 - zeros_ahead (bits_of_word places)
  still_fewer left rest =
      fewer_places places left place rest low_place
      (place_marked (marks_of table) row.entries places at half.start half.passed half.ahead place found.next)

  pub pivot_inside : at * 64 + place < n
  pivot_inside = omega (arith, place_of_found (marks_of table) row.entries (at * 64 + half.start) (at * 64 + place) in_row.next, half.as_long)

  room : HasRoom n table
  room = room_of_found o n rows table row.entries (at * 64 + half.start) (at * 64 + place) tabled in_row.next

  pub row_told : at * 64 + place < length table.rows.items
  row_told = omega (arith, pivot_inside, room.rows)

  pub block_told : at * 64 + place < length table.blocks.items
  block_told = omega (arith, pivot_inside, room.blocks)

  pub entry_nonzero : entry ≢ 0
  entry_nonzero none = in_row.next.nonzero
      (restricted_zero (marks_of table) row.entries (at * 64 + place) (sym in_row.entry_is ∙ none))

  over : IsRow row → IsVectorOver (number_field o) n row.entries
  over well = over_of_row o n row half.field well half.as_long

  pub entry_element : IsRow row → IsElement o entry
  entry_element well = element_of_below o o entry refl
      (subst (λ a. a < (number_field o).order) (sym in_row.entry_is)
      (entry-below (number_field o) row.entries (at * 64 + place) (over well).elements))

  -- the row that has its pivot there
  module _ (t : ℕ) (told : t ≡ get_or table.rows.items (at * 64 + place) 0) where
    pub there : IsFoundRow rows (at * 64 + place) t
    there = found_row o n rows table row.entries (at * 64 + half.start) (at * 64 + place) t tabled in_row.next told

    module _ (p : PivotRow) (is : p ≡ get_or rows t p) where
      pub row_there : IsRowOfForm o n p
      row_there = form_row_at o n rows t p tabled.are_rows there.within is

      pub zeros_there : AreZerosBefore p.row.entries (at * 64 + place)
      zeros_there = zeros_before_pivot o n rows t p tabled.are_rows there.within is (at * 64 + place) there.pivot

      -- the row with the multiple of it by the negative of the entry
      module _ (scalar : ℕ) (negative : IsNegative o entry scalar) (next : RowValue) (left : ℕ) (sum : next ≡ row_with_multiple row scalar p.row)
          (long : length next.entries ≡ length row.entries) (well : IsRow next) (rest : bits_of_word left ≡ bits_after places place) where
        pub half_more : IsHalfCleared e o n rows table at given next left
        half_more = record {
          start = place + 1;
          passed = bit_passed places left place rest;
          ahead = λ i low from. bit_ahead places left place rest i low from ∙ half.ahead i low (omega (arith, from, in_row.next.not_before));
          field = ap (λ (r : RowValue). r.order) sum ∙ half.field;
          as_long = long ∙ half.as_long;
          so_far = λ first before.
              subst (λ k. IsReducedBefore o n rows k first next) (let same : at * 64 + place + 1 ≡ at * 64 + (place + 1) = omega arith in same)
              (reduce_found o n rows table (at * 64 + half.start) (at * 64 + place) entry t p first row next scalar tabled (half.so_far first before)
              in_row there is negative sum long well);
        }

        -- the scalar is the multiplier, and takes the place of the row
        pub half_more_with : (kept multipliers following : RowValue) → multipliers.order ≡ o → length multipliers.entries ≡ n →
            ((first : RowValue) → IsClearedBelow e (at * 64) first given kept →
            IsClearedBefore o n rows (at * 64 + half.start) first row multipliers) →
            following ≡ record { order = multipliers.order; entries = set multipliers.entries t scalar } → IsRow following →
            IsHalfClearedWith e o n rows table at given next left kept following
        unfolding half_more
        half_more_with kept multipliers following field as_long so_far placed following_row = record {
          half = half_more;
          start_low = let low : place + 1 ≤ 64 = omega (arith, low_place) in low;
          multipliers_field = ap (λ (r : RowValue). r.order) placed ∙ field;
          multipliers_long = ap (λ (r : RowValue). length r.entries) placed ∙ length-set multipliers.entries t scalar ∙ as_long;
          so_far = λ first before.
              subst (λ k. IsClearedBefore o n rows k first next following)
              (let same : at * 64 + place + 1 ≡ at * 64 + (place + 1) = omega arith in same)
              (clear_found o n rows table (at * 64 + half.start) (at * 64 + place) entry t p first row next multipliers following scalar tabled
              (so_far first before) in_row there is negative sum long well placed following_row);
        }

      -- over a field of characteristic 2 or 3, a block of the row's word with the multiple of the block of that row
      module _ (small : prime_of o ≤ 3) (well : IsRow row) (block other after : BitBlock) (block_is : IsBlock o (entries_in_word row.entries at) block)
          (other_is : other ≡ get_or table.blocks.items (at * 64 + place) other)
          (block_sum : IsElement o entry → (entries others : List ℕ) → All (IsElement o) entries → All (IsElement o) others →
          IsBlock o entries block → IsBlock o others other → IsBlock o (sum_with_multiple (number_field o) entries entry others) after) where
        block_there : IsBlock o (entries_in_word p.row.entries at) other
        block_there =
            subst (λ k. IsBlock o (entries_in_word p.row.entries k) other)
            (let word : (at * 64 + place) / 64 ≡ at = omega (arith, low_place) in word)
            (subst (λ q. IsBlock q (entries_in_word p.row.entries ((at * 64 + place) / 64)) other) row_there.row_field
            (tabled.has_blocks (at * 64 + place) p other
            (found_is_marked (marks_of table) row.entries (at * 64 + half.start) (at * 64 + place) in_row.next)
            (is ∙ ap (λ k. get_or rows k p) told) other_is (omega (arith, ap prime_of row_there.row_field, small))))

        pub block_more : (next : RowValue) → next ≡ row_with_multiple row entry p.row → IsBlock o (entries_in_word next.entries at) after
        block_more next sum =
            subst (λ (l : List ℕ). IsBlock o l after)
            (sym (ap (λ (r : RowValue). entries_in_word r.entries at) sum
            ∙ ap (λ q. entries_in_word (sum_with_multiple (number_field q) row.entries entry p.row.entries) at) half.field
            ∙ sum_in_word o row.entries p.row.entries entry at (row_there.row_over.length_is ∙ sym half.as_long) (entry_element well)))
            (block_sum (entry_element well) (entries_in_word row.entries at) (entries_in_word p.row.entries at)
            (elements_in_word o n row.entries at (over well)) (elements_in_word o n p.row.entries at row_there.row_over) block_is block_there)

-- nothing is gone through yet
pub half_begun : (e : EchelonValue) (o : Order) (n : ℕ) (rows : List PivotRow) (table : PivotTable) (at : ℕ) (given : RowValue) (places : ℕ) →
    space_of o n rows ≡ e → AreFormRows o n rows → given.order ≡ o → length given.entries ≡ n →
    ((i : ℕ) → i < 64 → bit_at places i ≡ get_or (marks_of table) (at * 64 + i) 0) → IsHalfCleared e o n rows table at given given places
half_begun e o n rows table at given places view are field as_long places_are = record {
  start = 0;
  passed = λ i low before. absurd (omega (arith, before));
  ahead = λ i low from. places_are i low;
  field = field;
  as_long = as_long;
  so_far = λ first before. subst (λ k. IsReducedBefore o n rows k first given) (let same : at * 64 ≡ at * 64 + 0 = omega arith in same)
      (before_of_below e o n rows view are (at * 64) first given before);
}

pub half_begun_with : (e : EchelonValue) (o : Order) (n : ℕ) (rows : List PivotRow) (table : PivotTable) (at : ℕ) (given : RowValue) (places : ℕ)
    (kept : RowValue) → space_of o n rows ≡ e → AreFormRows o n rows → given.order ≡ o → length given.entries ≡ n →
    ((i : ℕ) → i < 64 → bit_at places i ≡ get_or (marks_of table) (at * 64 + i) 0) → kept.order ≡ o → length kept.entries ≡ n →
    IsHalfClearedWith e o n rows table at given given places kept kept
unfolding half_begun
half_begun_with e o n rows table at given places kept view are field as_long places_are kept_field kept_long = record {
  half = half_begun e o n rows table at given places view are field as_long places_are;
  start_low = let low : 0 ≤ 64 = omega arith in low;
  multipliers_field = kept_field;
  multipliers_long = kept_long;
  so_far = λ first before. subst (λ k. IsClearedBefore o n rows k first given kept) (let same : at * 64 ≡ at * 64 + 0 = omega arith in same)
      (cleared_before_of_below e o n rows view are (at * 64) first given kept before);
}

-- nothing is left in the word
pub word_cleared : (e : EchelonValue) (o : Order) (n : ℕ) (rows : List PivotRow) (table : PivotTable) (at : ℕ) (given row : RowValue) (places : ℕ) →
    space_of o n rows ≡ e → AreTabledRows o n rows table → IsHalfCleared e o n rows table at given row places →
    AreZerosFrom (restricted (bits_of_word places) (entries_in_word row.entries at)) 0 → (first : RowValue) → IsReducedBelow e (at * 64) first given →
    IsReducedBelow e (at * 64 + 64) first row
word_cleared e o n rows table at given row places view tabled half none first before =
    below_of_before e o n rows view tabled.are_rows (at * 64 + 64) first row (record {
      clear = clear_up_to o n rows table tabled row (at * 64 + half.start) so_far.clear (at * 64 + 64)
          (none_in_row (marks_of table) row.entries places at half.start half.passed half.ahead none);
      in_coset = so_far.in_coset;
    })
  where
    so_far : IsReducedBefore o n rows (at * 64 + half.start) first row
    so_far = half.so_far first before

pub word_cleared_with : (e : EchelonValue) (o : Order) (n : ℕ) (rows : List PivotRow) (table : PivotTable) (at : ℕ) (given row : RowValue)
    (places : ℕ) (kept multipliers : RowValue) → space_of o n rows ≡ e → AreTabledRows o n rows table →
    IsHalfClearedWith e o n rows table at given row places kept multipliers →
    AreZerosFrom (restricted (bits_of_word places) (entries_in_word row.entries at)) 0 → (first : RowValue) →
    IsClearedBelow e (at * 64) first given kept → IsClearedBelow e (at * 64 + 64) first row multipliers
word_cleared_with e o n rows table at given row places kept multipliers view tabled h none first before =
    cleared_below_of_before e o n rows view tabled.are_rows (at * 64 + 64) first row multipliers (record {
      clear = clear_up_to o n rows table tabled row (at * 64 + half.start) so_far.clear (at * 64 + 64)
          (none_in_row (marks_of table) row.entries places at half.start half.passed half.ahead none);
      multipliers_field = so_far.multipliers_field;
      multipliers_over = so_far.multipliers_over;
      offset = so_far.offset;
      no_others = λ t inside past. so_far.no_others t inside (omega (arith, past, h.start_low));
      few = so_far.few;
    })
  where
    half : IsHalfCleared e o n rows table at given row places
    half = h.half

    so_far : IsClearedBefore o n rows (at * 64 + half.start) first row multipliers
    so_far = h.so_far first before

-- ---- none, and all

pub reduced_below_none : (e : EchelonValue) (row : RowValue) → row.order ≡ e.order → IsVectorOver (number_field e.order) e.cols row.entries →
    IsReducedBelow e 0 row row
reduced_below_none e row field over = record {
  field = field;
  over = over;
  in_coset = coset_of_itself (number_field e.order) e.rows row.entries;
  zeros = λ j pivot ahead. absurd (omega (arith, ahead));
}

-- where there are no columns after it, the row is 0 at all pivots
zero_below_all : (e : EchelonValue) (column : ℕ) (row : RowValue) → IsVectorOver (number_field e.order) e.cols row.entries →
    ((j : ℕ) → IsPivot (number_field e.order) e.rows j → j < column → vector_of (number_field e.order) row.entries j ≡ (gf e.order).zero) →
    e.cols ≤ column → IsZeroAtPivots (gf e.order) (length e.rows) (matrix_of (number_field e.order) e.rows)
    (vector_of (number_field e.order) row.entries)
zero_below_all e column row over zeros whole j pivot = at (dec_lt j column)
  where
    at : Dec (j < column) → vector_of (number_field e.order) row.entries j ≡ (gf e.order).zero
    at (yes ahead) = zeros j pivot ahead
    at (no past) = vector_past (number_field e.order) row.entries j (omega (arith, past, whole, over.length_is))

pub reduced_below_all : (e : EchelonValue) (column : ℕ) (first row : RowValue) → IsReducedBelow e column first row → e.cols ≤ column →
    IsRepresentative (number_field e.order) e.rows first.entries row.entries
reduced_below_all e column first row below whole = record {
  in_coset = below.in_coset;
  at_pivots = zero_below_all e column row below.over below.zeros whole;
}

pub cleared_below_all : (e : EchelonValue) (column : ℕ) (first row multipliers : RowValue) → IsClearedBelow e column first row multipliers →
    e.cols ≤ column → IsCleared e first row multipliers
cleared_below_all e column first row multipliers below whole = record {
  row_field = below.row_field;
  multipliers_field = below.multipliers_field;
  row_over = below.row_over;
  multipliers_over = below.multipliers_over;
  offset = below.offset;
  at_pivots = zero_below_all e column row below.row_over below.zeros whole;
  few = below.few;
}
