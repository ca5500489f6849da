-- The blocks of a generator by the pivots of a span and the other columns, row by row.
use Rattle.std.specs.Prelude.{◌≡◌, ℕ, ◌+◌, ◌<◌, ◌≤◌, ◌⊎◌, ◌↔◌, List, [], ◌∷◌, ◌++◌, length, get_or, map, All, Bool, true, false, IsTrue, Result, None, IfOk}
use Rattle.std.proofs.lemmas.List.{length-append, length-map, map-append, get_or-append-add}
use Rattle.std.proofs.lemmas.List.Elements.{All-from_get_or}
use Rattle.axe_field.specs.Order.{Order}
use Rattle.axe_row.specs.Rows.{RowValue}
use Rattle.axe_row.specs.Refusals.{Answers}
use Rattle.axe_row.specs.declared.refusals.Refusal.{Refusal}
use Rattle.axe_matrix.specs.Matrices.{MatrixValue, IsMatrix, columns_at, rows_at}
use Rattle.axe_matrix.specs.Limits.{most_columns}
use Rattle.axe_matrix.specs.RowLists.{AreRowsOf}
use Rattle.axe_echelon.proofs.Exits.{answers_with}
use Rattle.axe_echelon.proofs.FormLaws.{below_or_at}
use Rattle.axe_action.specs.FreeColumns.{AreComplementary, IsNextPivot}
use Rattle.axe_action.specs.Blocks.{with_entries, IsPivotRowNext, FitsBlocks, AreWithPivotRow, AreWithOtherRow, AreBlocksWith}
use Rattle.axe_action.specs.declared.blocks.Blocks.{Blocks}
use Rattle.axe_action.proofs.ColumnLaws.{HasFirstEntries, entries_none, entries_more, entries_all}
use Rattle.axe_action.proofs.EntryLaws.{chosen_length, chosen_row}
use mathlib.Core.Logic.{inl, inr}
use mathlib.Core.Path.{refl, sym, ◌∙◌, ap, subst}
use native.Mathlib.Omega.{arith}
use native.Mathlib.Decide.{ℕ_discrete, dec_lt}

-- the first k pivots and the first l other columns are those below their sum
pub record AreTaken (pivots columns : List ℕ) (k l : ℕ) : Type 0 where
  pub few_pivots : k ≤ length pivots
  pub few_columns : l ≤ length columns
  pub pivots_before : (t : ℕ) → t < k → get_or pivots t 0 < k + l
  pub pivots_after : (t : ℕ) → k ≤ t → t < length pivots → k + l ≤ get_or pivots t 0
  pub columns_before : (t : ℕ) → t < l → get_or columns t 0 < k + l
  pub columns_after : (t : ℕ) → l ≤ t → t < length columns → k + l ≤ get_or columns t 0

pub none_taken : (pivots columns : List ℕ) → AreTaken pivots columns 0 0
none_taken pivots columns = record {
  few_pivots = omega arith;
  few_columns = omega arith;
  pivots_before = λ t below. absurd (omega arith);
  pivots_after = λ t from inside. omega arith;
  columns_before = λ t below. absurd (omega arith);
  columns_after = λ t from inside. omega arith;
}

module _ (n : ℕ) (pivots columns : List ℕ) (both : AreComplementary n pivots columns) (k l : ℕ) (taken : AreTaken pivots columns k l) where
  -- one more pivot
  pivot_taken : IsNextPivot pivots k l → AreTaken pivots columns (k + 1) l
  pivot_taken next = record {
    few_pivots = omega (arith, next.0);
    few_columns = taken.few_columns;
    pivots_before = λ t below. below_or_at (λ t. get_or pivots t 0 < k + 1 + l) k
        (λ t before. let small : get_or pivots t 0 < k + l = taken.pivots_before t before in omega arith)
        (omega (arith, next.1)) t (omega arith);
    pivots_after = λ t from inside. omega (arith, next.1, both.pivots_ascend k t (omega arith) inside);
    columns_before = λ t below. let small : get_or columns t 0 < k + l = taken.columns_before t below in omega arith;
    columns_after = λ t from inside.
        let other : ¬ (get_or columns t 0 ≡ k + l) = λ same. both.apart k t next.0 inside (next.1 ∙ sym same) in
        omega (arith, other, taken.columns_after t from inside);
  }

  -- one more other column
  column_taken : l < length columns → get_or columns l 0 ≡ k + l → AreTaken pivots columns k (l + 1)
  column_taken small place = record {
    few_pivots = taken.few_pivots;
    few_columns = omega (arith, small);
    pivots_before = λ t below. let before : get_or pivots t 0 < k + l = taken.pivots_before t below in omega arith;
    pivots_after = λ t from inside.
        let other : ¬ (get_or pivots t 0 ≡ k + l) = λ same. both.apart t l inside small (same ∙ sym place) in
        omega (arith, other, taken.pivots_after t from inside);
    columns_before = λ t below. below_or_at (λ t. get_or columns t 0 < k + (l + 1)) l
        (λ t before. let less : get_or columns t 0 < k + l = taken.columns_before t before in omega arith)
        (omega (arith, place)) t (omega arith);
    columns_after = λ t from inside. omega (arith, place, both.columns_ascend l t (omega arith) inside);
  }

  -- a column that is not the next pivot is the next other one
  next_column : k + l < n → ¬ (IsNextPivot pivots k l) → (l < length columns) × (get_or columns l 0 ≡ k + l)
  next_column below not = at (both.every (k + l) below)
    where
      pivot : (t : ℕ) → t < length pivots → get_or pivots t 0 ≡ k + l → Dec (t < k) → Dec (t ≡ k) → ⊥
      pivot t small same (yes before) _ = omega (arith, same, taken.pivots_before t before)
      pivot t small same (no _) (yes e) = not (omega (arith, small, e), ap (λ x. get_or pivots x 0) (sym e) ∙ same)
      pivot t small same (no past) (no other) =
          let less : k < t = omega (arith, past, other) in
          omega (arith, same, both.pivots_ascend k t less small, taken.pivots_after k (omega arith) (omega (arith, less, small)))

      column : (t : ℕ) → t < length columns → get_or columns t 0 ≡ k + l → Dec (t < l) → Dec (t ≡ l) → (l < length columns) × (get_or columns l 0 ≡ k + l)
      column t small same (yes before) _ = absurd (omega (arith, same, taken.columns_before t before))
      column t small same (no _) (yes e) = (omega (arith, small, e), ap (λ x. get_or columns x 0) (sym e) ∙ same)
      column t small same (no past) (no other) =
          let less : l < t = omega (arith, past, other) in
          absurd (omega (arith, same, both.columns_ascend l t less small, taken.columns_after l (omega arith) (omega (arith, less, small))))

      at : ((t : ℕ) × (t < length pivots) × (get_or pivots t 0 ≡ k + l)) ⊎ ((t : ℕ) × (t < length columns) × (get_or columns t 0 ≡ k + l)) →
          (l < length columns) × (get_or columns l 0 ≡ k + l)
      at (inl (t, small, same)) = absurd (pivot t small same (dec_lt t k) (ℕ_discrete t k))
      at (inr (t, small, same)) = column t small same (dec_lt t l) (ℕ_discrete t l)

  -- where all columns were taken, all pivots and all others were
  pivots_whole : k + l ≡ n → k ≡ length pivots
  pivots_whole whole = at (dec_lt k (length pivots))
    where
      at : Dec (k < length pivots) → k ≡ length pivots
      at (yes less) = absurd (omega (arith, whole, taken.pivots_after k (omega arith) less, both.pivots_below k less))
      at (no all) = omega (arith, all, taken.few_pivots)

  columns_whole : k + l ≡ n → l ≡ length columns
  columns_whole whole = at (dec_lt l (length columns))
    where
      at : Dec (l < length columns) → l ≡ length columns
      at (yes less) = absurd (omega (arith, whole, taken.columns_after l (omega arith) less, both.columns_below l less))
      at (no all) = omega (arith, all, taken.few_columns)

-- the blocks of the rows so far, of which k are at pivots and l at other columns
pub record AreBlocks (g : MatrixValue) (pivots columns : List ℕ) (k l : ℕ) (blocks : Blocks) : Type 0 where
  pub at_pivots : HasFirstEntries pivots (rows_at pivots g) k blocks.at_pivots
  pub across : HasFirstEntries pivots (rows_at columns g) l blocks.across
  pub at_columns : HasFirstEntries columns (rows_at columns g) l blocks.at_columns
  pub taken : AreTaken pivots columns k l

module _ (g : MatrixValue) (pivots columns : List ℕ) (both : AreComplementary g.cols pivots columns) (k l : ℕ) (blocks : Blocks)
    (are : AreBlocks g pivots columns k l blocks) where
  -- a row at a pivot
  pub blocks_pivot : (after : Blocks) (v : List ℕ) → v ≡ get_or g.rows (k + l) [] → IsNextPivot pivots k l → AreWithPivotRow pivots v blocks after →
      AreBlocks g pivots columns (k + 1) l after
  blocks_pivot after v row_is is_next more = record {
    at_pivots = entries_more pivots (rows_at pivots g) k blocks.at_pivots after.at_pivots v are.at_pivots
        (row_is ∙ ap (λ j. get_or g.rows j []) (sym is_next.1) ∙ sym (chosen_row pivots g.rows k is_next.0)) more.at_pivots more.formed;
    across = subst (HasFirstEntries pivots (rows_at columns g) l) (sym more.across) are.across;
    at_columns = subst (HasFirstEntries columns (rows_at columns g) l) (sym more.at_columns) are.at_columns;
    taken = pivot_taken g.cols pivots columns both k l are.taken is_next;
  }

  -- a row at another column
  pub blocks_column : (after : Blocks) (v : List ℕ) → v ≡ get_or g.rows (k + l) [] → k + l < g.cols → ¬ (IsNextPivot pivots k l) →
      AreWithOtherRow pivots columns v blocks after → AreBlocks g pivots columns k (l + 1) after
  blocks_column after v row_is below not more = record {
    at_pivots = subst (HasFirstEntries pivots (rows_at pivots g) k) (sym more.at_pivots) are.at_pivots;
    across = entries_more pivots (rows_at columns g) l blocks.across after.across v are.across (row_is ∙ place) more.across more.across_formed;
    at_columns = entries_more columns (rows_at columns g) l blocks.at_columns after.at_columns v are.at_columns (row_is ∙ place) more.at_columns
        more.columns_formed;
    taken = column_taken g.cols pivots columns both k l are.taken next.0 next.1;
  }
    where
      next : (l < length columns) × (get_or columns l 0 ≡ k + l)
      next = next_column g.cols pivots columns both k l are.taken below not

      place : get_or g.rows (k + l) [] ≡ get_or (rows_at columns g).rows l []
      place = ap (λ j. get_or g.rows j []) (sym next.1) ∙ sym (chosen_row columns g.rows l next.0)

  -- all rows
  pub blocks_whole : k + l ≡ g.cols →
      (blocks.at_pivots ≡ columns_at pivots (rows_at pivots g)) × (blocks.across ≡ columns_at pivots (rows_at columns g))
      × (blocks.at_columns ≡ columns_at columns (rows_at columns g))
  blocks_whole whole = (
    entries_all pivots (rows_at pivots g) k blocks.at_pivots are.at_pivots
        (pivots_whole g.cols pivots columns both k l are.taken whole ∙ sym (chosen_length pivots g.rows)),
    entries_all pivots (rows_at columns g) l blocks.across are.across
        (columns_whole g.cols pivots columns both k l are.taken whole ∙ sym (chosen_length columns g.rows)),
    entries_all columns (rows_at columns g) l blocks.at_columns are.at_columns
        (columns_whole g.cols pivots columns both k l are.taken whole ∙ sym (chosen_length columns g.rows)),
  )

-- the next row of a generator
module _ (g : MatrixValue) (done left rest : List RowValue) (row : RowValue) (rows : AreRowsOf g (done ++ left)) (next_is : left ≡ row ∷ rest) where
  lists : g.rows ≡ map (λ (r : RowValue). r.entries) done ++ row.entries ∷ map (λ (r : RowValue). r.entries) rest
  lists =
      sym rows.entries ∙ ap (λ (l : List RowValue). map (λ (r : RowValue). r.entries) (done ++ l)) next_is
      ∙ map-append (λ (r : RowValue). r.entries) done (row ∷ rest)

  pub row_below : length done < length g.rows
  row_below =
      let all : length g.rows ≡ length (map (λ (r : RowValue). r.entries) done ++ row.entries ∷ map (λ (r : RowValue). r.entries) rest) =
      ap (λ (l : List (List ℕ)). length l) lists in
      omega (
        arith,
        all,
        length-append (map (λ (r : RowValue). r.entries) done) (row.entries ∷ map (λ (r : RowValue). r.entries) rest),
        length-map done (λ (r : RowValue). r.entries),
      )

  pub row_at_next : row.entries ≡ get_or g.rows (length done) []
  row_at_next =
      let place : length done ≡ length (map (λ (r : RowValue). r.entries) done) + 0 = omega (arith, length-map done (λ (r : RowValue). r.entries)) in
      sym (
      ap (λ (l : List (List ℕ)). get_or l (length done) []) lists
      ∙ ap (λ k. get_or (map (λ (r : RowValue). r.entries) done ++ row.entries ∷ map (λ (r : RowValue). r.entries) rest) k []) place
      ∙ get_or-append-add (map (λ (r : RowValue). r.entries) done) (row.entries ∷ map (λ (r : RowValue). r.entries) rest) 0 []
      )

-- where none is left, all were taken
pub rows_whole : (g : MatrixValue) (done left : List RowValue) → AreRowsOf g (done ++ left) → left ≡ [] → length done ≡ length g.rows
rows_whole g done left rows none =
    omega (
      arith,
      length-append done left,
      length-map (done ++ left) (λ (r : RowValue). r.entries),
      ap (λ (l : List (List ℕ)). length l) rows.entries,
      ap (λ (l : List RowValue). length l) none,
    )

-- the columns of both kinds are within
pivots_within : (n : ℕ) (pivots columns : List ℕ) → AreComplementary n pivots columns → All (λ column. column < n) pivots
pivots_within n pivots columns both = All-from_get_or (λ column. column < n) pivots 0 both.pivots_below

columns_within : (n : ℕ) (pivots columns : List ℕ) → AreComplementary n pivots columns → All (λ column. column < n) columns
columns_within n pivots columns both = All-from_get_or (λ column. column < n) columns 0 both.columns_below

-- what a test for the next pivot tells
pub next_if : (pivots given : List ℕ) (taken passed k l : ℕ) (test : Bool) → given ≡ pivots → taken ≡ k → passed ≡ l →
    (IsTrue test ↔ IsNextPivot given taken passed) → test ≡ true → IsNextPivot pivots k l
next_if pivots given taken passed k l test same first second exactly is =
    subst (λ p. IsNextPivot p k l) same (subst (λ x. IsNextPivot given x l) first (subst (λ y. IsNextPivot given taken y) second (exactly.0 is)))

pub not_next : (pivots given : List ℕ) (taken passed k l : ℕ) (test : Bool) → given ≡ pivots → taken ≡ k → passed ≡ l →
    (IsTrue test ↔ IsNextPivot given taken passed) → test ≡ false → ¬ (IsNextPivot pivots k l)
not_next pivots given taken passed k l test same first second exactly is = λ next.
    let here : IsNextPivot given k l = subst (λ p. IsNextPivot p k l) (sym same) next in
    different test is (exactly.1 (subst (λ x. IsNextPivot given x passed) (sym first) (subst (λ y. IsNextPivot given k y) (sym second) here)))
  where
    different : (b : Bool) → b ≡ false → b ≡ true → ⊥
    different b first second = cc

-- the entries of a row at a pivot were appended to the first block
pub pivot_row_added : {T : Type 0} (pivots columns v : List ℕ) (before : Blocks) (x : MatrixValue) (result : Result T Refusal) → IsPivotRowNext pivots before →
    Answers None (λ _. x ≡ with_entries before.at_pivots pivots v) result → IfOk result (λ _. IsMatrix x) →
    Answers None (λ _. AreBlocksWith pivots columns v before (record before { at_pivots = x })) result
pivot_row_added pivots columns v before x result next appended formed =
    answers_with result (λ _. x ≡ with_entries before.at_pivots pivots v) (λ _. IsMatrix x)
    (λ _. AreBlocksWith pivots columns v before (record before { at_pivots = x })) appended formed
    (λ _ is x_formed. inl (record { is_next = next; at_pivots = is; across = refl; at_columns = refl; formed = x_formed }))

-- those of a row at another column to the other blocks
pub other_row_added : {T : Type 0} (pivots columns v : List ℕ) (before : Blocks) (y z : MatrixValue) (result : Result T Refusal) →
    ¬ (IsPivotRowNext pivots before) → y ≡ with_entries before.across pivots v → IsMatrix y →
    Answers None (λ _. z ≡ with_entries before.at_columns columns v) result → IfOk result (λ _. IsMatrix z) →
    Answers None (λ _. AreBlocksWith pivots columns v before (record before { across = y; at_columns = z })) result
other_row_added pivots columns v before y z result other y_is y_formed appended formed =
    answers_with result (λ _. z ≡ with_entries before.at_columns columns v) (λ _. IsMatrix z)
    (λ _. AreBlocksWith pivots columns v before (record before { across = y; at_columns = z })) appended formed
    (λ _ is z_formed. inr (record {
      is_other = other;
      at_pivots = refl;
      across = y_is;
      at_columns = is;
      across_formed = y_formed;
      columns_formed = z_formed;
    }))

-- the blocks of the first i rows
pub record AreBlocksSoFar (g : MatrixValue) (pivots columns : List ℕ) (i : ℕ) (blocks : Blocks) : Type 0 where
  pub pivot_rows : ℕ
  pub other_rows : ℕ
  pub are : AreBlocks g pivots columns pivot_rows other_rows blocks
  pub count : pivot_rows + other_rows ≡ i

-- those of no rows
pub blocks_none : (g : MatrixValue) (pivots columns : List ℕ) (o : Order) (s m : ℕ) (blocks : Blocks) → o ≡ g.order → s ≡ length pivots → m ≡ length columns →
    blocks.at_pivots ≡ record { order = o; cols = s; rows = [] } → blocks.across ≡ record { order = o; cols = s; rows = [] } →
    blocks.at_columns ≡ record { order = o; cols = m; rows = [] } →
    IsMatrix blocks.at_pivots × IsMatrix blocks.across × IsMatrix blocks.at_columns → AreBlocksSoFar g pivots columns 0 blocks
blocks_none g pivots columns o s m blocks field wide other a_is b_is c_is formed = record {
  pivot_rows = 0;
  other_rows = 0;
  are = record {
    at_pivots = entries_none pivots (rows_at pivots g) o s blocks.at_pivots field wide a_is formed.0;
    across = entries_none pivots (rows_at columns g) o s blocks.across field wide b_is formed.1;
    at_columns = entries_none columns (rows_at columns g) o m blocks.at_columns field other c_is formed.2;
    taken = none_taken pivots columns;
  };
  count = refl;
}

module _ (g : MatrixValue) (pivots columns : List ℕ) (both : AreComplementary g.cols pivots columns) (square : length g.rows ≡ g.cols) (done : List RowValue)
    (row : RowValue) (blocks : Blocks) (so_far : AreBlocksSoFar g pivots columns (length done) blocks) (below : length done < length g.rows)
    (here : row.entries ≡ get_or g.rows (length done) []) where
  abbrev k : ℕ
  k = so_far.pivot_rows

  abbrev l : ℕ
  l = so_far.other_rows

  at_count : row.entries ≡ get_or g.rows (k + l) []
  at_count = here ∙ ap (λ j. get_or g.rows j []) (sym so_far.count)

  inside : k + l < g.cols
  inside = omega (arith, below, so_far.count, square)

  grown : length (done ++ row ∷ []) ≡ length done + 1
  grown = length-append done (row ∷ [])

  -- so many rows stand in the blocks
  by_numbers : IsPivotRowNext pivots blocks → IsNextPivot pivots k l
  by_numbers next = coe 0 1 (i. IsNextPivot pivots (so_far.are.at_pivots.count i) (so_far.are.across.count i)) next

  by_blocks : IsNextPivot pivots k l → IsPivotRowNext pivots blocks
  by_blocks next = coe 1 0 (i. IsNextPivot pivots (so_far.are.at_pivots.count i) (so_far.are.across.count i)) next

  -- the blocks with the row
  pub so_far_more : (after : Blocks) → AreBlocksWith pivots columns row.entries blocks after →
      AreBlocksSoFar g pivots columns (length (done ++ row ∷ [])) after
  so_far_more after (inl more) = record {
    pivot_rows = k + 1;
    other_rows = l;
    are = blocks_pivot g pivots columns both k l blocks so_far.are after row.entries at_count (by_numbers more.is_next) more;
    count = omega (arith, so_far.count, grown);
  }
  so_far_more after (inr more) = record {
    pivot_rows = k;
    other_rows = l + 1;
    are = blocks_column g pivots columns both k l blocks so_far.are after row.entries at_count inside
        (λ next. more.is_other (by_blocks next)) more;
    count = omega (arith, so_far.count, grown);
  }

  -- its entries can stand in them
  pub row_fits : row.order ≡ g.order → length row.entries ≡ g.cols → length pivots ≤ most_columns → length columns ≤ most_columns →
      FitsBlocks pivots columns blocks row
  row_fits field long pivots_fit columns_fit = record {
    at_pivots = record { field = field ∙ sym so_far.are.at_pivots.field; width = sym so_far.are.at_pivots.columns; within = at_pivots };
    across = record { field = field ∙ sym so_far.are.across.field; width = sym so_far.are.across.columns; within = at_pivots };
    at_columns = record { field = field ∙ sym so_far.are.at_columns.field; width = sym so_far.are.at_columns.columns; within = at_columns };
    pivots_fit = pivots_fit;
    room = λ other.
        let next : (l < length columns) × (get_or columns l 0 ≡ k + l) =
        next_column g.cols pivots columns both k l so_far.are.taken inside (λ is_next. other (by_blocks is_next)) in
        (omega (arith, next.0, so_far.are.across.count, columns_fit), omega (arith, next.0, so_far.are.at_columns.count, columns_fit));
  }
    where
      at_pivots : All (λ column. column < length row.entries) pivots
      at_pivots = subst (λ n. All (λ column. column < n) pivots) (sym long) (pivots_within g.cols pivots columns both)

      at_columns : All (λ column. column < length row.entries) columns
      at_columns = subst (λ n. All (λ column. column < n) columns) (sym long) (columns_within g.cols pivots columns both)

pub blocks_are : (g : MatrixValue) (pivots columns : List ℕ) → AreComplementary g.cols pivots columns → length g.rows ≡ g.cols → (done left : List RowValue) →
    AreRowsOf g (done ++ left) → left ≡ [] → (blocks : Blocks) → AreBlocksSoFar g pivots columns (length done) blocks →
    (blocks.at_pivots ≡ columns_at pivots (rows_at pivots g)) × (blocks.across ≡ columns_at pivots (rows_at columns g))
    × (blocks.at_columns ≡ columns_at columns (rows_at columns g))
blocks_are g pivots columns both square done left rows none blocks so_far =
    blocks_whole g pivots columns both so_far.pivot_rows so_far.other_rows blocks so_far.are (so_far.count ∙ rows_whole g done left rows none ∙ square)
