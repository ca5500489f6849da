-- Tables of pivots: one more pivot, and the entries of a row at the columns that a table marks.
use Rattle.std.specs.Prelude.{◌≡◌, ◌≢◌, ℕ, suc, ◌+◌, ◌/◌, ◌<◌, ◌≤◌, List, [], ◌∷◌, ◌++◌, length, get_or, set, cond, eqb, Bool, true, false}
use Rattle.std.specs.Prelude.{Option, Some, None, MatchOption, replicate, is_some, not}
use Rattle.std.proofs.Common.{true≢false}
use Rattle.std.proofs.lemmas.Bool.{ne_eqb}
use Rattle.std.proofs.lemmas.List.{length-append, length-replicate, length-set, get_or_past, get_or_append_left, get_or-append-add, get_or-set_same, get_or-set_other}
use Rattle.axe_algebra.proofs.ListEntries.{listed_at, listed_length}
use Rattle.axe_layer.specs.Supports.{restricted}
use Rattle.axe_layer.proofs.SupportLaws.{restricted_away}
use Rattle.axe_lane.specs.Entries.{IsNextNonzero}
use Rattle.axe_row.specs.BitBlocks.{IsBlockOf}
use Rattle.axe_echelon.specs.PivotTables.{marks_in, marks_of, HasRoom, IsPivotAt, HasPivots, HasBlocks}
use Rattle.axe_echelon.specs.declared.subspace.PivotRow.{PivotRow}
use Rattle.axe_echelon.specs.declared.pivot_table.PivotTable.{PivotTable}
use Rattle.axe_row.specs.declared.bit_block.BitBlock.{BitBlock}
use Rattle.axe_echelon.proofs.StepLaws.{get_or_copies}
use mathlib.Core.Path.{refl, sym, ◌∙◌, ap, ap₂, subst}
use native.Mathlib.Omega.{arith}
use native.Mathlib.Decide.{ℕ_discrete, dec_lt}

-- ---- entries at the places where others are not 0

cond_same : (b : Bool) (a : ℕ) → cond b a a ≡ a
cond_same true a = refl
cond_same false a = refl

pub restricted_at : (marks entries : List ℕ) (j : ℕ) → get_or (restricted marks entries) j 0 ≡ cond (eqb (get_or marks j 0) 0) 0 (get_or entries j 0)
unfolding restricted
restricted_at marks entries j = at (dec_lt j (length entries))
  where
    at : Dec (j < length entries) → get_or (restricted marks entries) j 0 ≡ cond (eqb (get_or marks j 0) 0) 0 (get_or entries j 0)
    at (yes below) = listed_at (length entries) (λ i. cond (eqb (get_or marks i 0) 0) 0 (get_or entries i 0)) j 0 below
    at (no past) =
        get_or_past (restricted marks entries) j 0
        (omega (arith, past, listed_length (length entries) (λ i. cond (eqb (get_or marks i 0) 0) 0 (get_or entries i 0))))
        ∙ sym (ap (cond (eqb (get_or marks j 0) 0) 0) (get_or_past entries j 0 (omega (arith, past))) ∙ cond_same (eqb (get_or marks j 0) 0) 0)

pub zero_where_marked : (marks entries : List ℕ) (j : ℕ) → get_or marks j 0 ≢ 0 → get_or (restricted marks entries) j 0 ≡ 0 → get_or entries j 0 ≡ 0
zero_where_marked marks entries j marked none =
    sym (restricted_at marks entries j ∙ ap (λ b. cond b 0 (get_or entries j 0)) (ne_eqb (get_or marks j 0) 0 marked)) ∙ none

pub restricted_zero : (marks entries : List ℕ) (j : ℕ) → get_or entries j 0 ≡ 0 → get_or (restricted marks entries) j 0 ≡ 0
restricted_zero marks entries j none =
    restricted_at marks entries j ∙ ap (cond (eqb (get_or marks j 0) 0) 0) none ∙ cond_same (eqb (get_or marks j 0) 0) 0

-- what a search finds is marked
pub found_is_marked : (marks entries : List ℕ) (start column : ℕ) → IsNextNonzero (restricted marks entries) start column → get_or marks column 0 ≢ 0
found_is_marked marks entries start column found none = found.nonzero (restricted_away marks entries column none)

-- ---- tables

-- there is room where there are marks
room_of_marks : (m : Option (List ℕ)) (A B : Type 0) (column : ℕ) → MatchOption m A (λ _. B) → get_or (marks_in m) column 0 ≢ 0 → B
room_of_marks None A B column h marked = absurd (marked refl)
room_of_marks (Some marks) A B column h marked = h

marks_of_room : (m : Option (List ℕ)) (A B : Type 0) → 1 ≤ length (marks_in m) → B → MatchOption m A (λ _. B)
marks_of_room None A B some h = absurd (omega (arith, some))
marks_of_room (Some marks) A B some h = h

pub room_if_marked : (cols : ℕ) (pivots : List ℕ) (table : PivotTable) (column : ℕ) → HasPivots cols pivots table → get_or (marks_of table) column 0 ≢ 0 →
    HasRoom cols table
room_if_marked cols pivots table column h marked = room_of_marks table.marks (length pivots ≡ 0) (HasRoom cols table) column h.room marked

pub room_for_block : (cols : ℕ) (table : PivotTable) (column : ℕ) → HasRoom cols table → column < cols → column < length table.blocks.items
room_for_block cols table column room inside = omega (arith, inside, room.blocks)

-- there are no marks
pub no_marks : (m : Option (List ℕ)) (none : Bool) → is_some m ≡ not none → none ≡ true → m ≡ None
no_marks None none is so = refl
no_marks (Some marks) none is so = absurd (true≢false (is ∙ ap not so))

-- a table that had no room, and has only zeros since
module _ (cols : ℕ) (pivots : List ℕ) (old next : PivotTable) (h : HasPivots cols pivots old) (marks : List ℕ) (unmarked : old.marks ≡ None)
    (marked : next.marks ≡ Some marks) (zeros : marks ≡ replicate cols 0) (long : length next.rows.items ≡ cols)
    (blocks : length next.blocks.items ≡ cols) where
  pub room_made : HasRoom cols next
  room_made = record { marks = ap (λ m. length (marks_in m)) marked ∙ ap length zeros ∙ length-replicate cols 0; rows = long; blocks = blocks }

  pub pivots_stay : HasPivots cols pivots next
  pivots_stay = record {
    room = subst (λ m. MatchOption m (length pivots ≡ 0) (λ _. HasRoom cols next)) (sym marked) room_made;
    marked = λ index below. absurd (omega (arith, below, none));
    row = λ column there. absurd (there (ap (λ m. get_or (marks_in m) column 0) marked ∙ ap (λ l. get_or l column 0) zeros ∙ get_or_copies 0 cols column));
  }
    where
      none : length pivots ≡ 0
      none = subst (λ m. MatchOption m (length pivots ≡ 0) (λ _. HasRoom cols old)) unmarked h.room

-- ---- one more pivot

module _ (cols : ℕ) (pivots : List ℕ) (column : ℕ) (old next : PivotTable) (h : HasPivots cols pivots old) (room : HasRoom cols old) (inside : column < cols)
    (marks : marks_of next ≡ set (marks_of old) column 1) (rows : next.rows.items ≡ set old.rows.items column (length pivots))
    (block : BitBlock) (blocks : next.blocks.items ≡ set old.blocks.items column block) where
  mark_there : (j : ℕ) → j ≡ column → get_or (marks_of next) j 0 ≡ 1
  mark_there j e = ap (λ k. get_or (marks_of next) k 0) e ∙ ap (λ (l : List ℕ). get_or l column 0) marks
      ∙ get_or-set_same (marks_of old) column 1 0 (omega (arith, inside, room.marks))

  mark_elsewhere : (j : ℕ) → j ≢ column → get_or (marks_of next) j 0 ≡ get_or (marks_of old) j 0
  mark_elsewhere j other = ap (λ (l : List ℕ). get_or l j 0) marks ∙ get_or-set_other (marks_of old) column j 1 0 other

  is_marked : (j : ℕ) → get_or (marks_of next) j 0 ≡ 1 → get_or (marks_of next) j 0 ≢ 0
  is_marked j one none = absurd (omega (arith, one, none))

  last : get_or (pivots ++ column ∷ []) (length pivots) 0 ≡ column
  last = ap (λ k. get_or (pivots ++ column ∷ []) k 0) (let same : length pivots ≡ length pivots + 0 = omega arith in same)
      ∙ get_or-append-add pivots (column ∷ []) 0 0

  counted : length (pivots ++ column ∷ []) ≡ suc (length pivots)
  counted = omega (arith, length-append pivots (column ∷ []))

  still_marked : (index : ℕ) → index < length (pivots ++ column ∷ []) → get_or (marks_of next) (get_or (pivots ++ column ∷ []) index 0) 0 ≢ 0
  still_marked index below = at (dec_lt index (length pivots)) (ℕ_discrete (get_or (pivots ++ column ∷ []) index 0) column)
    where
      at : Dec (index < length pivots) → Dec (get_or (pivots ++ column ∷ []) index 0 ≡ column) →
          get_or (marks_of next) (get_or (pivots ++ column ∷ []) index 0) 0 ≢ 0
      at _ (yes e) = is_marked _ (mark_there _ e)
      at (yes before) (no other) = λ none. h.marked index before
          (ap (λ k. get_or (marks_of old) k 0) (sym (get_or_append_left pivots (column ∷ []) 0 index before)) ∙ sym (mark_elsewhere _ other) ∙ none)
      at (no past) (no other) = absurd (other (ap (λ k. get_or (pivots ++ column ∷ []) k 0)
          (let same : index ≡ length pivots = omega (arith, below, past, counted) in same) ∙ last))

  row_of_marked : (j : ℕ) → get_or (marks_of next) j 0 ≢ 0 → IsPivotAt (pivots ++ column ∷ []) (get_or next.rows.items j 0) j
  row_of_marked j marked = at (ℕ_discrete j column)
    where
      at : Dec (j ≡ column) → IsPivotAt (pivots ++ column ∷ []) (get_or next.rows.items j 0) j
      at (yes e) = subst (λ index. IsPivotAt (pivots ++ column ∷ []) index j)
          (sym (ap (λ k. get_or next.rows.items k 0) e ∙ ap (λ (l : List ℕ). get_or l column 0) rows
          ∙ get_or-set_same old.rows.items column (length pivots) 0 (omega (arith, inside, room.rows))))
          (record { within = omega (arith, counted); is = last ∙ sym e })
      at (no other) = subst (λ index. IsPivotAt (pivots ++ column ∷ []) index j)
          (sym (ap (λ (l : List ℕ). get_or l j 0) rows ∙ get_or-set_other old.rows.items column j (length pivots) 0 other))
          (longer (h.row j (λ none. marked (mark_elsewhere j other ∙ none))))
        where
          longer : {index : ℕ} → IsPivotAt pivots index j → IsPivotAt (pivots ++ column ∷ []) index j
          longer {index} before = record {
            within = omega (arith, before.within, counted);
            is = get_or_append_left pivots (column ∷ []) 0 index before.within ∙ before.is;
          }

  pub pivots_more : HasPivots cols (pivots ++ column ∷ []) next
  pivots_more = record {
    room = marks_of_room next.marks (length (pivots ++ column ∷ []) ≡ 0) (HasRoom cols next) (omega (arith, long, inside)) room_after;
    marked = still_marked;
    row = row_of_marked;
  }
    where
      long : length (marks_of next) ≡ cols
      long = ap length marks ∙ length-set (marks_of old) column 1 ∙ room.marks

      room_after : HasRoom cols next
      room_after = record {
        marks = long;
        rows = ap length rows ∙ length-set old.rows.items column (length pivots) ∙ room.rows;
        blocks = ap length blocks ∙ length-set old.blocks.items column block ∙ room.blocks;
      }

-- ---- the blocks

-- one more row, whose pivot is marked with its block
module _ (cols : ℕ) (rows : List PivotRow) (pivots : List ℕ) (q : PivotRow) (old next : PivotTable) (given : BitBlock) (h : HasPivots cols pivots old)
    (room : HasRoom cols old) (has : HasBlocks rows old) (counted : length pivots ≡ length rows) (inside : q.pivot < cols)
    (is_block : IsBlockOf q.row (q.pivot / 64) given) (marks : marks_of next ≡ set (marks_of old) q.pivot 1)
    (items : next.rows.items ≡ set old.rows.items q.pivot (length pivots)) (blocks : next.blocks.items ≡ set old.blocks.items q.pivot given) where
  pub blocks_more : HasBlocks (rows ++ q ∷ []) next
  blocks_more column p block marked is block_is = at (ℕ_discrete column q.pivot)
    where
      at : Dec (column ≡ q.pivot) → IsBlockOf p.row (column / 64) block
      at (yes e) = subst (λ k. IsBlockOf p.row (k / 64) block) (sym e)
          (subst (λ (r : PivotRow). IsBlockOf r.row (q.pivot / 64) block) (sym row)
          (subst (λ (b : BitBlock). IsBlockOf q.row (q.pivot / 64) b) (sym same) is_block))
        where
          index : get_or next.rows.items column 0 ≡ length rows + 0
          index = ap₂ (λ (l : List ℕ) (k : ℕ). get_or l k 0) items e
              ∙ get_or-set_same old.rows.items q.pivot (length pivots) 0 (omega (arith, inside, room.rows)) ∙ omega (arith, counted)

          row : p ≡ q
          row = is ∙ ap (λ k. get_or (rows ++ q ∷ []) k p) index ∙ get_or-append-add rows (q ∷ []) 0 p

          same : block ≡ given
          same = block_is ∙ ap₂ (λ (l : List BitBlock) (k : ℕ). get_or l k block) blocks e
              ∙ get_or-set_same old.blocks.items q.pivot given block (omega (arith, inside, room.blocks))
      at (no other) = has column p block still
          (is ∙ ap (λ k. get_or (rows ++ q ∷ []) k p) index
          ∙ get_or_append_left rows (q ∷ []) p (get_or old.rows.items column 0) (omega (arith, (h.row column still).within, counted)))
          (block_is ∙ ap (λ (l : List BitBlock). get_or l column block) blocks ∙ get_or-set_other old.blocks.items q.pivot column given block other)
        where
          still : get_or (marks_of old) column 0 ≢ 0
          still none = marked (ap (λ (l : List ℕ). get_or l column 0) marks ∙ get_or-set_other (marks_of old) q.pivot column 1 0 other ∙ none)

          index : get_or next.rows.items column 0 ≡ get_or old.rows.items column 0
          index = ap (λ (l : List ℕ). get_or l column 0) items ∙ get_or-set_other old.rows.items q.pivot column (length pivots) 0 other
