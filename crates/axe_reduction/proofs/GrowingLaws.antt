-- Reductions that grow row by row: a row that is cleared, and one more that is inserted.
use Rattle.std.proofs.Common.{◌≡◌, ◌≢◌, ℕ, zero, suc, ◌+◌, ◌<◌, ◌≤◌, List, [], ◌∷◌, ◌++◌, length, get_or, map, take, drop, sym, ap, ap₂, subst, ◌∙◌, arith}
use Rattle.std.specs.Prelude.{ltb}
use Rattle.std.specs.List.{All, insert}
use Rattle.std.proofs.lemmas.List.Sums.{count_by-le-length}
use Rattle.std.proofs.lemmas.List.{ext_get_or, append-nil, take_all, drop_all, get_or-map, length-map, map-append}
use Rattle.std.proofs.lemmas.List.Elements.{All-append}
use Rattle.std.proofs.lemmas.List.FromFn.{map-range_with_len_more}
use Rattle.axe_algebra.specs.Bridge.{vector_of, matrix_of}
use Rattle.axe_algebra.specs.Lists.{listed, IsMatrixOver}
use Rattle.axe_algebra.specs.NumberField.{NumberField}
use Rattle.axe_algebra.specs.Vectors.{Vector, subtract, scale}
use Rattle.axe_algebra.proofs.ElementNumbers.{entry-below}
use Rattle.axe_algebra.proofs.ListEntries.{listed_length, listed_at}
use Rattle.axe_field.specs.Order.{Order}
use Rattle.axe_field.specs.Arithmetic.{field_neg, field_inv}
use Rattle.axe_field.specs.NumberFields.{number_field, gf}
use Rattle.axe_lane.specs.Entries.{IsFirstNonzero}
use Rattle.axe_row.specs.Operations.{IsZeroVector}
use Rattle.axe_matrix.specs.Limits.{most_rows}
use Rattle.axe_reduction.specs.Augmented.{AugmentedValue, IsAugmented, AreAlike}
use Rattle.axe_reduction.specs.AugmentedRows.{whole, cancelled, scaled_at, IsRowOver, IsRowLike, IsRowOf, AreReducedOver, AreReducedLike}
use Rattle.axe_reduction.specs.AugmentedRows.{count_below, IsClearedBy, IsInsertedAt, IsReductionOfFirst}
use Rattle.axe_reduction.specs.Forms.{AreReducedRows, AreReduced, less_rows}
use Rattle.axe_reduction.specs.Reductions.{IsReductionOf}
use Rattle.axe_reduction.specs.declared.augmented_row.AugmentedRow.{AugmentedRow}
use Rattle.axe_reduction.specs.declared.few.GrowingReduction.{GrowingReduction}
use Rattle.axe_reduction.specs.declared.reduction.Reduction.{Reduction}
use Rattle.axe_reduction.proofs.AugmentedRowLaws.{over_like, like_over, whole_over, wholes_over, item_at, left_entry, cancelled_vector, scaled_entry}
use Rattle.axe_reduction.proofs.ClearLaws.{minus_one-below}
use Rattle.axe_reduction.proofs.InsertedRows.{less_none, less_more, no_rows_reduced, reduced_one, more_rest, more_reduced}
use Rattle.axe_reduction.proofs.ReductionLaws.{minus_one-is, reduction_of_rows}
use Rattle.axe_reduction.proofs.Reordered.{map-insert, All-insert, All-others, All-inserted, moved_are_reduced}

-- ---- a row that is cleared

-- row t of the rows as vectors
whole_at : (o : Order) (rows : List AugmentedRow) (t : ℕ) (row : AugmentedRow) → t < length rows → row ≡ get_or rows t row →
    matrix_of (number_field o) (map whole rows) t ≡ vector_of (number_field o) (whole row)
whole_at o rows t row below is =
    ap (vector_of (number_field o)) (get_or-map whole rows t row [] below) ∙ ap (λ r. vector_of (number_field o) (whole r)) (sym is)

-- cleared at one more pivot
pub cleared_more : (o : Order) (left all : ℕ) (pivots : List ℕ) (reduced : List AugmentedRow) (t column : ℕ) (other first row next : AugmentedRow) →
    AreReducedOver o left all pivots reduced → t < length reduced → other ≡ get_or reduced t other → column ≡ get_or pivots t 0 →
    IsRowOver o left all row →
    vector_of (number_field o) (whole row)
    ≡ less_rows (gf o) t (λ t. get_or pivots t 0) (matrix_of (number_field o) (map whole reduced)) (vector_of (number_field o) (whole first)) →
    next ≡ cancelled column other row → IsRowLike row next →
    vector_of (number_field o) (whole next)
    ≡ less_rows (gf o) (t + 1) (λ t. get_or pivots t 0) (matrix_of (number_field o) (map whole reduced)) (vector_of (number_field o) (whole first))
cleared_more o left all pivots reduced t column other first row next h below is at over cleared next_is like =
    ap (λ r. vector_of K (whole r)) next_is
    ∙ cancelled_vector o left all column row other over (subst (IsRowOver o left all) (sym is) (h.over t other below))
    (subst (IsRowLike row) next_is like) inside
    ∙ ap₂ (λ p (w : Vector (gf o)). subtract (gf o) (vector_of K (whole row)) (scale (gf o) (vector_of K (whole row) p) w)) at
    (sym (whole_at o reduced t other below is))
    ∙ less_more (gf o) (length reduced) t (λ t. get_or pivots t 0) (matrix_of K (map whole reduced)) (vector_of K (whole first)) (vector_of K (whole row))
    h.reduced below cleared
    ∙ (let more : suc t ≡ t + 1 = omega arith in
    ap (λ n. less_rows (gf o) n (λ t. get_or pivots t 0) (matrix_of K (map whole reduced)) (vector_of K (whole first))) more)
  where
    K : NumberField
    K = number_field o

    inside : column < left
    inside = subst (λ k. k < left) (sym at) (h.pivots_left t 0 (omega (arith, h.count)))

-- the first row cleared at the first t of the pivots
pub record IsClearedBelow (t : ℕ) (pivots : List ℕ) (reduced : List AugmentedRow) (first row : AugmentedRow) : Type 0 where
  pub cleared : vector_of (number_field first.left.order) (whole row)
      ≡ less_rows (gf first.left.order) t (λ t. get_or pivots t 0) (matrix_of (number_field first.left.order) (map whole reduced))
      (vector_of (number_field first.left.order) (whole first))
  pub alike : IsRowLike first row

pub cleared_below_none : (pivots : List ℕ) (reduced : List AugmentedRow) (first : AugmentedRow) → IsRowLike first first →
    IsClearedBelow 0 pivots reduced first first
cleared_below_none pivots reduced first h = record {
  cleared = less_none (gf first.left.order) (λ t. get_or pivots t 0) (matrix_of (number_field first.left.order) (map whole reduced))
      (vector_of (number_field first.left.order) (whole first));
  alike = h;
}

pub cleared_below_more : (t column : ℕ) (pivots : List ℕ) (reduced : List AugmentedRow) (other first row next : AugmentedRow) →
    AreReducedLike first pivots reduced → IsRowLike first first → t < length reduced → other ≡ get_or reduced t other → column ≡ get_or pivots t 0 →
    IsClearedBelow t pivots reduced first row → next ≡ cancelled column other row → IsRowLike row next →
    IsClearedBelow (t + 1) pivots reduced first next
cleared_below_more t column pivots reduced other first row next reduced_h first_h below is at h next_is like = record {
  cleared = cleared_more first.left.order (length first.left.entries) (length first.left.entries + length first.right.entries) pivots reduced t
      column other first row next reduced_h below is at h.alike h.cleared next_is like;
  alike = like_over first.left.order (length first.left.entries) (length first.left.entries + length first.right.entries) row next h.alike like;
}

-- ---- the reduction of the first rows

-- the inverse of an element
inverse-below : (o : Order) (x : ℕ) → x < (number_field o).order → field_inv o x < (number_field o).order
unfolding number_field
inverse-below o x small = (number_field o).inv-below x small

inverse_is : (o : Order) (x : ℕ) → x < (number_field o).order → x ≢ 0 → (number_field o).mul x (field_inv o x) ≡ 1
unfolding number_field
inverse_is o x small nonzero = (number_field o).mul-inv x small nonzero

single_row : (P : AugmentedRow → Type 0) (row : AugmentedRow) → P row → All P (row ∷ [])
single_row P row h zero d below = h
single_row P row h (suc i) d below = absurd (let wrong : ⊥ = omega (arith, below) in wrong)

first_rows-more : (a : AugmentedValue) (n : ℕ) (x : List ℕ) → x ≡ get_or a.rows n [] →
    listed (n + 1) (λ i. get_or a.rows i []) ≡ listed n (λ i. get_or a.rows i []) ++ x ∷ []
first_rows-more a n x is =
    map-range_with_len_more (λ i. get_or a.rows i []) 0 n n (omega arith)
    ∙ ap (λ (row : List ℕ). listed n (λ i. get_or a.rows i []) ++ row ∷ []) (sym is)

-- the rows of a list that was changed in place, with one more
pub inserted_at : (pivot count place : ℕ) (scaled : AugmentedRow) (before those now items : List AugmentedRow) → count ≡ length before → those ≡ before →
    now ≡ map (cancelled pivot scaled) those → items ≡ insert (take count (now ++ drop (length now) before)) place scaled → items ≡ insert now place scaled
inserted_at pivot count place scaled before those now items count_is those_is now_is is =
    let as_many : length now ≡ length before =
    ap (λ (l : List AugmentedRow). length l) now_is ∙ length-map those (cancelled pivot scaled) ∙ ap (λ (l : List AugmentedRow). length l) those_is in
    is
    ∙ ap (λ l. insert l place scaled) (ap (λ l. take count (now ++ l)) (drop_all (length now) before (omega (arith, as_many)))
    ∙ ap (take count) (append-nil now) ∙ take_all count now (omega (arith, as_many, count_is)))

-- the reduced rows, cleared at the pivot of one more
pub inserted_rows : (pivot place there : ℕ) (row scaled : AugmentedRow) (before those now items : List AugmentedRow) → scaled ≡ scaled_at pivot row →
    those ≡ before → now ≡ map (cancelled pivot scaled) those → items ≡ insert now place scaled → place ≡ there →
    items ≡ insert (map (cancelled pivot (scaled_at pivot row)) before) there (scaled_at pivot row)
inserted_rows pivot place there row scaled before those now items scaled_is those_is now_is is place_is =
    is ∙ ap (λ l. insert l place scaled) (now_is ∙ ap (map (cancelled pivot scaled)) those_is)
    ∙ ap₂ (λ (s : AugmentedRow) (i : ℕ). insert (map (cancelled pivot s) before) i s) scaled_is place_is

pub inserted_alike : (row scaled : AugmentedRow) (place : ℕ) (now items : List AugmentedRow) → place ≤ length now → IsRowLike row scaled →
    All (IsRowLike scaled) now → items ≡ insert now place scaled → All (IsRowLike row) items
inserted_alike row scaled place now items within like each is =
    subst (All (IsRowLike row)) (sym is) (All-insert (IsRowLike row) now place scaled within (All-append (IsRowLike row) now (scaled ∷ [])
    (λ i d below. like_over row.left.order (length row.left.entries) (length row.left.entries + length row.right.entries) scaled (get_or now i d) like
    (each i d below))
    (single_row (IsRowLike row) scaled like)))

-- its reduced rows are reduced over the field of a further row
pub reduced_like : (a : AugmentedValue) (n : ℕ) (r : GrowingReduction) (row : AugmentedRow) → IsReductionOfFirst a n r → IsRowOf a row →
    AreReducedLike row r.pivots.items r.reduced.items
reduced_like a n r row h over = record {
  over = λ i d below. over_like a.order a.left a.cols row (get_or r.reduced.items i d) over (h.reduced_over i d below);
  count = h.reduces.pivot_count ∙ length-map r.reduced.items whole;
  pivots_left = subst (λ k. All (λ pivot. pivot < k) r.pivots.items) (sym over.left_length) h.reduces.pivots_left;
  reduced = subst (λ o. AreReducedRows (gf o) (length r.reduced.items) (matrix_of (number_field o) (map whole r.reduced.items)) (λ t. get_or r.pivots.items t 0))
      (sym over.left_field)
      (subst (λ k. AreReducedRows (gf a.order) k (matrix_of (number_field a.order) (map whole r.reduced.items)) (λ t. get_or r.pivots.items t 0))
      (length-map r.reduced.items whole) h.reduces.are_reduced);
}

-- what is left of a row, over the field of the augmented matrix
cleared_over : (a : AugmentedValue) (pivots : List ℕ) (reduced : List AugmentedRow) (first row : AugmentedRow) → IsRowOf a first →
    IsClearedBy pivots reduced first row →
    vector_of (number_field a.order) (whole row)
    ≡ less_rows (gf a.order) (length (map whole reduced)) (λ t. get_or pivots t 0) (matrix_of (number_field a.order) (map whole reduced))
    (vector_of (number_field a.order) (whole first))
cleared_over a pivots reduced first row over cleared =
    subst (λ k. vector_of (number_field a.order) (whole row)
    ≡ less_rows (gf a.order) k (λ t. get_or pivots t 0) (matrix_of (number_field a.order) (map whole reduced)) (vector_of (number_field a.order) (whole first)))
    (sym (length-map reduced whole))
    (subst (λ o. vector_of (number_field o) (whole row)
    ≡ less_rows (gf o) (length reduced) (λ t. get_or pivots t 0) (matrix_of (number_field o) (map whole reduced)) (vector_of (number_field o) (whole first)))
    over.left_field cleared)

pub cleared_at : (r : GrowingReduction) (first row : AugmentedRow) (pivots : List ℕ) (reduced : List AugmentedRow) → pivots ≡ r.pivots.items →
    reduced ≡ r.reduced.items → IsClearedBy pivots reduced first row → IsClearedBy r.pivots.items r.reduced.items first row
cleared_at r first row pivots reduced pivots_are reduced_are h =
    subst (λ l. IsClearedBy l r.reduced.items first row) pivots_are (subst (λ l. IsClearedBy pivots l first row) reduced_are h)

-- of no rows
pub first_none : (a : AugmentedValue) (r : GrowingReduction) → r.reduced.items ≡ [] → r.pivots.items ≡ [] → r.rest.items ≡ [] →
    IsReductionOfFirst a 0 r
first_none a r no_reduced no_pivots no_rest = record {
  reduced_over = subst (All (IsRowOf a)) (sym no_reduced) (λ i d below. absurd (let wrong : ⊥ = omega (arith, below) in wrong));
  rest_over = subst (All (IsRowOf a)) (sym no_rest) (λ i d below. absurd (let wrong : ⊥ = omega (arith, below) in wrong));
  reduces = subst (λ (l : List AugmentedRow). AreReduced K a.left a.cols [] r.pivots.items (map whole l) (map whole r.rest.items)) (sym no_reduced)
      (subst (λ (l : List ℕ). AreReduced K a.left a.cols [] l [] (map whole r.rest.items)) (sym no_pivots)
      (subst (λ (l : List AugmentedRow). AreReduced K a.left a.cols [] [] [] (map whole l)) (sym no_rest) (no_rows_reduced K a.left a.cols)));
}
  where
    K : NumberField
    K = number_field a.order

-- of one row more, which, cleared, is 0 left of the bar
pub first_more_rest : (a : AugmentedValue) (n : ℕ) (before after : GrowingReduction) (first row : AugmentedRow) →
    IsReductionOfFirst a n before → whole first ≡ get_or a.rows n [] → IsRowOf a first →
    IsClearedBy before.pivots.items before.reduced.items first row → IsRowLike first row → IsZeroVector row.left.entries →
    after.reduced.items ≡ before.reduced.items → after.pivots.items ≡ before.pivots.items → after.rest.items ≡ before.rest.items ++ row ∷ [] →
    IsReductionOfFirst a (n + 1) after
first_more_rest a n before after first row h copied over cleared like zeros reduced pivots rest = record {
  reduced_over = subst (All (IsRowOf a)) (sym reduced) h.reduced_over;
  rest_over = subst (All (IsRowOf a)) (sym rest)
      (All-append (IsRowOf a) before.rest.items (row ∷ []) h.rest_over (single_row (IsRowOf a) row row_over));
  reduces = subst (λ u. AreReduced K a.left a.cols u after.pivots.items (map whole after.reduced.items) (map whole after.rest.items))
      (sym (first_rows-more a n (whole first) copied))
      (subst (λ (p : List ℕ). AreReduced K a.left a.cols u p (map whole after.reduced.items) (map whole after.rest.items)) (sym pivots)
      (subst (λ (l : List AugmentedRow). AreReduced K a.left a.cols u before.pivots.items (map whole l) (map whole after.rest.items)) (sym reduced)
      (subst (λ (l : List (List ℕ)). AreReduced K a.left a.cols u before.pivots.items (map whole before.reduced.items) l)
      (sym (ap (map whole) rest ∙ map-append whole before.rest.items (row ∷ [])))
      (more_rest K a.left a.cols (field_neg a.order 1) (listed n (λ i. get_or a.rows i [])) (whole first) (whole row) before.pivots.items
      (map whole before.reduced.items) (map whole before.rest.items) (minus_one-below a.order) (minus_one-is a.order) h.reduces
      (whole_over a.order a.left a.cols first over) (whole_over a.order a.left a.cols row row_over)
      (cleared_over a before.pivots.items before.reduced.items first row over cleared)
      (λ j inside. left_entry row j (omega (arith, row_over.left_length, inside)) ∙ zeros j 0 (omega (arith, row_over.left_length, inside)))))));
}
  where
    K : NumberField
    K = number_field a.order

    u : List (List ℕ)
    u = listed n (λ i. get_or a.rows i []) ++ whole first ∷ []

    row_over : IsRowOf a row
    row_over = like_over a.order a.left a.cols first row over like

-- of one row more, which, cleared, has a pivot
pub first_more_reduced : (a : AugmentedValue) (n pivot : ℕ) (before after : GrowingReduction) (first row : AugmentedRow) → IsAugmented a →
    IsReductionOfFirst a n before → whole first ≡ get_or a.rows n [] → IsRowOf a first →
    IsClearedBy before.pivots.items before.reduced.items first row → IsRowLike first row → IsFirstNonzero row.left.entries pivot →
    IsInsertedAt pivot row before after → IsReductionOfFirst a (n + 1) after
first_more_reduced a n pivot before after first row fine h copied over cleared like leads inserted = record {
  reduced_over = λ i d below. like_over a.order a.left a.cols row (get_or after.reduced.items i d) row_over (inserted.alike i d below);
  rest_over = subst (All (IsRowOf a)) (sym inserted.rest) h.rest_over;
  reduces = subst (λ u. AreReduced K a.left a.cols u after.pivots.items (map whole after.reduced.items) (map whole after.rest.items))
      (sym (first_rows-more a n (whole first) copied))
      (subst (λ (p : List ℕ). AreReduced K a.left a.cols u p (map whole after.reduced.items) (map whole after.rest.items)) (sym inserted.pivots)
      (subst (λ (l : List (List ℕ)). AreReduced K a.left a.cols u (insert before.pivots.items place pivot) l (map whole after.rest.items)) (sym now)
      (subst (λ (l : List AugmentedRow). AreReduced K a.left a.cols u (insert before.pivots.items place pivot) (insert (map whole others) place (whole scaled))
      (map whole l)) (sym inserted.rest)
      (moved_are_reduced K a.left a.cols place pivot u before.pivots.items (map whole others) (map whole before.rest.items) (whole scaled)
      (omega (arith, within, as_many)) (omega (arith, pivot_count, as_many))
      (more_reduced K a.left a.cols (field_neg a.order 1) pivot (listed n (λ i. get_or a.rows i [])) (whole first) (whole row) (whole scaled)
      before.pivots.items (map whole before.reduced.items) (map whole before.rest.items) (map whole others) (minus_one-below a.order)
      (minus_one-is a.order) h.reduces (whole_over a.order a.left a.cols first over) (whole_over a.order a.left a.cols row row_over)
      (cleared_over a before.pivots.items before.reduced.items first row over cleared) single
      (subst (IsMatrixOver K a.cols) (map-append whole others (scaled ∷ []))
      (wholes_over a.order a.left a.cols (others ++ scaled ∷ []) (All-append (IsRowOf a) others (scaled ∷ []) others_over (single_row (IsRowOf a) scaled scaled_over))))
      (wholes_over a.order a.left a.cols others others_over)
      (length-map others whole ∙ length-map before.reduced.items (cancelled pivot scaled) ∙ sym (length-map before.reduced.items whole))
      others_at)))));
}
  where
    K : NumberField
    K = number_field a.order

    u : List (List ℕ)
    u = listed n (λ i. get_or a.rows i []) ++ whole first ∷ []

    row_over : IsRowOf a row
    row_over = like_over a.order a.left a.cols first row over like

    scaled : AugmentedRow
    scaled = scaled_at pivot row

    others : List AugmentedRow
    others = map (cancelled pivot scaled) before.reduced.items

    place : ℕ
    place = count_below pivot before.pivots.items

    as_many : length (map whole others) ≡ length before.reduced.items
    as_many = length-map others whole ∙ length-map before.reduced.items (cancelled pivot scaled)

    pivot_count : length before.pivots.items ≡ length before.reduced.items
    pivot_count = h.reduces.pivot_count ∙ length-map before.reduced.items whole

    within : place ≤ length before.reduced.items
    within = omega (arith, count_by-le-length (λ number. ltb number pivot) before.pivots.items, pivot_count)

    others_within : place ≤ length others
    others_within = omega (arith, within, length-map before.reduced.items (cancelled pivot scaled))

    now : map whole after.reduced.items ≡ insert (map whole others) place (whole scaled)
    now = ap (map whole) inserted.reduced ∙ map-insert whole others place scaled

    inserted_over : All (IsRowOf a) (insert others place scaled)
    inserted_over = subst (All (IsRowOf a)) inserted.reduced
        (λ i d below. like_over a.order a.left a.cols row (get_or after.reduced.items i d) row_over (inserted.alike i d below))

    others_over : All (IsRowOf a) others
    others_over = All-others (IsRowOf a) others place scaled others_within inserted_over

    scaled_over : IsRowOf a scaled
    scaled_over = All-inserted (IsRowOf a) others place scaled others_within inserted_over

    inside : pivot < a.left
    inside = omega (arith, leads.within, row_over.left_length)

    entry_at : (j : ℕ) → j < a.left → get_or (whole row) j 0 ≡ get_or row.left.entries j 0
    entry_at j below = left_entry row j (omega (arith, below, row_over.left_length))

    small : get_or (whole row) pivot 0 < K.order
    small = entry-below K (whole row) pivot (whole_over a.order a.left a.cols row row_over).elements

    single : AreReduced K a.left a.cols (whole row ∷ []) (pivot ∷ []) (whole scaled ∷ []) []
    single = reduced_one K a.left a.cols pivot (field_inv a.order (get_or (whole row) pivot 0)) (whole row) (whole scaled) fine.some_right
        (whole_over a.order a.left a.cols row row_over) (whole_over a.order a.left a.cols scaled scaled_over) inside small
        (inverse-below a.order (get_or (whole row) pivot 0) small)
        (inverse_is a.order (get_or (whole row) pivot 0) small (λ e. leads.nonzero (sym (entry_at pivot inside) ∙ e)))
        (λ j earlier. entry_at j (omega (arith, earlier, inside)) ∙ leads.zeros_before j earlier)
        (scaled_entry a.order a.left a.cols pivot row row_over inside)

    others_at : (i : ℕ) → i < length (map whole before.reduced.items) → matrix_of K (map whole others) i
        ≡ subtract (gf a.order) (matrix_of K (map whole before.reduced.items) i)
        (scale (gf a.order) (matrix_of K (map whole before.reduced.items) i pivot) (vector_of K (whole scaled)))
    others_at i below =
        let at : i < length before.reduced.items = omega (arith, below, length-map before.reduced.items whole) in
        let found = item_at before.reduced.items i at in
        let item_over : IsRowOf a found.0 = subst (IsRowOf a) (sym found.1) (h.reduced_over i found.0 at) in
        let next_at : cancelled pivot scaled found.0 ≡ get_or others i (cancelled pivot scaled found.0) =
        ap (cancelled pivot scaled) found.1 ∙ sym (get_or-map (cancelled pivot scaled) before.reduced.items i found.0 (cancelled pivot scaled found.0) at) in
        let place : i < length others = omega (arith, at, length-map before.reduced.items (cancelled pivot scaled)) in
        let next_over : IsRowOf a (cancelled pivot scaled found.0) = subst (IsRowOf a) (sym next_at) (others_over i (cancelled pivot scaled found.0) place) in
        whole_at a.order others i (cancelled pivot scaled found.0) place next_at
        ∙ cancelled_vector a.order a.left a.cols pivot found.0 scaled item_over scaled_over
        (over_like a.order a.left a.cols found.0 (cancelled pivot scaled found.0) item_over next_over) inside
        ∙ ap (λ (v : Vector (gf a.order)). subtract (gf a.order) v (scale (gf a.order) (v pivot) (vector_of K (whole scaled))))
        (sym (whole_at a.order before.reduced.items i found.0 at found.1))

-- ---- all rows

alike : (a b : AugmentedValue) (rows : List (List ℕ)) → b ≡ record a { rows = rows } → AreAlike a b
alike a b rows e = record {
  field = ap (λ (x : AugmentedValue). x.order) e;
  left = ap (λ (x : AugmentedValue). x.left) e;
  columns = ap (λ (x : AugmentedValue). x.cols) e;
}

all_rows : (a : AugmentedValue) (n : ℕ) → n ≡ length a.rows → listed n (λ i. get_or a.rows i []) ≡ a.rows
all_rows a n all =
    ext_get_or [] (listed n (λ i. get_or a.rows i [])) a.rows (listed_length n (λ i. get_or a.rows i []) ∙ all) (λ i below.
    listed_at n (λ i. get_or a.rows i []) i [] (omega (arith, below, listed_length n (λ i. get_or a.rows i []))))

-- there is room for the rows
pub first_fit : (a : AugmentedValue) (n : ℕ) (r : GrowingReduction) → IsAugmented a → IsReductionOfFirst a n r → n ≤ length a.rows →
    (length r.reduced.items ≤ most_rows) × (length r.rest.items ≤ most_rows)
first_fit a n r fine h within =
    let count = h.reduces.count in
    let reduced = length-map r.reduced.items whole in
    let rest = length-map r.rest.items whole in
    let first = listed_length n (λ i. get_or a.rows i []) in
    (omega (arith, count, reduced, rest, first, fine.rows_fit, within), omega (arith, count, reduced, rest, first, fine.rows_fit, within))

-- the reduction of all rows
pub first_all : (a : AugmentedValue) (n : ℕ) (growing : GrowingReduction) (r : Reduction) → IsReductionOfFirst a n growing → n ≡ length a.rows →
    r.reduced ≡ record a { rows = map whole growing.reduced.items } → r.pivots.items ≡ growing.pivots.items →
    r.rest ≡ record a { rows = map whole growing.rest.items } → IsAugmented r.reduced → IsAugmented r.rest → IsReductionOf a r
first_all a n growing r h all reduced pivots rest reduced_fine rest_fine =
    reduction_of_rows a r (alike a r.reduced _ reduced) (alike a r.rest _ rest) reduced_fine rest_fine
    (subst (λ rows. AreReduced K a.left a.cols rows r.pivots.items r.reduced.rows r.rest.rows) (all_rows a n all)
    (subst (λ (p : List ℕ). AreReduced K a.left a.cols u p r.reduced.rows r.rest.rows) (sym pivots)
    (subst (λ (x : AugmentedValue). AreReduced K a.left a.cols u growing.pivots.items x.rows r.rest.rows) (sym reduced)
    (subst (λ (x : AugmentedValue). AreReduced K a.left a.cols u growing.pivots.items (map whole growing.reduced.items) x.rows) (sym rest) h.reduces))))
  where
    K : NumberField
    K = number_field a.order

    u : List (List ℕ)
    u = listed n (λ i. get_or a.rows i [])
