-- The rows of augmented matrices, which move one by one.
use Rattle.std.proofs.Common.{◌≡◌, ℕ, ◌+◌, ◌<◌, ◌≤◌, List, [], ◌∷◌, ◌++◌, ◌⊎◌, length, get_or, map, inl, inr, refl, sym, ap, subst, ◌∙◌, append_assoc, length-append, arith}
use Rattle.std.specs.List.{All}
use Rattle.std.proofs.lemmas.List.{append-nil, nil_from_length, length-map, map-append, get_or-map, get_or-append-add}
use Rattle.axe_row.specs.Rows.{RowValue, IsRow}
use Rattle.axe_matrix.specs.Matrices.{MatrixValue}
use Rattle.axe_matrix.specs.RowLists.{AreRowsOf}
use Rattle.axe_reduction.specs.Augmented.{AugmentedValue, AreBeside, augmented}
use Rattle.axe_reduction.specs.AugmentedRows.{whole, IsRowOf, AreRowsInOrder}
use Rattle.axe_reduction.specs.declared.augmented_row.AugmentedRow.{AugmentedRow}
use Rattle.axe_reduction.proofs.BesideRows.{AreOfRows, rows_are_whole}

-- ---- rows that are put together of the rows of two matrices

abbrev left_of : AugmentedRow → RowValue
left_of row = row.left

abbrev right_of : AugmentedRow → RowValue
right_of row = row.right

-- of two matrices that are beside one another, the rows that were put together and those that are left
pub record ArePairedOf (v : AugmentedValue) (done : List AugmentedRow) (lefts rights : List RowValue) : Type 0 where
  pub left : MatrixValue
  pub right : MatrixValue
  pub view_is : augmented left right ≡ v
  pub beside : AreBeside left right
  pub left_rows : AreRowsOf left (map left_of done ++ lefts)
  pub right_rows : AreRowsOf right (map right_of done ++ rights)

-- none
pub paired_none : (v : AugmentedValue) (left right : MatrixValue) (lefts rights : List RowValue) (done : List AugmentedRow) → augmented left right ≡ v →
    AreBeside left right → AreRowsOf left lefts → AreRowsOf right rights → done ≡ [] → ArePairedOf v done lefts rights
paired_none v left right lefts rights done view_is beside left_rows right_rows none =
    subst (λ (l : List AugmentedRow). ArePairedOf v l lefts rights) (sym none) (record {
      left = left;
      right = right;
      view_is = view_is;
      beside = beside;
      left_rows = left_rows;
      right_rows = right_rows;
    })

-- one more
pub paired_more : (v : AugmentedValue) (done next : List AugmentedRow) (lefts rights rest_left rest_right : List RowValue) (row : AugmentedRow) →
    ArePairedOf v done lefts rights → lefts ≡ row.left ∷ rest_left → rights ≡ row.right ∷ rest_right → next ≡ done ++ row ∷ [] →
    ArePairedOf v next rest_left rest_right
paired_more v done next lefts rights rest_left rest_right row are left_is right_is next_is =
    subst (λ (l : List AugmentedRow). ArePairedOf v l rest_left rest_right) (sym next_is) (record {
      left = are.left;
      right = are.right;
      view_is = are.view_is;
      beside = are.beside;
      left_rows = subst (AreRowsOf are.left) (moved left_of lefts rest_left left_is) are.left_rows;
      right_rows = subst (AreRowsOf are.right) (moved right_of rights rest_right right_is) are.right_rows;
    })
  where
    moved : (part : AugmentedRow → RowValue) (rows rest : List RowValue) → rows ≡ part row ∷ rest →
        map part done ++ rows ≡ map part (done ++ row ∷ []) ++ rest
    moved part rows rest is =
        ap (λ (l : List RowValue). map part done ++ l) is ∙ sym (append_assoc (map part done) (part row ∷ []) rest)
        ∙ ap (λ (l : List RowValue). l ++ rest) (sym (map-append part done (row ∷ [])))

-- all of them, where the rows of one matrix are at their end
pub paired_all : (v : AugmentedValue) (done : List AugmentedRow) (lefts rights : List RowValue) → ArePairedOf v done lefts rights →
    (lefts ≡ []) ⊎ (rights ≡ []) → AreRowsInOrder v done
paired_all v done lefts rights are ended = record {
  entries = sym (ap (λ (x : AugmentedValue). x.rows) (sym are.view_is ∙ rows_are_whole v done are.left are.right of_rows));
  alike = λ i d below. over i d below;
}
  where
    left_count : length are.left.rows ≡ length done + length lefts
    left_count =
        ap (λ (l : List (List ℕ)). length l) (sym are.left_rows.entries) ∙ length-map (map left_of done ++ lefts) (λ (row : RowValue). row.entries)
        ∙ length-append (map left_of done) lefts ∙ ap (λ k. k + length lefts) (length-map done left_of)

    right_count : length are.right.rows ≡ length done + length rights
    right_count =
        ap (λ (l : List (List ℕ)). length l) (sym are.right_rows.entries) ∙ length-map (map right_of done ++ rights) (λ (row : RowValue). row.entries)
        ∙ length-append (map right_of done) rights ∙ ap (λ k. k + length rights) (length-map done right_of)

    lefts_ended : length lefts ≡ 0
    lefts_ended = elim ended [
      | inl none ↦ ap (λ (l : List RowValue). length l) none
      | inr none ↦ omega (arith, ap (λ (l : List RowValue). length l) none, left_count, right_count, are.beside.as_many)
    ]

    rights_ended : length rights ≡ 0
    rights_ended = omega (arith, lefts_ended, left_count, right_count, are.beside.as_many)

    left_whole : AreRowsOf are.left (map left_of done)
    left_whole = subst (AreRowsOf are.left) (ap (λ (l : List RowValue). map left_of done ++ l) (nil_from_length lefts lefts_ended) ∙ append-nil (map left_of done)) are.left_rows

    right_whole : AreRowsOf are.right (map right_of done)
    right_whole =
        subst (AreRowsOf are.right) (ap (λ (l : List RowValue). map right_of done ++ l) (nil_from_length rights rights_ended) ∙ append-nil (map right_of done)) are.right_rows

    entries_of : (part : AugmentedRow → RowValue) (l : List AugmentedRow) → map (λ (row : RowValue). row.entries) (map part l) ≡ map (λ (row : AugmentedRow). (part row).entries) l
    entries_of part [] = refl
    entries_of part (row ∷ rest) = ap (λ (l : List (List ℕ)). (part row).entries ∷ l) (entries_of part rest)

    of_rows : AreOfRows v done are.left are.right
    of_rows = record {
      left_field = ap (λ (x : AugmentedValue). x.order) are.view_is;
      left_columns = ap (λ (x : AugmentedValue). x.left) are.view_is;
      left_rows = sym left_whole.entries ∙ entries_of left_of done;
      left_fine = are.beside.left;
      right_field = are.beside.field ∙ ap (λ (x : AugmentedValue). x.order) are.view_is;
      right_columns = ap (λ k. k + are.right.cols) (sym (ap (λ (x : AugmentedValue). x.left) are.view_is)) ∙ ap (λ (x : AugmentedValue). x.cols) are.view_is;
      right_rows = sym right_whole.entries ∙ entries_of right_of done;
      right_fine = are.beside.right;
    }

    -- what holds of each row of a part
    part_holds : (P : RowValue → Type 0) (part : AugmentedRow → RowValue) (i : ℕ) (d : AugmentedRow) → All P (map part done) → i < length done →
        P (part (get_or done i d))
    part_holds P part i d each below =
        subst P (get_or-map part done i d (part d) below) (each i (part d) (omega (arith, length-map done part)))

    over : (i : ℕ) (d : AugmentedRow) → i < length done → IsRowOf v (get_or done i d)
    over i d below = record {
      left_field = part_holds (λ (row : RowValue). row.order ≡ are.left.order) left_of i d left_whole.one_field below ∙ of_rows.left_field;
      right_field = part_holds (λ (row : RowValue). row.order ≡ are.right.order) right_of i d right_whole.one_field below ∙ of_rows.right_field;
      left_length = part_holds (λ (row : RowValue). length row.entries ≡ are.left.cols) left_of i d left_whole.as_long below ∙ of_rows.left_columns;
      columns =
          ap (λ k. v.left + k) (part_holds (λ (row : RowValue). length row.entries ≡ are.right.cols) right_of i d right_whole.as_long below)
          ∙ of_rows.right_columns;
      left_elements = part_holds IsRow left_of i d left_whole.well_formed below;
      right_elements = part_holds IsRow right_of i d right_whole.well_formed below;
    }

-- ---- rows that are taken in their order

-- those that were taken and those that are left
module _ (a : AugmentedValue) (done rest : List AugmentedRow) (are : AreRowsInOrder a (done ++ rest)) where
  -- where none is left, all were taken
  pub all_taken : rest ≡ [] → length done ≡ length a.rows
  all_taken none =
      let count : length (map whole (done ++ rest)) ≡ length a.rows = ap (λ (l : List (List ℕ)). length l) are.entries in
      let left : length rest ≡ 0 = ap (λ (l : List AugmentedRow). length l) none in
      omega (arith, count, left, length-map (done ++ rest) whole, length-append done rest)

  pub no_more_taken : length done ≤ length a.rows
  no_more_taken =
      let count : length (map whole (done ++ rest)) ≡ length a.rows = ap (λ (l : List (List ℕ)). length l) are.entries in
      omega (arith, count, length-map (done ++ rest) whole, length-append done rest)

  module _ (row : AugmentedRow) (next : List AugmentedRow) (is : rest ≡ row ∷ next) where
    -- the next one
    pub next_alike : IsRowOf a row
    next_alike = subst (IsRowOf a) at (are.alike (length done) row inside)
      where
        inside : length done < length (done ++ rest)
        inside =
            let left : length rest ≡ length (row ∷ next) = ap (λ (l : List AugmentedRow). length l) is in
            omega (arith, left, length-append done rest)

        at : get_or (done ++ rest) (length done) row ≡ row
        at =
            let place : length done ≡ length done + 0 = omega arith in
            ap (λ (l : List AugmentedRow). get_or (done ++ l) (length done) row) is
            ∙ ap (λ k. get_or (done ++ row ∷ next) k row) place
            ∙ get_or-append-add done (row ∷ next) 0 row

    pub next_entries : whole row ≡ get_or a.rows (length done) []
    next_entries =
        let place : length done ≡ length (map whole done) + 0 = omega (arith, length-map done whole) in
        sym (get_or-append-add (map whole done) (whole row ∷ map whole next) 0 [])
        ∙ ap (λ k. get_or (map whole done ++ whole row ∷ map whole next) k []) (sym place)
        ∙ ap (λ (l : List (List ℕ)). get_or l (length done) [])
        (sym (map-append whole done (row ∷ next)) ∙ ap (λ (l : List AugmentedRow). map whole (done ++ l)) (sym is) ∙ are.entries)

    -- and those that are left
    pub next_left : AreRowsInOrder a ((done ++ row ∷ []) ++ next)
    next_left = subst (AreRowsInOrder a) (ap (λ (l : List AugmentedRow). done ++ l) is ∙ sym (append_assoc done (row ∷ []) next)) are
