-- Some rows of matrices beside one another, rows after rows, and entries at chosen columns.
use Rattle.std.proofs.Common.{◌≡◌, ℕ, ◌+◌, ◌-◌, ◌<◌, ◌≤◌, List, [], ◌++◌, length, get_or, min, take, drop, refl, sym, ap, ap₂, ◌∙◌, arith, length-append}
use Rattle.std.specs.List.{All}
use Rattle.std.proofs.lemmas.List.{ext_get_or, get_or-drop, get_or-map, get_or-take, length-drop, length-take, length-take-le, length-map}
use Rattle.axe_algebra.specs.Lists.{entry, listed}
use Rattle.axe_algebra.proofs.ListEntries.{listed_length, listed_at}
use Rattle.axe_matrix.specs.Matrices.{MatrixValue, IsMatrix, AreSplit, columns_at, entries_at}
use Rattle.axe_reduction.specs.Augmented.{AugmentedValue, AreBeside, rows_beside, augmented, some_rows, with_rows, entries_at_columns}
use Rattle.axe_reduction.proofs.BesideLaws.{length-rows_beside, row-rows_beside, append_beside, same_augmented, view-count, view-entry}

-- ---- some of the rows

-- the first rows beside one another
first_beside : (count : ℕ) (a b : List (List ℕ)) → length b ≡ length a → count ≤ length a →
    rows_beside (take count a) (take count b) ≡ listed count (λ i. get_or (rows_beside a b) (0 + i) [])
first_beside count a b same within =
    let f : ℕ → List ℕ = λ i. get_or (rows_beside a b) (0 + i) [] in
    let all : length (take count a) ≡ count = length-take-le count a within in
    ext_get_or [] (rows_beside (take count a) (take count b)) (listed count f)
    (length-rows_beside (take count a) (take count b) ∙ all ∙ sym (listed_length count f)) (λ i below.
    let inside : i < count = omega (arith, length-rows_beside (take count a) (take count b), all) in
    row-rows_beside (take count a) (take count b) i (omega (arith, all, inside))
    ∙ ap₂ (λ (x y : List ℕ). x ++ y) (get_or-take count a i [] inside) (get_or-take count b i [] inside)
    ∙ sym (listed_at count f i [] inside
    ∙ ap (λ k. get_or (rows_beside a b) k []) (let at : 0 + i ≡ i = omega arith in at) ∙ row-rows_beside a b i (omega arith)))

-- and those after them
after_beside : (count : ℕ) (a b : List (List ℕ)) → length b ≡ length a → count ≤ length a →
    rows_beside (drop count a) (drop count b) ≡ listed (length a - count) (λ i. get_or (rows_beside a b) (count + i) [])
after_beside count a b same within =
    let f : ℕ → List ℕ = λ i. get_or (rows_beside a b) (count + i) [] in
    let all : length (drop count a) ≡ length a - count = length-drop count a in
    ext_get_or [] (rows_beside (drop count a) (drop count b)) (listed (length a - count) f)
    (length-rows_beside (drop count a) (drop count b) ∙ all ∙ sym (listed_length (length a - count) f)) (λ i below.
    let inside : i < length a - count = omega (arith, length-rows_beside (drop count a) (drop count b), all) in
    row-rows_beside (drop count a) (drop count b) i (omega (arith, all, inside))
    ∙ ap₂ (λ (x y : List ℕ). x ++ y) (get_or-drop count a i []) (get_or-drop count b i [])
    ∙ sym (listed_at (length a - count) f i [] inside ∙ row-rows_beside a b (count + i) (omega arith)))

-- two matrices that are split at one row
pub split-AreBeside : (a b left right left_after right_after : MatrixValue) (count : ℕ) → AreBeside a b →
    AreSplit a count left left_after → AreSplit b count right right_after → IsMatrix left × IsMatrix left_after →
    IsMatrix right × IsMatrix right_after → AreBeside left right × AreBeside left_after right_after
split-AreBeside a b left right left_after right_after count h one two left_fine right_fine = (
  record {
    field = ap (λ (x : MatrixValue). x.order) two.first_rows ∙ h.field ∙ sym (ap (λ (x : MatrixValue). x.order) one.first_rows);
    as_many =
        ap (λ (x : MatrixValue). length x.rows) two.first_rows ∙ length-take count b.rows ∙ ap (min count) h.as_many
        ∙ sym (ap (λ (x : MatrixValue). length x.rows) one.first_rows ∙ length-take count a.rows);
    left = left_fine.0;
    right = right_fine.0;
  },
  record {
    field = ap (λ (x : MatrixValue). x.order) two.rows_after ∙ h.field ∙ sym (ap (λ (x : MatrixValue). x.order) one.rows_after);
    as_many =
        ap (λ (x : MatrixValue). length x.rows) two.rows_after ∙ length-drop count b.rows ∙ ap (λ k. k - count) h.as_many
        ∙ sym (ap (λ (x : MatrixValue). length x.rows) one.rows_after ∙ length-drop count a.rows);
    left = left_fine.1;
    right = right_fine.1;
  },
)

-- they are the first rows of the augmented matrix, and those after them
pub split_rows_first : (a b left right left_after right_after : MatrixValue) (v : AugmentedValue) (count : ℕ) → augmented a b ≡ v → AreBeside a b →
    count ≤ length v.rows → AreSplit a count left left_after → AreSplit b count right right_after →
    augmented left right ≡ some_rows v 0 count
split_rows_first a b left right left_after right_after v count view_is h within one two =
    ap₂ augmented one.first_rows two.first_rows
    ∙ same_augmented (augmented (record a { rows = take count a.rows }) (record b { rows = take count b.rows })) (some_rows (augmented a b) 0 count) refl refl refl
    (first_beside count a.rows b.rows h.as_many (omega (arith, within, view-count a b v view_is)))
    ∙ ap (λ (x : AugmentedValue). some_rows x 0 count) view_is

pub split_rows_after : (a b left right left_after right_after : MatrixValue) (v : AugmentedValue) (count : ℕ) → augmented a b ≡ v → AreBeside a b →
    count ≤ length v.rows → AreSplit a count left left_after → AreSplit b count right right_after →
    augmented left_after right_after ≡ some_rows v count (length v.rows - count)
split_rows_after a b left right left_after right_after v count view_is h within one two =
    ap₂ augmented one.rows_after two.rows_after
    ∙ same_augmented (augmented (record a { rows = drop count a.rows }) (record b { rows = drop count b.rows }))
    (some_rows (augmented a b) count (length a.rows - count)) refl refl refl
    (after_beside count a.rows b.rows h.as_many (omega (arith, within, view-count a b v view_is)))
    ∙ ap₂ (λ (x : AugmentedValue) k. some_rows x count (k - count)) view_is (sym (view-count a b v view_is))

-- ---- rows after rows

-- both matrices with more rows
pub with_more_rows : (a b x y left right : MatrixValue) (v w : AugmentedValue) → augmented a b ≡ v → AreBeside a b → augmented x y ≡ w → AreBeside x y →
    left ≡ record a { rows = a.rows ++ x.rows } → right ≡ record b { rows = b.rows ++ y.rows } → augmented left right ≡ with_rows v w
with_more_rows a b x y left right v w view_is h other_is other left_is right_is =
    ap₂ augmented left_is right_is
    ∙ same_augmented (augmented (record a { rows = a.rows ++ x.rows }) (record b { rows = b.rows ++ y.rows })) (with_rows (augmented a b) (augmented x y)) refl refl refl
    (append_beside a.rows b.rows x.rows y.rows h.as_many other.as_many)
    ∙ ap₂ with_rows view_is other_is

pub more_rows-AreBeside : (a b x y left right : MatrixValue) → AreBeside a b → AreBeside x y → left ≡ record a { rows = a.rows ++ x.rows } →
    right ≡ record b { rows = b.rows ++ y.rows } → IsMatrix left → IsMatrix right → AreBeside left right
more_rows-AreBeside a b x y left right h other left_is right_is left_fine right_fine = record {
  field = ap (λ (m : MatrixValue). m.order) right_is ∙ h.field ∙ sym (ap (λ (m : MatrixValue). m.order) left_is);
  as_many =
      ap (λ (m : MatrixValue). length m.rows) right_is ∙ length-append b.rows y.rows ∙ ap₂ (λ (s t : ℕ). s + t) h.as_many other.as_many
      ∙ sym (ap (λ (m : MatrixValue). length m.rows) left_is ∙ length-append a.rows x.rows);
  left = left_fine;
  right = right_fine;
}

-- ---- entries at chosen columns

-- the entries of a row left of the bar are those of the first matrix's row
entries_beside : (a b : MatrixValue) (v : AugmentedValue) (columns : List ℕ) (i : ℕ) → augmented a b ≡ v → AreBeside a b →
    All (λ column. column < v.left) columns → i < length v.rows →
    entries_at columns (get_or a.rows i []) ≡ entries_at columns (get_or v.rows i [])
entries_beside a b v columns i view_is h inside below =
    ext_get_or 0 (entries_at columns (get_or a.rows i [])) (entries_at columns (get_or v.rows i []))
    (length-map columns (entry a.rows i) ∙ sym (length-map columns (entry v.rows i))) (λ t in_row.
    let before : t < length columns = omega (arith, length-map columns (entry a.rows i)) in
    get_or-map (entry a.rows i) columns t 0 0 before
    ∙ sym (get_or-map (entry v.rows i) columns t 0 0 before ∙ view-entry a b v i (get_or columns t 0) view_is h below (inside t 0 before)))

-- the columns of the first matrix are those left of the bar
pub columns_beside : (a b entries : MatrixValue) (v : AugmentedValue) (columns : List ℕ) → augmented a b ≡ v → AreBeside a b →
    All (λ column. column < v.left) columns → entries ≡ columns_at columns a → entries ≡ entries_at_columns v columns
columns_beside a b entries v columns view_is h inside is =
    is ∙ (λ k. record { order = order k; cols = length columns; rows = same k })
  where
    order : a.order ≡ v.order
    order = ap (λ (x : AugmentedValue). x.order) view_is

    f : ℕ → List ℕ
    f i = entries_at columns (get_or a.rows i [])

    g : ℕ → List ℕ
    g i = entries_at columns (get_or v.rows i [])

    count : length v.rows ≡ length a.rows
    count = view-count a b v view_is

    same : listed (length a.rows) f ≡ listed (length v.rows) g
    same =
        ext_get_or [] (listed (length a.rows) f) (listed (length v.rows) g)
        (listed_length (length a.rows) f ∙ sym count ∙ sym (listed_length (length v.rows) g)) (λ i inside_list.
        let below : i < length a.rows = omega (arith, listed_length (length a.rows) f) in
        let within : i < length v.rows = omega (arith, below, count) in
        listed_at (length a.rows) f i [] below ∙ entries_beside a b v columns i view_is h inside within
        ∙ sym (listed_at (length v.rows) g i [] within))
