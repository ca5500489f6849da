-- Rows of augmented matrices: their fields and lengths, a multiple of another row added, and multiples.
use Rattle.std.proofs.Common.{◌≡◌, ℕ, zero, suc, ◌+◌, ◌-◌, ◌<◌, ◌≤◌, List, [], ◌∷◌, ◌++◌, length, get_or, map, inl, inr, refl, sym, ap, ap₂, subst, ◌∙◌, arith, length-append}
use Rattle.std.specs.Prelude.{slice_index}
use Rattle.std.specs.List.{All}
use Rattle.std.proofs.lemmas.Bool.{cases_lt}
use Rattle.std.proofs.lemmas.List.{ext_get_or, get_or_append_left, get_or-append-add, get_or-map, length-map}
use Rattle.std.proofs.lemmas.List.Elements.{All-append}
use Rattle.axe_algebra.specs.NumberField.{NumberField}
use Rattle.axe_algebra.specs.Bridge.{element, vector_of}
use Rattle.axe_algebra.specs.Lists.{IsVectorOver, IsMatrixOver}
use Rattle.axe_algebra.specs.Vectors.{subtract, scale}
use Rattle.axe_algebra.proofs.ElementNumbers.{element_neg, entry-below}
use Rattle.axe_algebra.proofs.FieldLaws.{neg-mul}
use Rattle.axe_algebra.proofs.ListVectors.{vector_of_added}
use Rattle.axe_field.specs.Order.{Order, IsElement}
use Rattle.axe_field.specs.Arithmetic.{field_neg, field_inv}
use Rattle.axe_field.specs.NumberFields.{number_field, gf}
use Rattle.axe_field.proofs.NumberFields.{number_field-neg}
use Rattle.axe_row.specs.Operations.{sum_with_multiple, multiple}
use Rattle.axe_row.specs.Rows.{RowValue, IsRow}
use Rattle.axe_row.proofs.OperationLaws.{get_or-sum_with_multiple, get_or-multiple, length-sum_with_multiple, length-multiple}
use Rattle.axe_reduction.specs.AugmentedRows.{whole, cancelled, scaled_at, IsRowOver, IsRowLike}
use Rattle.axe_reduction.specs.declared.augmented_row.AugmentedRow.{AugmentedRow}
use mathlib.Core.Path.{fun_ext}

-- ---- fields and lengths

-- two rows of one augmented matrix
pub over_like : (o : Order) (left all : ℕ) (row other : AugmentedRow) → IsRowOver o left all row → IsRowOver o left all other →
    IsRowLike row other
over_like o left all row other h k = record {
  left_field = k.left_field ∙ sym h.left_field;
  right_field = k.right_field ∙ sym h.left_field;
  left_length = k.left_length ∙ sym h.left_length;
  columns = omega (arith, h.left_length, h.columns, k.columns);
  left_elements = k.left_elements;
  right_elements = k.right_elements;
}

-- a row like one of an augmented matrix
pub like_over : (o : Order) (left all : ℕ) (row other : AugmentedRow) → IsRowOver o left all row → IsRowLike row other →
    IsRowOver o left all other
like_over o left all row other h k = record {
  left_field = k.left_field ∙ h.left_field;
  right_field = k.right_field ∙ h.left_field;
  left_length = k.left_length ∙ h.left_length;
  columns = omega (arith, h.left_length, h.columns, k.columns);
  left_elements = k.left_elements;
  right_elements = k.right_elements;
}

elements_below : (o : Order) (row : RowValue) → IsRow row → row.order ≡ o → All (λ number. number < (number_field o).order) row.entries
unfolding number_field
elements_below o row h field = subst (λ p. All (IsElement p) row.entries) field h.elements

pub whole_over : (o : Order) (left all : ℕ) (row : AugmentedRow) → IsRowOver o left all row → IsVectorOver (number_field o) all (whole row)
whole_over o left all row h = record {
  length_is = omega (arith, length-append row.left.entries row.right.entries, h.left_length, h.columns);
  elements = All-append (λ number. number < (number_field o).order) row.left.entries row.right.entries
      (elements_below o row.left h.left_elements h.left_field) (elements_below o row.right h.right_elements h.right_field);
}

-- each item of a list
pub item_at : {A : Type 0} (items : List A) (i : ℕ) → i < length items → (item : A) × (item ≡ get_or items i item)
item_at [] i below = absurd (let wrong : ⊥ = omega (arith, below) in wrong)
item_at (x ∷ items) zero below = (x, refl)
item_at (x ∷ items) (suc i) below = item_at items i (omega (arith, below))

pub wholes_over : (o : Order) (left all : ℕ) (rows : List AugmentedRow) → All (IsRowOver o left all) rows →
    IsMatrixOver (number_field o) all (map whole rows)
wholes_over o left all rows h i d below =
    let inside : i < length rows = omega (arith, length-map rows whole) in
    let row : AugmentedRow = (item_at rows i inside).0 in
    subst (IsVectorOver (number_field o) all)
    (sym (get_or-map whole rows i row d inside)) (whole_over o left all (get_or rows i row) (h i row inside))

-- ---- entries

pub left_entry : (row : AugmentedRow) (j : ℕ) → j < length row.left.entries → get_or (whole row) j 0 ≡ get_or row.left.entries j 0
left_entry row j inside = get_or_append_left row.left.entries row.right.entries 0 j inside

right_entry : (row : AugmentedRow) (k j : ℕ) → length row.left.entries ≡ k → get_or (whole row) (k + j) 0 ≡ get_or row.right.entries j 0
right_entry row k j same =
    ap (λ n. get_or (whole row) (n + j) 0) (sym same) ∙ get_or-append-add row.left.entries row.right.entries j 0

-- what holds at each entry left of the bar and at each right of it
each_entry : (P : ℕ → Type 0) (left all right : ℕ) → left + right ≡ all → ((j : ℕ) → j < left → P j) → ((j : ℕ) → j < right → P (left + j)) →
    (j : ℕ) → j < all → P j
each_entry P left all right count first second j below = elim (cases_lt j left) [
  | inl before ↦ first j before
  | inr past ↦ let at : left + (j - left) ≡ j = omega arith in subst P at (second (j - left) (omega arith))
]

-- the factor by which a row's entry is taken away
abbrev pub factor_of : Order → AugmentedRow → ℕ → ℕ
factor_of o row column = field_neg o (get_or (whole row) column 0)

cancelled_fields : (o : Order) (left all column : ℕ) (row other : AugmentedRow) → IsRowOver o left all row → column < left →
    cancelled column other row ≡ record {
      left = record { order = o; entries = sum_with_multiple (number_field o) row.left.entries (factor_of o row column) other.left.entries };
      right = record { order = o; entries = sum_with_multiple (number_field o) row.right.entries (factor_of o row column) other.right.entries };
    }
cancelled_fields o left all column row other h inside =
    let at : slice_index row.left.entries column ≡ get_or (whole row) column 0 = sym (left_entry row column (omega (arith, h.left_length))) in
    λ i. record {
      left = record {
        order = h.left_field i;
        entries = sum_with_multiple (number_field (h.left_field i)) row.left.entries (field_neg (h.left_field i) (at i)) other.left.entries;
      };
      right = record {
        order = h.right_field i;
        entries = sum_with_multiple (number_field (h.right_field i)) row.right.entries (field_neg (h.left_field i) (at i)) other.right.entries;
      };
    }

-- the entries of a row less the multiple of another
pub cancelled_entry : (o : Order) (left all column : ℕ) (row other : AugmentedRow) → IsRowOver o left all row → IsRowOver o left all other →
    column < left → (j : ℕ) → j < all →
    get_or (whole (cancelled column other row)) j 0
    ≡ (number_field o).add (get_or (whole row) j 0) ((number_field o).mul (factor_of o row column) (get_or (whole other) j 0))
cancelled_entry o left all column row other h k inside =
    subst (λ (r : AugmentedRow). (j : ℕ) → j < all →
    get_or (whole r) j 0 ≡ K.add (get_or (whole row) j 0) (K.mul c (get_or (whole other) j 0)))
    (sym (cancelled_fields o left all column row other h inside))
    (each_entry (λ j. get_or (a ++ b) j 0 ≡ K.add (get_or (whole row) j 0) (K.mul c (get_or (whole other) j 0))) left all (length row.right.entries) h.columns
    (λ j below.
    get_or_append_left a b 0 j (omega (arith, long, h.left_length))
    ∙ get_or-sum_with_multiple K row.left.entries c other.left.entries j (omega (arith, h.left_length))
    ∙ sym (ap₂ (λ x y. K.add x (K.mul c y)) (left_entry row j (omega (arith, h.left_length))) (left_entry other j (omega (arith, k.left_length)))))
    (λ j below.
    ap (λ n. get_or (a ++ b) (n + j) 0) (sym (long ∙ h.left_length)) ∙ get_or-append-add a b j 0
    ∙ get_or-sum_with_multiple K row.right.entries c other.right.entries j below
    ∙ sym (ap₂ (λ x y. K.add x (K.mul c y)) (right_entry row left j h.left_length) (right_entry other left j k.left_length))))
  where
    K : NumberField
    K = number_field o

    c : ℕ
    c = factor_of o row column

    a : List ℕ
    a = sum_with_multiple K row.left.entries c other.left.entries

    b : List ℕ
    b = sum_with_multiple K row.right.entries c other.right.entries

    long : length a ≡ length row.left.entries
    long = length-sum_with_multiple K row.left.entries c other.left.entries

neg-below : (o : Order) (x : ℕ) → x < (number_field o).order → field_neg o x < (number_field o).order
unfolding number_field
neg-below o x small = (number_field o).neg-below x small

-- as vectors
pub cancelled_vector : (o : Order) (left all column : ℕ) (row other : AugmentedRow) → IsRowOver o left all row → IsRowOver o left all other →
    IsRowLike row (cancelled column other row) → column < left →
    vector_of (number_field o) (whole (cancelled column other row))
    ≡ subtract (gf o) (vector_of (number_field o) (whole row))
    (scale (gf o) (vector_of (number_field o) (whole row) column) (vector_of (number_field o) (whole other)))
cancelled_vector o left all column row other h k like inside =
    vector_of_added K all (factor_of o row column) (whole row) (whole other) (whole (cancelled column other row)) (whole_over o left all row h)
    (whole_over o left all other k) (whole_over o left all (cancelled column other row) (like_over o left all row (cancelled column other row) h like))
    (neg-below o x small) (cancelled_entry o left all column row other h k inside)
    ∙ fun_ext λ j. ap ((gf o).add (vector_of K (whole row) j))
    (ap (λ y. (gf o).mul y (vector_of K (whole other) j)) (ap (element K) (sym (number_field-neg o x)) ∙ element_neg K x small)
    ∙ neg-mul (gf o) (element K x) (vector_of K (whole other) j))
  where
    K : NumberField
    K = number_field o

    x : ℕ
    x = get_or (whole row) column 0

    small : x < K.order
    small = entry-below K (whole row) column (whole_over o left all row h).elements

-- ---- multiples

scaled_fields : (o : Order) (left all column : ℕ) (row : AugmentedRow) → IsRowOver o left all row → column < left →
    scaled_at column row ≡ record {
      left = record { order = o; entries = multiple (number_field o) (field_inv o (get_or (whole row) column 0)) row.left.entries };
      right = record { order = o; entries = multiple (number_field o) (field_inv o (get_or (whole row) column 0)) row.right.entries };
    }
scaled_fields o left all column row h inside =
    let at : slice_index row.left.entries column ≡ get_or (whole row) column 0 = sym (left_entry row column (omega (arith, h.left_length))) in
    λ i. record {
      left = record {
        order = h.left_field i;
        entries = multiple (number_field (h.left_field i)) (field_inv (h.left_field i) (at i)) row.left.entries;
      };
      right = record {
        order = h.right_field i;
        entries = multiple (number_field (h.right_field i)) (field_inv (h.left_field i) (at i)) row.right.entries;
      };
    }

-- the entries of a multiple of a row
pub scaled_entry : (o : Order) (left all column : ℕ) (row : AugmentedRow) → IsRowOver o left all row → column < left → (j : ℕ) → j < all →
    get_or (whole (scaled_at column row)) j 0
    ≡ (number_field o).mul (field_inv o (get_or (whole row) column 0)) (get_or (whole row) j 0)
scaled_entry o left all column row h inside =
    subst (λ (r : AugmentedRow). (j : ℕ) → j < all → get_or (whole r) j 0 ≡ K.mul c (get_or (whole row) j 0))
    (sym (scaled_fields o left all column row h inside))
    (each_entry (λ j. get_or (a ++ b) j 0 ≡ K.mul c (get_or (whole row) j 0)) left all (length row.right.entries) h.columns
    (λ j below.
    get_or_append_left a b 0 j (omega (arith, long, h.left_length))
    ∙ get_or-multiple K c row.left.entries j (omega (arith, h.left_length))
    ∙ sym (ap (K.mul c) (left_entry row j (omega (arith, h.left_length)))))
    (λ j below.
    ap (λ n. get_or (a ++ b) (n + j) 0) (sym (long ∙ h.left_length)) ∙ get_or-append-add a b j 0
    ∙ get_or-multiple K c row.right.entries j below
    ∙ sym (ap (K.mul c) (right_entry row left j h.left_length))))
  where
    K : NumberField
    K = number_field o

    c : ℕ
    c = field_inv o (get_or (whole row) column 0)

    a : List ℕ
    a = multiple K c row.left.entries

    b : List ℕ
    b = multiple K c row.right.entries

    long : length a ≡ length row.left.entries
    long = length-multiple K c row.left.entries

-- ---- rows that change one after another

-- the items below n are those of `before` under f, and the others are as they were
pub record IsMappedBelow {A : Type 0} (n : ℕ) (f : A → A) (before now : List A) : Type 0 where
  pub count : length now ≡ length before
  pub done : (i : ℕ) (d : A) → i < n → i < length before → get_or now i d ≡ f (get_or before i d)
  pub kept : (i : ℕ) (d : A) → n ≤ i → get_or now i d ≡ get_or before i d

pub mapped_all : {A : Type 0} (n : ℕ) (f : A → A) (before now : List A) → IsMappedBelow n f before now → length before ≤ n → now ≡ map f before
mapped_all n f before now h all = same now (map f before) (h.count ∙ sym (length-map before f)) (λ i d below.
    let inside : i < length before = omega (arith, h.count) in
    h.done i d (omega arith) inside ∙ sym (get_or-map f before i d d inside))
  where
    same : {A : Type 0} (a b : List A) → length a ≡ length b → ((i : ℕ) (d : A) → i < length a → get_or a i d ≡ get_or b i d) → a ≡ b
    same [] [] count at = refl
    same [] (y ∷ b) count at = absurd (let wrong : ⊥ = omega (arith, count) in wrong)
    same (x ∷ a) [] count at = absurd (let wrong : ⊥ = omega (arith, count) in wrong)
    same (x ∷ a) (y ∷ b) count at = ext_get_or x (x ∷ a) (y ∷ b) count (λ i below. at i x below)
