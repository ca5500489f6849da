-- Matrices some coefficients of whose entries are replaced, part by part.
use Rattle.std.proofs.Common.{◌≡◌, ◌≢◌, ◌⊎◌, ℕ, zero, suc, ◌<◌, ◌≤◌, Bool, true, false, List, [], length, get_or, set, map, cond, refl, sym, ap, subst, ◌∙◌, arith, lit<, inl, inr, get_or-set_same}
use Rattle.std.proofs.lemmas.Bool.{cases_lt, lt-ltb, le-ltb}
use Rattle.std.proofs.lemmas.List.{get_or_past, get_or-map, length-map, map-set}
use Rattle.std.proofs.Math.Seq.{map-set_same}
use Rattle.axe_algebra.specs.Lists.{entry}
use Rattle.axe_field.specs.Order.{Order, prime_of, degree_of, IsElement}
use Rattle.axe_field.specs.Planes.{coefficient, element_of}
use Rattle.axe_field.proofs.CoefficientLaws.{coefficient-below, coefficients_are, element_of-coefficients}
use Rattle.axe_layer.specs.Words.{digit_of_words, digits_with_word}
use Rattle.axe_row.specs.Planes.{coefficients_at}
use Rattle.axe_row.specs.Rows.{RowValue}
use Rattle.axe_row.specs.Words.{HasWords}
use Rattle.axe_row.proofs.RowLaws.{same_row}
use Rattle.axe_row.proofs.RowPlanes.{element_of-zeros, prime-positive}
use Rattle.axe_row.proofs.RowWords.{degree_small}
use Rattle.axe_matrix.specs.Matrices.{MatrixValue, IsMatrix, row_of}
use Rattle.axe_matrix.specs.Transposes.{coefficients_of, HasEntries, HasCoefficients, HasRowWords}
use Rattle.axe_matrix.proofs.EntryWrites.{HasEntries-no_row, HasEntries-no_column, HasEntries-same, HasEntries-as, HasEntries-columns, HasEntries-rows, HasEntries-bottom, HasEntries-right, HasEntries-all_rows}
use Rattle.axe_matrix.specs.RowLists.{matrix_from_rows, MakeMatrix}
use Rattle.axe_matrix.proofs.MatrixLaws.{same_matrix, length-row_of, entry-IsElement}
use Rattle.axe_matrix.proofs.RowWrites.{order-at, row-read}

-- ---- the coefficients of a matrix

pub length-coefficients : (k : ℕ) (m : MatrixValue) → length (coefficients_of k m).rows ≡ length m.rows
length-coefficients k m = length-map m.rows (coefficients_at m.order k)

pub coefficients-row : (k i : ℕ) (m : MatrixValue) → i < length m.rows →
    get_or (coefficients_of k m).rows i [] ≡ coefficients_at m.order k (row_of m i).entries
coefficients-row k i m below = get_or-map (coefficients_at m.order k) m.rows i [] [] below

-- there is one for each element
pub coefficients_all : (o : Order) (k : ℕ) (elements : List ℕ) → k < degree_of o →
    coefficients_at o k elements ≡ map (λ a. coefficient o a k) elements
coefficients_all o k elements below = ap (λ b. cond b (map (λ a. coefficient o a k) elements) []) (lt-ltb k (degree_of o) below)

pub coefficients-at : (k i j : ℕ) (m : MatrixValue) → IsMatrix m → k < degree_of m.order → i < length m.rows → j < m.cols →
    entry (coefficients_of k m).rows i j ≡ coefficient m.order (entry m.rows i j) k
coefficients-at k i j m h power row column =
    let inside : j < length (row_of m i).entries = omega (arith, column, length-row_of m i h row) in
    ap (λ (r : List ℕ). get_or r j 0) (coefficients-row k i m row ∙ coefficients_all m.order k (row_of m i).entries power)
    ∙ get_or-map (λ a. coefficient m.order a k) (row_of m i).entries j 0 0 inside

-- a coefficient is a digit
digit_below : (o : Order) (a k : ℕ) → IsElement o a → k < degree_of o → coefficient o a k < prime_of o
digit_below o a k ha power =
    subst (λ b. coefficient o a k < cond b (prime_of o) 1) (lt-ltb k (degree_of o) power) (coefficient-below o a k ha (omega (arith, power, degree_small o)))

pub coefficients-below : (k i j : ℕ) (m : MatrixValue) → IsMatrix m → k < degree_of m.order → entry (coefficients_of k m).rows i j < prime_of m.order
coefficients-below k i j m h power = elim (cases_lt i (length m.rows)) [
  | inl row ↦ elim (cases_lt j m.cols) [
    | inl column ↦
        subst (λ x. x < prime_of m.order) (sym (coefficients-at k i j m h power row column))
        (digit_below m.order (entry m.rows i j) k (entry-IsElement m i j h) power)
    | inr past ↦
        let long = ap length (coefficients-row k i m row ∙ coefficients_all m.order k (row_of m i).entries power)
        ∙ length-map (row_of m i).entries (λ a. coefficient m.order a k) ∙ length-row_of m i h row in
        subst (λ x. x < prime_of m.order) (sym (get_or_past (get_or (coefficients_of k m).rows i []) j 0 (omega (arith, past, long)))) (prime-positive m.order)
  ]
  | inr past ↦
      subst (λ x. x < prime_of m.order) (sym (ap (λ (r : List ℕ). get_or r j 0) (get_or_past (coefficients_of k m).rows i [] (omega (arith, past, length-coefficients k m)))))
      (prime-positive m.order)
]

-- elements with the same coefficients are equal
pub same_element : (o : Order) (a b : ℕ) → IsElement o a → IsElement o b → ((k : ℕ) → k < degree_of o → coefficient o a k ≡ coefficient o b k) → a ≡ b
same_element o a b ha hb same =
    sym (element_of-coefficients o a ha)
    ∙ ap (λ x. element_of o x (coefficient o a 1) (coefficient o a 2)) (at 0 (lit< tt))
    ∙ ap (λ x. element_of o (coefficient o b 0) x (coefficient o a 2)) (at 1 (lit< tt))
    ∙ ap (element_of o (coefficient o b 0) (coefficient o b 1)) (at 2 (lit< tt)) ∙ element_of-coefficients o b hb
  where
    none : (a k : ℕ) → IsElement o a → k < 3 → degree_of o ≤ k → coefficient o a k ≡ 0
    none a k ha small past =
        let below : coefficient o a k < 1 =
        subst (λ c. coefficient o a k < cond c (prime_of o) 1) (le-ltb k (degree_of o) past) (coefficient-below o a k ha small) in
        omega (arith, below)

    at : (k : ℕ) → k < 3 → coefficient o a k ≡ coefficient o b k
    at k small = elim (cases_lt k (degree_of o)) [
      | inl power ↦ same k power
      | inr past ↦ none a k ha small past ∙ sym (none b k hb small past)
    ]

-- the coefficients of 0
pub coefficient-zero : (o : Order) (k : ℕ) → k < degree_of o → coefficient o 0 k ≡ 0
coefficient-zero o k power = at k (omega (arith, power, degree_small o))
  where
    positive : (b : Bool) → 0 < cond b (prime_of o) 1
    positive true = prime-positive o
    positive false = lit< tt

    at : (k : ℕ) → k < 3 → coefficient o 0 k ≡ 0
    at zero small =
        sym (ap (λ a. coefficient o a 0) (element_of-zeros o)) ∙ (coefficients_are o 0 0 0 (prime-positive o) (positive _) (positive _)).first
    at (suc zero) small =
        sym (ap (λ a. coefficient o a 1) (element_of-zeros o)) ∙ (coefficients_are o 0 0 0 (prime-positive o) (positive _) (positive _)).second
    at (suc (suc zero)) small =
        sym (ap (λ a. coefficient o a 2) (element_of-zeros o)) ∙ (coefficients_are o 0 0 0 (prime-positive o) (positive _) (positive _)).third
    at (suc (suc (suc k))) small = absurd (omega (arith, small))

-- ---- words of a row are replaced

module _ (j i k : ℕ) (words : List ℕ) (m next : MatrixValue) (h : HasRowWords j i k words m next) where
  rows_are : (x : ℕ) → (coefficients_of x next).rows ≡ set (coefficients_of x m).rows i (coefficients_at m.order x (row_of next i).entries)
  rows_are x =
      ap (λ o. map (coefficients_at o x) next.rows) h.order ∙ ap (map (coefficients_at m.order x)) h.rows
      ∙ map-set (coefficients_at m.order x) m.rows i (row_of next i).entries

  pub coefficients_written : coefficients_of j next ≡ record (coefficients_of j m) {
    rows = set (coefficients_of j m).rows i (digits_with_word (coefficients_at m.order j (row_of m i).entries) k (digit_of_words words));
  }
  coefficients_written = same_matrix _ _ h.order h.cols (rows_are j ∙ ap (set (coefficients_of j m).rows i) h.row.written)

  pub coefficients_kept : (x : ℕ) → x ≢ j → coefficients_of x next ≡ coefficients_of x m
  coefficients_kept x other =
      same_matrix _ _ h.order h.cols
      (ap (λ o. map (coefficients_at o x) next.rows) h.order ∙ ap (map (coefficients_at m.order x)) h.rows
      ∙ map-set_same (coefficients_at m.order x) m.rows i (row_of next i).entries [] (h.row.kept x other))

-- and they are so where the row is one of a list
pub HasRowWords-write : (o : Order) (n : ℕ) (rows : List RowValue) (j i k : ℕ) (words : List ℕ) (old new : RowValue) (self : MatrixValue) →
    matrix_from_rows o n rows ≡ self → MakeMatrix o n rows → i < length rows → old ≡ get_or rows i old → HasWords j k words old new →
    HasRowWords j i k words self (matrix_from_rows o n (set rows i new))
HasRowWords-write o n rows j i k words old new self is h below old_is has =
    subst (λ (m : MatrixValue). HasRowWords j i k words m next) is (record {
      order = refl;
      cols = refl;
      row = subst (λ (r : RowValue). HasWords j k words r (row_of next i)) (sym (row-read before o n rows i old refl h below old_is))
          (subst (HasWords j k words old) new_is has);
      rows = map-set (λ (r : RowValue). r.entries) rows i new ∙ ap (set before.rows i) (sym entries_are);
    })
  where
    before : MatrixValue
    before = matrix_from_rows o n rows

    next : MatrixValue
    next = matrix_from_rows o n (set rows i new)

    entries_are : (row_of next i).entries ≡ new.entries
    entries_are =
        ap (λ (x : List (List ℕ)). get_or x i []) (map-set (λ (r : RowValue). r.entries) rows i new)
        ∙ get_or-set_same before.rows i new.entries [] (omega (arith, below, length-map rows (λ (r : RowValue). r.entries)))

    new_is : new ≡ row_of next i
    new_is = same_row new (row_of next i) (has.order ∙ order-at o n rows i old h below old_is) (sym entries_are)

-- ---- parts of the coefficients of one power of x

module _ (k : ℕ) (f : ℕ → ℕ → ℕ) where
  pub HasCoefficients-no_row : (top left right : ℕ) (m : MatrixValue) → HasCoefficients k f top top left right m m
  HasCoefficients-no_row top left right m = record {
    power = HasEntries-no_row f top left right (coefficients_of k m);
    others = λ h _. refl;
  }

  pub HasCoefficients-no_column : (top bottom left : ℕ) (m : MatrixValue) → HasCoefficients k f top bottom left left m m
  HasCoefficients-no_column top bottom left m = record {
    power = HasEntries-no_column f top bottom left (coefficients_of k m);
    others = λ h _. refl;
  }

  pub HasCoefficients-same : (top bottom left right : ℕ) (m : MatrixValue) →
      ((i j : ℕ) → i < length (coefficients_of k m).rows → j < m.cols → top ≤ i → i < bottom → left ≤ j → j < right → entry (coefficients_of k m).rows i j ≡ f i j) →
      HasCoefficients k f top bottom left right m m
  HasCoefficients-same top bottom left right m is = record {
    power = HasEntries-same f top bottom left right (coefficients_of k m) is;
    others = λ h _. refl;
  }

  pub HasCoefficients-as : (g : ℕ → ℕ → ℕ) (top bottom left right : ℕ) (a m : MatrixValue) → HasCoefficients k f top bottom left right a m →
      ((i j : ℕ) → i < length (coefficients_of k a).rows → j < a.cols → top ≤ i → i < bottom → left ≤ j → j < right → f i j ≡ g i j) →
      HasCoefficients k g top bottom left right a m
  HasCoefficients-as g top bottom left right a m h is = record {
    power = HasEntries-as f g top bottom left right (coefficients_of k a) (coefficients_of k m) h.power is;
    others = h.others;
  }

  pub HasCoefficients-columns : (top bottom left middle right : ℕ) (a m next : MatrixValue) → HasCoefficients k f top bottom left middle a m →
      HasCoefficients k f top bottom middle right m next → left ≤ middle → middle ≤ right → HasCoefficients k f top bottom left right a next
  HasCoefficients-columns top bottom left middle right a m next h g begun more = record {
    power = HasEntries-columns f top bottom left middle right (coefficients_of k a) (coefficients_of k m) (coefficients_of k next) h.power g.power begun more;
    others = λ x other. g.others x other ∙ h.others x other;
  }

  pub HasCoefficients-rows : (top middle bottom left right : ℕ) (a m next : MatrixValue) → HasCoefficients k f top middle left right a m →
      HasCoefficients k f middle bottom left right m next → top ≤ middle → middle ≤ bottom → HasCoefficients k f top bottom left right a next
  HasCoefficients-rows top middle bottom left right a m next h g begun more = record {
    power = HasEntries-rows f top middle bottom left right (coefficients_of k a) (coefficients_of k m) (coefficients_of k next) h.power g.power begun more;
    others = λ x other. g.others x other ∙ h.others x other;
  }

  pub HasCoefficients-bottom : (top n bottom left right : ℕ) (a m : MatrixValue) → HasCoefficients k f top n left right a m →
      (n ≡ bottom) ⊎ ((length a.rows ≤ n) × (n ≤ bottom)) → HasCoefficients k f top bottom left right a m
  HasCoefficients-bottom top n bottom left right a m h ended = record {
    power = HasEntries-bottom f top n bottom left right (coefficients_of k a) (coefficients_of k m) h.power (elim ended [
      | inl same ↦ inl same
      | inr all ↦ inr (omega (arith, all.0, length-coefficients k a), all.1)
    ]);
    others = h.others;
  }

  pub HasCoefficients-right : (top bottom left n : ℕ) (a m : MatrixValue) → HasCoefficients k f top bottom left n a m → a.cols ≤ n →
      HasCoefficients k f top bottom left a.cols a m
  HasCoefficients-right top bottom left n a m h all = record {
    power = HasEntries-right f top bottom left n (coefficients_of k a) (coefficients_of k m) h.power all;
    others = h.others;
  }

  pub HasCoefficients-all_rows : (top n left right : ℕ) (a m : MatrixValue) → HasCoefficients k f top n left right a m → length a.rows ≤ n →
      HasCoefficients k f top (length a.rows) left right a m
  HasCoefficients-all_rows top n left right a m h all = record {
    power =
        subst (λ rows. HasEntries f top rows left right (coefficients_of k a) (coefficients_of k m)) (length-coefficients k a)
        (HasEntries-all_rows f top n left right (coefficients_of k a) (coefficients_of k m) h.power (omega (arith, all, length-coefficients k a)));
    others = h.others;
  }

  -- the shape stays
  pub HasCoefficients-count : (top bottom left right : ℕ) (a m : MatrixValue) → HasCoefficients k f top bottom left right a m → length m.rows ≡ length a.rows
  HasCoefficients-count top bottom left right a m h = sym (length-coefficients k m) ∙ h.power.count ∙ length-coefficients k a
