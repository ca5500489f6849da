-- Digits and the elements that they stand for, and lists of elements cut into rows.
use Rattle.std.proofs.Common.{◌≡◌, ℕ, zero, suc, ◌+◌, ◌*◌, ◌<◌, ◌≤◌, true, false, leb, ltb, List, [], ◌∷◌, ◌++◌, length, map, take, drop, refl, sym, ap, ap₂, subst, ◌∙◌, inl, inr, length-append, length-drop, length-take-le, take-append-drop, take_at, drop_at, leb-true, ltb-true, le-leb, lt-ltb, arith}
use Rattle.std.specs.Prelude.{IsTrue, All}
use Rattle.std.specs.List.{filter, concat}
use Rattle.std.proofs.lemmas.Bool.{cases_Bool, and_parts, and_from}
use Rattle.std.proofs.lemmas.List.{nil_from_length}
use Rattle.std.proofs.lemmas.List.Elements.{All-nil, All-cons, All-head, All-tail, All-take, All-drop, All-append}
use Rattle.axe_file.specs.TextGrammar.{is_white, is_dark, is_element_digit, digit_value, digit_code, AreElementDigits}
use Rattle.axe_file.specs.TextReading.{in_rows}
use Rattle.axe_file.proofs.TextDigits.{IsFit, fit_white, fit_digit, digit_if_fit, dark_after_white, dark_after_dark}

-- ---- digits

-- the digit of an element of a field with so many elements
abbrev pub IsDigitOf : ℕ → ℕ → Type 0
IsDigitOf q b = IsTrue (is_element_digit q b)

pub code_of_value : (q b : ℕ) → is_element_digit q b ≡ true → digit_code (digit_value b) ≡ b
unfolding is_element_digit digit_code digit_value
code_of_value q b e =
    let parts = and_parts (leb 48 b) (ltb b (48 + q)) e in
    let low = leb-true 48 b parts.0 in
    omega arith

pub value_below : (q b : ℕ) → is_element_digit q b ≡ true → digit_value b < q
unfolding is_element_digit digit_value
value_below q b e =
    let parts = and_parts (leb 48 b) (ltb b (48 + q)) e in
    let low = leb-true 48 b parts.0 in
    let high = ltb-true b (48 + q) parts.1 in
    omega arith

pub value_of_code : (a : ℕ) → digit_value (digit_code a) ≡ a
unfolding digit_code digit_value
value_of_code a = omega arith

pub code_is_digit : (q a : ℕ) → a < q → is_element_digit q (digit_code a) ≡ true
unfolding is_element_digit digit_code
code_is_digit q a lt = and_from (leb 48 (48 + a)) (ltb (48 + a) (48 + q)) (le-leb _ _ (omega arith)) (lt-ltb _ _ (omega arith))

pub digit_no_white : (q b : ℕ) → is_element_digit q b ≡ true → is_white b ≡ false
unfolding is_element_digit is_white
digit_no_white q b e =
    let parts = and_parts (leb 48 b) (ltb b (48 + q)) e in
    let low = leb-true 48 b parts.0 in
    grind arith

pub values_of_codes : (xs : List ℕ) → map digit_value (map digit_code xs) ≡ xs
values_of_codes [] = refl
values_of_codes (x ∷ xs) = ap₂ (λ (y : ℕ) (ys : List ℕ). y ∷ ys) (value_of_code x) (values_of_codes xs)

pub codes_of_values : (q : ℕ) (ds : List ℕ) → All (IsDigitOf q) ds → map digit_code (map digit_value ds) ≡ ds
codes_of_values q [] all = refl
codes_of_values q (d ∷ ds) all =
    ap₂ (λ (y : ℕ) (ys : List ℕ). y ∷ ys) (code_of_value q d (All-head (IsDigitOf q) d ds all)) (codes_of_values q ds (All-tail (IsDigitOf q) d ds all))

pub values_below : (q : ℕ) (ds : List ℕ) → All (IsDigitOf q) ds → All (λ a. a < q) (map digit_value ds)
values_below q [] all = All-nil (λ a. a < q)
values_below q (d ∷ ds) all =
    All-cons (λ a. a < q) (digit_value d) (map digit_value ds) (value_below q d (All-head (IsDigitOf q) d ds all)) (values_below q ds (All-tail (IsDigitOf q) d ds all))

pub codes_are_digits : (q : ℕ) (xs : List ℕ) → All (λ a. a < q) xs → All (IsDigitOf q) (map digit_code xs)
codes_are_digits q [] all = All-nil (IsDigitOf q)
codes_are_digits q (x ∷ xs) all =
    All-cons (IsDigitOf q) (digit_code x) (map digit_code xs) (code_is_digit q x (All-head (λ a. a < q) x xs all)) (codes_are_digits q xs (All-tail (λ a. a < q) x xs all))

-- ---- the digits among white space

pub dark_digits : (q : ℕ) (bytes : List ℕ) → AreElementDigits q bytes → All (IsDigitOf q) (filter is_dark bytes)
dark_digits q [] all = All-nil (IsDigitOf q)
dark_digits q (b ∷ bytes) all =
    let rest = dark_digits q bytes (All-tail (IsFit q) b bytes all) in
    elim (cases_Bool (is_white b)) [
      | inl w ↦ subst (λ (x : List ℕ). All (IsDigitOf q) x) (sym (dark_after_white b bytes w)) rest
      | inr d ↦
          subst (λ (x : List ℕ). All (IsDigitOf q) x) (sym (dark_after_dark b bytes d))
          (All-cons (IsDigitOf q) b (filter is_dark bytes) (digit_if_fit q b d (All-head (IsFit q) b bytes all)) rest)
    ]

pub digits_if_dark : (q : ℕ) (bytes : List ℕ) → All (IsDigitOf q) (filter is_dark bytes) → AreElementDigits q bytes
digits_if_dark q [] all = All-nil (IsFit q)
digits_if_dark q (b ∷ bytes) all = elim (cases_Bool (is_white b)) [
  | inl w ↦ All-cons (IsFit q) b bytes (fit_white q b w) (digits_if_dark q bytes (subst (λ (x : List ℕ). All (IsDigitOf q) x) (dark_after_white b bytes w) all))
  | inr d ↦
      let whole = subst (λ (x : List ℕ). All (IsDigitOf q) x) (dark_after_dark b bytes d) all in
      All-cons (IsFit q) b bytes (fit_digit q b d (All-head (IsDigitOf q) b (filter is_dark bytes) whole)) (digits_if_dark q bytes (All-tail (IsDigitOf q) b (filter is_dark bytes) whole))
]

pub all_digits_are_dark : (q : ℕ) (ds : List ℕ) → All (IsDigitOf q) ds → filter is_dark ds ≡ ds
all_digits_are_dark q [] all = refl
all_digits_are_dark q (d ∷ ds) all =
    dark_after_dark d ds (digit_no_white q d (All-head (IsDigitOf q) d ds all)) ∙ ap (λ (x : List ℕ). d ∷ x) (all_digits_are_dark q ds (All-tail (IsDigitOf q) d ds all))

-- ---- rows

pub length-in_rows : (rows columns : ℕ) (xs : List ℕ) → length (in_rows rows columns xs) ≡ rows
unfolding in_rows
length-in_rows zero columns xs = refl
length-in_rows (suc rows) columns xs = ap suc (length-in_rows rows columns (drop columns xs))

pub in_rows_long : (rows columns : ℕ) (xs : List ℕ) → rows * columns ≤ length xs → All (λ row. length row ≡ columns) (in_rows rows columns xs)
unfolding in_rows
in_rows_long zero columns xs h = All-nil (λ row. length row ≡ columns)
in_rows_long (suc rows) columns xs h =
    let left : rows * columns ≤ length (drop columns xs) = omega (arith, length-drop columns xs) in
    All-cons (λ row. length row ≡ columns) (take columns xs) (in_rows rows columns (drop columns xs)) (length-take-le columns xs (omega arith)) (in_rows_long rows columns (drop columns xs) left)

pub in_rows_all : (P : ℕ → Type 0) (rows columns : ℕ) (xs : List ℕ) → All P xs → All (All P) (in_rows rows columns xs)
unfolding in_rows
in_rows_all P zero columns xs h = All-nil (All P)
in_rows_all P (suc rows) columns xs h =
    All-cons (All P) (take columns xs) (in_rows rows columns (drop columns xs)) (All-take P columns xs h) (in_rows_all P rows columns (drop columns xs) (All-drop P columns xs h))

pub concat_of_rows : (rows columns : ℕ) (xs : List ℕ) → length xs ≡ rows * columns → concat (in_rows rows columns xs) ≡ xs
unfolding in_rows
concat_of_rows zero columns xs h = sym (nil_from_length xs (omega (arith, h)))
concat_of_rows (suc rows) columns xs h =
    let left : length (drop columns xs) ≡ rows * columns = omega (arith, length-drop columns xs, h) in
    ap (λ (y : List ℕ). take columns xs ++ y) (concat_of_rows rows columns (drop columns xs) left) ∙ take-append-drop columns xs

pub rows_of_concat : (columns : ℕ) (rows : List (List ℕ)) → All (λ row. length row ≡ columns) rows → in_rows (length rows) columns (concat rows) ≡ rows
unfolding in_rows
rows_of_concat columns [] all = refl
rows_of_concat columns (row ∷ rows) all =
    let long = All-head (λ (r : List ℕ). length r ≡ columns) row rows all in
    ap₂ (λ (y : List ℕ) (ys : List (List ℕ)). y ∷ ys) (take_at row (concat rows) columns long)
    (ap (λ (x : List ℕ). in_rows (length rows) columns x) (drop_at row (concat rows) columns long) ∙ rows_of_concat columns rows (All-tail (λ (r : List ℕ). length r ≡ columns) row rows all))

pub length-concat : (columns : ℕ) (rows : List (List ℕ)) → All (λ row. length row ≡ columns) rows → length (concat rows) ≡ length rows * columns
length-concat columns [] all = omega arith
length-concat columns (row ∷ rows) all =
    let long = All-head (λ (r : List ℕ). length r ≡ columns) row rows all in
    let rest = length-concat columns rows (All-tail (λ (r : List ℕ). length r ≡ columns) row rows all) in
    let whole = length-append row (concat rows) in
    omega arith

pub concat_all : (P : ℕ → Type 0) (rows : List (List ℕ)) → All (All P) rows → All P (concat rows)
concat_all P [] all = All-nil P
concat_all P (row ∷ rows) all = All-append P row (concat rows) (All-head (All P) row rows all) (concat_all P rows (All-tail (All P) row rows all))
