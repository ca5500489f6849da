-- What is written for a matrix is a text of it, and not too long.
use Rattle.std.proofs.Common.{◌≡◌, ℕ, zero, suc, ◌+◌, ◌-◌, ◌*◌, ◌/◌, ◌%◌, ◌^◌, ◌<◌, ◌≤◌, true, List, [], ◌∷◌, ◌++◌, length, map, take, drop, refl, sym, ap, ap₂, ◌∙◌, inr, append_assoc, append-nil, length-append, length-take, take_all, drop-drop, take-add, arith}
use Rattle.std.specs.Prelude.{IsTrue, All, codes}
use Rattle.std.specs.Fmt.{decimal}
use Rattle.std.specs.Int.{div_ceil}
use Rattle.std.specs.Int.Digits.{number_from_digits}
use Rattle.std.specs.List.{filter, concat, flat_map, range_with_len}
use Rattle.std.proofs.lemmas.Fmt.{decimal_by_steps, decimal_nonempty, length-decimal-le}
use Rattle.std.proofs.lemmas.Grind.{div_ceil_times}
use Rattle.std.proofs.lemmas.Int.Digits.{number_push}
use Rattle.std.proofs.lemmas.List.{length-map, map-append, length_push}
use Rattle.std.proofs.lemmas.List.Elements.{All-nil, All-cons, All-head, All-tail, All-take, All-drop, All-append, filter-append}
use Rattle.axe_field.specs.Order.{order_number}
use Rattle.axe_matrix.specs.Matrices.{MatrixValue, IsMatrix}
use Rattle.axe_matrix.specs.Limits.{most_columns}
use Rattle.axe_file.specs.Limits.{most_text_bytes, most_numeral_digits}
use Rattle.axe_file.specs.TextGrammar.{is_white, is_dark, is_digit, digit_value, digit_code, is_element_digit, IsNumeral, numeral_value, IsPart, AreParts, Space, Gap, named_form, IsTextOf}
use Rattle.axe_file.specs.TextWriting.{text_header, text_line, in_lines, text_row, text_of}
use Rattle.axe_file.proofs.TextDigits.{dark_after_white}
use Rattle.axe_field.proofs.Orders.{order_number-at_most}
use Rattle.axe_file.proofs.TextRows.{codes_are_digits, all_digits_are_dark}

-- ---- numerals

-- digits, and the number that they stand for
record AreDigitsOf (n : ℕ) (ds : List ℕ) : Type 0 where
  digits : All (λ byte. IsTrue (is_digit byte)) ds
  value : numeral_value ds ≡ n

code_is_decimal : (d : ℕ) → d < 10 → is_digit (48 + d) ≡ true
unfolding is_digit
code_is_decimal d lt = grind arith

one_digit : (n : ℕ) → n < 10 → AreDigitsOf n ((48 + n) ∷ [])
unfolding numeral_value digit_value
one_digit n lt = record {
  digits = All-cons (λ byte. IsTrue (is_digit byte)) (48 + n) [] (code_is_decimal n lt) (All-nil (λ byte. IsTrue (is_digit byte)));
  value = omega arith;
}

one_more : (n : ℕ) (ds : List ℕ) → 10 ≤ n → AreDigitsOf (n / 10) ds → AreDigitsOf n (ds ++ ((48 + n % 10) ∷ []))
unfolding numeral_value digit_value
one_more n ds ge h =
    let last : is_digit (48 + n % 10) ≡ true = code_is_decimal (n % 10) (omega arith) in
    let front : number_from_digits 10 (map digit_value ds) ≡ n / 10 = h.value in
    record {
      digits = All-append (λ byte. IsTrue (is_digit byte)) ds ((48 + n % 10) ∷ []) h.digits (All-cons (λ byte. IsTrue (is_digit byte)) (48 + n % 10) [] last (All-nil (λ byte. IsTrue (is_digit byte))));
      value =
          ap (λ (x : List ℕ). number_from_digits 10 x) (map-append digit_value ds ((48 + n % 10) ∷ []))
          ∙ number_push 10 (map digit_value ds) (48 + n % 10 - 48)
          ∙ omega (arith, front);
    }

are_digits : (n : ℕ) → n < 2 ^ 64 → AreDigitsOf n (decimal n)
are_digits n lt = decimal_by_steps (λ m ds. AreDigitsOf m ds) one_digit one_more n lt

-- a numeral has room for it
abbrev HasNumeral : ℕ → Type 0
HasNumeral n = n < 10 ^ most_numeral_digits

numeral : (n : ℕ) → HasNumeral n → IsNumeral (decimal n)
numeral n small =
    let fits : n < 2 ^ 64 = omega arith in
    record {
      some_digit = decimal_nonempty n fits;
      not_too_many = length-decimal-le most_numeral_digits n (omega arith) (omega arith) fits;
      digits = (are_digits n fits).digits;
    }

value : (n : ℕ) → HasNumeral n → n ∷ [] ≡ numeral_value (decimal n) ∷ []
value n small = ap (λ (x : ℕ). x ∷ []) (sym (are_digits n (omega arith)).value)

-- ---- the header

-- the header without its line feed
header_of : ℕ → ℕ → ℕ → List ℕ
header_of q r c = codes "matrix field=" ++ (decimal q ++ (codes " rows=" ++ (decimal r ++ (codes " cols=" ++ (decimal c ++ [])))))

one_space : IsPart Gap (32 ∷ []) []
unfolding is_white
one_space = (omega arith, All-cons (λ byte. IsTrue (is_white byte)) 32 [] refl (All-nil (λ byte. IsTrue (is_white byte))), refl)

is_named : (q r c : ℕ) → HasNumeral q → HasNumeral r → HasNumeral c → AreParts (Space ∷ named_form) (header_of q r c) (q ∷ r ∷ c ∷ [])
unfolding named_form header_of
is_named q r c lq lr lc = (
  [],
  _,
  [],
  _,
  refl,
  refl,
  (All-nil (λ byte. IsTrue (is_white byte)), refl),
  (
    codes "matrix",
    _,
    [],
    _,
    refl,
    refl,
    (refl, refl),
    (
      32 ∷ [],
      _,
      [],
      _,
      refl,
      refl,
      one_space,
      (
        codes "field=",
        _,
        [],
        _,
        refl,
        refl,
        (refl, refl),
        (
          decimal q,
          _,
          q ∷ [],
          _,
          refl,
          refl,
          (numeral q lq, value q lq),
          (
            32 ∷ [],
            _,
            [],
            _,
            refl,
            refl,
            one_space,
            (
              codes "rows=",
              _,
              [],
              _,
              refl,
              refl,
              (refl, refl),
              (
                decimal r,
                _,
                r ∷ [],
                _,
                refl,
                refl,
                (numeral r lr, value r lr),
                (
                  32 ∷ [],
                  _,
                  [],
                  _,
                  refl,
                  refl,
                  one_space,
                  (
                    codes "cols=",
                    _,
                    [],
                    _,
                    refl,
                    refl,
                    (refl, refl),
                    (decimal c, [], c ∷ [], [], refl, refl, (numeral c lc, value c lc), (refl, refl)),
                  ),
                ),
              ),
            ),
          ),
        ),
      ),
    ),
  ),
)

shape : (a b c rest : List ℕ)
    → (codes "matrix field=" ++ a ++ codes " rows=" ++ b ++ codes " cols=" ++ c ++ 10 ∷ []) ++ rest
    ≡ (codes "matrix field=" ++ (a ++ (codes " rows=" ++ (b ++ (codes " cols=" ++ (c ++ [])))))) ++ 10 ∷ rest
shape a b c rest = simp (append_assoc, append-nil)

whole_text : (m : MatrixValue) → text_of m ≡ header_of (order_number m.order) (length m.rows) m.cols ++ 10 ∷ flat_map text_row m.rows
unfolding text_of text_header header_of
whole_text m = shape (decimal (order_number m.order)) (decimal (length m.rows)) (decimal m.cols) (flat_map text_row m.rows)

-- ---- the lines

line_digits : (q : ℕ) (digits : List ℕ) (i : ℕ) → All (λ byte. IsTrue (is_element_digit q byte)) digits → filter is_dark (text_line digits i) ≡ take 80 (drop (80 * i) digits)
unfolding text_line is_white
line_digits q digits i all =
    let here = take 80 (drop (80 * i) digits) in
    let some = All-take (λ byte. IsTrue (is_element_digit q byte)) 80 (drop (80 * i) digits) (All-drop (λ byte. IsTrue (is_element_digit q byte)) (80 * i) digits all) in
    filter-append is_dark here (10 ∷ [])
    ∙ ap₂ (λ (x y : List ℕ). x ++ y) (all_digits_are_dark q here some) (dark_after_white 10 [] refl)
    ∙ append-nil here

lines_digits : (q : ℕ) (digits : List ℕ) (i k : ℕ) → All (λ byte. IsTrue (is_element_digit q byte)) digits → filter is_dark (flat_map (text_line digits) (range_with_len i k)) ≡ take (80 * k) (drop (80 * i) digits)
lines_digits q digits i zero all = refl
lines_digits q digits i (suc k) all =
    let next : drop (80 * (i + 1)) digits ≡ drop 80 (drop (80 * i) digits) =
    ap (λ (n : ℕ). drop n digits) (let e : 80 * (i + 1) ≡ 80 * i + 80 = omega arith in e) ∙ sym (drop-drop 80 (80 * i) digits) in
    let long : 80 * suc k ≡ 80 + 80 * k = omega arith in
    filter-append is_dark (text_line digits i) (flat_map (text_line digits) (range_with_len (i + 1) k))
    ∙ ap₂ (λ (x y : List ℕ). x ++ y) (line_digits q digits i all) (lines_digits q digits (i + 1) k all)
    ∙ ap (λ (y : List ℕ). take 80 (drop (80 * i) digits) ++ take (80 * k) y) next
    ∙ sym (take-add 80 (80 * k) (drop (80 * i) digits))
    ∙ ap (λ (n : ℕ). take n (drop (80 * i) digits)) (sym long)

row_digits : (q : ℕ) (row : List ℕ) → All (λ a. a < q) row → filter is_dark (text_row row) ≡ map digit_code row
unfolding text_row in_lines
row_digits q row all =
    let digits = map digit_code row in
    let enough = div_ceil_times (length digits) 80 (omega arith) in
    let long : length digits ≤ 80 * div_ceil (length digits) 80 = omega (arith, enough.0) in
    lines_digits q digits 0 (div_ceil (length digits) 80) (codes_are_digits q row all) ∙ take_all (80 * div_ceil (length digits) 80) digits long

rows_digits : (q : ℕ) (rows : List (List ℕ)) → All (All (λ a. a < q)) rows → filter is_dark (flat_map text_row rows) ≡ map digit_code (concat rows)
rows_digits q [] all = refl
rows_digits q (row ∷ rows) all =
    filter-append is_dark (text_row row) (flat_map text_row rows)
    ∙ ap₂ (λ (x y : List ℕ). x ++ y) (row_digits q row (All-head (All (λ a. a < q)) row rows all)) (rows_digits q rows (All-tail (All (λ a. a < q)) row rows all))
    ∙ sym (map-append digit_code row (concat rows))

pub written_text : (m : MatrixValue) → IsMatrix m → IsTextOf (text_of m) m
unfolding is_white
written_text m h = record {
  begins = record {
    header = header_of (order_number m.order) (length m.rows) m.cols;
    rest = 10 ∷ flat_map text_row m.rows;
    mode = 1;
    order = order_number m.order;
    rows = length m.rows;
    columns = m.cols;
    whole = whole_text m;
    is_header = inr (refl, is_named (order_number m.order) (length m.rows) m.cols (omega (arith, order_number-at_most m.order)) (omega (arith, h.rows_fit)) (omega (arith, h.columns_fit)));
    apart = refl;
  };
  mode = refl;
  order = refl;
  rows = refl;
  columns = refl;
  digits = dark_after_white 10 (flat_map text_row m.rows) refl ∙ rows_digits (order_number m.order) m.rows h.elements;
  matrix = h;
}

-- ---- its length

line_length : (digits : List ℕ) (i : ℕ) → length (text_line digits i) ≤ 81
unfolding text_line
line_length digits i = omega (arith, length_push (take 80 (drop (80 * i) digits)) 10, length-take 80 (drop (80 * i) digits))

lines_length : (digits : List ℕ) (i k : ℕ) → length (flat_map (text_line digits) (range_with_len i k)) ≤ k * 81
lines_length digits i zero = omega arith
lines_length digits i (suc k) =
    omega (arith, line_length digits i, lines_length digits (i + 1) k, length-append (text_line digits i) (flat_map (text_line digits) (range_with_len (i + 1) k)))

-- even where each digit has a line to itself
abbrev most_row_bytes : ℕ
most_row_bytes = 2 * most_columns + 81

row_length : (row : List ℕ) → length row ≤ most_columns → length (text_row row) ≤ most_row_bytes
unfolding text_row in_lines
row_length row le =
    let digits = map digit_code row in
    let few = div_ceil_times (length digits) 80 (omega arith) in
    omega (arith, lines_length digits 0 (div_ceil (length digits) 80), few.1, length-map row digit_code)

rows_length : (columns : ℕ) (rows : List (List ℕ)) → columns ≤ most_columns → All (λ row. length row ≡ columns) rows → length (flat_map text_row rows) ≤ length rows * most_row_bytes
rows_length columns [] le all = omega arith
rows_length columns (row ∷ rows) le all =
    let here = All-head (λ (r : List ℕ). length r ≡ columns) row rows all in
    omega (arith, row_length row (omega arith), rows_length columns rows le (All-tail (λ (r : List ℕ). length r ≡ columns) row rows all), length-append (text_row row) (flat_map text_row rows))

decimal_length : (n : ℕ) → HasNumeral n → length (decimal n) ≤ 9
decimal_length n small = (numeral n small).not_too_many

header_length : (a b c : List ℕ) → length a ≤ 9 → length b ≤ 9 → length c ≤ 9 → length (codes "matrix field=" ++ (a ++ (codes " rows=" ++ (b ++ (codes " cols=" ++ (c ++ [])))))) ≤ 100
header_length a b c la lb lc =
    omega (arith, length-append a (codes " rows=" ++ (b ++ (codes " cols=" ++ (c ++ [])))), length-append b (codes " cols=" ++ (c ++ [])), length-append c [])

pub written_text_fits : (m : MatrixValue) → IsMatrix m → length (text_of m) ≤ most_text_bytes
unfolding header_of
written_text_fits m h =
    let header : length (header_of (order_number m.order) (length m.rows) m.cols) ≤ 100 =
    header_length (decimal (order_number m.order)) (decimal (length m.rows)) (decimal m.cols) (decimal_length (order_number m.order) (omega (arith, order_number-at_most m.order))) (decimal_length (length m.rows) (omega (arith, h.rows_fit)))
    (decimal_length m.cols (omega (arith, h.columns_fit))) in
    let rows = rows_length m.cols m.rows h.columns_fit h.row_lengths in
    let whole : length (text_of m) ≡ length (header_of (order_number m.order) (length m.rows) m.cols) + length (10 ∷ flat_map text_row m.rows) =
    ap length (whole_text m) ∙ length-append (header_of (order_number m.order) (length m.rows) m.cols) (10 ∷ flat_map text_row m.rows) in
    omega (arith, h.rows_fit)
