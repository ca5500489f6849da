-- The one text of a matrix that is written.
use Rattle.std.specs.Prelude.{ℕ, ◌*◌, List, [], ◌∷◌, ◌++◌, length, map, take, drop, codes}
use Rattle.std.specs.Fmt.{decimal}
use Rattle.std.specs.Int.{div_ceil}
use Rattle.std.specs.List.{flat_map, range_with_len}
use Rattle.axe_field.specs.Order.{order_number}
use Rattle.axe_matrix.specs.Matrices.{MatrixValue}
use Rattle.axe_file.specs.Limits.{digits_per_line}
use Rattle.axe_file.specs.TextGrammar.{digit_code}

-- the header with names, its numbers without leading zeros, ended by a line feed
unfoldable pub text_header : MatrixValue → List ℕ
text_header m =
    codes "matrix field=" ++ decimal (order_number m.order) ++ codes " rows=" ++ decimal (length m.rows)
    ++ codes " cols=" ++ decimal m.cols ++ 10 ∷ []

-- line i of digits: those from place i times `digits_per_line` on, at most so many of them, ended by a line feed
unfoldable pub text_line : List ℕ → ℕ → List ℕ
text_line digits i = take digits_per_line (drop (digits_per_line * i) digits) ++ 10 ∷ []

-- digits in lines of `digits_per_line`, the last of which has what is left
unfoldable pub in_lines : List ℕ → List ℕ
in_lines digits = flat_map (text_line digits) (range_with_len 0 (div_ceil (length digits) digits_per_line))

-- a row: the digits of its entries, in lines
unfoldable pub text_row : List ℕ → List ℕ
text_row row = in_lines (map digit_code row)

-- the text that is written: the header, then row after row
unfoldable pub text_of : MatrixValue → List ℕ
text_of m = text_header m ++ flat_map text_row m.rows
