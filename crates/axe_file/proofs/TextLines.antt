-- The loops that write a text.
use Rattle.std.proofs.Common.{◌≡◌, ℕ, zero, suc, ◌+◌, ◌-◌, ◌≤◌, min, List, [], ◌∷◌, ◌++◌, length, take, drop, sym, ap, ◌∙◌, inl, inr, append_assoc, append-nil, length-drop, take_all, arith}
use Rattle.std.specs.List.{flat_map, range_with_len}
use Rattle.std.proofs.lemmas.Bool.{cases_lt}
use Rattle.std.proofs.lemmas.List.{drop_all, flat_map_more}
use Rattle.std.specs.Fmt.{decimal}
use Rattle.std.specs.Prelude.{codes}
use Rattle.axe_field.specs.Order.{order_number}
use Rattle.axe_matrix.specs.Matrices.{MatrixValue}
use Rattle.axe_file.specs.TextWriting.{text_header}

header_shape : (a b c : List ℕ) → codes "matrix field=" ++ (a ++ (codes " rows=" ++ (b ++ (codes " cols=" ++ (c ++ 10 ∷ []))))) ≡ codes "matrix field=" ++ a ++ codes " rows=" ++ b ++ codes " cols=" ++ c ++ 10 ∷ []
header_shape a b c = simp append_assoc

-- a list that is written over whole
pub written_over : (len : ℕ) (old new : List ℕ) → length new ≡ length old → len ≡ length old → take len (new ++ drop (length new) old) ≡ new
written_over len old new long count =
    let none : drop (length new) old ≡ [] = drop_all (length new) old (omega arith) in
    ap (λ (x : List ℕ). take len (new ++ x)) none
    ∙ ap (λ (x : List ℕ). take len x) (append-nil new)
    ∙ take_all len new (omega arith)

-- the header, piece after piece
pub header_written : (m : MatrixValue) (q r c : ℕ) → q ≡ order_number m.order → r ≡ length m.rows → c ≡ m.cols
    → codes "matrix field=" ++ (decimal q ++ (codes " rows=" ++ (decimal r ++ (codes " cols=" ++ (decimal c ++ 10 ∷ []))))) ≡ text_header m
unfolding text_header
header_written m q r c eq er ec = rw (eq, er, ec) (header_shape (decimal (order_number m.order)) (decimal (length m.rows)) (decimal m.cols))

-- the digits of a whole line
pub line_done : (row : List ℕ) (start column : ℕ) → start ≤ length row → column ≡ start + min (length row - start) 80 → take (column - start) (drop start row) ≡ take 80 (drop start row)
line_done row start column low e = elim (cases_lt (length row - start) 80) [
  | inl lt ↦
      let one : length (drop start row) ≤ column - start = omega (arith, length-drop start row) in
      let other : length (drop start row) ≤ 80 = omega (arith, length-drop start row) in
      take_all (column - start) (drop start row) one ∙ sym (take_all 80 (drop start row) other)
  | inr ge ↦
      let whole : column - start ≡ 80 = omega arith in
      ap (λ (n : ℕ). take n (drop start row)) whole
]

pub range_more : (a n : ℕ) → range_with_len a (n + 1) ≡ range_with_len a n ++ (a + n) ∷ []
range_more a zero =
    let one : 0 + 1 ≡ 1 = omega arith in
    let here : a ≡ a + 0 = omega arith in
    ap (λ (n : ℕ). range_with_len a n) one ∙ ap (λ (n : ℕ). n ∷ []) here
range_more a (suc n) =
    let count : suc n + 1 ≡ suc (n + 1) = omega arith in
    let place : a + 1 + n ≡ a + suc n = omega arith in
    ap (λ (k : ℕ). range_with_len a k) count ∙ ap (λ (x : List ℕ). a ∷ x) (range_more (a + 1) n) ∙ ap (λ (k : ℕ). a ∷ (range_with_len (a + 1) n ++ k ∷ [])) place

-- one more piece, for a range that begins at 0
pub piece_more : (f : ℕ → List ℕ) (first items next : List ℕ) (n : ℕ) → items ≡ first ++ flat_map f (range_with_len 0 n) → next ≡ items ++ f n → next ≡ first ++ flat_map f (range_with_len 0 (n + 1))
piece_more f first items next n inv new =
    let here : n ≡ 0 + n = omega arith in
    let range : range_with_len 0 n ++ n ∷ [] ≡ range_with_len 0 (n + 1) = ap (λ (k : ℕ). range_with_len 0 n ++ k ∷ []) here ∙ sym (range_more 0 n) in
    new
    ∙ ap (λ (x : List ℕ). x ++ f n) inv
    ∙ flat_map_more f first (range_with_len 0 n) n
    ∙ ap (λ (x : List ℕ). first ++ flat_map f x) range

-- a whole line with its line feed
pub line_ended : (first items next : List ℕ) (digits : List ℕ) (start end : ℕ) → start ≤ length digits → end ≡ start + min (length digits - start) 80
    → items ≡ first ++ take (end - start) (drop start digits) → next ≡ items ++ 10 ∷ [] → next ≡ first ++ (take 80 (drop start digits) ++ 10 ∷ [])
line_ended first items next digits start end low e inv new =
    new
    ∙ ap (λ (x : List ℕ). x ++ 10 ∷ []) inv
    ∙ append_assoc first (take (end - start) (drop start digits)) (10 ∷ [])
    ∙ ap (λ (x : List ℕ). first ++ (x ++ 10 ∷ [])) (line_done digits start end low e)
