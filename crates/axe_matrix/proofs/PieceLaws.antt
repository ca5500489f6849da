-- The numbers of pieces of a matrix's rows: that a byte has room for each, and how they are read one after another.
use Rattle.std.proofs.Common.{◌≡◌, ℕ, ◌+◌, ◌*◌, ◌^◌, ◌<◌, ◌≤◌, List, [], ◌∷◌, ◌++◌, length, get_or, sym, ap, ◌∙◌, subst, arith, add-one, length-append, below_more}
use Rattle.std.proofs.Math.Nat.{lt_of_mul-lt-mul_right, pow-le-pow_right, suc-mul}
use Rattle.std.proofs.Math.Seq.{get_or-append_seam}
use Rattle.std.proofs.lemmas.List.{get_or_append_left, get_or_default}
use Rattle.axe_field.specs.CheckedLaws.{order_number-above}
use Rattle.axe_field.specs.Order.{Order, Two, Three, Four, Five, Seven, Eight, Nine, order_number}
use Rattle.axe_field.proofs.Orders.{one_is_element}
use Rattle.axe_row.specs.Combinations.{most_combined, piece_number, piece_numbers}
use Rattle.axe_matrix.specs.Matrices.{MatrixValue, IsMatrix, row_of}
use Rattle.axe_matrix.specs.PieceTables.{ArePieceNumbers, AreBlockNumbers}
use Rattle.axe_matrix.proofs.MatrixLaws.{IsRow-row_of}
use Rattle.axe_matrix.proofs.TableLaws.{name-fits}

-- no more than eight rows are combined
pub most_combined-short : (o : Order) → most_combined o ≤ 8
most_combined-short Two = omega arith
most_combined-short Three = omega arith
most_combined-short Four = omega arith
most_combined-short Five = omega arith
most_combined-short Seven = omega arith
most_combined-short Eight = omega arith
most_combined-short Nine = omega arith

-- they have no more combinations than a byte has values
combinations-fit : (o : Order) → order_number o ^ most_combined o ≤ 256
combinations-fit Two = omega arith
combinations-fit Three = omega arith
combinations-fit Four = omega arith
combinations-fit Five = omega arith
combinations-fit Seven = omega arith
combinations-fit Eight = omega arith
combinations-fit Nine = omega arith

-- a byte has room for the number of a piece
pub piece_number-below : (m : MatrixValue) (i size from : ℕ) → IsMatrix m → i < length m.rows →
    size ≤ most_combined m.order →
    piece_number (row_of m i) 1 size from < 256
piece_number-below m i size from h below most =
    let fits = name-fits m.order 1 from size (get_or m.rows i []) (one_is_element m.order)
    (IsRow-row_of m i h below).elements in
    let fewer : order_number m.order ^ size ≤ order_number m.order ^ most_combined m.order =
    pow-le-pow_right (let above : 1 < order_number m.order = order_number-above m.order in omega arith) most in
    omega (arith, fits, fewer, combinations-fit m.order)

-- the numbers of the pieces of the first n rows
pub record ArePieceNumbersBelow (n : ℕ) (m : MatrixValue) (size at : ℕ) (numbers : List (List ℕ)) : Type 0 where
  pub count : length numbers ≡ n
  pub each : (i : ℕ) → i < n → get_or numbers i [] ≡ piece_numbers (row_of m i) 1 size at

-- of no row
pub ArePieceNumbersBelow-none : (m : MatrixValue) (size at : ℕ) (numbers : List (List ℕ)) → numbers ≡ [] →
    ArePieceNumbersBelow 0 m size at numbers
ArePieceNumbersBelow-none m size at numbers e = record {
  count = ap (λ (x : List (List ℕ)). length x) e;
  each = λ i below. absurd (omega (arith, below));
}

-- of one more row
pub ArePieceNumbersBelow-more : (n : ℕ) (m : MatrixValue) (size at : ℕ) (numbers next : List (List ℕ)) (more : List ℕ) →
    ArePieceNumbersBelow n m size at numbers → next ≡ numbers ++ more ∷ [] →
    more ≡ piece_numbers (row_of m n) 1 size at →
    ArePieceNumbersBelow (n + 1) m size at next
ArePieceNumbersBelow-more n m size at numbers next more h e is = record {
  count = ap (λ (x : List (List ℕ)). length x) e ∙ length-append numbers (more ∷ []) ∙ ap (λ k. k + 1) h.count;
  each = λ i row.
      ap (λ (x : List (List ℕ)). get_or x i []) e
      ∙ below_more (λ k. get_or (numbers ++ more ∷ []) k [] ≡ piece_numbers (row_of m k) 1 size at) n
      (λ k earlier. get_or_append_left numbers (more ∷ []) [] k (omega (arith, earlier, h.count)) ∙ h.each k earlier)
      (ap (λ k. get_or (numbers ++ more ∷ []) k []) (sym h.count) ∙ get_or-append_seam numbers more [] [] ∙ is)
      i row;
}

-- of all rows
pub ArePieceNumbersBelow-all : (n : ℕ) (m : MatrixValue) (size at : ℕ) (numbers : List (List ℕ)) →
    ArePieceNumbersBelow n m size at numbers →
    n ≡ length m.rows → ArePieceNumbers m size at numbers
ArePieceNumbersBelow-all n m size at numbers h all = record {
  count = h.count ∙ all;
  each = λ i row. h.each i (omega (arith, row, all));
}

-- what is read of them for a row
pub numbers-read : (m : MatrixValue) (size at i : ℕ) (numbers items : List (List ℕ)) (read : List ℕ) →
    ArePieceNumbers m size at numbers →
    items ≡ numbers → i < length m.rows → read ≡ get_or items i read → read ≡ piece_numbers (row_of m i) 1 size at
numbers-read m size at i numbers items read h kept below is =
    is ∙ ap (λ (x : List (List ℕ)). get_or x i read) kept
    ∙ get_or_default numbers i read [] (omega (arith, below, h.count)) ∙ h.each i below

-- the numbers of some first blocks, which end before a column
pub record AreBlockNumbersBelow (column : ℕ) (m : MatrixValue) (size : ℕ) (blocks : List (List (List ℕ))) : Type 0 where
  pub ends : column ≡ length blocks * (4 * size)
  pub each : (k : ℕ) → k < length blocks → ArePieceNumbers m size (k * (4 * size)) (get_or blocks k [])

-- one block more is one step further
next_block : (n step : ℕ) → (n + 1) * step ≡ n * step + step
next_block n step = ap (λ k. k * step) (add-one n) ∙ suc-mul n step

-- of no block
pub AreBlockNumbersBelow-none : (m : MatrixValue) (size : ℕ) (blocks : List (List (List ℕ))) → blocks ≡ [] →
    AreBlockNumbersBelow 0 m size blocks
AreBlockNumbersBelow-none m size blocks e =
    let none : length blocks ≡ 0 = ap (λ (x : List (List (List ℕ))). length x) e in
    record {
      ends = sym (ap (λ n. n * (4 * size)) none ∙ (let nothing : 0 * (4 * size) ≡ 0 = omega arith in nothing));
      each = λ k below. absurd (omega (arith, below, none));
    }

-- of one more block
pub AreBlockNumbersBelow-more : (column : ℕ) (m : MatrixValue) (size : ℕ) (blocks next : List (List (List ℕ)))
    (more : List (List ℕ)) →
    AreBlockNumbersBelow column m size blocks → next ≡ blocks ++ more ∷ [] → ArePieceNumbers m size column more →
    AreBlockNumbersBelow (column + 4 * size) m size next
AreBlockNumbersBelow-more column m size blocks next more h e is =
    let long : length next ≡ length blocks + 1 =
    ap (λ (x : List (List (List ℕ))). length x) e ∙ length-append blocks (more ∷ []) in
    let steps : (length blocks + 1) * (4 * size) ≡ length blocks * (4 * size) + 4 * size =
    next_block (length blocks) (4 * size) in
    record {
      ends = ap (λ n. n + 4 * size) h.ends ∙ sym steps ∙ sym (ap (λ n. n * (4 * size)) long);
      each = λ k below.
          subst (λ (x : List (List (List ℕ))). ArePieceNumbers m size (k * (4 * size)) (get_or x k [])) (sym e)
          (below_more (λ j. ArePieceNumbers m size (j * (4 * size)) (get_or (blocks ++ more ∷ []) j [])) (length blocks)
          (λ j earlier. subst (ArePieceNumbers m size (j * (4 * size)))
          (sym (get_or_append_left blocks (more ∷ []) [] j earlier)) (h.each j earlier))
          (subst (ArePieceNumbers m size (length blocks * (4 * size))) (sym (get_or-append_seam blocks more [] []))
          (subst (λ n. ArePieceNumbers m size n more) h.ends is))
          k (omega (arith, below, long)));
    }

-- of all blocks
pub AreBlockNumbersBelow-all : (column : ℕ) (m : MatrixValue) (size : ℕ) (blocks : List (List (List ℕ))) →
    AreBlockNumbersBelow column m size blocks →
    m.cols ≤ column → AreBlockNumbers m size blocks
AreBlockNumbersBelow-all column m size blocks h all = record {
  all = subst (λ n. m.cols ≤ n) h.ends all;
  each = h.each;
}

-- a column of the matrix is in one of the blocks
pub block-within : (m : MatrixValue) (size : ℕ) (blocks : List (List (List ℕ))) (block column : ℕ) →
    AreBlockNumbers m size blocks →
    column ≡ block * (4 * size) → column < m.cols → block < length blocks
block-within m size blocks block column h is below =
    let within : column < length blocks * (4 * size) = omega (arith, below, h.all) in
    lt_of_mul-lt-mul_right (4 * size) (subst (λ n. n < length blocks * (4 * size)) is within)

-- and the next block begins where this one ends
pub block-ends : (block column size : ℕ) → column ≡ block * (4 * size) → column + 4 * size ≡ (block + 1) * (4 * size)
block-ends block column size is = ap (λ n. n + 4 * size) is ∙ sym (next_block block (4 * size))

-- the numbers that are read for it are those of its pieces
pub block-numbers : (m : MatrixValue) (size size' : ℕ) (blocks : List (List (List ℕ))) (block column : ℕ)
    (numbers : List (List ℕ)) →
    AreBlockNumbers m size blocks → column ≡ block * (4 * size) → size ≡ size' → block < length blocks →
    numbers ≡ get_or blocks block numbers →
    ArePieceNumbers m size' column numbers
block-numbers m size size' blocks block column numbers h is same below read =
    subst (λ n. ArePieceNumbers m n column numbers) same
    (subst (λ n. ArePieceNumbers m size n numbers) (sym is)
    (subst (ArePieceNumbers m size (block * (4 * size)))
    (get_or_default blocks block [] numbers below ∙ sym read) (h.each block below)))
