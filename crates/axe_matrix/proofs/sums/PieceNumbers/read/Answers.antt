use Rattle.std.proofs.Common.{◌≡◌, ◌+◌, ◌*◌, ◌≤◌, ◌<◌, ℕ, List, [], ◌∷◌, length, get_or, refl, sym, ap, ◌∙◌, subst, arith}
use Rattle.axe_field.proofs.Orders.{one_is_element}
use Rattle.axe_row.specs.Combinations.{most_combined, piece_number, piece_numbers}
use Rattle.axe_row.specs.Rows.{RowValue}
use Rattle.axe_matrix.specs.Matrices.{MatrixValue, IsMatrix, row_of}
use Rattle.axe_matrix.proofs.PieceLaws.{most_combined-short, piece_number-below, ArePieceNumbersBelow-none, ArePieceNumbersBelow-more, ArePieceNumbersBelow-all}
use Rattle.axe_matrix.proofs.sums.PieceNumbers.read.Goals as goal

pub loop-index-init : goal.loop-index-init
loop-index-init c = ArePieceNumbersBelow-none _ _ _ _ c.in_ok-rows.ensures.items

pub piece_numbers-requires-clause-element : goal.piece_numbers-requires-clause-element
piece_numbers-requires-clause-element c = one_is_element _

pub piece_numbers-requires-clause-short : goal.piece_numbers-requires-clause-short
piece_numbers-requires-clause-short c = omega (arith, c.requires.size, most_combined-short c.args.a.now.order)

pub piece_numbers-requires-clause-counted : goal.piece_numbers-requires-clause-counted
piece_numbers-requires-clause-counted c =
    omega (
      arith,
      c.requires.size,
      most_combined-short c.args.a.now.order,
      c.requires.within,
      c.rows.ensures.well_formed.columns_fit,
    )

pub loop-index-preserved : goal.loop-index-preserved
loop-index-preserved c =
    let read = c.piece_numbers.ensures
    ∙ ap (λ (r : RowValue). piece_numbers r 1 c.args.size c.args.at) c.row.ensures.value in
    ArePieceNumbersBelow-more _ _ _ _ _ _ _ c.loop-index.invariant c.in_ok-push.ensures.items
    (ap (λ (ns : List ℕ). get_or ns 0 0 ∷ get_or ns 1 0 ∷ get_or ns 2 0 ∷ get_or ns 3 0 ∷ []) read)

pub returns : goal.returns
returns c = record {
  numbers =
      ArePieceNumbersBelow-all _ _ _ _ _ c.loop-index.invariant
      (omega (arith, c.loop-index-test.false, c.loop-index.auto.index-end, c.rows-index-end.ensures.count));
}

-- a byte has room for a number that was read
small : (m : MatrixValue) (i size at from k : ℕ) (row : RowValue) (numbers : List ℕ) → IsMatrix m → i < length m.rows →
    size ≤ most_combined m.order →
    row ≡ row_of m i → numbers ≡ piece_numbers row 1 size at →
    get_or (piece_numbers (row_of m i) 1 size at) k 0 ≡ piece_number (row_of m i) 1 size from →
    get_or numbers k 0 < 256
small m i size at from k row numbers h below most row_is is named =
    subst (λ n. n < 256)
    (sym (ap (λ (ns : List ℕ). get_or ns k 0) (is ∙ ap (λ (r : RowValue). piece_numbers r 1 size at) row_is) ∙ named))
    (piece_number-below m i size from h below most)

pub overflow_cast-first : goal.overflow_cast-first
overflow_cast-first c =
    let below : c.loop-index.index < length c.args.a.now.rows =
    omega (arith, c.loop-index-test.true, c.rows-index-end.ensures.count) in
    omega (
      arith,
      small c.args.a.now c.loop-index.index c.args.size c.args.at c.args.at 0 c.row.result.now c.piece_numbers.result
          c.rows.ensures.well_formed below c.requires.size c.row.ensures.value c.piece_numbers.ensures refl,
    )

pub overflow_cast-second : goal.overflow_cast-second
overflow_cast-second c =
    let below : c.loop-index.index < length c.args.a.now.rows =
    omega (arith, c.loop-index-test.true, c.rows-index-end.ensures.count) in
    omega (
      arith,
      small c.args.a.now c.loop-index.index c.args.size c.args.at (c.args.at + c.args.size) 1 c.row.result.now
          c.piece_numbers.result
          c.rows.ensures.well_formed below c.requires.size c.row.ensures.value c.piece_numbers.ensures refl,
    )

pub overflow_cast-third : goal.overflow_cast-third
overflow_cast-third c =
    let below : c.loop-index.index < length c.args.a.now.rows =
    omega (arith, c.loop-index-test.true, c.rows-index-end.ensures.count) in
    omega (
      arith,
      small c.args.a.now c.loop-index.index c.args.size c.args.at (c.args.at + 2 * c.args.size) 2 c.row.result.now
          c.piece_numbers.result
          c.rows.ensures.well_formed below c.requires.size c.row.ensures.value c.piece_numbers.ensures refl,
    )

pub overflow_cast-fourth : goal.overflow_cast-fourth
overflow_cast-fourth c =
    let below : c.loop-index.index < length c.args.a.now.rows =
    omega (arith, c.loop-index-test.true, c.rows-index-end.ensures.count) in
    omega (
      arith,
      small c.args.a.now c.loop-index.index c.args.size c.args.at (c.args.at + 3 * c.args.size) 3 c.row.result.now
          c.piece_numbers.result
          c.rows.ensures.well_formed below c.requires.size c.row.ensures.value c.piece_numbers.ensures refl,
    )
