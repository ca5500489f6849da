-- The terms of the product of a row vector and a matrix that are added to a row over a field of characteristic 2 or 3.
use Rattle.std.proofs.Common.{◌≡◌, ℕ, ◌+◌, ◌-◌, ◌*◌, ◌/◌, ◌%◌, ◌^◌, ◌<◌, ◌≤◌, sym, ap, ◌∙◌, arith}
use prog.Memory.{up}
use Rattle.axe_field.specs.NumberFields.{number_field}
use Rattle.axe_field.specs.Order.{Order}
use Rattle.axe_lane.specs.Entries.{AreZerosBetween}
use Rattle.axe_row.specs.Rows.{RowValue}
use Rattle.axe_row.proofs.RowLaws.{same_row}
use Rattle.axe_matrix.specs.Matrices.{MatrixValue, IsMatrix}
use Rattle.axe_matrix.specs.Products.{row_with_terms}
use Rattle.axe_matrix.specs.ValueTerms.{places_of_value, vector_of_places}
use Rattle.axe_matrix.specs.VectorTerms.{row_with_terms_between}
use Rattle.axe_matrix.proofs.DirectRows.{terms_from, zeros_from}
use Rattle.axe_matrix.proofs.ValuePowers.{places-elements}

-- the bytes of a row of so few words, held, are as many as the machine can count
pub held_row_fits : (cols words : ℕ) → (cols + 63) / 64 ≡ words → cols ≤ 4096 → up 8 (16 + words * 32) < 2 ^ 63
held_row_fits cols words is few =
    let bytes = 16 + words * 32 in
    let small : bytes + (8 - bytes % 8) % 8 < 2 ^ 63 = omega (arith, is, few) in
    small

-- no place is left in a word
pub end_of_held_places : (b : MatrixValue) (first row : RowValue) (scalar value : ℕ) (vector : RowValue) (at start : ℕ) →
    IsMatrix b → first.order ≡ b.order → row.order ≡ b.order → at * 64 ≤ start → start ≤ at * 64 + 64 →
    row.entries ≡ terms_from b first.entries scalar (places_of_value value vector.entries) (at * 64) (start - at * 64) →
    AreZerosBetween (places_of_value value vector.entries) start (at * 64 + 64) →
    row ≡ row_with_terms_between first scalar (vector_of_places value vector) b (at * 64) (at * 64 + 64)
end_of_held_places b first row scalar value vector at start hb first_field field begun fits so_far zeros =
    let places = places_of_value value vector.entries in
    same_row row (row_with_terms_between first scalar (vector_of_places value vector) b (at * 64) (at * 64 + 64))
    (field ∙ sym first_field)
    (so_far
    ∙ zeros_from b first.entries scalar places (at * 64) hb (places-elements b.order value vector.entries) (start - at * 64) (at * 64 + 64 - at * 64)
    (omega (arith, begun, fits)) (λ t past below. zeros (at * 64 + t) (omega (arith, past, begun)) (omega (arith, below)))
    ∙ ap (λ (o : Order). row_with_terms (number_field o) b.cols first.entries scalar places b.rows (at * 64) (at * 64 + 64 - at * 64)) (sym first_field))
