use Rattle.std.proofs.Common.{◌≡◌, ◌+◌, ◌*◌, length, refl, ap, ◌∙◌, arith}
use Rattle.axe_field.specs.Order.{degree_of}
use Rattle.axe_layer.specs.Digits.{number_from}
use Rattle.axe_plane.specs.Planes.{digits_of}
use Rattle.axe_row.specs.HigherPlanes.{linear_of, quadratic_of}
use Rattle.axe_row.specs.Combinations.{combination_at, row_with_four}
use Rattle.axe_row.specs.Rows.{RowValue}
use Rattle.axe_row.proofs.KeptPlanes.{alone_is_prime}
use Rattle.axe_row.proofs.PieceRows.{piece_of_plane, row_of_number, four_of_numbers}
use Rattle.axe_row.proofs.RowPlanes.{IsRow-of_planes, with_length}
use Rattle.axe_row.proofs.TableSums.{IsRowOf, row_of, entries_for, constant_entry, plus_four_constant, as_long_as}
use Rattle.axe_row.proofs.Row.add_pieces.Goals as goal

pub add_pieces-requires-clause-a : goal.add_pieces-requires-clause-a
add_pieces-requires-clause-a c =
    constant_entry c.self.invariant.planes
    (entries_for (row_of c.self.invariant.planes c.self.view_is) c.a.invariant c.a.view_is (row_of_number _ _ _ _ (piece_of_plane _ _ _ c.args.size c.args.at _ _ _ c.args.of.now c.args.self.now c.of.invariant.planes c.of.view_is c.requires.field (ap (λ (r : RowValue). r.order) c.self.view_is) (c.from-order.ensures ∙ c.order.ensures.value) (alone_is_prime _ _ _ _ c.self.invariant c.in_default.is)) c.requires.a))

pub add_pieces-requires-clause-b : goal.add_pieces-requires-clause-b
add_pieces-requires-clause-b c =
    constant_entry c.self.invariant.planes
    (entries_for (row_of c.self.invariant.planes c.self.view_is) c.b.invariant c.b.view_is (row_of_number _ _ _ _ (piece_of_plane _ _ _ c.args.size (c.args.at + c.args.size) _ _ _ c.args.of.now c.args.self.now c.of.invariant.planes c.of.view_is c.requires.field (ap (λ (r : RowValue). r.order) c.self.view_is) (c.from-order.ensures ∙ c.order.ensures.value) (alone_is_prime _ _ _ _ c.self.invariant c.in_default.is)) c.requires.b))

pub add_pieces-requires-clause-c : goal.add_pieces-requires-clause-c
add_pieces-requires-clause-c c =
    constant_entry c.self.invariant.planes
    (entries_for (row_of c.self.invariant.planes c.self.view_is) c.c.invariant c.c.view_is (row_of_number _ _ _ _ (piece_of_plane _ _ _ c.args.size (c.args.at + 2 * c.args.size) _ _ _ c.args.of.now c.args.self.now c.of.invariant.planes c.of.view_is c.requires.field (ap (λ (r : RowValue). r.order) c.self.view_is) (c.from-order.ensures ∙ c.order.ensures.value) (alone_is_prime _ _ _ _ c.self.invariant c.in_default.is)) c.requires.c))

pub add_pieces-requires-clause-d : goal.add_pieces-requires-clause-d
add_pieces-requires-clause-d c =
    constant_entry c.self.invariant.planes
    (entries_for (row_of c.self.invariant.planes c.self.view_is) c.d.invariant c.d.view_is (row_of_number _ _ _ _ (piece_of_plane _ _ _ c.args.size (c.args.at + 3 * c.args.size) _ _ _ c.args.of.now c.args.self.now c.of.invariant.planes c.of.view_is c.requires.field (ap (λ (r : RowValue). r.order) c.self.view_is) (c.from-order.ensures ∙ c.order.ensures.value) (alone_is_prime _ _ _ _ c.self.invariant c.in_default.is)) c.requires.d))

-- the row after, by its one plane that has digits
by_one_plane : (c : goal.After-add_pieces) → IsRowOf c.self.inside.field (length (digits_of c.self.inside.constant))
    c.add_pieces.new.self (linear_of c.self.inside.field c.self.inside.higher) (quadratic_of c.self.inside.field c.self.inside.higher)
    (row_with_four c.args.self.now
    (combination_at c.args.a.now (number_from c.from-order.result c.args.size c.args.at (digits_of c.of.inside.constant))) (combination_at c.args.b.now (number_from c.from-order.result c.args.size (c.args.at + c.args.size) (digits_of c.of.inside.constant)))
    (combination_at c.args.c.now (number_from c.from-order.result c.args.size (c.args.at + 2 * c.args.size) (digits_of c.of.inside.constant))) (combination_at c.args.d.now (number_from c.from-order.result c.args.size (c.args.at + 3 * c.args.size) (digits_of c.of.inside.constant))))
by_one_plane c =
    let one : degree_of c.self.inside.field ≡ 1 = alone_is_prime _ _ _ _ c.self.invariant c.in_default.is in
    plus_four_constant refl (omega (arith, one)) (row_of c.self.invariant.planes c.self.view_is)
    (entries_for (row_of c.self.invariant.planes c.self.view_is) c.a.invariant c.a.view_is (row_of_number _ _ _ _ (piece_of_plane _ _ _ c.args.size c.args.at _ _ _ c.args.of.now c.args.self.now c.of.invariant.planes c.of.view_is c.requires.field (ap (λ (r : RowValue). r.order) c.self.view_is) (c.from-order.ensures ∙ c.order.ensures.value) (alone_is_prime _ _ _ _ c.self.invariant c.in_default.is)) c.requires.a)).is_row
    (entries_for (row_of c.self.invariant.planes c.self.view_is) c.b.invariant c.b.view_is (row_of_number _ _ _ _ (piece_of_plane _ _ _ c.args.size (c.args.at + c.args.size) _ _ _ c.args.of.now c.args.self.now c.of.invariant.planes c.of.view_is c.requires.field (ap (λ (r : RowValue). r.order) c.self.view_is) (c.from-order.ensures ∙ c.order.ensures.value) (alone_is_prime _ _ _ _ c.self.invariant c.in_default.is)) c.requires.b)).is_row
    (entries_for (row_of c.self.invariant.planes c.self.view_is) c.c.invariant c.c.view_is (row_of_number _ _ _ _ (piece_of_plane _ _ _ c.args.size (c.args.at + 2 * c.args.size) _ _ _ c.args.of.now c.args.self.now c.of.invariant.planes c.of.view_is c.requires.field (ap (λ (r : RowValue). r.order) c.self.view_is) (c.from-order.ensures ∙ c.order.ensures.value) (alone_is_prime _ _ _ _ c.self.invariant c.in_default.is)) c.requires.c)).is_row
    (entries_for (row_of c.self.invariant.planes c.self.view_is) c.d.invariant c.d.view_is (row_of_number _ _ _ _ (piece_of_plane _ _ _ c.args.size (c.args.at + 3 * c.args.size) _ _ _ c.args.of.now c.args.self.now c.of.invariant.planes c.of.view_is c.requires.field (ap (λ (r : RowValue). r.order) c.self.view_is) (c.from-order.ensures ∙ c.order.ensures.value) (alone_is_prime _ _ _ _ c.self.invariant c.in_default.is)) c.requires.d)).is_row
    c.add_pieces.ensures

pub invariant_of-self : goal.invariant_of-self
invariant_of-self c = record { planes = with_length _ _ _ _ _ (by_one_plane c).planes; needed = c.self.invariant.needed }

pub returns-in_default-clause-sum : goal.returns-in_default-clause-sum
returns-in_default-clause-sum c =
    (by_one_plane c).is
    ∙ four_of_numbers c.args.self.now c.args.a.now c.args.b.now c.args.c.now c.args.d.now _ _ _ _ _ _ _ _
    (piece_of_plane _ _ _ c.args.size c.args.at _ _ _ c.args.of.now c.args.self.now c.of.invariant.planes c.of.view_is c.requires.field (ap (λ (r : RowValue). r.order) c.self.view_is) (c.from-order.ensures ∙ c.order.ensures.value) (alone_is_prime _ _ _ _ c.self.invariant c.in_default.is))
    (piece_of_plane _ _ _ c.args.size (c.args.at + c.args.size) _ _ _ c.args.of.now c.args.self.now c.of.invariant.planes c.of.view_is c.requires.field (ap (λ (r : RowValue). r.order) c.self.view_is) (c.from-order.ensures ∙ c.order.ensures.value) (alone_is_prime _ _ _ _ c.self.invariant c.in_default.is))
    (piece_of_plane _ _ _ c.args.size (c.args.at + 2 * c.args.size) _ _ _ c.args.of.now c.args.self.now c.of.invariant.planes c.of.view_is c.requires.field (ap (λ (r : RowValue). r.order) c.self.view_is) (c.from-order.ensures ∙ c.order.ensures.value) (alone_is_prime _ _ _ _ c.self.invariant c.in_default.is))
    (piece_of_plane _ _ _ c.args.size (c.args.at + 3 * c.args.size) _ _ _ c.args.of.now c.args.self.now c.of.invariant.planes c.of.view_is c.requires.field (ap (λ (r : RowValue). r.order) c.self.view_is) (c.from-order.ensures ∙ c.order.ensures.value) (alone_is_prime _ _ _ _ c.self.invariant c.in_default.is))

pub returns-in_default-clause-as_long : goal.returns-in_default-clause-as_long
returns-in_default-clause-as_long c =
    as_long_as (row_of c.self.invariant.planes c.self.view_is) (row_of (by_one_plane c).planes refl)

pub returns-in_default-clause-well_formed : goal.returns-in_default-clause-well_formed
returns-in_default-clause-well_formed c = IsRow-of_planes _ _ _ _ _ (invariant_of-self c).planes
