use Rattle.std.proofs.Common.{◌≡◌, ◌+◌, ◌*◌, ℕ, List, get_or, refl, ap, ◌∙◌}
use Rattle.axe_field.specs.Order.{order_number, degree_of}
use Rattle.axe_layer.proofs.PieceDigits.{same_four}
use Rattle.axe_row.specs.Combinations.{piece_numbers}
use Rattle.axe_row.specs.HigherPlanes.{linear_of, quadratic_of}
use Rattle.axe_row.specs.Rows.{RowValue}
use Rattle.axe_row.proofs.KeptPlanes.{alone_is_prime, kept_planes, kept_view}
use Rattle.axe_row.proofs.PlaneNumbers.{number_of_plane, number_of_planes, number_is}
use Rattle.axe_row.proofs.Row.numbers_by_planes.Goals as goal

pub returns-in_default : goal.returns-in_default
returns-in_default c =
    let base : c.from-order.result ≡ order_number c.self.inside.field = c.from-order.ensures ∙ c.order.ensures.value in
    let one : degree_of c.self.inside.field ≡ 1 = alone_is_prime _ _ _ _ c.self.invariant c.in_default.is in
    c.numbers_from.ensures.value
    ∙ same_four _ _ _ _ _ _ _ _
    (number_of_plane _ _ _ _ _ _ (linear_of c.self.inside.field c.self.inside.higher) (quadratic_of c.self.inside.field c.self.inside.higher) _ c.self.invariant.planes c.self.view_is base refl one)
    (number_of_plane _ _ _ _ _ _ (linear_of c.self.inside.field c.self.inside.higher) (quadratic_of c.self.inside.field c.self.inside.higher) _ c.self.invariant.planes c.self.view_is base refl one)
    (number_of_plane _ _ _ _ _ _ (linear_of c.self.inside.field c.self.inside.higher) (quadratic_of c.self.inside.field c.self.inside.higher) _ c.self.invariant.planes c.self.view_is base refl one)
    (number_of_plane _ _ _ _ _ _ (linear_of c.self.inside.field c.self.inside.higher) (quadratic_of c.self.inside.field c.self.inside.higher) _ c.self.invariant.planes c.self.view_is base refl one)

pub returns-then-at-size : goal.returns-then-at-size
returns-then-at-size c =
    c.numbers_in_lanes.ensures
    ∙ ap (λ (row : RowValue). piece_numbers row 1 c.args.size c.args.at)
    (kept_view _ c.self.inside.constant _ _ _ _ _ c.self.view_is c.in-Some.is c.deref.ensures c.deref.ensures)

pub returns : goal.returns
returns c =
    let q = c.from-order.result in
    let size = c.args.size in
    let at = c.args.at in
    let base : q ≡ order_number c.self.inside.field = c.from-order.ensures ∙ c.order.ensures.value in
    let planes = (kept_planes _ _ _ _ c.self.invariant _ _ _ c.in-Some.is c.deref-2.ensures c.deref-3.ensures) in
    let view_is = (kept_view _ c.self.inside.constant _ _ _ _ _ c.self.view_is c.in-Some.is c.deref-2.ensures c.deref-3.ensures) in
    let constant = c.numbers_from-constant.ensures.value in
    let linear = c.numbers_from-linear.ensures.value in
    let quadratic = c.numbers_from-quadratic.ensures.value in
    same_four _ _ _ _ _ _ _ _
    (c.number_of_parts.ensures
    ∙ number_is _ _ _ _ _ _ _ _ _ (ap (λ (l : List ℕ). get_or l 0 0) constant) (ap (λ (l : List ℕ). get_or l 0 0) linear) (ap (λ (l : List ℕ). get_or l 0 0) quadratic) c.prime-prime.ensures
    (number_of_planes _ q size at _ _ _ _ planes view_is base))
    (c.number_of_parts-2.ensures
    ∙ number_is _ _ _ _ _ _ _ _ _ (ap (λ (l : List ℕ). get_or l 1 0) constant) (ap (λ (l : List ℕ). get_or l 1 0) linear) (ap (λ (l : List ℕ). get_or l 1 0) quadratic) c.prime-prime.ensures
    (number_of_planes _ q size (at + size) _ _ _ _ planes view_is base))
    (c.number_of_parts-3.ensures
    ∙ number_is _ _ _ _ _ _ _ _ _ (ap (λ (l : List ℕ). get_or l 2 0) constant) (ap (λ (l : List ℕ). get_or l 2 0) linear) (ap (λ (l : List ℕ). get_or l 2 0) quadratic) c.prime-prime.ensures
    (number_of_planes _ q size (at + 2 * size) _ _ _ _ planes view_is base))
    (c.number_of_parts-4.ensures
    ∙ number_is _ _ _ _ _ _ _ _ _ (ap (λ (l : List ℕ). get_or l 3 0) constant) (ap (λ (l : List ℕ). get_or l 3 0) linear) (ap (λ (l : List ℕ). get_or l 3 0) quadratic) c.prime-prime.ensures
    (number_of_planes _ q size (at + 3 * size) _ _ _ _ planes view_is base))

-- the parts of a piece are small
pub number_of_parts-requires-clause-constant : goal.number_of_parts-requires-clause-constant
number_of_parts-requires-clause-constant c = c.numbers_from-constant.ensures.small 0

pub number_of_parts-requires-clause-linear : goal.number_of_parts-requires-clause-linear
number_of_parts-requires-clause-linear c = c.numbers_from-linear.ensures.small 0

pub number_of_parts-requires-clause-quadratic : goal.number_of_parts-requires-clause-quadratic
number_of_parts-requires-clause-quadratic c = c.numbers_from-quadratic.ensures.small 0

pub number_of_parts-requires-2-clause-constant : goal.number_of_parts-requires-2-clause-constant
number_of_parts-requires-2-clause-constant c = c.numbers_from-constant.ensures.small 1

pub number_of_parts-requires-2-clause-linear : goal.number_of_parts-requires-2-clause-linear
number_of_parts-requires-2-clause-linear c = c.numbers_from-linear.ensures.small 1

pub number_of_parts-requires-2-clause-quadratic : goal.number_of_parts-requires-2-clause-quadratic
number_of_parts-requires-2-clause-quadratic c = c.numbers_from-quadratic.ensures.small 1

pub number_of_parts-requires-3-clause-constant : goal.number_of_parts-requires-3-clause-constant
number_of_parts-requires-3-clause-constant c = c.numbers_from-constant.ensures.small 2

pub number_of_parts-requires-3-clause-linear : goal.number_of_parts-requires-3-clause-linear
number_of_parts-requires-3-clause-linear c = c.numbers_from-linear.ensures.small 2

pub number_of_parts-requires-3-clause-quadratic : goal.number_of_parts-requires-3-clause-quadratic
number_of_parts-requires-3-clause-quadratic c = c.numbers_from-quadratic.ensures.small 2

pub number_of_parts-requires-4-clause-constant : goal.number_of_parts-requires-4-clause-constant
number_of_parts-requires-4-clause-constant c = c.numbers_from-constant.ensures.small 3

pub number_of_parts-requires-4-clause-linear : goal.number_of_parts-requires-4-clause-linear
number_of_parts-requires-4-clause-linear c = c.numbers_from-linear.ensures.small 3

pub number_of_parts-requires-4-clause-quadratic : goal.number_of_parts-requires-4-clause-quadratic
number_of_parts-requires-4-clause-quadratic c = c.numbers_from-quadratic.ensures.small 3
