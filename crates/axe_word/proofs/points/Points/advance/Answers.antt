use Rattle.std.proofs.Common.{◌≡◌, ◌*◌, sym, ap, subst, ◌∙◌, arith}
use Rattle.axe_field.specs.Order.{order_number}
use Rattle.axe_word.specs.PointsOfMatrix.{PointsLeft, points_from, IsPlaceOfPoint}
use Rattle.axe_word.proofs.PointPlaces.{value_below, value_rest, leading-below, left_skipped, place_next, place_skipped, same_left}
use Rattle.axe_word.proofs.points.Points.advance.Goals as goal

pub overflow_mul-self-inside : goal.overflow_mul-self-inside
overflow_mul-self-inside c =
    let small = leading-below _ _ _ _ c.self.invariant (value_below _ _ _ _ c.self.invariant _ c.self.view_is c.requires) in omega arith

pub invariant_of-self : goal.invariant_of-self
invariant_of-self c =
    let order : c.from.result ≡ order_number c.self.inside.basis.now.order = c.from.ensures ∙ c.order.ensures.value ∙ ap order_number c.field.ensures.order in
    subst (λ k. IsPlaceOfPoint c.self.inside.basis.now (c.self.inside.leading * k) (c.self.inside.leading * k) c.self.inside.end) (sym order)
    (place_skipped _ _ _ _ c.self.invariant (value_below _ _ _ _ c.self.invariant _ c.self.view_is c.requires))

pub invariant_of-self-else-self : goal.invariant_of-self-else-self
invariant_of-self-else-self c =
    place_next _ _ _ _ c.self.invariant (value_below _ _ _ _ c.self.invariant _ c.self.view_is c.requires) c.if-self.false

pub returns-then-self : goal.returns-then-self
returns-then-self c =
    let order : c.from.result ≡ order_number c.self.inside.basis.now.order = c.from.ensures ∙ c.order.ensures.value ∙ ap order_number c.field.ensures.order in
    same_left _ _ (ap (λ (v : PointsLeft). v.order) c.self.view_is)
    (ap (λ k. points_from c.self.inside.basis.now (c.self.inside.leading * k)) order
    ∙ sym (left_skipped _ _ _ _ c.self.invariant (value_below _ _ _ _ c.self.invariant _ c.self.view_is c.requires) c.if-self.true)
    ∙ value_rest _ _ _ _ c.self.invariant _ c.self.view_is c.requires)

pub returns-else-self : goal.returns-else-self
returns-else-self c =
    same_left _ _ (ap (λ (v : PointsLeft). v.order) c.self.view_is) (value_rest _ _ _ _ c.self.invariant _ c.self.view_is c.requires)
