use Rattle.std.proofs.Common.{◌≡◌, ◌^◌, length, refl, ap, ◌∙◌, arith}
use Rattle.axe_field.specs.Order.{order_number}
use Rattle.axe_word.proofs.PointPlaces.{left_at_start, place_at_start, power_small, same_left}
use Rattle.axe_word.proofs.points.Points.new.Goals as goal

-- q to the number of rows, from what is called
pub pow-end-requires : goal.pow-end-requires
pow-end-requires c =
    let order : c.from-order.result ≡ order_number c.args.basis.now.order = c.from-order.ensures ∙ c.order.ensures.value ∙ ap order_number c.field.ensures.order in
    let power : c.from-order.result ^ c.rows.result ≡ order_number c.args.basis.now.order ^ length c.args.basis.now.rows =
    ap (λ k. k ^ c.rows.result) order ∙ ap (λ k. order_number c.args.basis.now.order ^ k) c.rows.ensures.count in
    let small = power_small c.args.basis.now c.requires.few in
    omega arith

pub invariant_of-result : goal.invariant_of-result
invariant_of-result c =
    let order : c.from-order.result ≡ order_number c.args.basis.now.order = c.from-order.ensures ∙ c.order.ensures.value ∙ ap order_number c.field.ensures.order in
    place_at_start c.args.basis.now c.pow-end.result c.requires.few
    (c.pow-end.ensures ∙ ap (λ k. k ^ c.rows.result) order ∙ ap (λ k. order_number c.args.basis.now.order ^ k) c.rows.ensures.count)

pub returns : goal.returns
returns c = same_left _ _ refl (left_at_start c.args.basis.now)
