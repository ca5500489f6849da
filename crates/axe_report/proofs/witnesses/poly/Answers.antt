use Rattle.std.proofs.Common.{ℕ, take, drop, ap, sym, ◌∙◌, arith}
use Rattle.std.proofs.lemmas.List.Sums.{prefix_len-le-length}
use Rattle.axe_field.specs.Order.{order_number}
use Rattle.axe_report.specs.Fronts.{is_digit}
use Rattle.axe_report.proofs.WitnessLaws.{no_poly, no_poly_word, poly_parts, front_digits, poly_there}
use Rattle.axe_report.proofs.witnesses.poly.Goals as goal

pub returns-in-Some : goal.returns-in-Some
returns-in-Some c = (tt, c.in-Some.ensures ∙ sym (no_poly c.in-Some.rest.now))

pub returns-in_default-after : goal.returns-in_default-after
returns-in_default-after c = no_poly_word (order_number c.args.field.now) c.args.text.now c.in_default.ensures c.in_default-after.ensures

pub split_at-requires : goal.split_at-requires
split_at-requires c = omega (arith, c.digits_len.ensures, prefix_len-le-length is_digit c.in-Some-after.after_poly.now)

pub returns-in_default-after-2 : goal.returns-in_default-after-2
returns-in_default-after-2 c = λ poly x is e.
    let parts = poly_parts c.args.field.now c.args.text.now c.in-Some-after.after_poly.now c.in_default.ensures c.in-Some-after.ensures poly x is e in
    c.in_default-after-2.ensures x (c.split_at.ensures.back ∙ ap (λ (k : ℕ). drop k c.in-Some-after.after_poly.now) c.digits_len.ensures ∙ parts.back)

pub poly_digits-requires-clause-numeral : goal.poly_digits-requires-clause-numeral
poly_digits-requires-clause-numeral c =
    front_digits c.in-Some-after.after_poly.now c.split_at.result.0.now c.digits_len.result c.digits_len.ensures c.split_at.ensures.front

pub returns-in_default-2 : goal.returns-in_default-2
returns-in_default-2 c = λ poly x is e.
    let parts = poly_parts c.args.field.now c.args.text.now c.in-Some-after.after_poly.now c.in_default.ensures c.in-Some-after.ensures poly x is e in
    let none = rw (c.in_default-2.is, c.order.ensures.value) at c.in_ok-digits.ensures in
    none parts.digits parts.are (c.split_at.ensures.front ∙ ap (λ (k : ℕ). take k c.in-Some-after.after_poly.now) c.digits_len.ensures ∙ parts.front)

pub returns : goal.returns
returns c =
    let found = rw (c.in-Some-2.is, c.order.ensures.value) at c.in_ok-digits.ensures in (
      found.0,
      poly_there c.args.text.now c.in-Some-after.after_poly.now c.split_at.result.0.now c.split_at.result.1.now c.in-Some-2.digits.items c.in-Some-after-2.rest.now c.digits_len.result c.in-Some-after.ensures
          c.split_at.ensures.front c.split_at.ensures.back c.in-Some-after-2.ensures found.1,
    )
