use Rattle.std.proofs.Common.{◌≡◌, ◌-◌, ◌/◌, ◌%◌, ℕ, suc, length, ap, ◌∙◌, arith}
use Rattle.std.proofs.lemmas.List.{length-set}
use Rattle.axe_field.specs.Order.{order_number}
use Rattle.axe_row.specs.Rows.{RowValue}
use Rattle.axe_poly.specs.Numbering.{polynomial_with_number}
use Rattle.axe_poly.proofs.NumberLaws.{digits_are, digits_next, left_next}
use Rattle.axe_poly.proofs.digits.Digits.set_number.Goals as goal
use mathlib.Core.Path.{refl, sym}
use native.Mathlib.Nat.{div-one, pow-zero}

pub loop-index-init : goal.loop-index-init
loop-index-init c = record {
  order = refl;
  as_long = refl;
  left_is = sym (ap (λ p. c.args.number / p) (pow-zero (order_number c.args.self.now.order)) ∙ div-one c.args.number);
  digits = λ j below. absurd (omega (arith, below));
}

pub loop-index-preserved : goal.loop-index-preserved
loop-index-preserved c =
    let h = c.loop-index.invariant in
    let q : ℕ = order_number c.args.self.now.order in
    let same : order_number c.field.result.now ≡ q = ap order_number (c.field.ensures.order ∙ h.order) in
    record {
      order = ap (λ (r : RowValue). r.order) c.set.ensures.replaced ∙ h.order;
      as_long = ap (λ (r : RowValue). length r.entries) c.set.ensures.replaced
          ∙ length-set c.loop-index.self.entries c.loop-index.index _ ∙ h.as_long;
      left_is = c.without_last_digit-higher.ensures.higher ∙ ap (λ n. c.loop-index.left / n) same
          ∙ left_next q c.args.number c.loop-index.index c.loop-index.left h.left_is;
      digits = digits_next q c.args.number c.loop-index.index c.loop-index.left
          c.without_last_digit-higher.result.1 c.loop-index.self.entries c.set.new.self.entries
          (omega (arith, c.loop-index-test.true, c.len-index-end.ensures.count, h.as_long)) h.left_is
          (c.without_last_digit-higher.ensures.digit ∙ ap (λ n. c.loop-index.left % n) same)
          (ap (λ (r : RowValue). r.entries) c.set.ensures.replaced) h.digits;
    }

pub returns-clause-digits : goal.returns-clause-digits
returns-clause-digits c =
    let h = c.loop-index.invariant in
    let listed : c.loop-index.self.entries ≡ polynomial_with_number (order_number c.args.self.now.order)
    (length c.args.self.now.entries - 1) c.args.number =
    digits_are (order_number c.args.self.now.order)
    (length c.args.self.now.entries - 1) c.args.number c.loop-index.self.entries
    (h.as_long
    ∙ (let e : length c.args.self.now.entries ≡ suc (length c.args.self.now.entries - 1) = omega
    (arith, c.requires) in e))
    (λ j inside. h.digits j
    (omega (arith, inside, h.as_long, c.loop-index-test.false, c.len-index-end.ensures.count))) in
    λ i. record { order = h.order i; entries = listed i }

pub returns-clause-as_long : goal.returns-clause-as_long
returns-clause-as_long c = c.loop-index.invariant.as_long
