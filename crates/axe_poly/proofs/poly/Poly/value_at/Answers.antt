use Rattle.std.proofs.Common.{◌≡◌, ◌≤◌, length, subst, sym, arith}
use Rattle.axe_field.specs.NumberFields.{number_field}
use Rattle.axe_field.specs.Order.{Order, IsElement}
use Rattle.axe_matrix.specs.Matrices.{matrix_product}
use Rattle.axe_polynomial_algebra.specs.PolynomialsOfLists.{IsMonicOver}
use Rattle.axe_poly.proofs.HornerLaws.{value_of_first, value_of_more, value_product, value_product-is_square}
use Rattle.axe_poly.proofs.poly.Poly.value_at.Goals as goal

pub loop-exponent-init : goal.loop-exponent-init
loop-exponent-init c =
    let m = c.args.matrix.now in
    let f = c.args.self.now in
    let element : IsElement m.order c.coefficient.result =
    subst (λ (o : Order). IsElement o c.coefficient.result) (sym c.requires.field) c.coefficient.ensures.element in
    let monic : IsMonicOver (number_field m.order) f.coefficients =
    subst (λ (o : Order). IsMonicOver (number_field o) f.coefficients) (sym c.requires.field)
    c.degree-first.ensures.well_formed in
    record {
      value = value_of_first m c.rows.ensures.well_formed c.requires.square c.coefficient.result element
          f.coefficients _ c.in_ok-value.value c.add_to_diagonal.new.self monic
          (omega (arith, c.degree-first.ensures.value)) c.coefficient.ensures.value c.in_ok-value.ensures.copied
          c.add_to_diagonal.ensures.sum c.add_to_diagonal.ensures.well_formed;
      well_formed = c.add_to_diagonal.ensures.well_formed;
    }

pub add_to_diagonal-requires-in-loop-exponent-clause-square :
    goal.add_to_diagonal-requires-in-loop-exponent-clause-square
add_to_diagonal-requires-in-loop-exponent-clause-square c =
    let m = c.args.matrix.now in
    let before = c.loop-exponent.invariant.value in
    let product : c.in_ok-value-2.value ≡ matrix_product c.loop-exponent.value m =
    value_product m c.loop-exponent.value c.in_ok-value-2.value _ c.requires.square before
    c.in_ok-value-2.ensures.product in
    value_product-is_square m c.loop-exponent.value c.in_ok-value-2.value _ c.requires.square before product

pub loop-exponent-preserved : goal.loop-exponent-preserved
loop-exponent-preserved c =
    let m = c.args.matrix.now in
    let f = c.args.self.now in
    let coefficient = c.coefficient-in-loop-exponent in
    let element : IsElement m.order coefficient.result =
    subst (λ (o : Order). IsElement o coefficient.result) (sym c.requires.field) coefficient.ensures.element in
    let before = c.loop-exponent.invariant.value in
    let within : c.loop-exponent.exponent ≤ length f.coefficients =
    omega (arith, c.loop-exponent.auto.exponent, c.degree-first.ensures.value) in
    let product : c.in_ok-value-2.value ≡ matrix_product c.loop-exponent.value m =
    value_product m c.loop-exponent.value c.in_ok-value-2.value _ c.requires.square before
    c.in_ok-value-2.ensures.product in
    record {
      value = value_of_more m c.rows.ensures.well_formed c.requires.square coefficient.result element f.coefficients
          c.loop-exponent.exponent c.loop-exponent.value c.in_ok-value-2.value
          c.add_to_diagonal-in-loop-exponent.new.self (omega (arith, c.loop-exponent-test.true)) within
          coefficient.ensures.value before product
          c.add_to_diagonal-in-loop-exponent.ensures.sum c.add_to_diagonal-in-loop-exponent.ensures.well_formed;
      well_formed = c.add_to_diagonal-in-loop-exponent.ensures.well_formed;
    }
