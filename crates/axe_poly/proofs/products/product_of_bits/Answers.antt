use Rattle.std.proofs.Common.{◌<◌, ◌*◌, ◌^◌, refl, arith}
use Rattle.std.proofs.lemmas.Nat.{mul-lt}
use Rattle.axe_poly.proofs.BitProducts.{product_none, product_more, product_same, product_all, moved_next}
use Rattle.axe_poly.proofs.BitProducts.{below_power}
use Rattle.axe_poly.proofs.products.product_of_bits.Goals as goal
use Rattle.axe_poly.proofs.products.product_of_bits.Goals.{then-coefficient-eq1, else-coefficient-eq1}

pub overflow_mul-moved : goal.overflow_mul-moved
overflow_mul-moved c =
    let power : 2 ^ c.loop-coefficient.coefficient-index < 32768 =
    below_power c.loop-coefficient.coefficient-index 15 (omega arith) in
    let small : c.args.cofactor * 2 ^ c.loop-coefficient.coefficient-index < 65536 * 32768 =
    mul-lt c.args.cofactor (2 ^ c.loop-coefficient.coefficient-index) 65536 32768 c.requires.small power in
    omega (arith, small, c.loop-coefficient.invariant.moved)

pub loop-coefficient-init : goal.loop-coefficient-init
loop-coefficient-init c = record {
  product = product_none c.args.coefficients.now c.args.cofactor 0 refl;
  moved = omega arith;
}

pub loop-coefficient-preserved : goal.loop-coefficient-preserved
loop-coefficient-preserved c =
    let h = c.loop-coefficient.invariant in
    let p = c.args.coefficients.now in
    let i = c.loop-coefficient.coefficient-index in
    record {
      product = elim c.if-coefficient-eq1.branch [
        | then-coefficient-eq1 w ↦ product_more p c.args.cofactor i c.loop-coefficient.product c.loop-coefficient.moved
            c.if-coefficient-eq1.product c.loop-coefficient-test.true w.if-coefficient-eq1.true h.moved w.product-is
            h.product
        | else-coefficient-eq1 w ↦ product_same p c.args.cofactor i c.loop-coefficient.product
            c.if-coefficient-eq1.product c.loop-coefficient-test.true
            (omega (arith, w.if-coefficient-eq1.false, c.requires.elements i 0 c.loop-coefficient-test.true))
            w.product-is h.product
      ];
      moved = moved_next c.args.cofactor i c.loop-coefficient.moved h.moved;
    }

pub returns : goal.returns
returns c = product_all c.args.coefficients.now c.args.cofactor c.loop-coefficient.coefficient-index
    c.loop-coefficient.product c.loop-coefficient-test.false c.loop-coefficient.invariant.product
