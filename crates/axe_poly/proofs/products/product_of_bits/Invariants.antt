use Rattle.std.proofs.Common.{◌≡◌, ◌*◌, ◌^◌, take}
use Rattle.axe_field.specs.Order.{Two}
use Rattle.axe_poly.specs.Sieve.{IsProductNumber}
use Rattle.axe_poly.proofs.products.product_of_bits.Given as goal

abbrev pub invariant-loop-coefficient : goal.invariant-loop-coefficient
invariant-loop-coefficient l = record {
  product : IsProductNumber Two (take l.coefficient-index l.coefficients) l.cofactor l.product;
  moved : l.moved ≡ l.cofactor * 2 ^ l.coefficient-index;
}
