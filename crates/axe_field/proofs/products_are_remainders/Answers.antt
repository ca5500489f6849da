use Rattle.axe_field.proofs.Remainders.{product_is_remainder}
use Rattle.axe_field.proofs.products_are_remainders.Goals as goal

pub returns : goal.returns
returns c = product_is_remainder
