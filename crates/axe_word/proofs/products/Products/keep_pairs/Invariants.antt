use Rattle.axe_word.specs.KeptProducts.{AreProductsOf}
use Rattle.axe_word.proofs.products.Products.keep_pairs.Given as goal

abbrev pub invariant-loop-pair : goal.invariant-loop-pair
invariant-loop-pair l = AreProductsOf l.module l.self
