use Rattle.axe_poly.proofs.products.+word_of_product.Given as goal

abbrev pub decreases-word_of_product : goal.decreases-word_of_product
decreases-word_of_product l = l.count
