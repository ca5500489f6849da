use Rattle.axe_algebra.specs.Bridge.{field_of}
use Rattle.axe_polynomial_algebra.proofs.ConvolutionLaws.{convolution_assoc, convolution_comm, convolution-add}
use Rattle.axe_polynomial_algebra.proofs.ConvolutionLaws.{one_is_neutral}
use Rattle.axe_polynomial_algebra.proofs.products.products_of_polynomials.Goals as goal

pub returns-clause-associative : goal.returns-clause-associative
returns-clause-associative c K = convolution_assoc (field_of K)

pub returns-clause-commutative : goal.returns-clause-commutative
returns-clause-commutative c K = convolution_comm (field_of K)

pub returns-clause-distributive : goal.returns-clause-distributive
returns-clause-distributive c K = convolution-add (field_of K)

pub returns-clause-neutral : goal.returns-clause-neutral
returns-clause-neutral c K = one_is_neutral (field_of K)
