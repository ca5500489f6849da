use Rattle.axe_algebra.specs.Bridge.{field_of}
use Rattle.axe_polynomial_algebra.proofs.ConvolutionLaws.{convolution_length, monic_times_monic}
use Rattle.axe_polynomial_algebra.proofs.products.degrees_add.Goals as goal

pub returns-clause-lengths : goal.returns-clause-lengths
returns-clause-lengths c K = convolution_length (field_of K)

pub returns-clause-monic : goal.returns-clause-monic
returns-clause-monic c K = monic_times_monic (field_of K)
