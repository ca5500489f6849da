-- What is made of matrices: the meaning of each operation of the code.
use Rattle.axe_matrix.specs.Matrices.{MatrixValue}
use Rattle.axe_execute.specs.declared.operations.OfOne.{OfOne}
use Rattle.axe_execute.specs.declared.operations.OfOne.TheVariants.{Transpose, Inverse, NullSpace}
use Rattle.axe_execute.specs.declared.operations.OfTwo.{OfTwo}
use Rattle.axe_execute.specs.declared.operations.OfTwo.TheVariants.{Product, Sum}
use Rattle.axe_plan.specs.Meanings.{Meaning}
use Rattle.axe_execute.specs.MatrixCommands.{ProductOf, SumOf, TransposeOf, InverseOf, NullSpaceOf}

-- what is made of one matrix
abbrev pub MadeOfOne : OfOne → MatrixValue → Meaning MatrixValue
MadeOfOne Transpose a = TransposeOf a
MadeOfOne Inverse a = InverseOf a
MadeOfOne NullSpace a = NullSpaceOf a

-- what is made of two matrices
abbrev pub MadeOfTwo : OfTwo → MatrixValue → MatrixValue → Meaning MatrixValue
MadeOfTwo Product a b = ProductOf a b
MadeOfTwo Sum a b = SumOf a b
