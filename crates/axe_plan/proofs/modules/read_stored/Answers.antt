use Rattle.std.proofs.Common.{◌≡◌, Result, Ok, Err, IfOk, Vec, Global, ℕ, ◌≤◌, length, arith}
use Rattle.axe_matrix.specs.declared.Matrix.{Matrix}
use Rattle.axe_spin.specs.Limits.{most_generators}
use Rattle.axe_arguments.specs.Counts.{IsGeneratorCount}
use Rattle.axe_fault.specs.declared.fault.Fault.{Fault}
use Rattle.axe_plan.proofs.modules.read_stored.Goals as goal

some_read : (count : ℕ) (result : Result (Vec Matrix Global) Fault) → IsGeneratorCount count → IfOk result (λ matrices. length matrices.items ≡ count) →
    IfOk result (λ matrices. 1 ≤ length matrices.items)
some_read count (Ok matrices) counted many = omega (arith, counted.some, many)
some_read count (Err fault) counted many = tt

few_read : (count : ℕ) (result : Result (Vec Matrix Global) Fault) → IsGeneratorCount count → IfOk result (λ matrices. length matrices.items ≡ count) →
    IfOk result (λ matrices. length matrices.items ≤ most_generators)
few_read count (Ok matrices) counted many = omega (arith, counted.fits, many)
few_read count (Err fault) counted many = tt

pub returns-in-Separate-clause-some : goal.returns-in-Separate-clause-some
returns-in-Separate-clause-some g c = some_read _ c.read_numbered.result c.read_numbered.ensures.counted c.read_numbered.ensures.many

pub returns-in-Separate-clause-fits : goal.returns-in-Separate-clause-fits
returns-in-Separate-clause-fits g c = few_read _ c.read_numbered.result c.read_numbered.ensures.counted c.read_numbered.ensures.many
