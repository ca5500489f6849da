use Rattle.std.proofs.Common.{ap, ◌∙◌}
use Rattle.axe_matrix.specs.Multiples.{matrix_with_multiple}
use Rattle.axe_matrix.proofs.SumLaws.{matrix_with_one}
use Rattle.axe_matrix.proofs.Matrix.plus.Goals as goal

pub returns-clause-sum : goal.returns-clause-sum
returns-clause-sum c =
    c.add_scaled.ensures.sum ∙ ap (λ m. matrix_with_multiple m 1 c.args.other.now) c.in_ok-sum.ensures.copied
    ∙ matrix_with_one c.args.self.now c.args.other.now c.cols-2.ensures.well_formed c.requires.field
