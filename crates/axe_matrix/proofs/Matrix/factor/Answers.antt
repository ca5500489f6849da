use Rattle.axe_matrix.proofs.WordTerms.{times_one}
use Rattle.axe_matrix.proofs.Matrix.factor.Goals as goal

pub returns-then-one-clause-value : goal.returns-then-one-clause-value
returns-then-one-clause-value c = times_one c.args.self.now.order c.args.scalar c.args.entry c.requires.entry c.if-one.true
