use Rattle.axe_arguments.proofs.count.GeneratorCount.get.Goals as goal

pub returns-clause-number : goal.returns-clause-number
returns-clause-number c = c.self.view_is

pub returns-clause-range : goal.returns-clause-range
returns-clause-range c = c.self.invariant
