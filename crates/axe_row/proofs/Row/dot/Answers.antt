use Rattle.std.proofs.Common.{rules, ◌∙◌}
use Rattle.axe_row.specs.HigherPlanes.{linear_of, quadratic_of}
use Rattle.axe_row.proofs.PrimeRows.{other_length, prime_row_dot}
use Rattle.axe_row.proofs.Row.dot.Goals as goal

pub dot-requires-clause-fits : goal.dot-requires-clause-fits
dot-requires-clause-fits c =
    other_length _ _ c.self.inside.constant (linear_of c.self.inside.field c.self.inside.higher) (quadratic_of c.self.inside.field c.self.inside.higher)
    c.other.inside.constant (linear_of c.other.inside.field c.other.inside.higher) (quadratic_of c.other.inside.field c.other.inside.higher) _ _ c.self.view_is c.other.view_is c.requires.fits

pub returns-then-degree-eq1-clause-value : goal.returns-then-degree-eq1-clause-value
returns-then-degree-eq1-clause-value c =
    c.dot.ensures
    ∙ prime_row_dot _ _ _ _ _ _ _ _ _ _ _ c.degree.ensures c.if-degree-eq1.true c.self.invariant.planes c.other.invariant.planes c.self.view_is c.other.view_is
    c.requires.field c.requires.fits

pub dot-requires-clause-prime : goal.dot-requires-clause-prime
dot-requires-clause-prime c = search rules

pub returns-then-degree-eq1-clause-element : goal.returns-then-degree-eq1-clause-element
returns-then-degree-eq1-clause-element c = search rules

pub returns-else-degree-eq1-clause-value : goal.returns-else-degree-eq1-clause-value
returns-else-degree-eq1-clause-value c = search rules

pub returns-else-degree-eq1-clause-element : goal.returns-else-degree-eq1-clause-element
returns-else-degree-eq1-clause-element c = search rules
