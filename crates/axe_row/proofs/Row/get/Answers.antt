use Rattle.std.proofs.Common.{rules, ◌∙◌}
use Rattle.axe_row.specs.HigherPlanes.{linear_of, quadratic_of}
use Rattle.axe_row.proofs.PrimeRows.{one_plane_at, one_plane_element}
use Rattle.axe_row.proofs.Row.get.Goals as goal

pub returns-then-degree-eq1-clause-entry : goal.returns-then-degree-eq1-clause-entry
returns-then-degree-eq1-clause-entry c =
    c.get.ensures
    ∙ one_plane_at _ _ c.args.index c.self.inside.constant (linear_of c.self.inside.field c.self.inside.higher) (quadratic_of c.self.inside.field c.self.inside.higher) _ c.degree.ensures c.if-degree-eq1.true
    c.self.invariant.planes c.self.view_is

pub returns-then-degree-eq1-clause-element : goal.returns-then-degree-eq1-clause-element
returns-then-degree-eq1-clause-element c =
    one_plane_element _ _ c.args.index _ c.self.inside.constant (linear_of c.self.inside.field c.self.inside.higher) (quadratic_of c.self.inside.field c.self.inside.higher) _ c.get.ensures c.degree.ensures
    c.if-degree-eq1.true c.self.invariant.planes c.self.view_is

pub get-requires : goal.get-requires
get-requires c = search rules

pub returns-clause-entry : goal.returns-clause-entry
returns-clause-entry c = search rules

pub returns-clause-element : goal.returns-clause-element
returns-clause-element c = search rules
