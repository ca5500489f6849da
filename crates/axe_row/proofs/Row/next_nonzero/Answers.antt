use Rattle.std.proofs.Common.{rules}
use Rattle.axe_row.specs.HigherPlanes.{linear_of, quadratic_of}
use Rattle.axe_row.proofs.PrimeRows.{next_of_one_plane}
use Rattle.axe_row.proofs.Row.next_nonzero.Goals as goal

pub returns-then-degree-eq1 : goal.returns-then-degree-eq1
returns-then-degree-eq1 c =
    next_of_one_plane _ _ _ _ _ (linear_of c.self.inside.field c.self.inside.higher) (quadratic_of c.self.inside.field c.self.inside.higher) _ c.degree.ensures c.if-degree-eq1.true c.self.invariant.planes
    c.self.view_is c.next_nonzero.ensures

pub next_nonzero-requires : goal.next_nonzero-requires
next_nonzero-requires c = search rules

pub next_by_words-requires : goal.next_by_words-requires
next_by_words-requires c = search rules

pub returns : goal.returns
returns c = search rules
