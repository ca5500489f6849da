use Rattle.std.proofs.Common.{rules}
use Rattle.axe_row.proofs.MadePlanes.{were_made, not_made}
use Rattle.axe_row.proofs.RowPlanes.{IsRow-of_planes}
use Rattle.axe_row.proofs.Row.of_planes.Goals as goal

pub invariant_of-result : goal.invariant_of-result
invariant_of-result c = record {
  planes = rw c.in_ok-higher.ensures.ok (were_made _ _ _ _ _ c.in-Ok-Ok.is-0 c.in-Ok-Ok.is-1 c.requires.planes);
  needed = c.requires.degree;
}

pub returns-clause-well_formed : goal.returns-clause-well_formed
returns-clause-well_formed c = IsRow-of_planes _ _ _ _ _ (invariant_of-result c).planes

pub returns-in_default-clause-entries : goal.returns-in_default-clause-entries
returns-in_default-clause-entries c = not_made c.args.linear c.args.quadratic _

pub returns-clause-entries : goal.returns-clause-entries
returns-clause-entries c = search rules
