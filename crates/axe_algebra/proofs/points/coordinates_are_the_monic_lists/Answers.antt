use Rattle.axe_algebra.proofs.PointMembers.{coordinates_are_monic, monic_lists_are_coordinates, coordinates_ascend}
use Rattle.axe_algebra.proofs.points.coordinates_are_the_monic_lists.Goals as goal

pub returns-clause-each : goal.returns-clause-each
returns-clause-each c = coordinates_are_monic

pub returns-clause-all : goal.returns-clause-all
returns-clause-all c = monic_lists_are_coordinates

pub returns-clause-ascending : goal.returns-clause-ascending
returns-clause-ascending c = coordinates_ascend
