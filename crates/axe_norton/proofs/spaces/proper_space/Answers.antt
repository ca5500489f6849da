use Rattle.axe_norton.proofs.SearchLaws.{proper_reduced}
use Rattle.axe_norton.proofs.spaces.proper_space.Goals as goal

pub returns-in_ok-into_reduced-in-Some : goal.returns-in_ok-into_reduced-in-Some
returns-in_ok-into_reduced-in-Some c =
    proper_reduced c.args.module.now c.args.vector.entries c.in-Some.space c.in_ok-into_reduced-in-Some.field-0 (rw c.in-Some.is at c.in_ok-space.ensures)
    c.in_ok-into_reduced-in-Some.ensures.basis c.in_ok-into_reduced-in-Some.ensures.matrix_well_formed
