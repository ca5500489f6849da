use Rattle.axe_action.proofs.DualLaws.{annihilator_of_orthogonal}
use Rattle.axe_action.proofs.duals.annihilator.Goals as goal

pub returns-clause-basis : goal.returns-clause-basis
returns-clause-basis c =
    annihilator_of_orthogonal c.args.rows.now c.orthogonal_space.result c.orthogonal_space.ensures.basis c.orthogonal_space.ensures.orthogonal
