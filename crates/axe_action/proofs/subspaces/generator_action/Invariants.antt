use Rattle.axe_action.specs.Coordinates.{HasActionRows}
use Rattle.axe_action.proofs.subspaces.generator_action.Given as goal

abbrev pub invariant-loop-index : goal.invariant-loop-index
invariant-loop-index l = HasActionRows l.generator l.rows.rows l.index l.action
