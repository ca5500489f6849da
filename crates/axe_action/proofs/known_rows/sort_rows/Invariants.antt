use Rattle.axe_action.specs.KnownRows.{AreSorted}
use Rattle.axe_action.proofs.known_rows.sort_rows.Given as goal

abbrev pub invariant-loop-index : goal.invariant-loop-index
invariant-loop-index l = AreSorted l.images l.index l.others.items l.rows.items
