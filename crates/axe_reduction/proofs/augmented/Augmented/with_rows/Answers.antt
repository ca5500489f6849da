use Rattle.std.proofs.lemmas.Grind.{common_steps}
use Rattle.std.proofs.Common.{rules, arith}
use Rattle.axe_reduction.proofs.BesideLaws.{augmented-IsAugmented, view-count}
use Rattle.axe_reduction.proofs.BesideParts.{more_rows-AreBeside, with_more_rows}
use Rattle.axe_reduction.proofs.augmented.Augmented.with_rows.Goals as goal

pub append_matrix-requires-clause-room : goal.append_matrix-requires-clause-room
append_matrix-requires-clause-room c =
    let mine = view-count c.self.inside.left c.self.inside.right _ c.self.view_is in
    let others = view-count c.other.inside.left c.other.inside.right _ c.other.view_is in
    omega (arith, mine, others, c.requires.room)

pub invariant_of-result : goal.invariant_of-result
invariant_of-result c =
    more_rows-AreBeside _ _ _ _ _ _ c.self.invariant c.other.invariant c.in_ok-append_matrix.ensures.rows c.in_ok-append_matrix-2.ensures.rows
    c.append_matrix.ensures.well_formed c.append_matrix-2.ensures.well_formed

pub returns-clause-rows : goal.returns-clause-rows
returns-clause-rows c =
    with_more_rows _ _ _ _ _ _ _ _ c.self.view_is c.self.invariant c.other.view_is c.other.invariant
    c.in_ok-append_matrix.ensures.rows c.in_ok-append_matrix-2.ensures.rows

pub returns-clause-well_formed : goal.returns-clause-well_formed
returns-clause-well_formed c =
    augmented-IsAugmented _ _ (more_rows-AreBeside _ _ _ _ _ _ c.self.invariant c.other.invariant c.in_ok-append_matrix.ensures.rows
    c.in_ok-append_matrix-2.ensures.rows c.append_matrix.ensures.well_formed c.append_matrix-2.ensures.well_formed)

pub append_matrix-requires-2-clause-room : goal.append_matrix-requires-2-clause-room
append_matrix-requires-2-clause-room c = grind (arith, common_steps)

pub append_matrix-requires-clause-field : goal.append_matrix-requires-clause-field
append_matrix-requires-clause-field c = search rules

pub append_matrix-requires-clause-fits : goal.append_matrix-requires-clause-fits
append_matrix-requires-clause-fits c = search rules

pub append_matrix-requires-2-clause-field : goal.append_matrix-requires-2-clause-field
append_matrix-requires-2-clause-field c = search rules

pub append_matrix-requires-2-clause-fits : goal.append_matrix-requires-2-clause-fits
append_matrix-requires-2-clause-fits c = search rules
