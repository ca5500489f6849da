use Rattle.axe_row.proofs.higher.Higher.add_entries.Goals as goal

pub add_entries-requires-clause-constant : goal.add_entries-requires-clause-constant
add_entries-requires-clause-constant c = c.requires.constant

pub add_entries-requires-clause-linear : goal.add_entries-requires-clause-linear
add_entries-requires-clause-linear c = c.requires.linear

pub add_entries-requires-clause-quadratic : goal.add_entries-requires-clause-quadratic
add_entries-requires-clause-quadratic c = c.requires.quadratic

pub add_entries-requires-clause-addable : goal.add_entries-requires-clause-addable
add_entries-requires-clause-addable c = c.requires.to_linear

pub add_entries-requires-2-clause-constant : goal.add_entries-requires-2-clause-constant
add_entries-requires-2-clause-constant c = c.requires.constant

pub add_entries-requires-2-clause-linear : goal.add_entries-requires-2-clause-linear
add_entries-requires-2-clause-linear c = c.requires.linear

pub add_entries-requires-2-clause-quadratic : goal.add_entries-requires-2-clause-quadratic
add_entries-requires-2-clause-quadratic c = c.requires.quadratic

pub add_entries-requires-2-clause-addable : goal.add_entries-requires-2-clause-addable
add_entries-requires-2-clause-addable c = c.requires.to_quadratic

pub returns-clause-linear : goal.returns-clause-linear
returns-clause-linear c = c.add_entries.ensures

pub returns-clause-quadratic : goal.returns-clause-quadratic
returns-clause-quadratic c = c.add_entries-2.ensures
