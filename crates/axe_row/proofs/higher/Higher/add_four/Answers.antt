use Rattle.axe_row.proofs.higher.Higher.add_four.Goals as goal

pub add_four-requires-clause-a : goal.add_four-requires-clause-a
add_four-requires-clause-a c = c.requires.a.linear

pub add_four-requires-clause-b : goal.add_four-requires-clause-b
add_four-requires-clause-b c = c.requires.b.linear

pub add_four-requires-clause-c : goal.add_four-requires-clause-c
add_four-requires-clause-c c = c.requires.c.linear

pub add_four-requires-clause-d : goal.add_four-requires-clause-d
add_four-requires-clause-d c = c.requires.d.linear

pub add_four-requires-2-clause-a : goal.add_four-requires-2-clause-a
add_four-requires-2-clause-a c = c.requires.a.quadratic

pub add_four-requires-2-clause-b : goal.add_four-requires-2-clause-b
add_four-requires-2-clause-b c = c.requires.b.quadratic

pub add_four-requires-2-clause-c : goal.add_four-requires-2-clause-c
add_four-requires-2-clause-c c = c.requires.c.quadratic

pub add_four-requires-2-clause-d : goal.add_four-requires-2-clause-d
add_four-requires-2-clause-d c = c.requires.d.quadratic

pub returns-clause-linear : goal.returns-clause-linear
returns-clause-linear c = c.add_four.ensures

pub returns-clause-quadratic : goal.returns-clause-quadratic
returns-clause-quadratic c = c.add_four-2.ensures
