use Rattle.std.proofs.Common.{rules}
use Rattle.axe_row.proofs.Row.piece_numbers.Goals as goal

pub returns-then-scalar-eq1 : goal.returns-then-scalar-eq1
returns-then-scalar-eq1 c = search rules

pub piece_number-requires-2-clause-counted : goal.piece_number-requires-2-clause-counted
piece_number-requires-2-clause-counted c = search rules

pub piece_number-requires-3-clause-counted : goal.piece_number-requires-3-clause-counted
piece_number-requires-3-clause-counted c = search rules

pub piece_number-requires-4-clause-counted : goal.piece_number-requires-4-clause-counted
piece_number-requires-4-clause-counted c = search rules

pub overflow_mul-size : goal.overflow_mul-size
overflow_mul-size c = search rules

pub overflow_add-at : goal.overflow_add-at
overflow_add-at c = search rules

pub overflow_add-at-2 : goal.overflow_add-at-2
overflow_add-at-2 c = search rules

pub overflow_mul-size-2 : goal.overflow_mul-size-2
overflow_mul-size-2 c = search rules

pub overflow_add-at-3 : goal.overflow_add-at-3
overflow_add-at-3 c = search rules

pub returns : goal.returns
returns c = search rules
