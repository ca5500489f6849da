use Rattle.std.proofs.Common.{rules}
use Rattle.axe_reduction.proofs.SolutionLists.{as_many_rows, some_row_beside}
use Rattle.axe_reduction.proofs.solutions.reduction_beside_identity.Goals as goal

pub beside-requires-clause-as_many : goal.beside-requires-clause-as_many
beside-requires-clause-as_many c =
    as_many_rows c.args.matrix.now c.in_ok-copy.copy c.in_ok-identity.identity _ c.rows.result c.in_ok-copy.ensures.copied c.in_ok-identity.ensures.identity
    c.rows.ensures.count

pub reduction_of-requires : goal.reduction_of-requires
reduction_of-requires c =
    some_row_beside c.args.matrix.now c.in_ok-copy.copy c.in_ok-identity.identity c.beside.result c.in_ok-copy.ensures.copied c.beside.ensures.beside c.requires

pub beside-requires-clause-field : goal.beside-requires-clause-field
beside-requires-clause-field c = search rules

pub returns : goal.returns
returns c = search rules
