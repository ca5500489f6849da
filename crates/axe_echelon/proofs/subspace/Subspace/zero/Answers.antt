use Rattle.std.proofs.Common.{ap}
use Rattle.axe_echelon.specs.Subspaces.{space_of}
use Rattle.axe_echelon.proofs.PivotLaws.{tabled_none}
use Rattle.axe_echelon.proofs.PivotRowLaws.{echelon_of_rows}
use Rattle.axe_echelon.proofs.subspace.Subspace.zero.Goals as goal

pub invariant_of-result : goal.invariant_of-result
invariant_of-result c =
    tabled_none c.args.field c.args.cols c.new.result.items c.new-2.result c.new.ensures.items c.requires.some_column c.requires.columns_fit
    (c.new-2.ensures.pivots c.args.cols) c.new-2.ensures.has_blocks

pub returns-clause-no_rows : goal.returns-clause-no_rows
returns-clause-no_rows c = ap (space_of c.args.field c.args.cols) c.new.ensures.items

pub returns-clause-well_formed : goal.returns-clause-well_formed
returns-clause-well_formed c =
    echelon_of_rows c.args.field c.args.cols c.new.result.items
    (tabled_none c.args.field c.args.cols c.new.result.items c.new-2.result c.new.ensures.items c.requires.some_column c.requires.columns_fit
    (c.new-2.ensures.pivots c.args.cols) c.new-2.ensures.has_blocks).are_rows
