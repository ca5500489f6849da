use Rattle.std.proofs.Common.{◌∙◌}
use Rattle.std.proofs.lemmas.Grind.{get_or_default_zero}
use Rattle.axe_echelon.proofs.pivot_table.PivotTable.row_of.Goals as goal

pub returns : goal.returns
returns c = c.index.ensures ∙ get_or_default_zero c.args.self.now.rows.items c.args.pivot c.index.result.now c.requires
