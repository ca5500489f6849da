use Rattle.std.proofs.Common.{◌≡◌, length, ◌∙◌, arith}
use Rattle.std.specs.Vec.{vec_len}
use Rattle.axe_echelon.proofs.PivotRowLaws.{echelon_of_rows}
use Rattle.axe_echelon.proofs.PivotRowLaws.{length-rows}
use Rattle.axe_echelon.proofs.subspace.Subspace.dim.Goals as goal

pub returns-clause-well_formed : goal.returns-clause-well_formed
returns-clause-well_formed c = rw (← c.self.view_is) (echelon_of_rows _ _ _ c.self.invariant.are_rows)

items_counted : (c : goal.After-len) → vec_len c.self.inside.rows ≡ length c.self.inside.rows.items
items_counted c = omega (arith, c.self.inside.rows.ok.0)

pub returns-clause-count : goal.returns-clause-count
returns-clause-count c =
    c.len.ensures ∙ items_counted c ∙ length-rows _ _ c.self.inside.rows.items _ c.self.view_is
