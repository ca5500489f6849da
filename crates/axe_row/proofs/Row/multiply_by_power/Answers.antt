use Rattle.std.proofs.Common.{◌<◌, subst, sym}
use Rattle.axe_field.specs.Order.{degree_of}
use Rattle.axe_row.specs.Rows.{RowValue}
use Rattle.axe_row.proofs.MultiplesByX.{IsTimesPower-none, IsTimesPower-more}
use Rattle.axe_row.proofs.Row.multiply_by_power.Goals as goal

pub loop-init : goal.loop-init
loop-init c = IsTimesPower-none _ c.requires.well_formed

pub multiply_by_x-requires : goal.multiply_by_x-requires
multiply_by_x-requires c = subst (λ (r : RowValue). 1 < degree_of r.order) (sym c.loop.invariant.multiple) c.requires.degree

pub loop-preserved : goal.loop-preserved
loop-preserved c =
    IsTimesPower-more _ _ _ _ c.requires.degree c.loop.invariant c.multiply_by_x.ensures.multiple c.multiply_by_x.ensures.well_formed
