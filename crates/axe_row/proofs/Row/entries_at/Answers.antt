use Rattle.std.proofs.Common.{sym, subst}
use Rattle.std.specs.List.{All}
use Rattle.axe_field.specs.Order.{IsElement}
use Rattle.axe_row.specs.Rows.{IsRow}
use Rattle.axe_row.proofs.FourMultiples.{all_of_four}
use Rattle.axe_row.proofs.KeptPlanes.{alone_order}
use Rattle.axe_row.proofs.RowPlanes.{IsRow-of_planes}
use Rattle.axe_row.proofs.Row.entries_at.Goals as goal

pub digits_at-requires : goal.digits_at-requires
digits_at-requires c = alone_order _ _ _ _ _ _ c.self.invariant c.self.view_is c.in_default.is

pub returns-in_default-clause-entries : goal.returns-in_default-clause-entries
returns-in_default-clause-entries c = c.digits_at.ensures

pub returns-in_default-clause-elements : goal.returns-in_default-clause-elements
returns-in_default-clause-elements c =
    subst (All (IsElement c.args.self.now.order)) (sym c.digits_at.ensures)
    (all_of_four (IsElement c.args.self.now.order) c.args.self.now.entries c.args.indices (subst IsRow c.self.view_is (IsRow-of_planes _ _ _ _ _ c.self.invariant.planes)).elements c.requires)

pub entries_by_planes-requires : goal.entries_by_planes-requires
entries_by_planes-requires c = c.requires

pub returns-clause-entries : goal.returns-clause-entries
returns-clause-entries c = c.entries_by_planes.ensures

pub returns-clause-elements : goal.returns-clause-elements
returns-clause-elements c =
    subst (All (IsElement c.args.self.now.order)) (sym c.entries_by_planes.ensures)
    (all_of_four (IsElement c.args.self.now.order) c.args.self.now.entries c.args.indices (subst IsRow c.self.view_is (IsRow-of_planes _ _ _ _ _ c.self.invariant.planes)).elements c.requires)
