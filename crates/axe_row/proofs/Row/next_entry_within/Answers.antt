use Rattle.std.proofs.Common.{◌<◌, length, subst, sym, arith}
use Rattle.axe_field.specs.Order.{IsElement}
use Rattle.axe_layer.proofs.SupportLaws.{length-restricted}
use Rattle.axe_row.proofs.Row.next_entry_within.Goals as goal

pub returns-clause-element : goal.returns-clause-element
returns-clause-element c =
    let found = c.entry_from-index.ensures.told.found c.if-entry-eq0.false in
    let within : c.entry_from-index.result.0 < length c.args.self.now.entries =
    omega (arith, found.next.within, length-restricted c.args.places.now c.args.self.now.entries) in
    subst (IsElement c.args.self.now.order) (sym found.entry_is)
    (c.entry_from-index.ensures.well_formed.elements c.entry_from-index.result.0 0 within)
