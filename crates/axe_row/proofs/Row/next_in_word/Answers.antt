use Rattle.std.proofs.Common.{◌+◌, ◌*◌, sym, subst}
use Rattle.axe_field.specs.Order.{order_number, IsElement}
use Rattle.axe_field.proofs.Orders.{zero_is_element}
use Rattle.axe_layer.proofs.DigitLaws.{digit-below}
use Rattle.axe_row.proofs.BitBlockLaws.{bits_left}
use Rattle.axe_row.proofs.KnownFieldLaws.{found_in_word, none_in_word, place_in_word, support_at_places}
use Rattle.axe_row.proofs.Row.next_in_word.Goals as goal

pub returns-in_default-clause-found : goal.returns-in_default-clause-found
returns-in_default-clause-found g c =
    none_in_word _ c.args.at c.support_in.result c.args.places.now c.support_in.ensures
    (c.in_default.ensures _ (support_at_places _ c.args.at c.support_in.result c.args.places.now c.support_in.ensures))

pub overflow_shl-places : goal.overflow_shl-places
overflow_shl-places g c =
    place_in_word _ c.args.at c.support_in.result c.args.places.now c.support_in.ensures c.in-Some.place
    (c.in-Some.ensures _ (support_at_places _ c.args.at c.support_in.result c.args.places.now c.support_in.ensures))

pub entry_in-requires-clause-place : goal.entry_in-requires-clause-place
entry_in-requires-clause-place g c =
    place_in_word _ c.args.at c.support_in.result c.args.places.now c.support_in.ensures c.in-Some.place
    (c.in-Some.ensures _ (support_at_places _ c.args.at c.support_in.result c.args.places.now c.support_in.ensures))

pub returns-clause-found : goal.returns-clause-found
returns-clause-found g c =
    found_in_word _ c.args.at c.support_in.result c.args.places.now c.support_in.ensures c.in-Some.place c.entry_in.result
    (c.in-Some.ensures _ (support_at_places _ c.args.at c.support_in.result c.args.places.now c.support_in.ensures)) c.entry_in.ensures

pub returns-clause-rest : goal.returns-clause-rest
returns-clause-rest g c =
    bits_left c.args.places.now c.in-Some.place
    (place_in_word _ c.args.at c.support_in.result c.args.places.now c.support_in.ensures c.in-Some.place
    (c.in-Some.ensures _ (support_at_places _ c.args.at c.support_in.result c.args.places.now c.support_in.ensures)))

pub returns-clause-element : goal.returns-clause-element
returns-clause-element g c =
    let o = c.args.self.now.order in
    subst (IsElement o) (sym c.entry_in.ensures)
    (digit-below (order_number o) c.args.self.now.entries (c.args.at * 64 + c.in-Some.place) (zero_is_element o) c.len.ensures.well_formed.elements)
