use Rattle.std.proofs.Common.{rules, ◌≡◌, ℕ, ◌+◌, ◌-◌, ◌*◌, ◌^◌, ◌<◌, ◌≤◌, List, length, sym, ap, subst, ◌∙◌, arith, add-one}
use Rattle.std.specs.List.{All}
use native.Mathlib.Nat.{pow-zero, pow-suc}
use Rattle.axe_algebra.proofs.Digits.{pow-positive}
use Rattle.axe_field.specs.Order.{Order, order_number, IsElement}
use Rattle.axe_field.proofs.Orders.{order_number-at_least}
use Rattle.axe_row.specs.Combinations.{Combines}
use Rattle.axe_row.specs.Rows.{RowValue}
use Rattle.axe_row.proofs.CombinationLaws.{IsFilledWith, IsFilledWith-none, IsFilledWith-more, last_entries-none, last_entries-length, last_entries-more, last_entries-all, room_for_more, rows-below}
use Rattle.axe_row.proofs.combos.Combos.fill.Goals as goal

pub loop-at-init : goal.loop-at-init
loop-at-init c = record {
  power = sym (pow-zero (order_number c.args.self.now.order));
  rows = subst (λ (b : List (List ℕ)). IsFilledWith b c.args.self.now c.args.self.now) (sym (last_entries-none c.args.rows.now)) (IsFilledWith-none _ c.field.ensures.well_formed);
}

pub add_multiples_of-requires-clause-some : goal.add_multiples_of-requires-clause-some
add_multiples_of-requires-clause-some c =
    let positive : 0 < order_number c.args.self.now.order = omega (arith, order_number-at_least c.args.self.now.order) in
    omega (arith, c.loop-at.invariant.power, pow-positive (order_number c.args.self.now.order) c.loop-at.at positive)

pub add_multiples_of-requires-clause-room : goal.add_multiples_of-requires-clause-room
add_multiples_of-requires-clause-room c =
    room_for_more _ c.loop-at.at _ _ _ c.loop-at.invariant.rows c.loop-at.invariant.power (omega (arith, c.loop-at-test.true, c.requires.room))

pub overflow_mul-filled : goal.overflow_mul-filled
overflow_mul-filled c =
    let room : c.loop-at.filled * order_number c.loop-at.self.order ≤ length c.loop-at.self.rows =
    room_for_more _ c.loop-at.at _ _ _ c.loop-at.invariant.rows c.loop-at.invariant.power (omega (arith, c.loop-at-test.true, c.requires.room)) in
    let small = rows-below _ c.loop-at.invariant.rows.well_formed in
    let order : c.from-order.result ≡ order_number c.loop-at.self.order =
    c.from-order.ensures ∙ c.order.ensures.value ∙ ap order_number (c.field.ensures.order ∙ sym c.loop-at.invariant.rows.kind.order) in
    omega (arith, room, small, ap (λ x. c.loop-at.filled * x) order)

pub loop-at-preserved : goal.loop-at-preserved
loop-at-preserved c =
    let at = length c.args.rows.now - 1 - c.loop-at.at in
    let inside : at < length c.args.rows.now = omega (arith, c.loop-at-test.true) in
    let place : at + 1 + c.loop-at.at ≡ length c.args.rows.now = omega (arith, c.loop-at-test.true) in
    let within : c.loop-at.at ≤ length c.args.rows.now = omega (arith, c.loop-at-test.true) in
    let field : c.index-rows-rows.result.order ≡ c.args.self.now.order =
    subst (λ (r : RowValue). r.order ≡ c.args.self.now.order) (sym c.index-rows-rows.is) (c.requires.field at c.index-rows-rows.result inside) in
    let long : length c.index-rows-rows.result.entries ≡ c.args.self.now.len =
    subst (λ (r : RowValue). length r.entries ≡ c.args.self.now.len) (sym c.index-rows-rows.is) (c.requires.fits at c.index-rows-rows.result inside) in
    let elements = subst (λ (o : Order). All (IsElement o) c.index-rows-rows.result.entries) field c.add_multiples_of.ensures.row.elements in
    record {
      power =
          ap (λ x. c.loop-at.filled * x) (c.from-order.ensures ∙ c.order.ensures.value ∙ ap order_number c.field.ensures.order)
          ∙ ap (λ x. x * order_number c.args.self.now.order) c.loop-at.invariant.power ∙ sym (pow-suc (order_number c.args.self.now.order) c.loop-at.at)
          ∙ ap (λ x. order_number c.args.self.now.order ^ x) (sym (add-one c.loop-at.at));
      rows =
          subst (λ (b : List (List ℕ)). IsFilledWith b c.args.self.now c.add_multiples_of.new.self)
          (sym (last_entries-more c.loop-at.at at c.args.rows.now c.index-rows-rows.result place c.index-rows-rows.is))
          (IsFilledWith-more c.loop-at.filled _ _ _ c.loop-at.self _ c.loop-at.invariant.rows
          (c.loop-at.invariant.power ∙ sym (ap (λ x. order_number c.args.self.now.order ^ x) (last_entries-length c.loop-at.at c.args.rows.now within)))
          elements long c.add_multiples_of.ensures.sums c.add_multiples_of.ensures.kind c.add_multiples_of.ensures.well_formed);
    }

pub returns-clause-combines : goal.returns-clause-combines
returns-clause-combines c =
    subst (λ (b : List (List ℕ)). Combines b c.loop-at.self) (last_entries-all c.loop-at.at c.args.rows.now c.loop-at-test.false) c.loop-at.invariant.rows.combines

pub add_multiples_of-requires-clause-field : goal.add_multiples_of-requires-clause-field
add_multiples_of-requires-clause-field c = search rules

pub add_multiples_of-requires-clause-fits : goal.add_multiples_of-requires-clause-fits
add_multiples_of-requires-clause-fits c = search rules

pub returns-clause-kind : goal.returns-clause-kind
returns-clause-kind c = search rules

pub returns-clause-well_formed : goal.returns-clause-well_formed
returns-clause-well_formed c = search rules
