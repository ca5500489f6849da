use Rattle.std.proofs.Common.{◌<◌, suc, refl, sym, ap, subst, ◌∙◌, arith, add-one}
use Rattle.std.specs.List.{All}
use Rattle.axe_field.specs.Order.{Order, order_number, prime_of, IsElement}
use Rattle.axe_row.specs.Operations.{multiple_row}
use Rattle.axe_matrix.proofs.ValuePowers.{value_at, value_at-element, value_at-nonzero, value_at-next, first_value, HasValues, no_values, next_value, all_values}
use Rattle.axe_matrix.proofs.Matrix.add_by_values.Goals as goal

pub loop-init : goal.loop-init
loop-init c =
    let b = c.args.self.now in
    record {
      as_long = refl;
      value = first_value b.order;
      so_far = no_values b c.args.row.now.entries c.args.vector.now.entries c.args.row.now
          (record {
            matrix = c.rows.ensures.well_formed;
            not_prime = c.requires.not_prime;
            row = subst (λ (o : Order). All (IsElement o) c.args.row.now.entries) c.requires.row_field c.len.ensures.well_formed.elements;
            vector = subst (λ (o : Order). All (IsElement o) c.args.vector.now.entries) c.requires.vector_field c.len-2.ensures.well_formed.elements;
            columns_fit = c.requires.columns_fit;
            inner_fit = c.requires.inner_fit;
          })
          c.requires.row_field refl;
      well_formed = c.len.ensures.well_formed;
    }

pub mul-value-requires-clause-left : goal.mul-value-requires-clause-left
mul-value-requires-clause-left c =
    let o = c.args.self.now.order in
    subst (λ (p : Order). c.loop.value < order_number p) (sym c.field.ensures.order)
    (subst (IsElement o) (sym c.loop.invariant.value) (value_at-element o c.loop.counter c.requires.not_prime))

pub add_rows_at-requires-clause-nonzero : goal.add_rows_at-requires-clause-nonzero
add_rows_at-requires-clause-nonzero c =
    let o = c.args.self.now.order in
    let below : suc c.loop.counter < order_number o = omega (arith, c.loop-test.true, c.order-end.ensures.value, ap order_number c.field.ensures.order) in
    let is = value_at-next o c.field.result.now c.loop.counter c.loop.value c.inv-inverse.result c.mul-value.result c.prime-x.result c.field.ensures.order
    c.prime-x.ensures c.loop.invariant.value c.inv-inverse.ensures.value c.mul-value.ensures.value in
    λ none. value_at-nonzero o (suc c.loop.counter) c.requires.not_prime below (sym is ∙ none)

pub loop-preserved : goal.loop-preserved
loop-preserved c =
    let b = c.args.self.now in
    let invariant = c.loop.invariant in
    let is = value_at-next b.order c.field.result.now c.loop.counter c.loop.value c.inv-inverse.result c.mul-value.result c.prime-x.result c.field.ensures.order
    c.prime-x.ensures invariant.value c.inv-inverse.ensures.value c.mul-value.ensures.value in
    let x_is = c.prime-x.ensures ∙ ap prime_of c.field.ensures.order in
    record {
      as_long = c.add_rows_at.ensures.as_long ∙ c.scale.ensures.as_long ∙ invariant.as_long;
      value = is ∙ ap (value_at b.order) (sym (add-one c.loop.counter));
      so_far = subst (λ n. HasValues b c.args.row.now.entries c.args.vector.now.entries n c.add_rows_at.new.row) (sym (add-one c.loop.counter))
          (next_value b c.args.row.now.entries c.args.vector.now c.loop.counter c.mul-value.result c.loop.row c.scale.new.self c.add_rows_at.new.row
          (record {
            matrix = c.rows.ensures.well_formed;
            not_prime = c.requires.not_prime;
            row = subst (λ (o : Order). All (IsElement o) c.args.row.now.entries) c.requires.row_field c.len.ensures.well_formed.elements;
            vector = subst (λ (o : Order). All (IsElement o) c.args.vector.now.entries) c.requires.vector_field c.len-2.ensures.well_formed.elements;
            columns_fit = c.requires.columns_fit;
            inner_fit = c.requires.inner_fit;
          })
          invariant.so_far (c.scale.ensures.multiple ∙ ap (λ x. multiple_row x c.loop.row) x_is) is c.add_rows_at.ensures.sum);
      well_formed = c.add_rows_at.ensures.well_formed;
    }

pub returns-clause-sum : goal.returns-clause-sum
returns-clause-sum c =
    let b = c.args.self.now in
    all_values b c.args.row.now c.args.vector.now c.loop.counter c.loop.row c.requires.row_field
    (record {
      matrix = c.rows.ensures.well_formed;
      not_prime = c.requires.not_prime;
      row = subst (λ (o : Order). All (IsElement o) c.args.row.now.entries) c.requires.row_field c.len.ensures.well_formed.elements;
      vector = subst (λ (o : Order). All (IsElement o) c.args.vector.now.entries) c.requires.vector_field c.len-2.ensures.well_formed.elements;
      columns_fit = c.requires.columns_fit;
      inner_fit = c.requires.inner_fit;
    })
    c.loop.invariant.so_far (omega (arith, c.loop-test.false, c.loop.auto.counter-end, c.order-end.ensures.value, ap order_number c.field.ensures.order))
