use Rattle.std.proofs.Common.{◌<◌, suc, refl, sym, ap, subst, ◌∙◌, arith, add-one}
use Rattle.std.specs.List.{All}
use Rattle.axe_field.specs.Order.{Order, order_number, prime_of, IsElement}
use Rattle.axe_field.proofs.Orders.{one_is_element}
use Rattle.axe_row.specs.Operations.{multiple_row}
use Rattle.axe_row.specs.Rows.{RowValue}
use Rattle.axe_matrix.proofs.HeldTerms.{held_row_fits}
use Rattle.axe_matrix.proofs.ValuePowers.{value_at, value_at-element, value_at-nonzero, value_at-next, first_value, HasValues, no_values, next_value, all_values}
use Rattle.axe_matrix.proofs.Matrix.add_values_held.Goals as goal

pub loop-init : goal.loop-init
loop-init g c =
    let b = c.args.self.now in
    record {
      as_long = refl;
      value = first_value b.order;
      so_far = no_values b c.args.held.now.entries c.args.vector.now.entries c.args.held.now
          (record {
            matrix = c.rows.ensures.well_formed;
            not_prime = c.requires.not_prime;
            row = subst (λ (o : Order). All (IsElement o) c.args.held.now.entries) c.requires.row_field c.requires.row_well_formed.elements;
            vector = subst (λ (o : Order). All (IsElement o) c.args.vector.now.entries) c.requires.vector_field c.len.ensures.well_formed.elements;
            columns_fit = c.requires.columns_fit;
            inner_fit = c.requires.inner_fit;
          })
          c.requires.row_field refl;
      well_formed = c.requires.row_well_formed;
    }

pub mul-value-requires-clause-left : goal.mul-value-requires-clause-left
mul-value-requires-clause-left g c =
    let o = c.args.self.now.order in
    subst (λ (p : Order). c.loop.value < order_number p) (sym c.field.ensures.order)
    (subst (IsElement o) (sym c.loop.invariant.value) (value_at-element o c.loop.counter c.requires.not_prime))

pub add_held_at-requires : goal.add_held_at-requires
add_held_at-requires g c =
    let o = c.args.self.now.order in
    let below : suc c.loop.counter < order_number o = omega (arith, c.loop-test.true, c.order-end.ensures.value, ap order_number c.field.ensures.order) in
    let is = value_at-next o c.field.result.now c.loop.counter c.loop.value c.inv-inverse.result c.mul-value.result c.prime.result c.field.ensures.order
    c.prime.ensures c.loop.invariant.value c.inv-inverse.ensures.value c.mul-value.ensures.value in (
      held_row_fits _ _ c.requires.words c.rows.ensures.well_formed.columns_fit,
      (
        c.requires.order,
        (
          c.requires.characteristic,
          (
            c.requires.words,
            (
              c.requires.vector_field,
              (
                ap (λ (r : RowValue). r.order) c.multiply_by_x.ensures.multiple ∙ c.loop.invariant.so_far.field,
                (
                  c.requires.inner_fit,
                  (
                    c.multiply_by_x.ensures.as_long ∙ c.loop.invariant.as_long ∙ c.requires.columns_fit,
                    (
                      subst (λ (p : Order). IsElement p c.mul-value.result) c.field.ensures.order c.mul-value.ensures.element,
                      (
                        (λ none. value_at-nonzero o (suc c.loop.counter) c.requires.not_prime below (sym is ∙ none)),
                        (one_is_element o, ((λ none. absurd (omega (arith, none))), c.multiply_by_x.ensures.well_formed)),
                      ),
                    ),
                  ),
                ),
              ),
            ),
          ),
        ),
      ),
    )

pub loop-preserved : goal.loop-preserved
loop-preserved g c =
    let b = c.args.self.now in
    let invariant = c.loop.invariant in
    let is = value_at-next b.order c.field.result.now c.loop.counter c.loop.value c.inv-inverse.result c.mul-value.result c.prime.result c.field.ensures.order
    c.prime.ensures invariant.value c.inv-inverse.ensures.value c.mul-value.ensures.value in
    record {
      as_long = c.add_held_at.ensures.as_long ∙ c.multiply_by_x.ensures.as_long ∙ invariant.as_long;
      value = is ∙ ap (value_at b.order) (sym (add-one c.loop.counter));
      so_far = subst (λ n. HasValues b c.args.held.now.entries c.args.vector.now.entries n c.add_held_at.new.held) (sym (add-one c.loop.counter))
          (next_value b c.args.held.now.entries c.args.vector.now c.loop.counter c.mul-value.result c.loop.held c.multiply_by_x.new.self c.add_held_at.new.held
          (record {
            matrix = c.rows.ensures.well_formed;
            not_prime = c.requires.not_prime;
            row = subst (λ (o : Order). All (IsElement o) c.args.held.now.entries) c.requires.row_field c.requires.row_well_formed.elements;
            vector = subst (λ (o : Order). All (IsElement o) c.args.vector.now.entries) c.requires.vector_field c.len.ensures.well_formed.elements;
            columns_fit = c.requires.columns_fit;
            inner_fit = c.requires.inner_fit;
          })
          invariant.so_far (c.multiply_by_x.ensures.multiple ∙ ap (λ x. multiple_row x c.loop.held) (ap prime_of invariant.so_far.field)) is c.add_held_at.ensures.sum);
      well_formed = c.add_held_at.ensures.well_formed;
    }

pub returns-clause-sum : goal.returns-clause-sum
returns-clause-sum g c =
    let b = c.args.self.now in
    all_values b c.args.held.now c.args.vector.now c.loop.counter c.loop.held c.requires.row_field
    (record {
      matrix = c.rows.ensures.well_formed;
      not_prime = c.requires.not_prime;
      row = subst (λ (o : Order). All (IsElement o) c.args.held.now.entries) c.requires.row_field c.requires.row_well_formed.elements;
      vector = subst (λ (o : Order). All (IsElement o) c.args.vector.now.entries) c.requires.vector_field c.len.ensures.well_formed.elements;
      columns_fit = c.requires.columns_fit;
      inner_fit = c.requires.inner_fit;
    })
    c.loop.invariant.so_far (omega (arith, c.loop-test.false, c.loop.auto.counter-end, c.order-end.ensures.value, ap order_number c.field.ensures.order))
