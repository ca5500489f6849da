use Rattle.std.proofs.Common.{◌<◌, refl, subst, ◌∙◌, arith}
use Rattle.std.specs.List.{All}
use Rattle.axe_field.specs.Order.{Order, order_number, IsElement}
use Rattle.axe_matrix.proofs.DigitTerms.{no_digits, next_digit, all_digits}
use Rattle.axe_matrix.proofs.HeldTerms.{held_row_fits}
use Rattle.axe_matrix.proofs.Matrix.add_digits_held.Goals as goal

pub loop-digit-init : goal.loop-digit-init
loop-digit-init g c =
    let b = c.args.self.now in
    let over_r = subst (λ (o : Order). All (IsElement o) c.args.held.now.entries) c.requires.row_field c.requires.row_well_formed.elements in
    let over_v = subst (λ (o : Order). All (IsElement o) c.args.vector.now.entries) c.requires.vector_field c.len.ensures.well_formed.elements in
    record {
      some = omega arith;
      as_long = refl;
      so_far = no_digits b c.args.held.now.entries c.args.vector.now.entries c.args.held.now c.rows.ensures.well_formed over_r over_v
          c.requires.columns_fit c.requires.inner_fit c.requires.row_field refl;
      well_formed = c.requires.row_well_formed;
    }

pub add_held_at-requires : goal.add_held_at-requires
add_held_at-requires g c =
    let invariant = c.loop-digit.invariant in
    let below : c.loop-digit.digit < order_number c.args.self.now.order = omega (arith, c.loop-digit-test.true, c.requires.order) in (
      held_row_fits _ _ c.requires.words c.rows.ensures.well_formed.columns_fit,
      (
        c.requires.order,
        (
          c.requires.characteristic,
          (
            c.requires.words,
            (
              c.requires.vector_field,
              (
                invariant.so_far.field,
                (
                  c.requires.inner_fit,
                  (
                    invariant.as_long ∙ c.requires.columns_fit,
                    (
                      below,
                      (
                        (λ none. absurd (omega (arith, none, invariant.some))),
                        (below, ((λ none. absurd (omega (arith, none, invariant.some))), invariant.well_formed)),
                      ),
                    ),
                  ),
                ),
              ),
            ),
          ),
        ),
      ),
    )

pub loop-digit-preserved : goal.loop-digit-preserved
loop-digit-preserved g c =
    let b = c.args.self.now in
    let invariant = c.loop-digit.invariant in
    let over_r = subst (λ (o : Order). All (IsElement o) c.args.held.now.entries) c.requires.row_field c.requires.row_well_formed.elements in
    let over_v = subst (λ (o : Order). All (IsElement o) c.args.vector.now.entries) c.requires.vector_field c.len.ensures.well_formed.elements in
    let below : c.loop-digit.digit < order_number b.order = omega (arith, c.loop-digit-test.true, c.requires.order) in
    record {
      some = omega arith;
      as_long = c.add_held_at.ensures.as_long ∙ invariant.as_long;
      so_far = next_digit b c.args.held.now.entries c.args.vector.now c.loop-digit.digit c.loop-digit.held c.add_held_at.new.held
          c.rows.ensures.well_formed over_r over_v c.requires.inner_fit below invariant.so_far c.add_held_at.ensures.sum;
      well_formed = c.add_held_at.ensures.well_formed;
    }

pub returns-clause-sum : goal.returns-clause-sum
returns-clause-sum g c =
    let b = c.args.self.now in
    let over_v = subst (λ (o : Order). All (IsElement o) c.args.vector.now.entries) c.requires.vector_field c.len.ensures.well_formed.elements in
    all_digits b c.args.held.now c.args.vector.now c.loop-digit.digit c.loop-digit.held c.requires.row_field over_v c.loop-digit.invariant.so_far
    (omega (arith, c.loop-digit-test.false, c.requires.order))
