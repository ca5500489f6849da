use Rattle.std.proofs.Common.{◌<◌, subst, arith}
use Rattle.axe_field.specs.Order.{Order, order_number, IsElement}
use Rattle.axe_row_tests.proofs.TwoFactors.{each_of_twice_two}
use Rattle.axe_row_tests.proofs.rows.adds_multiples.Goals as goal

pub add_four_multiples-requires-clause-factors : goal.add_four_multiples-requires-clause-factors
add_four_multiples-requires-clause-factors g c =
    each_of_twice_two (λ k. (0 < k) × IsElement c.args.row.now.order k) c.in_ok-factor-2.factor c.in_ok-other_factor.other_factor
    (omega arith, subst (λ (o : Order). c.in_ok-factor-2.factor < order_number o) c.field.ensures.order c.in_ok-factor-2.ensures)
    (omega arith, subst (λ (o : Order). c.in_ok-other_factor.other_factor < order_number o) c.field-2.ensures.order c.in_ok-other_factor.ensures)
