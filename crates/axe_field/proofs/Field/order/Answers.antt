use Rattle.std.proofs.Common.{ap}
use Rattle.axe_field.specs.declared.Field.TheInside.{Inside}
use Rattle.axe_field.proofs.Lookup.{inside-is}
use Rattle.axe_field.proofs.Orders.{order_number-at_least, order_number-at_most}
use Rattle.axe_field.proofs.Field.order.Goals as goal

pub returns-clause-value : goal.returns-clause-value
returns-clause-value c =
    ap (λ (s : Inside). s.order) (inside-is c.self.inside c.args.self.now c.self.invariant c.self.view_is)

pub returns-clause-at_least_two : goal.returns-clause-at_least_two
returns-clause-at_least_two c = rw (returns-clause-value c) (order_number-at_least c.args.self.now)

pub returns-clause-at_most_nine : goal.returns-clause-at_most_nine
returns-clause-at_most_nine c = rw (returns-clause-value c) (order_number-at_most c.args.self.now)
