use Rattle.std.proofs.Common.{rules}
use Rattle.axe_layer.proofs.parts.spread.Goals as goal

pub add_spread-requires-clause-small : goal.add_spread-requires-clause-small
add_spread-requires-clause-small c = search rules

pub returns-clause-digits : goal.returns-clause-digits
returns-clause-digits c = search rules
