use Rattle.std.proofs.Common.{rules}
use Rattle.axe_field.proofs.Field.is_element.Goals as goal

pub returns : goal.returns
returns c = search rules
