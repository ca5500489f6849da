use Rattle.std.proofs.Common.{rules}
use Rattle.axe_layer.proofs.places.earlier.Goals as goal

pub returns-in-Some-Some : goal.returns-in-Some-Some
returns-in-Some-Some c = search rules
