use Rattle.std.proofs.Common.{rules}
use Rattle.axe_plane.proofs.bytes.BytePlane.support_word.Goals as goal

pub returns-then-at-div_ceil : goal.returns-then-at-div_ceil
returns-then-at-div_ceil c = search rules
