use Rattle.std.proofs.lemmas.Bool.{eqb-true}
use Rattle.axe_lane.proofs.ZeroLaws.{zeros_from_or}
use Rattle.axe_lane.proofs.bytes.is_zero_block.Goals as goal

pub returns : goal.returns
returns c h j l = (zeros_from_or _ 0 (eqb-true _ 0 h)).1 j
