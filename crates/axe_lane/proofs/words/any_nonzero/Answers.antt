use Rattle.axe_lane.proofs.ZeroLaws.{some_is_nonzero}
use Rattle.axe_lane.proofs.words.any_nonzero.Goals as goal

pub returns : goal.returns
returns c = rw c.is_some.ensures (some_is_nonzero c.first_nonzero_word.result c.args.words.now c.first_nonzero_word.ensures)
