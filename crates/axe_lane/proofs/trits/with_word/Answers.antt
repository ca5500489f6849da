use Rattle.std.proofs.Common.{refl}
use Rattle.axe_lane.specs.Trits.{sum_of_words}
use Rattle.axe_lane.proofs.trits.with_word.Goals as goal

pub returns : goal.returns
unfolding sum_of_words
returns c = refl
