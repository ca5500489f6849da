use Rattle.std.proofs.Common.{refl}
use Rattle.axe_lane.specs.Trits.{sum_of_words}
use Rattle.axe_lane.proofs.FiveTrits.{word_of_five}
use Rattle.axe_lane.proofs.trits.add_words.Goals as goal

pub returns : goal.returns
unfolding sum_of_words
returns c = word_of_five c.args.at _ _ _ _ _ c.requires.row refl
