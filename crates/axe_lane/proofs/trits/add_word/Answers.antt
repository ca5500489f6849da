use Rattle.std.proofs.Common.{refl}
use Rattle.axe_lane.proofs.TritSums.{word_made}
use Rattle.axe_lane.proofs.trits.add_word.Goals as goal

pub returns : goal.returns
returns c =
    word_made c.args.at c.args.ones.now c.args.twos.now c.args.more_ones.now c.args.more_twos.now _ _ c.requires.ones_has_word c.requires.twos_has_word refl refl
