use Rattle.axe_echelon.proofs.MirroredWords.{digits_of_two}
use Rattle.axe_echelon.proofs.word_mirrors.digits_before.Goals as goal

pub returns : goal.returns
returns c =
    digits_of_two _ _ c.digit_words-second.result c.args.end _ _ c.requires.some c.words_before-first.ensures c.digit_words-second.ensures
    c.bits_up_to.ensures.first c.bits_up_to.ensures.second c.bits_up_to-2.ensures.first c.bits_up_to-2.ensures.second
