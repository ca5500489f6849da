use Rattle.std.proofs.Common.{◌-◌, ◌*◌, ap, ◌∙◌}
use Rattle.axe_echelon.proofs.MirroredWords.{digit-reversed}
use Rattle.axe_echelon.proofs.ReversedBits.{digit_of_reversed}
use Rattle.axe_echelon.proofs.word_mirrors.mirrored_words.Goals as goal

pub returns : goal.returns
returns c = λ i low.
    digit_of_reversed c.digits_before-words.result _ _ i (c.reversed.ensures i) (c.reversed-2.ensures i) low
    ∙ digit-reversed c.args.row.now.order c.args.power c.requires.power c.args.row.now.entries c.digits_before-words.result c.args.at
    (c.len.result - c.args.at * 64) i c.digits_before-words.ensures c.requires.within (ap (λ n. n - c.args.at * 64) c.len.ensures.count) low
