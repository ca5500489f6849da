use Rattle.axe_layer.proofs.LaneSums.{packed_singles, packed_pairs}
use Rattle.axe_layer.proofs.lanes.packed_numbers.Goals as goal

pub returns-then-single-clause-value : goal.returns-then-single-clause-value
returns-then-single-clause-value c = λ n inside.
    packed_singles c.args.base c.args.size c.args.at n _ _ c.args.words.now c.if-single.true inside c.word_from-word.ensures c.bits_in_lanes.ensures

pub returns-clause-value : goal.returns-clause-value
returns-clause-value c = λ n inside.
    packed_pairs c.args.base c.args.size c.args.at n _ _ _ c.args.words.now c.requires.some c.requires.few c.if-single.false inside c.word_from-word.ensures
    c.even_bits_in_lanes.ensures c.even_bits_in_lanes-2.ensures
