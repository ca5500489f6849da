use Rattle.std.proofs.Common.{not, ap}
use Rattle.axe_layer.proofs.ZeroDigits.{zero_words}
use Rattle.axe_matrix.proofs.TransposedBlocks.{HasTransposed-words, HasTransposed-zeros, turned-below}
use Rattle.axe_matrix.proofs.Matrix.put_block.Goals as goal

pub put_words-requires-clause-digits : goal.put_words-requires-clause-digits
put_words-requires-clause-digits c = λ i j low small.
    turned-below c.args.power c.args.matrix.now c.args.self.now c.args.row_block c.args.column_block _ _ c.words_of_block.ensures _ _
    c.transposed-ones.ensures c.transposed-twos.ensures _ i j c.cols.ensures.well_formed c.requires.power c.requires.shape.order low small

pub returns-else-any_nonzero-2-clause-transposed : goal.returns-else-any_nonzero-2-clause-transposed
returns-else-any_nonzero-2-clause-transposed c =
    HasTransposed-zeros c.args.power c.args.matrix.now c.args.self.now c.args.row_block c.args.column_block _ _ c.words_of_block.ensures
    ((zero_words _ _ c.any_nonzero.ensures).0 (ap not c.if-any_nonzero.false)) ((zero_words _ _ c.any_nonzero-else-any_nonzero.ensures).0 (ap not c.if-any_nonzero-2.false)) c.requires.zeros

pub returns-then-any_nonzero-clause-transposed : goal.returns-then-any_nonzero-clause-transposed
returns-then-any_nonzero-clause-transposed c =
    HasTransposed-words c.args.power c.args.matrix.now c.args.self.now c.args.row_block c.args.column_block _ _ c.words_of_block.ensures _ _
    c.transposed-ones.ensures c.transposed-twos.ensures _ c.put_words.ensures.written
