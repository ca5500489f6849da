use Rattle.std.proofs.Common.{◌*◌}
use Rattle.axe_layer.proofs.PieceBits.{piece_of_shifted, piece_of_word}
use Rattle.axe_layer.proofs.PieceDigits.{same_four}
use Rattle.axe_layer.proofs.layer.numbers_of_word.Goals as goal

pub returns-clause-value : goal.returns-clause-value
returns-clause-value c =
    let base = c.args.base in
    let size = c.args.size in
    same_four _ _ _ _ _ _ _ _
    (piece_of_word base size c.args.word _ c.number_of_bits.ensures.value)
    (piece_of_shifted base size size c.args.word _ c.number_of_bits-2.ensures.value)
    (piece_of_shifted base size (2 * size) c.args.word _ c.number_of_bits-3.ensures.value)
    (piece_of_shifted base size (3 * size) c.args.word _ c.number_of_bits-4.ensures.value)
