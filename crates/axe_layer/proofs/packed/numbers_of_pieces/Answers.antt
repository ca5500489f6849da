use Rattle.axe_layer.proofs.PieceDigits.{same_four}
use Rattle.axe_layer.proofs.packed.numbers_of_pieces.Goals as goal

pub returns-clause-value : goal.returns-clause-value
returns-clause-value c =
    same_four _ _ _ _ _ _ _ _ c.piece_number.ensures.value c.piece_number-2.ensures.value c.piece_number-3.ensures.value c.piece_number-4.ensures.value
