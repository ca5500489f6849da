use Rattle.axe_layer.proofs.TurnedPieces.{number_of_turned}
use Rattle.axe_layer.proofs.packed.piece_number.Goals as goal

pub returns-clause-value : goal.returns-clause-value
returns-clause-value c =
    number_of_turned c.args.word c.args.from c.args.size _ _ _ c.byte_from.ensures c.turned_byte.ensures c.from.ensures c.turned_byte.type_inv c.requires.short
