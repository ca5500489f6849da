use Rattle.std.proofs.Common.{◌+◌, ◌*◌, ◌≤◌, ◌∙◌, arith, refl}
use Rattle.axe_layer.proofs.PieceBits.{number_of_part}
use Rattle.axe_layer.proofs.PieceDigits.{same_four}
use Rattle.axe_layer.proofs.layer.numbers_in.Goals as goal

pub returns-then-size-len-clause-value : goal.returns-then-size-len-clause-value
returns-then-size-len-clause-value c =
    let inside : c.args.at + 4 * c.args.size ≤ c.args.len = omega (arith, c.if-at-len.true, c.if-size-len.true) in
    c.numbers_of_pieces.ensures.value ∙ same_four _ _ _ _ _ _ _ _
    (number_of_part _ _ c.args.size c.args.at 0 _ _ _ _ _ _ c.if-base-eq2.true refl (omega arith) (omega (arith, inside)) (omega (arith, c.requires.short)) c.word_from.ensures refl)
    (number_of_part _ _ c.args.size c.args.at c.args.size _ _ _ _ _ _ c.if-base-eq2.true refl (omega arith) (omega (arith, inside)) (omega (arith, c.requires.short)) c.word_from.ensures refl)
    (number_of_part _ _ c.args.size c.args.at (2 * c.args.size) _ _ _ _ _ _ c.if-base-eq2.true refl (omega arith) (omega (arith, inside)) (omega (arith, c.requires.short)) c.word_from.ensures refl)
    (number_of_part _ _ c.args.size c.args.at (3 * c.args.size) _ _ _ _ _ _ c.if-base-eq2.true refl (omega arith) (omega (arith, inside)) (omega (arith, c.requires.short)) c.word_from.ensures refl)
