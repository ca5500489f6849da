use Rattle.std.proofs.Common.{ℕ, ◌*◌, List, get_or, ap}
use Rattle.axe_layer.proofs.BaseThree.{piece_in_base_three}
use Rattle.axe_layer.proofs.PieceDigits.{same_four}
use Rattle.axe_layer.proofs.layer.numbers_in_base_three.Goals as goal

pub returns-clause-value : goal.returns-clause-value
returns-clause-value c =
    let word = c.args.word in
    let size = c.args.size in
    let pieces = c.numbers_of_pieces-pieces.ensures.value in
    same_four _ _ _ _ _ _ _ _
    (piece_in_base_three word 0 size _ _ c.requires (ap (λ (l : List ℕ). get_or l 0 0) pieces) c.in_base_three.ensures.value)
    (piece_in_base_three word size size _ _ c.requires (ap (λ (l : List ℕ). get_or l 1 0) pieces) c.in_base_three-2.ensures.value)
    (piece_in_base_three word (2 * size) size _ _ c.requires (ap (λ (l : List ℕ). get_or l 2 0) pieces) c.in_base_three-3.ensures.value)
    (piece_in_base_three word (3 * size) size _ _ c.requires (ap (λ (l : List ℕ). get_or l 3 0) pieces) c.in_base_three-4.ensures.value)
