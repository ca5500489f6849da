use Rattle.std.proofs.Common.{◌/◌, ap, ◌∙◌, arith}
use Rattle.std.specs.Int.{bit_at}
use Rattle.axe_layer.proofs.TurnedBytes.{opposite}
use Rattle.axe_layer.proofs.PackedWords.{bits_of_packed_word, first_bytes_fit, packed_bit_same}
use Rattle.axe_layer.proofs.packed.word_of_packed.Goals as goal

pub returns : goal.returns
returns c = λ i low.
    let first = c.first_bytes.result in
    bits_of_packed_word first _ i c.first_bytes.ensures.long
    (λ k. first_bytes_fit c.args.bytes.now first k c.first_bytes.ensures.long (λ j. (c.type_inv.bytes j).fits) c.first_bytes.ensures.first)
    (λ j small. c.with_turned_bytes.ensures j small ∙ ap (λ w. bit_at w (opposite j)) c.from_le_bytes.ensures) low
    ∙ packed_bit_same first c.args.bytes.now i (c.first_bytes.ensures.first (i / 8) (omega arith))
