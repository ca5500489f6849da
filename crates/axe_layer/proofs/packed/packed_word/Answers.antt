use Rattle.std.proofs.Common.{ap, ◌∙◌, List, ℕ}
use Rattle.axe_layer.specs.Packed.{packed_bit}
use Rattle.axe_layer.proofs.PackedWords.{packed_bits_of_word}
use Rattle.axe_layer.proofs.packed.packed_word.Goals as goal

pub returns : goal.returns
returns c = λ i low.
    ap (λ (x : List ℕ). packed_bit x i) c.to_le_bytes.ensures
    ∙ packed_bits_of_word c.args.word c.with_turned_bytes.result i c.with_turned_bytes.ensures low
