use Rattle.std.proofs.Common.{◌/◌, ◌%◌, get_or, sym, ◌∙◌}
use Rattle.std.proofs.lemmas.Nat.Bits.{shr_and_one}
use Rattle.axe_layer.proofs.BitLaws.{bit_of-word}
use Rattle.axe_layer.proofs.layer.bit_in.Goals as goal

pub returns-clause-bit : goal.returns-clause-bit
returns-clause-bit c =
    shr_and_one (get_or c.args.words.now (c.args.index / 64) 0) (c.args.index % 64)
    ∙ sym (bit_of-word c.args.words.now c.args.index)
