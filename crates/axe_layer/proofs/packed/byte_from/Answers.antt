use Rattle.std.proofs.Common.{◌/◌, ◌^◌, ◌∙◌}
use Rattle.axe_layer.proofs.BitLaws.{bit_at-shifted}
use Rattle.axe_layer.proofs.DigitWords.{lowest_kept}
use Rattle.axe_layer.proofs.packed.byte_from.Goals as goal

pub returns : goal.returns
returns c = λ j low. lowest_kept (c.args.word / 2 ^ c.args.from) 8 j low ∙ bit_at-shifted c.args.word c.args.from j
