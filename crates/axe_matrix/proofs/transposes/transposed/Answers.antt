use Rattle.std.proofs.Common.{not, sym, ap, ◌∙◌}
use Rattle.std.specs.Int.{bit_at}
use Rattle.std.proofs.lemmas.Nat.Bits.{bit_at-zero}
use Rattle.axe_layer.proofs.BitLaws.{get_or-zeros}
use Rattle.axe_layer.proofs.ZeroDigits.{zero_words}
use Rattle.axe_matrix.proofs.transposes.transposed.Goals as goal

pub returns-else-any_nonzero : goal.returns-else-any_nonzero
returns-else-any_nonzero c = λ i j low small.
    ap (λ w. bit_at w j) (get_or-zeros 64 i) ∙ bit_at-zero j
    ∙ sym (ap (λ w. bit_at w i) ((zero_words _ _ c.any_nonzero.ensures).0 (ap not c.if-any_nonzero.false) j) ∙ bit_at-zero i)
