use Rattle.axe_layer.proofs.LowestBits.{bit_at-without_lowest}
use Rattle.axe_layer.proofs.supports.without_lowest.Goals as goal

-- src/supports.rt:63:1
pub returns : goal.returns
returns c = λ i. bit_at-without_lowest c.args.word i c.ranges.word.fits
