use Rattle.axe_spin.proofs.ImageLaws.{AreProducts, whole_rows}
use Rattle.axe_spin.proofs.spinning.images_of_block.Given as goal

abbrev pub invariant-loop-number : goal.invariant-loop-number
invariant-loop-number l = AreProducts l.module (whole_rows l.rows l.source l.count) l.images.items l.number
