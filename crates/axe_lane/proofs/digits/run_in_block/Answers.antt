use Rattle.std.proofs.Common.{sym, ◌∙◌}
use Rattle.std.specs.Simd.Lanes.{chunk}
use Rattle.std.proofs.lemmas.Bool.{eq-eqb, ne_eqb, cond-true, cond-false}
use Rattle.std.proofs.lemmas.Simd.{length-chunk, chunk-fits, below_from_Fits}
use Rattle.std.proofs.Common.{w8, refl}
use Rattle.axe_lane.proofs.RunLaws.{run_of_mask}
use Rattle.axe_lane.proofs.digits.run_in_block.Goals as goal

pub returns-then-outside-eq0 : goal.returns-then-outside-eq0
returns-then-outside-eq0 c =
    let at = c.args.at in
    let bytes = c.args.bytes.now in
    sym (cond-true _ _ _ (eq-eqb _ 0 c.if-outside-eq0.true))
    ∙ run_of_mask (chunk at 16 bytes) c.args.low c.args.count _ (length-chunk at 16 bytes c.requires.room) (below_from_Fits w8 _ (chunk-fits w8 at 16 bytes c.type_inv.bytes)) c.requires.fits refl

pub returns-else-outside-eq0 : goal.returns-else-outside-eq0
returns-else-outside-eq0 c =
    let at = c.args.at in
    let bytes = c.args.bytes.now in
    sym (cond-false _ _ _ (ne_eqb _ 0 c.if-outside-eq0.false))
    ∙ run_of_mask (chunk at 16 bytes) c.args.low c.args.count _ (length-chunk at 16 bytes c.requires.room) (below_from_Fits w8 _ (chunk-fits w8 at 16 bytes c.type_inv.bytes)) c.requires.fits refl
