use Rattle.std.proofs.Common.{◌<◌, ◌+◌, ◌*◌, ℕ, List, get_or, ap, ap₂, sym, ◌∙◌, arith}
use Rattle.std.specs.Int.{bit_at}
use Rattle.axe_bits.proofs.TritWordWrites.{digit_of_layers}
use Rattle.axe_plane.specs.Planes.{digits_of}
use Rattle.axe_plane.specs.declared.Plane.{Plane}
use Rattle.axe_row.proofs.HeldLaws.{only_trits, HaveLayersBelow-more}
use Rattle.axe_row.proofs.held.words_of_layers.Goals as goal
use Rattle.axe_row.proofs.held.words_of_layers.Goals.{in-Trits+else-loop-at-test, in_default}

pub loop-at-preserved : goal.loop-at-preserved
loop-at-preserved g c =
    HaveLayersBelow-more g.row.W c.loop-at.at c.layers.result.0.now c.layers.result.1.now c.loop-at.ones c.loop-at.twos c.loop-at.invariant c.loop-at-test.true

pub returns : goal.returns
returns g c = λ k i inside low. elim c.match-plane.branch [
  | in-Trits+else-loop-at-test w ↦
      let below : k < w.loop-at.at = omega (arith, inside, w.loop-at-test.false) in
      let digits = digit_of_layers _ _ _ _ k (get_or w.loop-at.ones k 0) (get_or w.loop-at.twos k 0) i w.layers.ensures.holds w.layers.ensures.digits
      (w.loop-at.invariant.same_ones k below) (w.loop-at.invariant.same_twos k below) low in
      ap₂ (λ (u v : List ℕ). bit_at (get_or u k 0) i + 2 * bit_at (get_or v k 0) i) w.ones-is w.twos-is ∙ digits
      ∙ ap (λ (p : Plane). get_or (digits_of p) (k * 64 + i) 0) (sym w.in-Trits.is)
  | in_default w ↦ absurd (only_trits c.args.plane.now c.requires.prime w.in_default.not-Trits)
]
