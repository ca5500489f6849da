use Rattle.std.proofs.Common.{◌≢◌, ◌<◌, ◌+◌, ◌*◌, get_or, ap, sym, refl, ◌∙◌, arith, below_more, get_or-set_other, get_or-set_same}
use Rattle.std.specs.Int.{bit_at}
use Rattle.std.proofs.lemmas.List.{length-set}
use Rattle.axe_plane.specs.Planes.{digits_of}
use Rattle.axe_plane.specs.declared.Plane.{Plane}
use Rattle.axe_row.proofs.HeldLaws.{bits_in_word}
use Rattle.axe_row.proofs.held.words_of_bits.Goals as goal

pub loop-at-preserved : goal.loop-at-preserved
loop-at-preserved g c = (
  length-set c.loop-at.words c.loop-at.at _ ∙ c.loop-at.invariant.0,
  below_more _ _
      (λ k lower. let other : k ≢ c.loop-at.at = omega arith in get_or-set_other c.loop-at.words c.loop-at.at k _ _ other ∙ c.loop-at.invariant.1 k lower)
      (get_or-set_same c.loop-at.words c.loop-at.at _ _ (omega (arith, c.loop-at.invariant.0, c.loop-at-test.true))),
)

pub returns-after-loop-at : goal.returns-after-loop-at
returns-after-loop-at g c k i inside low =
    let below : k < c.loop-at.at = omega (arith, inside, c.loop-at-test.false) in
    ap (λ w. bit_at w i) (c.loop-at.invariant.1 k below)
    ∙ bits_in_word _ c.words-from.result.now _ refl c.words-from.ensures.holds c.words-from.ensures.digits k i low
    ∙ ap (λ (p : Plane). get_or (digits_of p) (k * 64 + i) 0) (sym c.in-Bits.is)
