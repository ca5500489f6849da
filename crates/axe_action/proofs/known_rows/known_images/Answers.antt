use Rattle.std.proofs.Common.{◌∙◌, ap}
use Rattle.std.proofs.lemmas.List.{get_or_default}
use Rattle.axe_spin.specs.declared.spinning.Origin.{Origin}
use Rattle.axe_action.proofs.KnownRowLaws.{known_none, known_more}
use Rattle.axe_action.proofs.known_rows.known_images.Goals.{then-origin-generator, else-origin-generator}
use Rattle.axe_action.proofs.known_rows.known_images.Goals as goal

pub loop-number-init : goal.loop-number-init
loop-number-init c = known_none _ _ _ _ c.in_ok-images.ensures.0 c.in_ok-images.ensures.1

pub loop-number-preserved : goal.loop-number-preserved
loop-number-preserved c =
    let none : Origin = record { source = 0; generator = 0 } in
    elim c.if-origin-generator.branch [
      | then-origin-generator w ↦
          rw w.images-is (known_more c.args.origins.now c.args.generator c.args.count c.loop-number.images.items c.loop-number.number _ c.loop-number.invariant
          c.loop-number-test.true (c.requires c.loop-number.number none c.loop-number-test.true)
          (λ other. ap (λ (o : Origin). o.source) (get_or_default c.args.origins.now c.loop-number.number other none c.loop-number-test.true))
          (λ other. ap (λ (o : Origin). o.generator) (get_or_default c.args.origins.now c.loop-number.number other none c.loop-number-test.true)
          ∙ w.if-origin-generator.true))
      | else-origin-generator w ↦ rw w.images-is c.loop-number.invariant
    ]
