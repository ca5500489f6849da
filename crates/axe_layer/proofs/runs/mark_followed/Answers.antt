use Rattle.std.proofs.Common.{◌<◌, ◌*◌, length, refl, arith, ◌∙◌}
use Rattle.std.proofs.lemmas.List.{length-set}
use Rattle.axe_layer.proofs.RunLaws.{tell_more, told_are_followed}
use Rattle.axe_layer.proofs.runs.mark_followed.Goals as goal

pub loop-at-preserved : goal.loop-at-preserved
loop-at-preserved c =
    let within : c.loop-at.at < length c.loop-at.words = omega (arith, c.loop-at.invariant.long, c.loop-at-test.true, c.min-count.ensures) in
    record {
      long = length-set c.loop-at.words c.loop-at.at c.followed_from.result ∙ c.loop-at.invariant.long;
      told = tell_more _ _ c.loop-at.at _ _ c.loop-at.invariant.told within c.followed_from.ensures refl;
    }

-- the words end, or the indices
pub returns-clause-followed : goal.returns-clause-followed
returns-clause-followed c =
    told_are_followed _ _ (c.loop-at.at * 64) c.loop-at.invariant.told
    (λ e inside there. omega (arith, inside, there, c.loop-at.invariant.long, c.loop-at-test.false, c.min-count.ensures, c.div_ceil.ensures))
