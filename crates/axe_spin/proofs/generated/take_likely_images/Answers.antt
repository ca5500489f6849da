use Rattle.std.proofs.Common.{◌<◌, ℕ, List, Option, length, ap, subst, sym, arith}
use Rattle.std.proofs.lemmas.List.{length_push}
use Rattle.axe_spin.specs.Postponed.{AreTakenBut}
use Rattle.axe_spin.proofs.SpaceLaws.{enlarged_by_nothing, enlarged_on}
use Rattle.axe_spin.proofs.PostponedLaws.{taken_more}
use Rattle.axe_spin.proofs.generated.take_likely_images.Goals as goal

pub loop-source-init : goal.loop-source-init
loop-source-init c = record {
  enlarged = enlarged_by_nothing c.args.module.now c.args.space.now c.requires;
  count = ap length c.new-postponed.ensures.items;
  within = omega arith;
  taken = λ r below. absurd (omega (arith, below, ap length c.new-postponed.ensures.items));
}

pub insert_likely_images-requires-clause-subspace : goal.insert_likely_images-requires-clause-subspace
insert_likely_images-requires-clause-subspace c = c.loop-source.invariant.enlarged.subspace

pub insert_likely_images-requires-clause-within : goal.insert_likely_images-requires-clause-within
insert_likely_images-requires-clause-within c =
    omega (arith, c.loop-source.invariant.within, c.if-source-dim.false, c.dim-in-loop-source.ensures.count)

pub loop-source-preserved : goal.loop-source-preserved
loop-source-preserved c =
    let m = c.args.module.now in
    let enlarged = c.loop-source.invariant.enlarged in
    let more = c.in_ok-insert_likely_images.ensures.enlarged in
    let within : c.loop-source.source < length c.loop-source.space.rows =
    omega (arith, c.loop-source.invariant.within, c.if-source-dim.false, c.dim-in-loop-source.ensures.count) in
    record {
      enlarged = enlarged_on m c.gens.ensures.well_formed c.args.space.now c.loop-source.space c.insert_likely_images.new.space enlarged more;
      count = omega (
        arith,
        ap length c.in_ok-push.ensures.items,
        length_push c.loop-source.postponed.items c.unlikely-unlikely.result,
        c.loop-source.invariant.count,
      );
      within = omega (arith, within, more.grown);
      taken = subst (λ (list : List (Option ℕ)). AreTakenBut m c.insert_likely_images.new.space.rows list) (sym c.in_ok-push.ensures.items)
          (taken_more m c.gens.ensures.well_formed c.loop-source.space c.insert_likely_images.new.space c.loop-source.postponed.items
          c.unlikely-unlikely.result c.loop-source.source c.loop-source.invariant.count more within c.loop-source.invariant.taken
          c.in_ok-insert_likely_images.ensures.images);
    }
