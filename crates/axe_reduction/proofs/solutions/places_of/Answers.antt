use Rattle.std.proofs.Common.{rules, refl}
use Rattle.axe_reduction.proofs.SolutionRows.{placed_more, placed_all}
use Rattle.axe_reduction.proofs.solutions.places_of.Goals as goal

pub loop-place-preserved : goal.loop-place-preserved
loop-place-preserved c =
    placed_more c.args.numbers.now c.loop-place.places.items c.loop-place.place _ c.loop-place-test.true refl
    (c.requires c.loop-place.place 0 c.loop-place-test.true) c.loop-place.invariant

pub returns : goal.returns
returns c = placed_all c.args.numbers.now c.loop-place.places.items c.loop-place.place c.loop-place-test.false c.loop-place.invariant

pub index_mut-requires : goal.index_mut-requires
index_mut-requires c = search rules
