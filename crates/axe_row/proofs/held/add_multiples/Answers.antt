use Rattle.std.proofs.Common.{◌∙◌, arith, inl}
use Rattle.std.proofs.lemmas.List.{length-set}
use Rattle.axe_row.proofs.HeldLaws.{AreAddedBetween-none, AreAddedBetween-more}
use Rattle.axe_row.proofs.held.add_multiples.Goals as goal

pub loop-at-init : goal.loop-at-init
loop-at-init g c = record {
  as_many = c.told-blocks;
  from = omega arith;
  added = AreAddedBetween-none g.row.Q c.args.scalar c.args.start c.args.blocks.now c.args.others.now;
}

pub loop-at-preserved : goal.loop-at-preserved
loop-at-preserved g c = record {
  as_many = length-set c.loop-at.blocks c.loop-at.at _ ∙ c.loop-at.invariant.as_many;
  from = omega (arith, c.loop-at.invariant.from);
  added = AreAddedBetween-more g.row.Q c.args.scalar c.args.start c.loop-at.at c.args.blocks.now c.args.others.now c.loop-at.blocks c.add_scaled_in.new.self
      c.loop-at.invariant.added c.loop-at.invariant.from (omega (arith, c.loop-at.invariant.as_many, c.loop-at-test.true)) c.add_scaled_in.ensures.sum;
}

pub returns-clause-before : goal.returns-clause-before
returns-clause-before g c = λ k before. c.loop-at.invariant.added.kept k (inl before)

pub returns-clause-added : goal.returns-clause-added
returns-clause-added g c = λ k from inside. c.loop-at.invariant.added.added k from (omega (arith, inside, c.loop-at-test.false))
