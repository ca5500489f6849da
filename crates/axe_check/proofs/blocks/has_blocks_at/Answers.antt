use Rattle.std.proofs.Common.{refl, below_more, arith}
use Rattle.axe_spin.specs.Modules.{generator_of}
use Rattle.axe_check.specs.Steps.{HasBlockAt}
use Rattle.axe_check.proofs.BlockEntries.{block_told, not_both}
use Rattle.axe_check.proofs.blocks.has_blocks_at.Goals as goal

pub returns-then-not-branch : goal.returns-then-not-branch
returns-then-not-branch c =
    let told = block_told _ _ _ _ c.args.start c.in_ok-has_block_at.field-0 c.generator-matrix.ensures.value c.generator-block.ensures.value
    c.in_ok-has_block_at.ensures in (
      λ is. absurd cc,
      λ has. absurd (not_both c.in_ok-has_block_at.field-0 c.if-not-branch.true
          (told.1 (has c.loop-index.index (omega (arith, c.loop-index-test.true, c.gens-index-end.ensures.count))))),
    )

pub loop-index-preserved : goal.loop-index-preserved
loop-index-preserved c =
    let told = block_told _ _ _ _ c.args.start c.in_ok-has_block_at.field-0 c.generator-matrix.ensures.value c.generator-block.ensures.value
    c.in_ok-has_block_at.ensures in
    below_more (λ i. HasBlockAt (generator_of c.args.conjugates.now i) c.args.start (generator_of c.args.factor.now i)) c.loop-index.index
    c.loop-index.invariant (told.0 c.if-not-branch.false)

pub returns : goal.returns
returns c = (
  λ is i below. c.loop-index.invariant i (omega (arith, below, c.loop-index-test.false, c.gens-index-end.ensures.count)),
  λ has. refl,
)
