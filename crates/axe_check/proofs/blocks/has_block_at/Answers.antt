use Rattle.std.proofs.Common.{sym, ◌∙◌}
use Rattle.axe_check.proofs.BlockEntries.{same_of_entries, block_if_zeros, not_both}
use Rattle.axe_check.proofs.blocks.has_block_at.Goals as goal

pub returns-then-not-same : goal.returns-then-not-same
returns-then-not-same c = (
  λ is. absurd cc,
  λ has. absurd (not_both c.same.result c.if-not-same.true
      (c.same.ensures.1 (c.in_ok-diagonal.ensures.block
      ∙ same_of_entries c.args.matrix.now c.args.block.now c.args.start c.rows-size.result c.rows-size.ensures.count c.requires.field c.requires.square
      c.cols.ensures.well_formed has.entries))),
)

pub returns : goal.returns
returns c =
    block_if_zeros c.args.matrix.now c.args.block.now c.args.start c.rows-size.result c.has_zeros_at.result c.rows-size.ensures.count
    (sym c.in_ok-diagonal.ensures.block ∙ c.same.ensures.0 c.if-not-same.false) c.has_zeros_at.ensures
