use Rattle.std.proofs.Common.{◌≡◌, ℕ, ◌+◌, ◌-◌, sym, ap, ◌∙◌, arith}
use Rattle.axe_matrix.specs.Matrices.{MatrixValue, has_only_zeros}
use Rattle.axe_check.proofs.BlockEntries.{zeros_of_block, block_of_zeros}
use Rattle.axe_check.proofs.blocks.has_zeros_at.Goals as goal

pub returns : goal.returns
returns c =
    let width : ℕ = c.cols-cols.result - (c.args.start + c.args.size) in
    let fits : c.args.start + c.args.size + width ≡ c.args.matrix.now.cols = omega (arith, c.cols-cols.ensures.count, c.requires.columns) in
    let told = c.has_only_zeros.ensures ∙ ap (λ (m : MatrixValue). has_only_zeros m.rows) c.in_ok-right.ensures.block in (
      λ is. zeros_of_block c.args.matrix.now c.args.start c.args.size width fits (sym told ∙ is),
      λ zeros. told ∙ block_of_zeros c.args.matrix.now c.args.start c.args.size width fits zeros,
    )
