use Rattle.std.proofs.Common.{◌++◌, List, ℕ, ap, ◌∙◌, arith}
use Rattle.std.proofs.lemmas.Grind.{common_steps}
use Rattle.std.specs.List.{flat_map}
use Rattle.std.proofs.lemmas.List.{take_all}
use Rattle.axe_file.specs.Packed.{packed_row}
use Rattle.axe_file.proofs.writing.put_rows.Goals as goal

pub returns-clause-bytes : goal.returns-clause-bytes
returns-clause-bytes c =
    let m = c.args.matrix.now in
    c.loop-index.invariant.0
    ∙ ap (λ (rows : List (List ℕ)). c.args.bytes.now.items ++ flat_map (packed_row m.order m.cols) rows)
    (take_all c.loop-index.index m.rows (omega (arith, c.rows-index-end.ensures.count)))

pub loop-index-preserved : goal.loop-index-preserved
loop-index-preserved c = grind (arith, common_steps)
