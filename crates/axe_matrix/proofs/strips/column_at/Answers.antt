use Rattle.std.proofs.Common.{◌<◌, length, arith}
use Rattle.std.proofs.lemmas.List.FromFn.{fill_by_all}
use Rattle.axe_algebra.specs.Lists.{entry}
use Rattle.axe_matrix.proofs.strips.column_at.Goals as goal

pub returns : goal.returns
returns c =
    fill_by_all (λ i. entry c.args.lines.now i c.args.place) c.loop-index.column.items (length c.args.lines.now) 0 c.loop-index.invariant.fits
    (λ k below. let inside : k < c.loop-index.index = omega arith in c.loop-index.invariant.taken k inside)
