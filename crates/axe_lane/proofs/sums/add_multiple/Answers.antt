use Rattle.std.proofs.Common.{ℕ, ◌+◌, ◌-◌, ◌*◌, ◌<◌, length, ap, sym, subst, ◌∙◌, arith}
use Rattle.std.specs.Simd.Lanes.{chunk, put_chunk, zip2}
use Rattle.axe_lane.specs.Bytes.{AreDigits, less_where_not_below}
use Rattle.axe_lane.proofs.LazySums.{lane_below}
use Rattle.axe_lane.proofs.Progress.{combined_to_block, last_block, All-combined_from}
use Rattle.axe_lane.proofs.sums.add_multiple.Goals as goal

pub add_block-requires-clause-dst_below : goal.add_block-requires-clause-dst_below
add_block-requires-clause-dst_below g c =
    let p = g.row.P in
    let m = c.args.m in
    subst (AreDigits (16 * p)) (sym c.loop-block.invariant)
    (All-combined_from (λ d s. less_where_not_below (16 * p) (d + m * s)) (λ d. d < 16 * p) (λ s. s < p)
    (λ d s a b. lane_below p m d s c.requires.prime c.requires.factor a b)
    (c.loop-block.block * 32) c.args.dst.now c.args.src.now c.requires.dst_below c.requires.src_below)

pub loop-block-preserved : goal.loop-block-preserved
loop-block-preserved g c =
    let f : ℕ → ℕ → ℕ = λ d s. less_where_not_below (16 * g.row.P) (d + c.args.m * s) in
    let n = c.loop-block.block * 32 in
    c.add_block.ensures
    ∙ ap (λ xs. put_chunk n xs (zip2 f (chunk n 32 xs) (chunk n 32 c.args.src.now))) c.loop-block.invariant
    ∙ combined_to_block f 32 n ((c.loop-block.block + 1) * 32) c.args.dst.now c.args.src.now
    (omega arith) (omega arith) c.requires.fits

pub returns : goal.returns
returns g c =
    let f : ℕ → ℕ → ℕ = λ d s. less_where_not_below (16 * g.row.P) (d + c.args.m * s) in
    let end = length c.args.dst.now - 32 in
    ap (put_chunk end c.loop-block.dst) c.sum_of-last.ensures
    ∙ last_block f 32 end (c.loop-block.block * 32) c.args.dst.now c.args.src.now c.loop-block.dst
    c.loop-block.invariant (omega arith) (omega arith) c.requires.fits
