use Rattle.std.proofs.Common.{◌+◌, ◌-◌, ◌*◌, List, ℕ, length, ap, sym, ◌∙◌, arith}
use Rattle.std.specs.Simd.Lanes.{chunk, put_chunk, zip2}
use Rattle.axe_lane.proofs.FiveRows.{four, four_long, chunk-four, one_by_one, wrapped, wrapped_associative}
use Rattle.axe_lane.proofs.Progress.{combined_to_block, last_block}
use Rattle.axe_lane.proofs.sums.add4_wrapping.Goals as goal

pub loop-block-preserved : goal.loop-block-preserved
loop-block-preserved c =
    let n = c.loop-block.block * 32 in
    let x = c.args.dst.now in
    let sum : List ℕ = four wrapped c.args.a.now c.args.b.now c.args.c.now c.args.d.now in
    let long = four_long wrapped (length x) _ _ _ _ c.requires.a_fits c.requires.b_fits c.requires.c_fits c.requires.d_fits in
    let piece = chunk-four wrapped (length x) _ _ _ _ c.requires.a_fits c.requires.b_fits c.requires.c_fits c.requires.d_fits n 32 in
    c.add4_block.ensures
    ∙ ap (λ (s : List ℕ). put_chunk n c.loop-block.dst (zip2 wrapped (chunk n 32 c.loop-block.dst) s)) (sym piece)
    ∙ ap (λ xs. put_chunk n xs (zip2 wrapped (chunk n 32 xs) (chunk n 32 sum))) c.loop-block.invariant
    ∙ combined_to_block wrapped 32 n ((c.loop-block.block + 1) * 32) x sum (omega arith) (omega arith) long

pub returns : goal.returns
returns c =
    let m = length c.args.dst.now - 32 in
    let x = c.args.dst.now in
    let sum : List ℕ = four wrapped c.args.a.now c.args.b.now c.args.c.now c.args.d.now in
    let long = four_long wrapped (length x) _ _ _ _ c.requires.a_fits c.requires.b_fits c.requires.c_fits c.requires.d_fits in
    let piece = chunk-four wrapped (length x) _ _ _ _ c.requires.a_fits c.requires.b_fits c.requires.c_fits c.requires.d_fits m 32 in
    ap (put_chunk m c.loop-block.dst) (c.sum4_of-last.ensures ∙ ap (zip2 wrapped (chunk m 32 x)) (sym piece))
    ∙ last_block wrapped 32 m (c.loop-block.block * 32) x sum c.loop-block.dst c.loop-block.invariant (omega arith) (omega arith) long
    ∙ one_by_one wrapped wrapped_associative x c.args.a.now c.args.b.now c.args.c.now c.args.d.now
