use Rattle.std.proofs.Common.{◌+◌, ◌-◌, ◌*◌, ◌<◌, List, ℕ, length, refl, ap, sym, subst, ◌∙◌, arith}
use Rattle.std.specs.Simd.Lanes.{chunk, put_chunk, zip2}
use Rattle.axe_lane.specs.Bytes.{AreDigits}
use Rattle.axe_lane.proofs.ByteLaws.{sum_is_below}
use Rattle.axe_lane.proofs.FiveRows.{plus}
use Rattle.axe_lane.proofs.FourMultiples.{added_up, block_sum, multiples, multiples_long}
use Rattle.axe_lane.proofs.Progress.{combined_to_block, last_block, All-combined_to}
use Rattle.axe_lane.proofs.ResidueLaws.{small_primes, below_mod}
use Rattle.axe_lane.proofs.bytes.add_four_multiples.Goals as goal

pub add_multiple_one_by_one-requires-then-dst-lt-BLOCK-clause-dst_below :
    goal.add_multiple_one_by_one-requires-then-dst-lt-BLOCK-clause-dst_below
add_multiple_one_by_one-requires-then-dst-lt-BLOCK-clause-dst_below g c =
    sum_is_below g.row.P g.row.P _ (small_primes g.row.P c.requires.prime).0 refl _ _ _ c.add_multiple_one_by_one.ensures

pub add_multiple_one_by_one-requires-then-dst-lt-BLOCK-2-clause-dst_below :
    goal.add_multiple_one_by_one-requires-then-dst-lt-BLOCK-2-clause-dst_below
add_multiple_one_by_one-requires-then-dst-lt-BLOCK-2-clause-dst_below g c =
    sum_is_below g.row.P g.row.P _ (small_primes g.row.P c.requires.prime).0 refl _ _ _ c.add_multiple_one_by_one-then-dst-lt-BLOCK.ensures

pub add_multiple_one_by_one-requires-then-dst-lt-BLOCK-3-clause-dst_below :
    goal.add_multiple_one_by_one-requires-then-dst-lt-BLOCK-3-clause-dst_below
add_multiple_one_by_one-requires-then-dst-lt-BLOCK-3-clause-dst_below g c =
    sum_is_below g.row.P g.row.P _ (small_primes g.row.P c.requires.prime).0 refl _ _ _ c.add_multiple_one_by_one-then-dst-lt-BLOCK-2.ensures

pub add_four_to_block-requires-clause-dst_below : goal.add_four_to_block-requires-clause-dst_below
add_four_to_block-requires-clause-dst_below g c =
    let p = g.row.P in
    let few = small_primes p c.requires.prime in
    subst (AreDigits p) (sym c.loop-block.invariant)
    (All-combined_to (plus p) (λ k. k < p) (λ i j. below_mod p (i + j) few.0) _ _ _ c.requires.dst_below)

pub loop-block-preserved : goal.loop-block-preserved
loop-block-preserved g c =
    let p = g.row.P in
    let f = plus p in
    let n = c.loop-block.block * 32 in
    let x = c.args.dst.now in
    let before = c.loop-block.dst in
    let sum : List ℕ = multiples p c.args.factors c.args.a.now c.args.b.now c.args.c.now c.args.d.now in
    let long = multiples_long p c.args.factors (length x) _ _ _ _ c.requires.a_fits c.requires.b_fits c.requires.c_fits c.requires.d_fits in
    c.add_four_to_block.ensures
    ∙ ap (put_chunk n before) (block_sum p c.args.factors (length x) _ _ _ _ c.requires.a_fits c.requires.b_fits c.requires.c_fits
    c.requires.d_fits c.requires.prime n 32 (chunk n 32 before))
    ∙ ap (λ xs. put_chunk n xs (zip2 f (chunk n 32 xs) (chunk n 32 sum))) c.loop-block.invariant
    ∙ combined_to_block f 32 n ((c.loop-block.block + 1) * 32) x sum (omega arith) (omega arith) long

pub returns : goal.returns
returns g c =
    let p = g.row.P in
    let f = plus p in
    let m = length c.args.dst.now - 32 in
    let x = c.args.dst.now in
    let sum : List ℕ = multiples p c.args.factors c.args.a.now c.args.b.now c.args.c.now c.args.d.now in
    let long = multiples_long p c.args.factors (length x) _ _ _ _ c.requires.a_fits c.requires.b_fits c.requires.c_fits c.requires.d_fits in
    ap (put_chunk m c.loop-block.dst) (c.sum_with_four-last.ensures
    ∙ block_sum p c.args.factors (length x) _ _ _ _ c.requires.a_fits c.requires.b_fits c.requires.c_fits c.requires.d_fits
    c.requires.prime m 32 (chunk m 32 x))
    ∙ last_block f 32 m (c.loop-block.block * 32) x sum c.loop-block.dst c.loop-block.invariant (omega arith) (omega arith) long
    ∙ added_up p c.args.factors c.requires.prime x c.args.a.now c.args.b.now c.args.c.now c.args.d.now
