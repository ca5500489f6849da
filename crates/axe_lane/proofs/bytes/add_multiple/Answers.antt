use Rattle.std.proofs.Common.{ℕ, ◌+◌, ◌-◌, ◌*◌, ◌%◌, ◌<◌, length, refl, ap, sym, subst, ◌∙◌, arith}
use Rattle.std.specs.Simd.Lanes.{chunk, put_chunk, zip2}
use Rattle.std.specs.List.{All}
use Rattle.axe_lane.proofs.Progress.{combined_to_block, last_block, All-combined_to}
use Rattle.axe_lane.proofs.ResidueLaws.{small_primes, below_mod}
use Rattle.axe_lane.proofs.bytes.add_multiple.Goals as goal

pub loop-block-init : goal.loop-block-init
loop-block-init g c = refl

pub add_block-requires-clause-dst_below : goal.add_block-requires-clause-dst_below
add_block-requires-clause-dst_below g c =
    let p = g.row.P in
    let m = c.args.m in
    let few = small_primes p c.requires.prime in
    subst (All (λ x. x < p)) (sym c.loop-block.invariant)
    (All-combined_to (λ x y. (x + m * y) % p) (λ x. x < p) (λ x y. below_mod p (x + m * y) few.0)
    (c.loop-block.block * 32) c.args.dst.now c.args.src.now c.requires.dst_below)

pub loop-block-preserved : goal.loop-block-preserved
loop-block-preserved g c =
    let f : ℕ → ℕ → ℕ = λ x y. (x + c.args.m * y) % g.row.P in
    let n = c.loop-block.block * 32 in
    c.add_block.ensures
    ∙ ap (λ xs. put_chunk n xs (zip2 f (chunk n 32 xs) (chunk n 32 c.args.src.now))) c.loop-block.invariant
    ∙ combined_to_block f 32 n ((c.loop-block.block + 1) * 32) c.args.dst.now c.args.src.now
    (omega arith) (omega arith) c.requires.fits

pub returns : goal.returns
returns g c =
    let f : ℕ → ℕ → ℕ = λ x y. (x + c.args.m * y) % g.row.P in
    let end = length c.args.dst.now - 32 in
    ap (put_chunk end c.loop-block.dst) c.sum_of-last.ensures
    ∙ last_block f 32 end (c.loop-block.block * 32) c.args.dst.now c.args.src.now c.loop-block.dst
    c.loop-block.invariant (omega arith) (omega arith) c.requires.fits
