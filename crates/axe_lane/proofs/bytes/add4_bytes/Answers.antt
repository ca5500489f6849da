use Rattle.std.proofs.Common.{◌≡◌, ◌+◌, ◌-◌, ◌*◌, ◌<◌, List, ℕ, length, ap, sym, subst, ◌∙◌, arith}
use Rattle.std.specs.Simd.Lanes.{chunk, put_chunk, zip2}
use Rattle.axe_lane.specs.Bytes.{AreDigits}
use Rattle.axe_lane.proofs.FiveRows.{four, four_long, chunk-four, one_by_one, plus, plus_associative}
use Rattle.axe_lane.proofs.Progress.{combined_to, combined_to_block, last_block, All-combined_to, All-zip2}
use Rattle.axe_lane.proofs.ResidueLaws.{small_primes, below_mod}
use Rattle.axe_lane.proofs.bytes.add4_bytes.Goals as goal

-- what is made so far has bytes below p
so_far : (p n : ℕ) (dst x s : List ℕ) → 1 < p → dst ≡ combined_to (plus p) n x s → AreDigits p x → AreDigits p dst
so_far p n dst x s some e h =
    subst (AreDigits p) (sym e) (All-combined_to (plus p) (λ k. k < p) (λ i j. below_mod p (i + j) some) n x s h)

pub add4_block-requires-clause-dst_below : goal.add4_block-requires-clause-dst_below
add4_block-requires-clause-dst_below c =
    so_far c.args.p _ _ _ _ (small_primes c.args.p c.requires.prime).0 c.loop-block.invariant c.requires.dst_below

pub loop-block-preserved : goal.loop-block-preserved
loop-block-preserved c =
    let f = plus c.args.p in
    let n = c.loop-block.block * 32 in
    let x = c.args.dst.now in
    let sum : List ℕ = four f c.args.a.now c.args.b.now c.args.c.now c.args.d.now in
    let long = four_long f (length x) _ _ _ _ c.requires.a_fits c.requires.b_fits c.requires.c_fits c.requires.d_fits in
    let piece = chunk-four f (length x) _ _ _ _ c.requires.a_fits c.requires.b_fits c.requires.c_fits c.requires.d_fits n 32 in
    c.add4_block.ensures
    ∙ ap (λ (s : List ℕ). put_chunk n c.loop-block.dst (zip2 f (chunk n 32 c.loop-block.dst) s)) (sym piece)
    ∙ ap (λ xs. put_chunk n xs (zip2 f (chunk n 32 xs) (chunk n 32 sum))) c.loop-block.invariant
    ∙ combined_to_block f 32 n ((c.loop-block.block + 1) * 32) x sum (omega arith) (omega arith) long

pub returns-clause-sum : goal.returns-clause-sum
returns-clause-sum c =
    let f = plus c.args.p in
    let m = length c.args.dst.now - 32 in
    let x = c.args.dst.now in
    let sum : List ℕ = four f c.args.a.now c.args.b.now c.args.c.now c.args.d.now in
    let long = four_long f (length x) _ _ _ _ c.requires.a_fits c.requires.b_fits c.requires.c_fits c.requires.d_fits in
    let piece = chunk-four f (length x) _ _ _ _ c.requires.a_fits c.requires.b_fits c.requires.c_fits c.requires.d_fits m 32 in
    ap (put_chunk m c.loop-block.dst) (c.sum4_of-last.ensures ∙ ap (zip2 f (chunk m 32 x)) (sym piece))
    ∙ last_block f 32 m (c.loop-block.block * 32) x sum c.loop-block.dst c.loop-block.invariant (omega arith) (omega arith) long
    ∙ one_by_one f (plus_associative c.args.p c.requires.prime) x c.args.a.now c.args.b.now c.args.c.now c.args.d.now

pub returns-clause-below : goal.returns-clause-below
returns-clause-below c =
    let p = c.args.p in
    subst (AreDigits p) (sym (returns-clause-sum c)) (All-zip2 (plus p) (λ k. k < p) (λ i j. below_mod p (i + j) (small_primes p c.requires.prime).0) _ _)
