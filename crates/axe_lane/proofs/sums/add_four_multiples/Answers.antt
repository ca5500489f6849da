use Rattle.std.proofs.Common.{◌≡◌, ◌+◌, ◌-◌, ◌*◌, ◌%◌, ◌<◌, ◌≤◌, List, ℕ, length, map, slice_index, refl, ap, sym, subst, ◌∙◌, arith}
use Rattle.std.specs.Simd.Lanes.{chunk, put_chunk, zip2}
use Rattle.axe_lane.specs.Bytes.{AreDigits, sum_of_multiples, sum_with_multiple_modulo}
use Rattle.axe_lane.proofs.LazySums.{chunk-multiples, four_below, four_remainders, has_remainders, multiples_below, stays_below, sum_long, twice_below, twice_less}
use Rattle.axe_lane.proofs.Progress.{combined_to_block, last_block, All-combined_from}
use Rattle.axe_lane.proofs.sums.add_four_multiples.Goals as goal

pub add_four_to_block-requires-clause-dst_below : goal.add_four_to_block-requires-clause-dst_below
add_four_to_block-requires-clause-dst_below g c =
    let p = g.row.P in
    subst (AreDigits (16 * p)) (sym c.loop-block.invariant)
    (All-combined_from (twice_less p) (λ k. k < 16 * p) (λ k. k + 24 ≤ 24 * p) (λ y s hy hs. twice_below p y s hy hs)
    (c.loop-block.block * 32) c.args.dst.now (sum_of_multiples c.args.factors c.args.a.now c.args.b.now c.args.c.now c.args.d.now)
    c.requires.dst_below
    (multiples_below p c.requires.prime c.args.factors c.requires.factors _ _ _ _ c.requires.a_below c.requires.b_below c.requires.c_below c.requires.d_below))

pub loop-block-preserved : goal.loop-block-preserved
loop-block-preserved g c =
    let f = twice_less g.row.P in
    let n = c.loop-block.block * 32 in
    let x = c.args.dst.now in
    let before = c.loop-block.dst in
    let factors = c.args.factors in
    let sum : List ℕ = sum_of_multiples factors c.args.a.now c.args.b.now c.args.c.now c.args.d.now in
    let long = sum_long factors (length x) _ _ _ _ c.requires.a_fits c.requires.b_fits c.requires.c_fits c.requires.d_fits in
    c.add_four_to_block.ensures
    ∙ ap (λ s. put_chunk n before (zip2 f (chunk n 32 before) s)) (sym (chunk-multiples factors n 32 c.args.a.now c.args.b.now c.args.c.now c.args.d.now))
    ∙ ap (λ xs. put_chunk n xs (zip2 f (chunk n 32 xs) (chunk n 32 sum))) c.loop-block.invariant
    ∙ combined_to_block f 32 n ((c.loop-block.block + 1) * 32) x sum (omega arith) (omega arith) long

pub add_multiple_one_by_one-requires-then-dst-lt-BLOCK-clause-dst_below :
    goal.add_multiple_one_by_one-requires-then-dst-lt-BLOCK-clause-dst_below
add_multiple_one_by_one-requires-then-dst-lt-BLOCK-clause-dst_below g c =
    let p = g.row.P in
    stays_below p p _ refl c.requires.prime _ _ _ c.add_multiple_one_by_one.ensures (c.requires.factors 0 (omega arith)) c.requires.dst_below c.requires.a_below

pub add_multiple_one_by_one-requires-then-dst-lt-BLOCK-2-clause-dst_below :
    goal.add_multiple_one_by_one-requires-then-dst-lt-BLOCK-2-clause-dst_below
add_multiple_one_by_one-requires-then-dst-lt-BLOCK-2-clause-dst_below g c =
    let p = g.row.P in
    let first = stays_below p p _ refl c.requires.prime _ _ _ c.add_multiple_one_by_one.ensures (c.requires.factors 0 (omega arith)) c.requires.dst_below c.requires.a_below in
    stays_below p p _ refl c.requires.prime _ _ _ c.add_multiple_one_by_one-then-dst-lt-BLOCK.ensures (c.requires.factors 1 (omega arith)) first c.requires.b_below

pub add_multiple_one_by_one-requires-then-dst-lt-BLOCK-3-clause-dst_below :
    goal.add_multiple_one_by_one-requires-then-dst-lt-BLOCK-3-clause-dst_below
add_multiple_one_by_one-requires-then-dst-lt-BLOCK-3-clause-dst_below g c =
    let p = g.row.P in
    let first = stays_below p p _ refl c.requires.prime _ _ _ c.add_multiple_one_by_one.ensures (c.requires.factors 0 (omega arith)) c.requires.dst_below c.requires.a_below in
    let second = stays_below p p _ refl c.requires.prime _ _ _ c.add_multiple_one_by_one-then-dst-lt-BLOCK.ensures (c.requires.factors 1 (omega arith)) first c.requires.b_below in
    stays_below p p _ refl c.requires.prime _ _ _ c.add_multiple_one_by_one-then-dst-lt-BLOCK-2.ensures (c.requires.factors 2 (omega arith)) second c.requires.c_below

pub returns-then-dst-lt-BLOCK : goal.returns-then-dst-lt-BLOCK
returns-then-dst-lt-BLOCK g c =
    let p = g.row.P in
    let factors = c.args.factors in
    let with : ℕ → List ℕ → List ℕ → List ℕ = λ i a r. sum_with_multiple_modulo p r (slice_index factors i) a in
    let first = stays_below p p _ refl c.requires.prime _ _ _ c.add_multiple_one_by_one.ensures (c.requires.factors 0 (omega arith)) c.requires.dst_below c.requires.a_below in
    let second = stays_below p p _ refl c.requires.prime _ _ _ c.add_multiple_one_by_one-then-dst-lt-BLOCK.ensures (c.requires.factors 1 (omega arith)) first c.requires.b_below in
    let third = stays_below p p _ refl c.requires.prime _ _ _ c.add_multiple_one_by_one-then-dst-lt-BLOCK-2.ensures (c.requires.factors 2 (omega arith)) second c.requires.c_below in
    record {
      sum =
          has_remainders p p _ refl c.requires.prime _ _ _ c.add_multiple_one_by_one-then-dst-lt-BLOCK-3.ensures
          ∙ ap (with 3 c.args.d.now) (has_remainders p p _ refl c.requires.prime _ _ _ c.add_multiple_one_by_one-then-dst-lt-BLOCK-2.ensures
          ∙ ap (with 2 c.args.c.now) (has_remainders p p _ refl c.requires.prime _ _ _ c.add_multiple_one_by_one-then-dst-lt-BLOCK.ensures
          ∙ ap (with 1 c.args.b.now) (has_remainders p p _ refl c.requires.prime _ _ _ c.add_multiple_one_by_one.ensures)));
      below = stays_below p p _ refl c.requires.prime _ _ _ c.add_multiple_one_by_one-then-dst-lt-BLOCK-3.ensures (c.requires.factors 3 (omega arith)) third c.requires.d_below;
    }

pub returns : goal.returns
returns g c =
    let p = g.row.P in
    let m = length c.args.dst.now - 32 in
    let x = c.args.dst.now in
    let factors = c.args.factors in
    let sum : List ℕ = sum_of_multiples factors c.args.a.now c.args.b.now c.args.c.now c.args.d.now in
    let long = sum_long factors (length x) _ _ _ _ c.requires.a_fits c.requires.b_fits c.requires.c_fits c.requires.d_fits in
    let whole : put_chunk m c.loop-block.dst c.sum_with_four-last.result ≡ zip2 (twice_less p) x sum =
    ap (put_chunk m c.loop-block.dst) (c.sum_with_four-last.ensures
    ∙ ap (zip2 (twice_less p) (chunk m 32 x)) (sym (chunk-multiples factors m 32 c.args.a.now c.args.b.now c.args.c.now c.args.d.now)))
    ∙ last_block (twice_less p) 32 m (c.loop-block.block * 32) x sum c.loop-block.dst c.loop-block.invariant (omega arith) (omega arith) long in
    record {
      sum = ap (map (λ y. y % p)) whole ∙ four_remainders p c.requires.prime factors x c.args.a.now c.args.b.now c.args.c.now c.args.d.now;
      below =
          subst (AreDigits (16 * p)) (sym whole) (four_below p x sum c.requires.dst_below
          (multiples_below p c.requires.prime factors c.requires.factors _ _ _ _ c.requires.a_below c.requires.b_below c.requires.c_below c.requires.d_below));
    }
