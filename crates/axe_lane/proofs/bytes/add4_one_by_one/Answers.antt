use Rattle.std.proofs.Common.{◌≡◌, ◌+◌, ◌<◌, List, ℕ, length, get_or, set, ap, sym, subst, ◌∙◌, arith}
use Rattle.axe_lane.specs.Bytes.{AreDigits}
use Rattle.axe_lane.proofs.FiveRows.{four, four_long, get_or-four, one_by_one, plus, plus_associative, sum_bound, sum_of_five}
use Rattle.axe_lane.proofs.Progress.{combined_to, combined_to_more, combined_to_end, length-combined_to, All-combined_to}
use Rattle.axe_lane.proofs.ResidueLaws.{small_primes, below_mod}
use Rattle.axe_lane.proofs.bytes.add4_one_by_one.Goals as goal

-- what is made so far has bytes below p
so_far : (p n : ℕ) (dst x s : List ℕ) → 1 < p → dst ≡ combined_to (plus p) n x s → AreDigits p x → AreDigits p dst
so_far p n dst x s some e h =
    subst (AreDigits p) (sym e) (All-combined_to (plus p) (λ k. k < p) (λ i j. below_mod p (i + j) some) n x s h)

pub overflow_add-dst : goal.overflow_add-dst
overflow_add-dst c =
    let few = small_primes c.args.p c.requires.prime in
    let long : length c.loop-at.dst ≡ length c.args.dst.now = ap length c.loop-at.invariant ∙ length-combined_to (plus c.args.p) _ _ _ in
    let bound = sum_bound c.args.p c.loop-at.at (length c.args.dst.now) c.loop-at.dst c.args.a.now c.args.b.now c.args.c.now c.args.d.now (omega arith) long c.requires.a_fits c.requires.b_fits c.requires.c_fits
    c.requires.d_fits (so_far c.args.p _ _ _ _ few.0 c.loop-at.invariant c.requires.dst_below) c.requires.a_below c.requires.b_below c.requires.c_below c.requires.d_below in
    record { fits = omega (arith, few.1) }

pub overflow_add-dst-in-loop-at : goal.overflow_add-dst-in-loop-at
overflow_add-dst-in-loop-at c =
    let few = small_primes c.args.p c.requires.prime in
    let long : length c.loop-at.dst ≡ length c.args.dst.now = ap length c.loop-at.invariant ∙ length-combined_to (plus c.args.p) _ _ _ in
    let bound = sum_bound c.args.p c.loop-at.at (length c.args.dst.now) c.loop-at.dst c.args.a.now c.args.b.now c.args.c.now c.args.d.now (omega arith) long c.requires.a_fits c.requires.b_fits c.requires.c_fits
    c.requires.d_fits (so_far c.args.p _ _ _ _ few.0 c.loop-at.invariant c.requires.dst_below) c.requires.a_below c.requires.b_below c.requires.c_below c.requires.d_below in
    record { fits = omega (arith, few.1) }

pub overflow_add-dst-in-loop-at-2 : goal.overflow_add-dst-in-loop-at-2
overflow_add-dst-in-loop-at-2 c =
    let few = small_primes c.args.p c.requires.prime in
    let long : length c.loop-at.dst ≡ length c.args.dst.now = ap length c.loop-at.invariant ∙ length-combined_to (plus c.args.p) _ _ _ in
    let bound = sum_bound c.args.p c.loop-at.at (length c.args.dst.now) c.loop-at.dst c.args.a.now c.args.b.now c.args.c.now c.args.d.now (omega arith) long c.requires.a_fits c.requires.b_fits c.requires.c_fits
    c.requires.d_fits (so_far c.args.p _ _ _ _ few.0 c.loop-at.invariant c.requires.dst_below) c.requires.a_below c.requires.b_below c.requires.c_below c.requires.d_below in
    record { fits = omega (arith, few.1) }

pub overflow_add-dst-in-loop-at-3 : goal.overflow_add-dst-in-loop-at-3
overflow_add-dst-in-loop-at-3 c =
    let few = small_primes c.args.p c.requires.prime in
    let long : length c.loop-at.dst ≡ length c.args.dst.now = ap length c.loop-at.invariant ∙ length-combined_to (plus c.args.p) _ _ _ in
    let bound = sum_bound c.args.p c.loop-at.at (length c.args.dst.now) c.loop-at.dst c.args.a.now c.args.b.now c.args.c.now c.args.d.now (omega arith) long c.requires.a_fits c.requires.b_fits c.requires.c_fits
    c.requires.d_fits (so_far c.args.p _ _ _ _ few.0 c.loop-at.invariant c.requires.dst_below) c.requires.a_below c.requires.b_below c.requires.c_below c.requires.d_below in
    record { fits = omega (arith, few.1) }

pub reduced_byte-requires-clause-below : goal.reduced_byte-requires-clause-below
reduced_byte-requires-clause-below c =
    let few = small_primes c.args.p c.requires.prime in
    let long : length c.loop-at.dst ≡ length c.args.dst.now = ap length c.loop-at.invariant ∙ length-combined_to (plus c.args.p) _ _ _ in
    let bound = sum_bound c.args.p c.loop-at.at (length c.args.dst.now) c.loop-at.dst c.args.a.now c.args.b.now c.args.c.now c.args.d.now (omega arith) long c.requires.a_fits c.requires.b_fits c.requires.c_fits
    c.requires.d_fits (so_far c.args.p _ _ _ _ few.0 c.loop-at.invariant c.requires.dst_below) c.requires.a_below c.requires.b_below c.requires.c_below c.requires.d_below in
    omega (arith, few.1)

pub loop-at-preserved : goal.loop-at-preserved
loop-at-preserved c =
    let f = plus c.args.p in
    let n = c.loop-at.at in
    let x = c.args.dst.now in
    let sum : List ℕ = four f c.args.a.now c.args.b.now c.args.c.now c.args.d.now in
    let long = four_long f (length x) _ _ _ _ c.requires.a_fits c.requires.b_fits c.requires.c_fits c.requires.d_fits in
    let entry = get_or-four f (length x) _ _ _ _ c.requires.a_fits c.requires.b_fits c.requires.c_fits c.requires.d_fits n (omega arith) in
    ap (set c.loop-at.dst n) (c.reduced_byte.ensures ∙ sum_of_five c.args.p c.requires.prime _ _ _ _ _ ∙ ap (f (get_or c.loop-at.dst n 0)) (sym entry))
    ∙ ap (λ xs. set xs n (f (get_or xs n 0) (get_or sum n 0))) c.loop-at.invariant
    ∙ combined_to_more f n x sum (omega arith) long

pub returns-clause-sum : goal.returns-clause-sum
returns-clause-sum c =
    let f = plus c.args.p in
    let x = c.args.dst.now in
    let long = four_long f (length x) _ _ _ _ c.requires.a_fits c.requires.b_fits c.requires.c_fits c.requires.d_fits in
    c.loop-at.invariant
    ∙ combined_to_end f c.loop-at.at x (four f c.args.a.now c.args.b.now c.args.c.now c.args.d.now) (omega arith) long
    ∙ one_by_one f (plus_associative c.args.p c.requires.prime) x c.args.a.now c.args.b.now c.args.c.now c.args.d.now

pub returns-clause-below : goal.returns-clause-below
returns-clause-below c =
    so_far c.args.p _ _ _ _ (small_primes c.args.p c.requires.prime).0 c.loop-at.invariant c.requires.dst_below
