use Rattle.std.proofs.Common.{◌++◌, List, ℕ, subst, sym, arith}
use Rattle.axe_lane.specs.Trits.{AreTrits, IsTritSumOfFive}
use Rattle.axe_bits.specs.Trits.{first_half, second_half}
use Rattle.axe_bits.proofs.TritHalves.{first_joined, second_joined}
use Rattle.axe_bits.proofs.trits.add_four_to_halves.Goals as goal

pub add4_trits-requires-clause-row : goal.add4_trits-requires-clause-row
add4_trits-requires-clause-row c =
    let cut = c.split_at_mut-own_ones.ensures in
    subst (λ (v : List ℕ). AreTrits v c.split_at_mut-own_ones.result.1.now) (sym cut.front)
    (subst (AreTrits (first_half c.args.words.now)) (sym cut.back) c.requires.row)

pub add4_trits-requires-clause-a : goal.add4_trits-requires-clause-a
add4_trits-requires-clause-a c =
    record { long = omega (arith, c.requires.a.long, c.split_at_mut-own_ones.ensures.front_len); are_trits = c.requires.a.are_trits }

pub add4_trits-requires-clause-b : goal.add4_trits-requires-clause-b
add4_trits-requires-clause-b c =
    record { long = omega (arith, c.requires.b.long, c.split_at_mut-own_ones.ensures.front_len); are_trits = c.requires.b.are_trits }

pub add4_trits-requires-clause-c : goal.add4_trits-requires-clause-c
add4_trits-requires-clause-c c =
    record { long = omega (arith, c.requires.c.long, c.split_at_mut-own_ones.ensures.front_len); are_trits = c.requires.c.are_trits }

pub add4_trits-requires-clause-d : goal.add4_trits-requires-clause-d
add4_trits-requires-clause-d c =
    record { long = omega (arith, c.requires.d.long, c.split_at_mut-own_ones.ensures.front_len); are_trits = c.requires.d.are_trits }

pub returns-clause-sum : goal.returns-clause-sum
returns-clause-sum c =
    let cut = c.split_at_mut-own_ones.ensures in
    let p : List ℕ = c.add4_trits.new.ones in
    let q : List ℕ = c.add4_trits.new.twos in
    let sum = c.add4_trits.ensures in
    let long = sum.fourth.are_trits.as_long in
    let five : List ℕ → List ℕ → List ℕ → List ℕ → Type 0 = λ o t x y. IsTritSumOfFive o t c.args.a.0.now c.args.a.1.now c.args.b.0.now c.args.b.1.now
    c.args.c.0.now c.args.c.1.now c.args.d.0.now c.args.d.1.now x y in
    subst (λ (v : List ℕ). five v (second_half c.args.words.now) (first_half (p ++ q)) (second_half (p ++ q))) cut.front
    (subst (λ (v : List ℕ). five c.split_at_mut-own_ones.result.0.now v (first_half (p ++ q)) (second_half (p ++ q))) cut.back
    (subst (λ (v : List ℕ). five c.split_at_mut-own_ones.result.0.now c.split_at_mut-own_ones.result.1.now v (second_half (p ++ q)))
    (sym (first_joined p q long))
    (subst (λ (v : List ℕ). five c.split_at_mut-own_ones.result.0.now c.split_at_mut-own_ones.result.1.now p v) (sym (second_joined p q long)) sum)))
