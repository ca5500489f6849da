use Rattle.std.proofs.Common.{◌++◌, ◌≤◌, List, ℕ, length, subst, sym, arith}
use Rattle.axe_lane.specs.Trits.{AreTrits, IsTritSum}
use Rattle.axe_bits.specs.Trits.{first_half, second_half}
use Rattle.axe_bits.proofs.TritEnds.{anew, AreTrits-part, IsTritSum-anew}
use Rattle.axe_bits.proofs.TritHalves.{first_joined, second_joined}
use Rattle.axe_bits.proofs.trits.add_to_halves.Goals.{After-split_at_mut-own_ones}
use Rattle.axe_bits.proofs.trits.add_to_halves.Goals as goal

-- the halves of the list
row : (c : After-split_at_mut-own_ones) → AreTrits c.split_at_mut-own_ones.result.0.now c.split_at_mut-own_ones.result.1.now
row c =
    let cut = c.split_at_mut-own_ones.ensures in
    subst (λ (v : List ℕ). AreTrits v c.split_at_mut-own_ones.result.1.now) (sym cut.front)
    (subst (AreTrits (first_half c.args.words.now)) (sym cut.back) c.requires.row)

pub add_trits-requires-clause-row : goal.add_trits-requires-clause-row
add_trits-requires-clause-row c = AreTrits-part c.args.first _ _ (row (goal.at.add_trits-requires-clause-row c).After-split_at_mut-own_ones)

pub add_trits-requires-clause-more : goal.add_trits-requires-clause-more
add_trits-requires-clause-more c = AreTrits-part c.args.first _ _ c.requires.more

pub returns-clause-sum : goal.returns-clause-sum
returns-clause-sum c =
    let cut = c.split_at_mut-own_ones.ensures in
    let o : List ℕ = c.split_at_mut-own_ones.result.0.now in
    let t : List ℕ = c.split_at_mut-own_ones.result.1.now in
    let a = c.args.ones.now in
    let b = c.args.twos.now in
    let halves = row (goal.at.returns-clause-sum c).After-split_at_mut-own_ones in
    let room : c.args.first ≤ length o = omega (arith, c.requires.within, c.requires.fits, cut.front_len) in
    let p : List ℕ = anew c.args.first o c.add_trits.new.ones in
    let q : List ℕ = anew c.args.first t c.add_trits.new.twos in
    let sum : IsTritSum o t a b p q =
    IsTritSum-anew c.args.first o t a b c.add_trits.new.ones c.add_trits.new.twos room halves c.requires.zero_ones c.requires.zero_twos c.add_trits.ensures in
    subst (λ (v : List ℕ). IsTritSum v (second_half c.args.words.now) a b (first_half (p ++ q)) (second_half (p ++ q))) cut.front
    (subst (λ (v : List ℕ). IsTritSum o v a b (first_half (p ++ q)) (second_half (p ++ q))) cut.back
    (subst (λ (v : List ℕ). IsTritSum o t a b v (second_half (p ++ q)))
    (sym (first_joined p q sum.are_trits.as_long))
    (subst (IsTritSum o t a b p)
    (sym (second_joined p q sum.are_trits.as_long)) sum)))
