use Rattle.std.proofs.Common.{rules, ◌≤◌, ◌/◌, length, sym, ◌∙◌, arith, lit<}
use Rattle.axe_lane.specs.Multiples.{to_constant_of_two, to_linear_of_two}
use Rattle.axe_layer.proofs.BitLaws.{plane_long}
use Rattle.axe_bits.proofs.EndSums.{with_length, word_inside, ends_long}
use Rattle.axe_bits.proofs.MaskedBits.{mask_stands, after-two}
use Rattle.axe_bits.proofs.bits.BitPlane.add_multiple_of_two.Goals as goal

pub slice_bounds-xor_multiple_over_four-count : goal.slice_bounds-xor_multiple_over_four-count
slice_bounds-xor_multiple_over_four-count c =
    let long = plane_long _ _ _ c.first.view_is in
    word_inside _ c.args.start _ _ _ (with_length _ _ _ _ c.first.invariant c.first.view_is long) c.deref_mut.ensures.value
    (omega (arith, c.requires.within, long))

pub slice_bounds-xor_multiple_over_four-start : goal.slice_bounds-xor_multiple_over_four-start
slice_bounds-xor_multiple_over_four-start c =
    let inside : c.args.start / 64 ≤ length c.deref_mut.result.now = slice_bounds-xor_multiple_over_four-count c in search rules

pub slice_bounds-xor_multiple_over_four-count-2 : goal.slice_bounds-xor_multiple_over_four-count-2
slice_bounds-xor_multiple_over_four-count-2 c =
    let long = plane_long _ _ _ c.first.view_is in
    word_inside _ c.args.start _ _ _ (with_length _ _ _ _ c.second.invariant c.second.view_is (c.requires.second_fits ∙ long)) c.deref_mut-2.ensures.value
    (omega (arith, c.requires.within, long))

pub slice_bounds-xor_multiple_over_four-start-2 : goal.slice_bounds-xor_multiple_over_four-start-2
slice_bounds-xor_multiple_over_four-start-2 c =
    let inside : c.args.start / 64 ≤ length c.deref_mut-2.result.now = slice_bounds-xor_multiple_over_four-count-2 c in search rules

pub slice_bounds-xor_multiple_over_four-count-3 : goal.slice_bounds-xor_multiple_over_four-count-3
slice_bounds-xor_multiple_over_four-count-3 c =
    let long = plane_long _ _ _ c.first.view_is in
    word_inside _ c.args.start _ _ _ (with_length _ _ _ _ c.a.invariant c.a.view_is (c.requires.a_fits ∙ long)) c.deref.ensures.value
    (omega (arith, c.requires.within, long))

pub slice_bounds-xor_multiple_over_four-start-3 : goal.slice_bounds-xor_multiple_over_four-start-3
slice_bounds-xor_multiple_over_four-start-3 c =
    let inside : c.args.start / 64 ≤ length c.deref.result.now = slice_bounds-xor_multiple_over_four-count-3 c in search rules

pub slice_bounds-xor_multiple_over_four-count-4 : goal.slice_bounds-xor_multiple_over_four-count-4
slice_bounds-xor_multiple_over_four-count-4 c =
    let long = plane_long _ _ _ c.first.view_is in
    word_inside _ c.args.start _ _ _ (with_length _ _ _ _ c.b.invariant c.b.view_is (c.requires.b_fits ∙ long)) c.deref-2.ensures.value
    (omega (arith, c.requires.within, long))

pub slice_bounds-xor_multiple_over_four-start-4 : goal.slice_bounds-xor_multiple_over_four-start-4
slice_bounds-xor_multiple_over_four-start-4 c =
    let inside : c.args.start / 64 ≤ length c.deref-2.result.now = slice_bounds-xor_multiple_over_four-count-4 c in search rules

pub xor_multiple_over_four-requires-clause-second_fits : goal.xor_multiple_over_four-requires-clause-second_fits
xor_multiple_over_four-requires-clause-second_fits c =
    let long = plane_long _ _ _ c.first.view_is in
    ends_long _ _ _ _ _ _ _ _ (with_length _ _ _ _ c.first.invariant c.first.view_is long)
    (with_length _ _ _ _ c.second.invariant c.second.view_is (c.requires.second_fits ∙ long))
    c.deref_mut.ensures.value c.deref_mut-2.ensures.value

pub xor_multiple_over_four-requires-clause-a_fits : goal.xor_multiple_over_four-requires-clause-a_fits
xor_multiple_over_four-requires-clause-a_fits c =
    let long = plane_long _ _ _ c.first.view_is in
    ends_long _ _ _ _ _ _ _ _ (with_length _ _ _ _ c.first.invariant c.first.view_is long)
    (with_length _ _ _ _ c.a.invariant c.a.view_is (c.requires.a_fits ∙ long))
    c.deref_mut.ensures.value c.deref.ensures.value

pub xor_multiple_over_four-requires-clause-b_fits : goal.xor_multiple_over_four-requires-clause-b_fits
xor_multiple_over_four-requires-clause-b_fits c =
    let long = plane_long _ _ _ c.first.view_is in
    ends_long _ _ _ _ _ _ _ _ (with_length _ _ _ _ c.first.invariant c.first.view_is long)
    (with_length _ _ _ _ c.b.invariant c.b.view_is (c.requires.b_fits ∙ long))
    c.deref_mut.ensures.value c.deref-2.ensures.value

pub invariant_of-first : goal.invariant_of-first
invariant_of-first c =
    let long = plane_long _ _ _ c.first.view_is in
    let made =
    after-two _ _ c.args.start (to_constant_of_two c.args.p c.args.q) _ _ _ _ _ _ _ _ _ _ _
    (with_length _ _ _ _ c.first.invariant c.first.view_is long)
    (with_length _ _ _ _ c.a.invariant c.a.view_is (c.requires.a_fits ∙ long))
    (with_length _ _ _ _ c.b.invariant c.b.view_is (c.requires.b_fits ∙ long))
    (mask_stands (to_constant_of_two c.args.p c.args.q) 0 (lit< tt) c.requires.p)
    (mask_stands (to_constant_of_two c.args.p c.args.q) 1 (lit< tt) c.requires.q)
    (omega (arith, c.requires.within, long)) c.requires.a_zeros c.requires.b_zeros c.first.inside.words.ok.0
    c.deref_mut.ensures.value c.deref.ensures.value c.deref-2.ensures.value
    c.xor_multiple_over_four.ensures.constant in
    made.held

pub returns-clause-first : goal.returns-clause-first
returns-clause-first c =
    let long = plane_long _ _ _ c.first.view_is in
    let made =
    after-two _ _ c.args.start (to_constant_of_two c.args.p c.args.q) _ _ _ _ _ _ _ _ _ _ _
    (with_length _ _ _ _ c.first.invariant c.first.view_is long)
    (with_length _ _ _ _ c.a.invariant c.a.view_is (c.requires.a_fits ∙ long))
    (with_length _ _ _ _ c.b.invariant c.b.view_is (c.requires.b_fits ∙ long))
    (mask_stands (to_constant_of_two c.args.p c.args.q) 0 (lit< tt) c.requires.p)
    (mask_stands (to_constant_of_two c.args.p c.args.q) 1 (lit< tt) c.requires.q)
    (omega (arith, c.requires.within, long)) c.requires.a_zeros c.requires.b_zeros c.first.inside.words.ok.0
    c.deref_mut.ensures.value c.deref.ensures.value c.deref-2.ensures.value
    c.xor_multiple_over_four.ensures.constant in
    made.are

pub invariant_of-second : goal.invariant_of-second
invariant_of-second c =
    let long = sym c.requires.second_fits ∙ plane_long _ _ _ c.second.view_is in
    let made =
    after-two _ _ c.args.start (to_linear_of_two 2 c.args.p c.args.q) _ _ _ _ _ _ _ _ _ _ _
    (with_length _ _ _ _ c.second.invariant c.second.view_is (c.requires.second_fits ∙ long))
    (with_length _ _ _ _ c.a.invariant c.a.view_is (c.requires.a_fits ∙ long))
    (with_length _ _ _ _ c.b.invariant c.b.view_is (c.requires.b_fits ∙ long))
    (mask_stands (to_linear_of_two 2 c.args.p c.args.q) 0 (lit< tt) c.requires.q)
    (mask_stands (to_linear_of_two 2 c.args.p c.args.q) 1 (lit< tt) (omega arith))
    (omega (arith, c.requires.within, long)) c.requires.a_zeros c.requires.b_zeros c.second.inside.words.ok.0
    c.deref_mut-2.ensures.value c.deref.ensures.value c.deref-2.ensures.value
    c.xor_multiple_over_four.ensures.linear in
    made.held

pub returns-clause-second : goal.returns-clause-second
returns-clause-second c =
    let long = sym c.requires.second_fits ∙ plane_long _ _ _ c.second.view_is in
    let made =
    after-two _ _ c.args.start (to_linear_of_two 2 c.args.p c.args.q) _ _ _ _ _ _ _ _ _ _ _
    (with_length _ _ _ _ c.second.invariant c.second.view_is (c.requires.second_fits ∙ long))
    (with_length _ _ _ _ c.a.invariant c.a.view_is (c.requires.a_fits ∙ long))
    (with_length _ _ _ _ c.b.invariant c.b.view_is (c.requires.b_fits ∙ long))
    (mask_stands (to_linear_of_two 2 c.args.p c.args.q) 0 (lit< tt) c.requires.q)
    (mask_stands (to_linear_of_two 2 c.args.p c.args.q) 1 (lit< tt) (omega arith))
    (omega (arith, c.requires.within, long)) c.requires.a_zeros c.requires.b_zeros c.second.inside.words.ok.0
    c.deref_mut-2.ensures.value c.deref.ensures.value c.deref-2.ensures.value
    c.xor_multiple_over_four.ensures.linear in
    made.are
