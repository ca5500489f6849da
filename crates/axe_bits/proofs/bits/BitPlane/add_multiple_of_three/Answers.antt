use Rattle.std.proofs.Common.{rules, ◌≤◌, ◌/◌, length, sym, ◌∙◌, arith, lit<}
use Rattle.axe_lane.specs.Multiples.{to_constant_of_three, to_linear_of_three, to_quadratic_of_three}
use Rattle.axe_layer.proofs.BitLaws.{plane_long}
use Rattle.axe_bits.proofs.EndSums.{with_length, word_inside, ends_long}
use Rattle.axe_bits.proofs.MaskedBits.{mask_stands, after-three}
use Rattle.axe_bits.proofs.bits.BitPlane.add_multiple_of_three.Goals as goal

pub slice_bounds-xor_multiple_over_eight-count : goal.slice_bounds-xor_multiple_over_eight-count
slice_bounds-xor_multiple_over_eight-count c =
    let long = plane_long _ _ _ c.first.view_is in
    word_inside _ c.args.start _ _ _ (with_length _ _ _ _ c.first.invariant c.first.view_is long) c.deref_mut.ensures.value
    (omega (arith, c.requires.within, long))

pub slice_bounds-xor_multiple_over_eight-start : goal.slice_bounds-xor_multiple_over_eight-start
slice_bounds-xor_multiple_over_eight-start c =
    let inside : c.args.start / 64 ≤ length c.deref_mut.result.now = slice_bounds-xor_multiple_over_eight-count c in search rules

pub slice_bounds-xor_multiple_over_eight-count-2 : goal.slice_bounds-xor_multiple_over_eight-count-2
slice_bounds-xor_multiple_over_eight-count-2 c =
    let long = plane_long _ _ _ c.first.view_is in
    word_inside _ c.args.start _ _ _ (with_length _ _ _ _ c.second.invariant c.second.view_is (c.requires.second_fits ∙ long)) c.deref_mut-2.ensures.value
    (omega (arith, c.requires.within, long))

pub slice_bounds-xor_multiple_over_eight-start-2 : goal.slice_bounds-xor_multiple_over_eight-start-2
slice_bounds-xor_multiple_over_eight-start-2 c =
    let inside : c.args.start / 64 ≤ length c.deref_mut-2.result.now = slice_bounds-xor_multiple_over_eight-count-2 c in search rules

pub slice_bounds-xor_multiple_over_eight-count-3 : goal.slice_bounds-xor_multiple_over_eight-count-3
slice_bounds-xor_multiple_over_eight-count-3 c =
    let long = plane_long _ _ _ c.first.view_is in
    word_inside _ c.args.start _ _ _ (with_length _ _ _ _ c.third.invariant c.third.view_is (c.requires.third_fits ∙ long)) c.deref_mut-3.ensures.value
    (omega (arith, c.requires.within, long))

pub slice_bounds-xor_multiple_over_eight-start-3 : goal.slice_bounds-xor_multiple_over_eight-start-3
slice_bounds-xor_multiple_over_eight-start-3 c =
    let inside : c.args.start / 64 ≤ length c.deref_mut-3.result.now = slice_bounds-xor_multiple_over_eight-count-3 c in search rules

pub slice_bounds-xor_multiple_over_eight-count-4 : goal.slice_bounds-xor_multiple_over_eight-count-4
slice_bounds-xor_multiple_over_eight-count-4 c =
    let long = plane_long _ _ _ c.first.view_is in
    word_inside _ c.args.start _ _ _ (with_length _ _ _ _ c.a.invariant c.a.view_is (c.requires.a_fits ∙ long)) c.deref.ensures.value
    (omega (arith, c.requires.within, long))

pub slice_bounds-xor_multiple_over_eight-start-4 : goal.slice_bounds-xor_multiple_over_eight-start-4
slice_bounds-xor_multiple_over_eight-start-4 c =
    let inside : c.args.start / 64 ≤ length c.deref.result.now = slice_bounds-xor_multiple_over_eight-count-4 c in search rules

pub slice_bounds-xor_multiple_over_eight-count-5 : goal.slice_bounds-xor_multiple_over_eight-count-5
slice_bounds-xor_multiple_over_eight-count-5 c =
    let long = plane_long _ _ _ c.first.view_is in
    word_inside _ c.args.start _ _ _ (with_length _ _ _ _ c.b.invariant c.b.view_is (c.requires.b_fits ∙ long)) c.deref-2.ensures.value
    (omega (arith, c.requires.within, long))

pub slice_bounds-xor_multiple_over_eight-start-5 : goal.slice_bounds-xor_multiple_over_eight-start-5
slice_bounds-xor_multiple_over_eight-start-5 c =
    let inside : c.args.start / 64 ≤ length c.deref-2.result.now = slice_bounds-xor_multiple_over_eight-count-5 c in search rules

pub slice_bounds-xor_multiple_over_eight-count-6 : goal.slice_bounds-xor_multiple_over_eight-count-6
slice_bounds-xor_multiple_over_eight-count-6 c =
    let long = plane_long _ _ _ c.first.view_is in
    word_inside _ c.args.start _ _ _ (with_length _ _ _ _ c.c.invariant c.c.view_is (c.requires.c_fits ∙ long)) c.deref-3.ensures.value
    (omega (arith, c.requires.within, long))

pub slice_bounds-xor_multiple_over_eight-start-6 : goal.slice_bounds-xor_multiple_over_eight-start-6
slice_bounds-xor_multiple_over_eight-start-6 c =
    let inside : c.args.start / 64 ≤ length c.deref-3.result.now = slice_bounds-xor_multiple_over_eight-count-6 c in search rules

pub xor_multiple_over_eight-requires-clause-second_fits : goal.xor_multiple_over_eight-requires-clause-second_fits
xor_multiple_over_eight-requires-clause-second_fits c =
    let long = plane_long _ _ _ c.first.view_is in
    ends_long _ _ _ _ _ _ _ _ (with_length _ _ _ _ c.first.invariant c.first.view_is long)
    (with_length _ _ _ _ c.second.invariant c.second.view_is (c.requires.second_fits ∙ long))
    c.deref_mut.ensures.value c.deref_mut-2.ensures.value

pub xor_multiple_over_eight-requires-clause-third_fits : goal.xor_multiple_over_eight-requires-clause-third_fits
xor_multiple_over_eight-requires-clause-third_fits c =
    let long = plane_long _ _ _ c.first.view_is in
    ends_long _ _ _ _ _ _ _ _ (with_length _ _ _ _ c.first.invariant c.first.view_is long)
    (with_length _ _ _ _ c.third.invariant c.third.view_is (c.requires.third_fits ∙ long))
    c.deref_mut.ensures.value c.deref_mut-3.ensures.value

pub xor_multiple_over_eight-requires-clause-a_fits : goal.xor_multiple_over_eight-requires-clause-a_fits
xor_multiple_over_eight-requires-clause-a_fits c =
    let long = plane_long _ _ _ c.first.view_is in
    ends_long _ _ _ _ _ _ _ _ (with_length _ _ _ _ c.first.invariant c.first.view_is long)
    (with_length _ _ _ _ c.a.invariant c.a.view_is (c.requires.a_fits ∙ long))
    c.deref_mut.ensures.value c.deref.ensures.value

pub xor_multiple_over_eight-requires-clause-b_fits : goal.xor_multiple_over_eight-requires-clause-b_fits
xor_multiple_over_eight-requires-clause-b_fits c =
    let long = plane_long _ _ _ c.first.view_is in
    ends_long _ _ _ _ _ _ _ _ (with_length _ _ _ _ c.first.invariant c.first.view_is long)
    (with_length _ _ _ _ c.b.invariant c.b.view_is (c.requires.b_fits ∙ long))
    c.deref_mut.ensures.value c.deref-2.ensures.value

pub xor_multiple_over_eight-requires-clause-c_fits : goal.xor_multiple_over_eight-requires-clause-c_fits
xor_multiple_over_eight-requires-clause-c_fits c =
    let long = plane_long _ _ _ c.first.view_is in
    ends_long _ _ _ _ _ _ _ _ (with_length _ _ _ _ c.first.invariant c.first.view_is long)
    (with_length _ _ _ _ c.c.invariant c.c.view_is (c.requires.c_fits ∙ long))
    c.deref_mut.ensures.value c.deref-3.ensures.value

pub invariant_of-first : goal.invariant_of-first
invariant_of-first c =
    let long = plane_long _ _ _ c.first.view_is in
    let made =
    after-three _ _ c.args.start (to_constant_of_three c.args.p c.args.q c.args.r) _ _ _ _ _ _ _ _ _ _ _ _ _ _
    (with_length _ _ _ _ c.first.invariant c.first.view_is long)
    (with_length _ _ _ _ c.a.invariant c.a.view_is (c.requires.a_fits ∙ long))
    (with_length _ _ _ _ c.b.invariant c.b.view_is (c.requires.b_fits ∙ long))
    (with_length _ _ _ _ c.c.invariant c.c.view_is (c.requires.c_fits ∙ long))
    (mask_stands (to_constant_of_three c.args.p c.args.q c.args.r) 0 (lit< tt) c.requires.p)
    (mask_stands (to_constant_of_three c.args.p c.args.q c.args.r) 1 (lit< tt) c.requires.r)
    (mask_stands (to_constant_of_three c.args.p c.args.q c.args.r) 2 (lit< tt) c.requires.q)
    (omega (arith, c.requires.within, long)) c.requires.a_zeros c.requires.b_zeros c.requires.c_zeros c.first.inside.words.ok.0
    c.deref_mut.ensures.value c.deref.ensures.value c.deref-2.ensures.value c.deref-3.ensures.value
    c.xor_multiple_over_eight.ensures.constant in
    made.held

pub returns-clause-first : goal.returns-clause-first
returns-clause-first c =
    let long = plane_long _ _ _ c.first.view_is in
    let made =
    after-three _ _ c.args.start (to_constant_of_three c.args.p c.args.q c.args.r) _ _ _ _ _ _ _ _ _ _ _ _ _ _
    (with_length _ _ _ _ c.first.invariant c.first.view_is long)
    (with_length _ _ _ _ c.a.invariant c.a.view_is (c.requires.a_fits ∙ long))
    (with_length _ _ _ _ c.b.invariant c.b.view_is (c.requires.b_fits ∙ long))
    (with_length _ _ _ _ c.c.invariant c.c.view_is (c.requires.c_fits ∙ long))
    (mask_stands (to_constant_of_three c.args.p c.args.q c.args.r) 0 (lit< tt) c.requires.p)
    (mask_stands (to_constant_of_three c.args.p c.args.q c.args.r) 1 (lit< tt) c.requires.r)
    (mask_stands (to_constant_of_three c.args.p c.args.q c.args.r) 2 (lit< tt) c.requires.q)
    (omega (arith, c.requires.within, long)) c.requires.a_zeros c.requires.b_zeros c.requires.c_zeros c.first.inside.words.ok.0
    c.deref_mut.ensures.value c.deref.ensures.value c.deref-2.ensures.value c.deref-3.ensures.value
    c.xor_multiple_over_eight.ensures.constant in
    made.are

pub invariant_of-second : goal.invariant_of-second
invariant_of-second c =
    let long = sym c.requires.second_fits ∙ plane_long _ _ _ c.second.view_is in
    let made =
    after-three _ _ c.args.start (to_linear_of_three c.args.p c.args.q c.args.r) _ _ _ _ _ _ _ _ _ _ _ _ _ _
    (with_length _ _ _ _ c.second.invariant c.second.view_is (c.requires.second_fits ∙ long))
    (with_length _ _ _ _ c.a.invariant c.a.view_is (c.requires.a_fits ∙ long))
    (with_length _ _ _ _ c.b.invariant c.b.view_is (c.requires.b_fits ∙ long))
    (with_length _ _ _ _ c.c.invariant c.c.view_is (c.requires.c_fits ∙ long))
    (mask_stands (to_linear_of_three c.args.p c.args.q c.args.r) 0 (lit< tt) c.requires.q)
    (mask_stands (to_linear_of_three c.args.p c.args.q c.args.r) 1 (lit< tt) (omega arith))
    (mask_stands (to_linear_of_three c.args.p c.args.q c.args.r) 2 (lit< tt) (omega arith))
    (omega (arith, c.requires.within, long)) c.requires.a_zeros c.requires.b_zeros c.requires.c_zeros c.second.inside.words.ok.0
    c.deref_mut-2.ensures.value c.deref.ensures.value c.deref-2.ensures.value c.deref-3.ensures.value
    c.xor_multiple_over_eight.ensures.linear in
    made.held

pub returns-clause-second : goal.returns-clause-second
returns-clause-second c =
    let long = sym c.requires.second_fits ∙ plane_long _ _ _ c.second.view_is in
    let made =
    after-three _ _ c.args.start (to_linear_of_three c.args.p c.args.q c.args.r) _ _ _ _ _ _ _ _ _ _ _ _ _ _
    (with_length _ _ _ _ c.second.invariant c.second.view_is (c.requires.second_fits ∙ long))
    (with_length _ _ _ _ c.a.invariant c.a.view_is (c.requires.a_fits ∙ long))
    (with_length _ _ _ _ c.b.invariant c.b.view_is (c.requires.b_fits ∙ long))
    (with_length _ _ _ _ c.c.invariant c.c.view_is (c.requires.c_fits ∙ long))
    (mask_stands (to_linear_of_three c.args.p c.args.q c.args.r) 0 (lit< tt) c.requires.q)
    (mask_stands (to_linear_of_three c.args.p c.args.q c.args.r) 1 (lit< tt) (omega arith))
    (mask_stands (to_linear_of_three c.args.p c.args.q c.args.r) 2 (lit< tt) (omega arith))
    (omega (arith, c.requires.within, long)) c.requires.a_zeros c.requires.b_zeros c.requires.c_zeros c.second.inside.words.ok.0
    c.deref_mut-2.ensures.value c.deref.ensures.value c.deref-2.ensures.value c.deref-3.ensures.value
    c.xor_multiple_over_eight.ensures.linear in
    made.are

pub invariant_of-third : goal.invariant_of-third
invariant_of-third c =
    let long = sym c.requires.third_fits ∙ plane_long _ _ _ c.third.view_is in
    let made =
    after-three _ _ c.args.start (to_quadratic_of_three c.args.p c.args.q c.args.r) _ _ _ _ _ _ _ _ _ _ _ _ _ _
    (with_length _ _ _ _ c.third.invariant c.third.view_is (c.requires.third_fits ∙ long))
    (with_length _ _ _ _ c.a.invariant c.a.view_is (c.requires.a_fits ∙ long))
    (with_length _ _ _ _ c.b.invariant c.b.view_is (c.requires.b_fits ∙ long))
    (with_length _ _ _ _ c.c.invariant c.c.view_is (c.requires.c_fits ∙ long))
    (mask_stands (to_quadratic_of_three c.args.p c.args.q c.args.r) 0 (lit< tt) c.requires.r)
    (mask_stands (to_quadratic_of_three c.args.p c.args.q c.args.r) 1 (lit< tt) c.requires.q)
    (mask_stands (to_quadratic_of_three c.args.p c.args.q c.args.r) 2 (lit< tt) (omega arith))
    (omega (arith, c.requires.within, long)) c.requires.a_zeros c.requires.b_zeros c.requires.c_zeros c.third.inside.words.ok.0
    c.deref_mut-3.ensures.value c.deref.ensures.value c.deref-2.ensures.value c.deref-3.ensures.value
    c.xor_multiple_over_eight.ensures.quadratic in
    made.held

pub returns-clause-third : goal.returns-clause-third
returns-clause-third c =
    let long = sym c.requires.third_fits ∙ plane_long _ _ _ c.third.view_is in
    let made =
    after-three _ _ c.args.start (to_quadratic_of_three c.args.p c.args.q c.args.r) _ _ _ _ _ _ _ _ _ _ _ _ _ _
    (with_length _ _ _ _ c.third.invariant c.third.view_is (c.requires.third_fits ∙ long))
    (with_length _ _ _ _ c.a.invariant c.a.view_is (c.requires.a_fits ∙ long))
    (with_length _ _ _ _ c.b.invariant c.b.view_is (c.requires.b_fits ∙ long))
    (with_length _ _ _ _ c.c.invariant c.c.view_is (c.requires.c_fits ∙ long))
    (mask_stands (to_quadratic_of_three c.args.p c.args.q c.args.r) 0 (lit< tt) c.requires.r)
    (mask_stands (to_quadratic_of_three c.args.p c.args.q c.args.r) 1 (lit< tt) c.requires.q)
    (mask_stands (to_quadratic_of_three c.args.p c.args.q c.args.r) 2 (lit< tt) (omega arith))
    (omega (arith, c.requires.within, long)) c.requires.a_zeros c.requires.b_zeros c.requires.c_zeros c.third.inside.words.ok.0
    c.deref_mut-3.ensures.value c.deref.ensures.value c.deref-2.ensures.value c.deref-3.ensures.value
    c.xor_multiple_over_eight.ensures.quadratic in
    made.are
