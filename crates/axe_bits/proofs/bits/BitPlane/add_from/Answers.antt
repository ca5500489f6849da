use Rattle.std.proofs.Common.{rules, ◌/◌, ◌≤◌, List, length, ap, sym, subst, ◌∙◌, arith, ℕ}
use Rattle.axe_lane.specs.Entries.{AreZerosBefore}
use Rattle.axe_layer.specs.Bits.{bits, HoldsBits}
use Rattle.axe_layer.specs.Digits.{digits_with_multiple}
use Rattle.axe_layer.proofs.BitLaws.{bits-xor, HoldsBits-xor, plane_long}
use Rattle.axe_layer.proofs.EndLaws.{zero_words_before}
use Rattle.axe_bits.proofs.EndSums.{with_length, word_inside, ends_long, added}
use Rattle.axe_bits.proofs.bits.BitPlane.add_from.Goals as goal

pub slice_bounds-xor_into-count : goal.slice_bounds-xor_into-count
slice_bounds-xor_into-count c =
    let long = plane_long _ _ _ c.self.view_is in
    word_inside _ c.args.start _ _ _ (with_length _ _ _ _ c.self.invariant c.self.view_is long) c.deref_mut.ensures.value (omega (arith, c.requires.within, long))

pub slice_bounds-xor_into-start : goal.slice_bounds-xor_into-start
slice_bounds-xor_into-start c =
    let first : c.args.start / 64 ≤ length c.deref_mut.result.now = slice_bounds-xor_into-count c in search rules

pub slice_bounds-xor_into-count-2 : goal.slice_bounds-xor_into-count-2
slice_bounds-xor_into-count-2 c =
    let long = plane_long _ _ _ c.self.view_is in
    word_inside _ c.args.start _ _ _ (with_length _ _ _ _ c.other.invariant c.other.view_is (c.requires.fits ∙ long)) c.deref.ensures.value
    (omega (arith, c.requires.within, long))

pub slice_bounds-xor_into-start-2 : goal.slice_bounds-xor_into-start-2
slice_bounds-xor_into-start-2 c =
    let first : c.args.start / 64 ≤ length c.deref.result.now = slice_bounds-xor_into-count-2 c in search rules

pub xor_into-requires : goal.xor_into-requires
xor_into-requires c =
    let long = plane_long _ _ _ c.self.view_is in
    ends_long _ _ _ _ _ _ _ _ (with_length _ _ _ _ c.self.invariant c.self.view_is long)
    (with_length _ _ _ _ c.other.invariant c.other.view_is (c.requires.fits ∙ long)) c.deref_mut.ensures.value c.deref.ensures.value

pub invariant_of-self : goal.invariant_of-self
invariant_of-self c =
    let long = plane_long _ _ _ c.self.view_is in
    let other = with_length _ _ _ _ c.other.invariant c.other.view_is (c.requires.fits ∙ long) in
    let zeros = zero_words_before _ _ c.args.start other.held (subst (λ (x : List ℕ). AreZerosBefore x c.args.start) (sym other.are) c.requires.zeros) in
    subst (HoldsBits c.self.inside.len)
    (sym (added _ _ c.args.start _ _ _ _ _ c.self.invariant other.held zeros c.self.inside.words.ok.0 c.deref_mut.ensures.value c.deref.ensures.value
    (omega (arith, c.requires.within, long)) c.xor_into.ensures))
    (HoldsBits-xor _ _ _ c.self.invariant other.held)

pub returns : goal.returns
returns c =
    let long = plane_long _ _ _ c.self.view_is in
    let other = with_length _ _ _ _ c.other.invariant c.other.view_is (c.requires.fits ∙ long) in
    let zeros = zero_words_before _ _ c.args.start other.held (subst (λ (x : List ℕ). AreZerosBefore x c.args.start) (sym other.are) c.requires.zeros) in
    ap (bits c.self.inside.len)
    (added _ _ c.args.start _ _ _ _ _ c.self.invariant other.held zeros c.self.inside.words.ok.0 c.deref_mut.ensures.value c.deref.ensures.value
    (omega (arith, c.requires.within, long)) c.xor_into.ensures)
    ∙ bits-xor _ _ _ c.self.invariant other.held
    ∙ ap (λ (x : List ℕ). digits_with_multiple 2 x 1 (bits c.self.inside.len c.other.inside.words.items)) c.self.view_is
    ∙ ap (digits_with_multiple 2 c.args.self.now 1) other.are
