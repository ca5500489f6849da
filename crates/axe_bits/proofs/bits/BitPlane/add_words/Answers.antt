use Rattle.std.proofs.Common.{◌≡◌, ◌++◌, ◌+◌, ◌/◌, List, ℕ, length, take, drop, ap, sym, subst, ◌∙◌, bit_xor}
use Rattle.std.specs.Simd.Lanes.{zip2}
use Rattle.std.proofs.lemmas.Simd.{length-zip2}
use Rattle.axe_layer.specs.Bits.{bits, HoldsBits}
use Rattle.axe_layer.specs.Digits.{digits_with_multiple}
use Rattle.axe_layer.proofs.BitLaws.{bits-xor, HoldsBits-xor, written, plane_long}
use Rattle.axe_bits.proofs.bits.BitPlane.add_words.Goals as goal

-- the words after
after : (n k : ℕ) (a b dst : List ℕ) → HoldsBits n a → HoldsBits n b → k ≡ length a → dst ≡ zip2 bit_xor a b →
    take k (dst ++ drop (length dst) a) ≡ zip2 bit_xor a b
after n k a b dst ha hb all e =
    written k dst a all (ap length e ∙ length-zip2 bit_xor a b (ha.long ∙ sym hb.long)) ∙ e

pub xor_into-requires : goal.xor_into-requires
xor_into-requires c =
    c.requires.long ∙ ap (λ n. (n + 63) / 64) (plane_long _ _ _ c.self.view_is) ∙ sym c.self.invariant.long
    ∙ sym (ap length c.deref_mut.ensures.value)

pub invariant_of-self : goal.invariant_of-self
invariant_of-self c =
    let other = subst (λ n. HoldsBits n c.args.words.now) (plane_long _ _ _ c.self.view_is) c.requires in
    let sum : c.xor_into.new.dst ≡ zip2 bit_xor c.self.inside.words.items c.args.words.now = cc in
    subst (HoldsBits c.self.inside.len) (sym (after _ _ _ _ _ c.self.invariant other c.self.inside.words.ok.0 sum))
    (HoldsBits-xor _ _ _ c.self.invariant other)

pub returns : goal.returns
returns c =
    let same = plane_long _ _ _ c.self.view_is in
    let other = subst (λ n. HoldsBits n c.args.words.now) same c.requires in
    let sum : c.xor_into.new.dst ≡ zip2 bit_xor c.self.inside.words.items c.args.words.now = cc in
    ap (bits c.self.inside.len) (after _ _ _ _ _ c.self.invariant other c.self.inside.words.ok.0 sum)
    ∙ bits-xor _ _ _ c.self.invariant other
    ∙ ap (λ (x : List ℕ). digits_with_multiple 2 x 1 (bits c.self.inside.len c.args.words.now)) c.self.view_is
    ∙ ap (λ n. digits_with_multiple 2 c.args.self.now 1 (bits n c.args.words.now)) (sym same)
