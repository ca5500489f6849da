use Rattle.std.proofs.Common.{◌≡◌, ◌++◌, ◌+◌, ◌/◌, List, ℕ, length, take, drop, ap, sym, subst, ◌∙◌}
use Rattle.axe_layer.specs.Bits.{bits, HoldsBits}
use Rattle.axe_layer.specs.Digits.{digits_with_four}
use Rattle.axe_layer.proofs.BitLaws.{written, plane_long, xor_of_five, HoldsBits-five, bits-five}
use Rattle.axe_bits.proofs.bits.BitPlane.add_four.Goals as goal

-- the words after
after : (n k : ℕ) (x a b c d dst : List ℕ) → HoldsBits n x → HoldsBits n a → HoldsBits n b → HoldsBits n c → HoldsBits n d →
    k ≡ length x → dst ≡ xor_of_five x a b c d → take k (dst ++ drop (length dst) x) ≡ xor_of_five x a b c d
after n k x a b c d dst hx ha hb hc hd all e =
    written k dst x all (ap length e ∙ (HoldsBits-five n x a b c d hx ha hb hc hd).long ∙ sym hx.long) ∙ e

-- a list of words has the length of this plane's
as_long : (n m : ℕ) (words v other : List ℕ) → HoldsBits m other → m ≡ n → HoldsBits n words → v ≡ words → length other ≡ length v
as_long n m words v other h same held e = h.long ∙ ap (λ n. (n + 63) / 64) same ∙ sym held.long ∙ sym (ap length e)

pub xor4_into-requires-clause-a_fits : goal.xor4_into-requires-clause-a_fits
xor4_into-requires-clause-a_fits c = as_long _ _ _ _ _ c.requires.a (plane_long _ _ _ c.self.view_is) c.self.invariant c.deref_mut.ensures.value

pub xor4_into-requires-clause-b_fits : goal.xor4_into-requires-clause-b_fits
xor4_into-requires-clause-b_fits c = as_long _ _ _ _ _ c.requires.b (plane_long _ _ _ c.self.view_is) c.self.invariant c.deref_mut.ensures.value

pub xor4_into-requires-clause-c_fits : goal.xor4_into-requires-clause-c_fits
xor4_into-requires-clause-c_fits c = as_long _ _ _ _ _ c.requires.c (plane_long _ _ _ c.self.view_is) c.self.invariant c.deref_mut.ensures.value

pub xor4_into-requires-clause-d_fits : goal.xor4_into-requires-clause-d_fits
xor4_into-requires-clause-d_fits c = as_long _ _ _ _ _ c.requires.d (plane_long _ _ _ c.self.view_is) c.self.invariant c.deref_mut.ensures.value

pub invariant_of-self : goal.invariant_of-self
invariant_of-self c =
    let same = plane_long _ _ _ c.self.view_is in
    let ha = subst (λ n. HoldsBits n c.args.a.now) same c.requires.a in
    let hb = subst (λ n. HoldsBits n c.args.b.now) same c.requires.b in
    let hc = subst (λ n. HoldsBits n c.args.c.now) same c.requires.c in
    let hd = subst (λ n. HoldsBits n c.args.d.now) same c.requires.d in
    let sum : c.xor4_into.new.dst ≡ xor_of_five c.self.inside.words.items c.args.a.now c.args.b.now c.args.c.now c.args.d.now =
    c.xor4_into.ensures ∙ ap (λ (l : List ℕ). xor_of_five l c.args.a.now c.args.b.now c.args.c.now c.args.d.now) c.deref_mut.ensures.value in
    subst (HoldsBits c.self.inside.len) (sym (after _ _ _ _ _ _ _ _ c.self.invariant ha hb hc hd c.self.inside.words.ok.0 sum))
    (HoldsBits-five _ _ _ _ _ _ c.self.invariant ha hb hc hd)

pub returns : goal.returns
returns c =
    let same = plane_long _ _ _ c.self.view_is in
    let ha = subst (λ n. HoldsBits n c.args.a.now) same c.requires.a in
    let hb = subst (λ n. HoldsBits n c.args.b.now) same c.requires.b in
    let hc = subst (λ n. HoldsBits n c.args.c.now) same c.requires.c in
    let hd = subst (λ n. HoldsBits n c.args.d.now) same c.requires.d in
    let sum : c.xor4_into.new.dst ≡ xor_of_five c.self.inside.words.items c.args.a.now c.args.b.now c.args.c.now c.args.d.now =
    c.xor4_into.ensures ∙ ap (λ (l : List ℕ). xor_of_five l c.args.a.now c.args.b.now c.args.c.now c.args.d.now) c.deref_mut.ensures.value in
    ap (bits c.self.inside.len) (after _ _ _ _ _ _ _ _ c.self.invariant ha hb hc hd c.self.inside.words.ok.0 sum)
    ∙ bits-five _ _ _ _ _ _ c.self.invariant ha hb hc hd
    ∙ ap (λ n. digits_with_four 2 (bits c.self.inside.len c.self.inside.words.items) (bits n c.args.a.now) (bits n c.args.b.now) (bits n c.args.c.now) (bits n c.args.d.now)) (sym same)
    ∙ ap (λ (x : List ℕ). digits_with_four 2 x (bits (length c.args.self.now) c.args.a.now) (bits (length c.args.self.now) c.args.b.now) (bits (length c.args.self.now) c.args.c.now) (bits (length c.args.self.now) c.args.d.now)) c.self.view_is
