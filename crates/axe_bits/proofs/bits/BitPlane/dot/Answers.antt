use Rattle.std.proofs.Common.{◌≡◌, ◌+◌, ◌/◌, ◌%◌, List, ℕ, length, ap, ap₂, sym, subst, ◌∙◌}
use Rattle.axe_lane.specs.Bytes.{sum_of_products}
use Rattle.axe_lane.specs.Words.{common_bits}
use Rattle.axe_layer.specs.Bits.{bits, HoldsBits}
use Rattle.axe_layer.proofs.BitLaws.{length-bits}
use Rattle.axe_layer.proofs.DotLaws.{common_bits-dot}
use Rattle.axe_bits.proofs.bits.BitPlane.dot.Goals as goal

-- the other plane has this one's length
as_long : (n m : ℕ) (a b : List ℕ) (x y : List ℕ) → bits n a ≡ x → bits m b ≡ y → length y ≡ length x → m ≡ n
as_long n m a b x y ex ey same = sym (length-bits m b) ∙ ap length ey ∙ same ∙ sym (ap length ex) ∙ length-bits n a

pub parity_and-requires : goal.parity_and-requires
parity_and-requires c =
    let same = as_long _ _ _ _ _ _ c.self.view_is c.other.view_is c.requires in
    ap length c.deref-2.ensures.value ∙ c.other.invariant.long ∙ ap (λ n. (n + 63) / 64) same ∙ sym c.self.invariant.long
    ∙ sym (ap length c.deref.ensures.value)

pub returns : goal.returns
returns c =
    let same = as_long _ _ _ _ _ _ c.self.view_is c.other.view_is c.requires in
    let other = subst (λ n. HoldsBits n c.other.inside.words.items) same c.other.invariant in
    let there : bits c.self.inside.len c.other.inside.words.items ≡ c.args.other.now =
    ap (λ n. bits n c.other.inside.words.items) (sym same) ∙ c.other.view_is in
    c.parity_and.ensures
    ∙ ap (λ s. s % 2)
    (ap₂ common_bits c.deref.ensures.value c.deref-2.ensures.value ∙ common_bits-dot _ _ _ c.self.invariant other
    ∙ ap₂ sum_of_products c.self.view_is there)
