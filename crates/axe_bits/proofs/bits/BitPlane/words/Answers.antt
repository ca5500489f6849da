use Rattle.std.proofs.Common.{◌≡◌, List, ℕ, length, ap, sym, subst, ◌∙◌}
use Rattle.axe_layer.specs.Bits.{bits, HoldsBits}
use Rattle.axe_layer.proofs.BitLaws.{length-bits}
use Rattle.axe_bits.proofs.bits.BitPlane.words.Goals as goal

-- how many digits there are
long : (n : ℕ) (words self : List ℕ) → bits n words ≡ self → length self ≡ n
long n words self is = sym (ap length is) ∙ length-bits n words

pub returns-clause-holds : goal.returns-clause-holds
returns-clause-holds c =
    subst (HoldsBits (length c.args.self.now)) (sym c.deref.ensures.value)
    (subst (λ n. HoldsBits n c.self.inside.words.items) (sym (long _ _ _ c.self.view_is)) c.self.invariant)

pub returns-clause-digits : goal.returns-clause-digits
returns-clause-digits c =
    ap (bits (length c.args.self.now)) c.deref.ensures.value ∙ ap (λ n. bits n c.self.inside.words.items) (long _ _ _ c.self.view_is) ∙ c.self.view_is
