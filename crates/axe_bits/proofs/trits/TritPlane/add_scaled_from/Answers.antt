use Rattle.std.proofs.Common.{◌≡◌, ℕ, List, subst, sym, ap, ◌∙◌, lit<, arith}
use Rattle.axe_lane.specs.Entries.{AreZerosBefore}
use Rattle.axe_layer.specs.Bits.{bits}
use Rattle.axe_layer.specs.Digits.{digits_with_multiple}
use Rattle.axe_layer.proofs.DigitLaws.{digits_with_multiple-none}
use Rattle.axe_bits.specs.Trits.{trits}
use Rattle.axe_bits.proofs.TritZeros.{added_multiple, zeros_of_multiple}
use Rattle.axe_bits.proofs.trits.TritPlane.add_scaled_from.Goals as goal

-- the layers hold as many digits as there are of the other plane
as_many : (n k : ℕ) (o t x : List ℕ) → n ≡ k → trits (bits n o) (bits n t) ≡ x → trits (bits k o) (bits k t) ≡ x
as_many n k o t x same is = ap (λ l. trits (bits l o) (bits l t)) (sym same) ∙ is

pub add_layers-requires-clause-zeros : goal.add_layers-requires-clause-zeros
add_layers-requires-clause-zeros c =
    subst (λ (l : List ℕ). AreZerosBefore l c.args.start) (sym (as_many _ _ _ _ _ c.requires.fits c.multiple_layers.ensures.digits))
    (zeros_of_multiple c.args.factor c.args.start c.args.other.now c.requires.zeros)

pub returns-then-factor-ne0 : goal.returns-then-factor-ne0
returns-then-factor-ne0 c =
    c.add_layers.ensures
    ∙ ap (digits_with_multiple 3 c.args.self.now 1) (as_many _ _ _ _ _ c.requires.fits c.multiple_layers.ensures.digits)
    ∙ added_multiple c.args.factor c.args.self.now c.args.other.now c.requires.fits

pub returns-else-factor-ne0 : goal.returns-else-factor-ne0
returns-else-factor-ne0 c = digits_with_multiple-none 3 _ _ _ (lit< tt) (omega (arith, c.if-factor-ne0.false)) c.len.ensures.digits
