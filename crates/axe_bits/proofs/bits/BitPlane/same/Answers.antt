use Rattle.std.proofs.Common.{◌≡◌, length, sym, ap, subst, ◌∙◌}
use Rattle.std.proofs.lemmas.Slice.Eq.{slice_eq-Decides}
use Rattle.std.proofs.lemmas.Bool.{eqb-true}
use Rattle.std.proofs.lemmas.Bool.Decides.{Decides-eqb}
use Rattle.axe_layer.specs.Bits.{bits, HoldsBits}
use Rattle.axe_layer.proofs.BitLaws.{length-bits, bits-injective}
use Rattle.axe_bits.proofs.bits.BitPlane.same.Goals as goal

pub returns-then-self-other : goal.returns-then-self-other
returns-then-self-other c =
    let decides = slice_eq-Decides Decides-eqb c.self.inside.words.items c.other.inside.words.items c.eq.result c.eq.ensures in
    let held : HoldsBits c.self.inside.len c.other.inside.words.items =
    subst (λ n. HoldsBits n c.other.inside.words.items) (sym c.if-self-other.true) c.other.invariant in
    let along : bits c.self.inside.len c.other.inside.words.items ≡ bits c.other.inside.len c.other.inside.words.items =
    ap (λ n. bits n c.other.inside.words.items) c.if-self-other.true in (
      λ yes. sym c.self.view_is ∙ ap (bits c.self.inside.len) (decides.0 yes) ∙ along ∙ c.other.view_is,
      λ same. (decides.1
          (bits-injective _ _ _ c.self.invariant held (c.self.view_is ∙ same ∙ sym c.other.view_is ∙ sym along))),
    )

pub returns-else-self-other : goal.returns-else-self-other
returns-else-self-other c =
    let lengths : c.args.self.now ≡ c.args.other.now → c.self.inside.len ≡ c.other.inside.len = λ same.
    sym (length-bits c.self.inside.len c.self.inside.words.items) ∙ ap length (c.self.view_is ∙ same ∙ sym c.other.view_is)
    ∙ length-bits c.other.inside.len c.other.inside.words.items in (
      λ yes. absurd (c.if-self-other.false (eqb-true c.self.inside.len c.other.inside.len yes)),
      λ same. absurd (c.if-self-other.false (lengths same)),
    )
