-- A section of which words of a seed are asked: what is known of it for that seed.
use Rattle.std.specs.Prelude.{◌≡◌, ℕ}
use Rattle.axe_spin.specs.Modules.{ModuleValue}
use Rattle.axe_norton.specs.Known.{IsKnownOf}
use Rattle.axe_norton.specs.declared.known.Known.{Known}
use Rattle.axe_chop.specs.Kept.{acting_module, kept_section}
use Rattle.axe_chop.specs.declared.section.Section.TheInside.{Inside}
use mathlib.Core.Path.{sym, ◌∙◌, ap, subst}

-- the section stays as it was, and what is known of its action for the seed is true of it
pub record IsAsked (seed : ℕ) (before after : Inside) : Type 0 where
  pub same : kept_section after.action after.rows ≡ kept_section before.action before.rows
  pub seed_is : after.seed ≡ seed
  pub is_known : IsKnownOf (acting_module after.action) seed after.known

-- of another seed nothing is known
pub asked_anew : (seed : ℕ) (before after : Inside) (known : Known) → ((m : ModuleValue) (seed : ℕ) → IsKnownOf m seed known) →
    after ≡ record before { seed = seed; known = known } → IsAsked seed before after
asked_anew seed before after known nothing is = record {
  same = ap (λ (a : Inside). kept_section a.action a.rows) is;
  seed_is = ap (λ (a : Inside). a.seed) is;
  is_known = subst (λ (k : Known). IsKnownOf (acting_module after.action) seed k) (sym (ap (λ (a : Inside). a.known) is))
      (nothing (acting_module after.action) seed);
}

-- what is known for the same seed serves
pub asked_again : (seed : ℕ) (before after : Inside) → IsKnownOf (acting_module before.action) before.seed before.known → seed ≡ before.seed →
    after ≡ before → IsAsked seed before after
asked_again seed before after known same is = record {
  same = ap (λ (a : Inside). kept_section a.action a.rows) is;
  seed_is = ap (λ (a : Inside). a.seed) is ∙ sym same;
  is_known = subst (λ (a : Inside). IsKnownOf (acting_module a.action) seed a.known) (sym is)
      (subst (λ n. IsKnownOf (acting_module before.action) n before.known) (sym same) known);
}
