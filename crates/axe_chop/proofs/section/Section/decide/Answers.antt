use Rattle.std.proofs.Common.{◌≡◌, ℕ, None, sym, ap, subst, ◌∙◌, arith}
use Rattle.axe_row.specs.Refusals.{Answers}
use Rattle.axe_spin.specs.Modules.{ModuleValue}
use Rattle.axe_norton.specs.Known.{IsKnownOf}
use Rattle.axe_norton.specs.Verdicts.{Decides, IsTrueVerdict}
use Rattle.axe_series.specs.Sections.{SectionValue}
use Rattle.axe_chop.specs.Stages.{IsSection}
use Rattle.axe_chop.proofs.Asking.{IsAsked, asked_anew, asked_again}
use Rattle.axe_chop.proofs.section.Section.decide.Goals.{then-seed-self, else-seed-self}
use Rattle.axe_chop.proofs.section.Section.decide.Goals as goal

pub decide_knowing-requires-clause-known : goal.decide_knowing-requires-clause-known
decide_knowing-requires-clause-known c =
    let asked : IsAsked c.args.seed c.self.inside c.if-seed-self.self-inside = elim c.if-seed-self.branch [
      | then-seed-self w ↦ asked_anew c.args.seed c.self.inside c.if-seed-self.self-inside w.nothing.result w.nothing.ensures w.self-inside-is
      | else-seed-self w ↦ asked_again c.args.seed c.self.inside c.if-seed-self.self-inside c.self.invariant.is_known (omega (arith, w.if-seed-self))
          w.self-inside-is
    ] in
    subst (λ (m : ModuleValue). IsKnownOf m c.args.seed c.if-seed-self.self-inside.known) (sym c.module-module.ensures) asked.is_known

pub decide_knowing-requires-clause-field : goal.decide_knowing-requires-clause-field
decide_knowing-requires-clause-field c =
    let asked : IsAsked c.args.seed c.self.inside c.if-seed-self.self-inside = elim c.if-seed-self.branch [
      | then-seed-self w ↦ asked_anew c.args.seed c.self.inside c.if-seed-self.self-inside w.nothing.result w.nothing.ensures w.self-inside-is
      | else-seed-self w ↦ asked_again c.args.seed c.self.inside c.if-seed-self.self-inside c.self.invariant.is_known (omega (arith, w.if-seed-self))
          w.self-inside-is
    ] in
    let same : c.module-module.result.now ≡ c.args.self.now.action =
    c.module-module.ensures ∙ ap (λ (s : SectionValue). s.action) asked.same ∙ ap (λ (s : SectionValue). s.action) c.self.view_is in
    c.requires.field ∙ sym (ap (λ (m : ModuleValue). m.order) same)

pub invariant_of-self : goal.invariant_of-self
invariant_of-self c =
    let asked : IsAsked c.args.seed c.self.inside c.if-seed-self.self-inside = elim c.if-seed-self.branch [
      | then-seed-self w ↦ asked_anew c.args.seed c.self.inside c.if-seed-self.self-inside w.nothing.result w.nothing.ensures w.self-inside-is
      | else-seed-self w ↦ asked_again c.args.seed c.self.inside c.if-seed-self.self-inside c.self.invariant.is_known (omega (arith, w.if-seed-self))
          w.self-inside-is
    ] in
    record {
      section = subst IsSection (sym asked.same) c.self.invariant.section;
      is_known = subst (λ (m : ModuleValue). IsKnownOf m c.if-seed-self.self-inside.seed c.decide_knowing.new.known) c.module-module.ensures
          (subst (λ (n : ℕ). IsKnownOf c.module-module.result.now n c.decide_knowing.new.known) (sym asked.seed_is) c.decide_knowing.ensures.known);
    }

pub returns-clause-decides : goal.returns-clause-decides
returns-clause-decides c =
    let asked : IsAsked c.args.seed c.self.inside c.if-seed-self.self-inside = elim c.if-seed-self.branch [
      | then-seed-self w ↦ asked_anew c.args.seed c.self.inside c.if-seed-self.self-inside w.nothing.result w.nothing.ensures w.self-inside-is
      | else-seed-self w ↦ asked_again c.args.seed c.self.inside c.if-seed-self.self-inside c.self.invariant.is_known (omega (arith, w.if-seed-self))
          w.self-inside-is
    ] in
    let same : c.module-module.result.now ≡ c.args.self.now.action =
    c.module-module.ensures ∙ ap (λ (s : SectionValue). s.action) asked.same ∙ ap (λ (s : SectionValue). s.action) c.self.view_is in
    subst (λ (m : ModuleValue). Answers None (Decides m c.args.seed c.args.words) c.decide_knowing.result) same c.decide_knowing.ensures.decides

pub returns-clause-holds : goal.returns-clause-holds
returns-clause-holds c =
    let asked : IsAsked c.args.seed c.self.inside c.if-seed-self.self-inside = elim c.if-seed-self.branch [
      | then-seed-self w ↦ asked_anew c.args.seed c.self.inside c.if-seed-self.self-inside w.nothing.result w.nothing.ensures w.self-inside-is
      | else-seed-self w ↦ asked_again c.args.seed c.self.inside c.if-seed-self.self-inside c.self.invariant.is_known (omega (arith, w.if-seed-self))
          w.self-inside-is
    ] in
    let same : c.module-module.result.now ≡ c.args.self.now.action =
    c.module-module.ensures ∙ ap (λ (s : SectionValue). s.action) asked.same ∙ ap (λ (s : SectionValue). s.action) c.self.view_is in
    subst (λ (m : ModuleValue). Answers None (IsTrueVerdict m) c.decide_knowing.result) same c.decide_knowing.ensures.holds

pub returns-clause-same : goal.returns-clause-same
returns-clause-same c =
    let asked : IsAsked c.args.seed c.self.inside c.if-seed-self.self-inside = elim c.if-seed-self.branch [
      | then-seed-self w ↦ asked_anew c.args.seed c.self.inside c.if-seed-self.self-inside w.nothing.result w.nothing.ensures w.self-inside-is
      | else-seed-self w ↦ asked_again c.args.seed c.self.inside c.if-seed-self.self-inside c.self.invariant.is_known (omega (arith, w.if-seed-self))
          w.self-inside-is
    ] in
    asked.same ∙ c.self.view_is

pub returns-clause-same_field : goal.returns-clause-same_field
returns-clause-same_field c =
    let asked : IsAsked c.args.seed c.self.inside c.if-seed-self.self-inside = elim c.if-seed-self.branch [
      | then-seed-self w ↦ asked_anew c.args.seed c.self.inside c.if-seed-self.self-inside w.nothing.result w.nothing.ensures w.self-inside-is
      | else-seed-self w ↦ asked_again c.args.seed c.self.inside c.if-seed-self.self-inside c.self.invariant.is_known (omega (arith, w.if-seed-self))
          w.self-inside-is
    ] in
    let same : c.module-module.result.now ≡ c.args.self.now.action =
    c.module-module.ensures ∙ ap (λ (s : SectionValue). s.action) asked.same ∙ ap (λ (s : SectionValue). s.action) c.self.view_is in
    c.decide_knowing.ensures.same_field ∙ ap (λ (m : ModuleValue). m.order) same
