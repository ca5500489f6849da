use Rattle.std.proofs.Common.{◌++◌, [], ◌∷◌, sym, ap, ◌∙◌, append_assoc, rules}
use Rattle.std.specs.Vec.Iter.{into_iter_items}
use Rattle.axe_echelon.proofs.Exits.{no_memory}
use Rattle.axe_chop.proofs.Factors.{none_first}
use Rattle.axe_chop.proofs.chopped.factors.Goals as goal

pub loop-form-init : goal.loop-form-init
loop-form-init c = record {
  items = search rules;
  first = rw (c.new-dims.ensures.items, c.new-factors.ensures.empty) (none_first c.args.places.now);
}

pub loop-form-preserved : goal.loop-form-preserved
loop-form-preserved c = record {
  items = append_assoc c.loop-form.yielded (c.in-Some.form ∷ []) (into_iter_items c.next.new.self)
      ∙ ap (λ rest. c.loop-form.yielded ++ rest) (sym c.in-Some.ensures.steps.0) ∙ c.loop-form.invariant.items;
  first = c.in_ok-add_factor.ensures c.loop-form.yielded c.loop-form.invariant.first;
}

pub returns-in_err-add_factor : goal.returns-in_err-add_factor
returns-in_err-add_factor c =
    no_memory _ c.from_residual.result _ c.from_residual.ensures.1 c.in_err-add_factor.ensures
