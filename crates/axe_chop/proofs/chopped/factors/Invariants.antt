use Rattle.std.proofs.Common.{◌≡◌, ◌++◌}
use Rattle.std.specs.Vec.Iter.{into_iter_items}
use Rattle.axe_chop.specs.Chopped.{AreFirst}
use Rattle.axe_chop.proofs.chopped.factors.Given as goal

abbrev pub invariant-loop-form : goal.invariant-loop-form
invariant-loop-form l = record {
  items : l.yielded ++ into_iter_items l.form-iterator ≡ l.fn.forms.items;
  first : AreFirst l.yielded l.places l.dims.items l.factors.entries;
}
