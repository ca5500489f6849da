use Rattle.std.proofs.Common.{◌≡◌, length}
use Rattle.axe_check.specs.Steps.{AreSeenTo, AreFormsOf}
use Rattle.axe_check.proofs.words.seen_forms.Given as goal

abbrev pub invariant-loop-number : goal.invariant-loop-number
invariant-loop-number l = record {
  field : l.table.order ≡ l.fn.field;
  seen : AreSeenTo l.factors l.seed l.reported l.number;
  forms_are : AreFormsOf l.factors l.forms.items;
  count : length l.forms.items ≡ l.number;
}
