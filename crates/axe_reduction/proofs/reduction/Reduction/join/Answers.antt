use Rattle.std.proofs.Common.{rules, arith, ap, ◌∙◌, length, List, ℕ, ◌++◌}
use Rattle.axe_reduction.specs.Augmented.{AugmentedValue, with_rows}
use Rattle.axe_reduction.proofs.ClearLaws.{length-cleared}
use Rattle.axe_reduction.proofs.reduction.Reduction.join.Goals as goal

pub with_rows-requires-clause-room : goal.with_rows-requires-clause-room
with_rows-requires-clause-room c =
    omega (
      arith,
      ap (λ (a : AugmentedValue). length a.rows) c.in_ok-reduced.ensures.cleared,
      length-cleared c.args.further.pivots.items c.args.further.reduced c.args.self.reduced,
      c.requires.room,
    )

pub returns : goal.returns
returns c = record {
  reduced =
      c.in_ok-reduced-2.ensures.rows
      ∙ ap (λ (a : AugmentedValue). with_rows a c.args.further.reduced) c.in_ok-reduced.ensures.cleared;
  pivots =
      c.in_ok-extend_from_slice.ensures.items
      ∙ ap (λ (l : List ℕ). c.args.self.pivots.items ++ l) c.deref.ensures.value;
  rest = c.in_ok-rest.ensures.rows;
  reduced_well_formed = c.in_ok-reduced-2.ensures.well_formed;
  rest_well_formed = c.in_ok-rest.ensures.well_formed;
}

pub with_rows-requires-clause-alike : goal.with_rows-requires-clause-alike
with_rows-requires-clause-alike c = search rules

pub with_rows-requires-2-clause-alike : goal.with_rows-requires-2-clause-alike
with_rows-requires-2-clause-alike c = search rules

pub with_rows-requires-2-clause-room : goal.with_rows-requires-2-clause-room
with_rows-requires-2-clause-room c = search rules
