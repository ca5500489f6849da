use Rattle.std.proofs.Common.{◌≡◌, Bool, true, false, arith}
use Rattle.axe_echelon.proofs.Exits.{no_memory}
use Rattle.axe_echelon.proofs.StepLaws.{steps_fit}
use Rattle.axe_echelon.proofs.coordinates_of.Goals as goal

not_both : (b : Bool) → b ≡ true → b ≡ false → ⊥
not_both b t f = cc

pub negated_start-requires : goal.negated_start-requires
negated_start-requires c = omega (arith, steps_fit _ _ c.requires.steps, c.solve.ensures.over.length_is)

pub returns-then-not-is_zero : goal.returns-then-not-is_zero
returns-then-not-is_zero c = λ zeros. not_both c.is_zero.result (c.is_zero.ensures.1 zeros) c.if-not-is_zero.true

pub returns : goal.returns
returns c = record {
  nothing_left = c.is_zero.ensures.0 c.if-not-is_zero.false;
  solution = c.solve.ensures;
  negated = c.in_ok-negated_start.ensures;
}

pub returns-in_err-negated_start : goal.returns-in_err-negated_start
returns-in_err-negated_start c = no_memory _ c.from_residual.result _ c.from_residual.ensures.1 c.in_err-negated_start.ensures
