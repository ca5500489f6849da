use Rattle.std.proofs.Common.{sym, ◌∙◌}
use Rattle.axe_row.specs.declared.refusals.Refusal.TheVariants.{ZeroSeed}
use Rattle.axe_matrix.specs.Matrices.{has_only_zeros}
use Rattle.axe_echelon.proofs.Exits.{handed_on, not_refused}
use Rattle.axe_spin.specs.Modules.{rows_refusal}
use Rattle.axe_spin.proofs.SeedLaws.{zeros_refusal, refused_first, then_second, zeros_refused, others_accepted}
use Rattle.axe_spin.proofs.generated.check_seed.Goals as goal

pub returns-in_err-check_rows-clause-refusal : goal.returns-in_err-check_rows-clause-refusal
returns-in_err-check_rows-clause-refusal c =
    handed_on c.from_residual.result _ c.from_residual.ensures.1
    ∙ refused_first (rows_refusal c.args.module.now c.args.seed.now) (zeros_refusal (has_only_zeros c.args.seed.now.rows) ZeroSeed) tt _ c.in_err-check_rows.ensures.refusal

pub returns-then-has_only_zeros-clause-refusal : goal.returns-then-has_only_zeros-clause-refusal
returns-then-has_only_zeros-clause-refusal c =
    let none = not_refused (rows_refusal c.args.module.now c.args.seed.now) tt c.in_ok-check_rows.field-0 c.in_ok-check_rows.ensures.refusal in
    zeros_refused (has_only_zeros c.args.seed.now.rows) ZeroSeed tt (sym c.has_only_zeros.ensures ∙ c.if-has_only_zeros.true)
    ∙ then_second (rows_refusal c.args.module.now c.args.seed.now) (zeros_refusal (has_only_zeros c.args.seed.now.rows) ZeroSeed) tt none

pub returns-clause-refusal : goal.returns-clause-refusal
returns-clause-refusal c =
    let none = not_refused (rows_refusal c.args.module.now c.args.seed.now) tt c.in_ok-check_rows.field-0 c.in_ok-check_rows.ensures.refusal in
    others_accepted (has_only_zeros c.args.seed.now.rows) ZeroSeed tt (sym c.has_only_zeros.ensures ∙ c.if-has_only_zeros.false)
    ∙ then_second (rows_refusal c.args.module.now c.args.seed.now) (zeros_refusal (has_only_zeros c.args.seed.now.rows) ZeroSeed) tt none
