use Rattle.std.proofs.Common.{sym, subst}
use Rattle.axe_algebra.specs.Lists.{IsMatrixOver}
use Rattle.axe_field.specs.NumberFields.{number_field}
use Rattle.axe_echelon.proofs.Exits.{not_refused, refused_at_once, no_memory, answers_early}
use Rattle.axe_echelon.specs.Echelons.{EchelonValue}
use Rattle.axe_spin.specs.Spaces.{IsSubspaceOf}
use Rattle.axe_spin.specs.Spinning.{seed_refusal, IsGeneratedSpace}
use Rattle.axe_spin.proofs.SeedLaws.{seed_if_not_refused, vectors_over}
use Rattle.axe_spin.proofs.SpaceLaws.{subspace_of_rows, generated_by_rows}
use Rattle.axe_spin.proofs.generated.generated_space.Goals as goal

pub make_invariant-requires : goal.make_invariant-requires
make_invariant-requires c =
    let none = not_refused (seed_refusal c.args.module.now c.args.seed.now) tt c.in_ok-check_seed.field-0 c.in_ok-check_seed.ensures.refusal in
    let taken = seed_if_not_refused c.args.module.now c.args.seed.now none in
    subst (IsSubspaceOf c.args.module.now) (sym c.reserve.ensures.same)
    (subspace_of_rows c.args.module.now c.args.seed.now c.in_ok-space.space taken.field taken.columns c.in_ok-space.ensures.span)

pub returns-in_err-reserve : goal.returns-in_err-reserve
returns-in_err-reserve c =
    let none = not_refused (seed_refusal c.args.module.now c.args.seed.now) tt c.in_ok-check_seed.field-0 c.in_ok-check_seed.ensures.refusal in
    answers_early (seed_refusal c.args.module.now c.args.seed.now) _ c.from_residual-in_err-reserve.result none
    (no_memory _ c.from_residual-in_err-reserve.result _ c.from_residual-in_err-reserve.ensures.1 c.in_err-reserve.ensures.memory)

pub returns-in_err-check_seed : goal.returns-in_err-check_seed
returns-in_err-check_seed c =
    refused_at_once (seed_refusal c.args.module.now c.args.seed.now) tt _ c.from_residual.result _ c.in_err-check_seed.ensures.refusal c.from_residual.ensures.1

pub returns-in_err-space : goal.returns-in_err-space
returns-in_err-space c =
    let none = not_refused (seed_refusal c.args.module.now c.args.seed.now) tt c.in_ok-check_seed.field-0 c.in_ok-check_seed.ensures.refusal in
    answers_early (seed_refusal c.args.module.now c.args.seed.now) _ c.from_residual-in_err-space.result none
    (no_memory _ c.from_residual-in_err-space.result _ c.from_residual-in_err-space.ensures.1 c.in_err-space.ensures.span)

pub returns-in_err-make_invariant : goal.returns-in_err-make_invariant
returns-in_err-make_invariant c =
    let none = not_refused (seed_refusal c.args.module.now c.args.seed.now) tt c.in_ok-check_seed.field-0 c.in_ok-check_seed.ensures.refusal in
    answers_early (seed_refusal c.args.module.now c.args.seed.now) _ c.from_residual-in_err-make_invariant.result none
    (no_memory _ c.from_residual-in_err-make_invariant.result _ c.from_residual-in_err-make_invariant.ensures.1 c.in_err-make_invariant.ensures.generated)

pub returns : goal.returns
returns c =
    let m = c.args.module.now in
    let seed = c.args.seed.now in
    let none = not_refused (seed_refusal m seed) tt c.in_ok-check_seed.field-0 c.in_ok-check_seed.ensures.refusal in
    let taken = seed_if_not_refused m seed none in
    let over : IsMatrixOver (number_field m.order) m.dim seed.rows = vectors_over m seed taken.field taken.columns c.check_seed.ensures.seed_well_formed in
    rw none (generated_by_rows m c.make_invariant.ensures.module_well_formed seed c.in_ok-space.space c.make_invariant.new.space taken.field over
    c.in_ok-space.ensures.span (subspace_of_rows m seed c.in_ok-space.space taken.field taken.columns c.in_ok-space.ensures.span)
    (subst (λ (space : EchelonValue). IsGeneratedSpace m space.rows c.make_invariant.new.space) c.reserve.ensures.same
    c.in_ok-make_invariant.ensures.generated))
