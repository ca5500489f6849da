use Rattle.std.proofs.Common.{◌≡◌, ◌≤◌, ap, ◌∙◌, arith, refl}
use Rattle.axe_row.specs.declared.refusals.Refusal.TheVariants.{Memory}
use Rattle.axe_echelon.proofs.Exits.{no_memory}
use Rattle.axe_spin.specs.Modules.{ModuleValue}
use Rattle.axe_report.specs.Limits.{most_dimension}
use Rattle.axe_chop.proofs.Factors.{first_more}
use Rattle.axe_chop.proofs.chopped.add_factor.Goals as goal

pub returns : goal.returns
returns c = λ forms first.
    let dim : c.dim-dim.result ≡ c.args.form.matrices.dim =
    c.dim-dim.ensures.count ∙ ap (λ (m : ModuleValue). m.dim) c.matrices.ensures.value in
    let fits : c.args.form.matrices.dim ≤ most_dimension =
    omega (arith, dim, c.dim-dim.ensures.count, c.dim-dim.ensures.well_formed.dim_fits) in
    rw (c.in_ok-push.ensures.items, c.in_ok-insert.ensures.entries)
    (first_more forms c.args.places.now c.args.dims.now.items c.args.factors.now.entries c.args.form c.in_ok-name.name
    c.in_ok-name.factor c.dim-dim.result first dim fits (rw c.deref.ensures.value at c.in_ok-name.ensures.name)
    c.in_ok-name.ensures.form (rw c.deref.ensures.value at c.in_ok-name.ensures.multiplicity))

pub returns-in_err-name : goal.returns-in_err-name
returns-in_err-name c =
    no_memory _ c.from_residual.result Memory c.from_residual.ensures.1 refl

pub returns-in_err-insert : goal.returns-in_err-insert
returns-in_err-insert c =
    no_memory _ c.from_residual-in_err-insert.result Memory c.from_residual-in_err-insert.ensures.1 refl

pub returns-in_err-push : goal.returns-in_err-push
returns-in_err-push c =
    no_memory _ c.from_residual-in_err-push.result Memory c.from_residual-in_err-push.ensures.1 refl
