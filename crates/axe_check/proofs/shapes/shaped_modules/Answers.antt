use Rattle.std.proofs.Common.{◌<◌, ◌≤◌, List, length, sym, subst, ◌∙◌, arith}
use Rattle.std.specs.List.{All}
use Rattle.std.proofs.lemmas.List.{length-map}
use Rattle.std.proofs.lemmas.List.Elements.{All-push}
use Rattle.axe_matrix.specs.Matrices.{MatrixValue}
use Rattle.axe_spin.specs.Modules.{IsModule}
use Rattle.axe_report.specs.Reports.{FactorValue}
use Rattle.axe_check.specs.Certificates.{lists_of}
use Rattle.axe_check.specs.Steps.{IsShapedAs, IsShapeReason, IsFirstShapeReason}
use Rattle.axe_check.proofs.StepLaws.{stopped}
use Rattle.axe_check.proofs.ShapeLaws.{shaped_more, list_at, reported_dim, shape_here}
use Rattle.axe_check.proofs.shapes.shaped_modules.Goals as goal

pub shaped_module-requires : goal.shaped_module-requires
shaped_module-requires c =
    let there : c.loop-number.number < length c.args.reported.now = omega (arith, c.loop-number-test.true, c.requires.lists) in
    record {
      dim = subst (λ d. 1 ≤ d) (sym (reported_dim c.args.reported.now c.loop-number.number c.index-reported-number.result there c.index-reported-number.is))
          (c.requires.dims c.loop-number.number 0 (omega (arith, there, length-map c.args.reported.now (λ (f : FactorValue). f.dim))));
    }

pub returns-in_err-factor-clause-shaped : goal.returns-in_err-factor-clause-shaped
returns-in_err-factor-clause-shaped c =
    let there : c.loop-number.number < length c.args.reported.now = omega (arith, c.loop-number-test.true, c.requires.lists) in
    stopped (IsShapedAs c.args.module.now c.index-reported-number.result.dim c.deref.result.now)
    (IsShapeReason c.args.module.now c.index-reported-number.result c.deref.result.now)
    (IsFirstShapeReason c.args.module.now c.args.reported.now (lists_of c.args.lists.now)) _ c.from_residual.result c.in_err-factor.field-0.0
    c.from_residual.ensures.1 c.in_err-factor.ensures.shaped
    (λ reason found. shape_here c.args.module.now c.args.reported.now c.args.lists.now c.loop-number.number c.index-reported-number.result c.index-lists-number.result there
    c.loop-number-test.true c.index-reported-number.is c.index-lists-number.is c.loop-number.invariant.shaped.shapes reason
    (subst (λ (l : List MatrixValue). IsShapeReason c.args.module.now c.index-reported-number.result l reason) c.deref.ensures.value found))

pub loop-number-preserved : goal.loop-number-preserved
loop-number-preserved c =
    let there : c.loop-number.number < length c.args.reported.now = omega (arith, c.loop-number-test.true, c.requires.lists) in
    record {
      shaped =
          shaped_more c.args.module.now c.args.reported.now (lists_of c.args.lists.now) c.loop-number.number c.loop-number.modules.items c.push.new.self.items
          c.in_ok-factor.factor c.index-reported-number.result.dim c.deref.result.now
          (reported_dim c.args.reported.now c.loop-number.number c.index-reported-number.result there c.index-reported-number.is)
          (c.deref.ensures.value ∙ list_at c.args.lists.now c.loop-number.number c.index-lists-number.result c.loop-number-test.true c.index-lists-number.is)
          c.loop-number.invariant.shaped c.in_ok-factor.ensures.shaped c.in_ok-push.ensures.items;
      formed =
          subst (All IsModule) (sym c.in_ok-push.ensures.items)
          (All-push IsModule c.loop-number.modules.items c.in_ok-factor.factor c.loop-number.invariant.formed c.in_ok-factor.ensures.well_formed);
    }
