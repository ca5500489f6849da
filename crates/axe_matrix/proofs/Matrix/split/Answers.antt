use Rattle.std.proofs.Common.{◌≡◌, ◌∙◌, length, take, drop, min, subst, sym, ap, arith}
use Rattle.std.proofs.lemmas.List.{take_min, drop_min}
use Rattle.axe_matrix.specs.RowLists.{MakeMatrix}
use Rattle.axe_matrix.proofs.SplitRows.{MakeMatrix-take, MakeMatrix-drop, first_rows_of, rows_after_of}
use Rattle.axe_matrix.proofs.Matrix.split.Goals as goal

pub invariant_of-first : goal.invariant_of-first
invariant_of-first c =
    subst (MakeMatrix c.self.inside.field c.self.inside.cols) (sym c.in_ok-after.ensures.items)
    (MakeMatrix-take c.self.inside.field c.self.inside.cols c.self.inside.rows.items c.min-kept.result c.self.invariant)

pub invariant_of-after : goal.invariant_of-after
invariant_of-after c =
    subst (MakeMatrix c.self.inside.field c.self.inside.cols) (sym c.in_ok-after.ensures.tail)
    (MakeMatrix-drop c.self.inside.field c.self.inside.cols c.self.inside.rows.items c.min-kept.result c.self.invariant)

pub returns-clause-parts : goal.returns-clause-parts
returns-clause-parts c =
    let rows = c.self.inside.rows.items in
    let kept : c.min-kept.result ≡ min c.args.count (length rows) = omega (arith, c.min-kept.ensures, c.len.ensures) in
    let first = ap (λ n. take n rows) kept ∙ take_min c.args.count rows in
    let after = ap (λ n. drop n rows) kept ∙ drop_min c.args.count rows in
    record {
      first_rows = first_rows_of _ _ _ _ _ _ c.self.view_is (c.in_ok-after.ensures.items ∙ first);
      rows_after = rows_after_of _ _ _ _ _ _ c.self.view_is (c.in_ok-after.ensures.tail ∙ after);
    }

pub returns-clause-well_formed : goal.returns-clause-well_formed
returns-clause-well_formed c = ((invariant_of-first c).matrix, (invariant_of-after c).matrix)
