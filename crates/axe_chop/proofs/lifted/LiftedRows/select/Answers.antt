use Rattle.std.proofs.Common.{◌≡◌, get_or, map, sym, ap, subst, ◌∙◌, arith}
use Rattle.axe_matrix.specs.Matrices.{identity_matrix, rows_at}
use Rattle.axe_chop.specs.Vectors.{matrix_of_unit_vectors}
use Rattle.axe_chop.specs.Kept.{kept_rows, AreKept}
use Rattle.axe_chop.specs.declared.lifted.KeptRows.TheVariants.{Identity, Units}
use Rattle.axe_chop.proofs.Choosing.{units_are_matrix, within_identity, within_units, chosen_of_identity, chosen_of_units, chosen_within, chosen_count}
use Rattle.axe_chop.proofs.lifted.LiftedRows.select.Goals as goal

pub invariant_of-result : goal.invariant_of-result
invariant_of-result c =
    let whole : c.args.self ≡ identity_matrix c.in-Identity.field c.in-Identity.dim = sym c.self.view_is ∙ ap kept_rows c.in-Identity.is in
    let kept : AreKept (Identity c.in-Identity.field c.in-Identity.dim) = subst AreKept c.in-Identity.is c.self.invariant in
    record {
      well_formed = units_are_matrix c.in-Identity.field c.in-Identity.dim c.args.places.items kept.well_formed.some_column
          kept.well_formed.columns_fit c.requires.places_fit;
      within = within_identity c.in-Identity.field c.in-Identity.dim c.args.self c.args.places.items whole c.requires.within;
    }

pub returns-in-Identity : goal.returns-in-Identity
returns-in-Identity c =
    let whole : c.args.self ≡ identity_matrix c.in-Identity.field c.in-Identity.dim = sym c.self.view_is ∙ ap kept_rows c.in-Identity.is in
    chosen_of_identity c.in-Identity.field c.in-Identity.dim c.args.places.items
    (within_identity c.in-Identity.field c.in-Identity.dim c.args.self c.args.places.items whole c.requires.within)
    ∙ ap (λ m. rows_at c.args.places.items m) (sym whole)

pub invariant_of-result-in-Units : goal.invariant_of-result-in-Units
invariant_of-result-in-Units c =
    let whole : c.args.self ≡ matrix_of_unit_vectors c.in-Units.field c.in-Units.dim c.in-Units.columns.items =
    sym c.self.view_is ∙ ap kept_rows c.in-Units.is in
    let kept : AreKept (Units c.in-Units.field c.in-Units.dim c.in-Units.columns) = subst AreKept c.in-Units.is c.self.invariant in
    let chosen : c.in_ok-columns-in-Units.columns.items ≡ map (λ place. get_or c.in-Units.columns.items place 0) c.args.places.items =
    c.in_ok-columns-in-Units.ensures
    ∙ (λ k. map (λ place. get_or (c.deref.ensures.value k) place 0) (c.deref-in-Units.ensures.value k)) in
    record {
      well_formed = units_are_matrix c.in-Units.field c.in-Units.dim c.in_ok-columns-in-Units.columns.items kept.well_formed.some_column
          kept.well_formed.columns_fit
          (omega (
            arith,
            chosen_count c.in-Units.columns.items c.args.places.items c.in_ok-columns-in-Units.columns.items chosen,
            c.requires.places_fit,
          ));
      within = chosen_within c.in-Units.dim c.in-Units.columns.items c.args.places.items c.in_ok-columns-in-Units.columns.items kept.within
          (within_units c.in-Units.field c.in-Units.dim c.in-Units.columns.items c.args.self c.args.places.items whole c.requires.within)
          chosen;
    }

pub returns-in_ok-columns-in-Units : goal.returns-in_ok-columns-in-Units
returns-in_ok-columns-in-Units c =
    let whole : c.args.self ≡ matrix_of_unit_vectors c.in-Units.field c.in-Units.dim c.in-Units.columns.items =
    sym c.self.view_is ∙ ap kept_rows c.in-Units.is in
    let chosen : c.in_ok-columns-in-Units.columns.items ≡ map (λ place. get_or c.in-Units.columns.items place 0) c.args.places.items =
    c.in_ok-columns-in-Units.ensures
    ∙ (λ k. map (λ place. get_or (c.deref.ensures.value k) place 0) (c.deref-in-Units.ensures.value k)) in
    chosen_of_units c.in-Units.field c.in-Units.dim c.in-Units.columns.items c.args.places.items c.in_ok-columns-in-Units.columns.items
    (within_units c.in-Units.field c.in-Units.dim c.in-Units.columns.items c.args.self c.args.places.items whole c.requires.within) chosen
    ∙ ap (λ m. rows_at c.args.places.items m) (sym whole)
