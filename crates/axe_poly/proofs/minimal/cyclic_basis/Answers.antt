use Rattle.std.proofs.Common.{subst, sym, arith}
use Rattle.axe_algebra.specs.SpansOfLists.{IsSpanned}
use Rattle.axe_field.specs.NumberFields.{number_field}
use Rattle.axe_field.specs.Order.{Order}
use Rattle.axe_echelon.specs.Echelons.{AreCoordinates}
use Rattle.axe_echelon.proofs.EliminationLaws.{room_of_rank}
use Rattle.axe_echelon.proofs.StepLaws.{over_of_row}
use Rattle.axe_poly.specs.Powers.{IsNextPower}
use Rattle.axe_poly.proofs.PowerLaws.{basis_of_next}
use Rattle.axe_poly.proofs.minimal.cyclic_basis.Goals as goal

pub power_less-requires-clause-few : goal.power_less-requires-clause-few
power_less-requires-clause-few c =
    let powers = c.insert_powers.new.powers in
    let next = c.in_ok-next.next in
    let is_next : IsNextPower c.args.matrix.now c.args.vector.now.entries powers next = c.in_ok-next.ensures.next in
    let are : AreCoordinates powers next.entries c.in-Some.coordinates =
    rw c.in-Some.is at c.in_ok-coordinates.ensures.coefficients in
    omega (arith, are.over.length_is, room_of_rank powers is_next.well_formed, is_next.well_formed.columns_fit)

pub unreachable-requires : goal.unreachable-requires
unreachable-requires c =
    let powers = c.insert_powers.new.powers in
    let next = c.in_ok-next.next in
    let is_next : IsNextPower c.args.matrix.now c.args.vector.now.entries powers next = c.in_ok-next.ensures.next in
    let outside : ¬ (IsSpanned (number_field powers.order) powers.rows next.entries) =
    rw c.in-None.is at c.in_ok-coordinates.ensures.coefficients in
    outside
    (subst (λ (o : Order). IsSpanned (number_field o) powers.rows next.entries) (sym is_next.field) is_next.spanned)

pub returns : goal.returns
returns c =
    let m = c.args.matrix.now in
    let v = c.args.vector.now in
    let powers = c.insert_powers.new.powers in
    let is_next : IsNextPower m v.entries powers c.in_ok-next.next = c.in_ok-next.ensures.next in
    let are : AreCoordinates powers c.in_ok-next.next.entries c.in-Some.coordinates =
    rw c.in-Some.is at c.in_ok-coordinates.ensures.coefficients in
    basis_of_next m v c.cols.ensures.well_formed c.requires.square
    (over_of_row m.order m.cols v c.requires.field c.len.ensures.well_formed c.requires.fits) powers c.in_ok-next.next
    is_next c.in-Some.coordinates are
    (record { rows = c.insert_powers.new.rows; minimal = c.in_ok-minimal-in-Some.minimal })
    c.in_ok-minimal-in-Some.ensures c.in_ok-next.ensures.same_rows c.cols-4.ensures.well_formed
