use Rattle.std.proofs.Common.{◌≡◌, ◌+◌, ◌*◌, ◌≤◌, length, ap, subst, arith}
use Rattle.std.specs.List.{All}
use Rattle.std.proofs.lemmas.Nat.{mul-le}
use Rattle.axe_field.specs.Order.{Order, order_number, IsElement}
use Rattle.axe_row.proofs.CombinationLaws.{rows-below}
use Rattle.axe_row.proofs.SummedTables.{AreSumsWith, sums_with}
use Rattle.axe_row.proofs.combos.Combos.add_multiple_of.Goals as goal

pub overflow_mul-start : goal.overflow_mul-start
overflow_mul-start c =
    let small : length c.args.self.now.rows ≤ 256 = rows-below _ c.requires.table in
    let scalar : c.from.result ≤ order_number c.args.self.now.order = omega (arith, c.from.ensures, c.requires.element) in
    omega (arith, c.requires.room, small, mul-le c.from.result c.args.filled (order_number c.args.self.now.order) c.args.filled scalar (omega arith))

pub returns-clause-kept : goal.returns-clause-kept
returns-clause-kept c =
    let place : c.from.result * c.args.filled ≡ c.args.scalar * c.args.filled = ap (λ x. x * c.args.filled) c.from.ensures in
    let room : (c.args.scalar + 1) * c.args.filled ≤ order_number c.args.self.now.order * c.args.filled =
    mul-le (c.args.scalar + 1) c.args.filled _ c.args.filled (omega (arith, c.requires.element)) (omega arith) in
    let one : c.args.filled ≤ c.args.scalar * c.args.filled =
    omega (arith, mul-le 1 c.args.filled c.args.scalar c.args.filled c.requires.nonzero (omega arith)) in
    let made : AreSumsWith c.args.filled c.args.scalar c.args.row.now.entries c.args.self.now c.put_sums.new.self =
    sums_with _ _ (c.from.result * c.args.filled) _ _ _ _ c.requires.table c.requires.element
    (subst (λ (o : Order). All (IsElement o) c.args.row.now.entries) c.requires.field c.requires.row.elements) c.requires.fits place c.requires.some
    (omega (arith, place, one)) (omega (arith, place, room, c.requires.room)) c.put_sum.ensures.sum
    (record {
      kept = c.put_sums.ensures.kept;
      sums = c.put_sums.ensures.sums;
      kind = c.put_sums.ensures.kind;
      well_formed = c.put_sums.ensures.well_formed;
    }) in
    made.kept

pub returns-clause-sums : goal.returns-clause-sums
returns-clause-sums c =
    let place : c.from.result * c.args.filled ≡ c.args.scalar * c.args.filled = ap (λ x. x * c.args.filled) c.from.ensures in
    let room : (c.args.scalar + 1) * c.args.filled ≤ order_number c.args.self.now.order * c.args.filled =
    mul-le (c.args.scalar + 1) c.args.filled _ c.args.filled (omega (arith, c.requires.element)) (omega arith) in
    let one : c.args.filled ≤ c.args.scalar * c.args.filled =
    omega (arith, mul-le 1 c.args.filled c.args.scalar c.args.filled c.requires.nonzero (omega arith)) in
    let made : AreSumsWith c.args.filled c.args.scalar c.args.row.now.entries c.args.self.now c.put_sums.new.self =
    sums_with _ _ (c.from.result * c.args.filled) _ _ _ _ c.requires.table c.requires.element
    (subst (λ (o : Order). All (IsElement o) c.args.row.now.entries) c.requires.field c.requires.row.elements) c.requires.fits place c.requires.some
    (omega (arith, place, one)) (omega (arith, place, room, c.requires.room)) c.put_sum.ensures.sum
    (record {
      kept = c.put_sums.ensures.kept;
      sums = c.put_sums.ensures.sums;
      kind = c.put_sums.ensures.kind;
      well_formed = c.put_sums.ensures.well_formed;
    }) in
    made.summed

pub returns-clause-kind : goal.returns-clause-kind
returns-clause-kind c =
    let place : c.from.result * c.args.filled ≡ c.args.scalar * c.args.filled = ap (λ x. x * c.args.filled) c.from.ensures in
    let room : (c.args.scalar + 1) * c.args.filled ≤ order_number c.args.self.now.order * c.args.filled =
    mul-le (c.args.scalar + 1) c.args.filled _ c.args.filled (omega (arith, c.requires.element)) (omega arith) in
    let one : c.args.filled ≤ c.args.scalar * c.args.filled =
    omega (arith, mul-le 1 c.args.filled c.args.scalar c.args.filled c.requires.nonzero (omega arith)) in
    let made : AreSumsWith c.args.filled c.args.scalar c.args.row.now.entries c.args.self.now c.put_sums.new.self =
    sums_with _ _ (c.from.result * c.args.filled) _ _ _ _ c.requires.table c.requires.element
    (subst (λ (o : Order). All (IsElement o) c.args.row.now.entries) c.requires.field c.requires.row.elements) c.requires.fits place c.requires.some
    (omega (arith, place, one)) (omega (arith, place, room, c.requires.room)) c.put_sum.ensures.sum
    (record {
      kept = c.put_sums.ensures.kept;
      sums = c.put_sums.ensures.sums;
      kind = c.put_sums.ensures.kind;
      well_formed = c.put_sums.ensures.well_formed;
    }) in
    made.kind

pub returns-clause-well_formed : goal.returns-clause-well_formed
returns-clause-well_formed c =
    let place : c.from.result * c.args.filled ≡ c.args.scalar * c.args.filled = ap (λ x. x * c.args.filled) c.from.ensures in
    let room : (c.args.scalar + 1) * c.args.filled ≤ order_number c.args.self.now.order * c.args.filled =
    mul-le (c.args.scalar + 1) c.args.filled _ c.args.filled (omega (arith, c.requires.element)) (omega arith) in
    let one : c.args.filled ≤ c.args.scalar * c.args.filled =
    omega (arith, mul-le 1 c.args.filled c.args.scalar c.args.filled c.requires.nonzero (omega arith)) in
    let made : AreSumsWith c.args.filled c.args.scalar c.args.row.now.entries c.args.self.now c.put_sums.new.self =
    sums_with _ _ (c.from.result * c.args.filled) _ _ _ _ c.requires.table c.requires.element
    (subst (λ (o : Order). All (IsElement o) c.args.row.now.entries) c.requires.field c.requires.row.elements) c.requires.fits place c.requires.some
    (omega (arith, place, one)) (omega (arith, place, room, c.requires.room)) c.put_sum.ensures.sum
    (record {
      kept = c.put_sums.ensures.kept;
      sums = c.put_sums.ensures.sums;
      kind = c.put_sums.ensures.kind;
      well_formed = c.put_sums.ensures.well_formed;
    }) in
    made.well_formed
