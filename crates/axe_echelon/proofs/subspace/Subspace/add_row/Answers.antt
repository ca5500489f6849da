use Rattle.std.proofs.Common.{◌<◌, ap, arith, refl, sym, subst, ◌∙◌}
use Rattle.axe_row.specs.declared.refusals.Refusal.TheVariants.{Memory}
use Rattle.axe_echelon.specs.Echelons.{EchelonValue}
use Rattle.axe_echelon.specs.PivotTables.{HasRoom}
use Rattle.axe_echelon.specs.Subspaces.{space_of}
use Rattle.axe_echelon.proofs.Exits.{no_memory, in_any_case}
use Rattle.axe_echelon.proofs.PivotLaws.{pivots_by_row, blocks_by_row, tabled_as}
use Rattle.axe_echelon.proofs.PivotTableLaws.{room_for_block}
use Rattle.axe_echelon.proofs.PivotRowLaws.{echelon_of_rows, space_of_more, tabled_more}
use Rattle.axe_echelon.proofs.subspace.Subspace.add_row.Goals.{In_ok-make_room}
use Rattle.axe_echelon.proofs.subspace.Subspace.add_row.Goals as goal

place : (c : In_ok-make_room) → c.args.row.pivot < c.self.inside.cols
place c = subst (λ n. c.args.row.pivot < n) (ap (λ (e : EchelonValue). e.cols) (sym c.self.view_is)) c.requires.place

room : (c : In_ok-make_room) → HasRoom c.self.inside.cols c.make_room.new.self
room c = c.in_ok-make_room.ensures.room _ c.self.invariant.tabled

pub mark-requires-clause-row : goal.mark-requires-clause-row
mark-requires-clause-row c =
    omega (arith, place (goal.at.mark-requires-clause-row c).In_ok-make_room, (room (goal.at.mark-requires-clause-row c).In_ok-make_room).rows)

pub mark-requires-clause-block : goal.mark-requires-clause-block
mark-requires-clause-block c =
    room_for_block _ _ c.args.row.pivot (room (goal.at.mark-requires-clause-block c).In_ok-make_room) (place (goal.at.mark-requires-clause-block c).In_ok-make_room)

pub invariant_of-self : goal.invariant_of-self
invariant_of-self c =
    tabled_as _ _ c.self.inside.rows.items c.self.inside.rows.items c.self.inside.pivots c.make_room.new.self refl c.self.invariant
    (c.make_room.ensures.pivots _ c.self.invariant.tabled) (c.make_room.ensures.has_blocks _ c.self.invariant.has_blocks)

pub invariant_of-self-in_err-push : goal.invariant_of-self-in_err-push
invariant_of-self-in_err-push c =
    tabled_as _ _ c.self.inside.rows.items c.push.new.self.items c.self.inside.pivots c.make_room.new.self c.in_err-push.ensures.items c.self.invariant
    (c.make_room.ensures.pivots _ c.self.invariant.tabled) (c.make_room.ensures.has_blocks _ c.self.invariant.has_blocks)

pub invariant_of-self-2 : goal.invariant_of-self-2
invariant_of-self-2 c =
    tabled_more _ _ c.self.inside.rows.items c.push.new.self.items c.args.row c.args.self.now c.self.inside.pivots c.mark.new.self
    c.in_ok-push.ensures.items c.self.invariant c.self.view_is c.requires
    (pivots_by_row c.self.inside.cols c.self.inside.rows.items c.push.new.self.items c.args.row c.make_room.new.self c.mark.new.self c.len-index.result
    c.in_ok-push.ensures.items (c.make_room.ensures.pivots _ c.self.invariant.tabled) (room (goal.at.invariant_of-self-2 c).In_ok-make_room)
    (place (goal.at.invariant_of-self-2 c).In_ok-make_room) (omega (arith, c.len-index.ensures, c.self.inside.rows.ok.0)) c.mark.ensures.marks
    c.mark.ensures.rows c.bit_block-block.result c.mark.ensures.block)
    (blocks_by_row c.self.inside.cols c.self.inside.rows.items c.push.new.self.items c.args.row c.make_room.new.self c.mark.new.self c.len-index.result
    c.in_ok-push.ensures.items (c.make_room.ensures.pivots _ c.self.invariant.tabled) (room (goal.at.invariant_of-self-2 c).In_ok-make_room)
    (place (goal.at.invariant_of-self-2 c).In_ok-make_room) (omega (arith, c.len-index.ensures, c.self.inside.rows.ok.0)) c.mark.ensures.marks
    c.mark.ensures.rows c.bit_block-block.result c.mark.ensures.block (c.make_room.ensures.has_blocks _ c.self.invariant.has_blocks) c.bit_block-block.ensures.block)

pub returns-clause-added : goal.returns-clause-added
returns-clause-added c = space_of_more _ _ c.self.inside.rows.items c.push.new.self.items c.args.row c.args.self.now c.in_ok-push.ensures.items c.self.view_is

pub returns-clause-unchanged : goal.returns-clause-unchanged
returns-clause-unchanged c = tt

pub returns-clause-well_formed : goal.returns-clause-well_formed
returns-clause-well_formed c = echelon_of_rows _ _ _ (invariant_of-self-2 c).are_rows

pub returns-in_err-make_room-clause-added : goal.returns-in_err-make_room-clause-added
returns-in_err-make_room-clause-added c = no_memory _ c.from_residual.result Memory c.from_residual.ensures.1 refl

pub returns-in_err-make_room-clause-unchanged : goal.returns-in_err-make_room-clause-unchanged
returns-in_err-make_room-clause-unchanged c = in_any_case c.from_residual.result _ c.self.view_is

pub returns-in_err-make_room-clause-well_formed : goal.returns-in_err-make_room-clause-well_formed
returns-in_err-make_room-clause-well_formed c = echelon_of_rows _ _ _ c.self.invariant.are_rows

pub returns-in_err-push-clause-added : goal.returns-in_err-push-clause-added
returns-in_err-push-clause-added c = no_memory _ c.from_residual-in_err-push.result Memory c.from_residual-in_err-push.ensures.1 refl

pub returns-in_err-push-clause-unchanged : goal.returns-in_err-push-clause-unchanged
returns-in_err-push-clause-unchanged c =
    in_any_case c.from_residual-in_err-push.result _
    (ap (space_of c.self.inside.field c.self.inside.cols) c.in_err-push.ensures.items ∙ c.self.view_is)

pub returns-in_err-push-clause-well_formed : goal.returns-in_err-push-clause-well_formed
returns-in_err-push-clause-well_formed c = echelon_of_rows _ _ _ (invariant_of-self-in_err-push c).are_rows
