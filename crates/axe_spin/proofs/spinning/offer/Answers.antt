use Rattle.std.proofs.Common.{refl}
use Rattle.axe_echelon.proofs.Exits.{no_memory}
use Rattle.axe_spin.proofs.SpunLaws.{room_of_new, span_of_new, span_of_old, offered_new, offered_old}
use Rattle.axe_spin.proofs.spinning.offer.Goals as goal

pub append-requires-clause-room : goal.append-requires-clause-room
append-requires-clause-room c =
    room_of_new c.args.span.now c.insert.new.self c.args.rows.now c.in_ok-copy.copy.entries c.in_ok-outside.outside c.requires.span
    c.insert.ensures.well_formed c.in_ok-outside.ensures.inserted c.if-outside.true

pub returns-in_ok-append-clause-offered : goal.returns-in_ok-append-clause-offered
returns-in_ok-append-clause-offered c =
    let offered = offered_new c.args.span.now c.args.rows.now c.append.new.self c.in_ok-copy.copy.entries c.in_ok-outside.outside c.requires.span
    c.in_ok-outside.ensures.exactly.0 c.if-outside.true (rw c.in_ok-copy.ensures.copied c.in_ok-append.ensures.appended) in
    rw c.in_ok-copy.ensures.copied at offered

pub returns-else-outside-clause-offered : goal.returns-else-outside-clause-offered
returns-else-outside-clause-offered c =
    let offered = offered_old c.args.span.now c.args.rows.now c.in_ok-copy.copy.entries c.in_ok-outside.outside c.requires.well_formed
    c.requires.span (rw c.in_ok-copy.ensures.copied c.requires.fits) c.in_ok-outside.ensures.exactly.1 c.if-outside.false in
    rw c.in_ok-copy.ensures.copied at offered

pub returns-in_ok-append-clause-span : goal.returns-in_ok-append-clause-span
returns-in_ok-append-clause-span c =
    span_of_new c.args.span.now c.insert.new.self c.args.rows.now c.append.new.self c.in_ok-copy.copy.entries c.in_ok-outside.outside c.requires.well_formed
    c.requires.span c.in_ok-outside.ensures.inserted (rw c.in_ok-copy.ensures.copied c.requires.fits) c.in_ok-outside.ensures.exactly.0 c.if-outside.true
    (rw c.in_ok-copy.ensures.copied c.in_ok-append.ensures.appended)

pub returns-else-outside-clause-span : goal.returns-else-outside-clause-span
returns-else-outside-clause-span c =
    span_of_old c.args.span.now c.insert.new.self c.args.rows.now c.in_ok-copy.copy.entries c.in_ok-outside.outside c.requires.span
    c.in_ok-outside.ensures.inserted c.if-outside.false

pub returns-in_err-copy-clause-offered : goal.returns-in_err-copy-clause-offered
returns-in_err-copy-clause-offered c = no_memory _ c.from_residual.result _ c.from_residual.ensures.1 c.in_err-copy.ensures.copied

pub returns-in_err-copy-clause-span : goal.returns-in_err-copy-clause-span
returns-in_err-copy-clause-span c = no_memory _ c.from_residual.result _ c.from_residual.ensures.1 c.in_err-copy.ensures.copied

pub returns-in_err-copy-clause-well_formed : goal.returns-in_err-copy-clause-well_formed
returns-in_err-copy-clause-well_formed c = no_memory _ c.from_residual.result _ c.from_residual.ensures.1 c.in_err-copy.ensures.copied

pub returns-in_err-outside-clause-offered : goal.returns-in_err-outside-clause-offered
returns-in_err-outside-clause-offered c = no_memory _ c.from_residual-in_err-outside.result _ c.from_residual-in_err-outside.ensures.1 c.in_err-outside.ensures.inserted

pub returns-in_err-outside-clause-span : goal.returns-in_err-outside-clause-span
returns-in_err-outside-clause-span c = no_memory _ c.from_residual-in_err-outside.result _ c.from_residual-in_err-outside.ensures.1 c.in_err-outside.ensures.inserted

pub returns-in_err-outside-clause-well_formed : goal.returns-in_err-outside-clause-well_formed
returns-in_err-outside-clause-well_formed c = no_memory _ c.from_residual-in_err-outside.result _ c.from_residual-in_err-outside.ensures.1 c.in_err-outside.ensures.inserted

pub returns-in_err-append-clause-offered : goal.returns-in_err-append-clause-offered
returns-in_err-append-clause-offered c = no_memory _ c.from_residual-in_err-append.result _ c.from_residual-in_err-append.ensures.1 c.in_err-append.ensures.appended

pub returns-in_err-append-clause-span : goal.returns-in_err-append-clause-span
returns-in_err-append-clause-span c = no_memory _ c.from_residual-in_err-append.result _ c.from_residual-in_err-append.ensures.1 c.in_err-append.ensures.appended

pub returns-in_err-append-clause-well_formed : goal.returns-in_err-append-clause-well_formed
returns-in_err-append-clause-well_formed c = no_memory _ c.from_residual-in_err-append.result _ c.from_residual-in_err-append.ensures.1 c.in_err-append.ensures.appended

pub returns-in_ok-append-clause-told : goal.returns-in_ok-append-clause-told
returns-in_ok-append-clause-told c = rw c.if-outside.true c.in_ok-append.ensures.appended

pub returns-else-outside-clause-told : goal.returns-else-outside-clause-told
returns-else-outside-clause-told c = rw c.if-outside.false refl

pub returns-in_err-copy-clause-told : goal.returns-in_err-copy-clause-told
returns-in_err-copy-clause-told c = no_memory _ c.from_residual.result _ c.from_residual.ensures.1 c.in_err-copy.ensures.copied

pub returns-in_err-outside-clause-told : goal.returns-in_err-outside-clause-told
returns-in_err-outside-clause-told c = no_memory _ c.from_residual-in_err-outside.result _ c.from_residual-in_err-outside.ensures.1 c.in_err-outside.ensures.inserted

pub returns-in_err-append-clause-told : goal.returns-in_err-append-clause-told
returns-in_err-append-clause-told c = no_memory _ c.from_residual-in_err-append.result _ c.from_residual-in_err-append.ensures.1 c.in_err-append.ensures.appended
