use Rattle.std.proofs.Common.{arith}
use Rattle.axe_file.proofs.Bytes.{limit_of_byte}
use Rattle.axe_file.proofs.LastBytes.{below_in_run, not_below_after}
use Rattle.axe_file.proofs.reading.fitting_bytes.Goals as goal

pub overflow_cast-layout : goal.overflow_cast-layout
overflow_cast-layout c = record { fits = omega (arith, limit_of_byte c.args.layout.now.field, c.args.layout.now.limit_is, c.if-layout-eq256.false) }

pub returns-clause-below : goal.returns-clause-below
returns-clause-below c place less = below_in_run c.args.bytes.now c.args.offset c.args.layout.now.limit place (omega (arith, less, c.min.ensures, c.end_of_run-end.ensures))

pub returns-clause-next : goal.returns-clause-next
returns-clause-next c less =
    not_below_after c.args.bytes.now c.args.offset c.args.layout.now.limit c.min.result (omega (arith, less, c.min.ensures, c.end_of_run-end.ensures)) (omega (arith, less, c.requires))

pub end_of_run-end-requires-clause-fits : goal.end_of_run-end-requires-clause-fits
end_of_run-end-requires-clause-fits c = omega (arith, limit_of_byte c.args.layout.now.field, c.args.layout.now.limit_is)
