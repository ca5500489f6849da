use Rattle.std.proofs.Common.{sym, ap, ◌∙◌}
use Rattle.axe_plane.specs.Planes.{digits_of}
use Rattle.axe_row.proofs.KeptPlanes.{prime_entries}
use Rattle.axe_row.proofs.KnownFieldLaws.{degree_from_five}
use Rattle.axe_row.proofs.Row.bytes.Goals as goal

pub returns : goal.returns
returns c =
    sym (ap digits_of c.in-Bytes.is) ∙ prime_entries _ _ _ _ c.self.invariant c.self.view_is (degree_from_five c.args.self.now.order c.requires)
