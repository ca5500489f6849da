use Rattle.std.proofs.Common.{◌<◌, length, take}
use Rattle.axe_word.specs.Limits.{most_numbers}
use Rattle.axe_word.proofs.StoredLaws.{IsStoredTerm-push}
use Rattle.axe_word.proofs.stored.StoredTerm.push.Goals as goal

pub invariant_of-self : goal.invariant_of-self
invariant_of-self c =
    let room : length (take c.self.inside.len c.self.inside.places) < most_numbers = rw (← c.self.view_is) at c.requires in
    IsStoredTerm-push c.self.inside c.args.number c.self.invariant room
