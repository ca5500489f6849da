use Rattle.std.proofs.Common.{◌<◌, length, take}
use Rattle.axe_word.specs.Limits.{most_terms}
use Rattle.axe_word.proofs.StoredLaws.{IsStoredWord-push}
use Rattle.axe_word.proofs.word.Word.push.Goals as goal

pub invariant_of-self : goal.invariant_of-self
invariant_of-self c =
    let room : length (take c.self.inside.len c.self.inside.terms) < most_terms = rw (← c.self.view_is) at c.requires.room in
    IsStoredWord-push c.self.inside c.args.term c.self.invariant room c.requires.nonzero c.requires.fits
