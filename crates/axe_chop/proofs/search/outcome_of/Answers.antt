use Rattle.std.proofs.Common.{subst}
use Rattle.axe_chop.specs.Searches.{AreDecided}
use Rattle.axe_chop.proofs.Stepping.{answered_open}
use Rattle.axe_chop.proofs.search.outcome_of.Goals as goal

pub open_at-requires-clause-like : goal.open_at-requires-clause-like
open_at-requires-clause-like c =
    (subst (AreDecided c.requires.whole c.requires.seed c.requires.words c.args.found c.args.after.now.items) c.in-Some.is c.requires.decided).like

pub open_at-requires-clause-after_like : goal.open_at-requires-clause-after_like
open_at-requires-clause-after_like c =
    (subst (AreDecided c.requires.whole c.requires.seed c.requires.words c.args.found c.args.after.now.items) c.in-Some.is c.requires.decided).after_like

pub open_at-requires-clause-room : goal.open_at-requires-clause-room
open_at-requires-clause-room c =
    (subst (AreDecided c.requires.whole c.requires.seed c.requires.words c.args.found c.args.after.now.items) c.in-Some.is c.requires.decided).room

pub returns-in-Some : goal.returns-in-Some
returns-in-Some c =
    λ m seed words decided. answered_open m seed words c.args.found c.in-Some.section c.args.after.now.items c.open_at.result
    (subst (AreDecided m seed words c.args.found c.args.after.now.items) c.in-Some.is decided)
    c.open_at.ensures.opened c.open_at.ensures.well_formed

pub returns-in-None : goal.returns-in-None
returns-in-None c =
    λ m seed words decided.
    subst (AreDecided m seed words c.args.found c.args.after.now.items) c.in-None.is decided
