use Rattle.std.proofs.Common.{◌≡◌, ◌≤◌, take}
use Rattle.axe_report.specs.Names.{count_of}
use Rattle.axe_chop.proofs.chopped.count_place.Given as goal

abbrev pub invariant-loop-place : goal.invariant-loop-place
invariant-loop-place l = (l.count ≡ count_of l.number (take l.place-index l.places)) × (l.count ≤ l.place-index)
