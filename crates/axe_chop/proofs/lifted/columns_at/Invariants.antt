use Rattle.std.proofs.Common.{◌≡◌, map, take, get_or}
use Rattle.axe_chop.proofs.lifted.columns_at.Given as goal

abbrev pub invariant-loop-place : goal.invariant-loop-place
invariant-loop-place l = l.chosen.items ≡ map (λ place. get_or l.columns place 0) (take l.place-index l.places)
