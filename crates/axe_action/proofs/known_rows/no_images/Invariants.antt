use Rattle.std.proofs.Common.{◌≡◌, length, All, None}
use Rattle.axe_action.proofs.known_rows.no_images.Given as goal

abbrev pub invariant-loop-index : goal.invariant-loop-index
invariant-loop-index l = (length l.images.items ≡ l._index) × All (λ image. image ≡ None) l.images.items
