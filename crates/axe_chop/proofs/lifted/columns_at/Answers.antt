use Rattle.std.proofs.Common.{ℕ, List, [], ◌∷◌, ◌++◌, get_or, sym, ap, ◌∙◌}
use Rattle.std.proofs.lemmas.List.{map_more}
use Rattle.axe_chop.proofs.lifted.columns_at.Goals as goal

pub loop-place-preserved : goal.loop-place-preserved
loop-place-preserved c =
    c.in_ok-push.ensures.items
    ∙ ap (λ (l : List ℕ). l ++ get_or c.args.columns.now (get_or c.args.places.now c.loop-place.place-index 0) 0 ∷ []) c.loop-place.invariant
    ∙ sym (map_more (λ place. get_or c.args.columns.now place 0) c.args.places.now c.loop-place.place-index 0 c.loop-place-test.true)
