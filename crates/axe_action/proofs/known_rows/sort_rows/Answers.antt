use Rattle.std.proofs.Common.{◌≡◌, [], ◌∷◌, ◌++◌, ◌∙◌, ap, rules}
use Rattle.axe_action.specs.declared.known_rows.KnownRow.{KnownRow}
use Rattle.axe_action.proofs.KnownRowLaws.{sorted_none, sorted_unit, sorted_product}
use Rattle.axe_action.proofs.known_rows.sort_rows.Goals.{in-Some, in-None+in_ok-push-in-None}
use Rattle.axe_action.proofs.known_rows.sort_rows.Goals as goal

pub loop-index-init : goal.loop-index-init
loop-index-init c = sorted_none _ _ _ c.new-others.ensures.items c.new-rows.ensures.items

pub loop-index-preserved : goal.loop-index-preserved
loop-index-preserved c =
    let pushed : c.push-in-loop-index.new.self.items ≡ c.loop-index.rows.items ++ c.match-image.row ∷ [] = search rules in
    elim c.match-image.branch [
      | in-Some w ↦
          rw w.others-is (sorted_unit c.args.images.now c.loop-index.index c.loop-index.others.items c.loop-index.rows.items c.push-in-loop-index.new.self.items _
          c.loop-index.invariant w.in-Some.is (pushed ∙ ap (λ (row : KnownRow). c.loop-index.rows.items ++ row ∷ []) w.row-is))
      | in-None+in_ok-push-in-None w ↦
          let grown : w.push.new.self.items ≡ c.loop-index.others.items ++ c.loop-index.index ∷ [] = search rules in
          rw w.others-is (sorted_product c.args.images.now c.loop-index.index c.loop-index.others.items w.push.new.self.items c.loop-index.rows.items
          c.push-in-loop-index.new.self.items w.len-number.result c.loop-index.invariant (search rules) grown
          (pushed ∙ ap (λ (row : KnownRow). c.loop-index.rows.items ++ row ∷ []) w.row-is))
    ]
