use Rattle.std.proofs.Common.{ℕ, List, get_or, ap, ◌∙◌}
use Rattle.std.proofs.lemmas.List.{get_or-drop, take_rest}
use Rattle.axe_lane.proofs.MaskLaws.{support_along}
use Rattle.axe_lane.proofs.masks.support_of_bytes.Goals as goal

pub returns-then-rest-ge-WORD : goal.returns-then-rest-ge-WORD
returns-then-rest-ge-WORD c i low =
    support_along _ _ _ i (ap (λ (x : List ℕ). get_or x i 0) (take_rest c.args.bytes.now c.args.at) ∙ get_or-drop c.args.at c.args.bytes.now i 0)
    (c.support_of_block.ensures i low)

pub returns : goal.returns
returns c i low =
    support_along _ _ _ i
    (c.filled_block.ensures.first i low ∙ ap (λ (x : List ℕ). get_or x i 0) (take_rest c.args.bytes.now c.args.at) ∙ get_or-drop c.args.at c.args.bytes.now i 0)
    (c.support_of_block-2.ensures i low)
