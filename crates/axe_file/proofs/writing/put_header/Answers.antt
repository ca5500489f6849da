use Rattle.std.proofs.Common.{ℕ, List, [], ◌∷◌, ◌++◌, ap, ◌∙◌}
use Rattle.std.specs.Prelude.{codes}
use Rattle.std.specs.Int.{w32, to_le_bytes}
use Rattle.axe_field.specs.Order.{order_number}
use Rattle.axe_file.specs.Packed.{packed_header}
use Rattle.axe_file.proofs.Lists.{four_put}
use Rattle.axe_file.proofs.writing.put_header.Goals as goal

pub returns : goal.returns
unfolding packed_header
returns c =
    let o = c.args.layout.now.field in
    four_put c.args.bytes.now.items c.extend_from_slice.new.self.items c.extend_from_slice-2.new.self.items c.extend_from_slice-3.new.self.items c.extend_from_slice-4.new.self.items
    (codes "AXP1") (order_number o ∷ 0 ∷ 0 ∷ 0 ∷ []) (to_le_bytes w32 c.args.rows) (to_le_bytes w32 c.args.layout.now.columns)
    c.in_ok-extend_from_slice.ensures.items
    (c.in_ok-extend_from_slice-2.ensures.items ∙ ap (λ (n : ℕ). c.extend_from_slice.new.self.items ++ (n ∷ 0 ∷ 0 ∷ 0 ∷ [])) c.order.ensures.value)
    (c.in_ok-extend_from_slice-3.ensures.items ∙ ap (λ (xs : List ℕ). c.extend_from_slice-2.new.self.items ++ xs) c.to_le_bytes.ensures)
    (c.in_ok-extend_from_slice-4.ensures.items ∙ ap (λ (xs : List ℕ). c.extend_from_slice-3.new.self.items ++ xs) c.to_le_bytes-2.ensures)
