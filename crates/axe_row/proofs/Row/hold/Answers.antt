use Rattle.std.proofs.Common.{◌≡◌, ◌∙◌, ap, sym, subst, length, rules, arith}
use Rattle.axe_row.specs.Rows.{RowValue, IsRow}
use Rattle.axe_row.proofs.HeldLaws.{as_many_words, blocks_hold, held_row}
use Rattle.axe_row.proofs.Row.hold.Goals as goal

pub invariant_of-result : goal.invariant_of-result
invariant_of-result g c =
    let all : length c.bit_blocks.result ≡ g.row.W = search rules in
    blocks_hold c.args.self.now c.self.inside.field c.len.result c.bit_blocks.result (ap (λ (r : RowValue). r.order) c.self.view_is) (sym c.len.ensures.count)
    (as_many_words _ _ _ c.requires.words c.len.ensures.count ∙ sym all) (λ k inside. c.bit_blocks.ensures.blocks k (omega (arith, inside, all)))
    c.requires.characteristic c.len.ensures.well_formed

pub returns-clause-value : goal.returns-clause-value
returns-clause-value g c =
    let all : length c.bit_blocks.result ≡ g.row.W = search rules in
    held_row c.args.self.now c.self.inside.field c.len.result c.bit_blocks.result (ap (λ (r : RowValue). r.order) c.self.view_is) (sym c.len.ensures.count)
    (as_many_words _ _ _ c.requires.words c.len.ensures.count ∙ sym all) (λ k inside. c.bit_blocks.ensures.blocks k (omega (arith, inside, all)))

pub returns-clause-well_formed : goal.returns-clause-well_formed
returns-clause-well_formed g c = subst IsRow (sym (returns-clause-value g c)) c.len.ensures.well_formed
