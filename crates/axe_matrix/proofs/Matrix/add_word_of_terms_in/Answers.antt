use Rattle.std.proofs.Common.{◌≡◌, ◌+◌, ◌-◌, ◌*◌, length, sym, ap, ◌∙◌, subst, arith}
use Rattle.std.specs.List.{All}
use Rattle.axe_field.specs.Arithmetic.{field_mul}
use Rattle.axe_field.specs.NumberFields.{number_field}
use Rattle.axe_field.specs.Order.{Order, IsElement}
use Rattle.axe_row.proofs.RowLaws.{same_row}
use Rattle.axe_row.specs.Rows.{RowValue}
use Rattle.axe_matrix.specs.Products.{row_with_terms}
use Rattle.axe_matrix.specs.VectorTerms.{row_with_terms_between}
use Rattle.axe_matrix.proofs.BlockLaws.{length-row_with_terms}
use Rattle.axe_matrix.proofs.DirectRows.{no_terms_from, terms_from}
use Rattle.axe_matrix.proofs.WordTerms.{found_inside, found_element, found_in_word, place_inside, end_of_word}
use Rattle.axe_matrix.proofs.Matrix.add_word_of_terms_in.Goals as goal

pub loop-found-init : goal.loop-found-init
loop-found-init g c =
    let over_r = subst (λ (o : Order). All (IsElement o) c.args.row.now.entries) c.requires.row_field c.len.ensures.well_formed.elements in
    let over_v = subst (λ (o : Order). All (IsElement o) c.args.vector.now.entries) c.requires.vector_field c.len-2.ensures.well_formed.elements in
    let at = c.args.word * 64 + 0 in
    let none : 0 ≡ 0 - 0 = omega arith in
    record {
      fits = omega arith;
      field = c.requires.row_field;
      so_far =
          no_terms_from c.args.self.now c.args.row.now.entries c.args.scalar c.args.vector.now.entries at c.rows.ensures.well_formed over_v c.requires.element over_r
          c.requires.columns_fit
          ∙ ap (terms_from c.args.self.now c.args.row.now.entries c.args.scalar c.args.vector.now.entries at) none;
      well_formed = c.len.ensures.well_formed;
    }

pub factor-factor-requires-clause-entry : goal.factor-factor-requires-clause-entry
factor-factor-requires-clause-entry g c =
    let over_v = subst (λ (o : Order). All (IsElement o) c.args.vector.now.entries) c.requires.vector_field c.len-2.ensures.well_formed.elements in
    found_element c.args.vector.now.entries c.args.word c.entry_word-entries.result c.entry_word-entries.ensures c.args.self.now.order c.loop-found.place _ _ over_v
    c.in-Some.ensures.next c.in-Some.ensures.entry_is

pub row-requires : goal.row-requires
row-requires g c =
    let inside = found_inside c.args.vector.now.entries c.args.word c.entry_word-entries.result c.entry_word-entries.ensures c.loop-found.place c.in-Some.found c.in-Some.ensures.next in
    omega (arith, inside, c.requires.inner_fit)

pub add_scaled_in-requires-clause-fits : goal.add_scaled_in-requires-clause-fits
add_scaled_in-requires-clause-fits g c =
    c.row.ensures.as_long ∙ sym (ap length c.loop-found.invariant.so_far ∙ length-row_with_terms (number_field c.args.self.now.order) _ _ _ _ _ _ _)

pub loop-found-preserved : goal.loop-found-preserved
loop-found-preserved g c =
    let invariant = c.loop-found.invariant in
    let next = c.in-Some.ensures.next in
    let over_r = subst (λ (o : Order). All (IsElement o) c.args.row.now.entries) c.requires.row_field c.len.ensures.well_formed.elements in
    let over_v = subst (λ (o : Order). All (IsElement o) c.args.vector.now.entries) c.requires.vector_field c.len-2.ensures.well_formed.elements in
    record {
      fits = omega (arith, place_inside c.args.vector.now.entries c.args.word c.entry_word-entries.result c.entry_word-entries.ensures c.loop-found.place c.in-Some.found next);
      field = ap (λ (r : RowValue). r.order) c.add_scaled_in.ensures.sum ∙ invariant.field;
      so_far =
          ap (λ (r : RowValue). r.entries) c.add_scaled_in.ensures.sum
          ∙ found_in_word c.args.self.now c.args.row.now.entries c.args.scalar c.args.vector.now.entries c.args.word 0 c.entry_word-entries.result
          c.entry_word-entries.ensures c.rows.ensures.well_formed over_v c.loop-found.place c.in-Some.found c.factor-factor.result c.loop-found.row c.row.result.now
          (omega arith) c.requires.element over_r invariant.field invariant.so_far next
          (c.factor-factor.ensures.value ∙ ap (field_mul c.args.self.now.order c.args.scalar) c.in-Some.ensures.entry_is) c.row.ensures.value;
      well_formed = c.add_scaled_in.ensures.well_formed;
    }

pub returns-clause-sum : goal.returns-clause-sum
returns-clause-sum g c =
    let invariant = c.loop-found.invariant in
    let over_v = subst (λ (o : Order). All (IsElement o) c.args.vector.now.entries) c.requires.vector_field c.len-2.ensures.well_formed.elements in
    let at = c.args.word * 64 + 0 in
    let first : at ≡ c.args.word * 64 = omega arith in
    let end = c.args.word * 64 + 64 in
    same_row c.loop-found.row (row_with_terms_between c.args.row.now c.args.scalar c.args.vector.now c.args.self.now (c.args.word * 64) end) (invariant.field ∙ sym c.requires.row_field)
    (end_of_word c.args.self.now c.args.row.now.entries c.args.scalar c.args.vector.now.entries c.args.word 0 c.entry_word-entries.result
    c.entry_word-entries.ensures c.rows.ensures.well_formed over_v c.loop-found.place c.loop-found.row.entries (omega arith) invariant.fits invariant.so_far
    c.in_default.ensures
    ∙ ap (λ (o : Order). row_with_terms (number_field o) c.args.self.now.cols c.args.row.now.entries c.args.scalar c.args.vector.now.entries c.args.self.now.rows at (end - at))
    (sym c.requires.row_field)
    ∙ ap (λ k. row_with_terms (number_field c.args.row.now.order) c.args.self.now.cols c.args.row.now.entries c.args.scalar c.args.vector.now.entries c.args.self.now.rows k (end - k))
    first)

pub returns-clause-as_long : goal.returns-clause-as_long
returns-clause-as_long g c =
    ap length c.loop-found.invariant.so_far ∙ length-row_with_terms (number_field c.args.self.now.order) _ _ _ _ _ _ _ ∙ sym c.requires.columns_fit
