use Rattle.std.proofs.Common.{◌/◌, ℕ, List, ap, ◌∙◌, rules, arith}
use Rattle.axe_report.specs.Names.{constituent_name}
use Rattle.axe_report.specs.Spelling.{factor_start}
use Rattle.axe_report.proofs.WitnessLaws.{witness_stops}
use Rattle.axe_report.proofs.NextLines.{no_dim, dim_is, fits_from, start_is, multiplicity_is, line_there, next_there}
use Rattle.axe_report.proofs.constituents.factor.Goals as goal
use Rattle.axe_report.proofs.constituents.factor.Goals.{then-dim-eq0-via-then-dim-eq0, then-dim-eq0-via-else-dim-eq0+then-dim-room, then-multiplicity-eq0-via-then-multiplicity-eq0, then-multiplicity-eq0-via-else-multiplicity-eq0+then-multiplicity-room}

pub returns-in_default : goal.returns-in_default
returns-in_default c f x h seen e = no_dim c.args.text.now c.args.earlier.now c.args.room f x c.requires.room c.in_default.ensures h e

pub returns-then-dim-eq0 : goal.returns-then-dim-eq0
returns-then-dim-eq0 c f x h seen e =
    let same = dim_is c.args.text.now c.in-Some.field-0-1.now c.args.earlier.now c.args.room c.in-Some.dim f x c.requires.room (search rules) c.in-Some.ensures.0 c.in-Some.ensures.1 h e in
    let fits = fits_from c.args.earlier.now c.args.room f h in
    elim c.then-dim-eq0.branch [
      | then-dim-eq0-via-then-dim-eq0 w ↦ omega (arith, same, w.if-dim-eq0.true, h.some_dim)
      | then-dim-eq0-via-else-dim-eq0+then-dim-room w ↦ omega (arith, same, w.if-dim-room.true, fits.dim)
    ]

pub returns-in_default-setting : goal.returns-in_default-setting
returns-in_default-setting c f x h seen e =
    let same = dim_is c.args.text.now c.in-Some.field-0-1.now c.args.earlier.now c.args.room c.in-Some.dim f x c.requires.room (search rules) c.in-Some.ensures.0 c.in-Some.ensures.1 h e in
    let fits = fits_from c.args.earlier.now c.args.room f h in
    let named = c.as_str.ensures.value ∙ c.in_ok-name.ensures ∙ ap (λ (k : ℕ). constituent_name c.in-Some.dim k) c.count_dim.ensures in
    let begun = c.deref.ensures.value ∙ c.in_ok-start.ensures in
    let there = start_is c.args.text.now c.deref.result.now c.as_str.result.now c.args.earlier.now c.args.room c.in-Some.dim f x same named begun h e in
    let small = c.requires.room in
    c.in_default-setting.ensures f.multiplicity _ (omega (arith, fits.most, small)) (witness_stops f.witness x) there

pub returns-then-multiplicity-eq0 : goal.returns-then-multiplicity-eq0
returns-then-multiplicity-eq0 c f x h seen e =
    let same = dim_is c.args.text.now c.in-Some.field-0-1.now c.args.earlier.now c.args.room c.in-Some.dim f x c.requires.room (search rules) c.in-Some.ensures.0 c.in-Some.ensures.1 h e in
    let fits = fits_from c.args.earlier.now c.args.room f h in
    let named = c.as_str.ensures.value ∙ c.in_ok-name.ensures ∙ ap (λ (k : ℕ). constituent_name c.in-Some.dim k) c.count_dim.ensures in
    let begun = c.deref.ensures.value ∙ c.in_ok-start.ensures in
    let there = start_is c.args.text.now c.deref.result.now c.as_str.result.now c.args.earlier.now c.args.room c.in-Some.dim f x same named begun h e in
    let many = multiplicity_is c.args.text.now c.deref.result.now c.in-Some-setting.after_numbers.now c.in-Some-setting.multiplicity c.args.earlier.now c.args.room f x c.requires.room (search rules)
    c.in-Some-setting.ensures.0 c.in-Some-setting.ensures.1 h there in
    let room = ap (λ (k : ℕ). c.args.room / k) same in
    elim c.then-multiplicity-eq0.branch [
      | then-multiplicity-eq0-via-then-multiplicity-eq0 w ↦ omega (arith, many.0, w.if-multiplicity-eq0.true, h.some_multiplicity)
      | then-multiplicity-eq0-via-else-multiplicity-eq0+then-multiplicity-room w ↦ omega (arith, many.0, w.if-multiplicity-room.true, fits.multiplicity, room)
    ]

pub returns-in_default-2 : goal.returns-in_default-2
returns-in_default-2 c f x h seen e =
    let same = dim_is c.args.text.now c.in-Some.field-0-1.now c.args.earlier.now c.args.room c.in-Some.dim f x c.requires.room (search rules) c.in-Some.ensures.0 c.in-Some.ensures.1 h e in
    let fits = fits_from c.args.earlier.now c.args.room f h in
    let named = c.as_str.ensures.value ∙ c.in_ok-name.ensures ∙ ap (λ (k : ℕ). constituent_name c.in-Some.dim k) c.count_dim.ensures in
    let begun = c.deref.ensures.value ∙ c.in_ok-start.ensures in
    let there = start_is c.args.text.now c.deref.result.now c.as_str.result.now c.args.earlier.now c.args.room c.in-Some.dim f x same named begun h e in
    let many = multiplicity_is c.args.text.now c.deref.result.now c.in-Some-setting.after_numbers.now c.in-Some-setting.multiplicity c.args.earlier.now c.args.room f x c.requires.room (search rules)
    c.in-Some-setting.ensures.0 c.in-Some-setting.ensures.1 h there in
    let none = rw c.in_default-2.is at c.in_ok-witness.ensures in
    none f.witness x seen many.1

pub returns : goal.returns
returns c =
    let made = c.new.ensures in
    let named = c.in_ok-name.ensures ∙ ap (λ (k : ℕ). constituent_name c.in-Some.dim k) c.count_dim.ensures in
    let begun = c.deref.ensures.value ∙ c.in_ok-start.ensures ∙ ap (λ (n : List ℕ). factor_start n c.in-Some.dim) c.as_str.ensures.value in
    let found = rw c.in-Some-2.is at c.in_ok-witness.ensures in
    rw made (
      next_there c.args.earlier.now c.args.room _ named (omega arith) (omega arith) (omega arith),
      found.0,
      line_there c.args.text.now c.deref.result.now c.in-Some-setting.after_numbers.now c.in-Some-2.rest.now c.args.earlier.now c.args.room _ begun c.in-Some-setting.ensures.0 found.1,
    )
