use Rattle.std.proofs.Common.{rules, ◌≡◌, ◌+◌, ◌-◌, ◌≤◌, length, length-drop, drop, take, ap, ◌∙◌, arith}
use Rattle.std.proofs.lemmas.List.Sums.{prefix_len-le-length}
use Rattle.axe_file.specs.TextGrammar.{is_element_digit}
use Rattle.axe_file.proofs.TextRuns.{copied_begun, run_within, some_digit, copied_more, elements_after, entries_read}
use Rattle.axe_file.proofs.text_reading.read_entries.Goals as goal

pub loop-done-init : goal.loop-done-init
loop-done-init c = copied_begun c.args.bytes.now c.args.start c.args.entries.now c.requires.within

pub skip_space-at-requires : goal.skip_space-at-requires
skip_space-at-requires c = c.loop-done.invariant.within

pub end_of_digits-requires-clause-within : goal.end_of_digits-requires-clause-within
end_of_digits-requires-clause-within c =
    run_within c.args.order c.args.bytes.now c.args.start c.loop-done.done c.loop-done.end c.loop-done.entries c.loop-done.invariant c.requires.elements
    c.skip_space-at.result c.loop-done-test.true (omega (arith, c.requires.enough, c.loop-done.auto.entries)) c.skip_space-at.ensures

pub prove-unreachable-requires : goal.prove-unreachable-requires
prove-unreachable-requires c =
    let some =
    some_digit c.args.order c.args.bytes.now c.args.start c.loop-done.done c.loop-done.end c.loop-done.entries c.loop-done.invariant c.requires.elements
    c.skip_space-at.result c.loop-done-test.true (omega (arith, c.requires.enough, c.loop-done.auto.entries)) c.skip_space-at.ensures in
    omega (arith, some, c.if-prove.true, c.end_of_digits.ensures, c.loop-done-test.true)

pub slice_bounds-copy_from_slice-end-in-loop-done : goal.slice_bounds-copy_from_slice-end-in-loop-done
slice_bounds-copy_from_slice-end-in-loop-done c =
    let bytes = c.args.bytes.now in
    let at = c.skip_space-at.result in
    let low : at ≤ length bytes =
    run_within c.args.order c.args.bytes.now c.args.start c.loop-done.done c.loop-done.end c.loop-done.entries c.loop-done.invariant c.requires.elements
    c.skip_space-at.result c.loop-done-test.true (omega (arith, c.requires.enough, c.loop-done.auto.entries)) c.skip_space-at.ensures in
    let end : at + (c.end_of_digits.result - at) ≤ length bytes =
    omega (arith, c.end_of_digits.ensures, prefix_len-le-length (is_element_digit c.args.order) (drop at bytes), length-drop at bytes, low) in
    search rules

pub loop-done-preserved : goal.loop-done-preserved
loop-done-preserved c =
    let bytes = c.args.bytes.now in
    let at = c.skip_space-at.result in
    let count = c.end_of_digits.result - at in
    let size : at + count - at ≡ count = omega arith in
    copied_more c.args.order bytes c.args.start c.loop-done.done c.loop-done.end c.loop-done.entries c.loop-done.invariant c.requires.elements at
    c.loop-done-test.true (omega (arith, c.requires.enough, c.loop-done.auto.entries)) c.skip_space-at.ensures
    count _ _ _ c.copy_from_slice.new.self (omega (arith, c.end_of_digits.ensures))
    (c.copy_from_slice.ensures.after ∙ ap (λ n. take n (drop at bytes)) size) (omega arith) (omega arith)

pub returns-clause-elements : goal.returns-clause-elements
returns-clause-elements c =
    (entries_read c.args.order c.args.bytes.now c.args.start c.loop-done.done c.loop-done.end c.loop-done.entries c.loop-done.invariant c.requires.elements
    c.loop-done-test.false c.add_to_each.new.bytes c.requires.order c.add_to_each.ensures).1

pub returns-clause-digits : goal.returns-clause-digits
returns-clause-digits c =
    (entries_read c.args.order c.args.bytes.now c.args.start c.loop-done.done c.loop-done.end c.loop-done.entries c.loop-done.invariant c.requires.elements
    c.loop-done-test.false c.add_to_each.new.bytes c.requires.order c.add_to_each.ensures).0

pub returns-clause-elements_left : goal.returns-clause-elements_left
returns-clause-elements_left c =
    elements_after c.args.order c.args.bytes.now c.args.start c.loop-done.done c.loop-done.end c.loop-done.entries c.loop-done.invariant c.requires.elements
