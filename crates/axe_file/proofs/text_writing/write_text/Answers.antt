use Rattle.std.proofs.Common.{rules, ◌≡◌, ◌+◌, ◌++◌, ◌∷◌, [], List, ℕ, length, map, take, get_or, sym, ap, ◌∙◌, take_all, arith}
use Rattle.std.proofs.lemmas.List.{append-nil, take_more, flat_map_more, length-map}
use Rattle.std.specs.List.{flat_map}
use Rattle.axe_file.specs.TextGrammar.{digit_code}
use Rattle.axe_file.specs.TextWriting.{text_header, in_lines, text_row, text_of}
use Rattle.axe_file.proofs.TextLines.{written_over}
use Rattle.axe_file.proofs.text_writing.write_text.Goals as goal

pub loop-index-preserved : goal.loop-index-preserved
unfolding text_row
loop-index-preserved c =
    let m = c.args.matrix.now in
    let n = c.loop-index.index in
    let row = get_or m.rows n [] in
    let entries : c.row.result.now.entries ≡ row = ap (λ (r : _). r.entries) c.row.ensures.value in
    let long : length c.spell.new.digits ≡ length c.loop-index.digits.items =
    ap length c.spell.ensures ∙ length-map c.row.result.now.entries digit_code ∙ c.row.ensures.as_long ∙ sym c.loop-index.invariant.1 in
    let back : c.deref.result.now ≡ c.spell.new.digits = c.deref.ensures.value ∙ written_over c.loop-index.digits.len c.loop-index.digits.items c.spell.new.digits long (omega (arith, c.loop-index.digits.ok.0)) in
    let spelled : c.deref.result.now ≡ map digit_code row = back ∙ c.spell.ensures ∙ ap (λ (x : List ℕ). map digit_code x) entries in
    let line : c.put_lines.new.text.items ≡ c.loop-index.text.items ++ text_row row =
    c.in_ok-put_lines.ensures ∙ ap (λ (x : List ℕ). c.loop-index.text.items ++ in_lines x) spelled in
    let rows : take n m.rows ++ row ∷ [] ≡ take (n + 1) m.rows = sym (take_more m.rows n [] (omega (arith, c.loop-index-test.true))) in (
      line
          ∙ ap (λ (x : List ℕ). x ++ text_row row) c.loop-index.invariant.0
          ∙ flat_map_more text_row (text_header m) (take n m.rows) row
          ∙ ap (λ (x : List (List ℕ)). text_header m ++ flat_map text_row x) rows,
      search rules,
    )

pub returns-clause-text : goal.returns-clause-text
unfolding text_of
returns-clause-text c =
    let m = c.args.matrix.now in
    c.loop-index.invariant.0 ∙ ap (λ (rows : List (List ℕ)). text_header m ++ flat_map text_row rows) (take_all c.loop-index.index m.rows (omega (arith, c.rows-index-end.ensures.count)))

pub loop-index-init : goal.loop-index-init
loop-index-init c =
    (c.reserve_exact.ensures.items ∙ c.in_ok-text.ensures ∙ sym (append-nil (text_header c.args.matrix.now)), omega (arith, c.in_ok-digits.digits.ok.0, c.in_ok-digits.ensures.len))
