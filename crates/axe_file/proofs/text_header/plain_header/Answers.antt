use Rattle.std.proofs.Common.{ap, ◌∙◌, []}
use Rattle.std.proofs.lemmas.Result.{err_from_is_err_and}
use Rattle.axe_file.specs.TextReading.{Reading, with_value, read_parts}
use Rattle.axe_file.proofs.TextNumerals.{valued}
use Rattle.axe_file.proofs.TextHeads.{after_mode, after_order, after_rows, plain_parts, numeral_parts}
use Rattle.axe_file.proofs.text_header.plain_header.Goals as goal

pub returns-in_err-mode-clause-read : goal.returns-in_err-mode-clause-read
returns-in_err-mode-clause-read c =
    let p = err_from_is_err_and c.from_residual.result c.from_residual.ensures.1 in
    let e = c.in_err-mode.ensures.read (valued (read_parts after_mode)) in
    rw p.1 (e.0, p.2 ∙ e.1, plain_parts _ _ ∙ e.2)

pub returns-in_err-order-clause-read : goal.returns-in_err-order-clause-read
returns-in_err-order-clause-read c =
    let p = err_from_is_err_and c.from_residual-in_err-order.result c.from_residual-in_err-order.ensures.1 in
    let e0 = plain_parts _ _ ∙ c.in_ok-mode.ensures.read (valued (read_parts after_mode)) in
    let e = c.in_err-order.ensures.read (valued (read_parts after_order)) in
    rw p.1 (e.0, p.2 ∙ e.1, e0 ∙ ap (λ (x : Reading). with_value c.in_ok-mode.mode x) (numeral_parts after_order _ _ ∙ e.2))

pub returns-in_err-rows-clause-read : goal.returns-in_err-rows-clause-read
returns-in_err-rows-clause-read c =
    let p = err_from_is_err_and c.from_residual-in_err-rows.result c.from_residual-in_err-rows.ensures.1 in
    let e0 = plain_parts _ _ ∙ c.in_ok-mode.ensures.read (valued (read_parts after_mode)) in
    let e1 = numeral_parts after_order _ _ ∙ c.in_ok-order.ensures.read (valued (read_parts after_order)) in
    let e = c.in_err-rows.ensures.read (valued (read_parts after_rows)) in
    rw p.1 (e.0, p.2 ∙ e.1, e0 ∙ ap (λ (x : Reading). with_value c.in_ok-mode.mode x) (e1 ∙ ap (λ (x : Reading). with_value c.in_ok-order.order x) (numeral_parts after_rows _ _ ∙ e.2)))

pub returns-in_err-columns-clause-read : goal.returns-in_err-columns-clause-read
returns-in_err-columns-clause-read c =
    let p = err_from_is_err_and c.from_residual-in_err-columns.result c.from_residual-in_err-columns.ensures.1 in
    let e0 = plain_parts _ _ ∙ c.in_ok-mode.ensures.read (valued (read_parts after_mode)) in
    let e1 = numeral_parts after_order _ _ ∙ c.in_ok-order.ensures.read (valued (read_parts after_order)) in
    let e2 = numeral_parts after_rows _ _ ∙ c.in_ok-rows.ensures.read (valued (read_parts after_rows)) in
    let e = c.in_err-columns.ensures.read (valued (read_parts [])) in
    rw p.1 (e.0, p.2 ∙ e.1, e0 ∙ ap (λ (x : Reading). with_value c.in_ok-mode.mode x) (e1 ∙ ap (λ (x : Reading). with_value c.in_ok-order.order x) (e2 ∙ ap (λ (x : Reading). with_value c.in_ok-rows.rows x) (numeral_parts [] _ _ ∙ e.2))))

pub returns-in_err-end_header-clause-read : goal.returns-in_err-end_header-clause-read
returns-in_err-end_header-clause-read c =
    let p = err_from_is_err_and c.from_residual-in_err-end_header.result c.from_residual-in_err-end_header.ensures.1 in
    let e0 = plain_parts _ _ ∙ c.in_ok-mode.ensures.read (valued (read_parts after_mode)) in
    let e1 = numeral_parts after_order _ _ ∙ c.in_ok-order.ensures.read (valued (read_parts after_order)) in
    let e2 = numeral_parts after_rows _ _ ∙ c.in_ok-rows.ensures.read (valued (read_parts after_rows)) in
    let e3 = numeral_parts [] _ _ ∙ c.in_ok-columns.ensures.read (valued (read_parts [])) in
    let e = c.in_err-end_header.ensures in
    rw p.1 (_, p.2 ∙ e.0, e0 ∙ ap (λ (x : Reading). with_value c.in_ok-mode.mode x) (e1 ∙ ap (λ (x : Reading). with_value c.in_ok-order.order x) (e2 ∙ ap (λ (x : Reading). with_value c.in_ok-rows.rows x) (e3 ∙ ap (λ (x : Reading). with_value c.in_ok-columns.columns x) (e.1)))))

pub returns-clause-read : goal.returns-clause-read
returns-clause-read c =
    let e0 = plain_parts _ _ ∙ c.in_ok-mode.ensures.read (valued (read_parts after_mode)) in
    let e1 = numeral_parts after_order _ _ ∙ c.in_ok-order.ensures.read (valued (read_parts after_order)) in
    let e2 = numeral_parts after_rows _ _ ∙ c.in_ok-rows.ensures.read (valued (read_parts after_rows)) in
    let e3 = numeral_parts [] _ _ ∙ c.in_ok-columns.ensures.read (valued (read_parts [])) in
    e0 ∙ ap (λ (x : Reading). with_value c.in_ok-mode.mode x) (e1 ∙ ap (λ (x : Reading). with_value c.in_ok-order.order x) (e2 ∙ ap (λ (x : Reading). with_value c.in_ok-rows.rows x) (e3 ∙ ap (λ (x : Reading). with_value c.in_ok-columns.columns x) (c.in_ok-end_header.ensures))))
