use Rattle.std.proofs.Common.{refl, sym, ◌∙◌, rules, arith}
use Rattle.axe_field.specs.Order.{order_number}
use Rattle.axe_report.proofs.Unique.{header_open, version_small, order_small}
use Rattle.axe_report.proofs.FirstLines.{version_read, order_read, dim_read, gens_read, seed_read, words_read, header_there}
use Rattle.axe_report.proofs.first_line.header.Goals as goal

pub returns-in_default : goal.returns-in_default
returns-in_default c h x is e = c.in_default.ensures _ _ (version_small h.version) refl (e ∙ header_open h x)

pub returns-in_default-setting : goal.returns-in_default-setting
returns-in_default-setting c h x is e =
    let e0 = version_read c.args.text.now c.in-Some.after_version.now c.in-Some.version h x (search rules) c.in-Some.ensures.0 c.in-Some.ensures.1 e in
    c.in_default-setting.ensures (order_number h.field) _ (order_small h.field) refl e0.1

pub returns-in_default-setting-2 : goal.returns-in_default-setting-2
returns-in_default-setting-2 c h x is e =
    let e0 = version_read c.args.text.now c.in-Some.after_version.now c.in-Some.version h x (search rules) c.in-Some.ensures.0 c.in-Some.ensures.1 e in
    let e1 = order_read c.in-Some.after_version.now c.in-Some-setting.after_order.now c.in-Some-setting.order h x (search rules) c.in-Some-setting.ensures.0 c.in-Some-setting.ensures.1 e0.1 in
    c.in_default-setting-2.ensures h.dim _ (omega (arith, is.dim)) refl e1.1

pub returns-in_default-setting-3 : goal.returns-in_default-setting-3
returns-in_default-setting-3 c h x is e =
    let e0 = version_read c.args.text.now c.in-Some.after_version.now c.in-Some.version h x (search rules) c.in-Some.ensures.0 c.in-Some.ensures.1 e in
    let e1 = order_read c.in-Some.after_version.now c.in-Some-setting.after_order.now c.in-Some-setting.order h x (search rules) c.in-Some-setting.ensures.0 c.in-Some-setting.ensures.1 e0.1 in
    let e2 = dim_read c.in-Some-setting.after_order.now c.in-Some-setting-2.after_dim.now c.in-Some-setting-2.dim h x (search rules) c.in-Some-setting-2.ensures.0 c.in-Some-setting-2.ensures.1 is e1.1 in
    c.in_default-setting-3.ensures h.gens _ (omega (arith, is.gens)) refl e2.1

pub returns-in_default-setting-4 : goal.returns-in_default-setting-4
returns-in_default-setting-4 c h x is e =
    let e0 = version_read c.args.text.now c.in-Some.after_version.now c.in-Some.version h x (search rules) c.in-Some.ensures.0 c.in-Some.ensures.1 e in
    let e1 = order_read c.in-Some.after_version.now c.in-Some-setting.after_order.now c.in-Some-setting.order h x (search rules) c.in-Some-setting.ensures.0 c.in-Some-setting.ensures.1 e0.1 in
    let e2 = dim_read c.in-Some-setting.after_order.now c.in-Some-setting-2.after_dim.now c.in-Some-setting-2.dim h x (search rules) c.in-Some-setting-2.ensures.0 c.in-Some-setting-2.ensures.1 is e1.1 in
    let e3 = gens_read c.in-Some-setting-2.after_dim.now c.in-Some-setting-3.after_gens.now c.in-Some-setting-3.gens h x (search rules) c.in-Some-setting-3.ensures.0 c.in-Some-setting-3.ensures.1 is e2.1 in
    c.in_default-setting-4.ensures h.seed _ is.seed refl e3.1

pub returns-in_default-setting-5 : goal.returns-in_default-setting-5
returns-in_default-setting-5 c h x is e =
    let e0 = version_read c.args.text.now c.in-Some.after_version.now c.in-Some.version h x (search rules) c.in-Some.ensures.0 c.in-Some.ensures.1 e in
    let e1 = order_read c.in-Some.after_version.now c.in-Some-setting.after_order.now c.in-Some-setting.order h x (search rules) c.in-Some-setting.ensures.0 c.in-Some-setting.ensures.1 e0.1 in
    let e2 = dim_read c.in-Some-setting.after_order.now c.in-Some-setting-2.after_dim.now c.in-Some-setting-2.dim h x (search rules) c.in-Some-setting-2.ensures.0 c.in-Some-setting-2.ensures.1 is e1.1 in
    let e3 = gens_read c.in-Some-setting-2.after_dim.now c.in-Some-setting-3.after_gens.now c.in-Some-setting-3.gens h x (search rules) c.in-Some-setting-3.ensures.0 c.in-Some-setting-3.ensures.1 is e2.1 in
    let e4 = seed_read c.in-Some-setting-3.after_gens.now c.in-Some-setting-4.after_seed.now c.in-Some-setting-4.seed h x (search rules) c.in-Some-setting-4.ensures.0 c.in-Some-setting-4.ensures.1 is e3.1 in
    c.in_default-setting-5.ensures h.words _ (omega (arith, is.words)) refl e4.1

pub returns-in_default-after : goal.returns-in_default-after
returns-in_default-after c h x is e =
    let e0 = version_read c.args.text.now c.in-Some.after_version.now c.in-Some.version h x (search rules) c.in-Some.ensures.0 c.in-Some.ensures.1 e in
    let e1 = order_read c.in-Some.after_version.now c.in-Some-setting.after_order.now c.in-Some-setting.order h x (search rules) c.in-Some-setting.ensures.0 c.in-Some-setting.ensures.1 e0.1 in
    let e2 = dim_read c.in-Some-setting.after_order.now c.in-Some-setting-2.after_dim.now c.in-Some-setting-2.dim h x (search rules) c.in-Some-setting-2.ensures.0 c.in-Some-setting-2.ensures.1 is e1.1 in
    let e3 = gens_read c.in-Some-setting-2.after_dim.now c.in-Some-setting-3.after_gens.now c.in-Some-setting-3.gens h x (search rules) c.in-Some-setting-3.ensures.0 c.in-Some-setting-3.ensures.1 is e2.1 in
    let e4 = seed_read c.in-Some-setting-3.after_gens.now c.in-Some-setting-4.after_seed.now c.in-Some-setting-4.seed h x (search rules) c.in-Some-setting-4.ensures.0 c.in-Some-setting-4.ensures.1 is e3.1 in
    let e5 = words_read c.in-Some-setting-4.after_seed.now c.in-Some-setting-5.after_words.now c.in-Some-setting-5.words h x (search rules) c.in-Some-setting-5.ensures.0 c.in-Some-setting-5.ensures.1 is e4.1 in
    c.in_default-after.ensures x e5.1

pub returns-in_default-header_with : goal.returns-in_default-header_with
returns-in_default-header_with c h x is e =
    let e0 = version_read c.args.text.now c.in-Some.after_version.now c.in-Some.version h x (search rules) c.in-Some.ensures.0 c.in-Some.ensures.1 e in
    let e1 = order_read c.in-Some.after_version.now c.in-Some-setting.after_order.now c.in-Some-setting.order h x (search rules) c.in-Some-setting.ensures.0 c.in-Some-setting.ensures.1 e0.1 in
    let e2 = dim_read c.in-Some-setting.after_order.now c.in-Some-setting-2.after_dim.now c.in-Some-setting-2.dim h x (search rules) c.in-Some-setting-2.ensures.0 c.in-Some-setting-2.ensures.1 is e1.1 in
    let e3 = gens_read c.in-Some-setting-2.after_dim.now c.in-Some-setting-3.after_gens.now c.in-Some-setting-3.gens h x (search rules) c.in-Some-setting-3.ensures.0 c.in-Some-setting-3.ensures.1 is e2.1 in
    let e4 = seed_read c.in-Some-setting-3.after_gens.now c.in-Some-setting-4.after_seed.now c.in-Some-setting-4.seed h x (search rules) c.in-Some-setting-4.ensures.0 c.in-Some-setting-4.ensures.1 is e3.1 in
    let e5 = words_read c.in-Some-setting-4.after_seed.now c.in-Some-setting-5.after_words.now c.in-Some-setting-5.words h x (search rules) c.in-Some-setting-5.ensures.0 c.in-Some-setting-5.ensures.1 is e4.1 in
    c.in_default-header_with.ensures h is (record { version_is = sym e0.0; field = sym e1.0; dim_is = sym e2.0; gens_is = sym e3.0; seed_is = sym e4.0; words_is = sym e5.0 })

pub returns : goal.returns
returns c = (
  c.in-Some-header_with.ensures.0,
  header_there c.in-Some-header_with.header c.args.text.now c.in-Some.after_version.now c.in-Some-setting.after_order.now c.in-Some-setting-2.after_dim.now c.in-Some-setting-3.after_gens.now
      c.in-Some-setting-4.after_seed.now c.in-Some-setting-5.after_words.now c.in-Some-after.rest.now c.in-Some.version c.in-Some-setting.order c.in-Some-setting-2.dim c.in-Some-setting-3.gens c.in-Some-setting-4.seed
      c.in-Some-setting-5.words c.in-Some-header_with.ensures.1 c.in-Some.ensures.0 c.in-Some-setting.ensures.0 c.in-Some-setting-2.ensures.0 c.in-Some-setting-3.ensures.0 c.in-Some-setting-4.ensures.0
      c.in-Some-setting-5.ensures.0 c.in-Some-after.ensures,
)
