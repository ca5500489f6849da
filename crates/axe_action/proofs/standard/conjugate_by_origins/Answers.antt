use Rattle.std.proofs.Common.{rules, ◌≡◌, ℕ, ◌<◌, List, Option, All, length, ap, sym, ◌∙◌, subst}
use Rattle.axe_matrix.specs.Matrices.{matrix_product, rows_at}
use Rattle.axe_echelon.proofs.Exits.{answers_more}
use Rattle.axe_spin.specs.declared.spinning.Origin.{Origin}
use Rattle.axe_action.specs.declared.known_rows.KnownRow.{KnownRow}
use Rattle.axe_action.specs.KnownRows.{AreKnownImages, AreSorted, IsRowIn, rows_in}
use Rattle.axe_action.proofs.KnownRowLaws.{rows_within, rows_made}
use Rattle.axe_action.proofs.standard.conjugate_by_origins.Goals as goal

pub known_images-requires : goal.known_images-requires
known_images-requires c =
    subst (λ n. All (λ (origin : Origin). origin.source < n) c.args.origins.now) (sym c.rows.ensures.count) c.requires.images.within

pub put_rows-requires-clause-within : goal.put_rows-requires-clause-within
put_rows-requires-clause-within c =
    let known : AreKnownImages c.args.origins.now c.args.number (length c.args.basis.now.rows) c.in_ok-images.images.items =
    subst (λ n. AreKnownImages c.args.origins.now c.args.number n c.in_ok-images.images.items) c.rows.ensures.count c.in_ok-images.ensures in
    let items : c.deref.result.now ≡ c.in_ok-images.images.items = search rules in
    let others : c.deref-2.result.now ≡ c.in_ok-sorted.sorted.others.items = search rules in
    let rows : c.deref-3.result.now ≡ c.in_ok-sorted.sorted.rows.items = search rules in
    let sorted : AreSorted c.in_ok-images.images.items (length c.in_ok-images.images.items) c.in_ok-sorted.sorted.others.items c.in_ok-sorted.sorted.rows.items =
    subst (λ (images : List (Option ℕ)). AreSorted images (length images) c.in_ok-sorted.sorted.others.items c.in_ok-sorted.sorted.rows.items) items
    c.in_ok-sorted.ensures in
    subst (All (IsRowIn c.in_ok-products.products)) (sym rows)
    (rows_within c.args.basis.now c.args.generator c.args.inverse.now c.in_ok-products.products c.args.origins.now c.args.number c.in_ok-images.images.items
    c.in_ok-sorted.sorted.others.items c.in_ok-sorted.sorted.rows.items c.requires.square c.requires.inverse c.requires.images known sorted
    (c.in_ok-products.ensures.product
    ∙ ap (λ (places : List ℕ). matrix_product (matrix_product (rows_at places c.args.basis.now) c.args.generator) c.args.inverse.now) others))

pub returns-clause-product : goal.returns-clause-product
returns-clause-product c =
    let known : AreKnownImages c.args.origins.now c.args.number (length c.args.basis.now.rows) c.in_ok-images.images.items =
    subst (λ n. AreKnownImages c.args.origins.now c.args.number n c.in_ok-images.images.items) c.rows.ensures.count c.in_ok-images.ensures in
    let items : c.deref.result.now ≡ c.in_ok-images.images.items = search rules in
    let others : c.deref-2.result.now ≡ c.in_ok-sorted.sorted.others.items = search rules in
    let rows : c.deref-3.result.now ≡ c.in_ok-sorted.sorted.rows.items = search rules in
    let sorted : AreSorted c.in_ok-images.images.items (length c.in_ok-images.images.items) c.in_ok-sorted.sorted.others.items c.in_ok-sorted.sorted.rows.items =
    subst (λ (images : List (Option ℕ)). AreSorted images (length images) c.in_ok-sorted.sorted.others.items c.in_ok-sorted.sorted.rows.items) items
    c.in_ok-sorted.ensures in
    answers_more c.put_rows.result _ _ c.put_rows.ensures.rows
    (λ matrix is. is ∙ ap (λ (l : List KnownRow). rows_in c.in_ok-products.products l) rows
    ∙ rows_made c.args.basis.now c.args.generator c.args.inverse.now c.in_ok-products.products c.args.origins.now c.args.number
    c.in_ok-images.images.items c.in_ok-sorted.sorted.others.items c.in_ok-sorted.sorted.rows.items c.requires.square c.requires.inverse c.requires.images known
    sorted (c.in_ok-products.ensures.product
    ∙ ap (λ (places : List ℕ). matrix_product (matrix_product (rows_at places c.args.basis.now) c.args.generator) c.args.inverse.now) others))
