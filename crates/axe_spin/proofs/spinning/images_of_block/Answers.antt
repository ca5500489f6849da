use Rattle.std.proofs.Common.{◌≡◌, length, arith}
use Rattle.axe_echelon.proofs.Exits.{no_memory}
use Rattle.axe_spin.proofs.ImageLaws.{whole_rows, no_products, products_more, product_made, product_memory, images_of_products}
use Rattle.axe_spin.proofs.spinning.images_of_block.Goals as goal

pub loop-number-init : goal.loop-number-init
loop-number-init c =
    no_products c.args.module.now (whole_rows c.args.rows.now c.args.source c.args.count) c.in_ok-images.images.items c.in_ok-images.ensures.items

pub returns-in_err-image : goal.returns-in_err-image
returns-in_err-image c = record {
  images = no_memory _ c.from_residual-in_err-image.result c.in_err-image.field-0.0 c.from_residual-in_err-image.ensures.1
      (product_memory c.args.module.now c.args.rows.now c.args.source c.args.count c.in_ok-block.block c.generator.result.now c.cols.result c.loop-number.number
      c.cols.ensures.count c.in_ok-block.ensures.block c.generator.ensures.value c.generator.ensures.square c.requires.field c.requires.fits
      c.in_err-image.field-0.0 c.in_err-image.ensures.product);
}

pub loop-number-preserved : goal.loop-number-preserved
loop-number-preserved c =
    products_more c.args.module.now (whole_rows c.args.rows.now c.args.source c.args.count) c.in_ok-image.image c.loop-number.images.items
    c.push.new.self.items c.loop-number.number c.loop-number.invariant
    (product_made c.args.module.now c.args.rows.now c.args.source c.args.count c.in_ok-block.block c.generator.result.now c.cols.result c.loop-number.number
    c.cols.ensures.count c.in_ok-block.ensures.block c.generator.ensures.value c.generator.ensures.square c.requires.field c.requires.fits
    c.in_ok-image.image c.in_ok-image.ensures.product)
    c.in_ok-push.ensures.items

pub returns : goal.returns
returns c =
    let all : c.loop-number.number ≡ length c.args.module.now.generators =
    omega (arith, c.loop-number-test.false, c.loop-number.auto.number-end, c.gens-number-end.ensures.count) in
    record {
      images = images_of_products c.args.module.now c.args.rows.now c.args.source c.args.count c.requires.well_formed c.requires.field c.requires.within
          c.loop-number.images.items c.loop-number.number c.loop-number.invariant all;
    }
