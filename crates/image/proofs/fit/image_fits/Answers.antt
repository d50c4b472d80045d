use mathlib.Core.Path.{sym, ap, ◌∙◌}
use native.Mathlib.Omega.{arith}
use Rattle.desk.specs.declared.Desk.{Desk}
use Rattle.image.proofs.FitLaws.{framed, fits_few, image_long_lem, image_other, image_ready, image_addresses}
use Rattle.image.proofs.fit.image_fits.Goals as goal

pub read-h-requires : goal.read-h-requires
read-h-requires c = let f = framed _ c.requires.0 in let l = f.long in omega arith

pub store_length-requires : goal.store_length-requires
store_length-requires c = let f = framed _ c.requires.0 in let l = f.most in let k = fits_few _ c.requires.1 in let e = ap (λ (h : Desk). h.inodes) c.read-h.ensures in let g = ap (λ (h : Desk). h.blocks) c.read-h.ensures in (omega arith, omega arith)

pub returns-then-m-store_length : goal.returns-then-m-store_length
returns-then-m-store_length c = image_long_lem _ _ _ c.read-h.result c.read-h.ensures _ c.store_length.ensures c.if-m-store_length.true

pub rows_fit-requires : goal.rows_fit-requires
rows_fit-requires c =
    let p = c.requires in
    image_ready c.args.s.now _ _ c.read-h.result c.read-h.ensures _ c.store_length.ensures (framed _ p.0) p.1 p.2 c.if-m-store_length.false

pub returns-then-header_fits : goal.returns-then-header_fits
returns-then-header_fits c =
    c.rows_fit.ensures
    ∙ image_addresses _ _ _ c.read-h.result c.read-h.ensures _ c.read.ensures _ c.store_length.ensures c.if-m-store_length.false (sym c.header_fits.ensures ∙ c.if-header_fits.true)

pub returns-else-header_fits : goal.returns-else-header_fits
returns-else-header_fits c = c.if-header_fits.false ∙ image_other _ _ _ c.read-h.result c.read-h.ensures _ c.read.ensures (sym c.header_fits.ensures ∙ c.if-header_fits.false)
