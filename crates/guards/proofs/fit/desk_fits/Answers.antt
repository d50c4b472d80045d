use mathlib.Core.Path.{sym, ap, ◌∙◌}
use native.Mathlib.Omega.{arith}
use borrow.Author.Tests.{lt-leb}
use Rattle.bounded.proofs.BoolLaws.{clash}
use Rattle.desk.specs.declared.Desk.{Desk}
use Rattle.image.proofs.FitLaws.{framed}
use Rattle.guards.proofs.FitLaws.{fits_state, fits_blocks, fits_reserved, fits_copied, fits_counts}
use Rattle.guards.proofs.fit.desk_fits.Goals as goal
use Rattle.guards.proofs.fit.desk_fits.Goals.{then-h-le-STOPPED, else-h-le-STOPPED, then-blocks_fit, else-blocks_fit, then-reserved_zero, else-reserved_zero}

pub read-h-requires : goal.read-h-requires
read-h-requires c = let f = framed _ c.requires in let l = f.long in omega arith

pub reserved_zero-requires : goal.reserved_zero-requires
reserved_zero-requires c = let f = framed _ c.requires in let l = f.long in omega arith

pub copied_fit-requires : goal.copied_fit-requires
copied_fit-requires c = let f = framed _ c.requires in let l = f.long in let e = ap (λ (h : Desk). h.inodes) c.read-h.ensures in omega arith

pub counts_fit-requires : goal.counts_fit-requires
counts_fit-requires c = let f = framed _ c.requires in let l = f.most in let e = ap (λ (h : Desk). h.inodes) c.read-h.ensures in omega arith

-- each test but the last is joined with those before it
pub returns-then-copied_fit : goal.returns-then-copied_fit
returns-then-copied_fit c = elim c.if-reserved_zero.branch [
  | then-reserved_zero z ↦ elim c.if-blocks_fit.branch [
    | then-blocks_fit y ↦ elim c.if-h-le-STOPPED.branch [
      | then-h-le-STOPPED x ↦
          c.counts_fit.ensures
          ∙ fits_counts _ c.read-h.result c.read-h.ensures x.if-h-le-STOPPED.true (sym x.blocks_fit.ensures ∙ sym x.value-is ∙ y.if-blocks_fit.true)
          (sym y.reserved_zero.ensures ∙ sym y.value-is ∙ z.if-reserved_zero.true) (sym z.copied_fit.ensures ∙ sym z.value-is ∙ c.if-copied_fit.true)
      | else-h-le-STOPPED x ↦ absurd (clash _ y.if-blocks_fit.true (x.value-is ∙ lt-leb _ _ x.if-h-le-STOPPED.false))
    ]
    | else-blocks_fit y ↦ absurd (clash _ z.if-reserved_zero.true (y.value-is ∙ y.if-blocks_fit.false))
  ]
  | else-reserved_zero z ↦ absurd (clash _ c.if-copied_fit.true (z.value-is ∙ z.if-reserved_zero.false))
]

pub returns-else-copied_fit : goal.returns-else-copied_fit
returns-else-copied_fit c = c.if-copied_fit.false ∙ elim c.if-reserved_zero.branch [
  | then-reserved_zero z ↦ elim c.if-blocks_fit.branch [
    | then-blocks_fit y ↦ elim c.if-h-le-STOPPED.branch [
      | then-h-le-STOPPED x ↦
          fits_copied _ c.read-h.result c.read-h.ensures x.if-h-le-STOPPED.true (sym x.blocks_fit.ensures ∙ sym x.value-is ∙ y.if-blocks_fit.true)
          (sym y.reserved_zero.ensures ∙ sym y.value-is ∙ z.if-reserved_zero.true) (sym z.copied_fit.ensures ∙ sym z.value-is ∙ c.if-copied_fit.false)
      | else-h-le-STOPPED x ↦ absurd (clash _ y.if-blocks_fit.true (x.value-is ∙ lt-leb _ _ x.if-h-le-STOPPED.false))
    ]
    | else-blocks_fit y ↦ absurd (clash _ z.if-reserved_zero.true (y.value-is ∙ y.if-blocks_fit.false))
  ]
  | else-reserved_zero z ↦ elim c.if-blocks_fit.branch [
    | then-blocks_fit y ↦ fits_reserved _ c.read-h.result c.read-h.ensures (sym y.reserved_zero.ensures ∙ sym y.value-is ∙ z.if-reserved_zero.false)
    | else-blocks_fit y ↦ elim c.if-h-le-STOPPED.branch [
      | then-h-le-STOPPED x ↦ fits_blocks _ c.read-h.result c.read-h.ensures (sym x.blocks_fit.ensures ∙ sym x.value-is ∙ y.if-blocks_fit.false)
      | else-h-le-STOPPED x ↦ fits_state _ c.read-h.result c.read-h.ensures x.if-h-le-STOPPED.false
    ]
  ]
]
