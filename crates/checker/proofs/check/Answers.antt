use mathlib.Core.Path.{sym, ap, ◌∙◌}
use native.Mathlib.Omega.{arith}
use Rattle.layout.specs.declared.header.Header.{Header}
use Rattle.checker.proofs.CheckLaws.{framed_on, sound_stop, sound_on}
use Rattle.checker.proofs.check.Goals as goal

pub returns-then-not-framed : goal.returns-then-not-framed
returns-then-not-framed c = sound_stop _ _ (sym c.framed.ensures ∙ c.if-not-framed.true)

pub read-h-requires : goal.read-h-requires
read-h-requires c = let f = framed_on _ _ (sym c.framed.ensures ∙ c.if-not-framed.false) in let l = f.long in omega arith

pub body_right-requires : goal.body_right-requires
body_right-requires c = (
  framed_on _ _ (sym c.framed.ensures ∙ c.if-not-framed.false),
  c.from.ensures ∙ ap (λ (h : Header). h.inodes) c.read-h.ensures,
  c.from-2.ensures ∙ ap (λ (h : Header). h.blocks) c.read-h.ensures,
)

pub returns : goal.returns
returns c = sound_on _ _ _ (sym c.framed.ensures ∙ c.if-not-framed.false) c.body_right.ensures
