use mathlib.Core.Path.{ap, ◌∙◌}
use Rattle.layout.specs.declared.header.Counts.{Counts}
use native.Mathlib.Omega.{arith}
use Rattle.bounded.proofs.BoolLaws.{chain_on, chain_off}
use Rattle.layout.specs.declared.header.Header.{Header}
use Rattle.checker.proofs.CheckLaws.{framed_on, sound_on}
use Rattle.files.proofs.CallLaws.{guard_unframed, guard_unsound, guard_sound}
use Rattle.sound.specs.declared.Form.TheVariants.{Store}
use Rattle.files.proofs.plain.guard.Goals as goal

pub returns-then-not-framed : goal.returns-then-not-framed
returns-then-not-framed c = guard_unframed _ (chain_off _ _ c.framed.ensures c.if-not-framed.true-raw)

pub read-requires : goal.read-requires
read-requires c = let f = framed_on Store _ (chain_on _ _ c.framed.ensures c.if-not-framed.false-raw) in let l = f.long in omega arith

pub body_right-requires : goal.body_right-requires
body_right-requires c = (framed_on Store _ (chain_on _ _ c.framed.ensures c.if-not-framed.false-raw), ap (λ (x : Counts). x.inodes) c.counts-counts.ensures ∙ ap (λ (h : Header). h.inodes) c.read.ensures, ap (λ (x : Counts). x.blocks) c.counts-counts.ensures ∙ ap (λ (h : Header). h.blocks) c.read.ensures)

pub returns-then-not-body_right : goal.returns-then-not-body_right
returns-then-not-body_right c = guard_unsound _ (chain_on _ _ c.framed.ensures c.if-not-framed.false-raw) (chain_off _ _ (sound_on _ _ _ (chain_on _ _ c.framed.ensures c.if-not-framed.false-raw) c.body_right.ensures) c.if-not-body_right.true-raw)

pub returns : goal.returns
returns c = guard_sound _ (chain_on _ _ c.framed.ensures c.if-not-framed.false-raw) _ _ (chain_on _ _ (sound_on _ _ _ (chain_on _ _ c.framed.ensures c.if-not-framed.false-raw) c.body_right.ensures) c.if-not-body_right.false-raw) (ap (λ (x : Counts). x.inodes) c.counts-counts.ensures ∙ ap (λ (h : Header). h.inodes) c.read.ensures) (ap (λ (x : Counts). x.blocks) c.counts-counts.ensures ∙ ap (λ (h : Header). h.blocks) c.read.ensures)
