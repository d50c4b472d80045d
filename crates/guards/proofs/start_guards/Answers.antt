use mathlib.Core.Path.{ap}
use native.Mathlib.Omega.{arith}
use Rattle.bounded.proofs.BoolLaws.{chain_on, chain_off, and_left}
use Rattle.layout.specs.declared.header.Header.{Header}
use Rattle.sound.specs.declared.Form.TheVariants.{Store}
use Rattle.checker.proofs.CheckLaws.{framed_on}
use Rattle.guards.proofs.GuardLaws.{start_unframed, start_no_image, start_framed}
use Rattle.guards.proofs.start_guards.Goals as goal

pub returns-then-not-both_framed : goal.returns-then-not-both_framed
returns-then-not-both_framed c = start_unframed _ _ _ (chain_off _ _ c.both_framed.ensures c.if-not-both_framed.true-raw)

pub read-h-requires : goal.read-h-requires
read-h-requires c = let f = framed_on Store _ (and_left _ _ (chain_on _ _ c.both_framed.ensures c.if-not-both_framed.false-raw)) in let l = f.long in omega arith

pub image_allowed-requires : goal.image_allowed-requires
image_allowed-requires c = let f = framed_on Store _ (and_left _ _ (chain_on _ _ c.both_framed.ensures c.if-not-both_framed.false-raw)) in let l = f.most_inodes_lem in let e = ap (λ (h : Header). h.inodes) c.read-h.ensures in omega arith

pub returns-then-not-image_allowed : goal.returns-then-not-image_allowed
returns-then-not-image_allowed c = start_no_image _ _ _ (chain_on _ _ c.both_framed.ensures c.if-not-both_framed.false-raw) (ap (λ (h : Header). h.inodes) c.read-h.ensures) (chain_off _ _ c.image_allowed.ensures c.if-not-image_allowed.true-raw)

pub returns : goal.returns
returns c = start_framed _ _ _ (chain_on _ _ c.both_framed.ensures c.if-not-both_framed.false-raw) (ap (λ (h : Header). h.inodes) c.read-h.ensures) (chain_on _ _ c.image_allowed.ensures c.if-not-image_allowed.false-raw) _ c.after_lengths.ensures
