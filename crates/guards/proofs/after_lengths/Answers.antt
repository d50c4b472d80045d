use mathlib.Core.Path.{◌≡◌, ap, ◌∙◌}
use Rattle.sound.specs.Sound.{inodes_in}
use Rattle.layout.specs.declared.header.Counts.{Counts}
use native.Mathlib.Omega.{arith}
use Rattle.bounded.proofs.BoolLaws.{chain_on, chain_off, and_left, and_right}
use Rattle.layout.specs.declared.header.Header.{Header}
use Rattle.sound.specs.Test.{framed_b}
use Rattle.sound.specs.declared.Form.TheVariants.{Store}
use Rattle.checker.proofs.CheckLaws.{framed_on, sound_on}
use Rattle.image.proofs.FitLaws.{framed}
use Rattle.guards.proofs.GuardLaws.{after_unsound, after_misfit, after_pass}
use Rattle.guards.proofs.after_lengths.Goals as goal

pub read-requires : goal.read-requires
read-requires c = let f = framed_on Store _ (and_left _ _ c.requires) in let l = f.long in omega arith

pub body_right-requires : goal.body_right-requires
body_right-requires c = (framed_on Store _ (and_left _ _ c.requires), ap (λ (x : Counts). x.inodes) c.counts-counts.ensures ∙ ap (λ (h : Header). h.inodes) c.read.ensures, ap (λ (x : Counts). x.blocks) c.counts-counts.ensures ∙ ap (λ (h : Header). h.blocks) c.read.ensures)

pub returns-then-not-body_right : goal.returns-then-not-body_right
returns-then-not-body_right c = after_unsound _ _ _ (chain_off _ _ (sound_on _ _ _ (and_left _ _ c.requires) c.body_right.ensures) c.if-not-body_right.true-raw)

pub notes_fit-requires : goal.notes_fit-requires
notes_fit-requires c =
    let f = framed_on Store _ (and_left _ _ c.requires) in
    let l = f.long in
    let e : c.counts-counts.result.inodes ≡ inodes_in c.args.store.now = ap (λ (x : Counts). x.inodes) c.counts-counts.ensures ∙ ap (λ (h : Header). h.inodes) c.read.ensures in
    (and_right (framed_b Store c.args.store.now) _ c.requires, omega arith)

pub returns-then-not-notes_fit : goal.returns-then-not-notes_fit
returns-then-not-notes_fit c =
    after_misfit _ _ _ (chain_on _ _ (sound_on _ _ _ (and_left _ _ c.requires) c.body_right.ensures) c.if-not-body_right.false-raw) (ap (λ (x : Counts). x.inodes) c.counts-counts.ensures ∙ ap (λ (h : Header). h.inodes) c.read.ensures)
    (chain_off _ _ c.notes_fit.ensures c.if-not-notes_fit.true-raw)

pub read-requires-2 : goal.read-requires-2
read-requires-2 c =
    let f = framed _ (and_right (framed_b Store c.args.store.now) _ c.requires) in
    let l = f.long in
    omega arith

pub returns : goal.returns
returns c =
    after_pass _ _ _ (chain_on _ _ (sound_on _ _ _ (and_left _ _ c.requires) c.body_right.ensures) c.if-not-body_right.false-raw) (ap (λ (x : Counts). x.inodes) c.counts-counts.ensures ∙ ap (λ (h : Header). h.inodes) c.read.ensures) _ _ (ap (λ (x : Counts). x.blocks) c.counts-counts.ensures ∙ ap (λ (h : Header). h.blocks) c.read.ensures) c.read-2.ensures
    (chain_on _ _ c.notes_fit.ensures c.if-not-notes_fit.false-raw)
