use Rattle.answers.proofs.RefusalLaws.{is_taken}
use mathlib.Core.Path.{sym, ◌∙◌, subst}
use Rattle.entries.specs.Plan.{over_plan}
use Rattle.files.specs.Effect.{do_rename_new, do_over}
use Rattle.checkpoint.specs.Live.{World, world}
use Rattle.image.specs.Addressed.{Readable}
use Rattle.live.specs.Fits.{Fits}
use Rattle.live.proofs.OverLaws.{taken_stays, taken_goes_on, untaken_ends}
use Rattle.live.proofs.work.rename.Goals as goal

pub over-requires : goal.over-requires
over-requires c =
    let a = c.args in
    let u = c.rename_new-answer in
    subst (λ (y : World). Fits y.store y.desk a.w.desk a.w.inodes a.w.blocks × Readable y.image a.w.desk a.w.inodes)
    (sym (taken_stays (world a.s.now a.m.now a.d.now) (world u.new.s u.new.m u.new.d) (do_rename_new a.s.now a.w.inodes a.w.blocks a.from a.name.now a.to a.other.now) u.result u.ensures (sym (is_taken _) ∙ sym c.eq.ensures ∙ c.if-eq.true))) c.requires

pub returns-then-eq : goal.returns-then-eq
returns-then-eq c =
    let a = c.args in
    let u = c.rename_new-answer in
    taken_goes_on (world a.s.now a.m.now a.d.now) (world u.new.s u.new.m u.new.d) (do_rename_new a.s.now a.w.inodes a.w.blocks a.from a.name.now a.to a.other.now) u.result u.ensures
    (λ v. do_over v a.w.inodes a.w.blocks a.from a.name.now a.to a.other.now (over_plan v a.w.inodes a.from a.name.now a.to a.other.now)) _
    (sym (is_taken _) ∙ sym c.eq.ensures ∙ c.if-eq.true) c.over.ensures

pub returns : goal.returns
returns c =
    let a = c.args in
    let u = c.rename_new-answer in
    untaken_ends (world a.s.now a.m.now a.d.now) (world u.new.s u.new.m u.new.d) (do_rename_new a.s.now a.w.inodes a.w.blocks a.from a.name.now a.to a.other.now) u.result u.ensures
    (do_over a.s.now a.w.inodes a.w.blocks a.from a.name.now a.to a.other.now (over_plan a.s.now a.w.inodes a.from a.name.now a.to a.other.now))
    (sym (is_taken _) ∙ sym c.eq.ensures ∙ c.if-eq.false)
