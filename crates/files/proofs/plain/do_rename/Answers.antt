use mathlib.Core.List.{List}
use mathlib.Core.Path.{sym, ◌∙◌, subst}
use Prim.Native.Nat.{ℕ}
use Rattle.sound.specs.Counted.{SoundStore}
use Rattle.answers.proofs.RefusalLaws.{is_taken}
use Rattle.entries.specs.Plan.{over_plan}
use Rattle.files.specs.Effect.{do_rename_new, do_over}
use Rattle.files.proofs.OverLaws.{taken_stays, taken_goes_on, untaken_ends}
use Rattle.files.proofs.plain.do_rename.Goals as goal

pub do_over-requires : goal.do_over-requires
do_over-requires c =
    let a = c.args in
    subst (λ (v : List ℕ). SoundStore v a.n a.b)
    (sym (taken_stays a.s.now _ (do_rename_new a.s.now a.n a.b a.d a.name.now a.e a.other.now) c.do_rename_new-answer.result c.do_rename_new-answer.ensures
    (sym (is_taken _) ∙ sym c.eq.ensures ∙ c.if-eq.true))) c.requires

pub returns-then-eq : goal.returns-then-eq
returns-then-eq c =
    let a = c.args in
    taken_goes_on a.s.now _ (do_rename_new a.s.now a.n a.b a.d a.name.now a.e a.other.now) c.do_rename_new-answer.result c.do_rename_new-answer.ensures
    (λ v. do_over v a.n a.b a.d a.name.now a.e a.other.now (over_plan v a.n a.d a.name.now a.e a.other.now)) _
    (sym (is_taken _) ∙ sym c.eq.ensures ∙ c.if-eq.true) c.do_over.ensures

pub returns : goal.returns
returns c =
    let a = c.args in
    untaken_ends a.s.now _ (do_rename_new a.s.now a.n a.b a.d a.name.now a.e a.other.now) c.do_rename_new-answer.result c.do_rename_new-answer.ensures
    (do_over a.s.now a.n a.b a.d a.name.now a.e a.other.now (over_plan a.s.now a.n a.d a.name.now a.e a.other.now))
    (sym (is_taken _) ∙ sym c.eq.ensures ∙ c.if-eq.false)
