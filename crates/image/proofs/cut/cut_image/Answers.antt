use Rattle.std.proofs.Common.{sym, ◌∙◌, eq-eqb, eqb-true}
use Rattle.bounded.proofs.BoolLaws.{clash}
use Rattle.image.proofs.CutLaws.{cut_idle, cut_uncopied, cut_copied, cut_other, cut_there, named_there}
use Rattle.image.proofs.cut.cut_image.Goals as goal
use Rattle.image.proofs.cut.cut_image.Goals.{else-runs-via-then-runs+then-is_copied+then-not-is_copied+else-is_named, else-runs-via-then-runs+then-is_copied+else-not-is_copied, else-runs-via-then-runs+else-is_copied, else-runs-via-else-runs}

pub image_slot-o-requires : goal.image_slot-o-requires
image_slot-o-requires c =
    let b = c.requires in
    (b.1 (sym c.runs.ensures ∙ c.if-runs.true), b.3, b.4, b.5, named_there _ _ _ _ _ b.6 (eqb-true _ _ (sym c.is_named.ensures ∙ c.if-is_named.true)))

pub returns-then-is_named : goal.returns-then-is_named
returns-then-is_named c =
    c.zero_range.ensures
    ∙ cut_there _ _ _ c.requires.0 _ _ _ _ (sym c.runs.ensures ∙ c.if-runs.true) (sym c.is_copied.ensures ∙ c.if-is_copied.true)
    (sym c.is_copied-then-is_copied.ensures ∙ c.if-not-is_copied.true) _ (eqb-true _ _ (sym c.is_named.ensures ∙ c.if-is_named.true)) c.image_slot-o.ensures.0

pub returns-else-runs : goal.returns-else-runs
returns-else-runs c = elim c.else-runs.branch [
  | else-runs-via-then-runs+then-is_copied+then-not-is_copied+else-is_named w ↦
      cut_other _ _ _ c.requires.0 _ _ _ _ (sym c.runs.ensures ∙ w.if-runs.true) (sym w.is_copied.ensures ∙ w.if-is_copied.true) (sym w.is_copied-then-is_copied.ensures ∙ w.if-not-is_copied.true)
      (λ q. clash w.is_named.result (w.is_named.ensures ∙ eq-eqb _ _ q) w.if-is_named.false)
  | else-runs-via-then-runs+then-is_copied+else-not-is_copied w ↦
      cut_copied _ _ _ c.requires.0 _ _ _ _ (sym c.runs.ensures ∙ w.if-runs.true) (sym w.is_copied.ensures ∙ w.if-is_copied.true) (sym w.is_copied-then-is_copied.ensures ∙ w.if-not-is_copied.false)
  | else-runs-via-then-runs+else-is_copied w ↦ cut_uncopied _ _ _ c.requires.0 _ _ _ _ (sym c.runs.ensures ∙ w.if-runs.true) (sym w.is_copied.ensures ∙ w.if-is_copied.false)
  | else-runs-via-else-runs w ↦ cut_idle _ _ _ c.requires.0 _ _ _ _ (sym c.runs.ensures ∙ w.if-runs.false)
]
