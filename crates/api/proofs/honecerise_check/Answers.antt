use mathlib.Core.Path.{ap, ◌∙◌}
use borrow.Author.Tests.{eq-eqb, ne_eqb}
use Rattle.bounded.specs.Count.{one}
use Rattle.sound.specs.declared.Form.{Form}
use Rattle.sound.specs.Test.{is_sound}
use Rattle.api.specs.Api.{checked}
use Rattle.api.proofs.CodeLaws.{one_byte, told_form}
use Rattle.api.proofs.honecerise_check.Goals as goal
use Rattle.api.proofs.honecerise_check.Goals.{then-image-eq0, else-image-eq0}

pub returns : goal.returns
unfolding checked
returns c =
    c.from.ensures ∙ one_byte c.check.result ∙ ap one c.check.ensures
    ∙ ap (λ (f : Form). one (is_sound f c.args.store.now)) (elim c.if-image-eq0.branch [
      | then-image-eq0 w ↦ told_form _ _ (eq-eqb c.args.image 0 w.if-image-eq0.true) w.form-is
      | else-image-eq0 w ↦ told_form _ _ (ne_eqb c.args.image 0 w.if-image-eq0.false) w.form-is
    ])
