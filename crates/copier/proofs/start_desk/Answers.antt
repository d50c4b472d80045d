use mathlib.Core.Path.{ap, ap₂, ◌∙◌}
use Rattle.desk.specs.declared.Desk.{Desk}
use Rattle.desk.specs.Desk.{put_desk}
use Rattle.desk.specs.Next.{starting}
use Rattle.checkpoint.specs.Copier.{start_desk}
use Rattle.copier.proofs.start_desk.Goals as goal

pub returns : goal.returns
unfolding start_desk
returns c =
    c.write.ensures
    ∙ ap₂ put_desk c.clear_notes.ensures (c.start.ensures ∙ ap (λ (h : Desk). starting h c.args.b) c.requires.0)
