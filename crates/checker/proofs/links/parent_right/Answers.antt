use mathlib.Core.Path.{sym, ◌∙◌}
use Rattle.bounded.proofs.ClimbLaws.{leads_prop}
use Rattle.checker.proofs.LinkLaws.{is_dir, lead_other, lead_dir}
use Rattle.checker.proofs.links.parent_right.Goals as goal

pub returns-then-kind-ne-DIRECTORY : goal.returns-then-kind-ne-DIRECTORY
returns-then-kind-ne-DIRECTORY c = (lead_other _ _ _ _ c.kind.ensures c.if-kind-ne-DIRECTORY.true, c.requires.1)

pub returns-then-not-climbs : goal.returns-then-not-climbs
returns-then-not-climbs c =
    (sym (lead_dir _ _ _ _ c.kind.ensures c.if-kind-ne-DIRECTORY.false ∙ sym c.climbs.ensures ∙ c.if-not-climbs.true), c.requires.1)

pub note_path-requires : goal.note_path-requires
note_path-requires c =
    let p = c.requires in record { n_le_most_inodes = (p.0.few, p.0.area, is_dir _ _ _ _ c.kind.ensures p.0 c.if-kind-ne-DIRECTORY.false, p.1, p.2); leads = leads_prop _ _ _ _ (sym c.climbs.ensures ∙ c.if-not-climbs.false) }

pub returns : goal.returns
returns c =
    (sym (lead_dir _ _ _ _ c.kind.ensures c.if-kind-ne-DIRECTORY.false ∙ sym c.climbs.ensures ∙ c.if-not-climbs.false), c.note_path.ensures)
