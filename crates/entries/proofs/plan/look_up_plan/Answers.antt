use mathlib.Core.Path.{sym, ◌∙◌}
use borrow.Author.Tests.{not-true, not-false}
use Rattle.names.proofs.NameLaws.{legal_bounds}
use Rattle.directory.proofs.SlotLaws.{find_below}
use Rattle.preservation.proofs.StoreLaws.{kind_dir}
use Rattle.entries.proofs.EntryPlanLaws.{look_illegal, look_wrong, look_absent, look_done}
use Rattle.entries.proofs.plan.look_up_plan.Goals as goal

pub returns-then-not-legal_name : goal.returns-then-not-legal_name
returns-then-not-legal_name c = look_illegal _ _ _ _ (sym c.legal_name.ensures ∙ not-true _ c.if-not-legal_name.true-raw)

pub returns-then-not-is_kind : goal.returns-then-not-is_kind
returns-then-not-is_kind c = look_wrong _ _ _ _ (sym c.legal_name.ensures ∙ not-false _ c.if-not-legal_name.false-raw) (sym c.is_kind.ensures ∙ not-true _ c.if-not-is_kind.true-raw)

pub find_slot-requires : goal.find_slot-requires
find_slot-requires c = (kind_dir c.requires _ (sym c.is_kind.ensures ∙ not-false _ c.if-not-is_kind.false-raw), (legal_bounds _ (sym c.legal_name.ensures ∙ not-false _ c.if-not-legal_name.false-raw)).1)

pub returns-in_default : goal.returns-in_default
returns-in_default c = look_absent _ _ _ _ (sym c.legal_name.ensures ∙ not-false _ c.if-not-legal_name.false-raw) (sym c.is_kind.ensures ∙ not-false _ c.if-not-is_kind.false-raw) (sym c.find_slot.ensures ∙ c.in_default.is)

pub slot_inode-requires : goal.slot_inode-requires
slot_inode-requires c = (kind_dir c.requires _ (sym c.is_kind.ensures ∙ not-false _ c.if-not-is_kind.false-raw), find_below _ _ _ _ _ (sym c.find_slot.ensures ∙ c.in-Some.is))

pub returns : goal.returns
returns c = look_done _ _ _ _ _ _ (sym c.legal_name.ensures ∙ not-false _ c.if-not-legal_name.false-raw) (sym c.is_kind.ensures ∙ not-false _ c.if-not-is_kind.false-raw) (sym c.find_slot.ensures ∙ c.in-Some.is) c.slot_inode.ensures
