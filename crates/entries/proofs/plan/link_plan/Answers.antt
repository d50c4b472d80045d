use mathlib.Core.Path.{sym, ◌∙◌}
use Rattle.bounded.proofs.BoolLaws.{chain_on, chain_off}
use Rattle.names.proofs.NameLaws.{legal_bounds}
use Rattle.preservation.proofs.StoreLaws.{kind_dir}
use Rattle.entries.proofs.EntryPlanLaws.{link_illegal, link_wrong, link_other, link_taken, link_room}
use Rattle.entries.proofs.plan.link_plan.Goals as goal

pub returns-then-not-legal_name : goal.returns-then-not-legal_name
returns-then-not-legal_name c = link_illegal _ _ _ _ _ _ (chain_off _ _ c.legal_name.ensures c.if-not-legal_name.true-raw)

pub returns-then-not-is_kind : goal.returns-then-not-is_kind
returns-then-not-is_kind c = link_wrong _ _ _ _ _ _ (chain_on _ _ c.legal_name.ensures c.if-not-legal_name.false-raw) (chain_off _ _ c.is_kind.ensures c.if-not-is_kind.true-raw)

pub returns-then-not-is_kind-2 : goal.returns-then-not-is_kind-2
returns-then-not-is_kind-2 c = link_other _ _ _ _ _ _ (chain_on _ _ c.legal_name.ensures c.if-not-legal_name.false-raw) (chain_on _ _ c.is_kind.ensures c.if-not-is_kind.false-raw) (chain_off _ _ c.is_kind-2.ensures c.if-not-is_kind-2.true-raw)

pub find_slot-requires : goal.find_slot-requires
find_slot-requires c = let p = c.requires in (kind_dir p _ (chain_on _ _ c.is_kind.ensures c.if-not-is_kind.false-raw), (legal_bounds _ (chain_on _ _ c.legal_name.ensures c.if-not-legal_name.false-raw)).1)

pub returns-in_default : goal.returns-in_default
returns-in_default c = link_taken _ _ _ _ _ _ (chain_on _ _ c.legal_name.ensures c.if-not-legal_name.false-raw) (chain_on _ _ c.is_kind.ensures c.if-not-is_kind.false-raw) (chain_on _ _ c.is_kind-2.ensures c.if-not-is_kind-2.false-raw) _ (sym c.find_slot.ensures ∙ c.in_default.is)

pub room_in-requires : goal.room_in-requires
room_in-requires c = let p = c.requires in (p, (chain_on _ _ c.is_kind.ensures c.if-not-is_kind.false-raw))

pub returns : goal.returns
returns c = link_room _ _ _ _ _ _ (chain_on _ _ c.legal_name.ensures c.if-not-legal_name.false-raw) (chain_on _ _ c.is_kind.ensures c.if-not-is_kind.false-raw) (chain_on _ _ c.is_kind-2.ensures c.if-not-is_kind-2.false-raw) (sym c.find_slot.ensures ∙ c.in-None.is) c.room_in.ensures
