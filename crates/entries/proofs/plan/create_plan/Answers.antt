use Rattle.answers.proofs.RefusalLaws.{exit}
use mathlib.Core.Path.{sym, ◌∙◌}
use Rattle.bounded.proofs.BoolLaws.{chain_on, chain_off}
use Rattle.names.proofs.NameLaws.{legal_bounds}
use Rattle.preservation.proofs.StoreLaws.{kind_dir}
use Rattle.entries.proofs.EntryPlanLaws.{create_illegal, create_wrong, create_taken, create_full, create_make, create_roomless}
use Rattle.entries.proofs.plan.create_plan.Goals as goal

pub returns-then-not-legal_name : goal.returns-then-not-legal_name
returns-then-not-legal_name c = create_illegal _ _ _ _ _ (chain_off _ _ c.legal_name.ensures c.if-not-legal_name.true-raw)

pub returns-then-not-is_kind : goal.returns-then-not-is_kind
returns-then-not-is_kind c = create_wrong _ _ _ _ _ (chain_on _ _ c.legal_name.ensures c.if-not-legal_name.false-raw) (chain_off _ _ c.is_kind.ensures c.if-not-is_kind.true-raw)

pub find_slot-requires : goal.find_slot-requires
find_slot-requires c = let p = c.requires in (kind_dir p _ (chain_on _ _ c.is_kind.ensures c.if-not-is_kind.false-raw), (legal_bounds _ (chain_on _ _ c.legal_name.ensures c.if-not-legal_name.false-raw)).1)

pub returns-in_default : goal.returns-in_default
returns-in_default c = create_taken _ _ _ _ _ (chain_on _ _ c.legal_name.ensures c.if-not-legal_name.false-raw) (chain_on _ _ c.is_kind.ensures c.if-not-is_kind.false-raw) _ (sym c.find_slot.ensures ∙ c.in_default.is)

pub returns-in_default-free_inode : goal.returns-in_default-free_inode
returns-in_default-free_inode c = create_full _ _ _ _ _ (chain_on _ _ c.legal_name.ensures c.if-not-legal_name.false-raw) (chain_on _ _ c.is_kind.ensures c.if-not-is_kind.false-raw) (sym c.find_slot.ensures ∙ c.in-None.is) (sym c.free_inode.ensures ∙ c.in_default-free_inode.is)

pub room_in-requires : goal.room_in-requires
room_in-requires c = let p = c.requires in (p, (chain_on _ _ c.is_kind.ensures c.if-not-is_kind.false-raw))

pub returns : goal.returns
returns c = create_make _ _ _ _ _ (chain_on _ _ c.legal_name.ensures c.if-not-legal_name.false-raw) (chain_on _ _ c.is_kind.ensures c.if-not-is_kind.false-raw) (sym c.find_slot.ensures ∙ c.in-None.is) _ (sym c.free_inode.ensures ∙ c.in-Some.is) _ (sym c.room_in.ensures ∙ c.in_ok-room.was)

pub returns-in_err-room : goal.returns-in_err-room
returns-in_err-room c = exit _ _ c.from_residual.ensures.1 ∙ create_roomless _ _ _ _ _ (chain_on _ _ c.legal_name.ensures c.if-not-legal_name.false-raw) (chain_on _ _ c.is_kind.ensures c.if-not-is_kind.false-raw) (sym c.find_slot.ensures ∙ c.in-None.is) _ (sym c.free_inode.ensures ∙ c.in-Some.is) _ (sym c.room_in.ensures ∙ c.in_err-room.was)
