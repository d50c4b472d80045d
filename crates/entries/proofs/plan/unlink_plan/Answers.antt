use mathlib.Core.Path.{◌≡◌, sym, ◌∙◌}
use native.Mathlib.Omega.{arith}
use Rattle.bounded.proofs.BoolLaws.{chain_on, chain_off}
use Rattle.names.proofs.NameLaws.{legal_bounds}
use Rattle.directory.specs.Slot.{inode_at}
use Rattle.directory.proofs.SlotLaws.{find_below}
use Rattle.preservation.proofs.StoreLaws.{fits, dir_of_lem, kind_dir}
use Rattle.preservation.proofs.SlotPlaceLaws.{found_here}
use Rattle.entries.proofs.TakePlanLaws.{unlink_illegal, unlink_wrong, unlink_absent, unlink_full, unlink_empty}
use Rattle.entries.proofs.plan.unlink_plan.Goals as goal

pub returns-then-not-legal_name : goal.returns-then-not-legal_name
returns-then-not-legal_name c = unlink_illegal _ _ _ _ (chain_off _ _ c.legal_name.ensures c.if-not-legal_name.true-raw)

pub returns-then-not-is_kind : goal.returns-then-not-is_kind
returns-then-not-is_kind c = unlink_wrong _ _ _ _ (chain_on _ _ c.legal_name.ensures c.if-not-legal_name.false-raw) (chain_off _ _ c.is_kind.ensures c.if-not-is_kind.true-raw)

pub find_slot-requires : goal.find_slot-requires
find_slot-requires c = let p = c.requires in (kind_dir p _ (chain_on _ _ c.is_kind.ensures c.if-not-is_kind.false-raw), (legal_bounds _ (chain_on _ _ c.legal_name.ensures c.if-not-legal_name.false-raw)).1)

pub returns-in_default : goal.returns-in_default
returns-in_default c = unlink_absent _ _ _ _ (chain_on _ _ c.legal_name.ensures c.if-not-legal_name.false-raw) (chain_on _ _ c.is_kind.ensures c.if-not-is_kind.false-raw) (sym c.find_slot.ensures ∙ c.in_default.is)

pub slot_inode-i-requires : goal.slot_inode-i-requires
slot_inode-i-requires c = let p = c.requires in (kind_dir p _ (chain_on _ _ c.is_kind.ensures c.if-not-is_kind.false-raw), find_below _ _ _ _ _ (sym c.find_slot.ensures ∙ c.in-Some.is))

pub kind-requires : goal.kind-requires
kind-requires c = let p = c.requires in fits p _ ((let p = c.requires in let e : c.slot_inode-i.result ≡ inode_at c.args.s.now c.args.n c.args.d c.in-Some.t = c.slot_inode-i.ensures in omega (arith, (found_here p _ _ _ (chain_on _ _ c.is_kind.ensures c.if-not-is_kind.false-raw) (chain_on _ _ c.legal_name.ensures c.if-not-legal_name.false-raw) (sym c.find_slot.ensures ∙ c.in-Some.is)).low, e))) ((let p = c.requires in let e : c.slot_inode-i.result ≡ inode_at c.args.s.now c.args.n c.args.d c.in-Some.t = c.slot_inode-i.ensures in omega (arith, (found_here p _ _ _ (chain_on _ _ c.is_kind.ensures c.if-not-is_kind.false-raw) (chain_on _ _ c.legal_name.ensures c.if-not-legal_name.false-raw) (sym c.find_slot.ensures ∙ c.in-Some.is)).high, e)))

pub holds_none-requires : goal.holds_none-requires
holds_none-requires c = let p = c.requires in dir_of_lem p _ (record { low = (let p = c.requires in let e : c.slot_inode-i.result ≡ inode_at c.args.s.now c.args.n c.args.d c.in-Some.t = c.slot_inode-i.ensures in omega (arith, (found_here p _ _ _ (chain_on _ _ c.is_kind.ensures c.if-not-is_kind.false-raw) (chain_on _ _ c.legal_name.ensures c.if-not-legal_name.false-raw) (sym c.find_slot.ensures ∙ c.in-Some.is)).low, e)); high = (let p = c.requires in let e : c.slot_inode-i.result ≡ inode_at c.args.s.now c.args.n c.args.d c.in-Some.t = c.slot_inode-i.ensures in omega (arith, (found_here p _ _ _ (chain_on _ _ c.is_kind.ensures c.if-not-is_kind.false-raw) (chain_on _ _ c.legal_name.ensures c.if-not-legal_name.false-raw) (sym c.find_slot.ensures ∙ c.in-Some.is)).high, e)); kind = omega arith })

pub returns-then-not-holds_none : goal.returns-then-not-holds_none
returns-then-not-holds_none c = unlink_full _ _ _ _ (chain_on _ _ c.legal_name.ensures c.if-not-legal_name.false-raw) (chain_on _ _ c.is_kind.ensures c.if-not-is_kind.false-raw) _ _ (sym c.find_slot.ensures ∙ c.in-Some.is) c.slot_inode-i.ensures (omega arith) (chain_off _ _ c.holds_none.ensures c.if-not-holds_none.true-raw)

pub returns-else-not-holds_none : goal.returns-else-not-holds_none
returns-else-not-holds_none c = unlink_empty _ _ _ _ (chain_on _ _ c.legal_name.ensures c.if-not-legal_name.false-raw) (chain_on _ _ c.is_kind.ensures c.if-not-is_kind.false-raw) _ _ (sym c.find_slot.ensures ∙ c.in-Some.is) c.slot_inode-i.ensures (omega arith) (chain_on _ _ c.holds_none.ensures c.if-not-holds_none.false-raw)
