use mathlib.Core.Path.{◌≡◌, sym, ◌∙◌}
use native.Mathlib.Omega.{arith}
use Rattle.bounded.proofs.BoolLaws.{chain_on, chain_off}
use Rattle.names.proofs.NameLaws.{legal_bounds}
use Rattle.directory.specs.Slot.{inode_at}
use Rattle.directory.proofs.SlotLaws.{find_below}
use Rattle.preservation.proofs.StoreLaws.{kind_dir}
use Rattle.preservation.proofs.SlotPlaceLaws.{found_here}
use Rattle.entries.proofs.TakePlanLaws.{rename_illegal, rename_illegal_new, rename_wrong, rename_wrong_new, rename_absent, rename_here, rename_away}
use Rattle.entries.proofs.plan.rename_new_plan.Goals as goal

pub returns-then-not-legal_name : goal.returns-then-not-legal_name
returns-then-not-legal_name c = rename_illegal _ _ _ _ _ _ _ (chain_off _ _ c.legal_name.ensures c.if-not-legal_name.true-raw)

pub returns-then-not-legal_name-2 : goal.returns-then-not-legal_name-2
returns-then-not-legal_name-2 c = rename_illegal_new _ _ _ _ _ _ _ (chain_on _ _ c.legal_name.ensures c.if-not-legal_name.false-raw) (chain_off _ _ c.legal_name-2.ensures c.if-not-legal_name-2.true-raw)

pub returns-then-not-is_kind : goal.returns-then-not-is_kind
returns-then-not-is_kind c = rename_wrong _ _ _ _ _ _ _ (chain_on _ _ c.legal_name.ensures c.if-not-legal_name.false-raw) (chain_on _ _ c.legal_name-2.ensures c.if-not-legal_name-2.false-raw) (chain_off _ _ c.is_kind.ensures c.if-not-is_kind.true-raw)

pub returns-then-not-is_kind-2 : goal.returns-then-not-is_kind-2
returns-then-not-is_kind-2 c = rename_wrong_new _ _ _ _ _ _ _ (chain_on _ _ c.legal_name.ensures c.if-not-legal_name.false-raw) (chain_on _ _ c.legal_name-2.ensures c.if-not-legal_name-2.false-raw) (chain_on _ _ c.is_kind.ensures c.if-not-is_kind.false-raw) (chain_off _ _ c.is_kind-2.ensures c.if-not-is_kind-2.true-raw)

pub find_slot-requires : goal.find_slot-requires
find_slot-requires c = let p = c.requires in (kind_dir p _ (chain_on _ _ c.is_kind.ensures c.if-not-is_kind.false-raw), (legal_bounds _ (chain_on _ _ c.legal_name.ensures c.if-not-legal_name.false-raw)).1)

pub returns-in_default : goal.returns-in_default
returns-in_default c = rename_absent _ _ _ _ _ _ _ (chain_on _ _ c.legal_name.ensures c.if-not-legal_name.false-raw) (chain_on _ _ c.legal_name-2.ensures c.if-not-legal_name-2.false-raw) (chain_on _ _ c.is_kind.ensures c.if-not-is_kind.false-raw) (chain_on _ _ c.is_kind-2.ensures c.if-not-is_kind-2.false-raw) (sym c.find_slot.ensures ∙ c.in_default.is)

pub slot_inode-i-requires : goal.slot_inode-i-requires
slot_inode-i-requires c = let p = c.requires in (kind_dir p _ (chain_on _ _ c.is_kind.ensures c.if-not-is_kind.false-raw), find_below _ _ _ _ _ (sym c.find_slot.ensures ∙ c.in-Some.is))

pub rename_within-requires : goal.rename_within-requires
rename_within-requires c =
    let p = c.requires in
    (kind_dir p _ (chain_on _ _ c.is_kind-2.ensures c.if-not-is_kind-2.false-raw), (legal_bounds _ (chain_on _ _ c.legal_name-2.ensures c.if-not-legal_name-2.false-raw)).1)

pub returns-then-d-e : goal.returns-then-d-e
returns-then-d-e c =
    rename_here _ _ _ _ _ _ _ (chain_on _ _ c.legal_name.ensures c.if-not-legal_name.false-raw) (chain_on _ _ c.legal_name-2.ensures c.if-not-legal_name-2.false-raw) (chain_on _ _ c.is_kind.ensures c.if-not-is_kind.false-raw) (chain_on _ _ c.is_kind-2.ensures c.if-not-is_kind-2.false-raw) _ _ _
    (sym c.find_slot.ensures ∙ c.in-Some.is) c.slot_inode-i.ensures c.if-d-e.true c.rename_within.ensures

pub move_to-requires : goal.move_to-requires
move_to-requires c =
    let p = c.requires in
    let a = c.args in
    let f = found_here p _ _ _ (chain_on _ _ c.is_kind.ensures c.if-not-is_kind.false-raw) (chain_on _ _ c.legal_name.ensures c.if-not-legal_name.false-raw) (sym c.find_slot.ensures ∙ c.in-Some.is) in
    let e : c.slot_inode-i.result ≡ inode_at a.s.now a.n a.d c.in-Some.t = c.slot_inode-i.ensures in
    (p, (chain_on _ _ c.is_kind-2.ensures c.if-not-is_kind-2.false-raw), (legal_bounds _ (chain_on _ _ c.legal_name-2.ensures c.if-not-legal_name-2.false-raw)).1, omega (arith, f.low, e), omega (arith, f.high, e))

pub returns : goal.returns
returns c =
    rename_away _ _ _ _ _ _ _ (chain_on _ _ c.legal_name.ensures c.if-not-legal_name.false-raw) (chain_on _ _ c.legal_name-2.ensures c.if-not-legal_name-2.false-raw) (chain_on _ _ c.is_kind.ensures c.if-not-is_kind.false-raw) (chain_on _ _ c.is_kind-2.ensures c.if-not-is_kind-2.false-raw) _ _ _
    (sym c.find_slot.ensures ∙ c.in-Some.is) c.slot_inode-i.ensures c.if-d-e.false c.move_to.ensures
