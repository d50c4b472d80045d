-- A rename within a directory: its plan and its bytes.
use Rattle.std.specs.Prelude.{None, Some, Ok}
use Prim.Native.Nat.{ℕ, ◌<◌}
use mathlib.Core.Path.{◌≡◌, refl}
use mathlib.Core.Bool.{true}
use mathlib.Core.List.{List}
use native.Mathlib.Omega.{arith}
use borrow.Author.Tests.{eq-eqb}
use Rattle.names.specs.Name.{legal_name}
use Rattle.names.specs.Entry.{entry_for}
use Rattle.layout.specs.Inode.{is_directory}
use Rattle.directory.specs.Slot.{slots, entry_of, find_slot, inode_at}
use Rattle.directory.proofs.SlotLaws.{slot_fits, few_slots, entry_put}
use Rattle.directory.specs.Fits.{DirFits}
use Rattle.entries.specs.Plan.{rename_to, rename_new_plan}
use Rattle.entries.specs.Apply.{renamed}
use Rattle.entries.specs.declared.RenamePlan.TheVariants.{Rename}

-- ---- "A rename within a directory keeps its slot"
module _ (s : List ℕ) (n b d t : ℕ) (name other : List ℕ) where
  pub rename_keeps : legal_name name ≡ true → legal_name other ≡ true → is_directory s n d ≡ true → find_slot s n d name ≡ Some t → find_slot s n d other ≡ None
      → rename_new_plan s n b d name d other ≡ Ok (Rename t (inode_at s n d t))
  unfolding rename_new_plan rename_to
  rename_keeps l m f g h = rw (l, m, f, g, eq-eqb d d refl, h)

  -- the slot then holds the new name for the same inode
  pub renamed_slot : (i : ℕ) → DirFits s n d → t < slots s d → entry_of (renamed s n d other t i) n d t ≡ entry_for i other
  renamed_slot i f l =
      let a = few_slots s n d f in
      entry_put s n d t i other f.inode.low f.inode.high (omega arith) (slot_fits s n d f t l)
