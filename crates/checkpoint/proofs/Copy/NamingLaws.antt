-- Under a running copy an image directory has a slot, by its addresses, just where its size says so. s is the store, m the image, d the desk, n and b the counts of inodes and image blocks.
use Prim.Native.Nat.{ℕ, ◌*◌, ◌/◌, ◌≤◌, ◌<◌}
use mathlib.Core.Path.{◌≡◌}
use mathlib.Core.Logic.{◌≢◌}
use mathlib.Core.List.{List}
use native.Mathlib.Decide.{dec_lt}
use native.Mathlib.Omega.{arith}
use Rattle.bounded.specs.Reflect.{Reflects}
use Rattle.bounded.proofs.BoolLaws.{same_test}
use Rattle.bounded.proofs.ReflectLaws.{r_eq, r_not, r_and}
use Rattle.layout.specs.Sizes.{most_blocks}
use Rattle.layout.specs.Inode.{kind_of, size_of, free_kind, directory_kind}
use Rattle.blocks.specs.Block.{blocks_used, kth_block}
use Rattle.directory.specs.Slot.{most_slots, slots_in_block, slots}
use Rattle.desk.specs.Desk.{desk_of}
use Rattle.sound.specs.Place.{dir_of, slot_of, is_slot, entry_at, naming}
use Rattle.sound.specs.Inode.{InodeSound}
use Rattle.sound.proofs.PlaceLaws.{slot_is}
use Rattle.checkpoint.specs.Image.{has_slot, slot_names, image_naming}
use Rattle.checkpoint.proofs.Copy.Laid.{Laid}

pub has_slot_is : (m : List ℕ) (n e t : ℕ) → Reflects (has_slot m n e t) ((kind_of m e ≡ directory_kind) × (kth_block m n e (t / slots_in_block) ≢ 0))
unfolding has_slot
has_slot_is m n e t = r_and (r_eq (kind_of m e) directory_kind) (r_not (r_eq (kth_block m n e (t / slots_in_block)) 0))

-- the addresses of a sound inode that are not 0 are those that its size uses
pub used_by_size : (m : List ℕ) (n b i k : ℕ) → InodeSound m n b i → k < most_blocks → kth_block m n i k ≢ 0 → k < blocks_used (size_of m i)
used_by_size m n b i k h l z = go (dec_lt k (blocks_used (size_of m i)))
  where
    go : Dec (k < blocks_used (size_of m i)) → k < blocks_used (size_of m i)
    go (yes u) = u
    go (no u) = absurd (z (h.rest k l (omega arith)))

module _ {n b : ℕ} {s m d : List ℕ} (h : Laid n b s m d) where
  -- an inode in use is not the locked one, so it is sound by itself
  pub used_other : (i : ℕ) → 1 ≤ i → i ≤ n → kind_of m i ≢ free_kind → i ≢ (desk_of d).locked
  used_other i l k u e = u (h.blank i l k (rw e (h.opened (λ z. omega arith)).new))

  pub used_sound : (i : ℕ) → 1 ≤ i → i ≤ n → kind_of m i ≢ free_kind → InodeSound m n b i
  used_sound i l k u = h.inodes i l k (used_other i l k u)

  pub dir_sound : (p : ℕ) → p < most_slots * n → kind_of m (dir_of p) ≡ directory_kind → InodeSound m n b (dir_of p)
  dir_sound p l k = used_sound (dir_of p) (omega arith) (omega arith) (λ z. omega arith)

  module _ (p : ℕ) (l : p < most_slots * n) where
    pub same_slot : has_slot m n (dir_of p) (slot_of p) ≡ is_slot m p
    same_slot =
        same_test _ _
        (λ e.
        let r = (has_slot_is m n (dir_of p) (slot_of p)).to e in
        let u = used_by_size m n b (dir_of p) (slot_of p / 4) (dir_sound p l r.0) (omega arith) r.1 in
        (slot_is m p).from (r.0, (unfold slots in omega arith)))
        (λ e.
        let r = (slot_is m p).to e in
        let v : slot_of p < 4 * blocks_used (size_of m (dir_of p)) = unfold slots in r.1 in
        let u = (dir_sound p l r.0).used (slot_of p / 4) (omega arith) (omega arith) in
        (has_slot_is m n (dir_of p) (slot_of p)).from (r.0, λ z. let w = u.0 in omega arith))

    -- so its slots name what the places of a store would
    pub same_naming : image_naming m n p ≡ naming m n p
    unfolding slot_names naming entry_at
    same_naming = rw same_slot
