-- An entry of the image is cut: 16 bytes in a block of a copied directory become zero. What that leaves. s is the store, m the image, d the desk, n and b the counts of inodes and image blocks.
use Prim.Native.Nat.{ℕ, ◌+◌, ◌*◌, ◌/◌, ◌%◌, ◌≤◌, ◌<◌}
use mathlib.Core.Path.{◌≡◌, sym, ap, ◌∙◌, subst}
use mathlib.Core.Logic.{◌≢◌}
use mathlib.Core.Bool.{Bool, true, false}
use mathlib.Core.List.{List}
use native.Mathlib.Decide.{ℕ_discrete}
use native.Mathlib.Omega.{arith}
use lib.Dec.{eqb}
use lib.ListN.{length}
use Rattle.bounded.specs.Search.{pick}
use borrow.Author.Tests.{ne_eqb}
use Rattle.bounded.proofs.BoolLaws.{clash, and_false_l}
use Rattle.bounded.proofs.UpdateLaws.{upd_other}
use Rattle.octets.specs.Octets.{Apart}
use Rattle.layout.specs.Sizes.{most_blocks}
use Rattle.layout.specs.Inode.{kind_of, size_of, free_kind, file_kind, directory_kind}
use Rattle.blocks.specs.Block.{blocks_used, is_long, address_block, kth_by, kth_block, row_by}
use Rattle.blocks.specs.Free.{long_but}
use Rattle.blocks.proofs.KthLaws.{kth_same, kth_direct}
use Rattle.ledger.proofs.WriteLaws.{NoAddresses}
use Rattle.ledger.proofs.LedgerLaws.{one_kth, data_none}
use Rattle.blocks.proofs.LongLaws.{but_else}
use Rattle.desk.specs.Desk.{desk_of}
use Rattle.preservation.proofs.StoreLaws.{dir_short}
use Rattle.checkpoint.specs.Fit.{image_long}
use Rattle.checkpoint.proofs.Copy.LedgerLaws.{laid_ledger}
use Rattle.names.specs.Entry.{is_empty}
use Rattle.names.proofs.EntryLaws.{empty_inode_lem, empty_zeros}
use Rattle.directory.specs.Slot.{most_slots, slots, slot_at, clear_entry}
use Rattle.directory.proofs.SlotLaws.{apart_blocks, apart_slots, entry_clear, entry_clear_other}
use Rattle.sound.specs.Place.{dir_of, slot_of, is_slot, entry_at, naming, place_of}
use Rattle.sound.specs.Inode.{InodeSound}
use Rattle.sound.proofs.PlaceLaws.{slot_is, naming_entry, entry_place, slot_place}
use Rattle.preservation.proofs.SameLaws.{SameInode, SameBlock, InBlock, same_long, clear_entry_lem}
use Rattle.preservation.proofs.KeepLaws.{SamePlace, place_slot, slot_kept, same_slots}
use Rattle.preservation.proofs.EntryWriteLaws.{SlotIn, slot_block}
use Rattle.checkpoint.proofs.Copy.Laid.{Laid}
use Rattle.checkpoint.proofs.Copy.NamingLaws.{used_other, used_sound}

-- a free inode has no address block
free_short : (m : List ℕ) (j : ℕ) → kind_of m j ≡ free_kind → is_long m j ≡ false
unfolding is_long
free_short m j e = and_false_l _ _ (ne_eqb (kind_of m j) file_kind (λ z. omega arith))

-- ---- slot t of the image directory e is cleared
module _ {n b : ℕ} {s m d : List ℕ} (h : Laid n b s m d) (e t : ℕ) (slot : SlotIn m n e t) where
  abbrev cut : List ℕ
  cut = clear_entry m n e t

  abbrev here : ℕ
  here = kth_block m n e (t / 4)

  pub in_use : kind_of m e ≢ free_kind
  in_use z = let k = slot.dir in omega arith

  sound : InodeSound m n b e
  sound = used_sound h e slot.low slot.high in_use

  used : t / 4 < blocks_used (size_of m e)
  used = slot_block m e t slot.inside

  pub block : (1 ≤ here) × (here ≤ b)
  block = let u = used in let l = slot.small in sound.used (t / 4) (omega arith) u

  -- the directory is no long file, and not the locked inode
  other : e ≢ (desk_of d).locked
  other = used_other h e slot.low slot.high in_use

  short : image_long s m d e ≡ false
  short = but_else m (desk_of d).locked (is_long s (desk_of d).locked) e other ∙ dir_short m e slot.dir

  pub by_own : (u : ℕ) → kth_by (image_long s m d e) m n e u ≡ kth_block m n e u
  by_own u = ap (λ (y : Bool). kth_by y m n e u) (but_else m (desk_of d).locked (is_long s (desk_of d).locked) e other)

  -- so its block holds no addresses, of the locked inode either
  pub plain : NoAddresses (image_long s m d) m n here
  plain =
      let u = used in
      let l = slot.small in
      subst (NoAddresses (image_long s m d) m n) (by_own (t / 4))
      (data_none (laid_ledger h) e (t / 4) slot.low slot.high (omega arith)
      (let g = upd_other (λ j. blocks_used (size_of m j)) (desk_of d).locked (desk_of d).transferred e other in omega arith)
      (λ y. absurd (clash (image_long s m d e) y short)))

  -- an inode of the image that is long by itself is not the locked one
  own : NoAddresses (is_long m) m n here
  own j l o y =
      plain j l o
      (but_else m (desk_of d).locked (is_long s (desk_of d).locked) j (used_other h j l o (λ z. clash (is_long m j) y (free_short m j z))) ∙ y)

  pub inside : InBlock m cut n here
  inside = clear_entry_lem m n e t block.0 own

  pub cut_inode : (j : ℕ) → 1 ≤ j → j ≤ n → SameInode m cut n j
  cut_inode = inside.inodes

  -- every place of the image's row stays
  pub cut_kth : (j u : ℕ) → 1 ≤ j → j ≤ n → u < most_blocks → kth_by (image_long s m d j) cut n j u ≡ kth_by (image_long s m d j) m n j u
  cut_kth j u l o q =
      kth_same (image_long s m d j) m cut n j u
      (λ k a. sym (kth_direct (is_long cut j) cut n j k a) ∙ (cut_inode j l o).blocks k (omega arith) ∙ kth_direct (is_long m j) m n j k a)
      (λ y z. inside.others (address_block m n j) (omega arith) (plain j l o y)) q

  pub cut_row : (x : ℕ) → x < most_blocks * n → row_by (image_long s cut d) cut n x ≡ row_by (image_long s m d) m n x
  unfolding row_by long_but
  cut_row x q =
      let r = cut_inode (x / 44 + 1) (omega arith) (omega arith) in
      ap (λ (y : Bool). kth_by (pick (eqb (x / 44 + 1) (desk_of d).locked) (is_long s (desk_of d).locked) y) cut n (x / 44 + 1) (x % 44)) (same_long m cut (x / 44 + 1) r.kind r.size)
      ∙ cut_kth (x / 44 + 1) (x % 44) (omega arith) (omega arith) (omega arith)

  -- the blocks of other inodes stay
  pub cut_block : (j k : ℕ) → 1 ≤ j → j ≤ n → j ≢ e → k < most_blocks → 1 ≤ kth_by (image_long s m d j) m n j k → SameBlock m cut n (kth_by (image_long s m d j) m n j k)
  cut_block j k l o q u p = inside.others (kth_by (image_long s m d j) m n j k) p
      (λ z. let y = slot.small in q (one_kth (laid_ledger h) j k e (t / 4) l o slot.low slot.high u (omega arith) p (z ∙ sym (by_own (t / 4)))).0)

  -- so do those of files
  pub cut_file : (j k : ℕ) → 1 ≤ j → j ≤ n → kind_of m j ≡ file_kind → k < most_blocks → k < blocks_used (size_of m j) → SameBlock m cut n (kth_block m n j k)
  cut_file j k l o f u v =
      let g = but_else m (desk_of d).locked (is_long s (desk_of d).locked) j (used_other h j l o (λ z. omega arith)) in
      subst (λ (y : Bool). SameBlock m cut n (kth_by y m n j k)) g
      (cut_block j k l o (λ z. let y = sym (ap (kind_of m) z) ∙ f in let w = slot.dir in omega arith) u
      (subst (λ (y : Bool). 1 ≤ kth_by y m n j k) (sym g) ((used_sound h j l o (λ z. omega arith)).used k u v).0))

  pub slot_same : (q : ℕ) → q < most_slots * n → is_slot cut q ≡ is_slot m q
  slot_same q l = let r = cut_inode (dir_of q) (omega arith) (omega arith) in slot_kept m cut q r.kind (λ _. same_slots r)

  fits : slot_at m n e t + 16 ≤ length m
  unfolding slot_at
  fits = let f = h.frame.long in let p = block in let x = p.0 in let y = p.1 in omega arith

  pub cut_empty : is_empty (entry_at cut n (place_of e t)) ≡ true
  cut_empty = ap is_empty (entry_place cut n e t slot.low slot.small ∙ entry_clear m n e t slot.low slot.high slot.small fits) ∙ empty_zeros

  -- the slot of another place
  apart : (q : ℕ) → q < most_slots * n → q ≢ place_of e t → is_slot m q ≡ true → Apart (slot_at m n (dir_of q) (slot_of q)) 16 (slot_at m n e t) 16
  apart q l z y = go (ℕ_discrete (kth_block m n (dir_of q) (slot_of q / 4)) here)
    where
      r : (kind_of m (dir_of q) ≡ directory_kind) × (slot_of q < slots m (dir_of q))
      r = (slot_is m q).to y

      low : 1 ≤ kth_block m n (dir_of q) (slot_of q / 4)
      low = ((used_sound h (dir_of q) (omega arith) (omega arith) (λ f. let k = r.0 in omega arith)).used (slot_of q / 4) (omega arith) (slot_block m (dir_of q) (slot_of q) r.1)).0

      go : Dec (kth_block m n (dir_of q) (slot_of q / 4) ≡ here) → Apart (slot_at m n (dir_of q) (slot_of q)) 16 (slot_at m n e t) 16
      go (yes g) =
          let a = slot.small in
          let b = slot.low in
          let w = ap (λ (y : Bool). kth_by y m n (dir_of q) (slot_of q / 4)) (but_else m (desk_of d).locked (is_long s (desk_of d).locked) (dir_of q) (used_other h (dir_of q) (omega arith) (omega arith) (λ f. let k = r.0 in omega arith))) in
          let p = low in
          let o = one_kth (laid_ledger h) (dir_of q) (slot_of q / 4) e (t / 4) (omega arith) (omega arith) slot.low slot.high (omega arith) (omega arith) (omega arith) (w ∙ g ∙ sym (by_own (t / 4))) in
          let f : dir_of q ≡ e = o.0 in
          apart_slots m n (dir_of q) (slot_of q) e t f o.1 (λ w. z (omega arith))
      go (no g) = apart_blocks m n (dir_of q) (slot_of q) e t g low block.0

  -- every other place stays
  pub cut_other : (q : ℕ) → q < most_slots * n → q ≢ place_of e t → (is_slot m q ≡ true → entry_at cut n q ≡ entry_at m n q)
  unfolding entry_at
  cut_other q l z y = entry_clear_other m n e t (dir_of q) (slot_of q) (omega arith) (omega arith) (omega arith) (apart q l z y)

  pub cut_place : (q : ℕ) → q < most_slots * n → q ≢ place_of e t → SamePlace m cut n q
  cut_place q l z = place_slot m cut n q (slot_same q l) (cut_other q l z)

  pub cut_gone : naming cut n (place_of e t) ≡ 0
  cut_gone =
      let a = slot.low in
      let c = slot.high in
      let f = slot.small in
      naming_entry cut n (place_of e t) (slot_same (place_of e t) (omega arith) ∙ (slot_place m n e t slot.low slot.small).from (slot.dir, slot.inside))
      ∙ empty_inode_lem (entry_at cut n (place_of e t)) cut_empty
