-- Image and desk lie as they did after entries of the image are cut. s is the store, m the image, d the desk, n and b the counts of inodes and image blocks.
use Prim.Native.Nat.{ℕ, ◌+◌, ◌*◌, ◌-◌, ◌/◌, ◌≤◌, ◌<◌}
use mathlib.Core.Path.{◌≡◌, refl, sym, ap, ◌∙◌, subst}
use mathlib.Core.Logic.{◌≢◌, inl}
use mathlib.Core.Bool.{Bool, true, false}
use mathlib.Core.List.{List}
use native.Mathlib.Decide.{ℕ_discrete}
use native.Mathlib.Omega.{arith}
use lib.ListN.{get_or}
use Rattle.bounded.specs.Search.{pick}
use Rattle.bounded.proofs.SumLaws.{sum_ext}
use Rattle.layout.specs.Sizes.{most_blocks, block_bytes}
use Rattle.layout.specs.Inode.{size_of}
use Rattle.blocks.specs.Block.{block_of, blocks_used, bytes_place, is_long, kth_by, kth_block}
use Rattle.blocks.specs.Free.{named_by}
use Rattle.blocks.proofs.KthLaws.{row_kth}
use Rattle.bounded.proofs.ReflectLaws.{r_no}
use Rattle.ledger.proofs.BytesLaws.{place_used, used_limits}
use Rattle.blocks.proofs.LongLaws.{but_here}
use Rattle.preservation.proofs.SameLaws.{SameBlock}
use Rattle.checkpoint.specs.Fit.{image_long}
use Rattle.checkpoint.proofs.Copy.LedgerLaws.{named_by_lem, rows_named, rows_differ}
use Rattle.names.specs.Entry.{is_empty}
use Rattle.directory.specs.Slot.{most_slots, clear_entry}
use Rattle.desk.specs.Desk.{desk_of, is_copied}
use Rattle.sound.specs.Place.{is_slot, entry_at, place_of}
use Rattle.sound.specs.Sound.{Sound, inodes_in}
use Rattle.sound.proofs.SoundLaws.{size_most}
use Rattle.sound.specs.declared.Form.TheVariants.{Store}
use Rattle.preservation.proofs.KeepLaws.{inode_kept}
use Rattle.preservation.proofs.EntryWriteLaws.{SlotIn}
use Rattle.checkpoint.proofs.Copy.Laid.{Laid, Open, Frame, frame_kept, Fair, cost, cost_so_far}
use Rattle.checkpoint.proofs.Copy.NamingLaws.{used_other}
use Rattle.checkpoint.proofs.Call.CutLaws.{inside, in_use, by_own, slot_same, cut_inode, cut_kth, cut_row, cut_block, cut_file, cut_empty, cut_other}
use Rattle.checkpoint.proofs.Copy.FitLaws.{laid_copied}

module _ {n b : ℕ} {s m d : List ℕ} (k : Sound Store s) (x : n ≡ inodes_in s) (h : Laid n b s m d) (e t : ℕ) (slot : SlotIn m n e t) where
  abbrev cut : List ℕ
  cut = clear_entry m n e t

  frame : Frame n b cut
  frame = frame_kept (inside h e t slot).frame h.frame

  not_locked : (desk_of d).locked ≢ e
  not_locked z = used_other h e slot.low slot.high (in_use h e t slot) (sym z)

  opened : (desk_of d).locked ≢ 0 → Open n b s cut d (desk_of d).locked (desk_of d).transferred
  opened z =
      let o = h.opened z in
      let l = (desk_of d).locked in
      let high = h.desk.high in
      let r = cut_inode h e t slot l o.low high in
      let w = laid_copied h k x in
      let g = but_here m l (is_long s l) l refl in
      let q : (j : ℕ) → j < most_blocks → kth_by (is_long s l) cut n l j ≡ kth_by (is_long s l) m n l j
      = λ j a. subst (λ (y : Bool). kth_by y cut n l j ≡ kth_by y m n l j) g (cut_kth h e t slot l j o.low high a) in
      record {
        low = o.low;
        new = o.new;
        spare = r.spare ∙ o.spare;
        links = r.links ∙ o.links;
        size = r.size ∙ o.size;
        parent = r.parent ∙ o.parent;
        few = o.few;
        named = λ j a c. subst (λ (y : ℕ). (1 ≤ y) × (y ≤ b)) (sym (q j a)) (o.named j a c);
        rest = λ j a c. q j a ∙ o.rest j a c;
        blocks = λ j a y.
            ap (block_of cut n) (q j (omega arith))
            ∙ subst (λ (v : Bool). 1 ≤ kth_by v m n l j → SameBlock m cut n (kth_by v m n l j)) g (cut_block h e t slot l j o.low high not_locked (omega arith)) (o.named j (omega arith) a).0 ∙ o.blocks j a y;
      }

  -- a block that no address names is not the one written
  other_block : (i : ℕ) → named_by (image_long s m d) m n i ≡ false → i ≢ kth_block m n e (t / 4)
  other_block i u z =
      let a = slot.low in
      let c = slot.high in
      let f = slot.small in
      r_no (named_by_lem (image_long s m d) m n i) u
      (most_blocks * (e - 1) + t / 4, omega arith, row_kth (image_long s m d) m n e (t / 4) a (omega arith) ∙ by_own h e t slot (t / 4) ∙ sym z)

  blanks : (c : ℕ) → 1 ≤ c → c ≤ b → named_by (image_long s cut d) cut n c ≡ false → (o : ℕ) → o < block_bytes → get_or (block_of cut n c) o 0 ≡ 0
  blanks c l r u o v =
      let w : named_by (image_long s m d) m n c ≡ false = sym (rows_named (image_long s m d) (image_long s cut d) m cut n (cut_row h e t slot) c) ∙ u in
      ap (λ (y : List ℕ). get_or y o 0) ((inside h e t slot).others c l (other_block c w)) ∙ h.blanks c l r w o v

  fair : (p : ℕ) → p < most_slots * n → is_slot cut p ≡ true → Fair (entry_at cut n p)
  fair p l y = go (ℕ_discrete p (place_of e t))
    where
      y' : is_slot m p ≡ true
      y' = sym (slot_same h e t slot p l) ∙ y

      go : Dec (p ≡ place_of e t) → Fair (entry_at cut n p)
      go (yes z) = inl (ap (λ (q : ℕ). is_empty (entry_at cut n q)) z ∙ cut_empty h e t slot)
      go (no z) = subst Fair (sym (cut_other h e t slot p l z y')) (h.fair p l y')

  costs : (j : ℕ) → j < n → cost m d n j ≡ cost cut d n j
  unfolding cost
  costs j l = ap (λ (z : ℕ). pick (is_copied d n (j + 1)) (2 + blocks_used z) 0) (sym (cut_inode h e t slot (j + 1) (omega arith) (omega arith)).size)

  pub cut_laid : Laid n b s cut d
  cut_laid = record {
    desk = h.desk;
    frame = frame;
    inodes = λ i l o z.
        inode_kept m cut n b i (cut_inode h e t slot i l o)
        (λ f r.
        let u = place_used (size_of m i) (size_of m i / block_bytes) (omega arith) in
        let g = (used_limits (size_of m i)).0 (size_most (h.inodes i l o z)) in
        cut_file h e t slot i (bytes_place (size_of m i) (size_of m i / block_bytes)) l o f (omega arith) u)
        (h.inodes i l o z);
    blank = λ i l o c. (cut_inode h e t slot i l o).kind ∙ h.blank i l o c;
    opened = opened;
    once = rows_differ (image_long s m d) (image_long s cut d) m cut n (cut_row h e t slot) h.once;
    blanks = blanks;
    fair = fair;
    steps = h.steps ∙ ap (λ (z : ℕ). z + cost_so_far d) (sum_ext (cost m d n) (cost cut d n) n costs);
  }
