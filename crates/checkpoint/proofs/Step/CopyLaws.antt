-- A block step: image and desk lie as they must, and the theory sees nothing of it. s is the store, m the image, d the desk, n and b the counts of inodes and image blocks, c the block that is taken.
use Rattle.std.specs.Prelude.{Some}
use Prim.Native.Nat.{ℕ, ◌+◌, ◌*◌, ◌/◌, ◌%◌, ◌≤◌, ◌<◌}
use mathlib.Core.Path.{◌≡◌, refl, sym, ap, ◌∙◌, subst}
use mathlib.Core.Logic.{◌≢◌}
use mathlib.Core.Bool.{Bool, true, false}
use mathlib.Core.List.{List}
use native.Mathlib.Decide.{ℕ_discrete}
use native.Mathlib.Omega.{arith}
use lib.ListN.{length, get_or}
use Rattle.bounded.proofs.UpdateLaws.{upd_same, upd_other}
use Rattle.octets.proofs.PartLaws.{length_inside}
use Rattle.layout.specs.Sizes.{address_count, address_place, block_bytes, most_blocks}
use Rattle.layout.specs.Inode.{kind_of, size_of}
use Rattle.blocks.specs.Block.{block_at, block_of, blocks_used, is_long, kth_by, kth_block, row_by}
use Rattle.blocks.specs.Free.{named_by, long_but}
use Rattle.blocks.specs.Fits.{BlocksFit}
use Rattle.blocks.proofs.KthLaws.{kth_direct, kth_none}
use Rattle.ledger.proofs.Ledger.{Ledger}
use Rattle.ledger.proofs.LedgerLaws.{Unnamed, one_kth}
use Rattle.ledger.proofs.AppendLaws.{Appended}
use Rattle.ledger.proofs.BytesLaws.{used_limits}
use Rattle.blocks.proofs.LongLaws.{but_here, but_else}
use Rattle.growth.proofs.ImageLaws.{image_have, copy_ledger}
use Rattle.directory.specs.Slot.{slots, slots_in_block}
use Rattle.desk.specs.declared.Desk.{Desk}
use Rattle.desk.specs.Desk.{desk_of}
use Rattle.desk.specs.Next.{copying_one}
use Rattle.sound.specs.Place.{dir_of}
use Rattle.sound.specs.Sound.{Sound, inodes_in}
use Rattle.sound.proofs.PlaceLaws.{slot_is}
use Rattle.sound.proofs.SoundLaws.{size_most}
use Rattle.sound.specs.declared.Form.TheVariants.{Store}
use Rattle.preservation.proofs.SameLaws.{SameBlock, same_long}
use Rattle.preservation.proofs.StoreLaws.{sound_store, blocks_of_lem}
use Rattle.preservation.proofs.KeepLaws.{slot_kept}
use Rattle.copy_theory.specs.Deed.{Quiet}
use Rattle.checkpoint.specs.Fit.{image_long}
use Rattle.checkpoint.specs.Copier.{copy, target_block, copied_block, step_image, step_desk}
use Rattle.checkpoint.proofs.Copy.Seen.{seen}
use Rattle.checkpoint.proofs.Copy.Laid.{frame_kept, Laid, Open, Fair}
use Rattle.checkpoint.proofs.Copy.LedgerLaws.{by_none, none_by, rows_named, rows_differ, laid_ledger}
use Rattle.checkpoint.proofs.Copy.NamingLaws.{used_other, used_sound}
use Rattle.checkpoint.proofs.Copy.NoteLaws.{SameNotes, put_desk_lem, address_block_lem, copied_block_lem, length_copied_block, same_marked, same_costs}
use Rattle.checkpoint.proofs.Copy.TargetLaws.{FreeBy, target_at}
use Rattle.checkpoint.proofs.Copy.WholeLaws.{Whole, whole_sound, whole_bytes, whole_entry, SameImage, image_names, image_entries, image_alike}
use Rattle.checkpoint.proofs.Step.BlockLaws.{SameAttributes, block_attributes}
use Rattle.checkpoint.proofs.Step.LockLaws.{put_read, desk_laid, locked_cost}

module _ {n b : ℕ} {s m d : List ℕ} (h : Laid n b s m d) (sound : Sound Store s) (e : n ≡ inodes_in s)
    (lock : (desk_of d).locked ≢ 0) (more : (desk_of d).transferred < blocks_used (size_of s (desk_of d).locked)) (c : ℕ)
    (goes : target_block (image_long s m d) m n b (kth_block s n (desk_of d).locked (desk_of d).transferred) ≡ Some c) where
  abbrev l : ℕ
  l = (desk_of d).locked

  abbrev k : ℕ
  k = (desk_of d).transferred

  abbrev after : List ℕ
  after = step_image s m d n (copy l k c)

  abbrev notes : List ℕ
  notes = step_desk d (copy l k c)

  -- which inodes have an address block, and how many blocks each has
  abbrev long : ℕ → Bool
  long = image_long s m d

  abbrev have : ℕ → ℕ
  have = image_have m l k

  -- ---- the block that is taken
  low : 1 ≤ l
  low = omega arith

  high : l ≤ n
  high = h.desk.high

  stored : BlocksFit s n l
  stored = blocks_of_lem (sound_store sound e) l low high

  few : k < most_blocks
  few = let w = stored.few in omega arith

  -- a place behind the twelve addresses is a long file's
  further : address_count ≤ k → is_long s l ≡ true
  further q = go (is_long s l) refl
    where
      go : (x : Bool) → is_long s l ≡ x → is_long s l ≡ true
      go true z = z
      go false z = let y = (stored.blocks k more).low in let w = kth_none (is_long s l) s n l k z q in absurd (omega arith)

  free : FreeBy long m n b c
  free = target_at long m n b (kth_block s n l k) c goes

  apart : Unnamed long m n c
  apart = by_none long m n c free.free

  full : length (copied_block s d n l k) ≡ block_bytes
  full =
      let w = stored.blocks k more in
      let a = w.low in
      let z = w.inside in
      length_copied_block d n l k s (unfold block_of in length_inside s (block_at n (kth_block s n l k)) 64 (omega arith))

  ledger : Ledger long have m n b
  ledger = laid_ledger h

  -- ---- what the step writes, and what it leaves
  wrote : Appended long have m after n b l k c (copied_block s d n l k)
  wrote = copy_ledger l k (is_long s l) ledger h.frame.long low high few further c free.low free.high apart (copied_block s d n l k) full (address_block_lem s d n l k)

  same : SameAttributes m after n
  same = block_attributes m n c (copied_block s d n l k) l k

  -- the bytes of a block that is there, but for the address block of l
  bytes : (i j : ℕ) → 1 ≤ i → i ≤ n → j < most_blocks → j < have i → (i ≡ l → is_long s l ≡ true → j ≢ address_place) → SameBlock m after n (kth_by (long i) m n i j)
  bytes i j a z v u f =
      let o = (ledger.used i j a z v u).0 in
      wrote.others (kth_by (long i) m n i j) o (apart i j a z v)
      (λ q y. let r = one_kth ledger i j l 11 a z low high v (omega arith) o (y ∙ sym (kth_direct (long l) m n l 11 (omega arith))) in f r.0 (further q) r.1)

  -- an inode that is not locked
  whole : (i : ℕ) → 1 ≤ i → i ≤ n → i ≢ l → Whole m after n i
  whole i a z q =
      let o = but_else m l (is_long s l) i q in
      let w = upd_other (λ j. blocks_used (size_of m j)) l k i q in
      let y = (used_limits (size_of m i)).0 (size_most (h.inodes i a z q)) in
      record {
        inode = record {
          kind = same.kinds i a z;
          spare = same.spares i a z;
          links = same.links i a z;
          size = same.sizes i a z;
          parent = same.parents i a z;
          blocks = λ j v. ap (λ (x : Bool). kth_by x after n i j) (same_long m after i (same.kinds i a z) (same.sizes i a z)) ∙ (rw o at (wrote.old i j a z v (λ r. absurd (q r))));
        };
        blocks = λ j v. rw o at (bytes i j a z (omega arith) (omega arith) (λ r. absurd (q r)));
      }

  image : SameImage m after n
  image = record {
    kinds = same.kinds;
    sizes = same.sizes;
    parents = same.parents;
    slots = λ p a. slot_kept m after p (same.kinds (dir_of p) (omega arith) (omega arith)) (λ _. unfold slots in ap (λ (z : ℕ). 4 * blocks_used z) (same.sizes (dir_of p) (omega arith) (omega arith)));
    entries = λ p a z. whole_entry p (whole (dir_of p) (omega arith) (omega arith) (used_other h (dir_of p) (omega arith) (omega arith) (λ y. let x = ((slot_is m p).to z).0 in omega arith))) z;
    bytes = λ i a z v.
        let u : kind_of m i ≢ 0 = λ y. omega arith in
        whole_bytes (whole i a z (used_other h i a z u)) (size_most (used_sound h i a z u));
  }

  same_notes : SameNotes d notes n
  same_notes = put_desk_lem d (copying_one (desk_of d)) n

  pub copy_quiet : Quiet (seen n s m d) (seen n s (step_image s m d n (copy (desk_of d).locked (desk_of d).transferred c)) (step_desk d (copy (desk_of d).locked (desk_of d).transferred c)))
  unfolding seen
  copy_quiet = record {
    store = refl;
    names = image_names image;
    entries = image_entries image;
    inodes = image_alike image;
    marked = same_marked same_notes;
    copied = same_notes.copied;
  }

  read : desk_of notes ≡ copying_one (desk_of d)
  read = put_read h.desk (copying_one (desk_of d))

  still_locked : (desk_of notes).locked ≡ l
  still_locked = ap (λ (x : Desk). x.locked) read

  pub copy_now : (seen n s (step_image s m d n (copy (desk_of d).locked (desk_of d).transferred c)) (step_desk d (copy (desk_of d).locked (desk_of d).transferred c))).locked ≡ (seen n s m d).locked
  unfolding seen
  copy_now = still_locked

  -- ---- the locked inode has one block more
  here : long l ≡ is_long s l
  here = but_here m l (is_long s l) l refl

  was : Open n b s m d l k
  was = h.opened lock

  opened : Open n b s after notes l (k + 1)
  opened =
      let a = low in
      let z = high in
      let o = was in
      let u = upd_same have l (k + 1) in
      record {
        low = a;
        new = same_notes.copied l ∙ o.new;
        spare = same.spares l a z ∙ o.spare;
        links = same.links l a z ∙ o.links;
        size = same.sizes l a z ∙ o.size;
        parent = same.parents l a z ∙ o.parent;
        few = omega arith;
        named = λ j x y. rw here at (wrote.ledger.used l j a z x (omega arith));
        rest = λ j x y. rw here at (wrote.ledger.rest l j a z x (omega arith));
        blocks = λ j y f. block j y f (ℕ_discrete j k);
      }
    where
      now : (j : ℕ) → copied_block s d n l j ≡ copied_block s notes n l j
      now j = sym (copied_block_lem d notes n l j same_notes.copied (λ t _. same_notes.marks l (slots_in_block * j + t)) s)

      block : (j : ℕ) → j < k + 1 → (is_long s l ≡ true → j ≢ address_place) → Dec (j ≡ k) → block_of after n (kth_by (is_long s l) after n l j) ≡ copied_block s notes n l j
      block j y f (yes q) = rw q (ap (block_of after n) (rw here at wrote.new) ∙ wrote.bytes ∙ now k)
      block j y f (no q) =
          let w = few in
          let x : j < 44 = omega arith in
          let u = upd_same (λ i. blocks_used (size_of m i)) l k in
          ap (block_of after n) (rw here at (wrote.old l j low high x (λ _. q)))
          ∙ (rw here at (bytes l j low high x (omega arith) (λ _. f)))
          ∙ was.blocks j (omega arith) f ∙ now j

  -- ---- the same inodes are long
  long_after : (i : ℕ) → 1 ≤ i → i ≤ n → image_long s after notes i ≡ long i
  long_after i a z = ap (λ (y : ℕ). long_but after y (is_long s y) i) still_locked ∙ (elim (ℕ_discrete i l) as (λ _. long_but after l (is_long s l) i ≡ long_but m l (is_long s l) i) [
    | yes q ↦ but_here after l (is_long s l) i q ∙ sym (but_here m l (is_long s l) i q)
    | no q ↦ but_else after l (is_long s l) i q ∙ same_long m after i (same.kinds i a z) (same.sizes i a z) ∙ sym (but_else m l (is_long s l) i q)
  ])

  rows : (x : ℕ) → x < most_blocks * n → row_by (image_long s after notes) after n x ≡ row_by long after n x
  unfolding row_by
  rows x q = ap (λ (y : Bool). kth_by y after n (x / 44 + 1) (x % 44)) (long_after (x / 44 + 1) (omega arith) (omega arith))

  -- ---- the blocks that none has
  still_free : (a : ℕ) → 1 ≤ a → Unnamed long after n a → Unnamed long m n a
  still_free a o f j u p q v z = go (ℕ_discrete j l) (ℕ_discrete u k)
    where
      go : Dec (j ≡ l) → Dec (u ≡ k) → ⊥
      go (yes x) (yes y) =
          let w = upd_same (λ i. blocks_used (size_of m i)) l k in
          let r = ap have x in
          let g = ledger.rest j u p q v (omega arith) in
          omega arith
      go (yes x) (no y) = f j u p q v (wrote.old j u p q v (λ _. y) ∙ z)
      go (no x) _ = f j u p q v (wrote.old j u p q v (λ y. absurd (x y)) ∙ z)

  blanks : (a : ℕ) → 1 ≤ a → a ≤ b → named_by (image_long s after notes) after n a ≡ false → (o : ℕ) → o < block_bytes → get_or (block_of after n a) o 0 ≡ 0
  blanks a x y q o v =
      let f : Unnamed long after n a = by_none long after n a (sym (rows_named long (image_long s after notes) after after n rows a) ∙ q) in
      let g = still_free a x f in
      ap (λ (w : List ℕ). get_or w o 0)
      (wrote.others a x (λ z. f l k low high few (wrote.new ∙ sym z)) (λ _ z. g l 11 low high (omega arith) (kth_direct (long l) m n l 11 (omega arith) ∙ sym z)))
      ∙ h.blanks a x y (none_by long m n a g) o v

  pub copy_laid : Laid n b s (step_image s m d n (copy (desk_of d).locked (desk_of d).transferred c)) (step_desk d (copy (desk_of d).locked (desk_of d).transferred c))
  copy_laid =
      let g = read in
      let x = still_locked in
      let y : (desk_of notes).transferred ≡ k + 1 = ap (λ (y : Desk). y.transferred) g in
      let v : (desk_of notes).steps ≡ (desk_of d).steps + 1 = ap (λ (y : Desk). y.steps) g in
      let a = locked_cost d lock in
      let z = locked_cost notes (λ w. omega arith) in
      let u = same_costs m after d notes n same_notes.copied same.sizes in
      let o = h.steps in
      record {
        desk = desk_laid h.desk (copying_one (desk_of d)) h.desk.inodes h.desk.blocks refl high (λ w. absurd (lock w));
        frame = frame_kept same.frame h.frame;
        inodes = λ i p q r. whole_sound b (whole i p q (λ w. r (w ∙ sym x))) (h.inodes i p q (λ w. r (w ∙ sym x)));
        blank = λ i p q r. same.kinds i p q ∙ h.blank i p q (sym (same_notes.copied i) ∙ r);
        opened = λ _. rw (x, y) opened;
        once = rows_differ long (image_long s after notes) after after n rows wrote.ledger.once;
        blanks = blanks;
        fair = λ p q r. let w = sym (image.slots p q) ∙ r in subst Fair (sym (image.entries p q w)) (h.fair p q w);
        steps = omega arith;
      }
