-- A lock: image and desk lie as they must, and the theory sees nothing but the locked inode. s is the store, m the image, d the desk, n and b the counts of inodes and image blocks, l the inode.
use Prim.Native.Nat.{ℕ, ◌+◌, ◌*◌, ◌/◌, ◌%◌, ◌≤◌, ◌<◌}
use mathlib.Core.Path.{◌≡◌, refl, sym, ap, ◌∙◌}
use mathlib.Core.Logic.{◌≢◌, ◌⊎◌, inl, inr}
use mathlib.Core.Bool.{Bool, false}
use mathlib.Core.List.{List}
use native.Mathlib.Decide.{ℕ_discrete}
use native.Mathlib.Omega.{arith}
use borrow.Author.Tests.{ne_eqb}
use Rattle.bounded.proofs.RangeLaws.{below_in}
use Rattle.layout.specs.Sizes.{root_inode, most_blocks}
use Rattle.layout.specs.Inode.{size_of}
use Rattle.blocks.specs.Block.{blocks_used, is_long, address_block, kth_by, row_by}
use Rattle.blocks.specs.Free.{long_but}
use Rattle.blocks.proofs.KthLaws.{kth_direct, few_alike}
use Rattle.blocks.proofs.LongLaws.{but_else}
use Rattle.checkpoint.specs.Fit.{image_long}
use Rattle.checkpoint.proofs.Copy.LedgerLaws.{rows_named, rows_differ}
use Rattle.directory.specs.Slot.{most_slots}
use Rattle.desk.specs.declared.Desk.{Desk}
use Rattle.desk.specs.Desk.{desk_of, put_desk, is_copied}
use Rattle.desk.specs.Next.{locking}
use Rattle.desk.proofs.DeskLaws.{length_put_desk, desk_put_desk, reserved_put_desk, copied_put_desk}
use Rattle.sound.specs.Place.{naming}
use Rattle.copy_theory.specs.Deed.{Alike, Quiet, Locked}
use Rattle.checkpoint.specs.Image.{image_naming}
use Rattle.checkpoint.specs.Copier.{lock, step_desk}
use Rattle.checkpoint.proofs.Copy.Seen.{shelf_of, seen}
use Rattle.checkpoint.proofs.Copy.Laid.{Laid, DeskLaid, Open, cost_so_far}
use Rattle.checkpoint.proofs.Copy.NamingLaws.{same_naming}
use Rattle.checkpoint.proofs.Copy.NoteLaws.{SameNotes, put_desk_lem, same_marked, same_costs}

-- ---- any header that is written to the desk of a running copy
-- it is read back
pub put_read : {n b : ℕ} {d : List ℕ} → DeskLaid n b d → (h : Desk) → desk_of (put_desk d h) ≡ h
put_read {d = d} w h = let e = w.long in desk_put_desk d h (omega arith)

-- it has the same counts and state, and tells of an inode
pub desk_laid : {n b : ℕ} {d : List ℕ} → DeskLaid n b d → (h : Desk) → h.inodes ≡ n → h.blocks ≡ b → h.state ≡ (desk_of d).state → h.locked ≤ n → (h.locked ≡ 0 → h.transferred ≡ 0) → DeskLaid n b (put_desk d h)
desk_laid {n} {b} {d} w h i k s l z =
    let e = put_read w h in
    record {
      long = length_put_desk d h ∙ w.long;
      inodes = ap (λ (x : Desk). x.inodes) e ∙ i;
      blocks = ap (λ (x : Desk). x.blocks) e ∙ k;
      state = ap (λ (x : Desk). x.state) e ∙ s ∙ w.state;
      reserved = reserved_put_desk d h ∙ w.reserved;
      bytes = λ j a c. rw (copied_put_desk d h j) (w.bytes j a c);
      high = rw e l;
      none = rw e z;
    }

pub free_cost : (d : List ℕ) → (desk_of d).locked ≡ 0 → cost_so_far d ≡ 0
unfolding cost_so_far
free_cost d e = rw e

pub locked_cost : (d : List ℕ) → (desk_of d).locked ≢ 0 → cost_so_far d ≡ 1 + (desk_of d).transferred
unfolding cost_so_far
locked_cost d e = rw (ne_eqb (desk_of d).locked 0 e)

-- the same shelf
pub alike_stays : (n : ℕ) (m : List ℕ) (i : ℕ) → Alike (shelf_of n m) (shelf_of n m) i
alike_stays n m i = record { kind = refl; parent = refl; size = refl; bytes = λ _. refl }

-- what the theory sees the image name
pub seen_naming : {n b : ℕ} {s m d : List ℕ} → Laid n b s m d → (p : ℕ) → p < most_slots * n → (seen n s m d).image.names p ≡ image_naming m n p
unfolding seen shelf_of
seen_naming {n} {m = m} h p l = below_in (most_slots * n) (naming m n) p l ∙ sym (same_naming h p l)

-- ---- the lock
module _ {n b : ℕ} {s m d : List ℕ} (h : Laid n b s m d) (l : ℕ) where
  abbrev new : List ℕ
  new = step_desk d (lock l)

  read : desk_of new ≡ locking (desk_of d) l
  read = put_read h.desk (locking (desk_of d) l)

  notes : SameNotes d new n
  notes = put_desk_lem d (locking (desk_of d) l) n

  pub lock_quiet : Quiet (seen n s m d) (seen n s m (step_desk d (lock l)))
  unfolding seen
  lock_quiet = record {
    store = refl;
    names = λ q. refl;
    entries = λ q _. refl;
    inodes = alike_stays n m;
    marked = same_marked notes;
    copied = notes.copied;
  }

  pub lock_now : (seen n s m (step_desk d (lock l))).locked ≡ l
  unfolding seen
  lock_now = ap (λ (x : Desk). x.locked) read

  module _ (none : (desk_of d).locked ≡ 0) (low : 1 ≤ l) (high : l ≤ n) (fresh : is_copied d n l ≡ false) where
    -- no inode is locked: each is sound by itself
    unused : blocks_used (size_of m l) ≡ 0
    unused = let z = ((h.inodes l low high (λ z. omega arith)).free (h.blank l low high fresh)).1.0 in rw z (unfold blocks_used in refl)

    bare : address_block m n l ≡ 0
    bare = let u = unused in sym (kth_direct (is_long m l) m n l 11 (omega arith)) ∙ (h.inodes l low high (λ z. omega arith)).rest 11 (omega arith) (omega arith)

    lock_row : (x : ℕ) → x < most_blocks * n → row_by (long_but m l (is_long s l)) m n x ≡ row_by (image_long s m d) m n x
    unfolding row_by
    lock_row x q = elim (ℕ_discrete (x / 44 + 1) l) as (λ _. kth_by (long_but m l (is_long s l) (x / 44 + 1)) m n (x / 44 + 1) (x % 44) ≡ kth_by (image_long s m d (x / 44 + 1)) m n (x / 44 + 1) (x % 44)) [
      | yes e ↦ few_alike m n (x / 44 + 1) (x % 44) _ _ (ap (address_block m n) e ∙ bare) (omega arith)
      | no e ↦ ap (λ (y : Bool). kth_by y m n (x / 44 + 1) (x % 44)) (but_else m l (is_long s l) (x / 44 + 1) e ∙ sym (but_else m (desk_of d).locked (is_long s (desk_of d).locked) (x / 44 + 1) (λ z. omega arith)))
    ]

    opened : Open n b s m new l 0
    opened =
        let k = h.blank l low high fresh in
        let w = h.inodes l low high (λ z. omega arith) in
        let z = (w.free k).1.0 in
        let u = unused in
        record {
          low = low;
          new = notes.copied l ∙ fresh;
          spare = w.spare;
          links = (w.free k).0;
          size = z;
          parent = (w.free k).1.1;
          few = omega arith;
          named = λ j _ a. absurd (omega arith);
          rest = λ j a _. few_alike m n l j (is_long s l) (is_long m l) bare a ∙ w.rest j a (omega arith);
          blocks = λ j a _. absurd (omega arith);
        }

    pub lock_laid : Laid n b s m (step_desk d (lock l))
    lock_laid =
        let e = read in
        let a : (desk_of new).locked ≡ l = ap (λ (x : Desk). x.locked) e in
        let c : (desk_of new).transferred ≡ 0 = ap (λ (x : Desk). x.transferred) e in
        let t : (desk_of new).steps ≡ (desk_of d).steps + 1 = ap (λ (x : Desk). x.steps) e in
        let x = free_cost d none in
        let y = locked_cost new (λ z. omega arith) in
        let v = same_costs m m d new n notes.copied (λ i _ _. refl) in
        let o = h.steps in
        record {
          desk = desk_laid h.desk (locking (desk_of d) l) h.desk.inodes h.desk.blocks refl high (λ z. absurd (omega arith));
          frame = h.frame;
          inodes = λ i p q _. h.inodes i p q (λ z. omega arith);
          blank = λ i p q r. h.blank i p q (sym (notes.copied i) ∙ r);
          opened = λ _. rw (a, c) opened;
          once = rw a (rows_differ (image_long s m d) (long_but m l (is_long s l)) m m n lock_row h.once);
          blanks = λ q f g r. h.blanks q f g (sym (rows_named (image_long s m d) (long_but m l (is_long s l)) m m n lock_row q) ∙ (rw a at r));
          fair = h.fair;
          steps = omega arith;
        }

    -- as the theory says it
    pub lock_locked : ((l ≡ root_inode) ⊎ ((p : ℕ) × (p < most_slots * n) × (image_naming m n p ≡ l))) → Locked n (seen n s m d) (seen n s m (step_desk d (lock l))) l
    lock_locked by = record {
      quiet = lock_quiet;
      none = unfold seen in none;
      now = lock_now;
      low = low;
      high = high;
      new = unfold seen in fresh;
      by = elim by [
        | inl e ↦ inl e
        | inr r ↦ inr (r.0, seen_naming h r.0 r.1 ∙ r.2)
      ];
    }
