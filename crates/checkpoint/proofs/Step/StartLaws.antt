-- A start: image and desk lie as they must, and the theory sees a fresh copy. s is the store, m the image, d the desk, n the inode count.
use Prim.Native.Nat.{ℕ, ◌+◌, ◌*◌, ◌≤◌, ◌<◌}
use mathlib.Core.Path.{◌≡◌, ap, ◌∙◌}
use mathlib.Core.Bool.{true, false}
use mathlib.Core.List.{List}
use native.Mathlib.Decide.{dec_lt}
use native.Mathlib.Omega.{arith}
use borrow.Author.Tests.{lt-ltb, le-ltb}
use lib.ListN.{length}
use Rattle.bounded.specs.Reflect.{Reflects}
use Rattle.bounded.proofs.BoolLaws.{clash}
use Rattle.bounded.proofs.ReflectLaws.{r_fails}
use Rattle.layout.specs.Sizes.{most_image_blocks}
use Rattle.layout.specs.declared.header.Header.{Header}
use Rattle.layout.specs.Inode.{kind_of}
use Rattle.blocks.specs.Block.{Allowed}
use Rattle.blocks.proofs.AllowedLaws.{allowed_is}
use Rattle.directory.specs.Slot.{most_slots}
use Rattle.desk.specs.Sizes.{desk_length}
use Rattle.desk.specs.declared.Desk.{Desk}
use Rattle.desk.specs.Desk.{desk_of, copied_of, clear_notes, is_copied}
use Rattle.desk.specs.Next.{starting}
use Rattle.desk.proofs.DeskLaws.{length_put_desk, length_clear_notes, desk_put_desk, reserved_put_desk, reserved_clear_notes, copied_put_desk, copied_clear_notes, mark_put_desk, mark_clear_notes}
use Rattle.desk.proofs.CopiedLaws.{copied_is}
use Rattle.sound.specs.Place.{dir_of, slot_of, naming}
use Rattle.sound.specs.Sound.{Sound, inodes_in}
use Rattle.sound.specs.declared.Form.TheVariants.{Store}
use Rattle.copy_theory.specs.Holds.{Fresh}
use Rattle.checkpoint.specs.Fit.{desk_framed, image_long, image_blocks, image_allowed, is_running, desk_fits}
use Rattle.checkpoint.specs.Copier.{start_image, start_desk}
use Rattle.checkpoint.proofs.Copy.Seen.{shelf_of, marked_at, seen}
use Rattle.checkpoint.proofs.Copy.Laid.{Laid, DeskLaid, Frame, cost}
use Rattle.bounded.proofs.SumLaws.{sum_none}
use Rattle.bounded.proofs.CaseLaws.{in_range, is_below}
use Rattle.bounded.proofs.RangeLaws.{within_in, within_out, below_in, below_out}
use Rattle.checkpoint.proofs.Step.LockLaws.{free_cost}
use Rattle.checkpoint.proofs.Copy.FitLaws.{desk_framed_is, desk_fits_is, idle_free}
use Rattle.checkpoint.proofs.Step.StartImageLaws.{length_start, start_header, start_kind, start_row, start_byte, start_reserved, start_inode, start_slot, start_naming}

pub image_allowed_is : (n k : ℕ) → Reflects (image_allowed n k) (Allowed most_image_blocks n (image_blocks n k) k)
unfolding image_allowed
image_allowed_is n k = allowed_is most_image_blocks n (image_blocks n k) k

-- ---- the desk: its notes cleared, and nothing locked
module _ (d : List ℕ) (n b : ℕ) (long : length d ≡ desk_length n) where
  abbrev after : List ℕ
  after = start_desk d n b

  start_read : desk_of after ≡ starting (desk_of d) b
  unfolding start_desk
  start_read = let e = length_clear_notes d n in desk_put_desk (clear_notes d n) (starting (desk_of d) b) (omega arith)

  start_byte_of : (i : ℕ) → 1 ≤ i → i ≤ n → copied_of after i ≡ 0
  unfolding start_desk
  start_byte_of i l h = copied_put_desk (clear_notes d n) (starting (desk_of d) b) i ∙ copied_clear_notes d n (omega arith) i l h

  pub start_copied : (i : ℕ) → is_copied (start_desk d n b) n i ≡ false
  start_copied i = r_fails (copied_is after n i) (λ r. let a = start_byte_of i r.0 r.1.0 in let c = r.1.1 in omega arith)

  pub start_marked : (p : ℕ) → marked_at n (start_desk d n b) p ≡ false
  unfolding marked_at start_desk
  start_marked p = go (dec_lt p (most_slots * n))
    where
      go : Dec (p < most_slots * n) → marked_at n after p ≡ false
      go (yes l) = rw (lt-ltb p (most_slots * n) l) (mark_put_desk (clear_notes d n) (starting (desk_of d) b) n (dir_of p) (slot_of p) ∙ mark_clear_notes d n (omega arith) (dir_of p) (slot_of p) (omega arith) (omega arith))
      go (no l) = rw (le-ltb p (most_slots * n) (omega arith))

  start_desk_lem : (desk_of d).inodes ≡ n → desk_fits d ≡ true → is_running d ≡ false → DeskLaid n b after
  unfolding start_desk
  start_desk_lem e fits idle =
      let r = start_read in
      let w = (desk_fits_is d).to fits in
      let z = idle_free d fits idle in
      let c = length_clear_notes d n in
      let x : (desk_of after).locked ≡ 0 = ap (λ (y : Desk). y.locked) r ∙ z.0 in
      record {
        long = length_put_desk (clear_notes d n) (starting (desk_of d) b) ∙ c ∙ long;
        inodes = ap (λ (y : Desk). y.inodes) r ∙ e;
        blocks = ap (λ (y : Desk). y.blocks) r;
        state = ap (λ (y : Desk). y.state) r;
        reserved = reserved_put_desk (clear_notes d n) (starting (desk_of d) b) ∙ reserved_clear_notes d n ∙ w.1.1.0;
        bytes = λ i l h. let a = start_byte_of i l h in omega arith;
        high = omega arith;
        none = λ _. ap (λ (y : Desk). y.transferred) r ∙ z.1;
      }

  start_locked : desk_fits d ≡ true → is_running d ≡ false → (desk_of after).locked ≡ 0
  start_locked fits idle = ap (λ (y : Desk). y.locked) start_read ∙ (idle_free d fits idle).0

-- ---- both
module _ (s m d : List ℕ) (n : ℕ) (sound : Sound Store s) (e : n ≡ inodes_in s) (allowed : image_allowed n (length m) ≡ true)
    (framed : desk_framed d ≡ true) (same : (desk_of d).inodes ≡ n) (fits : desk_fits d ≡ true) (idle : is_running d ≡ false) where
  abbrev b : ℕ
  b = image_blocks n (length m)

  abbrev image : List ℕ
  image = start_image n (length m)

  abbrev desk : List ℕ
  desk = start_desk d n b

  long : length d ≡ desk_length n
  long = ((desk_framed_is d).to framed).1.1 ∙ ap desk_length same

  frame : Frame n b image
  frame =
      let w = (image_allowed_is n (length m)).to allowed in
      let k = w.long in
      let f = sound.framed in
      let g = start_header n (length m) (omega arith) in
      record {
        some_inodes = rw e f.some_inodes;
        most_inodes_lem = rw e f.most_inodes_lem;
        some_blocks = w.some_blocks;
        most_blocks_lem = w.most_blocks_lem;
        long = length_start n (length m) ∙ k;
        inodes = ap (λ (x : Header). x.inodes) g;
        blocks = ap (λ (x : Header). x.blocks) g;
        root = ap (λ (x : Header). x.root) g;
        complete = ap (λ (x : Header). x.complete) g;
        reserved = start_reserved n (length m);
      }

  no_cost : (j : ℕ) → cost image desk n j ≡ 0
  unfolding cost
  no_cost j = rw (start_copied d n b long (j + 1))

  pub start_laid : Laid n (image_blocks n (length m)) s (start_image n (length m)) (start_desk d n (image_blocks n (length m)))
  start_laid =
      let z = start_locked d n b long fits idle in
      let a : (desk_of desk).steps ≡ 0 = ap (λ (y : Desk). y.steps) (start_read d n b long) in
      let c = free_cost desk z in
      let v = sum_none (cost image desk n) n (λ j _. no_cost j) in
      record {
        desk = start_desk_lem d n b long same fits idle;
        frame = frame;
        inodes = λ i l h _. start_inode n (length m) b i l h;
        blank = λ i l h _. start_kind n (length m) i l h;
        opened = λ q. absurd (q z);
        once = λ i j l h p _. let q = start_row n (length m) (image_long s image desk) j h in omega arith;
        blanks = λ c _ _ _ o l. start_byte n (length m) c o l;
        fair = λ p l q. absurd (clash _ q (start_slot n (length m) p l));
        steps = omega arith;
      }

  pub start_fresh : Fresh (seen n s (start_image n (length m)) (start_desk d n (image_blocks n (length m))))
  unfolding seen shelf_of
  start_fresh = record {
    locked = start_locked d n b long fits idle;
    copied = start_copied d n b long;
    marked = start_marked d n b long;
    names = λ p. is_below (most_slots * n) p (λ l. below_in (most_slots * n) (naming image n) p l ∙ start_naming n (length m) p l) (λ l. below_out (most_slots * n) (naming image n) p l);
    kind = λ i. in_range n i (λ l h. within_in n (kind_of image) i l h ∙ start_kind n (length m) i l h) (λ o. within_out n (kind_of image) i o);
  }
