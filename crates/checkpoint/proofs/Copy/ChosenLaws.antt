-- Which of the five things a step does, with what is then known. s is the store, m the image, d the desk, n the inode count.
use Rattle.std.specs.Prelude.{None, Option, Some}
use Prim.Native.Nat.{ℕ, ◌*◌, ◌≤◌, ◌<◌}
use mathlib.Core.Path.{◌≡◌, refl, ap}
use mathlib.Core.Logic.{◌≢◌, ◌⊎◌, inl, inr}
use mathlib.Core.Bool.{Bool, true, false, not, ◌&&◌}
use mathlib.Core.List.{List}
use native.Mathlib.Omega.{arith}
use borrow.Author.Tests.{eqb-true, eqb-false, ltb-true, ltb-false, not-true}
use lib.Dec.{eqb, ltb}
use Rattle.bounded.specs.Search.{pick, first_from, on_found}
use Rattle.bounded.proofs.BoolLaws.{clash, holds, and_left, and_right, and-true}
use Rattle.bounded.specs.Reflect.{Reflects}
use Rattle.bounded.proofs.ReflectLaws.{r_eq, r_some}
use Rattle.bounded.proofs.SearchLaws.{found_lowest, none_below}
use Rattle.bounded.proofs.CaseLaws.{is_below}
use Rattle.bounded.proofs.RangeLaws.{below_out}
use Rattle.layout.specs.Sizes.{most_blocks, root_inode}
use Rattle.layout.specs.Inode.{size_of}
use Rattle.blocks.specs.Block.{blocks_used, kth_block}
use Rattle.blocks.specs.Free.{named_by}
use Rattle.directory.specs.Slot.{most_slots}
use Rattle.desk.specs.Desk.{desk_of, is_copied}
use Rattle.sound.specs.Place.{naming}
use Rattle.sound.specs.Sound.{Sound, inodes_in}
use Rattle.sound.specs.declared.Form.TheVariants.{Store}
use Rattle.copy_theory.specs.Holds.{Ended}
use Rattle.checkpoint.specs.Image.{image_naming, inode_named}
use Rattle.checkpoint.specs.Fit.{image_long}
use Rattle.checkpoint.specs.Copier.{Step, lock, copy, close, finish, full, next_inode, target_block, locked_step, free_step, step_of}
use Rattle.checkpoint.proofs.Copy.Seen.{shelf_of, seen}
use Rattle.checkpoint.proofs.Copy.Laid.{Laid}
use Rattle.checkpoint.proofs.Step.LockLaws.{seen_naming}
use Rattle.checkpoint.proofs.Copy.TargetLaws.{target_at, target_absent}
use Rattle.checkpoint.proofs.Copy.RoomLaws.{laid_room}

-- some image directory names inode i
pub named_in_image : (m : List ℕ) (n i : ℕ) → Reflects (inode_named m n i) ((p : ℕ) × (p < most_slots * n) × (image_naming m n p ≡ i))
unfolding inode_named
named_in_image m n i = r_some (most_slots * n) (λ p. r_eq (image_naming m n p) i)

pub data Chosen (s m d : List ℕ) (n : ℕ) : Step → Type 0 where
  -- 1 and 2
  will_lock : (l : ℕ) → (desk_of d).locked ≡ 0 → 1 ≤ l → l ≤ n → is_copied d n l ≡ false
      → ((l ≡ root_inode) ⊎ ((p : ℕ) × (p < most_slots * n) × (image_naming m n p ≡ l))) → Chosen s m d n (lock l)
  -- 3
  will_copy : (c : ℕ) → (desk_of d).locked ≢ 0 → (desk_of d).transferred < blocks_used (size_of s (desk_of d).locked)
      → target_block (image_long s m d) m n (desk_of d).blocks (kth_block s n (desk_of d).locked (desk_of d).transferred) ≡ Some c → Chosen s m d n (copy (desk_of d).locked (desk_of d).transferred c)
  -- 4
  will_close : (desk_of d).locked ≢ 0 → blocks_used (size_of s (desk_of d).locked) ≤ (desk_of d).transferred → Chosen s m d n (close (desk_of d).locked)
  -- 5
  will_finish : (desk_of d).locked ≡ 0 → is_copied d n root_inode ≡ true
      → ((p : ℕ) → p < most_slots * n → 1 ≤ image_naming m n p → image_naming m n p ≤ n → is_copied d n (image_naming m n p) ≡ true) → Chosen s m d n finish
  -- 16
  no_room : (desk_of d).locked ≢ 0 → (desk_of d).transferred < blocks_used (size_of s (desk_of d).locked)
      → ((c : ℕ) → 1 ≤ c → c ≤ (desk_of d).blocks → named_by (image_long s m d) m n c ≡ true) → Chosen s m d n full

module _ (s m d : List ℕ) (n : ℕ) where
  -- ---- something is locked
  module _ (z : (desk_of d).locked ≢ 0) where
    block : (desk_of d).transferred < blocks_used (size_of s (desk_of d).locked) → (r : Option ℕ)
        → target_block (image_long s m d) m n (desk_of d).blocks (kth_block s n (desk_of d).locked (desk_of d).transferred) ≡ r
        → Chosen s m d n (on_found r (λ c. copy (desk_of d).locked (desk_of d).transferred c) full)
    block l (Some c) e = will_copy c z l e
    block l None e = no_room z l (target_absent (image_long s m d) m n (desk_of d).blocks (kth_block s n (desk_of d).locked (desk_of d).transferred) e)

    chosen_locked : Chosen s m d n (locked_step s m n (desk_of d).blocks (desk_of d).locked (desk_of d).transferred)
    unfolding locked_step
    chosen_locked = go (ltb (desk_of d).transferred (blocks_used (size_of s (desk_of d).locked))) refl
      where
        go : (t : Bool) → ltb (desk_of d).transferred (blocks_used (size_of s (desk_of d).locked)) ≡ t
            → Chosen s m d n (pick t (on_found (target_block (image_long s m d) m n (desk_of d).blocks (kth_block s n (desk_of d).locked (desk_of d).transferred)) (λ c. copy (desk_of d).locked (desk_of d).transferred c) full) (close (desk_of d).locked))
        go true e = block (ltb-true _ _ e) (target_block (image_long s m d) m n (desk_of d).blocks (kth_block s n (desk_of d).locked (desk_of d).transferred)) refl
        go false e = will_close z (ltb-false _ _ e)

  -- ---- nothing is locked
  abbrev wanted : ℕ → Bool
  wanted i = not (is_copied d n i) && inode_named m n i

  module _ (z : (desk_of d).locked ≡ 0) where
    next : is_copied d n root_inode ≡ true → (r : Option ℕ) → first_from wanted 1 n ≡ r → Chosen s m d n (on_found r lock finish)
    next c (Some i) e =
        let w = found_lowest wanted 1 n i e in
        let k = w.below in
        let g : inode_named m n i ≡ true = and_right (not (is_copied d n i)) (inode_named m n i) w.holds in
        will_lock i z w.from (omega arith) (not-true (is_copied d n i) (and_left (not (is_copied d n i)) (inode_named m n i) w.holds)) (inr ((named_in_image m n i).to g))
    next c None e =
        will_finish z c (λ p l a b.
        let i = image_naming m n p in
        let g : inode_named m n i ≡ true = (named_in_image m n i).from (p, l, refl) in
        holds (is_copied d n i) (λ q. clash (wanted i) (and-true (not (is_copied d n i)) (inode_named m n i) (ap not q) g) (none_below wanted 1 n e i a (omega arith))))

    chosen_free : 1 ≤ n → Chosen s m d n (free_step m d n)
    unfolding free_step next_inode
    chosen_free l = go (is_copied d n root_inode) refl
      where
        go : (t : Bool) → is_copied d n root_inode ≡ t → Chosen s m d n (pick t (on_found (first_from wanted 1 n) lock finish) (lock root_inode))
        go true e = next e (first_from wanted 1 n) refl
        go false e = will_lock root_inode z (omega arith) (omega arith) e (inl refl)

  pub chosen : 1 ≤ n → Chosen s m d n (step_of s m d n)
  unfolding step_of
  chosen l = go (eqb (desk_of d).locked 0) refl
    where
      go : (t : Bool) → eqb (desk_of d).locked 0 ≡ t → Chosen s m d n (pick t (free_step m d n) (locked_step s m n (desk_of d).blocks (desk_of d).locked (desk_of d).transferred))
      go true e = chosen_free (eqb-true (desk_of d).locked 0 e) l
      go false e = chosen_locked (eqb-false (desk_of d).locked 0 e)

-- a step that will-finish leaves nothing to copy, where the image names no number above n
pub chosen_ended : {n b : ℕ} {s m d : List ℕ} → Laid n b s m d → Chosen s m d n finish → ((p : ℕ) → (seen n s m d).image.names p ≤ n) → Ended (seen n s m d)
chosen_ended {n} {b} {s} {m} {d} h (will_finish z c f) high = record {
  root = unfold seen in c;
  last = λ p q. is_below (most_slots * n) p (λ l. at p l q) (λ l. absurd (q (unfold seen shelf_of in below_out (most_slots * n) (naming m n) p l)));
}
  where
    at : (p : ℕ) → p < most_slots * n → (seen n s m d).image.names p ≢ 0 → (seen n s m d).copied ((seen n s m d).image.names p) ≡ true
    at p l q =
        let e = seen_naming h p l in
        let k = high p in
        rw e (unfold seen in f p l (omega arith) (omega arith))

-- "With 44 × N image blocks or more, 16 never comes in a run."
pub never_full : {n b : ℕ} {s m d : List ℕ} → Laid n b s m d → Sound Store s → n ≡ inodes_in s → most_blocks * n ≤ b → step_of s m d n ≢ full
never_full {n} {b} {s} {m} {d} h sound e enough q = go (step_of s m d n) q (chosen s m d n h.frame.some_inodes)
  where
    go : (x : Step) → x ≡ full → Chosen s m d n x → ⊥
    go x q (will_lock l _ _ _ _ _) = let z : ◌≡◌ {A = ℕ} 0 1 = cc in omega arith
    go x q (will_copy c _ _ _) = let z : ◌≡◌ {A = ℕ} 0 1 = cc in omega arith
    go x q (will_close _ _) = let z : ◌≡◌ {A = ℕ} 0 1 = cc in omega arith
    go x q (will_finish _ _ _) = let z : ◌≡◌ {A = ℕ} 0 1 = cc in omega arith
    go x q (no_room z l all) =
        let r = laid_room h sound e z l enough in
        let k = h.desk.blocks in
        let w = target_at (image_long s m d) m n b (kth_block s n (desk_of d).locked (desk_of d).transferred) r.0 r.1 in
        let v = w.high in
        clash (named_by (image_long s m d) m n r.0) (all r.0 w.low (omega arith)) w.free
