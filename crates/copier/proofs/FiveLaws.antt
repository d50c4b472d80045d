-- Which of the five things a step does, by what the code has tested. s is the store, m the image, d the desk, n the inode count.
use Rattle.std.specs.Prelude.{Err, None, Ok, Option, Some}
use Prim.Native.Nat.{ℕ, ◌+◌, ◌≤◌, ◌<◌}
use mathlib.Core.Path.{◌≡◌, refl, sym, ap, ap₂, ◌∙◌}
use mathlib.Core.Bool.{Bool, true, false, not, ◌&&◌}
use mathlib.Core.List.{List}
use native.Mathlib.Omega.{arith}
use borrow.Author.Tests.{lt-ltb, le-ltb, eq-eqb, ne_eqb, not-true, not-false}
use lib.ListN.{length}
use Rattle.bounded.specs.Search.{pick, first_from, on_found}
use Rattle.bounded.proofs.BoolLaws.{holds}
use Rattle.bounded.proofs.SearchLaws.{found_lowest}
use Rattle.layout.specs.Sizes.{root_inode, most_inodes, address_count, most_blocks, block_bytes}
use Rattle.layout.specs.Inode.{size_of, inode_of, put_attributes, address_index, with_links}
use Rattle.layout.specs.Fits.{InodeFits}
use Rattle.layout.specs.declared.inode.Inode.{Inode}
use Rattle.blocks.specs.Block.{put_in_block, blocks_used, is_long, address_block, kth_block}
use Rattle.blocks.specs.Free.{long_but}
use Rattle.blocks.specs.Fits.{BlockFits}
use Rattle.blocks.proofs.KthLaws.{kth_none}
use Rattle.ledger.proofs.WriteLaws.{Within, put_within}
use Rattle.desk.specs.Desk.{desk_of, put_desk, put_copied, is_copied}
use Rattle.desk.specs.Next.{locking, copying_one, unlocking, finishing, stopping}
use Rattle.desk.specs.declared.Desk.{Desk}
use Rattle.sound.specs.Sound.{blocks_in}
use Rattle.sound.specs.Counted.{SoundStore}
use Rattle.preservation.proofs.StoreLaws.{blocks_of_lem}
use Rattle.answers.specs.declared.Refusal.TheVariants.{ImageFull}
use Rattle.checkpoint.specs.Image.{inode_named}
use Rattle.checkpoint.specs.Copier.{Step, lock, copy, close, finish, full, next_inode, target_block, finish_image, free_step, locked_step, step_of, step_image, step_desk}
use Rattle.checkpoint.specs.Live.{Outcome, left, do_step}
use Rattle.checkpoint.proofs.Copy.TargetLaws.{target_at}
use Rattle.copier.specs.Held.{Locked, Target, OpenImage}
use Rattle.answers.specs.Told.{Answer}

-- ---- nothing is locked
module _ (m d : List ℕ) (n : ℕ) (r : Bool) (e : r ≡ is_copied d n root_inode) where
  pub free_root : not r ≡ true → free_step m d n ≡ lock root_inode
  unfolding free_step
  free_root q = ap (λ (t : Bool). pick t (on_found (next_inode m d n) lock finish) (lock root_inode)) (sym e ∙ not-true r q)

  pub free_next : not r ≡ false → (f : Option ℕ) → f ≡ next_inode m d n → free_step m d n ≡ on_found f lock finish
  unfolding free_step
  free_next q f g =
      ap (λ (t : Bool). pick t (on_found (next_inode m d n) lock finish) (lock root_inode)) (sym e ∙ not-false r q)
      ∙ ap (λ (y : Option ℕ). on_found y lock finish) (sym g)

module _ (m d : List ℕ) (n : ℕ) (f : Option ℕ) (g : free_step m d n ≡ on_found f lock finish) where
  pub free_lock : (i : ℕ) → f ≡ Some i → free_step m d n ≡ lock i
  free_lock i h = g ∙ ap (λ (y : Option ℕ). on_found y lock finish) h

  pub free_finish : f ≡ None → free_step m d n ≡ finish
  free_finish h = g ∙ ap (λ (y : Option ℕ). on_found y lock finish) h

-- the numbers that are locked
pub lock_few : (m d : List ℕ) (n i : ℕ) → n ≤ most_inodes → free_step m d n ≡ lock i → i ≤ most_inodes
unfolding free_step next_inode
lock_few m d n i few = go (is_copied d n root_inode) (first_from (λ j. not (is_copied d n j) && inode_named m n j) 1 n) refl
  where
    go : (t : Bool) (f : Option ℕ) → first_from (λ j. not (is_copied d n j) && inode_named m n j) 1 n ≡ f → pick t (on_found f lock finish) (lock root_inode) ≡ lock i → i ≤ 256
    go true (Some j) e q = let l = (found_lowest (λ j. not (is_copied d n j) && inode_named m n j) 1 n j e).below in let y : j ≡ i = cc in omega arith
    go true None e q = let y : ◌≡◌ {A = ℕ} 0 1 = cc in absurd (omega arith)
    go false f e q = let y : 1 ≡ i = cc in omega arith

-- ---- inode i is locked
module _ (s m : List ℕ) (n b i k u : ℕ) (e : u ≡ blocks_used (size_of s i)) where
  abbrev long : ℕ → Bool
  long = long_but m i (is_long s i)

  abbrev copy_or : Step
  copy_or = on_found (target_block long m n b (kth_block s n i k)) (λ c. copy i k c) full

  pub locked_close : u ≤ k → locked_step s m n b i k ≡ close i
  unfolding locked_step
  locked_close h = ap (λ (t : Bool). pick t copy_or (close i)) (le-ltb k (blocks_used (size_of s i)) (omega arith))

  module _ (h : k < u) (l : Bool) (q : l ≡ is_long s i) (a : ℕ) (p : a ≡ kth_block s n i k) (f : Option ℕ) (g : f ≡ target_block (long_but m i l) m n b a) where
    locked_block : locked_step s m n b i k ≡ on_found f (λ c. copy i k c) full
    unfolding locked_step
    locked_block =
        ap (λ (t : Bool). pick t copy_or (close i)) (lt-ltb k (blocks_used (size_of s i)) (omega arith))
        ∙ ap (λ (y : Option ℕ). on_found y (λ c. copy i k c) full) (sym (g ∙ ap₂ (λ (x : Bool) (y : ℕ). target_block (long_but m i x) m n b y) q p))

    pub locked_copy : (c : ℕ) → f ≡ Some c → locked_step s m n b i k ≡ copy i k c
    locked_copy c e = locked_block ∙ ap (λ (y : Option ℕ). on_found y (λ c. copy i k c) full) e

    pub locked_full : f ≡ None → locked_step s m n b i k ≡ full
    locked_full e = locked_block ∙ ap (λ (y : Option ℕ). on_found y (λ c. copy i k c) full) e

-- ---- both
module _ (s m d : List ℕ) (n : ℕ) (h : Desk) (e : h ≡ desk_of d) where
  pub step_free : h.locked ≡ 0 → step_of s m d n ≡ free_step m d n
  unfolding step_of
  step_free q = ap (λ (t : Bool). pick t (free_step m d n) (locked_step s m n (desk_of d).blocks (desk_of d).locked (desk_of d).transferred))
      (eq-eqb (desk_of d).locked 0 (ap (λ (v : Desk). v.locked) (sym e) ∙ q))

  pub step_locked : (h.locked ≡ 0 → ⊥) → step_of s m d n ≡ locked_step s m n h.blocks h.locked h.transferred
  unfolding step_of
  step_locked q = ap (λ (t : Bool). pick t (free_step m d n) (locked_step s m n (desk_of d).blocks (desk_of d).locked (desk_of d).transferred))
      (ne_eqb (desk_of d).locked 0 (λ z. q (ap (λ (v : Desk). v.locked) e ∙ z)))
      ∙ ap (λ (v : Desk). locked_step s m n v.blocks v.locked v.transferred) (sym e)

-- ---- what is left then
pub same_left : (s : List ℕ) {x y : ℕ} {m t d e : List ℕ} → x ≡ y → m ≡ t → d ≡ e → left (Ok x) s m d ≡ left (Ok y) s t e
same_left s a b c = rw (a, b, c)

module _ (s m d : List ℕ) (n : ℕ) (x : Step) where
  pub does_lock : (i : ℕ) → x ≡ lock i → (r : Answer) (e : List ℕ) → r ≡ Ok ((desk_of d).steps + 1) → e ≡ step_desk d (lock i) → left r s m e ≡ do_step s m d n x
  does_lock i q r e a b = rw (a, b, q)

  pub does_full : x ≡ full → (r : Answer) (e : List ℕ) → r ≡ Err ImageFull → e ≡ step_desk d full → left r s m e ≡ do_step s m d n x
  does_full q r e a b = rw (a, b, q)

  pub does_same : (y : Step) → x ≡ y → (o : Outcome) → o ≡ do_step s m d n y → o ≡ do_step s m d n x
  does_same y q o a = a ∙ ap (do_step s m d n) (sym q)

-- ---- the five things: the desk's header is h, and next is what its method hands back
module _ (d : List ℕ) (h next : Desk) (e : h ≡ desk_of d) where
  pub lock_done : (i : ℕ) → next ≡ locking h i → (t : List ℕ) → t ≡ put_desk d next → (next.steps ≡ (desk_of d).steps + 1) × (t ≡ step_desk d (lock i))
  lock_done i q t w = (rw (q, e), w ∙ ap (put_desk d) (q ∙ ap (λ (v : Desk). locking v i) e))

  pub stop_done : next ≡ stopping h → (t : List ℕ) → t ≡ put_desk d next → t ≡ step_desk d full
  stop_done q t w = w ∙ ap (put_desk d) (q ∙ ap stopping e)

  module _ (m : List ℕ) (n : ℕ) (t : List ℕ) where
    pub copy_done : (s a : List ℕ) (c : ℕ) → a ≡ step_image s m d n (copy h.locked h.transferred c) → next ≡ copying_one h → t ≡ put_desk d next
        → left (Ok next.steps) s a t ≡ do_step s m d n (copy h.locked h.transferred c)
    copy_done s a c p q w = same_left s (rw (q, e)) p (w ∙ ap (put_desk d) (q ∙ ap copying_one e))

    pub close_done : (s a u : List ℕ) (v : Inode) → v ≡ inode_of s n h.locked → a ≡ put_attributes m h.locked (with_links v 0) → u ≡ put_copied d h.locked 1 → next ≡ unlocking h → t ≡ put_desk u next
        → left (Ok next.steps) s a t ≡ do_step s m d n (close h.locked)
    close_done s a u v f p g q w =
        same_left s (rw (q, e)) (p ∙ ap (λ (y : Inode). put_attributes m h.locked (with_links y 0)) f) (w ∙ ap₂ put_desk g (q ∙ ap unlocking e))

    pub finish_done : (a : List ℕ) → a ≡ finish_image m n h.blocks → next ≡ finishing h → t ≡ put_desk d next
        → (s : List ℕ) → left (Ok next.steps) s a t ≡ do_step s m d n finish
    finish_done a p q w s = same_left s (rw (q, e)) (p ∙ ap (λ (y : Desk). finish_image m n y.blocks) e) (w ∙ ap (put_desk d) (q ∙ ap finishing e))

-- ---- the block that a block step takes
pub locked_few : {s : List ℕ} {n : ℕ} {h : Desk} → Locked s n h → h.transferred < blocks_used (size_of s h.locked) → h.transferred < most_blocks
locked_few {s} {n} {h} l q = let w = (blocks_of_lem l.store h.locked l.low l.high).few in omega arith

-- behind twelve blocks an inode of a sound store is long
used_long : {s : List ℕ} {n : ℕ} → SoundStore s n (blocks_in s) → (i k : ℕ) → 1 ≤ i → i ≤ n → k < blocks_used (size_of s i) → address_count ≤ k → is_long s i ≡ true
used_long {s} {n} f i k l u q b =
    holds (is_long s i) (λ e. let w = ((blocks_of_lem f i l u).blocks k q).low in let z = kth_none (is_long s i) s n i k e b in omega arith)

pub target_inside : {s m : List ℕ} {n : ℕ} {h : Desk} → Locked s n h → OpenImage s m n h → h.transferred < blocks_used (size_of s h.locked)
    → (long : ℕ → Bool) (x c : ℕ) (f : Option ℕ) → f ≡ target_block long m n h.blocks x → f ≡ Some c → Target m n h c
target_inside {s} {m} {n} {h} l o q long x c f g e =
    let t = target_at long m n h.blocks x c (sym g ∙ e) in
    let a = t.low in
    let b = t.high in
    let k = o.sized.blocks in
    let w = o.sized.long in
    record {
      few = o.sized.inodes;
      most = omega arith;
      block = record { low = a; inside = omega arith };
      further = λ r. record {
        low = let y = o.further (used_long l.store h.locked h.transferred l.low l.high q r) r in omega arith;
        inside = let y = l.low in let z = l.high in o.addressed.inside (address_index h.locked 11) (omega arith);
      };
    }

-- where its address goes, once its bytes are written
module _ {m : List ℕ} {n c : ℕ} {h : Desk} (t : Target m n h c) (l : 1 ≤ h.locked) (u : h.locked ≤ n) (xs y : List ℕ) (e : length xs ≡ block_bytes) (f : y ≡ put_in_block m n c 0 xs) where
  written : Within m y n c
  written = rw f (put_within m n c 0 xs t.block.low (omega arith))

  pub address_fits : InodeFits y n h.locked
  address_fits =
      let w = written.long in
      let a = t.block.low in
      let b = t.block.inside in
      record { low = l; high = u; few = t.few; area = omega arith }

  pub further_fits : address_count ≤ h.transferred → BlockFits y n (address_block y n h.locked)
  further_fits r =
      let b = t.further r in
      let i = b.inside in
      let w = written.long in
      rw (written.direct (address_index h.locked 11) (omega arith)) (record { low = b.low; inside = omega arith })
