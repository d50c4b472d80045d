-- A step that leaves the copy running leaves all that 1, 2 and 3 ask, the steps' bound apart, on any bytes that passed the guards. A lock alone may not: the inode that it locks goes by its store size from then on, so that bytes count as addresses which did not before. s is the store, m the image, d the desk, n the inode count.
use Rattle.std.specs.Prelude.{Some}
use Prim.Native.Nat.{ℕ, ◌+◌, ◌*◌, ◌-◌, ◌/◌, ◌%◌, ◌≤◌, ◌<◌}
use mathlib.Core.Path.{◌≡◌, refl, sym, ap, ◌∙◌, subst}
use mathlib.Core.Logic.{◌≢◌, ◌⊎◌, inl, inr}
use mathlib.Core.Bool.{Bool, true, false, ◌&&◌}
use mathlib.Core.List.{List}
use native.Mathlib.Decide.{ℕ_discrete, dec_lt}
use native.Mathlib.Omega.{arith}
use borrow.Author.Tests.{eqb-true, ne_eqb}
use lib.Dec.{eqb, leb}
use lib.ListN.{length, replicate}
use Rattle.bounded.specs.Below.{all_below}
use Rattle.bounded.proofs.BoolLaws.{clash, holds}
use Rattle.bounded.proofs.ReflectLaws.{r_and, r_le, r_true, r_all, r_says, r_fails, reflects_ext}
use Rattle.octets.proofs.PartLaws.{length_inside}
use Rattle.layout.specs.Sizes.{most_inodes, most_image_blocks, address_count, further_count, address_place, most_blocks, block_bytes}
use Rattle.layout.specs.Inode.{kind_of, size_of, address_of, address_index}
use Rattle.layout.specs.Fits.{InodeFits}
use Rattle.blocks.specs.Block.{block_at, block_of, blocks_used, is_long, address_block, kth_by, kth_block, row_by}
use Rattle.blocks.specs.Free.{long_but}
use Rattle.blocks.specs.Fits.{BlocksFit, Sized, RowsFit}
use Rattle.blocks.proofs.KthLaws.{kth_direct, kth_none, row_kth}
use Rattle.ledger.proofs.LedgerLaws.{Unnamed}
use Rattle.blocks.proofs.LongLaws.{but_here, but_else}
use Rattle.desk.specs.Sizes.{desk_length, running, steps_an_inode}
use Rattle.desk.specs.declared.Desk.{Desk}
use Rattle.desk.specs.Desk.{desk_of, put_desk, copied_of, put_copied, desk_rest_zero}
use Rattle.desk.specs.Next.{locking, copying_one, unlocking}
use Rattle.desk.proofs.DeskLaws.{length_put_desk, length_put_copied, desk_put_desk, reserved_put_desk, reserved_put_copied, copied_put_desk, copied_same, copied_other}
use Rattle.sound.specs.Sound.{inodes_in}
use Rattle.sound.specs.declared.Form.TheVariants.{Store}
use Rattle.sound.proofs.SoundLaws.{is_sound_lem}
use Rattle.preservation.proofs.SameLaws.{SameFrame, InInode, frame_stays, same_long}
use Rattle.preservation.proofs.StoreLaws.{sound_store, blocks_of_lem}
use Rattle.answers.specs.declared.Refusal.TheVariants.{BadDesk}
use Rattle.checkpoint.specs.Fit.{desk_framed, is_running, most_steps, blocks_fit, image_long, lacks_addresses, image_fits, notes_fit}
use Rattle.checkpoint.specs.Copier.{lock, copy, close, target_block, copied_block, step_of, step_image, step_desk}
use Rattle.checkpoint.specs.Live.{World, refuse, do_step, step, world}
use Rattle.checkpoint.specs.List.{Ready}
use Rattle.checkpoint.specs.Burst.{Steady}
use Rattle.checkpoint.proofs.DecisionLaws.{three_is}
use Rattle.checkpoint.proofs.Copy.FitLaws.{desk_framed_is, desk_fits_is, image_fits_is, lacks_is, notes_fit_is}
use Rattle.checkpoint.proofs.Copy.LedgerLaws.{by_none}
use Rattle.checkpoint.proofs.Copy.NoteLaws.{address_block_lem, length_copied_block}
use Rattle.checkpoint.proofs.Copy.TargetLaws.{FreeBy, target_at}
use Rattle.checkpoint.proofs.Step.BlockLaws.{SameAttributes, block_attributes}
use Rattle.checkpoint.proofs.Step.RowChange as rows

-- ---- in and out
module _ (w : World) where
  pub steady_of : Ready w → is_running w.desk ≡ true → Steady w
  steady_of r t =
      let a = (notes_fit_is w.store w.image w.desk).to r.notes in
      let f = ((desk_fits_is w.desk).to a.0).1 in
      record {
        framed = r.framed;
        sound = r.sound;
        desk = r.desk;
        running = t;
        blocks = f.0;
        rest = f.1.0;
        copied = f.1.1.0;
        locked = f.1.1.1.0;
        transferred = f.1.1.1.1.0;
        inodes = a.1.0;
        image = a.1.1 t;
      }

  module _ (z : Steady w) where
    state : (desk_of w.desk).state ≡ running
    unfolding is_running
    state = eqb-true (desk_of w.desk).state running z.running

    pub ready_of : (desk_of w.desk).steps ≤ steps_an_inode * (desk_of w.desk).inodes → Ready w
    ready_of l =
        let q = state in
        let k : (desk_of w.desk).steps ≤ most_steps w.desk = rw z.running l in
        record {
          framed = z.framed;
          sound = z.sound;
          desk = z.desk;
          notes = (notes_fit_is w.store w.image w.desk).from
              ((desk_fits_is w.desk).from (omega arith, (z.blocks, (z.rest, (z.copied, (z.locked, (z.transferred, (inl z.running, k))))))), (z.inodes, λ _. z.image));
        }

    late_notes : steps_an_inode * (desk_of w.desk).inodes < (desk_of w.desk).steps → notes_fit w.store w.image w.desk ≡ false
    late_notes l = r_fails (notes_fit_is w.store w.image w.desk) (λ t.
        let k : (desk_of w.desk).steps ≤ most_steps w.desk = ((desk_fits_is w.desk).to t.0).1.1.1.1.1.1.1 in
        let j : (desk_of w.desk).steps ≤ steps_an_inode * (desk_of w.desk).inodes = rw z.running at k in
        omega arith)

    -- past the steps' bound a step is refused with 3
    pub late : steps_an_inode * (desk_of w.desk).inodes < (desk_of w.desk).steps → step w.store w.image w.desk ≡ refuse BadDesk w.store w.image w.desk
    unfolding step
    late l = three_is w.store w.image w.desk _ ∙ rw (z.framed, z.desk, z.sound, late_notes l)

-- ---- what a step keeps
-- by inode and place, or all in a row
by_row : (long : ℕ → Bool) (m : List ℕ) (n b : ℕ) → ((x : ℕ) → x < most_blocks * n → row_by long m n x ≤ b) → (i k : ℕ) → 1 ≤ i → i ≤ n → k < most_blocks → kth_by (long i) m n i k ≤ b
by_row long m n b h i k l u q = subst (λ (y : ℕ). y ≤ b) (row_kth long m n i k l q) (h (most_blocks * (i - 1) + k) (omega arith))

module _ (s m d : List ℕ) (z : Steady (world s m d)) (n : ℕ) (e : n ≡ inodes_in s) where
  count : (desk_of d).inodes ≡ n
  count = z.inodes ∙ sym e

  pub some : 1 ≤ n
  some = let i = count in let f = ((desk_framed_is d).to z.desk).0 in omega arith

  few : n ≤ most_inodes
  few = let i = count in let f = ((desk_framed_is d).to z.desk).1.0 in omega arith

  long : length d ≡ desk_length n
  long = let i = count in let f = ((desk_framed_is d).to z.desk).1.1 in omega arith

  few_blocks : (desk_of d).blocks ≤ most_image_blocks
  unfolding is_running blocks_fit
  few_blocks =
      let q : (desk_of d).state ≡ 1 = eqb-true (desk_of d).state 1 z.running in
      let w : eqb (desk_of d).state 0 ≡ false = ne_eqb (desk_of d).state 0 (λ v. omega arith) in
      let f : blocks_fit d ≡ true = z.blocks in
      let g : leb 1 (desk_of d).blocks && leb (desk_of d).blocks most_image_blocks ≡ true = rw w at f in
      ((r_and (r_le 1 (desk_of d).blocks) (r_le (desk_of d).blocks most_image_blocks)).to g).1

  pub steady_sized : Sized m n (desk_of d).blocks
  steady_sized = let i = count in let l = ((image_fits_is s m d).to z.image).0 in record { inodes = few; blocks = few_blocks; long = omega arith }

  row : (x : ℕ) → x < most_blocks * n → row_by (image_long s m d) m n x ≤ (desk_of d).blocks
  row x u =
      let i = count in
      let a = ((image_fits_is s m d).to z.image).1.1.1.1.1.0 x (omega arith) in
      subst (λ (y : ℕ). row_by (image_long s m d) m y x ≤ (desk_of d).blocks) i a

  kth : (i k : ℕ) → 1 ≤ i → i ≤ n → k < most_blocks → kth_by (image_long s m d i) m n i k ≤ (desk_of d).blocks
  kth = by_row (image_long s m d) m n (desk_of d).blocks row

  pub steady_address : (i k : ℕ) → 1 ≤ i → i ≤ n → k < address_count → address_of m n (address_index i k) ≤ (desk_of d).blocks
  steady_address i k l u q = subst (λ (y : ℕ). y ≤ (desk_of d).blocks) (kth_direct (image_long s m d i) m n i k q) (kth i k l u (omega arith))

  pub steady_rows : RowsFit (image_long s m d) m n
  steady_rows =
      let l = steady_sized.long in
      let k = few_blocks in
      record {
        few = few;
        area = omega arith;
        most = λ x u. let a = row x u in omega arith;
        inside = λ i a b _ q. let w = steady_address i 11 a b (omega arith) in omega arith;
      }

  -- the locked inode has its address block in time
  further : (desk_of d).locked ≢ 0 → is_long s (desk_of d).locked ≡ true → address_count ≤ (desk_of d).transferred → address_block m n (desk_of d).locked ≢ 0
  further a b c q =
      ((image_fits_is s m d).to z.image).1.1.1.1.1.1
      ((lacks_is s m d).from (a, (b, (c, subst (λ (y : ℕ). address_block m y (desk_of d).locked ≡ 0) (sym count) q))))

  -- a header h written to a desk that has the old one's length, and an image t
  module _ (t p : List ℕ) (h : Desk) (f : length p ≡ length d) (r : desk_rest_zero p ≡ true) (bytes : (k : ℕ) → k < n → copied_of p (k + 1) ≤ 1)
      (i : h.inodes ≡ (desk_of d).inodes) (b : h.blocks ≡ (desk_of d).blocks) (a : h.state ≡ (desk_of d).state) (l : h.locked ≤ n) (k : h.transferred ≤ most_blocks) where
    read : desk_of (put_desk p h) ≡ h
    read = let o = long in desk_put_desk p h (omega arith)

    inodes_read : (desk_of (put_desk p h)).inodes ≡ n
    inodes_read = ap (λ (v : Desk). v.inodes) read ∙ i ∙ count

    blocks_read : (desk_of (put_desk p h)).blocks ≡ (desk_of d).blocks
    blocks_read = ap (λ (v : Desk). v.blocks) read ∙ b

    state_read : (desk_of (put_desk p h)).state ≡ (desk_of d).state
    state_read = ap (λ (v : Desk). v.state) read ∙ a

    kept_image : SameFrame m t → ((x : ℕ) → x < most_blocks * n → row_by (image_long s t (put_desk p h)) t n x ≤ (desk_of d).blocks) → (lacks_addresses s t (put_desk p h) ≡ true → ⊥) → image_fits s t (put_desk p h) ≡ true
    kept_image g x y =
        let o = (image_fits_is s m d).to z.image in
        let w = inodes_read in
        let v = blocks_read in
        let j = steady_sized.long in
        let q = g.long in
        let c = count in
        (image_fits_is s t (put_desk p h)).from (
          omega arith,
          (
            g.inodes ∙ o.1.0 ∙ c ∙ sym w,
            (
              g.blocks ∙ o.1.1.0 ∙ sym v,
              (
                g.root ∙ o.1.1.1.0,
                (
                  g.complete ∙ o.1.1.1.1.0,
                  ((λ u q. subst (λ (y : ℕ). row_by (image_long s t (put_desk p h)) t y u ≤ (desk_of (put_desk p h)).blocks) (sym w) (let j = x u (omega arith) in omega arith)), y),
                ),
              ),
            ),
          ),
        )

    kept_desk : desk_framed (put_desk p h) ≡ true
    kept_desk =
        let o = long in
        let c = inodes_read in
        let q = length_put_desk p h in
        let u = few in
        let v = some in
        (desk_framed_is (put_desk p h)).from (omega arith, (omega arith, omega arith))

    kept_running : is_running (put_desk p h) ≡ true
    unfolding is_running
    kept_running = ap (λ (v : ℕ). eqb v running) state_read ∙ z.running

    kept_blocks : blocks_fit (put_desk p h) ≡ true
    unfolding blocks_fit
    kept_blocks = rw (state_read, blocks_read) z.blocks

    kept : image_fits s t (put_desk p h) ≡ true → Steady (world s t (put_desk p h))
    kept fits =
        let c = inodes_read in
        let u = ap (λ (v : Desk). v.locked) read in
        let v = ap (λ (v : Desk). v.transferred) read in
        record {
          framed = z.framed;
          sound = z.sound;
          desk = kept_desk;
          running = kept_running;
          blocks = kept_blocks;
          rest = reserved_put_desk p h ∙ r;
          copied = λ y o. subst (λ (q : ℕ). q ≤ 1) (sym (copied_put_desk p h (y + 1))) (bytes y (omega arith));
          locked = omega arith;
          transferred = omega arith;
          inodes = c ∙ e;
          image = fits;
        }

    unfit : image_fits s t (put_desk p h) ≡ false → step s t (put_desk p h) ≡ refuse BadDesk s t (put_desk p h)
    unfolding step
    unfit fails =
        let w = r_fails (notes_fit_is s t (put_desk p h)) (λ v. clash (image_fits s t (put_desk p h)) (v.1.1 kept_running) fails) in
        three_is s t (put_desk p h) _ ∙ rw (z.framed, kept_desk, z.sound, w)

  bytes_now : (k : ℕ) → k < n → copied_of d (k + 1) ≤ 1
  bytes_now k l = let c = count in z.copied k (omega arith)

  -- ---- 1 and 2
  module _ (none : (desk_of d).locked ≡ 0) (i : ℕ) (low : 1 ≤ i) (high : i ≤ n) where
    abbrev held : List ℕ
    held = step_desk d (lock i)

    header : desk_of held ≡ locking (desk_of d) i
    header = read m d (locking (desk_of d) i) refl z.rest bytes_now refl refl refl high (omega arith)

    pub lock_read : (desk_of held).locked ≡ i
    lock_read = ap (λ (v : Desk). v.locked) header

    lock_long : (j : ℕ) → 1 ≤ j → j ≢ i → image_long s m held j ≡ image_long s m d j
    lock_long j a q =
        but_else m (desk_of held).locked (is_long s (desk_of held).locked) j (λ y. q (y ∙ lock_read))
        ∙ sym (but_else m (desk_of d).locked (is_long s (desk_of d).locked) j (λ y. omega arith))

    lock_own : image_long s m held i ≡ is_long s i
    lock_own = but_here m (desk_of held).locked (is_long s (desk_of held).locked) i (sym lock_read) ∙ ap (is_long s) lock_read

    -- by the places behind its twelve
    lock_row : ((j : ℕ) → j < further_count → kth_by (is_long s i) m n i (address_count + j) ≤ (desk_of d).blocks) → (x : ℕ) → x < most_blocks * n → row_by (image_long s m held) m n x ≤ (desk_of d).blocks
    unfolding row_by
    lock_row h x u = go (ℕ_discrete (x / 44 + 1) i) (dec_lt (x % 44) 12)
      where
        go : Dec (x / 44 + 1 ≡ i) → Dec (x % 44 < 12) → kth_by (image_long s m held (x / 44 + 1)) m n (x / 44 + 1) (x % 44) ≤ (desk_of d).blocks
        go _ (yes q) = subst (λ (y : ℕ). y ≤ (desk_of d).blocks) (sym (kth_direct (image_long s m held (x / 44 + 1)) m n (x / 44 + 1) (x % 44) q)) (steady_address (x / 44 + 1) (x % 44) (omega arith) (omega arith) q)
        go (yes a) (no q) =
            let w : 12 + (x % 44 - 12) ≡ x % 44 = omega arith in
            subst (λ (y : ℕ). kth_by (image_long s m held y) m n y (x % 44) ≤ (desk_of d).blocks) (sym a)
            (rw lock_own (subst (λ (y : ℕ). kth_by (is_long s i) m n i y ≤ (desk_of d).blocks) w (h (x % 44 - 12) (omega arith))))
        go (no a) (no q) = rw (lock_long (x / 44 + 1) (omega arith) a) (kth (x / 44 + 1) (x % 44) (omega arith) (omega arith) (omega arith))

    lock_entries : image_fits s m held ≡ true → (j : ℕ) → j < further_count → kth_by (is_long s i) m n i (address_count + j) ≤ (desk_of d).blocks
    lock_entries f j u =
        let a = inodes_read m d (locking (desk_of d) i) refl z.rest bytes_now refl refl refl high (omega arith) in
        let b = blocks_read m d (locking (desk_of d) i) refl z.rest bytes_now refl refl refl high (omega arith) in
        let w = by_row (image_long s m held) m n (desk_of held).blocks
        (λ x q. subst (λ (y : ℕ). row_by (image_long s m held) m y x ≤ (desk_of held).blocks) a (((image_fits_is s m held).to f).1.1.1.1.1.0 x (omega arith)))
        i (12 + j) low high (omega arith) in
        let v : kth_by (is_long s i) m n i (12 + j) ≤ (desk_of held).blocks = rw lock_own at w in
        omega arith

    -- a lock brings 3 just where an address is too large in the block that the image has, by the store's size, for the locked inode; in a run it has none
    pub lock_fits : image_fits s m (step_desk d (lock i)) ≡ all_below (λ j. leb (kth_by (is_long s i) m n i (address_count + j)) (desk_of d).blocks) further_count
    lock_fits =
        reflects_ext
        (r_says lock_entries
        (λ h. kept_image m d (locking (desk_of d) i) refl z.rest bytes_now refl refl refl high (omega arith) (frame_stays m) (lock_row h)
        (λ y. let q = ((lacks_is s m held).to y).1.1.0 in let v = ap (λ (v : Desk). v.transferred) header in omega arith))
        (r_true (image_fits s m held)))
        (r_all further_count (λ j. r_le (kth_by (is_long s i) m n i (address_count + j)) (desk_of d).blocks))

    pub lock_stays : image_fits s m (step_desk d (lock i)) ≡ true → Steady (world s m (step_desk d (lock i)))
    lock_stays = kept m d (locking (desk_of d) i) refl z.rest bytes_now refl refl refl high (omega arith)

    pub lock_unfit : image_fits s m (step_desk d (lock i)) ≡ false → step s m (step_desk d (lock i)) ≡ refuse BadDesk s m (step_desk d (lock i))
    lock_unfit = unfit m d (locking (desk_of d) i) refl z.rest bytes_now refl refl refl high (omega arith)

  module _ (on : (desk_of d).locked ≢ 0) where
    abbrev l : ℕ
    l = (desk_of d).locked

    abbrev k : ℕ
    k = (desk_of d).transferred

    pub locked_high : l ≤ n
    locked_high = let c = count in let q = z.locked in omega arith

    pub locked_low : 1 ≤ l
    locked_low = omega arith

    stored : BlocksFit s n l
    stored = blocks_of_lem (sound_store ((is_sound_lem Store s).to z.sound) e) l locked_low locked_high

    -- ---- 3
    module _ (c : ℕ) (more : k < blocks_used (size_of s l)) (goes : target_block (image_long s m d) m n (desk_of d).blocks (kth_block s n l k) ≡ Some c) where
      abbrev after : List ℕ
      after = step_image s m d n (copy l k c)

      abbrev notes : List ℕ
      notes = step_desk d (copy l k c)

      free : FreeBy (image_long s m d) m n (desk_of d).blocks c
      free = target_at (image_long s m d) m n (desk_of d).blocks (kth_block s n l k) c goes

      pub copy_apart : Unnamed (image_long s m d) m n c
      copy_apart = by_none (image_long s m d) m n c free.free

      pub few_places : k < most_blocks
      few_places = let w = stored.few in omega arith

      own : image_long s m d l ≡ is_long s l
      own = but_here m l (is_long s l) l refl

      -- a place behind the twelve is a long file's
      pub behind : address_count ≤ k → (image_long s m d l ≡ true) × ((1 ≤ address_block m n l) × (address_block m n l ≤ (desk_of d).blocks))
      behind q =
          let y : is_long s l ≡ true = holds (is_long s l) (λ w. let a = (stored.blocks k more).low in let b = kth_none (is_long s l) s n l k w q in omega arith) in
          let o = further on y q in
          (own ∙ y, (omega arith, steady_address l 11 locked_low locked_high (omega arith)))

      full_block : length (copied_block s d n l k) ≡ block_bytes
      full_block =
          let w = stored.blocks k more in
          let a = w.low in
          let q = w.inside in
          length_copied_block d n l k s (unfold block_of in length_inside s (block_at n (kth_block s n l k)) 64 (omega arith))

      blank : image_long s m d l ≡ true → k ≡ address_place → copied_block s d n l k ≡ replicate block_bytes 0
      blank p q = address_block_lem s d n l k (sym own ∙ p) q

      pub copy_attributes : SameAttributes m after n
      copy_attributes = block_attributes m n c (copied_block s d n l k) l k

      notes_header : desk_of notes ≡ copying_one (desk_of d)
      notes_header = let w = few_places in read after d (copying_one (desk_of d)) refl z.rest bytes_now refl refl refl locked_high (omega arith)

      pub copy_read : (desk_of notes).locked ≡ l
      copy_read = ap (λ (v : Desk). v.locked) notes_header

      pub copy_long : (i : ℕ) → 1 ≤ i → i ≤ n → image_long s after notes i ≡ image_long s m d i
      copy_long i a b = ap (λ (x : ℕ). long_but after x (is_long s x) i) copy_read ∙ (elim (ℕ_discrete i l) as (λ _. long_but after l (is_long s l) i ≡ long_but m l (is_long s l) i) [
        | yes q ↦ but_here after l (is_long s l) i q ∙ sym (but_here m l (is_long s l) i q)
        | no q ↦ but_else after l (is_long s l) i q ∙ same_long m after i (copy_attributes.kinds i a b) (copy_attributes.sizes i a b) ∙ sym (but_else m l (is_long s l) i q)
      ])

      -- what stood at the place
      abbrev old : ℕ
      old = kth_by (image_long s m d l) m n l k

      place : (x : ℕ) → x < most_blocks * n → row_by (image_long s after notes) after n x ≡ kth_by (image_long s m d (x / most_blocks + 1)) after n (x / most_blocks + 1) (x % most_blocks)
      unfolding row_by
      place x u = ap (λ (y : Bool). kth_by y after n (x / 44 + 1) (x % 44)) (copy_long (x / 44 + 1) (omega arith) (omega arith))

      change : (i j : ℕ) → 1 ≤ i → i ≤ n → j < most_blocks → rows.Change (image_long s m d) m n (desk_of d).blocks steady_sized.long l locked_low locked_high k few_places behind c free.low free.high copy_apart (copied_block s d n l k) full_block blank (kth_by (image_long s m d i) after n i j) (kth_by (image_long s m d i) m n i j)
      change = rows.row_change (image_long s m d) m n (desk_of d).blocks steady_sized.long l locked_low locked_high k few_places behind c free.low free.high copy_apart (copied_block s d n l k) full_block blank

      pub copy_new : row_by (image_long s after notes) after n (most_blocks * (l - 1) + k) ≡ c
      copy_new =
          row_kth (image_long s after notes) after n l k locked_low few_places ∙ ap (λ (y : Bool). kth_by y after n l k) (copy_long l locked_low locked_high)
          ∙ rows.row_new (image_long s m d) m n (desk_of d).blocks steady_sized.long l locked_low locked_high k few_places behind c free.low free.high copy_apart (copied_block s d n l k) full_block blank

      -- where nothing stood, c comes and no block goes
      pub copy_rows : kth_by (image_long s m d l) m n l k ≡ 0 → (x : ℕ) → x < most_blocks * n → (row_by (image_long s after notes) after n x ≡ row_by (image_long s m d) m n x) ⊎ ((row_by (image_long s m d) m n x < 1) × (row_by (image_long s after notes) after n x ≡ c))
      unfolding row_by
      copy_rows none x u = rw (place x u) (go (change (x / 44 + 1) (x % 44) (omega arith) (omega arith) (omega arith)))
        where
          go : {y w : ℕ} → (y ≡ w) ⊎ (((y ≡ c) × (w ≡ old)) ⊎ ((y ≡ 0) × (old ≡ 0 → w ≡ 0))) → (y ≡ w) ⊎ ((w < 1) × (y ≡ c))
          go (inl q) = inl q
          go (inr (inl q)) = let r = q.1 in inr (omega arith, q.0)
          go (inr (inr q)) = inl (q.0 ∙ sym (q.1 none))

      within : (x : ℕ) → x < most_blocks * n → row_by (image_long s after notes) after n x ≤ (desk_of d).blocks
      within x u = rw (place x u) (go (kth (x / 44 + 1) (x % 44) (omega arith) (omega arith) (omega arith)) (change (x / 44 + 1) (x % 44) (omega arith) (omega arith) (omega arith)))
        where
          go : {y w : ℕ} → w ≤ (desk_of d).blocks → (y ≡ w) ⊎ (((y ≡ c) × (w ≡ old)) ⊎ ((y ≡ 0) × (old ≡ 0 → w ≡ 0))) → y ≤ (desk_of d).blocks
          go h (inl q) = omega arith
          go h (inr (inl q)) = let r = q.0 in let g = free.high in omega arith
          go h (inr (inr q)) = let r = q.0 in omega arith

      -- the locked inode has its address block in time
      in_time_lem : lacks_addresses s after notes ≡ true → ⊥
      in_time_lem y = go (dec_lt k address_count)
        where
          w : ((desk_of notes).locked ≢ 0) × ((is_long s (desk_of notes).locked ≡ true) × ((address_count ≤ (desk_of notes).transferred) × (address_block after (desk_of notes).inodes (desk_of notes).locked ≡ 0)))
          w = (lacks_is s after notes).to y

          gone : address_block after n l ≡ 0
          gone =
              let a = few_places in
              subst (λ (x : ℕ). address_block after n x ≡ 0) copy_read
              (subst (λ (x : ℕ). address_block after x (desk_of notes).locked ≡ 0) (inodes_read after d (copying_one (desk_of d)) refl z.rest bytes_now refl refl refl locked_high (omega arith)) w.1.1.1)

          go : Dec (k < address_count) → ⊥
          go (yes q) =
              let r = w.1.1.0 in
              let v : (desk_of notes).transferred ≡ k + 1 = ap (λ (v : Desk). v.transferred) notes_header in
              let a : k ≡ 11 = omega arith in
              let b = rows.row_new (image_long s m d) m n (desk_of d).blocks steady_sized.long l locked_low locked_high k few_places behind c free.low free.high copy_apart (copied_block s d n l k) full_block blank in
              let f = kth_direct (image_long s m d l) after n l k q in
              let g = ap (λ (x : ℕ). address_of after n (address_index l x)) a in
              let h = gone in
              let o = free.low in
              omega arith
          go (no q) =
              let b = rows.further_direct (image_long s m d) m n (desk_of d).blocks steady_sized.long l locked_low locked_high k few_places behind c free.low free.high copy_apart (copied_block s d n l k) full_block blank (omega arith) (address_index l 11) (let a = locked_low in let b = locked_high in omega arith) in
              let h = gone in
              let o = (behind (omega arith)).1.0 in
              omega arith

      pub copy_stays : Steady (world s (step_image s m d n (copy (desk_of d).locked (desk_of d).transferred c)) (step_desk d (copy (desk_of d).locked (desk_of d).transferred c)))
      copy_stays =
          let w = few_places in
          kept after d (copying_one (desk_of d)) refl z.rest bytes_now refl refl refl locked_high (omega arith)
          (kept_image after d (copying_one (desk_of d)) refl z.rest bytes_now refl refl refl locked_high (omega arith) copy_attributes.frame within in_time_lem)

      -- an address of the inode's own twelve: what it leaves
      module _ (q : k < address_count) where
        pub copy_bytes : (a : ℕ) → 1 ≤ a → a ≢ c → block_of after n a ≡ block_of m n a
        copy_bytes = rows.direct_bytes (image_long s m d) m n (desk_of d).blocks steady_sized.long l locked_low locked_high k few_places behind c free.low free.high copy_apart (copied_block s d n l k) full_block blank q

        pub copy_else : (x : ℕ) → x < address_count * n → x ≢ address_index l k → address_of after n x ≡ address_of m n x
        copy_else = rows.direct_else (image_long s m d) m n (desk_of d).blocks steady_sized.long l locked_low locked_high k few_places behind c free.low free.high copy_apart (copied_block s d n l k) full_block blank q

    -- ---- 4
    abbrev closed : List ℕ
    closed = step_image s m d n (close l)

    abbrev opened : List ℕ
    opened = step_desk d (close l)

    image_fits_lem : InodeFits m n l
    image_fits_lem = let f = steady_sized.long in record { low = locked_low; high = locked_high; few = few; area = omega arith }

    pub close_inode : InInode m closed n l
    close_inode = rows.in_inode s m n l image_fits_lem

    pub close_kind : kind_of closed l ≡ kind_of s l
    close_kind = rows.new_kind s m n l image_fits_lem

    closed_bytes : (i : ℕ) → 1 ≤ i → i ≤ n → copied_of (put_copied d l 1) i ≤ 1
    closed_bytes i o q = go (ℕ_discrete i l)
      where
        go : Dec (i ≡ l) → copied_of (put_copied d l 1) i ≤ 1
        go (yes y) =
            let f = long in
            let h = locked_high in
            let a : copied_of (put_copied d l 1) i ≡ 1 = ap (copied_of (put_copied d l 1)) y ∙ copied_same d l 1 locked_low (omega arith) in
            omega arith
        go (no y) =
            let a = copied_other d l i 1 locked_low o y in
            let b : copied_of d i ≤ 1 = subst (λ (v : ℕ). copied_of d v ≤ 1) (omega arith) (bytes_now (i - 1) (omega arith)) in
            omega arith

    pub close_read : (desk_of opened).locked ≡ 0
    close_read = ap (λ (v : Desk). v.locked) (read closed (put_copied d l 1) (unlocking (desk_of d)) (length_put_copied d l 1) (reserved_put_copied d l 1 ∙ z.rest) (λ k u. closed_bytes (k + 1) (omega arith) (omega arith)) refl refl refl (omega arith) (omega arith))

    pub close_rows : (x : ℕ) → x < most_blocks * n → row_by (image_long s closed opened) closed n x ≡ row_by (image_long s m d) m n x
    close_rows = rows.close_row s m n l image_fits_lem (desk_of opened).locked (is_long s (desk_of opened).locked) close_read

    pub close_stays : Steady (world s (step_image s m d n (close (desk_of d).locked)) (step_desk d (close (desk_of d).locked)))
    close_stays =
        let h = unlocking (desk_of d) in
        let p = put_copied d l 1 in
        kept closed p h (length_put_copied d l 1) (reserved_put_copied d l 1 ∙ z.rest) (λ k u. closed_bytes (k + 1) (omega arith) (omega arith)) refl refl refl (omega arith) (omega arith)
        (kept_image closed p h (length_put_copied d l 1) (reserved_put_copied d l 1 ∙ z.rest) (λ k u. closed_bytes (k + 1) (omega arith) (omega arith)) refl refl refl (omega arith) (omega arith) close_inode.frame
        (λ x u. let a = close_rows x u in let b = row x u in omega arith)
        (λ y. ((lacks_is s closed opened).to y).0 close_read))

-- ---- a step where 1, 2 and 3 do not come and the copy runs
pub ready_step : (s m d : List ℕ) → Ready (world s m d) → is_running d ≡ true → step s m d ≡ do_step s m d (inodes_in s) (step_of s m d (inodes_in s))
unfolding step
ready_step s m d r t = three_is s m d _ ∙ rw (r.framed, r.desk, r.sound, r.notes, t)
