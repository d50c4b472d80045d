-- What a step has where refusals 1 to 3 do not come and the copy runs. s is the store, m the image, d the desk, n the inode count.
use Prim.Native.Nat.{ℕ, ◌+◌, ◌*◌, ◌/◌, ◌%◌, ◌≤◌, ◌<◌}
use mathlib.Core.Path.{◌≡◌, sym, ap, ◌∙◌, subst}
use mathlib.Core.Logic.{◌≢◌}
use mathlib.Core.Bool.{true, false, not, ◌&&◌}
use mathlib.Core.List.{List}
use native.Mathlib.Omega.{arith}
use borrow.Author.Tests.{eqb-true, eq-eqb, ne_eqb, le-leb}
use lib.Dec.{eqb, leb}
use lib.ListN.{length}
use Rattle.bounded.proofs.BoolLaws.{and-true}
use Rattle.bounded.proofs.ReflectLaws.{r_and, r_le}
use Rattle.layout.specs.Sizes.{most_inodes, most_image_blocks, address_count, most_blocks}
use Rattle.layout.specs.Inode.{address_of, address_index}
use Rattle.blocks.specs.Block.{is_long, address_block, row_by}
use Rattle.blocks.specs.Fits.{Sized, RowsFit}
use Rattle.desk.specs.Sizes.{desk_length, steps_an_inode}
use Rattle.desk.specs.Desk.{desk_of}
use Rattle.desk.specs.declared.Desk.{Desk}
use Rattle.sound.specs.Sound.{inodes_in}
use Rattle.preservation.proofs.StoreLaws.{sound_store}
use Rattle.checkpoint.specs.Fit.{is_running, most_steps, blocks_fit, desk_fits, image_fits, image_long, lacks_addresses}
use Rattle.checkpoint.specs.Live.{world}
use Rattle.checkpoint.specs.List.{Ready}
use Rattle.checkpoint.proofs.Call.LiveLaws.{ready_sound}
use Rattle.checkpoint.proofs.Copy.FitLaws.{desk_framed_is, desk_fits_is, image_fits_is, notes_fit_is}
use Rattle.image.specs.Addressed.{Addressed}
use Rattle.blocks.proofs.LongLaws.{but_else, row_direct, fit_flags}
use Rattle.copier.specs.Held.{Held, Locked, FreeImage, OpenImage}

module _ (s m d : List ℕ) (n : ℕ) (z : Ready (world s m d)) (e : n ≡ inodes_in s) (t : is_running d ≡ true) where
  fits : desk_fits d ≡ true
  fits = ((notes_fit_is s m d).to z.notes).0

  inodes : (desk_of d).inodes ≡ n
  inodes = ((notes_fit_is s m d).to z.notes).1.0 ∙ sym e

  image : image_fits s m d ≡ true
  image = ((notes_fit_is s m d).to z.notes).1.1 t

  few : n ≤ most_inodes
  few = let i = inodes in let f = ((desk_framed_is d).to z.desk).1.0 in omega arith

  long : length d ≡ desk_length n
  long = let i = inodes in let f = ((desk_framed_is d).to z.desk).1.1 in omega arith

  few_blocks : (desk_of d).blocks ≤ most_image_blocks
  unfolding is_running blocks_fit
  few_blocks =
      let q : (desk_of d).state ≡ 1 = eqb-true (desk_of d).state 1 t in
      let w : eqb (desk_of d).state 0 ≡ false = ne_eqb (desk_of d).state 0 (λ v. omega arith) in
      let f : blocks_fit d ≡ true = ((desk_fits_is d).to fits).1.0 in
      let g : leb 1 (desk_of d).blocks && leb (desk_of d).blocks most_image_blocks ≡ true = rw w at f in
      ((r_and (r_le 1 (desk_of d).blocks) (r_le (desk_of d).blocks most_image_blocks)).to g).1

  few_steps : (desk_of d).steps ≤ steps_an_inode * n
  few_steps = let f : (desk_of d).steps ≤ most_steps d = ((desk_fits_is d).to fits).1.1.1.1.1.1.1 in rw (t, inodes) at f

  module _ (h : Desk) (r : h ≡ desk_of d) where
    pub ready_held : Held d n h
    ready_held =
        let i = inodes in
        let l = long in
        let f = few in
        let k = few_steps in
        let q = ap (λ (v : Desk). v.steps) r in
        record { read = r; long = omega arith; steps = omega arith }

    pub ready_locked : h.locked ≢ 0 → Locked s n h
    ready_locked v =
        let q = ap (λ (v : Desk). v.locked) r in
        let i = inodes in
        let l = ((desk_fits_is d).to fits).1.1.1.1.0 in
        record { store = sound_store (ready_sound (world s m d) z) e; low = omega arith; high = omega arith }

  -- ---- the image
  -- no address is above the block count
  row : (x : ℕ) → x < most_blocks * n → row_by (image_long s m d) m n x ≤ (desk_of d).blocks
  row x u =
      let i = inodes in
      let a = ((image_fits_is s m d).to image).1.1.1.1.1.0 x (omega arith) in
      subst (λ (y : ℕ). row_by (image_long s m d) m y x ≤ (desk_of d).blocks) i a

  address : (x : ℕ) → x < address_count * n → address_of m n x ≤ (desk_of d).blocks
  address x u =
      let a = row_direct (image_long s m d) m n x in
      let k = row (44 * (x / 12) + x % 12) (omega arith) in
      omega arith

  sized : Sized m n (desk_of d).blocks
  sized =
      let i = inodes in
      let f = few in
      let l = ((image_fits_is s m d).to image).0 in
      record { inodes = omega arith; blocks = few_blocks; long = omega arith }

  addressed : Addressed m n
  addressed =
      let l = sized.long in
      let k = few_blocks in
      record {
        few = few;
        area = omega arith;
        most = λ x u. let a = address x u in omega arith;
        inside = λ x u. let a = address x u in omega arith;
      }

  rows : RowsFit (image_long s m d) m n
  rows =
      let l = sized.long in
      let k = few_blocks in
      record {
        few = few;
        area = omega arith;
        most = λ x u. let a = row x u in omega arith;
        inside = λ i a b _ q. let w = address (address_index i 11) (omega arith) in omega arith;
      }

  -- with nothing locked each inode is long by its own size
  free_rows_lem : (desk_of d).locked ≡ 0 → RowsFit (is_long m) m n
  free_rows_lem v = fit_flags (image_long s m d) (is_long m) m n (λ i l. sym (but_else m (desk_of d).locked (is_long s (desk_of d).locked) i (λ z. omega arith))) rows

  -- the locked inode has its address block in time
  further : (desk_of d).locked ≢ 0 → is_long s (desk_of d).locked ≡ true → address_count ≤ (desk_of d).transferred → address_block m n (desk_of d).locked ≢ 0
  unfolding lacks_addresses
  further a b c e =
      let w : address_block m (desk_of d).inodes (desk_of d).locked ≡ 0 = subst (λ (y : ℕ). address_block m y (desk_of d).locked ≡ 0) (sym inodes) e in
      ((image_fits_is s m d).to image).1.1.1.1.1.1
      (and-true _ _ (ap not (ne_eqb (desk_of d).locked 0 a)) (and-true _ _ b (and-true _ _ (le-leb 12 (desk_of d).transferred c) (eq-eqb (address_block m (desk_of d).inodes (desk_of d).locked) 0 w))))

  module _ (h : Desk) (r : h ≡ desk_of d) where
    pub ready_free : h.locked ≡ 0 → FreeImage m n h
    ready_free v =
        let q = ap (λ (y : Desk). y.blocks) r in
        let w = ap (λ (y : Desk). y.locked) r in
        let k = few_blocks in
        record { most = omega arith; addressed = addressed; rows = free_rows_lem (omega arith) }

    pub ready_open : h.locked ≢ 0 → OpenImage s m n h
    ready_open v = let q = ap (λ (y : Desk). y.locked) r in rw r (record { sized = sized; addressed = addressed; rows = rows; further = further (λ y. v (q ∙ y)) })
