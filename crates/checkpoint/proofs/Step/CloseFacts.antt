-- The step that closes the locked inode: what it leaves of image and desk, and what the inode then is in the image. l is the locked inode.
use Prim.Native.Nat.{ℕ, ◌+◌, ◌*◌, ◌/◌, ◌%◌, ◌≤◌, ◌<◌}
use mathlib.Core.Path.{◌≡◌, refl, sym, ap, ◌∙◌, subst}
use mathlib.Core.Logic.{◌≢◌}
use mathlib.Core.Bool.{Bool, true}
use mathlib.Core.List.{List}
use native.Mathlib.Decide.{ℕ_discrete}
use native.Mathlib.Omega.{arith}
use borrow.Author.Tests.{ltb-true}
use lib.Dec.{eqb, ltb}
use lib.ListN.{length, get_or}
use Rattle.bounded.proofs.BoolLaws.{clash, and_right}
use Rattle.bounded.specs.Update.{Changed, here, there}
use Rattle.bounded.proofs.CaseLaws.{each_else}
use Rattle.octets.proofs.PartLaws.{length_inside}
use Rattle.layout.specs.Sizes.{address_place, most_blocks, block_bytes, most_direct_bytes}
use Rattle.layout.specs.Inode.{kind_of, size_of, parent_of, inode_of, free_kind, file_kind, directory_kind, with_links}
use Rattle.blocks.specs.Block.{block_of, blocks_used, bytes_place, is_long, kth_by, kth_block, bytes_block, row_by}
use Rattle.ledger.proofs.BytesLaws.{place_used, place_bytes}
use Rattle.blocks.proofs.LongLaws.{but_here}
use Rattle.checkpoint.specs.Fit.{image_long}
use Rattle.layout.specs.Fits.{InodeFits}
use Rattle.directory.specs.Slot.{slots, entry_of}
use Rattle.desk.specs.declared.Desk.{Desk}
use Rattle.desk.specs.Desk.{desk_of, copied_of, put_copied, mark_of, is_copied}
use Rattle.desk.specs.Next.{unlocking}
use Rattle.desk.proofs.DeskLaws.{length_put_desk, length_put_copied, desk_put_desk, reserved_put_desk, reserved_put_copied, copied_put_desk, copied_same, copied_other, mark_put_desk, mark_put_copied}
use Rattle.sound.specs.Inode.{InodeSound}
use Rattle.sound.specs.Sound.{blocks_in}
use Rattle.sound.specs.Counted.{SoundStore}
use Rattle.preservation.proofs.SameLaws.{InInode, NewInode}
use Rattle.preservation.proofs.KeepLaws.{body_of, inode_kept}
use Rattle.preservation.proofs.StoreLaws.{dir_of_lem, blocks_of_lem, dir_short}
use Rattle.checkpoint.specs.Copier.{close, copied_block, step_image, step_desk}
use Rattle.checkpoint.proofs.Copy.Laid.{DeskLaid, Open, Laid}
use Rattle.checkpoint.proofs.Copy.SeenLaws.{copied_is, copied_like}
use Rattle.checkpoint.proofs.Step.RowChange as rows
use Rattle.checkpoint.proofs.Step.PasteLaws.{pasted, file_block, slot_pasted}

-- the locked inode, in use in a sound store, has all its blocks copied
pub record Closing (n b : ℕ) (s m d : List ℕ) : Type 0 where
  pub laid : Laid n b s m d
  pub sound : SoundStore s n (blocks_in s)
  pub on : (desk_of d).locked ≢ 0
  pub used : kind_of s (desk_of d).locked ≢ free_kind
  pub all : blocks_used (size_of s (desk_of d).locked) ≤ (desk_of d).transferred

module _ {n b : ℕ} {s m d : List ℕ} (c : Closing n b s m d) where
  abbrev l : ℕ
  l = (desk_of d).locked

  -- image and desk after the step
  abbrev m' : List ℕ
  m' = step_image s m d n (close l)

  abbrev d' : List ℕ
  d' = step_desk d (close l)

  pub lock : Open n b s m d l (desk_of d).transferred
  lock = c.laid.opened c.on

  pub low : 1 ≤ l
  low = lock.low

  pub high : l ≤ n
  high = c.laid.desk.high

  pub full : (desk_of d).transferred ≡ blocks_used (size_of s l)
  full = let a = lock.few in let e = c.all in omega arith

  -- ---- the desk
  long : length (put_copied d l 1) ≡ 16 + 9 * n
  long = length_put_copied d l 1 ∙ c.laid.desk.long

  pub desk_closed : desk_of d' ≡ unlocking (desk_of d)
  desk_closed = let e = long in desk_put_desk (put_copied d l 1) (unlocking (desk_of d)) (omega arith)

  copied_new : copied_of d' l ≡ 1
  copied_new =
      let e = c.laid.desk.long in
      let a = high in
      copied_put_desk (put_copied d l 1) (unlocking (desk_of d)) l ∙ copied_same d l 1 low (omega arith)

  copied_else : (i : ℕ) → 1 ≤ i → i ≢ l → copied_of d' i ≡ copied_of d i
  copied_else i o z = copied_put_desk (put_copied d l 1) (unlocking (desk_of d)) i ∙ copied_other d l i 1 low o z

  pub copied_closed : (i : ℕ) → Changed (is_copied d n) l true i (is_copied d' n i)
  copied_closed i = elim (ℕ_discrete i l) as (λ _. Changed (is_copied d n) l true i (is_copied d' n i)) [
    | yes e ↦ here e (ap (is_copied d' n) e ∙ copied_is d' n l low high copied_new)
    | no e ↦ there e (copied_like d d' n i (λ o _. copied_else i o e))
  ]

  pub marks_closed : (i t : ℕ) → mark_of d' n i t ≡ mark_of d n i t
  marks_closed i t = mark_put_desk (put_copied d l 1) (unlocking (desk_of d)) n i t ∙ mark_put_copied d n l i t 1 low high

  pub desk_laid : DeskLaid n b d'
  desk_laid =
      let e = desk_closed in
      let f = c.laid.desk in
      record {
        long = length_put_desk (put_copied d l 1) (unlocking (desk_of d)) ∙ long;
        inodes = ap (λ (v : Desk). v.inodes) e ∙ f.inodes;
        blocks = ap (λ (v : Desk). v.blocks) e ∙ f.blocks;
        state = ap (λ (v : Desk). v.state) e ∙ f.state;
        reserved = reserved_put_desk (put_copied d l 1) (unlocking (desk_of d)) ∙ reserved_put_copied d l 1 ∙ f.reserved;
        bytes = λ i o q. each_else (λ i. 1 ≤ i → i ≤ n → copied_of d' i ≤ 1) l i (λ _ _. let z = copied_new in omega arith) (λ z _ _. subst (λ (y : ℕ). y ≤ 1) (sym (copied_else i o z)) (f.bytes i o q)) o q;
        high = let z = ap (λ (v : Desk). v.locked) e in omega arith;
        none = λ _. ap (λ (v : Desk). v.transferred) e;
      }

  -- ---- the image
  pub fits : InodeFits m n l
  fits = let f = c.laid.frame in let e = f.long in record { low = low; high = high; few = f.most_inodes_lem; area = omega arith }

  pub in_inode : InInode m m' n l
  in_inode = rows.in_inode s m n l fits

  pub new : NewInode m' l (with_links (inode_of s n l) 0)
  new = rows.new_inode_lem s m n l fits

  pub new_kind : kind_of m' l ≡ kind_of s l
  new_kind = rows.new_kind s m n l fits

  pub new_size : size_of m' l ≡ size_of s l
  new_size = rows.new_size s m n l fits

  pub new_parent : parent_of m' l ≡ parent_of s l
  new_parent = new.parent ∙ (unfold inode_of in refl)

  -- it is long by its size now, as it was by the store's
  pub long_after : (i : ℕ) → 1 ≤ i → i ≤ n → is_long m' i ≡ image_long s m d i
  long_after = rows.long_after s m n l fits

  pub same_blocks : (i : ℕ) → 1 ≤ i → i ≤ n → (k : ℕ) → k < most_blocks → kth_block m' n i k ≡ kth_by (image_long s m d i) m n i k
  same_blocks = rows.same_blocks s m n l fits

  own_block : (k : ℕ) → k < most_blocks → kth_block m' n l k ≡ kth_by (is_long s l) m n l k
  own_block k a = same_blocks l low high k a ∙ ap (λ (w : Bool). kth_by w m n l k) (but_here m l (is_long s l) l refl)

  -- with nothing locked any more the row is what it was
  pub close_row : (x : ℕ) → x < most_blocks * n → row_by (image_long s m' d') m' n x ≡ row_by (image_long s m d) m n x
  close_row = rows.close_row s m n l fits (desk_of d').locked (is_long s (desk_of d').locked) (ap (λ (v : Desk). v.locked) desk_closed)

  pub long_over : is_long s l ≡ true → most_direct_bytes < size_of s l
  unfolding is_long
  long_over e = ltb-true most_direct_bytes (size_of s l) (and_right (eqb (kind_of s l) file_kind) (ltb most_direct_bytes (size_of s l)) e)

  pub few : blocks_used (size_of s l) ≤ most_blocks
  few = (blocks_of_lem c.sound l low high).few

  store : InodeSound s n (blocks_in s) l
  store = (body_of c.sound).inodes l low high

  -- its blocks
  pub new_block : (k : ℕ) → k < blocks_used (size_of s l) → (is_long s l ≡ true → k ≢ address_place) → block_of m' n (kth_block m' n l k) ≡ copied_block s d n l k
  new_block k u y =
      let f = few in
      let e = full in
      ap (block_of m' n) (own_block k (omega arith)) ∙ in_inode.bytes (kth_by (is_long s l) m n l k) ∙ lock.blocks k (omega arith) y

  pub file_same : kind_of s l ≡ file_kind → (k : ℕ) → k < blocks_used (size_of s l) → (is_long s l ≡ true → k ≢ address_place) → block_of m' n (kth_block m' n l k) ≡ block_of s n (kth_block s n l k)
  file_same e k u f = new_block k u f ∙ file_block s d n l k (λ z. let y = sym e ∙ z in omega arith) f

  pub entry_new : kind_of s l ≡ directory_kind → (t : ℕ) → t < slots s l → entry_of m' n l t ≡ pasted d n l t (entry_of s n l t)
  unfolding slots
  entry_new e t u =
      let r = (dir_of_lem c.sound l (record { low = low; high = high; kind = e })).blocks (t / 4) (omega arith) in
      let a = r.low in
      let i = r.inside in
      slot_pasted s m' d n l t e (unfold block_of in length_inside s _ block_bytes (omega arith)) (new_block (t / 4) (omega arith) (λ y. absurd (clash (is_long s l) y (dir_short s l e))))

  tail : kind_of m' l ≡ file_kind → (size_of m' l % block_bytes ≡ 0 → ⊥) → (o : ℕ) → o < block_bytes → size_of m' l % block_bytes ≤ o → get_or (block_of m' n (bytes_block m' n l (size_of m' l / block_bytes))) o 0 ≡ 0
  tail k q o u w =
      let z = new_size in
      let e : kind_of s l ≡ file_kind = sym new_kind ∙ k in
      let p = bytes_place (size_of s l) (size_of s l / block_bytes) in
      ap (λ (y : ℕ). get_or (block_of m' n (kth_block m' n l (bytes_place y (y / block_bytes)))) o 0) z
      ∙ ap (λ (y : List ℕ). get_or y o 0) (file_same e p (place_used (size_of s l) (size_of s l / block_bytes) (omega arith)) (λ y. place_bytes (size_of s l) (size_of s l / block_bytes) (long_over y)))
      ∙ store.tail e (λ y. q (omega arith)) o u (omega arith)

  new_sound : InodeSound m' n b l
  new_sound =
      let a = new_kind in
      let z = new_size in
      let u = c.used in
      let r = store in
      let e = full in
      let w : blocks_used (size_of m' l) ≡ blocks_used (size_of s l) = ap blocks_used z in
      record {
        kind = rw a r.kind;
        spare = new.spare;
        free = λ k. absurd (u (sym a ∙ k));
        size = rw (z, a) r.size;
        used = λ k f g. rw (own_block k f) (lock.named k f (omega arith));
        rest = λ k f g. own_block k f ∙ lock.rest k f (omega arith);
        directory = λ k. ap (λ (y : ℕ). y % block_bytes) z ∙ r.directory (sym a ∙ k);
        tail = tail;
        parent = λ k. new_parent ∙ r.parent (sym a ∙ k);
      }

  pub inodes_sound : (i : ℕ) → 1 ≤ i → i ≤ n → InodeSound m' n b i
  inodes_sound i o q =
      each_else (λ i. 1 ≤ i → i ≤ n → InodeSound m' n b i) l i (λ _ _. new_sound)
      (λ z x y. inode_kept m m' n b i (in_inode.others i x y z) (λ _ _. in_inode.bytes _) (c.laid.inodes i x y z)) o q
