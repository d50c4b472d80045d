-- What the writers of an inode leave of it, of the others and of the places. n is the inode count.
use Prim.Native.Nat.{ℕ, ◌*◌, ◌≤◌, ◌<◌}
use mathlib.Core.Path.{◌≡◌, sym, ap, ◌∙◌}
use mathlib.Core.Bool.{Bool}
use mathlib.Core.List.{List}
use native.Mathlib.Omega.{arith}
use Rattle.bounded.proofs.CaseLaws.{each_else}
use Rattle.layout.specs.Inode.{spare_of, links_of, parent_of, inode_of, put_attributes, put_links, with_parent}
use Rattle.blocks.specs.Block.{is_long, kth_by, kth_block}
use Rattle.layout.specs.Fits.{InodeFits}
use Rattle.directory.specs.Slot.{most_slots}
use Rattle.sound.specs.Place.{dir_of}
use Rattle.preservation.proofs.SameLaws.{SameBody, InInode, same_body, same_long, put_links_lem, links_body, put_attributes_lem, attributes_blocks, attributes_new}
use Rattle.preservation.proofs.KeepLaws.{SamePlace, place_kept}

-- inode i alone changes, in its links or its parent
pub record Relinked (s t : List ℕ) (n i : ℕ) : Type 0 where
  pub inode : InInode s t n i
  pub body : SameBody s t n i

pub body_all : {s t : List ℕ} {n i : ℕ} → Relinked s t n i → (j : ℕ) → 1 ≤ j → j ≤ n → SameBody s t n j
body_all {s} {t} {n} {i} a j l m = each_else (SameBody s t n) i j a.body (λ z. same_body (a.inode.others j l m z))

pub relinked_places : {s t : List ℕ} {n i : ℕ} → Relinked s t n i → (q : ℕ) → q < most_slots * n → SamePlace s t n q
relinked_places {s} {t} {n} a q l = place_kept s t n q (body_all a (dir_of q) (omega arith) (omega arith)) (λ k _ _. a.inode.bytes (kth_block s n (dir_of q) k))

-- ---- the two writers
module _ (s : List ℕ) (n i : ℕ) (f : InodeFits s n i) where
  pub links_relinked : (v : ℕ) → Relinked s (put_links s i v) n i
  links_relinked v = record { inode = put_links_lem s n i f v; body = links_body s n i f v }

  -- a directory with another parent; "a zero byte" is kept by zero
  module _ (e : ℕ) (zero : spare_of s i ≡ 0) where
    abbrev v : List ℕ
    v = put_attributes s i (with_parent (inode_of s n i) e)

    pub parent_relinked : Relinked s v n i
    unfolding inode_of
    parent_relinked =
        let r = attributes_new s n i f (with_parent (inode_of s n i) e) in
        record {
          inode = put_attributes_lem s n i f (with_parent (inode_of s n i) e);
          body = record { kind = r.kind; spare = r.spare ∙ sym zero; size = r.size; blocks = λ k l. ap (λ (x : Bool). kth_by x v n i k) (same_long s v i r.kind r.size) ∙ attributes_blocks s n i f (with_parent (inode_of s n i) e) (is_long s i) k l };
        }

    pub parent_links : links_of v i ≡ links_of s i
    unfolding inode_of
    parent_links = (attributes_new s n i f (with_parent (inode_of s n i) e)).links

    pub parent_put : parent_of v i ≡ e
    parent_put = (attributes_new s n i f (with_parent (inode_of s n i) e)).parent
