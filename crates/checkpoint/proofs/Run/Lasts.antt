-- The end of a list that finishes its copy: its last view, as the theory has it and in bytes. n and b are the counts of inodes and image blocks.
use Prim.Native.Nat.{ℕ, ◌*◌, ◌≤◌, ◌<◌}
use mathlib.Core.Path.{◌≡◌, sym, ap, ◌∙◌, subst}
use mathlib.Core.List.{List}
use lib.ListN.{length}
use Rattle.bounded.proofs.RangeLaws.{within_in, below_in}
use Rattle.layout.specs.Inode.{kind_of, size_of, parent_of, file_kind}
use Rattle.directory.specs.Slot.{most_slots}
use Rattle.desk.specs.Sizes.{finished}
use Rattle.desk.specs.Desk.{desk_of}
use Rattle.sound.specs.Place.{entry_at, naming}
use Rattle.sound.specs.Sound.{Sound, inodes_in}
use Rattle.sound.specs.declared.Form.TheVariants.{Image}
use Rattle.content.specs.Content.{file_bytes}
use Rattle.copy_theory.specs.View.{View}
use Rattle.copy_theory.specs.Deed.{Alike}
use Rattle.copy_theory.specs.Holds.{Fresh, Ended}
use Rattle.copy_theory.specs.History.{Recorded}
use Rattle.checkpoint.specs.Copier.{finish_image}
use Rattle.checkpoint.specs.Live.{World}
use Rattle.checkpoint.specs.List.{Event, advances, next, run}
use Rattle.checkpoint.proofs.Copy.Seen.{seen, shelf_of}
use Rattle.checkpoint.proofs.Step.FinishSeen.{finish_inodes}
use Rattle.checkpoint.proofs.Run.Moments.{at, at_end}
use Rattle.checkpoint.proofs.Run.Going.{seen_in}
use Rattle.checkpoint.proofs.Run.Ends.{finals}
use Rattle.checkpoint.proofs.Run.Finales.{views, Finale, told}

-- ---- what the view says of the bytes
module _ (n : ℕ) (w : World) where
  pub store_names : (p : ℕ) → p < most_slots * n → (seen_in n w).store.names p ≡ naming w.store n p
  unfolding seen shelf_of
  store_names p l = below_in (most_slots * n) (naming w.store n) p l

  image_names : (p : ℕ) → p < most_slots * n → (seen_in n w).image.names p ≡ naming w.image n p
  unfolding seen shelf_of
  image_names p l = below_in (most_slots * n) (naming w.image n) p l

  pub store_kind : (i : ℕ) → 1 ≤ i → i ≤ n → (seen_in n w).store.kind i ≡ kind_of w.store i
  unfolding seen shelf_of
  store_kind i l m = within_in n (kind_of w.store) i l m

  image_kind : (i : ℕ) → 1 ≤ i → i ≤ n → (seen_in n w).image.kind i ≡ kind_of w.image i
  unfolding seen shelf_of
  image_kind i l m = within_in n (kind_of w.image) i l m

-- an inode of the image is alike one of a store: in bytes
pub record AlikeIn (n : ℕ) (s m : List ℕ) (i : ℕ) : Type 0 where
  pub kind : kind_of m i ≡ kind_of s i
  pub size : size_of m i ≡ size_of s i
  pub parent : parent_of m i ≡ parent_of s i
  pub bytes : kind_of s i ≡ file_kind → file_bytes m n i 0 (size_of m i) ≡ file_bytes s n i 0 (size_of s i)

alike_in : (n : ℕ) (v w : World) (i : ℕ) → 1 ≤ i → i ≤ n → Alike (seen_in n v).store (seen_in n w).image i → AlikeIn n v.store w.image i
unfolding seen shelf_of
alike_in n v w i l m a = record {
  kind = sym (within_in n (kind_of w.image) i l m) ∙ a.kind ∙ within_in n (kind_of v.store) i l m;
  size = sym (within_in n (size_of w.image) i l m) ∙ a.size ∙ within_in n (size_of v.store) i l m;
  parent = sym (within_in n (parent_of w.image) i l m) ∙ a.parent ∙ within_in n (parent_of v.store) i l m;
  bytes = λ e. a.bytes (within_in n (kind_of v.store) i l m ∙ e);
}

-- ---- what such a list leaves
pub record Last (n : ℕ) (es : List Event) (w : World) : Type 0 where
  pub tells : Recorded (views n es w) n (length es)
  pub ended : Ended (views n es w (length es))
  -- the image in the last view
  pub names : (p : ℕ) → p < most_slots * n → (views n es w (length es)).image.names p ≡ naming (run es w).image n p
  pub kind : (i : ℕ) → 1 ≤ i → i ≤ n → (views n es w (length es)).image.kind i ≡ kind_of (run es w).image i
  pub entry : (j p : ℕ) → (views n es w (length es)).image.entry p ≡ (views n es w j).store.entry p → entry_at (run es w).image n p ≡ entry_at (at es w j).store n p
  pub alike : (j i : ℕ) → 1 ≤ i → i ≤ n → Alike (views n es w j).store (views n es w (length es)).image i → AlikeIn n (at es w j).store (run es w).image i
  pub sound : Sound Image (run es w).image
  pub count : inodes_in (run es w).image ≡ n
  pub state : (desk_of (run es w).desk).state ≡ finished

module _ (n b : ℕ) (es : List Event) (w : World) (fr : Fresh (seen_in n w)) (f : Finale n b es w) where
  abbrev k : ℕ
  k = length es

  abbrev t : ℕ → View
  t = views n es w

  abbrev v : World
  v = run es w

  last_view : t k ≡ seen_in n v
  last_view = ap (seen_in n) (at_end es w)

  ended_last : Ended (seen_in n (next advances f.before))
  ended_last =
      let q = (finals n b f.before f.runs f.finishes).quiet in
      let e = f.finishes.ended in
      record {
        root = q.copied _ ∙ e.root;
        last = λ p z. let h = q.names p in rw h (q.copied ((seen_in n f.before).image.names p) ∙ e.last p (λ y. z (h ∙ y)));
      }

  entry_last : (j p : ℕ) → (t k).image.entry p ≡ (t j).store.entry p → entry_at v.image n p ≡ entry_at (at es w j).store n p
  unfolding seen shelf_of
  entry_last j p e = ap (λ (x : World). entry_at x.image n p) (sym (at_end es w)) ∙ e

  image_last : v.image ≡ finish_image f.before.image n b
  image_last = ap (λ (x : World). x.image) f.is ∙ (finals n b f.before f.runs f.finishes).image

  pub last_of : Last n es w
  last_of = record {
    tells = told n b es w fr f;
    ended = subst Ended (sym (last_view ∙ ap (seen_in n) f.is)) ended_last;
    names = λ p l. ap (λ (x : View). x.image.names p) last_view ∙ image_names n v p l;
    kind = λ i l m. ap (λ (x : View). x.image.kind i) last_view ∙ image_kind n v i l m;
    entry = entry_last;
    alike = λ j i l m a. alike_in n (at es w j) v i l m (subst (λ (x : View). Alike (t j).store x.image i) last_view a);
    sound = rw image_last (finals n b f.before f.runs f.finishes).sound;
    count = ap inodes_in image_last ∙ finish_inodes f.runs.laid;
    state = ap (λ (x : World). (desk_of x.desk).state) f.is ∙ (finals n b f.before f.runs f.finishes).state;
  }
