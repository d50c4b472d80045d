-- A sound store is tidy: what the theory of a running copy asks of it. n is the inode count.
use Prim.Native.Nat.{ℕ, ◌*◌, ◌≤◌, ◌<◌}
use mathlib.Core.Path.{◌≡◌, refl, sym, ap, ◌∙◌, subst}
use mathlib.Core.Logic.{◌≢◌}
use mathlib.Core.Bool.{false}
use mathlib.Core.List.{List}
use native.Mathlib.Decide.{ℕ_discrete}
use native.Mathlib.Omega.{arith}
use Rattle.bounded.proofs.CountLaws.{met_at}
use Rattle.octets.specs.Octets.{part}
use Rattle.layout.specs.Sizes.{root_inode}
use Rattle.layout.specs.Inode.{kind_of, parent_of, free_kind, directory_kind}
use Rattle.names.specs.Name.{name_bytes}
use Rattle.names.specs.Entry.{name_at, same_name}
use Rattle.directory.specs.Slot.{most_slots}
use Rattle.sound.specs.Place.{dir_of, naming}
use Rattle.sound.specs.Entry.{same_names}
use Rattle.sound.specs.Sound.{Sound, inodes_in}
use Rattle.sound.proofs.PlaceLaws.{naming_filled}
use Rattle.sound.specs.declared.Form.TheVariants.{Store}
use Rattle.preservation.proofs.StoreLaws.{sound_store}
use Rattle.preservation.proofs.TreeLaws.{Tree, Names, Dir, entry_one, leads_same}
use Rattle.preservation.proofs.SoundTreeLaws.{nodes_of, names_at, above_at, tree_at}
use Rattle.copy_theory.specs.View.{Tidy}
use Rattle.checkpoint.proofs.Copy.Seen.{shelf_of}
use Rattle.checkpoint.proofs.Copy.SeenLaws.{names_in, names_below, names_low, entry_in, kind_some, kind_in, parent_in}

module _ (s : List ℕ) (n : ℕ) (h : Sound Store s) (x : n ≡ inodes_in s) where
  tree : Tree n (nodes_of s n)
  tree = tree_at (sound_store h x)

  -- an entry at place p
  module _ (p : ℕ) (e : (shelf_of n s).names p ≢ 0) where
    at : (shelf_of n s).names p ≡ naming s n p
    at = names_in n s p (names_below n s p e)

    names : Names n (nodes_of s n) (naming s n p) (dir_of p)
    names = tree.names p (names_below n s p e) (names_low n s p e)

    kind : (shelf_of n s).kind ((shelf_of n s).names p) ≡ kind_of s (naming s n p)
    kind = ap (shelf_of n s).kind at ∙ kind_in n s (naming s n p) (names_low n s p e) names.high

    parent : (shelf_of n s).parent ((shelf_of n s).names p) ≡ parent_of s (naming s n p)
    parent = ap (shelf_of n s).parent at ∙ parent_in n s (naming s n p) (names_low n s p e) names.high

  high : (p : ℕ) → (shelf_of n s).names p ≤ n
  high p = go (ℕ_discrete ((shelf_of n s).names p) 0)
    where
      go : Dec ((shelf_of n s).names p ≡ 0) → (shelf_of n s).names p ≤ n
      go (yes e) = omega arith
      go (no e) = subst (λ (y : ℕ). y ≤ n) (sym (at p e)) (names p e).high

  named : (i : ℕ) → (shelf_of n s).kind i ≢ free_kind → i ≢ root_inode → (p : ℕ) × ((shelf_of n s).names p ≡ i)
  named i k o =
      let b = kind_some n s i k in
      let r = tree.linked i b.0 b.1 in
      let c = r.named (λ z. k (kind_in n s i b.0 b.1 ∙ z)) o in
      let w = met_at (naming s n) (most_slots * n) i (omega (arith, r.counted)) in
      (w.0, names_in n s w.0 w.1 ∙ w.2)

  dir : (i : ℕ) → (shelf_of n s).kind i ≡ directory_kind → Dir n (nodes_of s n) i
  dir i k =
      let b = kind_some n s i (λ z. let y = sym k ∙ z in omega arith) in
      record { low = b.0; high = b.1; kind = sym (kind_in n s i b.0 b.1) ∙ k }

  differ : (p q : ℕ) → p < q → dir_of p ≡ dir_of q → (shelf_of n s).names p ≢ 0 → (shelf_of n s).names q ≢ 0 → same_name ((shelf_of n s).entry p) (part ((shelf_of n s).entry q) name_at name_bytes) ≡ false
  unfolding same_names
  differ p q l d e f =
      rw (entry_in n s p, entry_in n s q)
      ((names_at (sound_store h x)).differ p q (names_below n s p e) (names_below n s q f) d l (naming_filled s n p (names_low n s p e)) (naming_filled s n q (names_low n s q f)))

  pub store_tidy : Tidy n (shelf_of n s)
  store_tidy =
      let some = h.framed.some_inodes in
      let l : 1 ≤ n = omega arith in
      record {
        high = high;
        used = λ p e z. (names p e).used (sym (kind p e) ∙ z);
        not_root = λ p z. let e : (shelf_of n s).names p ≢ 0 = λ y. omega arith in (names p e).not_root (sym (at p e) ∙ z);
        inside = λ p e. let m = names_below n s p e in kind_in n s (dir_of p) (omega arith) (omega arith) ∙ above_at (sound_store h x) p m (names_low n s p e);
        one = λ p q e z k.
            let f : (shelf_of n s).names q ≢ 0 = λ y. e (z ∙ y) in
            entry_one n (nodes_of s n) tree (naming s n p) p q (names_low n s p e) (names p e).high (sym (kind p e) ∙ k) (names_below n s p e) (names_below n s q f) refl (sym (at q f) ∙ sym z ∙ at p e);
        home = λ p e k. parent p e ∙ (names p e).parent (sym (kind p e) ∙ k);
        differ = differ;
        root = kind_in n s root_inode (omega arith) l ∙ tree.root;
        root_parent = parent_in n s root_inode (omega arith) l ∙ tree.root_parent;
        named = named;
        leads = λ i k. leads_same n (nodes_of s n) tree (above_at (sound_store h x)) (shelf_of n s).parent (λ y d. parent_in n s y d.low d.high) i (dir i k);
      }
