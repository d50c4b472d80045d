-- A store that is the same at every moment of a list, and the copy that the list finishes. n and b are the counts of inodes and image blocks.
use Prim.Native.Nat.{ℕ, ◌*◌, ◌≤◌, ◌<◌}
use mathlib.Core.Path.{◌≡◌, refl, sym, ap, ◌∙◌, subst}
use mathlib.Core.Logic.{◌≢◌, inl, inr}
use mathlib.Core.Bool.{true, false}
use mathlib.Core.List.{List}
use native.Mathlib.Decide.{ℕ_discrete}
use native.Mathlib.Omega.{arith}
use lib.Dec.{eqb}
use lib.ListN.{length}
use Rattle.bounded.proofs.BoolLaws.{clash, holds_or_fails, same_test}
use Rattle.bounded.proofs.CountLaws.{count_ext}
use Rattle.bounded.proofs.RangeLaws.{within_in}
use Rattle.layout.specs.Sizes.{root_inode}
use Rattle.layout.specs.Inode.{kind_of, links_of, free_kind}
use Rattle.directory.specs.Slot.{most_slots}
use Rattle.sound.specs.Place.{entry_at, filled, naming}
use Rattle.sound.specs.Inode.{InodeSound}
use Rattle.sound.specs.Entry.{EntrySound}
use Rattle.sound.specs.Link.{LinkSound}
use Rattle.sound.specs.Sound.{Sound, inodes_in, blocks_in}
use Rattle.sound.proofs.PlaceLaws.{naming_filled}
use Rattle.sound.specs.declared.Form.{Form}
use Rattle.copy_theory.specs.View.{View, Shelf}
use Rattle.copy_theory.specs.Deed.{Alike}
use Rattle.copy_theory.specs.History.{Spell}
use Rattle.copy_theory.proofs.HistoryLaws.{told_holds}
use Rattle.copy_theory.proofs.EndLaws.{all_honest, kept_there}
use Rattle.copy_theory.proofs.ChainLaws.{tidy_chain}
use Rattle.checkpoint.specs.Live.{World}
use Rattle.checkpoint.specs.List.{Event, run}
use Rattle.checkpoint.specs.Finished.{count_of}
use Rattle.checkpoint.specs.School.{Still, PlaceCopied, InodeCopied, StoreCopied}
use Rattle.checkpoint.proofs.Copy.Seen.{seen, shelf_of}
use Rattle.checkpoint.proofs.Run.Moments.{at, moment_at}
use Rattle.checkpoint.proofs.Run.Going.{Running}
use Rattle.checkpoint.proofs.Run.Finales.{views}
use Rattle.checkpoint.proofs.Run.Lasts.{AlikeIn, store_names, Last}

-- ---- what soundness says of n inodes, of a store or of an image
pub record Parts (s : List ℕ) (n : ℕ) : Type 0 where
  pub blocks : ℕ
  pub inodes : (i : ℕ) → 1 ≤ i → i ≤ n → InodeSound s n blocks i
  pub entries : (p : ℕ) → p < most_slots * n → filled s n p ≡ true → EntrySound s n p
  pub links : (i : ℕ) → 1 ≤ i → i ≤ n → LinkSound s n i

parts_of : (f : Form) (s : List ℕ) (n : ℕ) → Sound f s → inodes_in s ≡ n → Parts s n
parts_of f s n h e = subst (Parts s) e (record { blocks = blocks_in s; inodes = h.inodes; entries = h.entries; links = h.links })

-- a place is filled where it names an inode
filled_same : (s t : List ℕ) (n p : ℕ) → Parts s n → p < most_slots * n → naming t n p ≡ naming s n p → filled s n p ≡ true → filled t n p ≡ true
filled_same s t n p h l e f = let o = (h.entries p l f).low in naming_filled t n p (omega arith)

module _ (b : ℕ) (es : List Event) (w : World) (r : Running (count_of w) b w) (fin : Last (count_of w) es w) (still : Still es w) where
  abbrev n : ℕ
  n = count_of w

  abbrev k : ℕ
  k = length es

  abbrev t : ℕ → View
  t = views n es w

  abbrev s : List ℕ
  s = w.store

  abbrev m : List ℕ
  m = (run es w).image

  in_store : Parts s n
  in_store = parts_of _ s n r.sound refl

  in_copy : Parts m n
  in_copy = parts_of _ m n fin.sound fin.count

  -- the store's view at every moment is the first
  store_at : (j : ℕ) → (at es w j).store ≡ s
  store_at j = still (at es w j) (moment_at es w j)

  shelf_at : (j : ℕ) → (t j).store ≡ (t 0).store
  unfolding seen at
  shelf_at j = ap (shelf_of n) (store_at j)

  names_at : (j p : ℕ) → (t j).store.names p ≡ (t 0).store.names p
  names_at j p = ap (λ (x : Shelf). x.names p) (shelf_at j)

  -- ---- places
  spell : (p : ℕ) → (t k).image.names p ≢ 0 → Spell t k p
  spell p z = all_honest t k (told_holds t n k fin.tells k (omega arith)).1 fin.ended p z

  spell_names : (p : ℕ) → (t k).image.names p ≢ 0 → (t k).image.names p ≡ (t 0).store.names p
  spell_names p z = let x = spell p z in sym (x.names x.entry_at x.from_entry x.entry_to) ∙ names_at x.entry_at p

  seen_names : (p : ℕ) → (t k).image.names p ≡ (t 0).store.names p
  seen_names p = elim (ℕ_discrete ((t k).image.names p) 0) [
    | no z ↦ spell_names p z
    | yes z ↦ elim (ℕ_discrete ((t 0).store.names p) 0) [
      | yes y ↦ z ∙ sym y
      | no y ↦ (kept_there t n k fin.tells fin.ended p (tidy_chain t n k (λ j _ q. names_at j q) fin.tells p y)).1
    ]
  ]

  names_same : (p : ℕ) → p < most_slots * n → naming m n p ≡ naming s n p
  unfolding at
  names_same p l = sym (fin.names p l) ∙ seen_names p ∙ store_names n w p l

  place : (p : ℕ) → p < most_slots * n → PlaceCopied s m n p
  place p l =
      let e = names_same p l in
      record {
        stands = same_test (filled m n p) (filled s n p) (filled_same m s n p in_copy l (sym e)) (filled_same s m n p in_store l e);
        inode = e;
        entry = λ h.
            let o = (in_store.entries p l h).low in
            let a = fin.names p l in
            let x = spell p (λ z. omega arith) in
            fin.entry x.entry_at p x.entry ∙ ap (λ (q : List ℕ). entry_at q n p) (store_at x.entry_at);
      }

  -- ---- inodes
  links_same : (i : ℕ) → 1 ≤ i → i ≤ n → links_of m i ≡ links_of s i
  links_same i l h =
      (in_copy.links i l h).counted
      ∙ count_ext (λ p. eqb (naming m n p) i) (λ p. eqb (naming s n p) i) (most_slots * n) (λ p q. ap (λ (x : ℕ). eqb x i) (names_same p q))
      ∙ sym (in_store.links i l h).counted

  -- an inode in use is copied
  used_copied : (i : ℕ) → 1 ≤ i → i ≤ n → kind_of s i ≢ free_kind → (t k).copied i ≡ true
  unfolding seen shelf_of at
  used_copied i l h u = elim (ℕ_discrete i root_inode) [
    | yes e ↦ rw e fin.ended.root
    | no e ↦
        let q = (fin.tells.tidy 0 (omega arith)).named i (λ z. u (sym (within_in n (kind_of s) i l h) ∙ z)) e in
        let a = seen_names q.0 ∙ q.1 in
        subst (λ (x : ℕ). (t k).copied x ≡ true) a (fin.ended.last q.0 (λ z. omega arith))
  ]

  -- a copied inode is as it was, and one that is not is free
  copied_same : (i : ℕ) → 1 ≤ i → i ≤ n → (t k).copied i ≡ true → AlikeIn n s m i
  unfolding at
  copied_same i l h c =
      let x = (told_holds t n k fin.tells k (omega arith)).1.seen i c in
      fin.alike 0 i l h (subst (λ (y : Shelf). Alike y (t k).image i) (shelf_at x.at) x.inode)

  free_copy : (i : ℕ) → 1 ≤ i → i ≤ n → (t k).copied i ≡ false → kind_of m i ≡ free_kind
  free_copy i l h c = sym (fin.kind i l h) ∙ (told_holds t n k fin.tells k (omega arith)).0.blank i c

  free_store : (i : ℕ) → 1 ≤ i → i ≤ n → (t k).copied i ≡ false → kind_of s i ≡ free_kind
  free_store i l h c = elim (ℕ_discrete (kind_of s i) free_kind) [ yes e ↦ e | no e ↦ absurd (clash ((t k).copied i) (used_copied i l h e) c) ]

  inode : (i : ℕ) → 1 ≤ i → i ≤ n → InodeCopied s m n i
  inode i l h = elim (holds_or_fails ((t k).copied i)) [
    | inl c ↦
        let a = copied_same i l h c in
        record { kind = a.kind; links = links_same i l h; size = a.size; parent = a.parent; bytes = a.bytes }
    | inr c ↦
        let e = free_copy i l h c in
        let u = free_store i l h c in
        let a = (in_copy.inodes i l h).free e in
        let d = (in_store.inodes i l h).free u in
        record { kind = e ∙ sym u; links = links_same i l h; size = a.1.0 ∙ sym d.1.0; parent = a.1.1 ∙ sym d.1.1; bytes = λ z. absurd (omega arith) }
  ]

  pub store_copied : StoreCopied s m
  store_copied = record { count = fin.count; places = place; inodes = inode }
