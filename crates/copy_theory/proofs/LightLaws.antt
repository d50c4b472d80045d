-- A deed closes the locked inode or is light: a file call, or a step that leaves image and store alone.
use Prim.Native.Nat.{ℕ}
use mathlib.Core.Path.{◌≡◌, sym, ◌∙◌}
use mathlib.Core.Logic.{◌≢◌, ◌⊎◌, inl, inr}
use mathlib.Core.Bool.{true, false}
use Rattle.bounded.proofs.BoolLaws.{clash}
use Rattle.layout.specs.Inode.{free_kind}
use Rattle.copy_theory.specs.View.{Shelf, View}
use Rattle.copy_theory.specs.Deed.{Alike, cut, kept, Turn, stays, goes, comes, swaps, Called, Quiet, Closed, Deed, called, locks, closes, rests}

pub alike_on : {x y z : Shelf} {i : ℕ} → Alike x y i → Alike y z i → Alike x z i
alike_on a b = record {
  kind = b.kind ∙ a.kind;
  parent = b.parent ∙ a.parent;
  size = b.size ∙ a.size;
  bytes = λ k. b.bytes (a.kind ∙ k) ∙ a.bytes k;
}

pub record Light (v w : View) : Type 0 where
  pub turn : (q : ℕ) → Turn v w q
  pub kinds : (i : ℕ) → v.store.kind i ≢ free_kind → (w.store.kind i ≡ v.store.kind i) ⊎ (w.store.kind i ≡ free_kind)
  pub entries : (q : ℕ) → w.image.names q ≢ 0 → w.image.entry q ≡ v.image.entry q
  pub inodes : (i : ℕ) → Alike v.image w.image i
  pub copied : (i : ℕ) → w.copied i ≡ v.copied i

pub light_called : {v w : View} → Called v w → Light v w
light_called e = record { turn = e.turn; kinds = e.kinds; entries = e.entries; inodes = e.inodes; copied = e.copied }

pub light_quiet : {v w : View} → Quiet v w → Light v w
light_quiet {v} {w} e = record {
  turn = λ q. stays (cc) (e.marked q) (e.names q);
  kinds = λ i z. inl (cc);
  entries = λ q z. e.entries q (λ x. z (e.names q ∙ x));
  inodes = e.inodes;
  copied = e.copied;
}

pub light_or_closed : {n : ℕ} {v w : View} → Deed n v w → Light v w ⊎ ((l : ℕ) × Closed v w l)
light_or_closed (called e) = inl (light_called e)
light_or_closed (locks l e) = inl (light_quiet e.quiet)
light_or_closed (closes l e) = inr (l, e)
light_or_closed (rests e u) = inl (light_quiet e)

-- what a light deed keeps
module _ {v w : View} (e : Light v w) where
  -- an image entry that is there was there
  pub name_was : (q : ℕ) → w.image.names q ≢ 0 → w.image.names q ≡ v.image.names q
  name_was q z = elim (e.turn q) [
    | stays a b c ↦ c
    | goes a b c (cut r u) ↦ absurd (z r)
    | goes a b c (kept r u) ↦ r
    | comes a b c ↦ c
    | swaps a b c d (cut r u) ↦ absurd (z r)
    | swaps a b c d (kept r u) ↦ r
  ]

  -- one that names a copied inode stays
  pub name_stays : (q : ℕ) → v.copied (v.image.names q) ≡ true → w.image.names q ≡ v.image.names q
  name_stays q k = elim (e.turn q) [
    | stays a b c ↦ c
    | goes a b c (cut r u) ↦ absurd (clash _ k u)
    | goes a b c (kept r u) ↦ r
    | comes a b c ↦ c
    | swaps a b c d (cut r u) ↦ absurd (clash _ k u)
    | swaps a b c d (kept r u) ↦ r
  ]

  -- where one is left that names an uncopied inode, the store's is left too
  pub stands_on : (q : ℕ) → v.store.names q ≡ v.image.names q → v.copied (v.image.names q) ≡ false → w.image.names q ≢ 0 → w.store.names q ≡ v.store.names q
  stands_on q s k z = elim (e.turn q) [
    | stays a b c ↦ a
    | goes a b c (cut r u) ↦ absurd (z r)
    | goes a b c (kept r u) ↦ absurd (u (sym s) (cc))
    | comes a b c ↦ absurd (z (cc))
    | swaps a b c d (cut r u) ↦ absurd (z r)
    | swaps a b c d (kept r u) ↦ absurd (u (sym s) (cc))
  ]

  -- an unmarked entry of the store was there, unmarked
  pub old_was : (q : ℕ) → w.store.names q ≢ 0 → w.marked q ≡ false → (w.store.names q ≡ v.store.names q) × (v.marked q ≡ false)
  old_was q z m = elim (e.turn q) [
    | stays a b c ↦ (a, sym b ∙ m)
    | goes a b c d ↦ absurd (z c)
    | comes a b c ↦ absurd (clash _ b m)
    | swaps a b c d e ↦ absurd (clash _ d m)
  ]

  -- a copied inode was copied
  pub copied_was : (i : ℕ) → w.copied i ≡ true → v.copied i ≡ true
  copied_was i k = sym (e.copied i) ∙ k
