-- What one event does to the view: a file call, a lock, the closing of the locked inode, or nothing that is seen here.
use Rattle.std.specs.Prelude.{ℕ, ◌≤◌, ◌≡◌, ◌≢◌, ◌⊎◌, true, false}
use Rattle.bounded.specs.Update.{Changed}
use Rattle.layout.specs.Sizes.{root_inode}
use Rattle.layout.specs.Inode.{free_kind, file_kind}
use Rattle.sound.specs.Place.{dir_of}
use Rattle.copy_theory.specs.View.{Shelf, View}

-- inode i of y is as that of x was, a file with its bytes
pub record Alike (x y : Shelf) (i : ℕ) : Type 0 where
  pub kind : y.kind i ≡ x.kind i
  pub parent : y.parent i ≡ x.parent i
  pub size : y.size i ≡ x.size i
  pub bytes : x.kind i ≡ file_kind → y.bytes i ≡ x.bytes i

-- ---- a file call
-- an entry is taken out of place q. "If unlink or move takes inode i .. d is copied, i is not .. and image slot s of d names i, those 16 image bytes become zero"
pub data Cut (v w : View) (q : ℕ) : Type 0 where
  cut : w.image.names q ≡ 0 → v.copied (v.image.names q) ≡ false → Cut v w q
  kept : w.image.names q ≡ v.image.names q → (v.image.names q ≡ v.store.names q → v.copied (v.store.names q) ≡ false → ⊥) → Cut v w q

-- place q: its entry stays, goes, or comes, or another takes its place in one call
pub data Turn (v w : View) (q : ℕ) : Type 0 where
  stays : w.store.names q ≡ v.store.names q → w.marked q ≡ v.marked q → w.image.names q ≡ v.image.names q → Turn v w q
  goes : v.store.names q ≢ 0 → v.store.names q ≢ v.locked → w.store.names q ≡ 0 → Cut v w q → Turn v w q
  comes : v.store.names q ≡ 0 → w.marked q ≡ true → w.image.names q ≡ v.image.names q → Turn v w q
  swaps : v.store.names q ≢ 0 → v.store.names q ≢ v.locked → w.store.names q ≢ v.store.names q → w.marked q ≡ true → Cut v w q → Turn v w q

pub record Called (v w : View) : Type 0 where
  pub turn : (q : ℕ) → Turn v w q
  -- an inode in use keeps its kind or is freed
  pub kinds : (i : ℕ) → v.store.kind i ≢ free_kind → (w.store.kind i ≡ v.store.kind i) ⊎ (w.store.kind i ≡ free_kind)
  pub entries : (q : ℕ) → w.image.names q ≢ 0 → w.image.entry q ≡ v.image.entry q
  pub inodes : (i : ℕ) → Alike v.image w.image i
  pub copied : (i : ℕ) → w.copied i ≡ v.copied i
  pub locked : w.locked ≡ v.locked

-- ---- a step
-- store, image, marks and copied inodes are as they were
pub record Quiet (v w : View) : Type 0 where
  pub store : w.store ≡ v.store
  pub names : (q : ℕ) → w.image.names q ≡ v.image.names q
  pub entries : (q : ℕ) → v.image.names q ≢ 0 → w.image.entry q ≡ v.image.entry q
  pub inodes : (i : ℕ) → Alike v.image w.image i
  pub marked : (q : ℕ) → w.marked q ≡ v.marked q
  pub copied : (i : ℕ) → w.copied i ≡ v.copied i

-- the root, or an inode that the image names, is locked
pub record Locked (n : ℕ) (v w : View) (l : ℕ) : Type 0 where
  pub quiet : Quiet v w
  pub none : v.locked ≡ 0
  pub now : w.locked ≡ l
  pub low : 1 ≤ l
  pub high : l ≤ n
  pub new : v.copied l ≡ false
  pub by : (l ≡ root_inode) ⊎ ((p : ℕ) × (v.image.names p ≡ l))

-- place q of the image, when the locked inode l is closed: "a marked entry that names a copied inode is zeroed"
pub data Pasted (v w : View) (l q : ℕ) : Type 0 where
  elsewhere : dir_of q ≢ l → w.image.names q ≡ v.image.names q → (v.image.names q ≢ 0 → w.image.entry q ≡ v.image.entry q) → Pasted v w l q
  skipped : dir_of q ≡ l → v.marked q ≡ true → v.copied (v.store.names q) ≡ true → w.image.names q ≡ 0 → Pasted v w l q
  taken : dir_of q ≡ l → (v.marked q ≡ true → v.copied (v.store.names q) ≡ true → ⊥) → w.image.names q ≡ v.store.names q
      → (v.store.names q ≢ 0 → w.image.entry q ≡ v.store.entry q) → Pasted v w l q

-- the locked inode l is whole in the image
pub record Closed (v w : View) (l : ℕ) : Type 0 where
  pub real : l ≢ 0
  pub was : v.locked ≡ l
  pub now : w.locked ≡ 0
  pub store : w.store ≡ v.store
  pub slots : (q : ℕ) → Pasted v w l q
  pub whole : Alike v.store w.image l
  pub others : (i : ℕ) → i ≢ l → Alike v.image w.image i
  pub marked : (q : ℕ) → w.marked q ≡ v.marked q
  pub copied : (i : ℕ) → Changed v.copied l true i (w.copied i)

pub data Deed (n : ℕ) (v w : View) : Type 0 where
  called : Called v w → Deed n v w
  locks : (l : ℕ) → Locked n v w l → Deed n v w
  closes : (l : ℕ) → Closed v w l → Deed n v w
  rests : Quiet v w → w.locked ≡ v.locked → Deed n v w
