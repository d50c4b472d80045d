-- What holds at every moment of a running copy, of the view alone.
use Rattle.std.specs.Prelude.{ℕ, ◌≤◌, ◌<◌, ◌≡◌, ◌≢◌, ◌⊎◌, Bool, true, false}
use Rattle.octets.specs.Octets.{part}
use Rattle.layout.specs.Sizes.{root_inode}
use Rattle.layout.specs.Inode.{free_kind, directory_kind}
use Rattle.names.specs.Name.{name_bytes}
use Rattle.names.specs.Entry.{name_at, same_name}
use Rattle.sound.specs.Place.{dir_of}
use Rattle.copy_theory.specs.View.{View, Tidy}

-- x leads to the root by parents that are all copied: it was copied after them
pub data Led (copied : ℕ → Bool) (parent : ℕ → ℕ) : ℕ → Type 0 where
  root : Led copied parent root_inode
  up : (x : ℕ) → copied x ≡ true → Led copied parent (parent x) → Led copied parent x

-- the locked inode
pub record LockHolds (n : ℕ) (v : View) : Type 0 where
  pub high : v.locked ≤ n
  pub new : v.copied v.locked ≡ false
  -- it is in use, and the image names it: so it is not lost while its blocks are copied
  pub used : v.store.kind v.locked ≢ free_kind
  pub by : (v.locked ≡ root_inode) ⊎ ((p : ℕ) × (v.image.names p ≡ v.locked))

pub record Holds (n : ℕ) (v : View) : Type 0 where
  pub tidy : Tidy n v.store
  pub lock : v.locked ≢ 0 → LockHolds n v
  -- attributes: the image has those of the copied inodes alone
  pub blank : (i : ℕ) → v.copied i ≡ false → v.image.kind i ≡ free_kind
  pub real : (i : ℕ) → v.copied i ≡ true → v.image.kind i ≢ free_kind
  pub zero_not : v.copied 0 ≡ false
  pub root : v.copied root_inode ≡ true → (v.image.kind root_inode ≡ directory_kind) × (v.image.parent root_inode ≡ 0)
  -- an image entry stands in a directory of the image, and names an inode that is not the root
  pub inside : (p : ℕ) → v.image.names p ≢ 0 → v.image.kind (dir_of p) ≡ directory_kind
  pub high : (p : ℕ) → v.image.names p ≤ n
  pub not_root : (p : ℕ) → v.image.names p ≢ root_inode
  -- stands: one that names an uncopied inode is still that entry in the store
  pub stands : (p : ℕ) → v.image.names p ≢ 0 → v.copied (v.image.names p) ≡ false → v.store.names p ≡ v.image.names p
  -- names in an image directory differ: they were copied while it was locked
  pub differ : (p q : ℕ) → p < q → dir_of p ≡ dir_of q → v.image.names p ≢ 0 → v.image.names q ≢ 0 → same_name (v.image.entry p) (part (v.image.entry q) name_at name_bytes) ≡ false
  -- named: every copied inode but the root is named by the image; a copied directory by one entry, in its image parent, which was copied before it
  pub named : (i : ℕ) → v.copied i ≡ true → i ≢ root_inode → (p : ℕ) × (v.image.names p ≡ i)
  pub one : (p q : ℕ) → v.image.names p ≢ 0 → v.image.names p ≡ v.image.names q → v.image.kind (v.image.names p) ≡ directory_kind → p ≡ q
  pub home : (p : ℕ) → v.image.names p ≢ 0 → v.image.kind (v.image.names p) ≡ directory_kind → v.image.parent (v.image.names p) ≡ dir_of p
  pub led : (i : ℕ) → v.image.kind i ≡ directory_kind → Led v.copied v.image.parent i
  -- an unmarked entry that names a copied directory lies in a copied one: so a directory never gets a second entry
  pub old : (p : ℕ) → v.store.names p ≢ 0 → v.marked p ≡ false → v.image.kind (v.store.names p) ≡ directory_kind → v.copied (dir_of p) ≡ true

-- just after a start
pub record Fresh (v : View) : Type 0 where
  pub locked : v.locked ≡ 0
  pub copied : (i : ℕ) → v.copied i ≡ false
  pub marked : (p : ℕ) → v.marked p ≡ false
  pub names : (p : ℕ) → v.image.names p ≡ 0
  pub kind : (i : ℕ) → v.image.kind i ≡ free_kind

-- nothing is left to copy
pub record Ended (v : View) : Type 0 where
  pub root : v.copied root_inode ≡ true
  pub last : (p : ℕ) → v.image.names p ≢ 0 → v.copied (v.image.names p) ≡ true
