-- What the theory of a running copy sees of the three buffers: no layout, no names' rules, no refusals. All functions are total, and 0 out of range.
use Rattle.std.specs.Prelude.{ℕ, ◌≤◌, ◌<◌, ◌≡◌, ◌≢◌, Bool, false, List}
use Rattle.bounded.specs.Climb.{Leads}
use Rattle.octets.specs.Octets.{part}
use Rattle.layout.specs.Sizes.{root_inode}
use Rattle.layout.specs.Inode.{free_kind, directory_kind}
use Rattle.names.specs.Name.{name_bytes}
use Rattle.names.specs.Entry.{name_at, same_name}
use Rattle.sound.specs.Place.{dir_of}

-- a store or an image: at each place the inode that its entry names, 0 where there is none, and the entry; of each inode kind, parent, size and, a file's, bytes
pub record Shelf : Type 0 where
  pub names : ℕ → ℕ
  pub entry : ℕ → List ℕ
  pub kind : ℕ → ℕ
  pub parent : ℕ → ℕ
  pub size : ℕ → ℕ
  pub bytes : ℕ → List ℕ

-- both, with the marks of places, the copied inodes and the locked one, 0 for none
pub record View : Type 0 where
  pub store : Shelf
  pub image : Shelf
  pub marked : ℕ → Bool
  pub copied : ℕ → Bool
  pub locked : ℕ

-- what soundness says of n inodes and their entries: a tree, and names that differ in a directory
pub record Tidy (n : ℕ) (x : Shelf) : Type 0 where
  pub high : (p : ℕ) → x.names p ≤ n
  pub used : (p : ℕ) → x.names p ≢ 0 → x.kind (x.names p) ≢ free_kind
  pub not_root : (p : ℕ) → x.names p ≢ root_inode
  pub inside : (p : ℕ) → x.names p ≢ 0 → x.kind (dir_of p) ≡ directory_kind
  pub one : (p q : ℕ) → x.names p ≢ 0 → x.names p ≡ x.names q → x.kind (x.names p) ≡ directory_kind → p ≡ q
  pub home : (p : ℕ) → x.names p ≢ 0 → x.kind (x.names p) ≡ directory_kind → x.parent (x.names p) ≡ dir_of p
  pub differ : (p q : ℕ) → p < q → dir_of p ≡ dir_of q → x.names p ≢ 0 → x.names q ≢ 0 → same_name (x.entry p) (part (x.entry q) name_at name_bytes) ≡ false
  pub root : x.kind root_inode ≡ directory_kind
  pub root_parent : x.parent root_inode ≡ 0
  pub named : (i : ℕ) → x.kind i ≢ free_kind → i ≢ root_inode → (p : ℕ) × (x.names p ≡ i)
  pub leads : (i : ℕ) → x.kind i ≡ directory_kind → Leads x.parent root_inode i
