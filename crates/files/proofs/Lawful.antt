-- What an effect does to a sound store: the laws that hold of every call's, and that a running copy needs. n is the inode count.
use Prim.Native.Nat.{ℕ, ◌*◌, ◌≤◌, ◌<◌}
use mathlib.Core.Path.{◌≡◌}
use mathlib.Core.Logic.{◌≢◌, ◌⊎◌}
use mathlib.Core.Bool.{true, false}
use mathlib.Core.List.{List, [], ◌∷◌}
use Rattle.bounded.proofs.EachLaws.{All}
use Rattle.layout.specs.Inode.{kind_of, size_of, free_kind, file_kind}
use Rattle.blocks.specs.Block.{blocks_used, kth_block}
use Rattle.directory.specs.Slot.{most_slots}
use Rattle.sound.specs.Place.{filled, naming}
use Rattle.sound.specs.Sound.{Sound}
use Rattle.sound.specs.declared.Form.TheVariants.{Store}
use Rattle.preservation.proofs.SameLaws.{SameFrame, SameInode, SameBody, same_body, SameBlock}
use Rattle.files.specs.Effect.{Entry, place_in, Effect, Planned, refused, does}

-- j is none of them; place q is the place of none
abbrev pub Apart : ℕ → List ℕ → Type 0
Apart j is = All (λ i. j ≢ i) is

abbrev pub Away : ℕ → List Entry → Type 0
Away q ys = All (λ y. q ≢ place_in y) ys

-- no two of them stand at one place
abbrev pub Distinct : List Entry → Type 0
Distinct [] = Unit {0}
Distinct (y ∷ ys) = Away (place_in y) ys × Distinct ys

-- the entry stands in s
pub record Stands (s : List ℕ) (n : ℕ) (y : Entry) : Type 0 where
  pub low : 1 ≤ y.directory
  pub high : y.directory ≤ n
  pub small : y.slot < most_slots
  pub stands : filled s n (place_in y) ≡ true
  pub names : naming s n (place_in y) ≡ y.inode

-- place q names what it named, by whatever name
pub record SameNaming (s t : List ℕ) (n q : ℕ) : Type 0 where
  pub stands : filled t n q ≡ filled s n q
  pub names : naming t n q ≡ naming s n q

-- inode j and the bytes of its blocks
pub record Stays (s t : List ℕ) (n j : ℕ) : Type 0 where
  pub inode : SameInode s t n j
  pub bytes : (k : ℕ) → k < blocks_used (size_of s j) → SameBlock s t n (kth_block s n j k)

-- file j's size, and the numbers and bytes of its blocks
pub record Keeps (s t : List ℕ) (n j : ℕ) : Type 0 where
  pub body : SameBody s t n j
  pub bytes : (k : ℕ) → k < blocks_used (size_of s j) → SameBlock s t n (kth_block s n j k)

pub stays_keeps : {s t : List ℕ} {n j : ℕ} → Stays s t n j → Keeps s t n j
stays_keeps a = record { body = same_body a.inode; bytes = a.bytes }

pub record Lawful (s : List ℕ) (n : ℕ) (x : Effect) : Type 0 where
  pub sound : Sound Store x.store
  pub frame : SameFrame s x.store
  -- a taken entry stood, and its place is empty unless it is filled anew; a made entry stands, and its place was empty unless it was taken from
  pub stood : All (Stands s n) x.taken
  pub gone : All (λ y. Away (place_in y) x.made → filled x.store n (place_in y) ≡ false) x.taken
  pub stands : All (Stands x.store n) x.made
  pub bare : All (λ y. Away (place_in y) x.taken → filled s n (place_in y) ≡ false) x.made
  -- no two entries are taken from one place, and a place that is filled anew names another inode
  pub distinct : Distinct x.taken
  pub swaps : All (λ y. All (λ z. place_in y ≡ place_in z → z.inode ≢ y.inode) x.made) x.taken
  -- all other places name what they named
  pub others : (q : ℕ) → q < most_slots * n → Away q x.taken → Away q x.made → SameNaming s x.store n q
  -- an inode in use keeps its kind or is freed
  pub kinds : (j : ℕ) → 1 ≤ j → j ≤ n → kind_of s j ≢ free_kind → (kind_of x.store j ≡ kind_of s j) ⊎ (kind_of x.store j ≡ free_kind)
  -- one that is not touched stays, with its bytes, and no entry in it is made or taken, nor any that names it taken
  pub untouched : (j : ℕ) → 1 ≤ j → j ≤ n → kind_of s j ≢ free_kind → Apart j x.touches → Stays s x.store n j
  -- a file that is not written, and still in use, keeps its size and its bytes
  pub contents : (j : ℕ) → 1 ≤ j → j ≤ n → kind_of s j ≡ file_kind → kind_of x.store j ≢ free_kind → Apart j x.writes → Keeps s x.store n j
  pub apart : (j : ℕ) → Apart j x.touches → All (λ y. (j ≢ y.directory) × (j ≢ y.inode)) x.taken × All (λ y. j ≢ y.directory) x.made

-- Q holds of the effect, if there is one
abbrev pub Each : (Effect → Type 0) → Planned → Type 0
Each Q (does x) = Q x
Each Q (refused e) = Unit {0}
