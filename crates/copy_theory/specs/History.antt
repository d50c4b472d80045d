-- What holds of a running copy over time: t j is the view at moment j, 0 the one just after the start.
use Rattle.std.specs.Prelude.{ℕ, suc, ◌≤◌, ◌<◌, ◌≡◌, ◌≢◌, true, false}
use Rattle.layout.specs.Sizes.{root_inode}
use Rattle.sound.specs.Place.{dir_of}
use Rattle.copy_theory.specs.View.{View, Tidy}
use Rattle.copy_theory.specs.Deed.{Alike, Deed}
use Rattle.copy_theory.specs.Holds.{Fresh}

module _ (t : ℕ → View) where
  -- place p names i at every moment from a to b
  abbrev pub Names : ℕ → ℕ → ℕ → ℕ → Type 0
  Names a b p i = (m : ℕ) → a ≤ m → m ≤ b → (t m).store.names p ≡ i

  -- a copy's history up to moment k
  pub record Recorded (n k : ℕ) : Type 0 where
    pub fresh : Fresh (t 0)
    pub tidy : (j : ℕ) → j ≤ k → Tidy n (t j).store
    pub deeds : (j : ℕ) → j < k → Deed n (t j) (t (suc j))

  -- the image's entry at p at moment j is of a time from a to b in which the store's named the same inode without a break: with its bytes at x, and the inode as at y
  pub record Spell (j p : ℕ) : Type 0 where
    pub from : ℕ
    pub to : ℕ
    pub entry_at : ℕ
    pub inode_at_lem : ℕ
    pub past : to ≤ j
    pub from_entry : from ≤ entry_at
    pub entry_to : entry_at ≤ to
    pub from_inode : from ≤ inode_at_lem
    pub inode_to : inode_at_lem ≤ to
    pub names : Names from to p ((t j).image.names p)
    pub entry : (t j).image.entry p ≡ (t entry_at).store.entry p
    pub inode : Alike (t inode_at_lem).store (t j).image ((t j).image.names p)

  -- the image's entry at p names an inode that is still to be copied: since a the store's has named it
  pub record Waits (j p : ℕ) : Type 0 where
    pub from : ℕ
    pub past : from ≤ j
    pub names : Names from j p ((t j).image.names p)
    pub entry : (t j).image.entry p ≡ (t from).store.entry p

  -- inode i of the image at moment j is that of one moment: as it was then; wherever the image names it, the store named it then; and whatever the image has in it, a directory, stood in it then
  pub record Seen (j i : ℕ) : Type 0 where
    pub at : ℕ
    pub past : at ≤ j
    pub inode : Alike (t at).store (t j).image i
    pub links : (p : ℕ) → (t j).image.names p ≡ i → (t at).store.names p ≡ i
    pub slots : (p : ℕ) → dir_of p ≡ i → (t j).image.names p ≢ 0 → ((t at).store.names p ≡ (t j).image.names p) × ((t j).image.entry p ≡ (t at).store.entry p)

  -- at moment j
  pub record Since (j : ℕ) : Type 0 where
    -- an unmarked entry has stood since the start
    pub old : (p : ℕ) → (t j).marked p ≡ false → (t j).store.names p ≢ 0 → Names 0 j p ((t j).store.names p)
    pub seen : (i : ℕ) → (t j).copied i ≡ true → Seen j i
    pub waits : (p : ℕ) → (t j).image.names p ≢ 0 → (t j).copied ((t j).image.names p) ≡ false → Waits j p
    pub spells : (p : ℕ) → (t j).image.names p ≢ 0 → (t j).copied ((t j).image.names p) ≡ true → Spell j p

  -- place p held one entry up to moment j: it names one inode throughout
  abbrev pub Stood : ℕ → ℕ → Type 0
  Stood j p = ((t 0).store.names p ≢ 0) × Names 0 j p ((t 0).store.names p)

  -- it and the entries above it, up to the root's
  pub data Chain (j : ℕ) : ℕ → Type 0 where
    top : {p : ℕ} → Stood j p → dir_of p ≡ root_inode → Chain j p
    below : {p q : ℕ} → Stood j p → (t 0).store.names q ≡ dir_of p → Chain j q → Chain j p

  -- an entry that stood is in the image
  pub record Keeps (j p : ℕ) : Type 0 where
    pub unmarked : (t j).marked p ≡ false
    pub held : (t j).store.names p ≡ (t 0).store.names p
    pub there : (t j).copied (dir_of p) ≡ true → (t j).image.names p ≡ (t 0).store.names p
