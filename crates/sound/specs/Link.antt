-- What the entries of all directories say of each inode. n is the inode count, i is from 1 to n.
use Rattle.std.specs.Prelude.{ℕ, ◌*◌, ◌≤◌, ◌≡◌, List}
use Rattle.bounded.specs.Count.{tally}
use Rattle.bounded.specs.Climb.{Leads}
use Rattle.layout.specs.Sizes.{root_inode}
use Rattle.layout.specs.Inode.{kind_of, links_of, parent_of, free_kind, directory_kind}
use Rattle.directory.specs.Slot.{most_slots}
use Rattle.sound.specs.Place.{naming}

pub record LinkSound (s : List ℕ) (n i : ℕ) : Type 0 where
  -- "Link counts equal the entries naming the inode (root 0)."
  pub counted : links_of s i ≡ tally (naming s n) (most_slots * n) i
  -- "Entries name every inode in use but the root"
  pub named : (kind_of s i ≡ free_kind → ⊥) → (i ≡ root_inode → ⊥) → 1 ≤ links_of s i
  -- "A directory has one entry"
  pub one : kind_of s i ≡ directory_kind → (i ≡ root_inode → ⊥) → links_of s i ≡ 1
  -- "parents lead to root"
  pub leads : kind_of s i ≡ directory_kind → Leads (parent_of s) root_inode i
