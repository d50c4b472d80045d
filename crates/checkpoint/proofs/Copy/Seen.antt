-- What the theory of a running copy sees of the three buffers. n is the inode count.
use Prim.Native.Nat.{ℕ, ◌*◌}
use mathlib.Core.Bool.{Bool, false}
use mathlib.Core.List.{List}
use lib.Dec.{ltb}
use Rattle.bounded.specs.Search.{pick}
use Rattle.bounded.proofs.RangeLaws.{within, below}
use Rattle.layout.specs.Inode.{kind_of, size_of, parent_of}
use Rattle.directory.specs.Slot.{most_slots}
use Rattle.desk.specs.Desk.{desk_of, mark_of, is_copied}
use Rattle.sound.specs.Place.{dir_of, slot_of, entry_at, naming}
use Rattle.content.specs.Content.{file_bytes}
use Rattle.copy_theory.specs.View.{Shelf, View}

unfoldable pub shelf_of : ℕ → List ℕ → Shelf
shelf_of n s = record {
  names = below (most_slots * n) (naming s n);
  entry = λ p. entry_at s n p;
  kind = within n (kind_of s);
  parent = within n (parent_of s);
  size = within n (size_of s);
  bytes = λ i. file_bytes s n i 0 (size_of s i);
}

-- place p of the desk's marks
unfoldable pub marked_at : ℕ → List ℕ → ℕ → Bool
marked_at n d p = pick (ltb p (most_slots * n)) (mark_of d n (dir_of p) (slot_of p)) false

unfoldable pub seen : ℕ → List ℕ → List ℕ → List ℕ → View
seen n s m d = record {
  store = shelf_of n s;
  image = shelf_of n m;
  marked = marked_at n d;
  copied = is_copied d n;
  locked = (desk_of d).locked;
}
