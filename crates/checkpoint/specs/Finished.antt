-- What a finished copy is, told by the moments of its list. es are the events from the world w on, f is the finished copy, p a place.
use Rattle.std.specs.Prelude.{ℕ, ◌*◌, ◌≤◌, ◌<◌, ◌≡◌, true, List, [], ◌∷◌, ◌++◌}
use Rattle.layout.specs.Inode.{kind_of, size_of, free_kind, file_kind}
use Rattle.names.specs.Entry.{entry_name}
use Rattle.directory.specs.Slot.{most_slots}
use Rattle.desk.specs.Sizes.{finished}
use Rattle.desk.specs.Desk.{desk_of}
use Rattle.sound.specs.Sound.{Sound, inodes_in}
use Rattle.sound.specs.Place.{dir_of, entry_at, filled, naming}
use Rattle.sound.specs.declared.Form.TheVariants.{Image}
use Rattle.content.specs.Content.{file_bytes}
use Rattle.checkpoint.specs.Live.{World}
use Rattle.checkpoint.specs.List.{Event, next, run, Moment, Kept}

-- the inode count of the world's store
abbrev pub count_of : World → ℕ
count_of w = inodes_in w.store

-- ---- moments
-- "with a name it had": one that the slot held at a moment
pub record HadName (es : List Event) (w : World) (f : List ℕ) (p : ℕ) : Type 0 where
  pub moment : World
  pub in_time_lem : Moment es w moment
  pub held : filled moment.store (count_of moment) p ≡ true
  pub name : entry_name (entry_at f (count_of w) p) ≡ entry_name (entry_at moment.store (count_of moment) p)

-- file i of f, of n inodes, has the size and the bytes that it has in s, of m
pub record SameContent (f : List ℕ) (n : ℕ) (s : List ℕ) (m i : ℕ) : Type 0 where
  pub size : size_of f i ≡ size_of s i
  pub bytes : file_bytes f n i 0 (size_of f i) ≡ file_bytes s m i 0 (size_of f i)

-- "size and bytes are of one moment"
pub record HadBytes (es : List Event) (w : World) (f : List ℕ) (i : ℕ) : Type 0 where
  pub moment : World
  pub in_time_lem : Moment es w moment
  pub kind : kind_of moment.store i ≡ file_kind
  pub content : SameContent f (count_of w) moment.store (count_of moment) i

-- i had the copy's kind at a moment
pub record HadKind (es : List Event) (w : World) (f : List ℕ) (i : ℕ) : Type 0 where
  pub moment : World
  pub in_time_lem : Moment es w moment
  pub kind : kind_of f i ≡ kind_of moment.store i

-- ---- demand 3's first sentence: "in the same slot of the same directory, for the same inode, with a name it had and, for a file, the bytes of one moment in that time"
pub record InCopy (es : List Event) (w : World) (f : List ℕ) (p : ℕ) : Type 0 where
  pub stands : filled f (count_of w) p ≡ true
  pub inode : naming f (count_of w) p ≡ naming w.store (count_of w) p
  pub kind : kind_of f (naming f (count_of w) p) ≡ kind_of w.store (naming w.store (count_of w) p)
  pub name : HadName es w f p
  pub file : kind_of w.store (naming w.store (count_of w) p) ≡ file_kind → HadBytes es w f (naming w.store (count_of w) p)

-- ---- and nothing false: whatever stands in the copy stood in the store
-- place p of the store holds an entry that names i
pub record Names (w : World) (p i : ℕ) : Type 0 where
  pub stands : filled w.store (count_of w) p ≡ true
  pub inode : naming w.store (count_of w) p ≡ i

-- it does so at every moment, from w on through the events
unfoldable pub Throughout : List Event → World → ℕ → ℕ → Type 0
Throughout [] w p i = Names w p i
Throughout (e ∷ es) w p i = Names w p i × Throughout es (next e w) p i

-- an entry of the copy belongs to a time in which the store's slot named its inode without a break: in that time the slot held its name, and the inode had its kind and, a file, its size and bytes.
-- So no file has bytes that were not its own.
pub record Honest (es : List Event) (w : World) (f : List ℕ) (p : ℕ) : Type 0 where
  pub before : List Event
  pub during : List Event
  pub after : List Event
  pub parts : es ≡ before ++ (during ++ after)
  pub named : Throughout during (run before w) p (naming f (count_of w) p)
  pub name : HadName during (run before w) f p
  pub kind : HadKind during (run before w) f (naming f (count_of w) p)
  pub file : kind_of f (naming f (count_of w) p) ≡ file_kind → HadBytes during (run before w) f (naming f (count_of w) p)

-- one moment for each inode of the copy: then it had the copy's kind and, a file, its size and bytes; every entry of the copy that names it named it in the store; and whatever the copy has in it, a directory, stood in it.
-- So no reused number poses as a hard link, nor as the directory that it was before.
pub record OneMoment (es : List Event) (w : World) (f : List ℕ) (i : ℕ) : Type 0 where
  pub moment : World
  pub in_time_lem : Moment es w moment
  pub kind : kind_of f i ≡ kind_of moment.store i
  pub file : kind_of f i ≡ file_kind → SameContent f (count_of w) moment.store (count_of moment) i
  pub links : (p : ℕ) → p < most_slots * count_of w → filled f (count_of w) p ≡ true → naming f (count_of w) p ≡ i → Names moment p i
  pub slots : (p : ℕ) → p < most_slots * count_of w → filled f (count_of w) p ≡ true → dir_of p ≡ i
      → Names moment p (naming f (count_of w) p) × (entry_at f (count_of w) p ≡ entry_at moment.store (count_of moment) p)

-- ---- "A copy finished as under 3 is sound", has every kept entry, and nothing false; the desk says that it is finished. w is the world just after the opening start, es the events up to the finish
pub record Finished (es : List Event) (w : World) (f desk : List ℕ) : Type 0 where
  pub count : inodes_in f ≡ count_of w
  pub sound : Sound Image f
  pub entries : (p : ℕ) → Kept es w p → InCopy es w f p
  pub honest : (p : ℕ) → p < most_slots * count_of w → filled f (count_of w) p ≡ true → Honest es w f p
  pub moments : (i : ℕ) → 1 ≤ i → i ≤ count_of w → (kind_of f i ≡ free_kind → ⊥) → OneMoment es w f i
  pub state : (desk_of desk).state ≡ finished
