-- What the demands come to in words that a school would use. w is the world just after the opening start, es the events up to the finish, s the store then, f the finished copy.
use Rattle.std.specs.Prelude.{ℕ, ◌*◌, ◌≤◌, ◌<◌, ◌≡◌, Bool, true, false, ◌&&◌, ◌||◌, List, [], ◌∷◌, eqb}
use Rattle.layout.specs.Inode.{kind_of, links_of, size_of, parent_of, file_kind}
use Rattle.directory.specs.Slot.{most_slots}
use Rattle.sound.specs.Place.{entry_at, filled, naming}
use Rattle.sound.specs.Sound.{inodes_in}
use Rattle.content.specs.Content.{file_bytes}
use Rattle.files.specs.Effect.{Call, on_planned, plain_decision}
use Rattle.checkpoint.specs.Live.{World}
use Rattle.checkpoint.specs.List.{Event, call, starts, on_event, next, accepted, run, Moment, Finish, Kept}
use Rattle.checkpoint.specs.Finished.{count_of}

-- of every list from an accepted start to the finish of its copy
abbrev pub AtFinish : (List Event → World → Type 0) → Type 0
AtFinish P = (v : World) → accepted starts v ≡ true → (es : List Event) → Finish es (next starts v) → P es (next starts v)

-- ---- a file that nobody wrote
-- the files that a call writes or shortens
abbrev pub written_by : Call → List ℕ → List ℕ
written_by c s = on_planned (plain_decision c s) (λ x. x.writes) (λ e. [])

-- i is one of them
unfoldable pub any_is : List ℕ → ℕ → Bool
any_is [] i = false
any_is (j ∷ js) i = eqb j i || any_is js i

-- an accepted call writes or shortens file i
abbrev pub writes : Event → World → ℕ → Bool
writes e w i = on_event e (λ c. accepted (call c) w && any_is (written_by c w.store) i) false false false

unfoldable pub Unwritten : List Event → World → ℕ → Type 0
Unwritten [] w i = Unit {0}
Unwritten (e ∷ es) w i = (writes e w i ≡ false) × Unwritten es (next e w) i

-- place p of the copy names file i, with its size and bytes
pub record FileCopied (s f : List ℕ) (n p i : ℕ) : Type 0 where
  pub stands : filled f n p ≡ true
  pub inode : naming f n p ≡ i
  pub kind : kind_of f i ≡ file_kind
  pub size : size_of f i ≡ size_of s i
  pub bytes : file_bytes f n i 0 (size_of f i) ≡ file_bytes s n i 0 (size_of s i)

-- a file that nobody wrote, shortened, unlinked or moved (nor anything above it) is in the finished copy with exactly its bytes
abbrev pub UnwrittenFiles : Type 0
UnwrittenFiles = AtFinish (λ es w. (p i : ℕ) → Kept es w p → naming w.store (count_of w) p ≡ i → kind_of w.store i ≡ file_kind → Unwritten es w i
    → FileCopied w.store (run es w).image (count_of w) p i)

-- ---- a store that no call changed
-- it is the same at every moment; calls may look, be refused, or write what stands there already
abbrev pub Still : List Event → World → Type 0
Still es w = (v : World) → Moment es w v → v.store ≡ w.store

-- place p: a slot that is filled in both or in neither, by the same 16 bytes
pub record PlaceCopied (s f : List ℕ) (n p : ℕ) : Type 0 where
  pub stands : filled f n p ≡ filled s n p
  pub inode : naming f n p ≡ naming s n p
  pub entry : filled s n p ≡ true → entry_at f n p ≡ entry_at s n p

-- inode i: free in both, a file with its bytes in both, or a directory in both
pub record InodeCopied (s f : List ℕ) (n i : ℕ) : Type 0 where
  pub kind : kind_of f i ≡ kind_of s i
  pub links : links_of f i ≡ links_of s i
  pub size : size_of f i ≡ size_of s i
  pub parent : parent_of f i ≡ parent_of s i
  pub bytes : kind_of s i ≡ file_kind → file_bytes f n i 0 (size_of f i) ≡ file_bytes s n i 0 (size_of s i)

pub record StoreCopied (s f : List ℕ) : Type 0 where
  pub count : inodes_in f ≡ inodes_in s
  pub places : (p : ℕ) → p < most_slots * inodes_in s → PlaceCopied s f (inodes_in s) p
  pub inodes : (i : ℕ) → 1 ≤ i → i ≤ inodes_in s → InodeCopied s f (inodes_in s) i

-- it has a finished copy with the same directories, slots, names, inodes, sizes, links and bytes
abbrev pub StillStores : Type 0
StillStores = AtFinish (λ es w. Still es w → StoreCopied w.store (run es w).image)
