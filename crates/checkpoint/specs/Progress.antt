-- The copy gets done, is out of the way, and stays; and what the next event does. w is the world at any moment of a list.
use Rattle.std.specs.Prelude.{ℕ, ◌*◌, ◌≤◌, ◌<◌, ◌≡◌, Bool, true, false, not, ◌&&◌, List, [], ◌∷◌, length, get_or, Err, Ok}
use Rattle.octets.specs.Octets.{Octets}
use Rattle.layout.specs.Sizes.{most_blocks}
use Rattle.layout.specs.Inode.{size_of}
use Rattle.blocks.specs.Block.{store_length, blocks_used}
use Rattle.blocks.specs.Free.{named_by}
use Rattle.desk.specs.Sizes.{finished, stopped}
use Rattle.desk.specs.Desk.{desk_of}
use Rattle.answers.specs.declared.Refusal.TheVariants.{BadBuffer, UnsoundStore, BadDesk, Busy, WrongState, ImageFull}
use Rattle.answers.specs.Refusal.{refusal_number}
use Rattle.answers.specs.Told.{told}
use Rattle.sound.specs.Sound.{inodes_in}
use Rattle.sound.specs.Place.{filled, naming}
use Rattle.entries.specs.declared.Kind.{Kind}
use Rattle.entries.specs.Plan.{look_up_plan}
use Rattle.files.specs.Effect.{Call, create, write, shorten, link, unlink, rename, rename_new, given}
use Rattle.files.specs.Plain.{plain}
use Rattle.checkpoint.specs.Fit.{is_running, image_allowed, image_long}
use Rattle.checkpoint.specs.Live.{World, out_of}
use Rattle.checkpoint.specs.List.{Ready, Event, call, advances, asks, starts, outcome, next, refusal_of, accepted, restarts, completes, run, Finish, takes}
use Rattle.checkpoint.specs.Finished.{count_of}

-- ---- it gets done
-- "a block step with every image block named": the locked inode has a block left, and no image block is left
pub record ImageTaken (w : World) : Type 0 where
  pub locked : 1 ≤ (desk_of w.desk).locked
  pub more : (desk_of w.desk).transferred < blocks_used (size_of w.store (desk_of w.desk).locked)
  pub taken : (c : ℕ) → 1 ≤ c → store_length (count_of w) c ≤ length w.image → named_by (image_long w.store w.image w.desk) w.image (count_of w) c ≡ true

-- what a finish leaves: "state finished", and one step more in bytes 12 to 15; byte 4 has the state. v is the world after it, and a desk is bytes
pub record Ended (w v : World) : Type 0 where
  pub store : v.store ≡ w.store
  pub state : (desk_of v.desk).state ≡ finished
  pub long : length v.desk ≡ length w.desk
  pub rest : Octets w.desk → (x : ℕ) → (x ≡ 4 → ⊥) → (12 ≤ x → x ≤ 15 → ⊥) → get_or v.desk x 0 ≡ get_or w.desk x 0

-- while the copy runs a step is accepted, or refused with 16, and that only where no image block is left
pub record Progress (w : World) : Type 0 where
  pub moves : is_running w.desk ≡ true → (refusal_of advances w ≡ refusal_number ImageFull → ⊥) → accepted advances w ≡ true
  pub fills : refusal_of advances w ≡ refusal_number ImageFull → ImageTaken w
  pub ends : completes advances w ≡ true → Ended w (next advances w)

-- no start is accepted
unfoldable pub no_restart : List Event → World → Bool
no_restart [] w = true
no_restart (e ∷ es) w = not (restarts e w) && no_restart es (next e w)

-- "With 12 × N image blocks or more" (F-1: 44 × N)
abbrev pub Roomy : World → Type 0
Roomy w = store_length (count_of w) (most_blocks * count_of w) ≤ length w.image

-- "15 start while running, step while not", and else a start is accepted, inside a list; a question changes nothing
pub record Timing (w : World) : Type 0 where
  pub early : is_running w.desk ≡ true → (outcome starts w).answer ≡ told (Err WrongState)
  pub again : is_running w.desk ≡ false → (outcome starts w).answer ≡ told (Ok 0)
  pub late : is_running w.desk ≡ false → (outcome advances w).answer ≡ told (Err WrongState)
  pub question : next asks w ≡ w

-- ---- it is out of the way
-- a rename of name in d to other in e: the phone app's, or the lap recorder's
pub data Renaming (d : ℕ) (name : List ℕ) (e : ℕ) (other : List ℕ) : Call → Type 0 where
  app : Renaming d name e other (rename d name e other)
  recorder : Renaming d name e other (rename_new d name e other)

-- the calls that 14 may answer, as the paper lists them; l is the locked inode, s the store
pub data Hinders (s : List ℕ) (l : ℕ) : Call → Type 0 where
  -- "a write or shortening of the locked inode"
  writes : {o : ℕ} {xs : List ℕ} → Hinders s l (write l o xs)
  shortens : {z : ℕ} → Hinders s l (shorten l z)
  -- "a create, link, unlink or rename in a locked directory"
  creates : {name : List ℕ} {k : Kind} → Hinders s l (create l name k)
  links : {name : List ℕ} {i : ℕ} → Hinders s l (link l name i)
  unlinks : {name : List ℕ} → Hinders s l (unlink l name)
  renames : {c : Call} {name other : List ℕ} {e : ℕ} → Renaming l name e other c → Hinders s l c
  renames_to : {c : Call} {name other : List ℕ} {d : ℕ} → Renaming d name l other c → Hinders s l c
  -- "a link to, unlink or move of the locked inode"
  links_it : {d : ℕ} {name : List ℕ} → Hinders s l (link d name l)
  unlinks_it : {d : ℕ} {name : List ℕ} → look_up_plan s (inodes_in s) d name ≡ Ok l → Hinders s l (unlink d name)
  moves_it : {c : Call} {d e : ℕ} {name other : List ℕ} → Renaming d name e other c → (d ≡ e → ⊥) → look_up_plan s (inodes_in s) d name ≡ Ok l → Hinders s l c
  -- F-3: "A locked holder that would be replaced is busy": the new name stands for it, and the old one for another
  replaces_it : {d e i : ℕ} {name other : List ℕ} → look_up_plan s (inodes_in s) d name ≡ Ok i → (i ≡ l → ⊥) → look_up_plan s (inodes_in s) e other ≡ Ok l
      → Hinders s l (rename d name e other)

-- 14 comes only while an inode is locked, to such a call that the plain store would accept
pub record OnlyBusy (c : Call) (w : World) : Type 0 where
  pub runs : is_running w.desk ≡ true
  pub locked : 1 ≤ (desk_of w.desk).locked
  pub hinders : Hinders w.store (desk_of w.desk).locked c
  pub would : (plain c w.store).answer.number ≡ 0

-- a refused call leaves a read's out-buffer as it was, too
pub record Calls (w : World) : Type 0 where
  pub busy : (c : Call) → refusal_of (call c) w ≡ refusal_number Busy → OnlyBusy c w
  pub out : (c : Call) → (accepted (call c) w ≡ true → ⊥) → out_of c w ≡ given c

-- ---- what 16 does: "it sets state 3 and fields 6-9 to zero and changes nothing more". v is the world after it; byte 4 has the state, 6 to 9 the locked inode and its count, and a desk is bytes
pub record Stopped (w v : World) : Type 0 where
  pub store : v.store ≡ w.store
  pub image : v.image ≡ w.image
  pub state : (desk_of v.desk).state ≡ stopped
  pub locked : (desk_of v.desk).locked ≡ 0
  pub transferred : (desk_of v.desk).transferred ≡ 0
  pub long : length v.desk ≡ length w.desk
  pub rest : Octets w.desk → (x : ℕ) → (x ≡ 4 → ⊥) → (6 ≤ x → x ≤ 9 → ⊥) → get_or v.desk x 0 ≡ get_or w.desk x 0

-- ---- it stays: from the finish, or from 16, until a start is accepted, image and desk are byte for byte as they were left. w is the world just after the start
pub record Stays (es : List Event) (w : World) : Type 0 where
  pub copy : Finish es w → (fs : List Event) → no_restart fs (run es w) ≡ true → ((run fs (run es w)).image ≡ (run es w).image) × ((run fs (run es w)).desk ≡ (run es w).desk)
  pub stop : refusal_of advances (run es w) ≡ refusal_number ImageFull → (fs : List Event) → no_restart fs (next advances (run es w)) ≡ true
      → ((run fs (next advances (run es w))).image ≡ (run es w).image) × ((run fs (next advances (run es w))).desk ≡ (next advances (run es w)).desk)

-- ---- of the next event, after any list
-- demand 1: "A refusal changes no lent buffer, save that 16 marks the copy stopped and unlocks what was being copied"; 1 to 3 never come. e is the next event
pub record Refusals (e : Event) (w : World) : Type 0 where
  pub buffers : refusal_of e w ≡ refusal_number BadBuffer → ⊥
  pub store : refusal_of e w ≡ refusal_number UnsoundStore → ⊥
  pub desk : refusal_of e w ≡ refusal_number BadDesk → ⊥
  pub keeps : (refusal_of e w ≡ 0 → ⊥) → (refusal_of e w ≡ refusal_number ImageFull → ⊥) → next e w ≡ w
  pub stops : refusal_of e w ≡ refusal_number ImageFull → Stopped w (next e w)

-- the slot p of an entry that e takes: it is empty or, where a rename replaced the entry (F-3: "being replaced is being unlinked"), it stands for what was renamed
pub data Lost (w : World) (p : ℕ) : Event → Type 0 where
  emptied : {e : Event} → filled (next e w).store (count_of w) p ≡ false → Lost w p e
  refilled : {d e i : ℕ} {name other : List ℕ} → look_up_plan w.store (count_of w) d name ≡ Ok i → (naming w.store (count_of w) p ≡ i → ⊥)
      → naming (next (call (rename d name e other)) w).store (count_of w) p ≡ i → Lost w p (call (rename d name e other))

-- an entry that is taken stood, and is lost; all others stand for the same inode. p is a place
pub record Takes (e : Event) (w : World) (p : ℕ) : Type 0 where
  pub taken : takes e w p ≡ true → (filled w.store (count_of w) p ≡ true) × Lost w p e
  pub stands : takes e w p ≡ false → filled w.store (count_of w) p ≡ true
      → (filled (next e w).store (count_of w) p ≡ true) × (naming (next e w).store (count_of w) p ≡ naming w.store (count_of w) p)

-- ---- the opening start: accepted whenever the buffers fit and no copy runs; it leaves the store as it was
pub record Opens (v : World) : Type 0 where
  pub accepts : Ready v → is_running v.desk ≡ false → image_allowed (count_of v) (length v.image) ≡ true → accepted starts v ≡ true
  pub store : (next starts v).store ≡ v.store
