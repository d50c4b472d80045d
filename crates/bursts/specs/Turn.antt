-- What a burst keeps from one step to the next, and what one turn of it came to. w is the world, n the inode count.
use Rattle.std.specs.Prelude.{ℕ, suc, ◌+◌, ◌*◌, ◌≡◌, ◌≢◌, Bool, true, false, not, ◌&&◌, List, eqb, Err, Ok, Result}
use Rattle.bounded.specs.Count.{Tallied}
use Rattle.bounded.specs.Search.{pick}
use Rattle.layout.specs.Sizes.{most_inodes, most_blocks}
use Rattle.layout.specs.Inode.{kind_of, directory_kind}
use Rattle.blocks.specs.Block.{is_long}
use Rattle.blocks.specs.Map.{Maps}
use Rattle.directory.specs.Slot.{most_slots}
use Rattle.desk.specs.declared.Desk.{Desk}
use Rattle.desk.specs.Desk.{desk_of}
use Rattle.sound.specs.Sound.{inodes_in}
use Rattle.answers.specs.declared.Refusal.{Refusal}
use Rattle.checkpoint.specs.Fit.{is_running, image_long}
use Rattle.checkpoint.specs.Image.{image_naming}
use Rattle.checkpoint.specs.Live.{World, left, world}
use Rattle.checkpoint.specs.List.{Ready}
use Rattle.checkpoint.specs.Burst.{burst_from, Steady}
use Rattle.answers.specs.Told.{Answer}
use Rattle.bursts.specs.declared.Turn.TheVariants.{Ends, Goes}
use Rattle.bursts.specs.declared.Turn.{Turn}

-- ---- what is kept
-- the map has the image's named blocks
abbrev pub Mapped : World → ℕ → List ℕ → Type 0
Mapped w n map = Maps (image_long w.store w.image w.desk) w.image n (most_blocks * n) map

-- no block of inode l, while it is copied, changes what the image's directories name: it is none of them, and no address goes into a block of one
abbrev pub NamesStay : World → ℕ → Type 0
NamesStay w l = (kind_of w.image l ≢ directory_kind) × (is_long w.store l ≡ false)

-- what decides at the close of inode i that the counts stay: neither image nor store has a directory there, and the file is not long
abbrev pub names_stay_b : List ℕ → List ℕ → ℕ → Bool
names_stay_b s m i = not (eqb (kind_of m i) directory_kind) && (not (eqb (kind_of s i) directory_kind) && not (is_long s i))

-- the counts say how often the image's directories name each inode, unless the locked one changes it
abbrev pub Counted : World → ℕ → List ℕ → Type 0
Counted w n counts = ((desk_of w.desk).locked ≢ 0 → NamesStay w (desk_of w.desk).locked) → Tallied (image_naming w.image n) 1 (most_inodes + 1) (most_slots * n) counts

-- one more step may be taken: 1, 2 and 3 do not come, the copy runs, and h is the desk's header
pub record Going (w : World) (n : ℕ) (h : Desk) : Type 0 where
  pub ready : Ready w
  pub running : is_running w.desk ≡ true
  pub inodes : n ≡ inodes_in w.store
  pub read : h ≡ desk_of w.desk

pub record Kept (w : World) (n : ℕ) (map counts : List ℕ) : Type 0 where
  pub inodes : n ≡ inodes_in w.store
  pub steady : Steady w
  pub mapped : Mapped w n map
  pub counted : Counted w n counts

-- ---- what a turn came to
-- the answer of a burst whose step after c accepted ones is refused
abbrev pub stopped_at : ℕ → Refusal → Answer
stopped_at c e = pick (eqb c 0) (Err e) (Ok c)

-- of a turn r from the world w that left the image m, the desk d and what is kept: what is left to do, whatever number of steps is left, and was accepted before
abbrev pub Took : Result Turn Refusal → World → ℕ → List ℕ → List ℕ → List ℕ → List ℕ → Type 0
Took (Ok Goes) w n m d map counts = ((k c : ℕ) → burst_from (suc k) c w ≡ burst_from k (suc c) (world w.store m d)) × Kept (world w.store m d) n map counts
Took (Ok Ends) w n m d map counts = (k c : ℕ) → burst_from (suc k) c w ≡ left (Ok (suc c)) w.store m d
Took (Err e) w n m d map counts = (k c : ℕ) → burst_from (suc k) c w ≡ left (stopped_at c e) w.store m d
