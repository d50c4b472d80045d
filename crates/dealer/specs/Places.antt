-- Places round the circle, by which the code reckons steps: place d + 1 is that of the bay d + 1 on from
-- the bay told.
use Rattle.std.specs.Prelude.{ℕ, ◌+◌, ◌-◌, ◌%◌, ◌≤◌, ◌<◌, Bool, List}
use Rattle.bounded.specs.Count.{count}
use Rattle.dealer.specs.Deal.{bays, most_turn, runs, onward}

-- the bay at place d + 1 after b runs
abbrev pub runs_at : List Bool → ℕ → ℕ → Bool
runs_at f b d = runs f (onward b (d + 1))

-- how many of the first t places run
abbrev pub running : List Bool → ℕ → ℕ → ℕ
running f b t = count (runs_at f b) t

-- how many places come before that of bay x
abbrev pub ahead : ℕ → ℕ → ℕ
ahead b x = (x + (bays - 1) - b) % bays

-- a turn that is not refused
pub record Allowed (s b : ℕ) : Type 0 where
  pub low : 1 ≤ s
  pub most : s ≤ most_turn
  pub bay : b < bays
