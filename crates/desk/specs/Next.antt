-- What the desk's header says of the copy, and its next states. "Each accepted step adds 1."
use Rattle.std.specs.Prelude.{ℕ, ◌+◌, Bool, false, ◌&&◌, ◌||◌, List, [], ◌∷◌, eqb}
use Rattle.desk.specs.Sizes.{running, finished, stopped}
use Rattle.desk.specs.declared.Desk.{Desk}

-- the copy runs
abbrev pub runs : Desk → Bool
runs h = eqb h.state running

-- a running copy has locked inode i, or one of the inodes
abbrev pub locks : Desk → ℕ → Bool
locks h i = runs h && eqb h.locked i

unfoldable pub locks_any : Desk → List ℕ → Bool
locks_any h [] = false
locks_any h (i ∷ is) = locks h i || locks_any h is

-- "sets the desk's block count and running", and zeroes the steps
abbrev pub starting : Desk → ℕ → Desk
starting h b = record { inodes = h.inodes; blocks = b; state = running; locked = h.locked; transferred = h.transferred; steps = 0 }

-- "Locking zeroes desk bytes 8-9"
abbrev pub locking : Desk → ℕ → Desk
locking h i = record { inodes = h.inodes; blocks = h.blocks; state = h.state; locked = i; transferred = 0; steps = h.steps + 1 }

-- "copy the next block and add 1 to desk bytes 8-9"
abbrev pub copying_one : Desk → Desk
copying_one h = record { inodes = h.inodes; blocks = h.blocks; state = h.state; locked = h.locked; transferred = h.transferred + 1; steps = h.steps + 1 }

-- "unlocking [zeroes] 6-9"
abbrev pub unlocking : Desk → Desk
unlocking h = record { inodes = h.inodes; blocks = h.blocks; state = h.state; locked = 0; transferred = 0; steps = h.steps + 1 }

-- "state finished"
abbrev pub finishing : Desk → Desk
finishing h = record { inodes = h.inodes; blocks = h.blocks; state = finished; locked = h.locked; transferred = h.transferred; steps = h.steps + 1 }

-- refusal 16 "sets state 3 and fields 6-9 to zero and changes nothing more"
abbrev pub stopping : Desk → Desk
stopping h = record { inodes = h.inodes; blocks = h.blocks; state = stopped; locked = 0; transferred = 0; steps = h.steps }
