-- Refusal 14, "busy: a write or shortening of the locked inode; a create, link, unlink or rename in a locked directory; a link to, unlink or move of the locked inode": the copy has locked one of the inodes that the call's effect touches.
-- These are: of a write or shortening, the file; of a create, the directory; of a link or unlink, the directory and the inode linked to or unlinked; of a rename within a directory, the directory; of a move, which is a rename in both, the two directories and the inode moved; of a rename that replaces, also what the unlink of the old holder looks at (F-3: "A locked holder that would be replaced is busy"), and where both names stand for one file what any rename does; of look up and read, none.
use Rattle.std.specs.Prelude.{ℕ, Bool, List}
use Rattle.bounded.specs.Search.{pick}
use Rattle.desk.specs.Desk.{desk_of}
use Rattle.desk.specs.Next.{locks_any}
use Rattle.answers.specs.declared.Refusal.TheVariants.{Busy}
use Rattle.files.specs.Effect.{Planned, refused, does}

-- a running copy has locked one of the inodes
abbrev pub any_locked : List ℕ → List ℕ → Bool
any_locked desk is = locks_any (desk_of desk) is

-- 14 comes after the plan's refusals
abbrev pub unless_busy : List ℕ → Planned → Planned
unless_busy desk (does x) = pick (any_locked desk x.touches) (refused Busy) (does x)
unless_busy desk (refused e) = refused e
