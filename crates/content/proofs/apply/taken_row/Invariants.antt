use Prim.Native.Nat.{ℕ, ◌<◌}
use mathlib.Core.Path.{◌≡◌}
use lib.ListN.{get_or}
use Rattle.blocks.specs.Free.{block_free}
use Rattle.ledger.specs.Nth.{nth_free}
use Rattle.growth.specs.Extend.{zero_blocks}
use Rattle.content.proofs.TakeLaws.{last_taken}
use Rattle.content.proofs.apply.taken_row.Given as goal

abbrev pub invariant-loop-place : goal.invariant-loop-place
invariant-loop-place l =
    (l.taken ≡ last_taken (block_free l.initial.s l.n) l.b l.place-index)
    × (l.s ≡ zero_blocks l.initial.s l.n (nth_free (block_free l.initial.s l.n) l.b) l.place-index)
    × ((k : ℕ) → k < l.place-index → get_or l.place-items k 0 ≡ nth_free (block_free l.initial.s l.n) l.b k)
    × (l.place-index-end ≡ l.m)
