use Rattle.std.proofs.Common.{◌≡◌, ℕ, length}
use Rattle.blocks.specs.Gives.{Gives}
use Rattle.blocks.specs.Map.{Notes}
use Rattle.blocks.proofs.free.note_each.Given as goal

abbrev pub invariant-loop-k : goal.invariant-loop-k
invariant-loop-k g l = (length l.map ≡ 256) × ((h : ℕ → ℕ) → Gives g.F.Fn l.block l.count h → Notes h l.k l.initial.map l.map)
