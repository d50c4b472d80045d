-- What the guards hand on to the call behind them: with the counts of a store that passes, the desk's header.
use Rattle.std.specs.Prelude.{ℕ, Result, Ok, Err}
use Rattle.desk.specs.declared.Desk.{Desk}
use Rattle.layout.specs.declared.header.Counts.{Counts}
use Rattle.answers.specs.declared.Refusal.{Refusal}
use Rattle.guards.specs.declared.Watched.{Watched}

abbrev pub watched_by : ℕ → ℕ → Desk → Watched
watched_by n b h = record { inodes = n; blocks = b; desk = h }

abbrev pub handed : Result Counts Refusal → Desk → Result Watched Refusal
handed (Ok c) h = Ok (watched_by c.inodes c.blocks h)
handed (Err w) h = Err w
