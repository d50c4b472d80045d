-- The hypothesis of a call in specs/Claims.antt, and of demand 1 (watch/specs/Answered.antt), is the
-- contract of the code: what a caller learns of `deal`, whatever the arguments a. z is the result.
use mathlib.Core.Path.{◌≡◌}
use contract.Lifetimes.{Lfts}
use denote.Triple.Clauses.{AtExit}
use borrow.Fn.Kinds.{Dens, res_t, ended_of}
use Rattle.dealer.specs.Deal.{turn, dealt}
use Rattle.dealer.proofs.deal.Kinds.{ps, r}
use Rattle.dealer.proofs.deal.Reads.{Learnt}

pub promised : (κs : Lfts 0) (a : Dens κs ps) (z : (res_t r κs).Denot) (e : AtExit (ended_of 0 ps r) κs) → Learnt κs a z e → turn z.answer z.counts ≡ dealt a.0 a.1.0 a.1.1.0
promised κs a z e h = h
