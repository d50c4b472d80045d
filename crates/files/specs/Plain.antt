-- The plain store of demand 3: bytes alone, "with no copy running and no desk to look at; a refused call changes nothing".
use Rattle.std.specs.Prelude.{ℕ, List, Err, Ok}
use Rattle.answers.specs.Told.{Answer, Told, told}
use Rattle.files.specs.Effect.{Call, Planned, refused, does, plain_decision, given}

-- what a caller gets: the answer by the paper's numbers, and a read's out-buffer ([] for the other calls)
pub record Received : Type 0 where
  pub answer : Told
  pub out : List ℕ

abbrev pub got : Told → List ℕ → Received
got t out = record { answer = t; out = out }

-- what a call leaves: the answer that its caller is told, the store, and a read's out-buffer
pub record PlainOutcome : Type 0 where
  pub answer : Told
  pub store : List ℕ
  pub out : List ℕ

abbrev pub plain_left : Answer → List ℕ → List ℕ → PlainOutcome
plain_left a s o = record { answer = told a; store = s; out = o }

-- what is left of the store s and the out-buffer out by what was decided
abbrev pub leaves : List ℕ → List ℕ → Planned → PlainOutcome
leaves s out (does x) = plain_left (Ok x.answer) x.store x.out
leaves s out (refused e) = plain_left (Err e) s out

-- a file call: guards 1 and 2, then refusal or effect
unfoldable pub plain : Call → List ℕ → PlainOutcome
plain c s = leaves s (given c) (plain_decision c s)
