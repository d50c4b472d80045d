-- What a charging case may rely on, of calls of the dealer's code. Of the code this knows the contract
-- of `deal`, and nothing else: each call has it as its one hypothesis (proofs/Contract.antt holds it to
-- the code's).
use Rattle.std.specs.Prelude.{ℕ, ◌+◌, ◌≤◌, ◌<◌, ◌≡◌, Bool, true, false, length, get_or, Ok}
use mathlib.Core.List.{List, [], ◌∷◌, Memᴰ}
use Rattle.bounded.specs.Sum.{sum}
use Rattle.answers.specs.Told.{Answer, told}
use Rattle.dealer.specs.Deal.{bays, runs, turn, turn_allowed, dealt}

-- a call: what the dealer was told, what it answered, and what its contract promises
pub record Call : Type 0 where
  pub flags : List Bool
  pub steps : ℕ
  pub last : ℕ
  pub answer : Answer
  pub counts : List ℕ
  pub promise : turn answer counts ≡ dealt flags steps last

-- it answered bay x, and so was not refused
abbrev pub Answers : Call → ℕ → Type 0
Answers c x = told c.answer ≡ told (Ok x)

-- the steps that bay x got
abbrev pub given : Call → ℕ → ℕ
given c x = get_or c.counts x 0

abbrev pub SomeRuns : Call → Type 0
SomeRuns c = (x : ℕ) × (x < bays) × (runs c.flags x ≡ true)

abbrev pub NoneRuns : Call → Type 0
NoneRuns c = (x : ℕ) → x < bays → runs c.flags x ≡ false

-- "The counts add up to the steps allowed, or to 0, with the told bay answered, when no bay runs."
pub record AddsUp (c : Call) (answered : ℕ) : Type 0 where
  pub some : SomeRuns c → sum (given c) bays ≡ c.steps
  pub none : NoneRuns c → (sum (given c) bays ≡ 0) × (answered ≡ c.last)

-- "it deals one step to each running bay": none to another, and a running bay is the last served
pub record OnlyRunning (c : Call) : Type 0 where
  pub counts : (x : ℕ) → x < bays → runs c.flags x ≡ false → given c x ≡ 0
  pub last : (x : ℕ) → Answers c x → SomeRuns c → (x < bays) × (runs c.flags x ≡ true)

-- "two running bays differ by at most one step in a turn"
abbrev pub Even : Call → Type 0
Even c =
    (x y : ℕ) → x < bays → y < bays → runs c.flags x ≡ true → runs c.flags y ≡ true
    → given c x ≤ given c y + 1

-- "each turn is told the bay that the turn before answered": the first is told b
pub data Turns : ℕ → List Call → Type 0 where
  no_more : {b : ℕ} → Turns b []
  then : {c : Call} {cs : List Call} (x : ℕ) → Answers c x → Turns x cs → Turns c.last (c ∷ cs)

-- "a bay that runs throughout gets a step within sixteen turns, whichever others start or end":
-- in any sixteen turns in a row
abbrev pub Fair : Type 0
Fair =
    (b : ℕ) (cs : List Call) → Turns b cs → length cs ≡ bays
    → (x : ℕ) → x < bays → ((c : Call) → Memᴰ c cs → runs c.flags x ≡ true)
    → (c : Call) × Memᴰ c cs × (1 ≤ given c x)

pub record Claims : Type 0 where
  -- "It answers .. the bay last served": 21 comes to no turn but those that it names
  pub answers : (c : Call) → turn_allowed c.steps c.last ≡ true → (x : ℕ) × (x < bays) × Answers c x
  pub adds_up : (c : Call) (x : ℕ) → Answers c x → AddsUp c x
  pub only_running : (c : Call) → OnlyRunning c
  pub even : (c : Call) → Even c
  pub fair : Fair
