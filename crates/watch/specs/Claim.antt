-- The calls' code and the demands together: what is delivered by every list of calls made on the code after an accepted start. The quotes are the customer's.
use Rattle.std.specs.Prelude.{ℕ, zero, suc, ◌≡◌, true, false, List, [], ◌∷◌, length, Ok}
use Rattle.answers.specs.Told.{told}
use Rattle.files.specs.Plain.{Received, got}
use Rattle.checkpoint.specs.Fit.{is_running, image_allowed, both_framed}
use Rattle.checkpoint.specs.Live.{World}
use Rattle.checkpoint.specs.List.{Ready, Event, advances, starts, outcome, accepted, run, accepted_steps}
use Rattle.checkpoint.specs.Burst.{count_allowed, tries_of, Act, one, bursts, singles}
use Rattle.checkpoint.specs.Finished.{count_of}
use Rattle.watch.specs.Received.{outcome_of, next_of, out_after, received}
use Rattle.watch.specs.Demand.{Demand}
use Rattle.watch.specs.Made.{Did, Made}

-- each event a call of its own
abbrev pub ones : List Event → List Act
ones [] = []
ones (e ∷ es) = one e ∷ ones es

-- k single steps
abbrev pub that_many : ℕ → List Event
that_many zero = []
that_many (suc k) = advances ∷ that_many k

-- ---- a burst, on any bytes: k steps were asked for on the world w, its caller got a, and v was left
pub record BurstIsSteps (k : ℕ) (w : World) (a : Received) (v : World) : Type 0 where
  -- the bytes are those of the single steps that it tried
  pub bytes : v ≡ run (tries_of k w) w
  -- where neither 1 nor 17 comes, they are those of k single steps: "does what that many single steps would"
  pub whole : both_framed w.store w.desk ≡ true → count_allowed k ≡ true → v ≡ run (that_many k) w
  -- it "reports how many were accepted"
  pub count : a.answer.number ≡ 0 → a.answer ≡ told (Ok (accepted_steps (tries_of k w) w 0))
  -- "If the very first is refused, that refusal is the answer."
  pub first : (es : List Event) → tries_of k w ≡ advances ∷ es → accepted advances w ≡ false → a.answer ≡ (outcome advances w).answer

-- ---- xs were made on the code from w to u, and their callers got rs; w is the world just after the start
pub record Delivered (xs : List Act) (w : World) (rs : List Received) (u : World) : Type 0 where
  -- the buffers, and what the callers got, are those of the definitions
  pub world : u ≡ run (singles xs w) w
  pub got : rs ≡ received xs w
  pub demand : Demand xs w rs u

-- ---- one call made on the code: the world that is left, and what the caller gets, are the definition's
pub record AsDefined (x : Act) (w : World) (a : Received) (v : World) : Type 0 where
  pub world : v ≡ next_of x w
  pub got : a ≡ got (outcome_of x w).answer (out_after x w)

-- ---- the claim
pub record Claim : Type 0 where
  -- "every list of file calls, steps, state questions and further starts, refused ones included, after an accepted start", and of bursts
  pub lists : {v w u : World} {a : Received} {xs : List Act} {rs : List Received} → Did (one starts) v a w → a.answer.number ≡ 0 → Made xs w rs u → Delivered xs w rs u
  -- a burst "does what that many single steps would", and "single steps in the same order of events give the same bytes", whatever the bytes
  pub as_steps : {k : ℕ} {w v : World} {a : Received} → Did (bursts k) w a v → BurstIsSteps k w a v
  pub alike : {w u v : World} {xs : List Act} {rs qs : List Received} → Made xs w rs u → Made (ones (singles xs w)) w qs v → v ≡ u
  -- such a start is accepted wherever the buffers fit and no copy runs, and leaves the store as it was
  pub opens : {v w : World} {a : Received} → Did (one starts) v a w → Ready v → is_running v.desk ≡ false → image_allowed (count_of v) (length v.image) ≡ true → a.answer.number ≡ 0
  pub store : {v w : World} {a : Received} → Did (one starts) v a w → w.store ≡ v.store
  -- every call, on any bytes, is as it is defined: so what is said of the next call after a list holds of the next call that is made
  pub defined : {x : Act} {w v : World} {a : Received} → Did x w a v → AsDefined x w a v
