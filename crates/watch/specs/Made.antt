-- Public calls made on the code, "each done by the library on the buffers as the last one left them, while nobody else writes to them".
-- Of the code this knows the contracts of the public functions, and nothing else: each way to have made a call has the call's promise as its hypothesis (proofs/Contracts.antt holds them to the code's) and, for a file call, which buffers it takes. t is what the caller was told.
use Rattle.std.specs.Prelude.{ℕ, ◌≡◌, true, false, List, [], ◌∷◌}
use Rattle.answers.specs.Told.{Told}
use Rattle.files.specs.Effect.{Call}
use Rattle.files.specs.Plain.{Received, got, plain}
use Rattle.checkpoint.specs.Live.{World, world, tells, store_alone, live, start, step, status}
use Rattle.checkpoint.specs.List.{call, advances, asks, starts}
use Rattle.checkpoint.specs.Burst.{burst, Act, one, bursts}

-- one call: the world that was lent, what the caller got, and the world that was left. A buffer that is not lent to be written stays.
pub data Did : Act → World → Received → World → Type 0 where
  -- "Look up and read take the store alone" (files/src/plain.rt)
  on_store : {c : Call} {w : World} {out : List ℕ} (t : Told)
      → store_alone c ≡ true
      → record { answer = t; store = w.store; out = out } ≡ plain c w.store
      → Did (one (call c)) w (got t out) w
  -- the other file calls take all three buffers (live/src/lib.rt)
  on_three : {c : Call} {w v : World} (t : Told)
      → store_alone c ≡ false
      → tells t v.store v.image v.desk ≡ live c w
      → Did (one (call c)) w (got t []) v
  -- start, step and state (copier/src/lib.rt, guards/src/lib.rt)
  started : {w : World} {image desk : List ℕ} (t : Told)
      → tells t w.store image desk ≡ start w.store w.image w.desk
      → Did (one starts) w (got t []) (world w.store image desk)
  stepped : {w : World} {image desk : List ℕ} (t : Told)
      → tells t w.store image desk ≡ step w.store w.image w.desk
      → Did (one advances) w (got t []) (world w.store image desk)
  asked : {w : World} (t : Told)
      → t ≡ status w.store w.image w.desk
      → Did (one asks) w (got t []) w
  -- up to 64 steps in one call (bursts/src/lib.rt)
  stepped_many : {k : ℕ} {w : World} {image desk : List ℕ} (t : Told)
      → tells t w.store image desk ≡ burst k w
      → Did (bursts k) w (got t []) (world w.store image desk)

-- a list of calls, one after another: from which world, what their callers got, and to which world
pub data Made : List Act → World → List Received → World → Type 0 where
  none : {w : World} → Made [] w [] w
  then : {x : Act} {xs : List Act} {a : Received} {rs : List Received} {w v u : World} → Did x w a v → Made xs v rs u → Made (x ∷ xs) w (a ∷ rs) u
