-- A list of events after an accepted start: at every moment the copy runs or rests. n and b are the counts of inodes and image blocks.
use Rattle.std.specs.Prelude.{Ok}
use Prim.Native.Nat.{ℕ}
use mathlib.Core.Path.{◌≡◌, refl, sym, ap, ◌∙◌}
use mathlib.Core.Bool.{true, false}
use mathlib.Core.List.{List, [], ◌∷◌}
use lib.Dec.{eqb}
use lib.ListN.{length}
use Rattle.blocks.specs.Block.{Allowed}
use Rattle.layout.specs.Sizes.{most_image_blocks}
use Rattle.sound.specs.Sound.{inodes_in}
use Rattle.sound.proofs.SoundLaws.{framed}
use Rattle.answers.specs.Told.{Told, told}
use Rattle.checkpoint.specs.Fit.{image_allowed, is_running}
use Rattle.checkpoint.specs.Live.{World, Outcome, started}
use Rattle.checkpoint.specs.List.{Ready, Event, call, advances, asks, starts, outcome, next, accepted, run, Moment, here, after}
use Rattle.checkpoint.proofs.Run.Going.{Running, ready, start_passes}
use Rattle.checkpoint.proofs.Run.Turned.{Stepped, on, ends, halts, stepped}
use Rattle.checkpoint.proofs.Run.Calls.{blocks_told, image_allowed_lem, call_goes, asks_goes, starts_goes}
use Rattle.checkpoint.proofs.Run.Starts.{Fresher, opens, opened_runs}
use Rattle.checkpoint.proofs.Run.Rests.{Resting, idle, call_kept, asks_kept, steps_kept}
use Rattle.checkpoint.proofs.Run.Ends.{finals, halted}
use native.Mathlib.Omega.{arith}
use Rattle.sound.specs.declared.Form.TheVariants.{Store}

pub data Going (n b : ℕ) (w : World) : Type 0 where
  runs : Running n b w → Going n b w
  rests : Resting n b w → Going n b w

pub fit : {n b : ℕ} {w : World} → Going n b w → Ready w
fit (runs r) = ready r
fit (rests r) = r.fit

pub counted : {n b : ℕ} {w : World} → Going n b w → n ≡ inodes_in w.store
counted (runs r) = r.count
counted (rests r) = r.count

-- a start is accepted where the buffers fit and no copy runs
pub start_accepts : (w : World) → Ready w → is_running w.desk ≡ false → image_allowed (inodes_in w.store) (length w.image) ≡ true → (outcome starts w).answer ≡ told (Ok 0)
unfolding outcome started
start_accepts w r i a = ap (λ (o : Outcome). o.answer) (start_passes w r a) ∙ rw i refl

pub start_done : (n b : ℕ) (w : World) → Resting n b w → (outcome starts w).answer ≡ told (Ok 0)
start_done n b w r =
    let f = (framed Store w.store).to r.fit.framed in
    let c = r.count in
    let fits : Allowed most_image_blocks n b (length w.image) = record { some_inodes = omega (arith, f.some_inodes); most_inodes_lem = omega (arith, f.most_inodes_lem); some_blocks = r.some_blocks; most_blocks_lem = r.most_blocks_lem; long = r.long } in
    start_accepts w r.fit (idle r) (rw (sym r.count) (image_allowed_lem n b (length w.image) fits))

pub start_taken : (n b : ℕ) (w : World) → Resting n b w → accepted starts w ≡ true
start_taken n b w r = ap (λ (a : Told). eqb a.number 0) (start_done n b w r)

pub start_anew : (n b : ℕ) (w : World) → Resting n b w → Fresher n b (next starts w)
start_anew n b w r = opened_runs n b w (opens w (start_taken n b w r)) r.count (blocks_told n b (length w.image) r.long)

step_going : (n b : ℕ) (w : World) → Running n b w → Stepped n b w → Going n b (next advances w)
step_going n b w r (on g c a) = runs g.still
step_going n b w r (ends f) = rests (finals n b w r f).rest
step_going n b w r (halts f) = rests (halted n b w r f).rest

pub going_next : (n b : ℕ) (w : World) (e : Event) → Going n b w → Going n b (next e w)
going_next n b w (call c) (runs r) = runs (call_goes n b w r c).still
going_next n b w advances (runs r) = step_going n b w r (stepped n b w r)
going_next n b w asks (runs r) = runs (asks_goes n b w r).still
going_next n b w starts (runs r) = runs (starts_goes n b w r).still
going_next n b w (call c) (rests r) = rests (call_kept n b w r c).rest
going_next n b w advances (rests r) = rests (steps_kept n b w r).rest
going_next n b w asks (rests r) = rests (asks_kept n b w r).rest
going_next n b w starts (rests r) = runs (start_anew n b w r).runs

pub going_run : (n b : ℕ) (es : List Event) (w : World) → Going n b w → Going n b (run es w)
unfolding run
going_run n b [] w g = g
going_run n b (e ∷ es) w g = going_run n b es (next e w) (going_next n b w e g)

pub going_at : (n b : ℕ) (es : List Event) (w v : World) → Going n b w → Moment es w v → Going n b v
going_at n b es w v g here = g
going_at n b (e ∷ es) w v g (after m) = going_at n b es (next e w) v (going_next n b w e g) m
