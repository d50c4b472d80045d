-- The hypotheses of specs/Made.antt are the contracts of the code: what a caller learns of a call by its contract, whatever the arguments, makes it one of the ways to have made that call.
-- a are the arguments, z is the result, e the parameters at exit; m and d are an image and a desk that the call does not have.
use Prim.Native.Nat.{ℕ}
use mathlib.Core.Path.{◌≡◌, refl}
use mathlib.Core.List.{List, []}
use contract.Lifetimes.{Lfts}
use denote.Triple.Clauses.{AtExit}
use borrow.Fn.Kinds.{ParamKind, ResultKind, Out, Dens, res_t, ended_of}
use Rattle.sound.specs.Test.{is_sound}
use Rattle.answers.specs.Told.{told}
use Rattle.format.specs.Format.{laid_out, lay_out_store, lay_out_desk}
use Rattle.files.specs.Effect.{look_up, read, create, write, shorten, link, unlink, rename, rename_new}
use Rattle.files.specs.Plain.{got}
use Rattle.checkpoint.specs.Live.{world, told_status}
use Rattle.checkpoint.specs.List.{call, advances, asks, starts}
use Rattle.checkpoint.specs.Burst.{one, bursts}
use Rattle.laps.specs.Walk.{lists}
use Rattle.laps.specs.Call.{left, match_laps}
use Rattle.keeping.specs.Call as keeping
use Rattle.watch.specs.Made.{Did, on_store, on_three, started, stepped, asked, stepped_many}
use Rattle.files.proofs.plain.look_up.Kinds as look-up-kinds
use Rattle.files.proofs.plain.look_up.Reads as look-up-reads
use Rattle.files.proofs.plain.read.Kinds as read-kinds
use Rattle.files.proofs.plain.read.Reads as read-reads
use Rattle.live.proofs.create.Kinds as create-kinds
use Rattle.live.proofs.create.Reads as create-reads
use Rattle.live.proofs.write.Kinds as write-kinds
use Rattle.live.proofs.write.Reads as write-reads
use Rattle.live.proofs.shorten.Kinds as shorten-kinds
use Rattle.live.proofs.shorten.Reads as shorten-reads
use Rattle.live.proofs.link.Kinds as link-kinds
use Rattle.live.proofs.link.Reads as link-reads
use Rattle.live.proofs.unlink.Kinds as unlink-kinds
use Rattle.live.proofs.unlink.Reads as unlink-reads
use Rattle.live.proofs.rename.Kinds as rename-kinds
use Rattle.live.proofs.rename.Reads as rename-reads
use Rattle.live.proofs.rename_new.Kinds as rename-new-kinds
use Rattle.live.proofs.rename_new.Reads as rename-new-reads
use Rattle.copier.proofs.start.Kinds as start-kinds
use Rattle.copier.proofs.start.Reads as start-reads
use Rattle.copier.proofs.step.Kinds as step-kinds
use Rattle.copier.proofs.step.Reads as step-reads
use Rattle.bursts.proofs.burst.Kinds as burst-kinds
use Rattle.bursts.proofs.burst.Reads as burst-reads
use Rattle.guards.proofs.state.Kinds as state-kinds
use Rattle.guards.proofs.state.Reads as state-reads
use Rattle.checker.proofs.check.Kinds as check-kinds
use Rattle.checker.proofs.check.Reads as check-reads
use Rattle.format.proofs.lay_out_store.Kinds as lay-store-kinds
use Rattle.format.proofs.lay_out_store.Reads as lay-store-reads
use Rattle.format.proofs.lay_out_desk.Kinds as lay-desk-kinds
use Rattle.format.proofs.lay_out_desk.Reads as lay-desk-reads
use Rattle.laps.proofs.match_laps.Kinds as match-laps-kinds
use Rattle.laps.proofs.match_laps.Reads as match-laps-reads
use Rattle.keeping.proofs.keep.Kinds as keep-kinds
use Rattle.keeping.proofs.keep.Reads as keep-reads

-- what a caller learns of a function gives D; n lifetimes, parameters ps, result r
abbrev pub Gives : (n : ℕ) (ps : List (ParamKind n)) (r : ResultKind n) → Out n ps r → ((κs : Lfts n) → Dens κs ps → (res_t r κs).Denot → AtExit (ended_of n ps r) κs → Type 0) → Type 0
Gives n ps r learnt D = (κs : Lfts n) (a : Dens κs ps) (z : (res_t r κs).Denot) (e : AtExit (ended_of n ps r) κs) → learnt κs a z e → D κs a z e

-- ---- the calls on the store alone
pub look_up_made : (m d : List ℕ) → Gives 2 look-up-kinds.ps look-up-kinds.r look-up-reads.Learnt (λ κs a z e.
    Did (one (call (look_up a.1.0 a.1.1.0.now))) (world a.0.now m d) (got (told z) []) (world a.0.now m d))
look_up_made m d κs a z e h = on_store (told z) refl h

pub read_made : (m d : List ℕ) → Gives 2 read-kinds.ps read-kinds.r read-reads.Learnt (λ κs a z e.
    Did (one (call (read a.1.0 a.1.1.0 a.1.1.1.0.now))) (world a.0.now m d) (got (told z) e.1.1.1.0.now) (world a.0.now m d))
read_made m d κs a z e h = on_store (told z) refl h

-- ---- the file calls over the three buffers
pub create_made : Gives 4 create-kinds.ps create-kinds.r create-reads.Learnt (λ κs a z e.
    Did (one (call (create a.1.1.1.0 a.1.1.1.1.0.now a.1.1.1.1.1.0))) (world a.0.now a.1.0.now a.1.1.0.now) (got (told z) []) (world e.0.now e.1.0.now e.1.1.0.now))
create_made κs a z e h = on_three (told z) refl h

pub write_made : Gives 4 write-kinds.ps write-kinds.r write-reads.Learnt (λ κs a z e.
    Did (one (call (write a.1.1.1.0 a.1.1.1.1.0 a.1.1.1.1.1.0.now))) (world a.0.now a.1.0.now a.1.1.0.now) (got (told z) []) (world e.0.now e.1.0.now e.1.1.0.now))
write_made κs a z e h = on_three (told z) refl h

pub shorten_made : Gives 3 shorten-kinds.ps shorten-kinds.r shorten-reads.Learnt (λ κs a z e.
    Did (one (call (shorten a.1.1.1.0 a.1.1.1.1.0))) (world a.0.now a.1.0.now a.1.1.0.now) (got (told z) []) (world e.0.now e.1.0.now e.1.1.0.now))
shorten_made κs a z e h = on_three (told z) refl h

pub link_made : Gives 4 link-kinds.ps link-kinds.r link-reads.Learnt (λ κs a z e.
    Did (one (call (link a.1.1.1.0 a.1.1.1.1.0.now a.1.1.1.1.1.0))) (world a.0.now a.1.0.now a.1.1.0.now) (got (told z) []) (world e.0.now e.1.0.now e.1.1.0.now))
link_made κs a z e h = on_three (told z) refl h

pub unlink_made : Gives 4 unlink-kinds.ps unlink-kinds.r unlink-reads.Learnt (λ κs a z e.
    Did (one (call (unlink a.1.1.1.0 a.1.1.1.1.0.now))) (world a.0.now a.1.0.now a.1.1.0.now) (got (told z) []) (world e.0.now e.1.0.now e.1.1.0.now))
unlink_made κs a z e h = on_three (told z) refl h

pub rename_made : Gives 5 rename-kinds.ps rename-kinds.r rename-reads.Learnt (λ κs a z e.
    Did (one (call (rename a.1.1.1.0 a.1.1.1.1.0.now a.1.1.1.1.1.0 a.1.1.1.1.1.1.0.now))) (world a.0.now a.1.0.now a.1.1.0.now) (got (told z) []) (world e.0.now e.1.0.now e.1.1.0.now))
rename_made κs a z e h = on_three (told z) refl h

pub rename_new_made : Gives 5 rename-new-kinds.ps rename-new-kinds.r rename-new-reads.Learnt (λ κs a z e.
    Did (one (call (rename_new a.1.1.1.0 a.1.1.1.1.0.now a.1.1.1.1.1.0 a.1.1.1.1.1.1.0.now))) (world a.0.now a.1.0.now a.1.1.0.now) (got (told z) []) (world e.0.now e.1.0.now e.1.1.0.now))
rename_new_made κs a z e h = on_three (told z) refl h

-- ---- start, step, burst and state
pub start_made : Gives 3 start-kinds.ps start-kinds.r start-reads.Learnt (λ κs a z e.
    Did (one starts) (world a.0.now a.1.0.now a.1.1.0.now) (got (told z) []) (world a.0.now e.1.0.now e.1.1.0.now))
start_made κs a z e h = started (told z) h

pub step_made : Gives 3 step-kinds.ps step-kinds.r step-reads.Learnt (λ κs a z e.
    Did (one advances) (world a.0.now a.1.0.now a.1.1.0.now) (got (told z) []) (world a.0.now e.1.0.now e.1.1.0.now))
step_made κs a z e h = stepped (told z) h

pub burst_made : Gives 3 burst-kinds.ps burst-kinds.r burst-reads.Learnt (λ κs a z e.
    Did (bursts a.1.1.1.0) (world a.0.now a.1.0.now a.1.1.0.now) (got (told z) []) (world a.0.now e.1.0.now e.1.1.0.now))
burst_made κs a z e h = stepped_many (told z) h

pub state_made : Gives 3 state-kinds.ps state-kinds.r state-reads.Learnt (λ κs a z e.
    Did (one asks) (world a.0.now a.1.0.now a.1.1.0.now) (got (told_status z) []) (world a.0.now a.1.0.now a.1.1.0.now))
state_made κs a z e h = asked (told_status z) h

-- ---- the layout calls, of which `FirstDemand` (specs/Answered.antt) has the same hypothesis; the dealer's is in dealer/proofs/Contract.antt
pub lay_store_made : Gives 1 lay-store-kinds.ps lay-store-kinds.r lay-store-reads.Learnt (λ κs a z e. laid_out z e.0.now ≡ lay_out_store a.0.now a.1.0 a.1.1.0)
lay_store_made κs a z e h = h

pub lay_desk_made : Gives 1 lay-desk-kinds.ps lay-desk-kinds.r lay-desk-reads.Learnt (λ κs a z e. laid_out z e.0.now ≡ lay_out_desk a.0.now a.1.0)
lay_desk_made κs a z e h = h

-- ---- the check, of which it has the same too
pub check_made : Gives 1 check-kinds.ps check-kinds.r check-reads.Learnt (λ κs a z e. z ≡ is_sound a.0 a.1.0.now)
check_made κs a z e h = h

-- ---- and laps against the mat
pub match_laps_made : Gives 6 match-laps-kinds.ps match-laps-kinds.r match-laps-reads.Learnt (λ κs a z e.
    left z (lists e.1.1.0.now e.1.1.1.0.now e.1.1.1.1.0.now e.1.1.1.1.1.0.now)
    ≡ match_laps a.0.now a.1.0.now (lists a.1.1.0.now a.1.1.1.0.now a.1.1.1.1.0.now a.1.1.1.1.1.0.now))
match_laps_made κs a z e h = h

-- ---- and which copies to keep
pub keep_made : Gives 3 keep-kinds.ps keep-kinds.r keep-reads.Learnt (λ κs a z e.
    keeping.left z e.1.1.1.0.now ≡ keeping.keep_call a.0.now a.1.0.now a.1.1.0 a.1.1.1.0.now)
keep_made κs a z e h = h
