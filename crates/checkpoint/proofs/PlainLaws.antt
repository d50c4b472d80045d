-- A live file call is the plain store's call between its guards, and so a list's file calls are the plain store's.
use Rattle.std.specs.Prelude.{Err, Ok, Result}
use Prim.Native.Nat.{ℕ}
use mathlib.Core.Path.{◌≡◌, refl, sym, ap, ◌∙◌}
use mathlib.Core.Bool.{Bool, true, false}
use mathlib.Core.List.{List, [], ◌∷◌}
use native.Mathlib.Omega.{arith}
use borrow.Author.Tests.{eqb-true, eq-eqb}
use Rattle.bounded.proofs.BoolLaws.{clash}
use Rattle.bounded.proofs.SearchLaws.{by_pick}
use Rattle.sound.specs.Sound.{inodes_in}
use Rattle.answers.specs.declared.Refusal.{Refusal}
use Rattle.answers.specs.declared.Refusal.TheVariants.{Busy}
use Rattle.answers.specs.Refusal.{refusal_number}
use Rattle.answers.specs.Told.{Told}
use Rattle.files.specs.Effect.{Call, Planned, refused, does, on_planned, plain_decision, given}
use Rattle.files.specs.Plain.{leaves, plain}
use Rattle.checkpoint.specs.Fit.{is_running}
use Rattle.checkpoint.specs.Copier.{Step, lock, copy, close, finish, full, step_of}
use Rattle.checkpoint.specs.Live.{World, Outcome, refuse, leaves_in, live, out_of, guarded, do_step, started, start, step, three_guards, start_guards}
use Rattle.checkpoint.specs.List.{Event, Ready, call, advances, asks, starts, outcome, next, run, Moment, here, after, plain_run, plain_replies}
use Rattle.checkpoint.proofs.OfEvents.{is_busy, replies, heard, AsPlain}
use Rattle.checkpoint.proofs.DecisionLaws.{OfGuards, lengths, soundness, notes, same, busy, unfit, beside}
use Rattle.checkpoint.proofs.PlainAnswers.{StoreFits, plainly, plain_never}
use Rattle.layout.specs.declared.header.Counts.{Counts}

-- ---- one live call beside the plain one
-- they agree, or the live one is busy, or a guard refused
record Alike (c : Call) (w : World) : Type 0 where
  answer : (live c w).answer ≡ (plain c w.store).answer
  store : (live c w).store ≡ (plain c w.store).store
  out : out_of c w ≡ (plain c w.store).out

data Between (c : Call) (w : World) : Type 0 where
  agree : Alike c w → Between c w
  locked : is_running w.desk ≡ true → live c w ≡ refuse Busy w.store w.image w.desk → Between c w
  stopped : {f : Refusal} → OfGuards f → (live c w).answer.number ≡ refusal_number f → (Ready w → ⊥) → Between c w

-- what is shown of one decision
same_answer : (w : World) (out : List ℕ) (p : Planned) → (leaves_in w p).answer ≡ (leaves w.store out p).answer
same_answer w out (does x) = refl
same_answer w out (refused e) = refl

same_store : (w : World) (out : List ℕ) (p : Planned) → (leaves_in w p).store ≡ (leaves w.store out p).store
same_store w out (does x) = refl
same_store w out (refused e) = refl

same_out : (s out : List ℕ) (p : Planned) → on_planned p (λ x. x.out) (λ e. out) ≡ (leaves s out p).out
same_out s out (does x) = refl
same_out s out (refused e) = refl

between : (c : Call) (w : World) → Between c w
unfolding live plain out_of
between c w = elim (beside c w) [
  | same e ↦ agree record {
    answer = ap (λ p. (leaves_in w p).answer) e ∙ same_answer w (given c) (plain_decision c w.store);
    store = ap (λ p. (leaves_in w p).store) e ∙ same_store w (given c) (plain_decision c w.store);
    out = ap (λ p. on_planned p (λ x. x.out) (λ e. given c)) e ∙ same_out w.store (given c) (plain_decision c w.store);
  }
  | busy r e ↦ locked r (ap (leaves_in w) e)
  | unfit g n e ↦ stopped g (ap (λ p. (leaves_in w p).answer.number) e) n
]

-- ---- the laws of one call
-- no guard of the buffers refused, and the copy was not in the way
pub record Passed (a : Told) : Type 0 where
  pub first : a.number ≡ 1 → ⊥
  pub second : a.number ≡ 2 → ⊥
  pub third : a.number ≡ 3 → ⊥
  pub fourteenth : a.number ≡ 14 → ⊥

not_guards : (a : Told) {f : Refusal} → Passed a → OfGuards f → a.number ≡ refusal_number f → ⊥
not_guards a h lengths e = h.first e
not_guards a h soundness e = h.second e
not_guards a h notes e = h.third e

not_busy : {f : Refusal} → OfGuards f → refusal_number f ≡ refusal_number Busy → ⊥
not_busy lengths e = omega arith
not_busy soundness e = omega arith
not_busy notes e = omega arith

busy_number : (w : World) (o : Outcome) → o ≡ refuse Busy w.store w.image w.desk → o.answer.number ≡ 14
busy_number w o e = ap (λ (x : Outcome). x.answer.number) e

-- a live call that passed is the plain store's
pub as_plain : (c : Call) (w : World) → Passed (live c w).answer
    → ((live c w).answer ≡ (plain c w.store).answer) × (((live c w).store ≡ (plain c w.store).store) × (out_of c w ≡ (plain c w.store).out))
as_plain c w h = elim (between c w) [
  | agree x ↦ (x.answer, (x.store, x.out))
  | locked r e ↦ absurd (h.fourteenth (busy_number w (live c w) e))
  | stopped g e n ↦ absurd (not_guards _ h g e)
]

-- where the buffers fit, a live call that is not busy is the plain store's, and 1 to 3 do not come
pub record Agrees (c : Call) (w : World) : Type 0 where
  pub answer : (live c w).answer ≡ (plain c w.store).answer
  pub store : (live c w).store ≡ (plain c w.store).store
  pub out : out_of c w ≡ (plain c w.store).out
  pub first : (live c w).answer.number ≡ 1 → ⊥
  pub second : (live c w).answer.number ≡ 2 → ⊥
  pub third : (live c w).answer.number ≡ 3 → ⊥

pub guards_pass : (c : Call) (w : World) → Ready w → ((live c w).answer.number ≡ 14 → ⊥) → Agrees c w
guards_pass c w f h =
    let g : StoreFits w.store = record { framed = f.framed; sound = f.sound } in
    let q = plainly c w.store in
    elim (between c w) [
      | agree x ↦ record {
        answer = x.answer;
        store = x.store;
        out = x.out;
        first = λ e. q.first g (ap (λ (t : Told). t.number) (sym x.answer) ∙ e);
        second = λ e. q.second g (ap (λ (t : Told). t.number) (sym x.answer) ∙ e);
        third = λ e. q.never.third (ap (λ (t : Told). t.number) (sym x.answer) ∙ e);
      }
      | locked r e ↦ absurd (h (busy_number w (live c w) e))
      | stopped g e n ↦ absurd (n f)
    ]

-- a busy call changes no buffer
pub record Keeps (c : Call) (w : World) : Type 0 where
  pub store : (live c w).store ≡ w.store
  pub image : (live c w).image ≡ w.image
  pub desk : (live c w).desk ≡ w.desk

pub busy_keeps : (c : Call) (w : World) → (live c w).answer.number ≡ 14 → Keeps c w
busy_keeps c w h = elim (between c w) [
  | agree x ↦ absurd ((plain_never c w.store).fourteenth (ap (λ (t : Told). t.number) (sym x.answer) ∙ h))
  | locked r e ↦ record { store = ap (λ (o : Outcome). o.store) e; image = ap (λ (o : Outcome). o.image) e; desk = ap (λ (o : Outcome). o.desk) e }
  | stopped g e n ↦ absurd (not_busy g (sym e ∙ h))
]

-- ---- the other events leave the store
guarded_store : (g : Result Counts Refusal) (s m d : List ℕ) (o : Outcome) → o.store ≡ s → (guarded g s m d o).store ≡ s
guarded_store (Ok c) s m d o h = h
guarded_store (Err e) s m d o h = refl

step_store : (s m d : List ℕ) (n : ℕ) (x : Step) → (do_step s m d n x).store ≡ s
step_store s m d n (lock i) = refl
step_store s m d n (copy i k c) = refl
step_store s m d n (close i) = refl
step_store s m d n finish = refl
step_store s m d n full = refl

pub steps_keep : (w : World) → (outcome advances w).store ≡ w.store
unfolding outcome step
steps_keep w = guarded_store (three_guards w.store w.image w.desk) w.store w.image w.desk _
    (by_pick P (is_running w.desk) (step_store w.store w.image w.desk (inodes_in w.store) (step_of w.store w.image w.desk (inodes_in w.store))) refl)
  where
    P : Outcome → Type 0
    P x = x.store ≡ w.store

pub asks_keep : (w : World) → (outcome asks w).store ≡ w.store
unfolding outcome
asks_keep w = refl

pub starts_keep : (w : World) → (outcome starts w).store ≡ w.store
unfolding outcome start started
starts_keep w = guarded_store (start_guards w.store w.image w.desk) w.store w.image w.desk _ (by_pick P (is_running w.desk) refl refl)
  where
    P : Outcome → Type 0
    P x = x.store ≡ w.store

-- ---- the list
-- the buffers fit at every moment
abbrev pub ReadyThroughout : List Event → World → Type 0
ReadyThroughout es w = (v : World) → Moment es w v → Ready v

-- a plain store that goes on from the same bytes
from_same : (es : List Event) (w : World) (s : List ℕ) → AsPlain es w → w.store ≡ s → ((run es w).store ≡ plain_run (heard es w) s) × (replies es w ≡ plain_replies (heard es w) s)
from_same es w s h e = (h.store ∙ ap (plain_run (heard es w)) e, h.answers ∙ ap (plain_replies (heard es w)) e)

-- the first event is none that the plain store hears
busy_first : (c : Call) (es : List Event) (w : World) → is_busy c w ≡ true → AsPlain es (next (call c) w) → AsPlain (call c ∷ es) w
unfolding run heard replies next outcome
busy_first c es w b h =
    let k : (next (call c) w).store ≡ w.store = (busy_keeps c w (eqb-true (live c w).answer.number 14 b)).store in
    let r = from_same es (next (call c) w) w.store h k in
    record { store = rw b r.0; answers = rw b r.1 }

heard_first : (c : Call) (es : List Event) (w : World) → is_busy c w ≡ false → Ready w → AsPlain es (next (call c) w) → AsPlain (call c ∷ es) w
unfolding run heard replies next outcome plain_run plain_replies
heard_first c es w b f h =
    let g = guards_pass c w f (λ e. clash (is_busy c w) (eq-eqb (live c w).answer.number 14 e) b) in
    let r = from_same es (next (call c) w) (plain c w.store).store h g.store in
    record {
      store = rw b r.0;
      answers = rw b (rw (g.answer, g.out, r.1) refl);
    }

-- the store's bytes and the answers are the plain store's
pub run_plain : (es : List Event) (w : World) → ReadyThroughout es w → AsPlain es w
unfolding run heard replies plain_run plain_replies next
run_plain [] w h = record { store = refl; answers = refl }
run_plain (call c ∷ es) w h = go (is_busy c w) refl (run_plain es (next (call c) w) (λ v m. h v (after m)))
  where
    go : (b : Bool) → is_busy c w ≡ b → AsPlain es (next (call c) w) → AsPlain (call c ∷ es) w
    go true e r = busy_first c es w e r
    go false e r = heard_first c es w e (h w here) r
run_plain (advances ∷ es) w h =
    let r = from_same es (next advances w) w.store (run_plain es (next advances w) (λ v m. h v (after m))) (steps_keep w) in
    record { store = r.0; answers = r.1 }
run_plain (asks ∷ es) w h =
    let r = from_same es (next asks w) w.store (run_plain es (next asks w) (λ v m. h v (after m))) (asks_keep w) in
    record { store = r.0; answers = r.1 }
run_plain (starts ∷ es) w h =
    let r = from_same es (next starts w) w.store (run_plain es (next starts w) (λ v m. h v (after m))) (starts_keep w) in
    record { store = r.0; answers = r.1 }
