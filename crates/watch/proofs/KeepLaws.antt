-- What a refused call leaves, on any world: everything as it was, save that 16, which comes to a step, or to a burst by its first step, stops the copy.
use Prim.Native.Nat.{ℕ, ◌≤◌}
use mathlib.Core.Path.{◌≡◌, refl, ap}
use mathlib.Core.Bool.{Bool, true, not, ◌&&◌}
use mathlib.Core.List.{List, [], ◌∷◌, ◌++◌}
use mathlib.Core.Logic.{◌⊎◌, inl, inr}
use native.Mathlib.Omega.{arith}
use borrow.Author.Tests.{eqb-true, eqb-false, not-true, not-false}
use lib.Dec.{eqb}
use lib.ListN.{length}
use Rattle.sound.specs.Test.{framed_b}
use Rattle.sound.specs.declared.Form.TheVariants.{Store}
use Rattle.bounded.proofs.BoolLaws.{and_left, and_right}
use Rattle.desk.specs.Sizes.{desk_header_bytes}
use Rattle.desk.specs.Desk.{desk_of, put_desk}
use Rattle.desk.specs.Next.{stopping}
use Rattle.answers.specs.declared.Refusal.TheVariants.{ImageFull}
use Rattle.answers.specs.Refusal.{refusal_number}
use Rattle.answers.specs.Told.{Told}
use Rattle.answers.specs.Order.{Row}
use Rattle.files.specs.Effect.{look_up, read, create, write, shorten, link, unlink, rename, rename_new}
use Rattle.checkpoint.specs.Fit.{desk_framed}
use Rattle.checkpoint.specs.Live.{World, Outcome, step, world}
use Rattle.checkpoint.specs.Table.{live_rows, look_up_table, read_table, create_table, write_table, shorten_table, link_table, unlink_table, rename_table, rename_new_table, start_table, step_table}
use Rattle.checkpoint.specs.List.{call, advances, asks, starts, outcome, next, refusal_of}
use Rattle.checkpoint.specs.Burst.{burst, Act, one, bursts}
use Rattle.checkpoint.specs.Progress.{Stopped}
use Rattle.checkpoint.proofs.Copy.FitLaws.{desk_framed_is}
use Rattle.checkpoint.proofs.RefusedLaws.{live_refused, start_refused, step_refused, burst_refused}
use Rattle.checkpoint.proofs.BurstTables.{Ends, lengths, number, first, counts, ends}
use Rattle.checkpoint.proofs.Run.Stops.{stop_leaves}
use Rattle.checkpoint.proofs.Run.Busies.{out_kept}
use Rattle.watch.specs.Answered.{ByTable, result, holds, passes, table_of, lent_to, GetsFull, by_step, by_first}
use Rattle.watch.specs.Received.{outcome_of, next_of, out_after}
use Rattle.watch.proofs.AnswerLaws.{by_table}

-- a table without it does not give it
abbrev lacks_full : List Row → Bool
lacks_full [] = true
lacks_full (r ∷ rs) = not (eqb (refusal_number r.refusal) (refusal_number ImageFull)) && lacks_full rs

not_full : {vs : List ℕ} {rs : List Row} {t : Told} → ByTable vs rs t → lacks_full rs ≡ true → t.number ≡ refusal_number ImageFull → ⊥
not_full result l h = omega arith
not_full (holds {r} {rs} p) l h =
    eqb-false (refusal_number r.refusal) (refusal_number ImageFull) (not-true (eqb (refusal_number r.refusal) (refusal_number ImageFull)) (and_left (not (eqb (refusal_number r.refusal) (refusal_number ImageFull))) (lacks_full rs) l)) h
not_full (passes {r} {rs} p b) l h = not_full b (and_right (not (eqb (refusal_number r.refusal) (refusal_number ImageFull))) (lacks_full rs) l) h

-- it comes to a step or a burst alone
data Tries : Act → Type 0 where
  a_step : Tries (one advances)
  a_burst : {k : ℕ} → Tries (bursts k)

step_alone : (w : World) (x : Act) → Tries x ⊎ (lacks_full (table_of x w) ≡ true)
unfolding table_of look_up_table read_table create_table write_table shorten_table link_table unlink_table rename_table rename_new_table start_table
step_alone w (one (call (look_up d name))) = inr refl
step_alone w (one (call (read i o out))) = inr refl
step_alone w (one (call (create d name k))) = inr refl
step_alone w (one (call (write i o xs))) = inr refl
step_alone w (one (call (shorten i z))) = inr refl
step_alone w (one (call (link d name i))) = inr refl
step_alone w (one (call (unlink d name))) = inr refl
step_alone w (one (call (rename d name e other))) = inr refl
step_alone w (one (call (rename_new d name e other))) = inr refl
step_alone w (one starts) = inr refl
step_alone w (one advances) = inl a_step
step_alone w (one asks) = inr refl
step_alone w (bursts k) = inl a_burst

-- the guards let it through
framed_if_full : (s m d : List ℕ) {vs : List ℕ} {rs : List Row} {t : Told} → ByTable vs (live_rows s m d ++ rs) t → t.number ≡ refusal_number ImageFull → desk_framed d ≡ true
framed_if_full s m d (holds h) k = absurd (omega arith)
framed_if_full s m d (passes h b) k = and_right (framed_b Store s) (desk_framed d) (not-false (framed_b Store s && desk_framed d) h)

module _ (w : World) where
  abbrev stopped_desk : List ℕ
  stopped_desk = put_desk w.desk (stopping (desk_of w.desk))

  -- what it leaves
  full_leaves : refusal_of advances w ≡ refusal_number ImageFull → next advances w ≡ world w.store w.image stopped_desk
  unfolding next outcome
  full_leaves h = (step_refused w).stops h

  desk_there : refusal_of advances w ≡ refusal_number ImageFull → desk_header_bytes ≤ length w.desk
  unfolding table_of step_table
  desk_there h = let l = ((desk_framed_is w.desk).to (framed_if_full w.store w.image w.desk (by_table w (one advances)) h)).1.1 in omega arith

  full_stops : refusal_of advances w ≡ refusal_number ImageFull → Stopped w (next advances w)
  full_stops h = rw (full_leaves h) (stop_leaves w (desk_there h))

  -- a burst's is that of its first step
  burst_full : (k : ℕ) → (burst k w).answer.number ≡ refusal_number ImageFull → burst k w ≡ step w.store w.image w.desk
  burst_full k h = go (ends k w)
    where
      go : Ends k w → burst k w ≡ step w.store w.image w.desk
      go (lengths f e t) = absurd (omega (arith, ap (λ (o : Outcome). o.answer.number) e))
      go (number f a e t) = absurd (omega (arith, ap (λ (o : Outcome). o.answer.number) e))
      go (first f a r e t) = e
      go (counts f a r e) = absurd (omega (arith, ap (λ (t : Told). t.number) e))

  pub stops : (x : Act) → (outcome_of x w).answer.number ≡ refusal_number ImageFull → GetsFull w x × Stopped w (next_of x w)
  unfolding next outcome
  stops x h = elim (step_alone w x) [
    | inl s ↦ go s h
    | inr l ↦ absurd (not_full (by_table w x) l h)
  ]
    where
      go : {y : Act} → Tries y → (outcome_of y w).answer.number ≡ refusal_number ImageFull → GetsFull w y × Stopped w (next_of y w)
      go a_step q = (by_step, full_stops q)
      go (a_burst {k}) q = let e = burst_full k q in let r = rw e at q in (by_first r, rw e (full_stops r))

  -- ---- the other refusals
  pub keeps : (x : Act) → ((outcome_of x w).answer.number ≡ 0 → ⊥) → ((outcome_of x w).answer.number ≡ refusal_number ImageFull → ⊥) → next_of x w ≡ w
  unfolding outcome
  keeps (one (call c)) n f = live_refused w c n
  keeps (one starts) n f = start_refused w n
  keeps (one advances) n f = (step_refused w).keeps n f
  keeps (one asks) n f = refl
  keeps (bursts k) n f = (burst_refused w k).keeps n f

  -- a read's out-buffer
  pub out_keeps : (x : Act) → ((outcome_of x w).answer.number ≡ 0 → ⊥) → out_after x w ≡ lent_to x
  out_keeps (one (call c)) n = out_kept c w (λ a. n (eqb-true (refusal_of (call c) w) 0 a))
  out_keeps (one starts) n = refl
  out_keeps (one advances) n = refl
  out_keeps (one asks) n = refl
  out_keeps (bursts k) n = refl
