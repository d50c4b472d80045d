-- A refusal "changes no lent buffer, save that 16 marks the copy stopped and unlocks what was being copied".
use Rattle.std.specs.Prelude.{Ok}
use mathlib.Core.Path.{◌≡◌, refl, sym, ap, subst}
use mathlib.Core.Bool.{Bool, false, not}
use mathlib.Core.List.{List}
use native.Mathlib.Omega.{arith}
use borrow.Author.Tests.{eqb-false}
use Prim.Native.Nat.{ℕ}
use lib.Dec.{eqb}
use Rattle.bounded.proofs.SearchLaws.{by_pick}
use Rattle.desk.specs.Desk.{desk_of, put_desk}
use Rattle.desk.specs.Next.{stopping}
use Rattle.sound.specs.Sound.{inodes_in}
use Rattle.sound.specs.declared.Form.TheVariants.{Store}
use Rattle.sound.specs.Test.{is_sound}
use Rattle.answers.specs.declared.Refusal.{Refusal}
use Rattle.answers.specs.declared.Refusal.TheVariants.{BadBuffer, UnsoundStore, BadDesk, WrongState, ImageFull, BadCount}
use Rattle.answers.specs.Told.{Told}
use Rattle.answers.specs.Refusal.{refusal_number}
use Rattle.files.specs.Effect.{Call, Planned, refused, does}
use Rattle.checkpoint.specs.Fit.{is_running, notes_fit, both_framed, all_framed}
use Rattle.checkpoint.specs.Copier.{step_of, Step, lock, copy, close, finish, full}
use Rattle.checkpoint.specs.Live.{World, world, Outcome, left, world_in, refuse, decision, leaves_in, live, do_step, started, start, step}
use Rattle.checkpoint.specs.Burst.{burst}
use Rattle.checkpoint.proofs.DecisionLaws.{chained, three_is, start_is}
use Rattle.checkpoint.proofs.BurstTables.{Ends, lengths, number, first, counts, ends}

-- a refused call leaves the buffers as they were
abbrev pub Keeps : World → Outcome → Type 0
Keeps w o = (o.answer.number ≡ 0 → ⊥) → world_in o ≡ w

-- 16 "sets state 3 and fields 6-9 to zero and changes nothing more"
pub record KeepsBut16 (w : World) (o : Outcome) : Type 0 where
  pub keeps : (o.answer.number ≡ 0 → ⊥) → (o.answer.number ≡ refusal_number ImageFull → ⊥) → world_in o ≡ w
  pub stops : o.answer.number ≡ refusal_number ImageFull → world_in o ≡ world w.store w.image (put_desk w.desk (stopping (desk_of w.desk)))

module _ (w : World) where
  chained_has : (P : Outcome → Type 0) (a : Bool) (o : Outcome)
      → P (refuse BadBuffer w.store w.image w.desk)
      → P (refuse UnsoundStore w.store w.image w.desk)
      → P (refuse BadDesk w.store w.image w.desk)
      → P o
      → P (chained a w.store w.image w.desk o)
  chained_has P a o f g h k =
      by_pick P (not a) f
      (by_pick P (not (is_sound Store w.store)) g
      (by_pick P (not (notes_fit w.store w.image w.desk)) h k))

  pub start_refused : Keeps w (start w.store w.image w.desk)
  unfolding started
  start_refused =
      subst (Keeps w) (sym (start_is w.store w.image w.desk))
      (chained_has (Keeps w) (all_framed w.store w.image w.desk) _ (λ n. refl) (λ n. refl) (λ n. refl)
      (by_pick (Keeps w) (is_running w.desk) (λ n. refl) (λ n. absurd (n refl))))

  not_16 : (f : Refusal) → eqb (refusal_number f) (refusal_number ImageFull) ≡ false → KeepsBut16 w (refuse f w.store w.image w.desk)
  not_16 f e = record { keeps = λ n g. refl; stops = λ h. absurd (eqb-false (refusal_number f) (refusal_number ImageFull) e h) }

  done : (x : ℕ) (s m d : List ℕ) → KeepsBut16 w (left (Ok x) s m d)
  done x s m d = record { keeps = λ n g. absurd (n refl); stops = λ h. absurd (omega arith) }

  step_does : (p : Step) → KeepsBut16 w (do_step w.store w.image w.desk (inodes_in w.store) p)
  step_does (lock i) = done _ _ _ _
  step_does (copy i k c) = done _ _ _ _
  step_does (close i) = done _ _ _ _
  step_does finish = done _ _ _ _
  step_does full = record { keeps = λ n g. absurd (g refl); stops = λ h. refl }

  pub step_refused : KeepsBut16 w (step w.store w.image w.desk)
  unfolding step
  step_refused =
      subst (KeepsBut16 w) (sym (three_is w.store w.image w.desk _))
      (chained_has (KeepsBut16 w) (both_framed w.store w.desk) _ (not_16 BadBuffer refl) (not_16 UnsoundStore refl) (not_16 BadDesk refl)
      (by_pick (KeepsBut16 w) (is_running w.desk) (step_does (step_of w.store w.image w.desk (inodes_in w.store))) (not_16 WrongState refl)))

  -- a burst gets 1, 17, or the refusal of its first step
  pub burst_refused : (k : ℕ) → KeepsBut16 w (burst k w)
  burst_refused k = go (ends k w)
    where
      go : Ends k w → KeepsBut16 w (burst k w)
      go (lengths f o t) = subst (KeepsBut16 w) (sym o) (not_16 BadBuffer refl)
      go (number f a o t) = subst (KeepsBut16 w) (sym o) (not_16 BadCount refl)
      go (first f a r o t) = subst (KeepsBut16 w) (sym o) step_refused
      go (counts f a r o) = record { keeps = λ n g. absurd (n (ap (λ (t : Told). t.number) o)); stops = λ h. absurd (omega (arith, ap (λ (t : Told). t.number) o)) }

  -- a file call
  leaves_keeps : (p : Planned) → Keeps w (leaves_in w p)
  leaves_keeps (does x) n = absurd (n refl)
  leaves_keeps (refused f) n = refl

  pub live_refused : (c : Call) → Keeps w (live c w)
  unfolding live
  live_refused c = leaves_keeps (decision c w)
