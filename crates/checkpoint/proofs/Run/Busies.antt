-- The copy is out of the way: whom 14 meets, and what a refused call leaves of its out-buffer. n and b are the counts of inodes and image blocks.
use Prim.Native.Nat.{ℕ, ◌≤◌}
use mathlib.Core.Path.{◌≡◌, refl, sym, ap, ◌∙◌, subst}
use mathlib.Core.Bool.{Bool, true, false}
use native.Mathlib.Omega.{arith}
use Rattle.bounded.specs.Search.{pick}
use Rattle.bounded.proofs.EachLaws.{Some}
use Rattle.sound.specs.Sound.{inodes_in, blocks_in}
use Rattle.answers.specs.Refusal.{refusal_number}
use Rattle.answers.specs.declared.Refusal.{Refusal}
use Rattle.answers.specs.declared.Refusal.TheVariants.{Busy}
use Rattle.files.specs.Effect.{Call, Effect, Planned, does, refused, planned, on_planned, given}
use Rattle.files.specs.Plain.{plain, leaves}
use Rattle.files.proofs.Lawful.{Each}
use Rattle.desk.specs.Desk.{desk_of}
use Rattle.checkpoint.specs.Busy.{any_locked, unless_busy}
use Rattle.checkpoint.specs.Live.{World, decision, leaves_in, live, out_of}
use Rattle.checkpoint.specs.List.{Ready, call, outcome, accepted, refusal_of}
use Rattle.checkpoint.specs.Progress.{Hinders, OnlyBusy, Calls}
use Rattle.checkpoint.proofs.DecisionLaws.{accepted_is}
use Rattle.checkpoint.proofs.PlainAnswers.{plain_never}
use Rattle.checkpoint.proofs.Call.LiveLaws.{ready_sound, ready_plain, ready_decides}
use Rattle.checkpoint.proofs.Run.Hinders.{locked_one, hinders}

module _ (c : Call) (w : World) (r : Ready w) where
  abbrev plan : Planned
  plan = planned c w.store (inodes_in w.store) (blocks_in w.store)

  -- a plan is never busy
  plan_free : (e : Refusal) → plan ≡ refused e → refusal_number e ≡ refusal_number Busy → ⊥
  unfolding plain
  plan_free e h k = (plain_never c w.store).fourteenth (ap (λ (q : Planned). (leaves w.store (given c) q).answer.number) (ready_plain c w r ∙ h) ∙ k)

  -- the plain store would accept it
  would : (x : Effect) → plan ≡ does x → (plain c w.store).answer.number ≡ 0
  unfolding plain
  would x h = ap (λ (q : Planned). (leaves w.store (given c) q).answer.number) (ready_plain c w r ∙ h)

  by_plan : (q : Planned) → plan ≡ q → (leaves_in w (unless_busy w.desk q)).answer.number ≡ refusal_number Busy → OnlyBusy c w
  by_plan (refused e) h k = absurd (plan_free e h k)
  by_plan (does x) h k = go (any_locked w.desk x.touches) refl k
    where
      go : (b : Bool) → any_locked w.desk x.touches ≡ b → (leaves_in w (pick b (refused Busy) (does x))).answer.number ≡ refusal_number Busy → OnlyBusy c w
      go false e k = absurd (omega arith)
      go true e k =
          let o = locked_one w.desk x.touches e in
          let k = subst (Each (λ y. (l : ℕ) → Some (λ i. l ≡ i) y.touches → (1 ≤ l) × Hinders w.store l c)) h (hinders w.store (ready_sound w r) c) (desk_of w.desk).locked o.1 in
          record { runs = o.0; locked = k.0; hinders = k.1; would = would x h }

  only_busy : refusal_of (call c) w ≡ refusal_number Busy → OnlyBusy c w
  unfolding outcome live
  only_busy k = by_plan plan refl (sym (ap (λ (q : Planned). (leaves_in w q).answer.number) (ready_decides c w r)) ∙ k)

pub out_kept : (c : Call) (w : World) → (accepted (call c) w ≡ true → ⊥) → out_of c w ≡ given c
unfolding out_of
out_kept c w n = go (decision c w) (λ e. n (accepted_is c w ∙ e))
  where
    go : (q : Planned) → (on_planned q (λ x. true) (λ e. false) ≡ true → ⊥) → on_planned q (λ x. x.out) (λ e. given c) ≡ given c
    go (does x) n = absurd (n refl)
    go (refused e) n = refl

pub calls : (w : World) → Ready w → Calls w
calls w r = record { busy = λ c. only_busy c w r; out = λ c. out_kept c w }
