-- Laws of a line that is run: what the code's branches and turns leave is the definition's.
use Rattle.std.specs.Prelude.{Err, None, Ok, Option, Result, Some}
use Prim.Native.Nat.{ℕ, suc, ◌+◌, ◌-◌, ◌<◌}
use mathlib.Core.Path.{◌≡◌, refl, sym, ap, ap₂, ◌∙◌}
use mathlib.Core.Bool.{Bool, true, false, ◌||◌}
use mathlib.Core.List.{List}
use native.Mathlib.Omega.{arith}
use borrow.Author.Tests.{eq-eqb}
use lib.Dec.{eqb}
use Rattle.answers.specs.declared.Refusal.{Refusal}
use Rattle.answers.specs.Refusal.{refusal_number}
use Rattle.answers.specs.Told.{Answer, told}
use Rattle.answers.proofs.RefusalLaws.{not_none}
use Rattle.bounded.specs.Search.{pick}
use Rattle.layout.specs.Sizes.{is_complete}
use Rattle.layout.specs.Header.{header_of}
use Rattle.desk.specs.Desk.{desk_of}
use Rattle.files.specs.Effect.{Call}
use Rattle.checkpoint.specs.Live.{World, left, live, start, step, world, Outcome}
use Rattle.checkpoint.specs.List.{Event, call, advances, starts, outcome, next, refusal_of, accepted, completes}
use Rattle.script_lines.specs.Ask.{Ask, event, stepping, asked, ask_of, form_in, num}
use Rattle.script_lines.specs.declared.forms.Form.{Form}
use Rattle.script_lines.specs.declared.forms.Form.TheVariants.{Start, Step}
use Rattle.script_run.specs.Reply.{Ran, reply, ran, reply_to, stepped, answered, line_runs, number_in, finished_in, Turned}
use Rattle.script_run.specs.declared.Reply.{Reply}

-- ---- a step
module _ (s m d m₂ d₂ : List ℕ) (a : Answer) (e : left a s m₂ d₂ ≡ step s m d) where
  told_step : outcome advances (world s m d) ≡ left a s m₂ d₂
  unfolding outcome
  told_step = sym e

  number_is : refusal_of advances (world s m d) ≡ (told a).number
  number_is = ap (λ (o : Outcome). o.answer.number) told_step

  left_after : next advances (world s m d) ≡ world s m₂ d₂
  unfolding next
  left_after = ap (λ (o : Outcome). world o.store o.image o.desk) told_step

  pub turned_done : (x : ℕ) (f : Bool) → a ≡ Ok x → f ≡ eqb (header_of m₂).complete is_complete → Turned (Ok f) (world s m d) m₂ d₂
  turned_done x f h q =
      let z : refusal_of advances (world s m d) ≡ 0 = number_is ∙ rw h refl in
      record { number = sym z; finished = rw (z, left_after) q; after = left_after }

  pub turned_refused : (r : Refusal) → a ≡ Err r → Turned (Err r) (world s m d) m₂ d₂
  turned_refused r h =
      let z : refusal_of advances (world s m d) ≡ refusal_number r = number_is ∙ rw h refl in
      record { number = sym z; finished = rw (z, not_none r) refl; after = left_after }

-- ---- steps, one after the other; j are left
pub step_begin : (n : ℕ) (w : World) → stepped n w false ≡ stepped (n - 0) w false
step_begin n w = let q : n ≡ n - 0 = omega arith in ap (λ (i : ℕ). stepped i w false) q

picked : (b : Bool) (x y : Ran) → b ≡ true → pick b x y ≡ x
picked b x y e = rw e refl

step_more : (k : ℕ) (w : World) (f : Bool) → accepted advances w ≡ true → stepped (suc k) w f ≡ stepped k (next advances w) (f || completes advances w)
unfolding stepped
step_more k w f e = picked (accepted advances w) _ _ e

module _ (s m d m₂ d₂ : List ℕ) (t : Result Bool Refusal) (f : Bool) (j : ℕ) (l : 0 < j) (h : Turned t (world s m d) m₂ d₂) where
  pub step_refused : (r : Refusal) → t ≡ Err r → (k : ℕ) → k ≡ refusal_number r → ran (reply (Err k) f) (world s m₂ d₂) ≡ stepped j (world s m d) f
  unfolding stepped
  step_refused r e k p =
      let q : j ≡ suc (j - 1) = omega arith in
      let n : refusal_number r ≡ refusal_of advances (world s m d) = sym (ap number_in e) ∙ h.number in
      rw (q, p, ← n, not_none r, h.after) refl

  pub step_on : (b : Bool) → t ≡ Ok b → (k : ℕ) (o : Bool) → k + 1 ≡ j → o ≡ (f || b) → stepped j (world s m d) f ≡ stepped k (world s m₂ d₂) o
  step_on b e k o p u =
      let q : j ≡ suc k = omega arith in
      ap (λ (i : ℕ). stepped i (world s m d) f) q
      ∙ step_more k (world s m d) f (eq-eqb _ 0 (sym h.number ∙ ap number_in e))
      ∙ ap₂ (λ (v : World) (x : Bool). stepped k v (f || x)) h.after (sym h.finished ∙ ap finished_in e)
      ∙ ap (stepped k (world s m₂ d₂)) (sym u)

pub step_end : (w : World) (f : Bool) (j n : ℕ) → j ≡ 0 → n ≡ (desk_of w.desk).steps → ran (reply (Ok n) f) w ≡ stepped j w f
unfolding stepped
step_end w f j n e h = rw (e, h) refl

-- ---- a line
told_event : (e : Event) (w : World) (a : Answer) (s m d : List ℕ) → left a s m d ≡ outcome e w → ran (reply_to (told a)) (world s m d) ≡ answered (event e) w
unfolding next
told_event e w a s m d g = ap (λ (o : Outcome). ran (reply_to o.answer) (world o.store o.image o.desk)) g

module _ (l : List ℕ) (w : World) (t : Option Form) (e : t ≡ form_in l) where
  pub line_none : t ≡ None → ran (reply (Err 0) false) w ≡ line_runs l w
  unfolding line_runs ask_of
  line_none h = rw (← e, h) refl

  module _ (f : Form) (h : t ≡ Some f) where
    line_asks : (a : Ask) → asked f l ≡ a → answered a w ≡ line_runs l w
    unfolding line_runs ask_of
    line_asks a q = rw (← e, h, q) refl

    pub line_steps : f ≡ Step → (v : World) (r : Reply) (k : ℕ) → k ≡ num l 1 → ran r v ≡ stepped k w false → ran r v ≡ line_runs l w
    line_steps q v r k p g = g ∙ ap (λ (x : ℕ). stepped x w false) p ∙ line_asks (stepping (num l 1)) (rw q refl)

    line_event : (n : Event) (a : Answer) (s m d : List ℕ) (r : Reply) → left a s m d ≡ outcome n w → asked f l ≡ event n → r ≡ reply_to (told a) → ran r (world s m d) ≡ line_runs l w
    line_event n a s m d r g q p = ap (λ (x : Reply). ran x (world s m d)) p ∙ told_event n w a s m d g ∙ line_asks (event n) q

    pub line_calls : (c : Call) (a : Answer) (s m d : List ℕ) (r : Reply) → left a s m d ≡ live c w → asked f l ≡ event (call c) → r ≡ reply_to (told a) → ran r (world s m d) ≡ line_runs l w
    unfolding outcome
    line_calls c a s m d r g q p = line_event (call c) a s m d r g q p

    pub line_starts : f ≡ Start → (a : Answer) (s m d : List ℕ) (r : Reply) → left a s m d ≡ start w.store w.image w.desk → r ≡ reply_to (told a) → ran r (world s m d) ≡ line_runs l w
    unfolding outcome
    line_starts q a s m d r g p = line_event starts a s m d r g (rw q refl) p
