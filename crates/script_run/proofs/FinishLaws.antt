-- Whatever the lines of a script, a copy that a line finishes is sound and has the store's inode count, so that a listing always has what it asks for.
use Rattle.std.specs.Prelude.{Err, Ok, Result}
use Prim.Native.Nat.{ℕ, zero, suc, ◌≤◌}
use mathlib.Core.Path.{◌≡◌, refl, sym, ap, ◌∙◌, subst}
use mathlib.Core.Bool.{Bool, true, false, ◌||◌}
use mathlib.Core.List.{List, [], ◌∷◌}
use native.Mathlib.Omega.{arith}
use borrow.Author.Tests.{le-leb, eq-eqb, eqb-false}
use lib.Dec.{eqb}
use lib.ListN.{length, replicate, length-replicate}
use Rattle.bounded.specs.Search.{pick}
use Rattle.bounded.proofs.BoolLaws.{clash, and_right}
use Rattle.layout.specs.Sizes.{most_inodes, is_complete}
use Rattle.layout.specs.Header.{header_of}
use Rattle.desk.specs.Sizes.{desk_length, running, desk_allowed}
use Rattle.desk.specs.Desk.{desk_of}
use Rattle.desk.specs.declared.Desk.{Desk}
use Rattle.sound.specs.Sound.{Sound, inodes_in}
use Rattle.sound.specs.declared.Form.TheVariants.{Image}
use Rattle.answers.specs.declared.Refusal.{Refusal}
use Rattle.answers.specs.declared.Refusal.TheVariants.{WrongState}
use Rattle.answers.specs.Told.{Told}
use Rattle.answers.proofs.RefusalLaws.{not_none}
use Rattle.files.specs.Guard.{on_guard}
use Rattle.format.specs.Format.{fresh_desk, lay_out_desk}
use Rattle.format.proofs.FreshLaws.{desk_fresh}
use Rattle.checkpoint.specs.Fit.{is_running, image_blocks}
use Rattle.checkpoint.specs.Live.{World, Outcome, refuse, three_guards, start, step}
use Rattle.checkpoint.specs.List.{Ready, Event, call, advances, asks, starts, outcome, next, accepted, completes}
use Rattle.checkpoint.proofs.RefusedLaws.{start_refused}
use Rattle.checkpoint.proofs.Run.Going.{Running, incomplete, next_is}
use Rattle.checkpoint.proofs.Run.Turned.{Stepped, on, ends, halts, stepped}
use Rattle.checkpoint.proofs.Run.Calls.{call_goes, asks_goes, starts_goes, asks_same}
use Rattle.checkpoint.proofs.Run.Starts.{opens, opened_runs}
use Rattle.checkpoint.proofs.Run.Rests.{Resting, idle}
use Rattle.checkpoint.proofs.Run.Ends.{finals, halted}
use Rattle.checkpoint.proofs.Run.Counts.{call_head}
use Rattle.checkpoint.proofs.Step.FinishSeen.{finish_inodes}
use Rattle.checkpoint.proofs.Copy.FitLaws.{notes_fit_is}
use Rattle.script_lines.specs.Ask.{Ask, event, stepping, none, ask_of}
use Rattle.script_run.specs.Reply as the
use Rattle.script_run.specs.Reply.{Ran, ran, reply, reply_to, answered, line_runs, world_after}
use Rattle.script_run.specs.Script.{lines_run, FinishesSound, script_inodes, fresh}
use Rattle.layout.specs.declared.header.Counts.{Counts}

-- ---- where no copy runs, a step is refused and changes nothing
module _ (w : World) (i : is_running w.desk ≡ false) where
  refusing : (g : Result Counts Refusal) → (e : Refusal) × (on_guard {A = Outcome} g (λ n b. refuse WrongState w.store w.image w.desk) (λ e. refuse e w.store w.image w.desk) ≡ refuse e w.store w.image w.desk)
  refusing (Ok c) = (WrongState, refl)
  refusing (Err e) = (e, refl)

  idle_step : (e : Refusal) × (outcome advances w ≡ (refuse e w.store w.image w.desk))
  unfolding outcome step
  idle_step = let r = refusing (three_guards w.store w.image w.desk) in (r.0, rw i (r.1))

  idle_not : accepted advances w ≡ false
  idle_not = let r = idle_step in ap (λ (o : Outcome). eqb o.answer.number 0) r.1 ∙ not_none r.0

  idle_same : next advances w ≡ w
  idle_same = let r = idle_step in next_is advances w _ r.1

-- ---- a script's worlds, of n inodes by the desk: no copy runs, or one runs as the theory of lists has it
data Reached (n : ℕ) (w : World) : Type 0 where
  asleep : is_running w.desk ≡ false → (desk_of w.desk).inodes ≡ n → Reached n w
  awake : (b : ℕ) → Running n b w → Reached n w

desk_count : (w : World) → Ready w → (desk_of w.desk).inodes ≡ inodes_in w.store
desk_count w r = ((notes_fit_is w.store w.image w.desk).to r.notes).1.0

rest_count : (n b : ℕ) (w : World) → Resting n b w → (desk_of w.desk).inodes ≡ n
rest_count n b w r = desk_count w r.fit ∙ sym r.count

same_running : (w v : World) → desk_of v.desk ≡ desk_of w.desk → is_running w.desk ≡ false → is_running v.desk ≡ false
unfolding is_running
same_running w v e i = ap (λ (h : Desk). eqb h.state running) e ∙ i

same_count : (w v : World) (n : ℕ) → desk_of v.desk ≡ desk_of w.desk → (desk_of w.desk).inodes ≡ n → (desk_of v.desk).inodes ≡ n
same_count w v n e c = ap (λ (h : Desk). h.inodes) e ∙ c

module _ (n : ℕ) where
  started : (w : World) → is_running w.desk ≡ false → (desk_of w.desk).inodes ≡ n → (b : Bool) → accepted starts w ≡ b → Reached n (next starts w)
  unfolding outcome next
  started w i c true a = let o = opens w a in awake _ (opened_runs n (image_blocks n (length w.image)) w o (sym c ∙ desk_count w o.ready) refl).runs
  started w i c false a = subst (Reached n) (sym (start_refused w (eqb-false (start w.store w.image w.desk).answer.number 0 a))) (asleep i c)

  step_reached : (b : ℕ) (w : World) → Running n b w → Stepped n b w → Reached n (next advances w)
  step_reached b w r (on g q a) = awake b g.still
  step_reached b w r (ends f) = let x = (finals n b w r f).rest in asleep (idle x) (rest_count n b (next advances w) x)
  step_reached b w r (halts f) = let x = (halted n b w r f).rest in asleep (idle x) (rest_count n b (next advances w) x)

  reached_next : (e : Event) (w : World) → Reached n w → Reached n (next e w)
  reached_next (call c) w (asleep i k) = let e = call_head c w in asleep (same_running w (next (call c) w) e i) (same_count w (next (call c) w) n e k)
  reached_next advances w (asleep i k) = subst (Reached n) (sym (idle_same w i)) (asleep i k)
  reached_next asks w (asleep i k) = subst (Reached n) (sym (asks_same w)) (asleep i k)
  reached_next starts w (asleep i k) = started w i k (accepted starts w) refl
  reached_next (call c) w (awake b r) = awake b (call_goes n b w r c).still
  reached_next advances w (awake b r) = step_reached b w r (stepped n b w r)
  reached_next asks w (awake b r) = awake b (asks_goes n b w r).still
  reached_next starts w (awake b r) = awake b (starts_goes n b w r).still

-- ---- a step that finishes, and the steps after it
abbrev Copied : ℕ → List ℕ → Type 0
Copied n m = Sound Image m × (inodes_in m ≡ n)

record Finished (n : ℕ) (w : World) : Type 0 where
  copied : Copied n w.image
  idle : is_running w.desk ≡ false

-- what a line leaves
record Left (n : ℕ) (r : Ran) : Type 0 where
  copied : r.reply.finished ≡ true → Copied n r.image
  reached : Reached n (record { store = r.store; image = r.image; desk = r.desk })

never : (t : Told) → (reply_to t).finished ≡ true → ⊥
never t e = clash false e refl

module _ (n : ℕ) where
  finishing : (w : World) → Reached n w → accepted advances w ≡ true → completes advances w ≡ true → Finished n (next advances w)
  finishing w (asleep i k) a c = absurd (clash (accepted advances w) a (idle_not w i))
  finishing w (awake b r) a c = go (stepped n b w r)
    where
      go : Stepped n b w → Finished n (next advances w)
      go (on g q h) = absurd (clash (eqb (header_of (next advances w).image).complete is_complete) (and_right (accepted advances w) _ c) (incomplete g.still))
      go (ends f) = let x = finals n b w r f in record { copied = (subst (Sound Image) (sym x.image) x.sound, ap inodes_in x.image ∙ finish_inodes r.laid); idle = idle x.rest }
      go (halts f) = absurd (clash (accepted advances w) a (ap (λ (t : Told). eqb t.number 0) (halted n b w r f).answer))

  carried : (w : World) (f : Bool) → Reached n w → (f ≡ true → Finished n w) → accepted advances w ≡ true → (f || completes advances w) ≡ true → Finished n (next advances w)
  carried w true h q a e = absurd (clash (accepted advances w) a (idle_not w (q refl).idle))
  carried w false h q a e = finishing w h a e

  steps_left : (k : ℕ) (w : World) (f : Bool) → Reached n w → (f ≡ true → Finished n w) → Left n (the.stepped k w f)
  unfolding the.stepped
  steps_left zero w f h q = record { copied = λ e. (q e).copied; reached = h }
  steps_left (suc k) w f h q = go (accepted advances w) refl (λ a. steps_left k (next advances w) (f || completes advances w) (reached_next n advances w h) (carried w f h q a))
    where
      go : (b : Bool) → accepted advances w ≡ b → (accepted advances w ≡ true → Left n (the.stepped k (next advances w) (f || completes advances w)))
          → Left n (pick b (the.stepped k (next advances w) (f || completes advances w)) (ran (reply (Err (outcome advances w).answer.number) f) (next advances w)))
      go true a more = more a
      go false a more = record { copied = λ e. subst (λ (v : World). Copied n v.image) (sym (idle_same w (q e).idle)) (q e).copied; reached = reached_next n advances w h }

  line_left : (a : Ask) (w : World) → Reached n w → Left n (answered a w)
  line_left (event e) w h = record { copied = λ q. absurd (never (outcome e w).answer q); reached = reached_next n e w h }
  line_left (stepping k) w h = steps_left k w false h (λ e. absurd (clash false e refl))
  line_left none w h = record { copied = λ q. absurd (clash false q refl); reached = h }

  -- ---- lines
  reached_lines : (ls : List (List ℕ)) (w : World) → Reached n w → Reached n (lines_run ls w)
  unfolding lines_run line_runs
  reached_lines [] w h = h
  reached_lines (l ∷ ls) w h = reached_lines ls (world_after l w) (line_left (ask_of l) w h).reached

pub finishes_sound : (w : World) → is_running w.desk ≡ false → (desk_of w.desk).inodes ≡ script_inodes → FinishesSound w
unfolding line_runs
finishes_sound w i c ls l e = (line_left script_inodes (ask_of l) (lines_run ls w) (reached_lines script_inodes ls w (asleep i c))).copied e

-- ---- a desk that was laid out
laid_desk : (d : List ℕ) (n : ℕ) → length d ≡ desk_length n → 1 ≤ n → n ≤ most_inodes → desk_of (lay_out_desk d n).buffer ≡ desk_of (fresh_desk n)
unfolding lay_out_desk desk_allowed
laid_desk d n e l m = rw (le-leb 1 n l, le-leb n most_inodes m, eq-eqb (length d) (desk_length n) e) refl

pub fresh_finishes : FinishesSound fresh
unfolding fresh is_running
fresh_finishes =
    let h = laid_desk (replicate (desk_length script_inodes) 0) script_inodes (length-replicate {A = ℕ} (desk_length script_inodes) 0) (omega arith) (omega arith) ∙ desk_fresh script_inodes in
    finishes_sound fresh (ap (λ (x : Desk). eqb x.state running) h) (ap (λ (x : Desk). x.inodes) h)
