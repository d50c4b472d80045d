-- A world in which a copy runs, one in which it rests, and what each event does to a running one. n and b are the counts of inodes and image blocks.
use Prim.Native.Nat.{ℕ}
use mathlib.Core.Path.{◌≡◌, refl, sym, ap, ◌∙◌}
use mathlib.Core.Logic.{◌≢◌}
use mathlib.Core.Bool.{true, false}
use native.Mathlib.Omega.{arith}
use borrow.Author.Tests.{eq-eqb, ne_eqb}
use lib.Dec.{eqb}
use Rattle.bounded.proofs.RangeLaws.{within_in}
use Rattle.layout.specs.Sizes.{is_complete}
use Rattle.layout.specs.Header.{header_of}
use Rattle.layout.specs.Inode.{kind_of, free_kind}
use Rattle.desk.specs.Sizes.{running}
use Rattle.desk.specs.Desk.{desk_of}
use Rattle.sound.specs.Sound.{Sound, inodes_in}
use Rattle.sound.specs.declared.Form.TheVariants.{Store}
use Rattle.copy_theory.specs.View.{View}
use Rattle.copy_theory.specs.Holds.{Holds}
use Rattle.checkpoint.specs.Fit.{is_running, image_allowed}
use Rattle.checkpoint.specs.Copier.{Step, step_of}
use Rattle.checkpoint.specs.Live.{World, Outcome, guarded, do_step, step, three_guards, start, started}
use Rattle.checkpoint.specs.List.{Ready, Event, advances, outcome, next}
use Rattle.checkpoint.proofs.DecisionLaws.{three_is, start_is}
use Rattle.checkpoint.proofs.Copy.Seen.{shelf_of, seen}
use Rattle.checkpoint.proofs.Copy.Laid.{Laid}
use Rattle.checkpoint.proofs.Copy.FitLaws.{laid_ready}
use lib.ListN.{length}

-- the view of a world
abbrev pub seen_in : ℕ → World → View
seen_in n w = seen n w.store w.image w.desk

pub record Running (n b : ℕ) (w : World) : Type 0 where
  pub count : n ≡ inodes_in w.store
  pub sound : Sound Store w.store
  pub laid : Laid n b w.store w.image w.desk
  pub holds : Holds n (seen_in n w)

pub ready : {n b : ℕ} {w : World} → Running n b w → Ready w
ready r = laid_ready r.laid r.sound r.count

pub runs : {n b : ℕ} {w : World} → Running n b w → is_running w.desk ≡ true
unfolding is_running
runs {w = w} r = eq-eqb (desk_of w.desk).state running r.laid.desk.state

-- byte 8 of a running copy is 0
pub incomplete : {n b : ℕ} {w : World} → Running n b w → eqb (header_of w.image).complete is_complete ≡ false
incomplete {w = w} r = let e = r.laid.frame.complete in ne_eqb (header_of w.image).complete is_complete (λ z. omega arith)

-- the locked inode is in use
pub locked_used : {n b : ℕ} {w : World} → Running n b w → (desk_of w.desk).locked ≢ 0 → kind_of w.store (desk_of w.desk).locked ≢ free_kind
unfolding seen shelf_of
locked_used {n} {b} {w} r z f =
    let h = r.holds.lock z in
    let l = h.high in
    h.used (within_in n (kind_of w.store) (desk_of w.desk).locked (omega arith) l ∙ f)

-- ---- behind the guards
pub guards_pass : (w : World) → Ready w → (o : Outcome) → guarded (three_guards w.store w.image w.desk) w.store w.image w.desk o ≡ o
guards_pass w r o = three_is w.store w.image w.desk o ∙ rw (r.framed, r.desk, r.sound, r.notes) refl

pub start_passes : (w : World) → Ready w → image_allowed (inodes_in w.store) (length w.image) ≡ true → start w.store w.image w.desk ≡ started w.store w.image w.desk
start_passes w r a = start_is w.store w.image w.desk ∙ rw (r.framed, r.desk, a, r.sound, r.notes) refl

pub step_is : {n b : ℕ} {w : World} → Running n b w → outcome advances w ≡ do_step w.store w.image w.desk n (step_of w.store w.image w.desk n)
unfolding outcome step
step_is {n} {b} {w} r =
    (guards_pass w (ready r) _)
    ∙ rw (runs r) (ap (λ (k : ℕ). (do_step w.store w.image w.desk k (step_of w.store w.image w.desk k))) (sym r.count))

-- the same, once it is known what the step does
pub step_does : {n b : ℕ} {w : World} → Running n b w → (p : Step) → step_of w.store w.image w.desk n ≡ p → outcome advances w ≡ do_step w.store w.image w.desk n p
step_does {n} {b} {w} r p e = step_is r ∙ ap (λ (q : Step). (do_step w.store w.image w.desk n q)) e

-- a world after an outcome
abbrev pub left_in : Outcome → World
left_in o = record { store = o.store; image = o.image; desk = o.desk }

-- the same of what is shown
abbrev pub buffer_of : Outcome → World
buffer_of x = record { store = x.store; image = x.image; desk = x.desk }

pub next_is : (e : Event) (w : World) (x : Outcome) → outcome e w ≡ x → next e w ≡ buffer_of x
unfolding next
next_is e w x h = ap buffer_of h
