-- What each event does to a world in which a copy runs. n and b are the counts of inodes and image blocks.
use Rattle.std.specs.Prelude.{Ok, Some}
use Prim.Native.Nat.{ℕ, ◌+◌, ◌≤◌, ◌<◌}
use mathlib.Core.Path.{◌≡◌, refl, sym, ap, ◌∙◌}
use mathlib.Core.Logic.{◌≢◌}
use mathlib.Core.Bool.{true}
use mathlib.Core.List.{List}
use native.Mathlib.Omega.{arith}
use lib.ListN.{length}
use Rattle.layout.specs.Inode.{size_of}
use Rattle.blocks.specs.Block.{blocks_used, kth_block}
use Rattle.blocks.specs.Free.{named_by}
use Rattle.checkpoint.specs.Fit.{image_long}
use Rattle.desk.specs.Sizes.{desk_header_bytes}
use Rattle.desk.specs.declared.Desk.{Desk}
use Rattle.desk.specs.Next.{locking, copying_one, unlocking}
use Rattle.desk.specs.Desk.{desk_of, put_copied}
use Rattle.desk.proofs.DeskLaws.{desk_put_desk, length_put_copied}
use Rattle.sound.specs.Sound.{inodes_in}
use Rattle.preservation.proofs.StoreLaws.{sound_store}
use Rattle.copy_theory.specs.View.{Tidy}
use Rattle.copy_theory.specs.Deed.{Deed, locks, closes, rests}
use Rattle.copy_theory.specs.Holds.{Ended}
use Rattle.copy_theory.proofs.HoldsLaws.{holds_does}
use Rattle.answers.specs.Told.{told}
use Rattle.checkpoint.specs.Copier.{Step, lock, copy, close, finish, full, step_of, target_block}
use Rattle.checkpoint.specs.Live.{World, do_step, Outcome}
use Rattle.checkpoint.specs.List.{advances, outcome, next}
use Rattle.checkpoint.proofs.Copy.Seen.{seen}
use Rattle.checkpoint.proofs.Copy.Laid.{Laid}
use Rattle.checkpoint.proofs.Copy.TidyLaws.{store_tidy}
use Rattle.checkpoint.proofs.Step.LockLaws.{lock_laid, lock_locked}
use Rattle.checkpoint.proofs.Step.CopyLaws.{copy_laid, copy_quiet, copy_now}
use Rattle.checkpoint.proofs.Step.CloseFacts.{Closing}
use Rattle.checkpoint.proofs.Step.CloseLaws.{close_laid}
use Rattle.checkpoint.proofs.Step.CloseSeen.{close_closed}
use Rattle.checkpoint.proofs.Copy.ChosenLaws.{Chosen, will_lock, will_copy, will_close, will_finish, no_room, chosen, chosen_ended}
use Rattle.checkpoint.proofs.Run.Going.{seen_in, Running, locked_used, step_does, left_in, next_is}

-- nothing is left to copy, and the next step finishes
pub record Finishes (n b : ℕ) (w : World) : Type 0 where
  pub none : (desk_of w.desk).locked ≡ 0
  pub ended : Ended (seen_in n w)
  pub is : step_of w.store w.image w.desk n ≡ finish

-- the next step is refused with 16
pub record Fills (n b : ℕ) (w : World) : Type 0 where
  pub locked : (desk_of w.desk).locked ≢ 0
  pub left : (desk_of w.desk).transferred < blocks_used (size_of w.store (desk_of w.desk).locked)
  pub all : (c : ℕ) → 1 ≤ c → c ≤ (desk_of w.desk).blocks → named_by (image_long w.store w.image w.desk) w.image n c ≡ true
  pub is : step_of w.store w.image w.desk n ≡ full

-- the copy runs on, and the theory knows what was done
pub record Goes (n b : ℕ) (w v : World) : Type 0 where
  pub still : Running n b v
  pub deed : Deed n (seen_in n w) (seen_in n v)

-- a step: it goes on with one accepted, or it finishes, or 16
pub data Stepped (n b : ℕ) (w : World) : Type 0 where
  on : Goes n b w (next advances w) → (desk_of (next advances w).desk).steps ≡ (desk_of w.desk).steps + 1 → (outcome advances w).answer ≡ told (Ok ((desk_of w.desk).steps + 1)) → Stepped n b w
  ends : Finishes n b w → Stepped n b w
  halts : Fills n b w → Stepped n b w

module _ (n b : ℕ) (w : World) (r : Running n b w) where
  -- what goes on after the step p
  abbrev after : (p : Step) → World
  after p = left_in (do_step w.store w.image w.desk n p)

  tidy : (m d : List ℕ) → Tidy n (seen n w.store m d).store
  unfolding seen
  tidy m d = store_tidy w.store n r.sound r.count

  goes : (v : World) → v.store ≡ w.store → Laid n b w.store v.image v.desk → Deed n (seen_in n w) (seen n w.store v.image v.desk) → Goes n b w v
  goes v e k d = record {
    still = record {
      count = r.count ∙ ap inodes_in (sym e);
      sound = rw e r.sound;
      laid = rw e k;
      holds = rw e (holds_does n (seen_in n w) (seen n w.store v.image v.desk) r.holds d (tidy v.image v.desk));
    };
    deed = rw e d;
  }

  step_on : (p : Step) → step_of w.store w.image w.desk n ≡ p → Goes n b w (after p) → (desk_of (after p).desk).steps ≡ (desk_of w.desk).steps + 1
      → (do_step w.store w.image w.desk n p).answer ≡ told (Ok ((desk_of w.desk).steps + 1)) → Stepped n b w
  step_on p e g c a =
      let h : next advances w ≡ after p = next_is advances w _ (step_does r p e) in
      on (rw h g) (ap (λ (v : World). (desk_of v.desk).steps) h ∙ c) (ap (λ (o : Outcome). o.answer) (step_does r p e) ∙ a)

  long : desk_header_bytes ≤ length w.desk
  long = let e = r.laid.desk.long in omega arith

  chose : (p : Step) → step_of w.store w.image w.desk n ≡ p → Chosen w.store w.image w.desk n p → Stepped n b w
  chose p e (will_lock l none low high new by) =
      step_on (lock l) e
      (goes (after (lock l)) refl (lock_laid r.laid l none low high new) (locks l (lock_locked r.laid l none low high new by)))
      (ap (λ (x : Desk). x.steps) (desk_put_desk w.desk (locking (desk_of w.desk) l) long))
      refl
  chose p e (will_copy c z l t) =
      let g : target_block (image_long w.store w.image w.desk) w.image n b (kth_block w.store n (desk_of w.desk).locked (desk_of w.desk).transferred) ≡ Some c
      = ap (λ (x : ℕ). target_block (image_long w.store w.image w.desk) w.image n x (kth_block w.store n (desk_of w.desk).locked (desk_of w.desk).transferred)) (sym r.laid.desk.blocks) ∙ t in
      step_on (copy (desk_of w.desk).locked (desk_of w.desk).transferred c) e
      (goes (after (copy (desk_of w.desk).locked (desk_of w.desk).transferred c)) refl
      (copy_laid r.laid r.sound r.count z l c g)
      (rests (copy_quiet r.laid r.sound r.count z l c g) (copy_now r.laid r.sound r.count z l c g)))
      (ap (λ (x : Desk). x.steps) (desk_put_desk w.desk (copying_one (desk_of w.desk)) long))
      refl
  chose p e (will_close z l) =
      let k : Closing n b w.store w.image w.desk = record { laid = r.laid; sound = sound_store r.sound r.count; on = z; used = locked_used r z; all = l } in
      let i = (desk_of w.desk).locked in
      step_on (close i) e
      (goes (after (close i)) refl (close_laid k) (closes i (close_closed k)))
      (ap (λ (x : Desk). x.steps) (desk_put_desk (put_copied w.desk i 1) (unlocking (desk_of w.desk)) (rw (length_put_copied w.desk i 1) long)))
      refl
  chose p e (will_finish none root each) = ends record { none = none; ended = chosen_ended r.laid (will_finish none root each) r.holds.high; is = e }
  chose p e (no_room z l all) = halts record { locked = z; left = l; all = all; is = e }

  pub stepped : Stepped n b w
  stepped = chose (step_of w.store w.image w.desk n) refl (chosen w.store w.image w.desk n r.laid.frame.some_inodes)
