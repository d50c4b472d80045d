-- The three buffers after an accepted file call: how they lie, and what the theory of a running copy sees. b is the count of image blocks.
use Prim.Native.Nat.{ℕ}
use mathlib.Core.Path.{◌≡◌, refl, sym, ap, ◌∙◌, subst}
use mathlib.Core.Logic.{◌≢◌}
use mathlib.Core.Bool.{false}
use Rattle.layout.specs.Inode.{kind_of, free_kind}
use Rattle.desk.specs.Desk.{desk_of}
use Rattle.sound.specs.Sound.{inodes_in}
use Rattle.files.specs.Effect.{Call, Effect}
use Rattle.copy_theory.specs.Deed.{Called}
use Rattle.checkpoint.specs.Fit.{is_running}
use Rattle.checkpoint.specs.Live.{World}
use Rattle.checkpoint.specs.List.{Ready, call, next}
use Rattle.checkpoint.proofs.Copy.Seen.{seen}
use Rattle.checkpoint.proofs.Copy.Laid.{Laid}
use Rattle.checkpoint.proofs.Call.LiveLaws.{Does, ready_sound}
use Rattle.checkpoint.proofs.Call.CallNotes.{idle_call}
use Rattle.checkpoint.proofs.Call.CallLaid.{call_laid}
use Rattle.checkpoint.proofs.Call.CallSeen.{call_called}

module _ (c : Call) (w : World) (x : Effect) (k : Does c w x) where
  pub next_count : inodes_in (next (call c) w).store ≡ inodes_in w.store
  next_count = ap (λ (v : World). inodes_in v.store) k.after ∙ k.laws.frame.inodes

  -- the copy does not run
  pub idle_next : is_running w.desk ≡ false → ((next (call c) w).image ≡ w.image) × ((next (call c) w).desk ≡ w.desk)
  idle_next e =
      let r = idle_call w.image w.desk (inodes_in w.store) x.taken x.made e in
      (ap (λ (v : World). v.image) k.after ∙ r.0, ap (λ (v : World). v.desk) k.after ∙ r.1)

  -- it runs
  module _ (b : ℕ) (r : Ready w) (h : Laid (inodes_in w.store) b w.store w.image w.desk) where
    pub next_laid : ((desk_of w.desk).locked ≢ 0 → kind_of w.store (desk_of w.desk).locked ≢ free_kind)
        → Laid (inodes_in w.store) b (next (call c) w).store (next (call c) w).image (next (call c) w).desk
    next_laid u =
        subst (λ (v : World). Laid (inodes_in w.store) b v.store v.image v.desk) (sym k.after) (call_laid (ready_sound w r) refl h x k.laws k.free u)

    pub next_called : Called (seen (inodes_in w.store) w.store w.image w.desk) (seen (inodes_in w.store) (next (call c) w).store (next (call c) w).image (next (call c) w).desk)
    next_called =
        subst (λ (v : World). Called (seen (inodes_in w.store) w.store w.image w.desk) (seen (inodes_in w.store) v.store v.image v.desk)) (sym k.after)
        (call_called (ready_sound w r) refl h x k.laws k.free)
