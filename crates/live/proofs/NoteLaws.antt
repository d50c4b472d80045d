-- What a call writes on the desk while the copy runs, and what that leaves. d is the desk, n the inode count, e a directory, t a slot.
use Prim.Native.Nat.{ℕ, ◌≤◌}
use mathlib.Core.Path.{◌≡◌, refl, sym, ap, ◌∙◌}
use mathlib.Core.Bool.{Bool, true, false}
use mathlib.Core.List.{List}
use native.Mathlib.Omega.{arith}
use lib.ListN.{length}
use Rattle.bounded.specs.Search.{pick}
use Rattle.desk.specs.declared.Desk.{Desk}
use Rattle.desk.specs.Desk.{desk_of, clear_mark}
use Rattle.desk.specs.Next.{runs}
use Rattle.desk.proofs.DeskLaws.{length_clear_mark}
use Rattle.checkpoint.specs.Fit.{is_running}
use Rattle.image.proofs.CutLaws.{running_is}
use Rattle.checkpoint.specs.Notes.{note_taken}
use Rattle.checkpoint.proofs.Run.Counts.{taken_head}

-- ---- what is written only while the copy runs: h is the desk's header, r what the code has asked of it
module _ (d : List ℕ) (h : Desk) (q : h ≡ desk_of d) (r : Bool) (k : r ≡ runs h) (y : List ℕ) where
  pub while_running : r ≡ true → y ≡ pick (is_running d) y d
  while_running e = rw (sym (running_is d h q) ∙ sym k ∙ e) refl

  pub while_idle : r ≡ false → d ≡ pick (is_running d) y d
  while_idle e = rw (sym (running_is d h q) ∙ sym k ∙ e) refl

-- ---- a cleared mark leaves the desk as long as it was, and its header
module _ (d x : List ℕ) (n e t : ℕ) (q : x ≡ note_taken d n e t) where
  pub still_long : (k : ℕ) → k ≤ length d → k ≤ length x
  unfolding note_taken
  still_long k l = let z = ap length q ∙ go (is_running d) in omega arith
    where
      go : (b : Bool) → length (pick b (clear_mark d n e t) d) ≡ length d
      go true = length_clear_mark d n e t
      go false = refl

  pub still_read : (h : Desk) → h ≡ desk_of d → h ≡ desk_of x
  still_read h r = r ∙ sym (ap desk_of q ∙ taken_head d n e t)
