-- What the call answers and leaves, by what was found before.
use Rattle.std.specs.Prelude.{Err, Ok}
use Prim.Native.Nat.{ℕ}
use mathlib.Core.Path.{◌≡◌, refl, ap, ◌∙◌}
use mathlib.Core.Bool.{true, false, ◌&&◌}
use mathlib.Core.List.{List}
use lib.ListN.{length}
use Rattle.answers.specs.declared.Refusal.TheVariants.{BadBuffer, BadTimes}
use Rattle.bounded.specs.Reflect.{Reflects}
use Rattle.bounded.proofs.ReflectLaws.{r_and, r_le}
use Rattle.laps.specs.Times.{allowed}
use Rattle.laps.specs.Walk.{Lists, report}
use Rattle.laps.specs.Call.{room, Room, left, over, match_laps}

pub room_decides : (w m : List ℕ) (o : Lists) → Reflects (room w m o) (Room w m o)
room_decides w m o = r_and (r_and (r_le _ _) (r_le _ _)) (r_and (r_le _ _) (r_le _ _))

module _ (w m : List ℕ) (o : Lists) where
  pub refused_times : allowed w && allowed m ≡ false → left (Err BadTimes) o ≡ match_laps w m o
  unfolding match_laps
  refused_times h = rw h refl

  pub refused_room : allowed w && allowed m ≡ true → room w m o ≡ false → left (Err BadBuffer) o ≡ match_laps w m o
  unfolding match_laps
  refused_room h k = rw (h, k) refl

  pub accepted : allowed w && allowed m ≡ true → room w m o ≡ true → left (Ok (length (report w m).paired_watch)) (over (report w m) o) ≡ match_laps w m o
  unfolding match_laps
  accepted h k = rw (h, k) refl

  -- as the code has it
  pub done : allowed w && allowed m ≡ true → room w m o ≡ true → (p : ℕ) (v : Lists) → p ≡ length (report w m).paired_watch → v ≡ over (report w m) o → left (Ok p) v ≡ match_laps w m o
  done h k p v e f = ap (λ (n : ℕ). left (Ok n) v) e ∙ ap (λ (u : Lists). left (Ok (length (report w m).paired_watch)) u) f ∙ accepted h k
