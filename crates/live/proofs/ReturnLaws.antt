-- How a call over the three buffers returns: the guards stop it, or let it through to what follows. s is the store, m the image, d the desk.
use Rattle.std.specs.Prelude.{Err, Ok, Result}
use Rattle.std.specs.Result.{IsErrAnd}
use Prim.Native.Nat.{ℕ}
use mathlib.Core.Path.{◌≡◌, refl}
use mathlib.Core.Bool.{false}
use mathlib.Core.List.{List}
use Rattle.desk.specs.declared.Desk.{Desk}
use Rattle.desk.specs.Desk.{desk_of}
use Rattle.answers.specs.declared.Refusal.{Refusal}
use Rattle.answers.specs.Told.{Answer}
use Rattle.answers.proofs.RefusalLaws.{exit}
use Rattle.files.specs.Effect.{Call, planned}
use Rattle.checkpoint.specs.Busy.{unless_busy}
use Rattle.checkpoint.specs.Live.{Outcome, left, three_guards, store_alone, decision, leaves_in, live, world}
use Rattle.guards.specs.Handed.{handed, watched_by}
use Rattle.guards.proofs.GuardLaws.{opened, shut}
use Rattle.guards.specs.declared.Watched.{Watched}

-- r is what the guards have answered, o what the call leaves
module _ (c : Call) (own : store_alone c ≡ false) (s m d : List ℕ) (r : Result Watched Refusal) (e : r ≡ handed (three_guards s m d) (desk_of d)) where
  pub call_through : (n b : ℕ) (h : Desk) (o : Outcome) → r ≡ Ok (watched_by n b h) → o ≡ leaves_in (world s m d) (unless_busy d (planned c s n b)) → o ≡ live c (world s m d)
  unfolding live decision
  call_through n b h o p q = let z = (opened (three_guards s m d) (desk_of d) r e p).0 in rw (own, z) (q)

  pub call_stopped : (w : Refusal) (a : Answer) → IsErrAnd a (λ y. y ≡ w) → r ≡ Err w → left a s m d ≡ live c (world s m d)
  unfolding live decision
  call_stopped w a x p = let z = shut (three_guards s m d) (desk_of d) r e p in rw (exit a w x, own, z) refl
