-- Each way that a step returns. s is the store, m the image, d the desk.
use Rattle.std.specs.Prelude.{Err, Ok, Result}
use Prim.Native.Nat.{ℕ}
use mathlib.Core.Path.{◌≡◌, sym, ap, ◌∙◌}
use mathlib.Core.Bool.{Bool, true, false, not}
use mathlib.Core.List.{List}
use Rattle.bounded.specs.Search.{pick}
use Rattle.desk.specs.declared.Desk.{Desk}
use Rattle.desk.specs.Desk.{desk_of}
use Rattle.desk.specs.Next.{runs}
use Rattle.bounded.proofs.BoolLaws.{and_left, chain_on, chain_off}
use Rattle.sound.specs.Sound.{inodes_in}
use Rattle.sound.specs.declared.Form.TheVariants.{Store}
use Rattle.std.specs.Result.{IsErrAnd}
use Rattle.answers.proofs.RefusalLaws.{exit}
use Rattle.answers.specs.Told.{Answer}
use Rattle.answers.specs.declared.Refusal.{Refusal}
use Rattle.answers.specs.declared.Refusal.TheVariants.{WrongState}
use Rattle.sound.proofs.SoundLaws.{is_sound_lem}
use Rattle.sound.specs.Test.{framed_b, is_sound}
use Rattle.image.proofs.CutLaws.{running_is}
use Rattle.guards.specs.Handed.{handed, watched_by}
use Rattle.guards.proofs.GuardLaws.{passed, desk_passed, opened, shut}
use Rattle.checkpoint.specs.Fit.{is_running}
use Rattle.checkpoint.specs.Copier.{step_of}
use Rattle.checkpoint.specs.Live.{left, Outcome, refuse, three_guards, do_step, step, world}
use Rattle.checkpoint.specs.List.{Ready}
use Rattle.guards.specs.declared.Watched.{Watched}

module _ (s m d : List ℕ) where
  -- what follows the guards
  abbrev pub goes_on : ℕ → Outcome
  goes_on n = pick (is_running d) (do_step s m d n (step_of s m d n)) (refuse WrongState s m d)

  -- h is the desk's header, r what the code has asked of it
  module _ (h : Desk) (e : h ≡ desk_of d) (r : Bool) (q : r ≡ runs h) where
    pub at_rest : not r ≡ true → is_running d ≡ false
    at_rest x = sym (running_is d h e) ∙ chain_off r (runs h) q x

    pub at_work : not r ≡ false → is_running d ≡ true
    at_work x = sym (running_is d h e) ∙ chain_on r (runs h) q x

  pub step_rests : (n : ℕ) → is_running d ≡ false → refuse WrongState s m d ≡ goes_on n
  step_rests n i = rw i

  pub step_works : (n : ℕ) (o : Outcome) → is_running d ≡ true → o ≡ do_step s m d n (step_of s m d n) → o ≡ goes_on n
  step_works n o i e = rw i e

  -- w is what the guards have answered
  module _ (w : Result Watched Refusal) (e : w ≡ handed (three_guards s m d) (desk_of d)) where
    pub step_stopped : (x : Refusal) (a : Answer) → IsErrAnd a (λ y. y ≡ x) → w ≡ Err x → left a s m d ≡ step s m d
    unfolding step
    step_stopped x a y q = let z = shut (three_guards s m d) (desk_of d) w e q in rw (exit a x y, z)

    pub step_through : (n b : ℕ) (h : Desk) (o : Outcome) → w ≡ Ok (watched_by n b h) → o ≡ goes_on n → o ≡ step s m d
    unfolding step
    step_through n b h o q r =
        let z = (opened (three_guards s m d) (desk_of d) w e q).0 in
        let p = passed s m d n b z in
        rw z ((r ∙ ap goes_on p.sound.inodes))

    -- what they let through
    pub step_ready : {n b : ℕ} {h : Desk} → w ≡ Ok (watched_by n b h) → (h ≡ desk_of d) × Ready (world s m d) × (n ≡ inodes_in s)
    unfolding is_sound
    step_ready {n} {b} q =
        let g = opened (three_guards s m d) (desk_of d) w e q in
        let p = passed s m d n b g.0 in
        let k = (is_sound_lem Store s).from p.sound.sound in
        (g.1, record { framed = and_left (framed_b Store s) _ k; sound = k; desk = desk_passed p; notes = p.notes }, p.sound.inodes)
