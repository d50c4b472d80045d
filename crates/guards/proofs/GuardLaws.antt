-- Each way that the guards and the state question return, and what the guards let through. s is the store, m the image, d the desk.
use Rattle.std.specs.Prelude.{Err, Ok, Result}
use Prim.Native.Nat.{ℕ}
use mathlib.Core.Path.{◌≡◌, sym, ap, ◌∙◌}
use mathlib.Core.Bool.{Bool, true, false}
use mathlib.Core.List.{List}
use lib.ListN.{length}
use Rattle.bounded.proofs.BoolLaws.{and_right}
use Rattle.bounded.proofs.SearchLaws.{pick_not}
use Rattle.desk.specs.declared.Desk.{Desk}
use Rattle.desk.specs.Desk.{desk_of}
use Rattle.sound.specs.Sound.{inodes_in, blocks_in}
use Rattle.sound.specs.Counted.{SoundStore}
use Rattle.sound.specs.declared.Form.TheVariants.{Store}
use Rattle.sound.proofs.SoundLaws.{is_sound_lem}
use Rattle.sound.specs.Test.{framed_b, is_sound}
use Rattle.answers.specs.declared.Refusal.{Refusal}
use Rattle.answers.specs.declared.Refusal.TheVariants.{BadBuffer, UnsoundStore, BadDesk}
use Rattle.files.specs.Guard.{guard_by}
use Rattle.answers.proofs.RefusalLaws.{err_not_ok, exit}
use Rattle.checkpoint.specs.Fit.{desk_framed, notes_fit, both_framed, all_framed, image_allowed}
use Rattle.checkpoint.specs.Live.{three_guards, status, guard_rows, start_guards, told_status, standing}
use Rattle.guards.specs.Fit.{notes_right}
use Rattle.guards.specs.Handed.{handed, watched_by}
use Rattle.layout.specs.declared.header.Counts.{Counts}
use Rattle.std.specs.Result.{IsErrAnd}
use Rattle.checkpoint.specs.declared.Status.{Status}
use Rattle.guards.specs.declared.Watched.{Watched}
use Rattle.layout.specs.Header.{counts}

-- ---- the guards in code: 2 and 3, where lengths and counts are those allowed
module _ (s m d : List ℕ) where
  pub after_unsound : is_sound Store s ≡ false → Err UnsoundStore ≡ handed (guard_by s (guard_rows true s m d)) (desk_of d)
  after_unsound h = rw h

  module _ (h : is_sound Store s ≡ true) {n : ℕ} (p : n ≡ inodes_in s) where
    notes : notes_right n s m d ≡ notes_fit s m d
    unfolding notes_fit
    notes = ap (λ (k : ℕ). notes_right k s m d) p

    pub after_misfit : notes_right n s m d ≡ false → Err BadDesk ≡ handed (guard_by s (guard_rows true s m d)) (desk_of d)
    after_misfit q = let k = sym notes ∙ q in rw (h, k)

    pub after_pass : (b : ℕ) (x : Desk) → b ≡ blocks_in s → x ≡ desk_of d → notes_right n s m d ≡ true → Ok (watched_by n b x) ≡ handed (guard_by s (guard_rows true s m d)) (desk_of d)
    after_pass b x r e q = let k = sym notes ∙ q in rw (h, k, p, r, e)

  -- 1, of a call on all three buffers and of a start
  pub three_unframed : both_framed s d ≡ false → Err BadBuffer ≡ handed (three_guards s m d) (desk_of d)
  unfolding three_guards
  three_unframed f = rw f

  pub start_unframed : both_framed s d ≡ false → Err BadBuffer ≡ handed (start_guards s m d) (desk_of d)
  unfolding start_guards
  start_unframed f = rw f

  module _ (f : both_framed s d ≡ true) where
    pub three_framed : (x : Result Watched Refusal) → x ≡ handed (guard_by s (guard_rows true s m d)) (desk_of d) → x ≡ handed (three_guards s m d) (desk_of d)
    unfolding three_guards
    three_framed x q = rw f q

    module _ {n : ℕ} (p : n ≡ inodes_in s) where
      pub start_no_image : image_allowed n (length m) ≡ false → Err BadBuffer ≡ handed (start_guards s m d) (desk_of d)
      unfolding start_guards
      start_no_image h = let k : image_allowed (inodes_in s) (length m) ≡ false = rw (← p) h in rw (f, k)

      pub start_framed : image_allowed n (length m) ≡ true → (x : Result Watched Refusal) → x ≡ handed (guard_by s (guard_rows true s m d)) (desk_of d) → x ≡ handed (start_guards s m d) (desk_of d)
      unfolding start_guards
      start_framed h x q = let k : image_allowed (inodes_in s) (length m) ≡ true = rw (← p) h in rw (f, k) q

-- ---- what they let through
pub record Passed (framed : Bool) (s m d : List ℕ) (n b : ℕ) : Type 0 where
  pub allowed : framed ≡ true
  pub sound : SoundStore s n b
  pub notes : notes_fit s m d ≡ true

passed_by : (framed : Bool) (s m d : List ℕ) (n b : ℕ) → guard_by s (guard_rows framed s m d) ≡ Ok (counts n b) → Passed framed s m d n b
passed_by framed s m d n b e =
    let z : Result Counts Refusal = Ok (counts n b) in
    let a = pick_not framed (Err _) _ z e (err_not_ok _ _) in
    let c = pick_not (is_sound Store s) (Err _) _ z a.1 (err_not_ok _ _) in
    let f = pick_not (notes_fit s m d) (Err _) _ z c.1 (err_not_ok _ _) in
    let q : counts (inodes_in s) (blocks_in s) ≡ counts n b = cc f.1 in
    let i = sym (ap (λ (x : Counts). x.inodes) q) in
    let k = sym (ap (λ (x : Counts). x.blocks) q) in
    record { allowed = a.0; sound = record { sound = (is_sound_lem Store s).to c.0; inodes = i; blocks = k }; notes = f.0 }

pub passed : (s m d : List ℕ) (n b : ℕ) → three_guards s m d ≡ Ok (counts n b) → Passed (both_framed s d) s m d n b
unfolding three_guards
passed s m d n b e = passed_by (both_framed s d) s m d n b e

pub passed_start : (s m d : List ℕ) (n b : ℕ) → start_guards s m d ≡ Ok (counts n b) → Passed (all_framed s m d) s m d n b
unfolding start_guards
passed_start s m d n b e = passed_by (all_framed s m d) s m d n b e

-- the desk's length is right
pub desk_passed : {s m d : List ℕ} {n b : ℕ} → Passed (both_framed s d) s m d n b → desk_framed d ≡ true
desk_passed {s} {m} {d} p = and_right (framed_b Store s) (desk_framed d) p.allowed

-- ---- what they hand on: g is what the guards say, x the desk's header, r what the code has answered
module _ (g : Result Counts Refusal) (x : Desk) (r : Result Watched Refusal) (e : r ≡ handed g x) where
  pub opened : {n b : ℕ} {h : Desk} → r ≡ Ok (watched_by n b h) → (g ≡ Ok (counts n b)) × (h ≡ x)
  opened {n} {b} {h} q = go g (sym e ∙ q)
    where
      go : (g : Result Counts Refusal) → handed g x ≡ Ok (watched_by n b h) → (g ≡ Ok (counts n b)) × (h ≡ x)
      go (Ok k) z =
          let q : watched_by k.inodes k.blocks x ≡ watched_by n b h = cc z in
          (ap (λ (y : Watched). Ok (counts y.inodes y.blocks)) q, sym (ap (λ (y : Watched). y.desk) q))
      go (Err w) z = absurd (err_not_ok w _ z)

  pub shut : {w : Refusal} → r ≡ Err w → g ≡ Err w
  shut {w} q = go g (sym e ∙ q)
    where
      go : (g : Result Counts Refusal) → handed g x ≡ Err w → g ≡ Err w
      go (Ok k) z = absurd (err_not_ok w _ (sym z))
      go (Err v) z = ap Err (cc z)

-- ---- the state question
module _ (s m d : List ℕ) (r : Result Watched Refusal) (e : r ≡ handed (three_guards s m d) (desk_of d)) where
  pub state_through : (n b : ℕ) (h : Desk) → r ≡ Ok (watched_by n b h) → told_status (Ok (standing h.state h.locked h.steps)) ≡ status s m d
  unfolding status
  state_through n b h p = let z = opened (three_guards s m d) (desk_of d) r e p in rw z.0 (ap (λ (y : Desk). told_status (Ok (standing y.state y.locked y.steps))) z.1)

  pub state_stopped : (w : Refusal) (a : Result Status Refusal) → IsErrAnd a (λ y. y ≡ w) → r ≡ Err w → told_status a ≡ status s m d
  unfolding status
  state_stopped w a x p = rw (exit a w x, shut (three_guards s m d) (desk_of d) r e p)
