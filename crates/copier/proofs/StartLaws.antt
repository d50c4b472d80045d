-- Each way that a start returns. s is the store, m the image, d the desk.
use Rattle.std.specs.Prelude.{Ok, Err, Result}
use Prim.Native.Nat.{ℕ, ◌≤◌}
use mathlib.Core.Path.{◌≡◌, sym, ◌∙◌}
use mathlib.Core.Bool.{true, false}
use mathlib.Core.List.{List}
use native.Mathlib.Omega.{arith}
use Rattle.bounded.proofs.BoolLaws.{and_left, and_right}
use lib.ListN.{length, replicate}
use Rattle.layout.specs.Sizes.{header_bytes, most_inodes, most_image_blocks, root_inode, not_complete}
use Rattle.layout.specs.Header.{put_header}
use Rattle.desk.specs.Sizes.{desk_length}
use Rattle.desk.specs.declared.Desk.{Desk}
use Rattle.desk.specs.Desk.{desk_of}
use Rattle.desk.specs.Next.{runs}
use Rattle.sound.specs.Sound.{inodes_in}
use Rattle.sound.specs.Test.{framed_b}
use Rattle.sound.specs.declared.Form.TheVariants.{Store}
use Rattle.std.specs.Result.{IsErrAnd}
use Rattle.answers.proofs.RefusalLaws.{exit}
use Rattle.answers.specs.Told.{Answer}
use Rattle.answers.specs.declared.Refusal.{Refusal}
use Rattle.answers.specs.declared.Refusal.TheVariants.{WrongState}
use Rattle.checkpoint.specs.Fit.{both_framed, image_blocks, image_allowed}
use Rattle.checkpoint.specs.Copier.{start_image, start_desk}
use Rattle.checkpoint.specs.Live.{Outcome, left, refuse, started, start, start_guards}
use Rattle.checkpoint.proofs.Copy.FitLaws.{notes_fit_is}
use Rattle.checkpoint.proofs.Step.StartLaws.{image_allowed_is}
use Rattle.image.proofs.FitLaws.{framed}
use Rattle.image.proofs.CutLaws.{running_is}
use Rattle.guards.specs.Handed.{handed, watched_by}
use Rattle.guards.proofs.GuardLaws.{passed_start, opened, shut}
use Rattle.guards.specs.declared.Watched.{Watched}

-- what an image that is allowed has, of b blocks by its length
pub record ImageRoom (n k b : ℕ) : Type 0 where
  pub few : b ≤ most_image_blocks
  pub long : header_bytes ≤ k

pub image_room : (n k b : ℕ) → image_allowed n k ≡ true → b ≡ image_blocks n k → ImageRoom n k b
image_room n k b h e = let t = (image_allowed_is n k).to h in let f = t.most_blocks_lem in let l = t.long in record { few = omega arith; long = omega arith }

pub image_done : (m : List ℕ) (n b : ℕ) → b ≡ image_blocks n (length m)
    → put_header (replicate (length m) 0) (record { inodes = n; blocks = b; free_inodes = 0; free_blocks = 0; complete = not_complete; root = root_inode }) ≡ start_image n (length m)
unfolding start_image
image_done m n b e = rw e

-- ---- where 1, 2 and 3 do not come: h is the desk's header as the code has read it
module _ (m d : List ℕ) (h : Desk) (e : h ≡ desk_of d) (s : List ℕ) where
  pub begin_running : runs h ≡ true → refuse WrongState s m d ≡ started s m d
  unfolding started
  begin_running q = rw (sym (running_is d h e) ∙ q)

  pub begin_done : runs h ≡ false → (n b : ℕ) (m' d' : List ℕ) → n ≡ inodes_in s → b ≡ image_blocks n (length m)
      → m' ≡ start_image n (length m) → d' ≡ start_desk d n b → left (Ok 0) s m' d' ≡ started s m d
  unfolding started
  begin_done x n b m' d' p q y z = rw (sym (running_is d h e) ∙ x, y, z, q, p)

-- ---- the call: w is what the guards have answered
pub record Room (s m d : List ℕ) (h : Desk) (n : ℕ) : Type 0 where
  pub read : h ≡ desk_of d
  pub few : n ≤ most_inodes
  pub count : n ≡ inodes_in s
  pub image : image_allowed n (length m) ≡ true
  pub desk : desk_length n ≤ length d

module _ (s m d : List ℕ) (w : Result Watched Refusal) (e : w ≡ handed (start_guards s m d) (desk_of d)) where
  -- what they let through
  pub start_room : {n b : ℕ} {h : Desk} → w ≡ Ok (watched_by n b h) → Room s m d h n
  start_room {n} {b} q =
      let g = opened (start_guards s m d) (desk_of d) w e q in
      let x = passed_start s m d n b g.0 in
      let a = x.sound.sound.framed.most_inodes_lem in
      let c = x.sound.inodes in
      let y = and_left (both_framed s d) _ x.allowed in
      let l = (framed d (and_right (framed_b Store s) _ y)).long in
      let k = ((notes_fit_is s m d).to x.notes).1.0 in
      record { read = g.1; few = omega arith; count = c; image = rw c (and_right (both_framed s d) _ x.allowed); desk = omega arith }

  pub start_stopped : (x : Refusal) (a : Answer) → IsErrAnd a (λ y. y ≡ x) → w ≡ Err x → left a s m d ≡ start s m d
  unfolding start
  start_stopped x a y q = let z = shut (start_guards s m d) (desk_of d) w e q in rw (exit a x y, z)

  pub start_through : (i b : ℕ) (h : Desk) (o : Outcome) → w ≡ Ok (watched_by i b h) → o ≡ started s m d → o ≡ start s m d
  unfolding start
  start_through i b h o q r = let z = (opened (start_guards s m d) (desk_of d) w e q).0 in rw z (r)
