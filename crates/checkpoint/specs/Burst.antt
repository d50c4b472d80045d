-- "The radio works in bursts, so the post wants up to 64 steps in one call. The call does what that many single steps would". k is a number of steps, c of steps accepted before.
use Rattle.std.specs.Prelude.{ℕ, zero, suc, ◌+◌, ◌≤◌, ◌<◌, ◌≡◌, Bool, true, not, ◌&&◌, List, [], ◌∷◌, ◌++◌, eqb, leb, Ok}
use Rattle.bounded.specs.Search.{pick}
use Rattle.layout.specs.Sizes.{most_blocks}
use Rattle.desk.specs.Desk.{desk_of, copied_of, desk_rest_zero}
use Rattle.sound.specs.Sound.{inodes_in}
use Rattle.sound.specs.declared.Form.TheVariants.{Store}
use Rattle.sound.specs.Test.{framed_b, is_sound}
use Rattle.answers.specs.declared.Refusal.TheVariants.{BadBuffer, BadCount}
use Rattle.checkpoint.specs.Fit.{desk_framed, is_running, blocks_fit, image_fits, both_framed}
use Rattle.checkpoint.specs.Live.{World, Outcome, left, refuse, step}
use Rattle.checkpoint.specs.List.{Event, advances, next, accepted, completes, run}

abbrev pub most_burst : ℕ
most_burst = 64

-- the opposite of 17's "the number of steps is outside 1 to 64"
abbrev pub count_allowed : ℕ → Bool
count_allowed k = leb 1 k && leb k most_burst

-- what single steps would do, k of them left: "ends early when the copy finishes or a step is refused, and reports how many were accepted. If the very first is refused, that refusal is the answer."
unfoldable pub burst_from : ℕ → ℕ → World → Outcome
burst_from zero c w = left (Ok c) w.store w.image w.desk
burst_from (suc k) c w =
    let o = step w.store w.image w.desk in
    pick (accepted advances w)
    (pick (completes advances w) (left (Ok (suc c)) o.store o.image o.desk) (burst_from k (suc c) (next advances w)))
    (pick (eqb c 0) o (left (Ok c) o.store o.image o.desk))

-- 1, then 17, which "comes right after 1", then the steps' own 2, 3, 15 and 16
unfoldable pub burst : ℕ → World → Outcome
burst k w =
    pick (not (both_framed w.store w.desk)) (refuse BadBuffer w.store w.image w.desk)
    (pick (not (count_allowed k)) (refuse BadCount w.store w.image w.desk)
    (burst_from k 0 w))

-- ---- "in demand 3's list the call stands for the single steps it tried"
unfoldable pub tries : ℕ → World → List Event
tries zero w = []
tries (suc k) w = advances ∷ pick (accepted advances w && not (completes advances w)) (tries k (next advances w)) []

unfoldable pub tries_of : ℕ → World → List Event
tries_of k w = pick (both_framed w.store w.desk && count_allowed k) (tries k w) []

-- a public call of a list: an event, or a burst
pub data Act : Type 0 where
  one : Event → Act
  bursts : (k : ℕ) → Act

unfoldable pub singles : List Act → World → List Event
singles [] w = []
singles (one e ∷ xs) w = e ∷ singles xs (next e w)
singles (bursts k ∷ xs) w = tries_of k w ++ singles xs (run (tries_of k w) w)

-- ---- for the code: what 1, 2 and 3 ask of the buffers of a running copy, the steps' bound apart
pub record Steady (w : World) : Type 0 where
  pub framed : framed_b Store w.store ≡ true
  pub sound : is_sound Store w.store ≡ true
  pub desk : desk_framed w.desk ≡ true
  pub running : is_running w.desk ≡ true
  pub blocks : blocks_fit w.desk ≡ true
  pub rest : desk_rest_zero w.desk ≡ true
  pub copied : (k : ℕ) → k < (desk_of w.desk).inodes → copied_of w.desk (k + 1) ≤ 1
  pub locked : (desk_of w.desk).locked ≤ (desk_of w.desk).inodes
  pub transferred : (desk_of w.desk).transferred ≤ most_blocks
  pub inodes : (desk_of w.desk).inodes ≡ inodes_in w.store
  pub image : image_fits w.store w.image w.desk ≡ true
