-- What refusals 1, 2 and 3 leave to a call that they let through. s is the store, n and b are the counts of inodes and blocks.
use Rattle.std.specs.Prelude.{ℕ, Bool, ◌≤◌, ◌≡◌, List, length, Result, Ok, Err}
use Rattle.bounded.specs.Search.{pick}
use Rattle.answers.specs.declared.Refusal.{Refusal}
use Rattle.answers.specs.declared.Refusal.TheVariants.{Busy}
use Rattle.desk.specs.Sizes.{desk_length}
use Rattle.desk.specs.Desk.{desk_of}
use Rattle.desk.specs.declared.Desk.{Desk}
use Rattle.sound.specs.Counted.{SoundStore}

-- store and desk, whose header is h
pub record Fits (s desk : List ℕ) (h : Desk) (n b : ℕ) : Type 0 where
  pub sound : SoundStore s n b
  pub read : h ≡ desk_of desk
  pub long : desk_length n ≤ length desk

-- what 14 leaves: nothing, or itself
abbrev pub busy_if : Bool → Result (Unit {0}) Refusal
busy_if b = pick b (Err Busy) (Ok tt)
