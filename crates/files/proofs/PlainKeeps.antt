-- A sound store stays sound under every file call, refused or not; and what holds of each planned effect holds of the plain call's.
use Prim.Native.Nat.{ℕ}
use mathlib.Core.Path.{refl}
use mathlib.Core.Bool.{Bool, true, false, not}
use mathlib.Core.List.{List}
use Rattle.bounded.specs.Search.{pick}
use Rattle.sound.specs.Sound.{Sound, inodes_in, blocks_in}
use Rattle.sound.specs.declared.Form.TheVariants.{Store}
use Rattle.sound.specs.Test.{framed_b, is_sound}
use Rattle.answers.specs.declared.Refusal.TheVariants.{BadBuffer, UnsoundStore}
use Rattle.preservation.proofs.StoreLaws.{sound_store}
use Rattle.files.specs.Effect.{Call, Effect, Planned, refused, does, planned, plain_decision, given}
use Rattle.files.specs.Plain.{leaves, plain}
use Rattle.files.proofs.PlainLaws.{on_guard_lem}
use Rattle.files.proofs.Lawful.{Lawful, Each}
use Rattle.files.proofs.LawfulCalls.{lawful}

-- behind the guards
pub each_plain : (Q : Effect → Type 0) (c : Call) (s : List ℕ) → Each Q (planned c s (inodes_in s) (blocks_in s)) → Each Q (plain_decision c s)
unfolding plain_decision
each_plain Q c s h = rw (on_guard_lem s (planned c s) refused) (go (framed_b Store s) (is_sound Store s))
  where
    go : (x y : Bool) → Each Q (pick (not x) (refused BadBuffer) (pick (not y) (refused UnsoundStore) (planned c s (inodes_in s) (blocks_in s))))
    go true true = h
    go true false = tt
    go false y = tt

module _ (s : List ℕ) (h : Sound Store s) where
  -- the laws of what a plain call does
  pub plain_lawful : (c : Call) → Each (Lawful s (inodes_in s)) (plain_decision c s)
  plain_lawful c = each_plain (Lawful s (inodes_in s)) c s (lawful c (sound_store h refl))

  leaves_sound : (out : List ℕ) (p : Planned) → Each (Lawful s (inodes_in s)) p → Sound Store (leaves s out p).store
  leaves_sound out (does x) k = k.sound
  leaves_sound out (refused e) k = h

  pub plain_sound : (c : Call) → Sound Store (plain c s).store
  unfolding plain
  plain_sound c = leaves_sound (given c) (plain_decision c s) (plain_lawful c)
