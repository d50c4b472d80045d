-- The plain store's guards as a chain of tests.
use Rattle.std.specs.Prelude.{Err, Ok}
use Prim.Native.Nat.{ℕ}
use mathlib.Core.Path.{◌≡◌, refl}
use mathlib.Core.Bool.{Bool, true, false, not}
use mathlib.Core.List.{List}
use Rattle.bounded.specs.Search.{pick}
use Rattle.sound.specs.Sound.{inodes_in, blocks_in}
use Rattle.sound.specs.declared.Form.TheVariants.{Store}
use Rattle.sound.specs.Test.{framed_b, is_sound}
use Rattle.answers.specs.declared.Refusal.{Refusal}
use Rattle.answers.specs.declared.Refusal.TheVariants.{BadBuffer, UnsoundStore}
use Rattle.files.specs.Guard.{guard_of, on_guard}
use Rattle.layout.specs.Header.{counts}

-- refusals 1 and 2, one after the other
pub on_guard_lem : {A : Type 0} (s : List ℕ) (f : ℕ → ℕ → A) (g : Refusal → A)
    → on_guard (guard_of s) f g ≡ pick (not (framed_b Store s)) (g BadBuffer) (pick (not (is_sound Store s)) (g UnsoundStore) (f (inodes_in s) (blocks_in s)))
unfolding guard_of
on_guard_lem {A} s f g = go (framed_b Store s) (is_sound Store s)
  where
    go : (x y : Bool) → on_guard (pick (not x) (Err BadBuffer) (pick (not y) (Err UnsoundStore) (Ok (counts (inodes_in s) (blocks_in s))))) f g
        ≡ pick (not x) (g BadBuffer) (pick (not y) (g UnsoundStore) (f (inodes_in s) (blocks_in s)))
    go true true = refl
    go true false = refl
    go false y = refl
