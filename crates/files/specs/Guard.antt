-- Refusals 1 and 2, which come before all others: what each call looks at first. A store that passes tells its counts of inodes and blocks.
use Rattle.std.specs.Prelude.{Bool, not, List, [], ◌∷◌, ℕ, Err, Ok, Result}
use Rattle.sound.specs.Sound.{inodes_in, blocks_in}
use Rattle.sound.specs.Test.{framed_b, is_sound}
use Rattle.sound.specs.declared.Form.TheVariants.{Store}
use Rattle.answers.specs.declared.Refusal.{Refusal}
use Rattle.answers.specs.declared.Refusal.TheVariants.{BadBuffer, UnsoundStore}
use Rattle.answers.specs.Order.{Row, row, first_by}
use Rattle.layout.specs.declared.header.Counts.{Counts}
use Rattle.layout.specs.Header.{counts}

-- the first refusal whose condition holds, else the store's counts
abbrev pub guard_by : List ℕ → List Row → Result Counts Refusal
guard_by s rs = first_by Err rs (Ok (counts (inodes_in s) (blocks_in s)))

-- 1 and 2; framed says whether lengths and counts are those allowed
abbrev pub first_rows : Bool → List ℕ → List Row
first_rows framed s = row (not framed) BadBuffer ∷ row (not (is_sound Store s)) UnsoundStore ∷ []

-- of a call on the store alone
abbrev pub store_rows : List ℕ → List Row
store_rows s = first_rows (framed_b Store s) s

unfoldable pub guard_of : List ℕ → Result Counts Refusal
guard_of s = guard_by s (store_rows s)

abbrev pub on_guard : {A : Type 0} → Result Counts Refusal → (ℕ → ℕ → A) → (Refusal → A) → A
on_guard (Ok c) f g = f c.inodes c.blocks
on_guard (Err e) f g = g e
