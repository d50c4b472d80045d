-- Laws of the copied bytes. d is the desk, n the inode count.
use Prim.Native.Nat.{ℕ, ◌≤◌}
use mathlib.Core.Path.{◌≡◌}
use mathlib.Core.List.{List}
use Rattle.bounded.specs.Reflect.{Reflects}
use Rattle.bounded.proofs.ReflectLaws.{r_le, r_eq, r_and}
use Rattle.desk.specs.Desk.{copied_of, is_copied}

-- inode i is copied just where its byte says so
pub copied_is : (d : List ℕ) (n i : ℕ) → Reflects (is_copied d n i) ((1 ≤ i) × ((i ≤ n) × (copied_of d i ≡ 1)))
unfolding is_copied
copied_is d n i = r_and (r_le 1 i) (r_and (r_le i n) (r_eq (copied_of d i) 1))
