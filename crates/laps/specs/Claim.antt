-- What is claimed of a call on watch times w and mat times m, with the lists o lent, that left the
-- lists v.
use Rattle.std.specs.Prelude.{ℕ, ◌-◌, ◌≡◌, true, List, length, Err, Ok}
use Rattle.octets.specs.Octets.{part}
use Rattle.answers.specs.declared.Refusal.TheVariants.{BadBuffer, BadTimes}
use Rattle.answers.specs.Order.{is_in_order}
use Rattle.answers.specs.Told.{Answer, Told, told}
use Rattle.laps.specs.Times.{Allowed}
use Rattle.laps.specs.Walk.{Lists, lists}
use Rattle.laps.specs.Reported.{Reported}
use Rattle.laps.specs.Call.{Room, laps_table, left, over, match_laps}

-- what counts in the lists that were left: the first p of the paired times, and as many unmatched ones
-- as there are then
abbrev pub counted : List ℕ → List ℕ → ℕ → Lists → Lists
counted w m p v =
    lists (part v.paired_watch 0 p) (part v.paired_mat 0 p)
    (part v.alone_watch 0 (length w - p)) (part v.alone_mat 0 (length m - p))

-- answered with p pairs
pub record Matched (w m : List ℕ) (o v : Lists) (p : ℕ) : Type 0 where
  pub taken : Allowed w × Allowed m
  pub fits : Room w m o
  pub reported : Reported w m (counted w m p v)
  -- so many pairs are in it, and nothing but it was written
  pub count : length (counted w m p v).paired_watch ≡ p
  pub rest : v ≡ over (counted w m p v) o

-- answered, or refused; and then nothing was written
pub data Delivered (w m : List ℕ) (o v : Lists) : Told → Type 0 where
  matched : (p : ℕ) → Matched w m o v p → Delivered w m o v (told (Ok p))
  bad_times : (Allowed w × Allowed m → ⊥) → v ≡ o → Delivered w m o v (told (Err BadTimes))
  no_room : Allowed w × Allowed m → (Room w m o → ⊥) → v ≡ o → Delivered w m o v (told (Err BadBuffer))

pub record Claim : Type 0 where
  pub delivered : (w m : List ℕ) (o v : Lists) (a : Answer) → left a v ≡ match_laps w m o → Delivered w m o v (told a)
  -- 26 is "looked at first"
  pub looked_at_first : (w m : List ℕ) (o : Lists) → is_in_order 0 (laps_table w m o) ≡ true
