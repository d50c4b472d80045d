-- What the call answers and leaves in the four lists that it is lent, refused or not.
use Rattle.std.specs.Prelude.{ℕ, ◌≤◌, Bool, not, ◌&&◌, List, [], ◌∷◌, leb, length, Err, Ok}
use Rattle.octets.specs.Octets.{splice}
use Rattle.answers.specs.declared.Refusal.TheVariants.{BadBuffer, BadTimes}
use Rattle.answers.specs.Order.{Row, row, first_by}
use Rattle.answers.specs.Told.{Answer, Told, told}
use Rattle.laps.specs.Times.{allowed}
use Rattle.laps.specs.Walk.{Lists, lists, report}

-- the lists that the report goes to have room: each is at least as long as the one that its times
-- come from
abbrev pub room_for : List ℕ → List ℕ → List ℕ → Bool
room_for times pairs alone = leb (length times) (length pairs) && leb (length times) (length alone)

abbrev pub room : List ℕ → List ℕ → Lists → Bool
room w m o = room_for w o.paired_watch o.alone_watch && room_for m o.paired_mat o.alone_mat

abbrev pub RoomFor : List ℕ → List ℕ → List ℕ → Type 0
RoomFor times pairs alone = (length times ≤ length pairs) × (length times ≤ length alone)

abbrev pub Room : List ℕ → List ℕ → Lists → Type 0
Room w m o = RoomFor w o.paired_watch o.alone_watch × RoomFor m o.paired_mat o.alone_mat

-- "26 when a list is too long or not rising, looked at first"; then 1
abbrev pub laps_table : List ℕ → List ℕ → Lists → List Row
laps_table w m o = row (not (allowed w && allowed m)) BadTimes ∷ row (not (room w m o)) BadBuffer ∷ []

-- the answer, and the lists after the call
pub record Left : Type 0 where
  pub answer : Told
  pub lists : Lists

abbrev pub left : Answer → Lists → Left
left a o = record { answer = told a; lists = o }

-- each list of the report at the front of the one lent for it, whose rest stays
abbrev pub over : Lists → Lists → Lists
over r o =
    lists (splice o.paired_watch 0 r.paired_watch) (splice o.paired_mat 0 r.paired_mat)
    (splice o.alone_watch 0 r.alone_watch) (splice o.alone_mat 0 r.alone_mat)

-- the call on watch times w and mat times m with the lists o lent: the answer is the number of pairs
unfoldable pub match_laps : List ℕ → List ℕ → Lists → Left
match_laps w m o =
    first_by (λ e. left (Err e) o) (laps_table w m o)
    (left (Ok (length (report w m).paired_watch)) (over (report w m) o))
