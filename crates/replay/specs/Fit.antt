-- What holds between two lines: store, image and desk lie within the program's arrays.
use Rattle.std.specs.Prelude.{ℕ, ◌≤◌, List, length}
use Rattle.replay.specs.declared.lengths.Lengths.{Lengths}

abbrev pub Fit : Lengths → Lengths → Type 0
Fit l room = (l.store ≤ room.store) × (l.image ≤ room.image) × (l.desk ≤ room.desk)

abbrev pub Inside : Lengths → List ℕ → List ℕ → List ℕ → Type 0
Inside l store image desk = (l.store ≤ length store) × (l.image ≤ length image) × (l.desk ≤ length desk)
