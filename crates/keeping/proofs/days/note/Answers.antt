use Prim.Native.Nat.{◌/◌}
use mathlib.Core.Path.{ap}
use lib.ListN.{set}
use Rattle.keeping.specs.Days.{noting}
use Rattle.keeping.proofs.days.note.Goals as goal

pub returns : goal.returns
unfolding noting
returns c = let a = c.args in ap (set a.map.now (a.day / 64)) c.with_mark.ensures
