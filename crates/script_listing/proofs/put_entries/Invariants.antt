use Rattle.std.proofs.Common.{◌*◌, ◌≡◌}
use Rattle.script_listing.specs.Listing.{entries_from}
use Rattle.text.specs.Put.{Put}
use Rattle.script_listing.proofs.put_entries.Given as goal

abbrev pub invariant-loop-p : goal.invariant-loop-p
invariant-loop-p l = (l.p-end ≡ 48 * l.image.n) × Put l.initial.out l.o (entries_from l.image.m.now l.image.n 0 l.p) l.e l.out
