use Rattle.std.proofs.Common.{◌∙◌}
use borrow.Author.Tests.{lt-leb}
use Rattle.guards.proofs.FitLaws.{framed_short, framed_read}
use Rattle.guards.proofs.fit.desk_framed.Goals as goal

pub returns-then-d-ge-DESK_HEADER_BYTES : goal.returns-then-d-ge-DESK_HEADER_BYTES
returns-then-d-ge-DESK_HEADER_BYTES c = framed_read _ _ c.read.ensures _ c.allowed.ensures

pub returns-else-d-ge-DESK_HEADER_BYTES : goal.returns-else-d-ge-DESK_HEADER_BYTES
returns-else-d-ge-DESK_HEADER_BYTES c = lt-leb _ _ c.if-d-ge-DESK_HEADER_BYTES.false ∙ framed_short _ c.if-d-ge-DESK_HEADER_BYTES.false
