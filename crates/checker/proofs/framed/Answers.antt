use Prim.Native.Nat.{ℕ}
use mathlib.Core.Path.{ap₂, ◌∙◌}
use lib.ListN.{length}
use Rattle.blocks.specs.Block.{allowed}
use Rattle.checker.proofs.CheckLaws.{frame_short, frame_read}
use Rattle.checker.proofs.framed.Goals as goal

pub returns-then-s-lt-HEADER_BYTES : goal.returns-then-s-lt-HEADER_BYTES
returns-then-s-lt-HEADER_BYTES c = frame_short _ _ c.if-s-lt-HEADER_BYTES.true

pub returns : goal.returns
returns c =
    frame_read _ _ _ c.read-h.ensures _ c.block_limit.ensures.0 _
    (c.allowed.ensures ∙ ap₂ (λ (u v : ℕ). allowed c.block_limit.result u v (length c.args.s.now)) c.from.ensures c.from-2.ensures)
