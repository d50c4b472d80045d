use mathlib.Core.Path.{sym, ◌∙◌}
use Rattle.files.specs.Effect.{write}
use Rattle.files.proofs.CallLaws.{passed, call_through, call_stopped}
use Rattle.files.proofs.plain.write.Goals as goal

pub do_write-requires : goal.do_write-requires
do_write-requires c = passed _ _ _ (sym c.guard.ensures ∙ c.in_ok-counts.was)

pub returns : goal.returns
returns c = let a = c.args in call_through (write a.inode a.offset a.bytes.now) _ _ c.guard.ensures _ _ _ c.in_ok-counts.was c.do_write.ensures

pub returns-in_err-counts : goal.returns-in_err-counts
returns-in_err-counts c = let a = c.args in call_stopped (write a.inode a.offset a.bytes.now) _ _ c.guard.ensures _ _ c.from_residual.ensures.1 c.in_err-counts.was
