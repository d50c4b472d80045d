use mathlib.Core.Path.{sym, ◌∙◌}
use Rattle.preservation.proofs.StoreLaws.{uncounted}
use Rattle.files.specs.Effect.{read}
use Rattle.files.proofs.CallLaws.{passed, call_through, call_stopped}
use Rattle.files.proofs.plain.read.Goals as goal

pub do_read-requires : goal.do_read-requires
do_read-requires c = uncounted (passed _ _ _ (sym c.guard.ensures ∙ c.in_ok-n.was))

pub returns : goal.returns
returns c = let a = c.args in call_through (read a.inode a.offset a.out.now) _ _ c.guard.ensures _ _ _ c.in_ok-n.was c.do_read.ensures

pub returns-in_err-n : goal.returns-in_err-n
returns-in_err-n c = let a = c.args in call_stopped (read a.inode a.offset a.out.now) _ _ c.guard.ensures _ _ c.from_residual.ensures.1 c.in_err-n.was
