use mathlib.Core.Path.{sym, ◌∙◌}
use Rattle.preservation.proofs.StoreLaws.{uncounted}
use Rattle.files.specs.Effect.{shorten}
use Rattle.files.proofs.CallLaws.{passed, call_through, call_stopped}
use Rattle.files.proofs.plain.shorten.Goals as goal

pub do_shorten-requires : goal.do_shorten-requires
do_shorten-requires c = uncounted (passed _ _ _ (sym c.guard.ensures ∙ c.in_ok-n.was))

pub returns : goal.returns
returns c = let a = c.args in call_through (shorten a.inode a.size) _ _ c.guard.ensures _ _ _ c.in_ok-n.was c.do_shorten.ensures

pub returns-in_err-n : goal.returns-in_err-n
returns-in_err-n c = let a = c.args in call_stopped (shorten a.inode a.size) _ _ c.guard.ensures _ _ c.from_residual.ensures.1 c.in_err-n.was
