use mathlib.Core.Path.{sym, ◌∙◌}
use Rattle.preservation.proofs.StoreLaws.{uncounted}
use Rattle.files.specs.Effect.{look_up}
use Rattle.files.proofs.CallLaws.{passed, call_through, call_stopped}
use Rattle.files.proofs.plain.look_up.Goals as goal

pub do_look_up-requires : goal.do_look_up-requires
do_look_up-requires c = uncounted (passed _ _ _ (sym c.guard.ensures ∙ c.in_ok-n.was))

pub returns : goal.returns
returns c = let a = c.args in call_through (look_up a.dir a.name.now) _ _ c.guard.ensures _ _ _ c.in_ok-n.was c.do_look_up.ensures

pub returns-in_err-n : goal.returns-in_err-n
returns-in_err-n c = let a = c.args in call_stopped (look_up a.dir a.name.now) _ _ c.guard.ensures _ _ c.from_residual.ensures.1 c.in_err-n.was
