use mathlib.Core.Path.{refl}
use Rattle.preservation.proofs.StoreLaws.{uncounted}
use Rattle.files.specs.Effect.{shorten}
use Rattle.live.proofs.CallLaws.{let_through}
use Rattle.live.proofs.ReturnLaws.{call_through, call_stopped}
use Rattle.live.proofs.shorten.Goals as goal

pub shorten-requires : goal.shorten-requires
shorten-requires c = uncounted (let_through _ _ _ _ c.three_guards.ensures c.in_ok-w.was).0.sound

pub returns : goal.returns
returns c =
    let a = c.args in
    let g = let_through _ _ _ _ c.three_guards.ensures c.in_ok-w.was in
    call_through (shorten a.inode a.size) refl _ _ _ _ c.three_guards.ensures _ _ _ _ c.in_ok-w.was (c.shorten.ensures _ _ g.0.read)

pub returns-in_err-w : goal.returns-in_err-w
returns-in_err-w c =
    let a = c.args in
    call_stopped (shorten a.inode a.size) refl _ _ _ _ c.three_guards.ensures _ _ c.from_residual.ensures.1 c.in_err-w.was
