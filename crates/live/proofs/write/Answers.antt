use mathlib.Core.Path.{refl}
use Rattle.files.specs.Effect.{write}
use Rattle.live.proofs.CallLaws.{let_through}
use Rattle.live.proofs.ReturnLaws.{call_through, call_stopped}
use Rattle.live.proofs.write.Goals as goal

pub write-requires : goal.write-requires
write-requires c = (let_through _ _ _ _ c.three_guards.ensures c.in_ok-w.was).0.sound

pub returns : goal.returns
returns c =
    let a = c.args in
    let g = let_through _ _ _ _ c.three_guards.ensures c.in_ok-w.was in
    call_through (write a.inode a.offset a.bytes.now) refl _ _ _ _ c.three_guards.ensures _ _ _ _ c.in_ok-w.was (c.write.ensures _ _ g.0.read)

pub returns-in_err-w : goal.returns-in_err-w
returns-in_err-w c =
    let a = c.args in
    call_stopped (write a.inode a.offset a.bytes.now) refl _ _ _ _ c.three_guards.ensures _ _ c.from_residual.ensures.1 c.in_err-w.was
