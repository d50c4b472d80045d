use Rattle.std.specs.Prelude.{Ok}
use mathlib.Core.Path.{ap}
use mathlib.Core.List.{List}
use Prim.Native.Nat.{ℕ}
use Rattle.desk.specs.Sizes.{idle}
use Rattle.desk.proofs.DeskLaws.{desk_allowed_lem}
use Rattle.desk.specs.Desk.{put_desk}
use Rattle.format.specs.Format.{laid_out}
use mathlib.Core.Path.{sym, ◌∙◌}
use native.Mathlib.Omega.{arith}
use Rattle.format.proofs.FormatLaws.{desk_refused, desk_done}
use Rattle.format.proofs.lay_out_desk.Goals as goal

pub returns-then-not-allowed : goal.returns-then-not-allowed
returns-then-not-allowed c = desk_refused _ _ (sym c.allowed.ensures ∙ c.if-not-allowed.true)

pub overflow_cast-fresh : goal.overflow_cast-fresh
overflow_cast-fresh c = let r = (desk_allowed_lem _ _).to (sym c.allowed.ensures ∙ c.if-not-allowed.false) in let m = r.1.0 in omega arith

pub write-requires : goal.write-requires
write-requires c = let r = (desk_allowed_lem _ _).to (sym c.allowed.ensures ∙ c.if-not-allowed.false) in let l = r.1.1 in omega arith

pub returns : goal.returns
returns c = let a = c.args in
    ap (laid_out (Ok 0))
    (c.write.ensures ∙ ap (λ (t : List ℕ). put_desk t (record { inodes = a.inodes; blocks = 0; state = idle; locked = 0; transferred = 0; steps = 0 })) c.zero_range.ensures)
    ∙ desk_done a.buffer.now a.inodes (sym c.allowed.ensures ∙ c.if-not-allowed.false)
