use native.Mathlib.Omega.{arith}
use Rattle.content.proofs.RowLaws.{place_across_back, place_across_front, place_across_else}
use Rattle.content.proofs.apply.place_across.Goals as goal

pub returns-in-11 : goal.returns-in-11
returns-in-11 c = place_across_back c.args.crosses c.args.k c.if-not-crosses.false c.in-11.is

pub returns-in-12 : goal.returns-in-12
returns-in-12 c = place_across_front c.args.crosses c.args.k c.if-not-crosses.false c.in-12.is

pub returns-in_default : goal.returns-in_default
returns-in_default c = place_across_else c.args.crosses c.args.k c.if-not-crosses.false (λ e. omega arith) (λ e. omega arith)
