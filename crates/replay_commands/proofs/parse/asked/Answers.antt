use Rattle.replay_commands.proofs.CommandLaws.{asked_is, asked_no}
use Rattle.replay_commands.specs.Command.{forms, asked}
use native.Mathlib.Omega.{arith}
use Rattle.replay_commands.proofs.parse.asked.Goals as goal

pub returns-in-0 : goal.returns-in-0
unfolding asked forms
returns-in-0 c = asked_is 0 c.args.j _ _ _ _ (omega arith)

pub returns-in-1 : goal.returns-in-1
unfolding asked forms
returns-in-1 c = asked_is 1 c.args.j _ _ _ _ (omega arith)

pub returns-in-2 : goal.returns-in-2
unfolding asked forms
returns-in-2 c = asked_is 2 c.args.j _ _ _ _ (omega arith)

pub returns-in-3 : goal.returns-in-3
unfolding asked forms
returns-in-3 c = asked_is 3 c.args.j _ _ _ _ (omega arith)

pub returns-in-4 : goal.returns-in-4
unfolding asked forms
returns-in-4 c = asked_is 4 c.args.j _ _ _ _ (omega arith)

pub returns-in-5 : goal.returns-in-5
unfolding asked forms
returns-in-5 c = asked_is 5 c.args.j _ _ _ _ (omega arith)

pub returns-in-6 : goal.returns-in-6
unfolding asked forms
returns-in-6 c = asked_is 6 c.args.j _ _ _ _ (omega arith)

pub returns-in-7 : goal.returns-in-7
unfolding asked forms
returns-in-7 c = asked_is 7 c.args.j _ _ _ _ (omega arith)

pub returns-in-8 : goal.returns-in-8
unfolding asked forms
returns-in-8 c = asked_is 8 c.args.j _ _ _ _ (omega arith)

pub returns-in-9 : goal.returns-in-9
unfolding asked forms
returns-in-9 c = asked_is 9 c.args.j _ _ _ _ (omega arith)

pub returns-in-10 : goal.returns-in-10
unfolding asked forms
returns-in-10 c = asked_is 10 c.args.j _ _ _ _ (omega arith)

pub returns-in-11 : goal.returns-in-11
unfolding asked forms
returns-in-11 c = asked_is 11 c.args.j _ _ _ _ (omega arith)

pub returns-in-12 : goal.returns-in-12
unfolding asked forms
returns-in-12 c = asked_is 12 c.args.j _ _ _ _ (omega arith)

pub returns-in-13 : goal.returns-in-13
unfolding asked forms
returns-in-13 c = asked_is 13 c.args.j _ _ _ _ (omega arith)

pub returns-in-14 : goal.returns-in-14
unfolding asked forms
returns-in-14 c = asked_is 14 c.args.j _ _ _ _ (omega arith)

pub returns-in-15 : goal.returns-in-15
unfolding asked forms
returns-in-15 c = asked_is 15 c.args.j _ _ _ _ (omega arith)

pub returns-in-16 : goal.returns-in-16
unfolding asked forms
returns-in-16 c = asked_is 16 c.args.j _ _ _ _ (omega arith)

pub returns-in-17 : goal.returns-in-17
unfolding asked forms
returns-in-17 c = asked_is 17 c.args.j _ _ _ _ (omega arith)

pub returns-in-18 : goal.returns-in-18
unfolding asked forms
returns-in-18 c = asked_is 18 c.args.j _ _ _ _ (omega arith)

pub returns-in-19 : goal.returns-in-19
unfolding asked forms
returns-in-19 c = asked_is 19 c.args.j _ _ _ _ (omega arith)

pub returns-in-20 : goal.returns-in-20
unfolding asked forms
returns-in-20 c = asked_is 20 c.args.j _ _ _ _ (omega arith)

pub returns-in-21 : goal.returns-in-21
unfolding asked forms
returns-in-21 c = asked_is 21 c.args.j _ _ _ _ (omega arith)

pub returns-in_default : goal.returns-in_default
returns-in_default c = asked_no c.args.j _ _ _ _ c.in_default.in_default-own.rest
