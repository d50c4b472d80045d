use Rattle.std.specs.Prelude.{Ok}
use mathlib.Core.Path.{ap, refl, ◌∙◌}
use native.Mathlib.Omega.{arith}
use Rattle.bursts.proofs.TurnLaws.{turns_begin, turns_end, turns_ends, turns_stops, turns_goes, turns_kept}
use Rattle.bursts.proofs.StepTurns.{going_addressed, first_asks, first_kept}
use borrow.Author.Rules.{rules}
use Rattle.bursts.proofs.turns.Goals as goal

pub map_of-requires : goal.map_of-requires
map_of-requires c =
    let a = c.args in
    let p = c.requires in
    first_asks a.s.now a.m.now a.d.now a.w.inodes _ (record { ready = p.1; running = p.3; inodes = p.2; read = p.0 })

pub count_names-requires : goal.count_names-requires
count_names-requires c =
    let a = c.args in
    let p = c.requires in
    going_addressed a.s.now a.m.now a.d.now a.w.inodes _ (record { ready = p.1; running = p.3; inodes = p.2; read = p.0 })

pub loop-k-init : goal.loop-k-init
loop-k-init c =
    let a = c.args in
    let p = c.requires in
    (omega arith, refl, refl, turns_begin _ _, first_kept a.s.now a.m.now a.d.now a.w.inodes _ (record { ready = p.1; running = p.3; inodes = p.2; read = p.0 }) _ _ c.map_of.ensures c.count_names.ensures)

pub returns-in-Ok-Ends : goal.returns-in-Ok-Ends
returns-in-Ok-Ends c = turns_ends _ _ _ _ _ _ _ _ _ c.take_one.ensures _ _ c.loop-k-test.true (c.in-Ok-Ends.is ∙ ap Ok c.in-Ok-Ends.field-0-is) ∙ c.loop-k.invariant.3

pub returns-in-Err : goal.returns-in-Err
returns-in-Err c = turns_stops _ _ _ _ _ _ _ _ _ c.take_one.ensures _ _ c.loop-k-test.true _ c.in-Err.is _ c.stopped_at.ensures ∙ c.loop-k.invariant.3

pub loop-k-preserved : goal.loop-k-preserved
loop-k-preserved c = (omega arith, search rules, search rules, turns_goes _ _ _ _ _ _ _ _ _ c.take_one.ensures _ _ c.loop-k-test.true (c.in-Ok-Goes.is ∙ ap Ok c.in-Ok-Goes.field-0-is) ∙ c.loop-k.invariant.3, turns_kept _ _ _ _ _ _ _ _ _ c.take_one.ensures _ _ c.loop-k-test.true (c.in-Ok-Goes.is ∙ ap Ok c.in-Ok-Goes.field-0-is))

pub returns : goal.returns
returns c = turns_end _ _ _ _ _ c.loop-k.invariant.0 c.loop-k-test.false ∙ c.loop-k.invariant.3
