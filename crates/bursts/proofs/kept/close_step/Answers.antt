use mathlib.Core.Path.{◌≡◌, sym, ◌∙◌}
use mathlib.Core.Bool.{false}
use borrow.Author.Rules.{rules}
use borrow.Author.Tests.{not-false}
use Rattle.bursts.proofs.KeptLaws.{stay_is}
use Rattle.bursts.proofs.StepTurns.{going_held, going_locked, going_addressed, going_fits, close_addressed, close_names, close_goes}
use Rattle.bursts.proofs.kept.close_step.Goals as goal

pub names_stay-stay-requires : goal.names_stay-stay-requires
names_stay-stay-requires c =
    let a = c.args in
    let p = c.requires in
    going_fits a.s.now a.m.now a.d.now a.n a.h p.0 p.2

pub close-requires : goal.close-requires
close-requires c =
    let a = c.args in
    let p = c.requires in
    (going_held a.s.now a.m.now a.d.now a.n a.h p.0, going_locked a.s.now a.m.now a.d.now a.n a.h p.0 p.2, going_addressed a.s.now a.m.now a.d.now a.n a.h p.0)

pub count_names-requires : goal.count_names-requires
count_names-requires c =
    let a = c.args in
    let p = c.requires in
    -- only where the names do not stay are they counted anew
    let _counted : c.names_stay-stay.result ≡ false = search rules in
    close_addressed a.s.now a.m.now a.d.now a.n a.h p.0 p.2 p.3 _ _ _ c.close.ensures

pub returns-then-not-stay : goal.returns-then-not-stay
returns-then-not-stay c =
    let a = c.args in
    let p = c.requires in
    close_goes a.s.now a.m.now a.d.now a.n a.h p.0 p.2 p.3 _ _ _ c.close.ensures _ c.count_names.ensures

pub returns-else-not-stay : goal.returns-else-not-stay
returns-else-not-stay c =
    let a = c.args in
    let p = c.requires in
    close_goes a.s.now a.m.now a.d.now a.n a.h p.0 p.2 p.3 _ _ _ c.close.ensures _ (close_names a.s.now a.m.now a.d.now a.n a.h p.0 p.2 p.3 _ _ _ c.close.ensures (stay_is _ _ _ (sym c.names_stay-stay.ensures ∙ not-false _ c.if-not-stay.false-raw)) _ p.1)
