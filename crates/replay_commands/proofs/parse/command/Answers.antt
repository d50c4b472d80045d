use Rattle.text.proofs.ListLaws.{find_range}
use Rattle.replay_commands.proofs.CommandLaws.{cut_arrow, command_part, command_all, command_within}
use Rattle.std.proofs.Common.{rules, tests, refl, length, ◌-◌}
use Rattle.std.proofs.lemmas.Iterator.{YieldsList-from_range}
use Rattle.std.proofs.lemmas.Iterator.Search.{find_from_yields_List}
use Rattle.replay_commands.proofs.parse.command.Goals as goal

pub slice_bounds-result-end : goal.slice_bounds-result-end
slice_bounds-result-end c =
    let s = c.args.s.now in
    let n = length s in
    let e = find_from_yields_List (cut_arrow s) _ _ c.find.result c.find.ensures.ran (YieldsList-from_range 0 n (n - 0) refl refl) (λ x b q k. search (rules, tests)) in
    command_within s c.find.result (find_range (cut_arrow s) n c.find.result e) c.in-Some.k c.in-Some.is

pub returns-in-Some : goal.returns-in-Some
returns-in-Some c =
    let s = c.args.s.now in
    let n = length s in
    let e = find_from_yields_List (cut_arrow s) _ _ c.find.result c.find.ensures.ran (YieldsList-from_range 0 n (n - 0) refl refl) (λ x b q k. search (rules, tests)) in
    command_part s c.find.result (find_range (cut_arrow s) n c.find.result e) c.in-Some.k c.in-Some.is

pub returns-in-None : goal.returns-in-None
returns-in-None c =
    let s = c.args.s.now in
    let n = length s in
    let e = find_from_yields_List (cut_arrow s) _ _ c.find.result c.find.ensures.ran (YieldsList-from_range 0 n (n - 0) refl refl) (λ x b q k. search (rules, tests)) in
    command_all s c.find.result (find_range (cut_arrow s) n c.find.result e) c.in-None.is
