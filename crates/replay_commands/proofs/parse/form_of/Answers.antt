use Rattle.text.proofs.ListLaws.{find_range}
use Rattle.replay_commands.specs.Command.{form_of, fits}
use Rattle.bounded.specs.Search.{first}
use Rattle.text.specs.Pieces.{piece}
use Rattle.std.proofs.Common.{rules, tests, refl, ap, ◌∙◌, ◌-◌}
use Rattle.std.proofs.lemmas.Iterator.{YieldsList-from_range}
use Rattle.std.proofs.lemmas.Iterator.Search.{find_from_yields_List}
use Rattle.replay_commands.proofs.parse.form_of.Goals as goal

pub returns : goal.returns
unfolding form_of
returns c =
    let a = c.args in
    let n = c.pieces.result in
    let e = find_from_yields_List (λ j. fits (piece a.forms.now 10 j) a.cmd.now a.a a.b) _ _ c.find.result c.find.ensures.ran (YieldsList-from_range 0 n (n - 0) refl refl) (λ x b q k. search (rules, tests)) in
    find_range _ n c.find.result e ∙ ap (first (λ j. fits (piece a.forms.now 10 j) a.cmd.now a.a a.b)) c.pieces.ensures
