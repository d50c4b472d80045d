use Rattle.text.proofs.ListLaws.{find_range}
use Rattle.replay_commands.proofs.CommandLaws.{bytes_found, bytes_none}
use Rattle.bounded.specs.Search.{first}
use Rattle.text.specs.Pieces.{piece, is_word}
use Rattle.std.proofs.Common.{rules, tests, refl, sym, ap, ◌∙◌, ◌-◌}
use Rattle.std.proofs.lemmas.Iterator.{YieldsList-from_range}
use Rattle.std.proofs.lemmas.Iterator.Search.{find_from_yields_List}
use Rattle.replay_commands.proofs.parse.bytes_at.Goals as goal

pub returns-in-Some : goal.returns-in-Some
returns-in-Some c =
    let a = c.args in
    let n = c.pieces.result in
    let e = find_from_yields_List (λ j. is_word (piece a.form.now 32 j) a.p.now) _ _ c.find.result c.find.ensures.ran (YieldsList-from_range 0 n (n - 0) refl refl) (λ x b q k. search (rules, tests)) in
    c.piece.ensures ∙ bytes_found a.form.now a.p.now a.cmd.now c.in-Some.k (sym (find_range _ n c.find.result e ∙ ap (first (λ j. is_word (piece a.form.now 32 j) a.p.now)) c.pieces.ensures) ∙ c.in-Some.is)

pub returns-in-None : goal.returns-in-None
returns-in-None c =
    let a = c.args in
    let n = c.pieces.result in
    let e = find_from_yields_List (λ j. is_word (piece a.form.now 32 j) a.p.now) _ _ c.find.result c.find.ensures.ran (YieldsList-from_range 0 n (n - 0) refl refl) (λ x b q k. search (rules, tests)) in
    bytes_none a.form.now a.p.now a.cmd.now (sym (find_range _ n c.find.result e ∙ ap (first (λ j. is_word (piece a.form.now 32 j) a.p.now)) c.pieces.ensures) ∙ c.in-None.is)
