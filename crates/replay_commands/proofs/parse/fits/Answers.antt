use Rattle.text.proofs.ListLaws.{all_range}
use Rattle.replay_commands.proofs.CommandLaws.{has_value_is, fits_all, fits_not}
use Rattle.replay_commands.specs.Command.{value_at, has_value}
use Rattle.std.proofs.Common.{rules, tests, refl, sym, ◌∙◌, ◌-◌}
use Rattle.std.proofs.lemmas.Iterator.{YieldsList-from_range}
use Rattle.std.proofs.lemmas.Iterator.Search.{all_from_yields_List}
use borrow.Author.Tests.{ne_eqb}
use Rattle.replay_commands.proofs.parse.fits.Goals as goal

pub returns-then-pieces-n : goal.returns-then-pieces-n
returns-then-pieces-n c =
    let a = c.args in
    let n = c.pieces-n.result in
    let e = all_from_yields_List (λ k. has_value (value_at a.form.now a.cmd.now a.a a.b k)) _ _ c.all.result c.all.ensures.ran (YieldsList-from_range 0 n (n - 0) refl refl) (λ x b q k. search (rules, tests, has_value_is)) in
    fits_all _ _ _ _ n _ c.pieces-n.ensures (sym c.pieces.ensures ∙ c.if-pieces-n.true) (all_range _ n _ e)

pub returns-else-pieces-n : goal.returns-else-pieces-n
returns-else-pieces-n c =
    let a = c.args in
    ne_eqb _ _ c.if-pieces-n.false ∙ fits_not a.form.now a.cmd.now a.a a.b (λ e. c.if-pieces-n.false (c.pieces.ensures ∙ e ∙ sym c.pieces-n.ensures))
