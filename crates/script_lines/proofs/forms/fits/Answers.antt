use Rattle.std.proofs.Common.{rules, tests, refl, sym, ap, ◌∙◌, ◌-◌}
use Rattle.std.proofs.lemmas.Iterator.{YieldsList-from_range}
use Rattle.std.proofs.lemmas.Iterator.Search.{all_from_yields_List}
use Rattle.bounded.specs.Below.{all_below}
use Rattle.bounded.proofs.BoolLaws.{chain_end, and_false_l}
use Rattle.text.specs.Pieces.{piece}
use Rattle.script_lines.specs.Ask.{fits, field_fits}
use Rattle.text.proofs.ListLaws.{all_range}
use Rattle.script_lines.proofs.forms.fits.Goals as goal

pub returns-then-end_fits : goal.returns-then-end_fits
unfolding fits
returns-then-end_fits c =
    let a = c.args in
    let n = c.pieces.result in
    let e = all_from_yields_List (λ k. field_fits (piece a.form.now 32 k) a.line.now k) _ _ c.all.result c.all.ensures.ran (YieldsList-from_range 0 n (n - 0) refl refl) (λ x b q k. search (rules, tests)) in
    chain_end _ _ _ (sym c.end_fits.ensures ∙ c.if-end_fits.true) (all_range _ n _ e ∙ ap (all_below (λ k. field_fits (piece a.form.now 32 k) a.line.now k)) c.pieces.ensures)

pub returns-else-end_fits : goal.returns-else-end_fits
unfolding fits
returns-else-end_fits c = c.if-end_fits.false ∙ sym (and_false_l _ _ (sym c.end_fits.ensures ∙ c.if-end_fits.false))
