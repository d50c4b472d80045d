use Rattle.std.proofs.Common.{rules, tests, ◌∙◌}
use Rattle.std.proofs.lemmas.Iterator.{YieldsList-from_slice}
use Rattle.std.proofs.lemmas.Iterator.Search.{find_from_yields_List}
use Rattle.text.specs.Letters.{letters}
use Rattle.script_lines.specs.Ask.{fits, form_text, forms, form_in}
use Rattle.script_lines.proofs.forms.form_of.Goals as goal

pub returns : goal.returns
unfolding form_in
returns c =
    let l = c.args.line.now in
    c.copied.ensures
    ∙ find_from_yields_List (λ f. fits (letters (form_text f)) l) _ _ c.find.result c.find.ensures.ran (YieldsList-from_slice forms (search rules)) (λ x b q k. search (rules, tests))
