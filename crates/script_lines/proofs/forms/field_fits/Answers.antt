use Rattle.script_lines.proofs.AskLaws.{fits_number, fits_name, fits_text, fits_word}
use mathlib.Core.Path.{refl, sym, ◌∙◌}
use Rattle.script_lines.proofs.forms.field_fits.Goals as goal

pub returns-then-is_word : goal.returns-then-is_word
returns-then-is_word c = fits_number _ _ _ _ c.field-s.ensures _ (sym c.is_word.ensures ∙ c.if-is_word.true) c.is_number.ensures

pub returns-then-is_word-2 : goal.returns-then-is_word-2
returns-then-is_word-2 c = fits_name _ _ _ _ c.field-s.ensures _ (sym c.is_word.ensures ∙ c.if-is_word.false) (sym c.is_word-2.ensures ∙ c.if-is_word-2.true) refl

pub returns-then-is_word-3 : goal.returns-then-is_word-3
returns-then-is_word-3 c = fits_text _ _ _ _ c.field-s.ensures _ (sym c.is_word.ensures ∙ c.if-is_word.false) (sym c.is_word-2.ensures ∙ c.if-is_word-2.false) (sym c.is_word-3.ensures ∙ c.if-is_word-3.true) _ c.text_from.ensures refl

pub returns : goal.returns
returns c = fits_word _ _ _ _ c.field-s.ensures _ (sym c.is_word.ensures ∙ c.if-is_word.false) (sym c.is_word-2.ensures ∙ c.if-is_word-2.false) (sym c.is_word-3.ensures ∙ c.if-is_word-3.false) c.is_word-4.ensures
