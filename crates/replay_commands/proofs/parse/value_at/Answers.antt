use Rattle.replay_commands.proofs.CommandLaws.{value_number, value_name, value_other, value_word, value_at_lem}
use Rattle.std.proofs.Common.{Bool, ap, sym, ◌∙◌}
use Rattle.std.specs.Bool.{then_some}
use Rattle.replay_commands.proofs.parse.value_at.Goals as goal

pub returns-then-is_word : goal.returns-then-is_word
returns-then-is_word c = value_at_lem _ _ _ _ _ _ _ _ c.piece-p.ensures c.piece-s.ensures (value_number _ _ _ _ _ (sym c.is_word.ensures ∙ c.if-is_word.true) c.number.ensures)

pub returns-then-is_word-2 : goal.returns-then-is_word-2
returns-then-is_word-2 c = value_at_lem _ _ _ _ _ _ _ _ c.piece-p.ensures c.piece-s.ensures (value_name _ _ _ _ _ (sym c.is_word.ensures ∙ c.if-is_word.false) (sym c.is_word-2.ensures ∙ c.if-is_word-2.true) c.hex_count.ensures)

pub returns-then-is_word-3 : goal.returns-then-is_word-3
returns-then-is_word-3 c = value_at_lem _ _ _ _ _ _ _ _ c.piece-p.ensures c.piece-s.ensures (value_other _ _ _ _ _ (sym c.is_word.ensures ∙ c.if-is_word.false) (sym c.is_word-2.ensures ∙ c.if-is_word-2.false) (sym c.is_word-3.ensures ∙ c.if-is_word-3.true) c.hex_count-then-is_word-3.ensures)

pub returns : goal.returns
returns c = value_at_lem _ _ _ _ _ _ _ _ c.piece-p.ensures c.piece-s.ensures (value_word _ _ _ _ (sym c.is_word.ensures ∙ c.if-is_word.false) (sym c.is_word-2.ensures ∙ c.if-is_word-2.false) (sym c.is_word-3.ensures ∙ c.if-is_word-3.false) _ (c.then_some.ensures ∙ ap (λ (t : Bool). then_some t 0) c.is_word-4.ensures))
