use Rattle.std.proofs.Common.{rules, ◌∙◌}
use Rattle.text.proofs.HexLaws.{hex_all, hex_empty, hex_odd}
use Rattle.text.proofs.hex.is_hex.Goals as goal
use Rattle.text.proofs.hex.is_hex.Goals.{then-not-is_empty, else-not-is_empty}

pub returns-then-s-eq0 : goal.returns-then-s-eq0
returns-then-s-eq0 c = hex_all _ _ (search rules) (search rules) c.are_digits.ensures

pub returns-else-s-eq0 : goal.returns-else-s-eq0
returns-else-s-eq0 c = elim c.if-not-is_empty.branch [
  | then-not-is_empty w ↦ c.if-s-eq0.false ∙ hex_odd _ (search rules)
  | else-not-is_empty w ↦ c.if-s-eq0.false ∙ hex_empty _ (search rules)
]
