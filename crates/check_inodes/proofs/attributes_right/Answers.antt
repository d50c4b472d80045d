use Rattle.check_inodes.proofs.InodeLaws.{attr_spare, attr_file_long, attr_file, attr_directory_long, attr_directory, attr_other}
use Rattle.std.proofs.Common.{sym, ◌∙◌, arith, ne_eqb}
use borrow.Author.Tests.{lt-leb}
use Rattle.check_inodes.proofs.attributes_right.Goals as goal

pub returns-else-spare-eq0 : goal.returns-else-spare-eq0
returns-else-spare-eq0 c = ne_eqb _ _ c.if-spare-eq0.false ∙ sym (attr_spare _ _ (λ z. c.if-spare-eq0.false (c.spare.ensures ∙ z)))

pub returns-then-size-le-MOST_FILE_BYTES : goal.returns-then-size-le-MOST_FILE_BYTES
returns-then-size-le-MOST_FILE_BYTES c = attr_file _ _ (sym c.kind-kind.ensures ∙ c.in-1.is) _ (sym c.spare.ensures ∙ c.if-spare-eq0.true) (omega (arith, c.size-size.ensures)) c.parent.ensures

pub returns-else-size-le-MOST_FILE_BYTES : goal.returns-else-size-le-MOST_FILE_BYTES
returns-else-size-le-MOST_FILE_BYTES c = lt-leb _ _ c.if-size-le-MOST_FILE_BYTES.false ∙ sym (attr_file_long _ _ (sym c.kind-kind.ensures ∙ c.in-1.is) (omega (arith, c.size-size.ensures)))

pub returns-then-size-le-MOST_DIRECTORY_BYTES : goal.returns-then-size-le-MOST_DIRECTORY_BYTES
returns-then-size-le-MOST_DIRECTORY_BYTES c = attr_directory _ _ (sym c.kind-kind.ensures ∙ c.in-2.is) _ (sym c.spare.ensures ∙ c.if-spare-eq0.true) (omega (arith, c.size-size.ensures)) c.size-size.ensures

pub returns-else-size-le-MOST_DIRECTORY_BYTES : goal.returns-else-size-le-MOST_DIRECTORY_BYTES
returns-else-size-le-MOST_DIRECTORY_BYTES c = lt-leb _ _ c.if-size-le-MOST_DIRECTORY_BYTES.false ∙ sym (attr_directory_long _ _ (sym c.kind-kind.ensures ∙ c.in-2.is) (omega (arith, c.size-size.ensures)))

pub returns-in_default : goal.returns-in_default
returns-in_default c = attr_other _ _ c.requires.1 (λ z. omega (arith, c.kind-kind.ensures)) (λ z. omega (arith, c.kind-kind.ensures))
