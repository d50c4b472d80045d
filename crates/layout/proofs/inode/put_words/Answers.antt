use mathlib.Core.Path.{◌≡◌, refl, ◌∙◌}
use native.Mathlib.Omega.{arith}
use lib.Seq.{take_all}
use Rattle.octets.specs.Octets.{splice, word_bytes}
use Rattle.octets.proofs.WordLaws.{words_more}
use borrow.Author.Rules.{rules}
use Rattle.layout.proofs.inode.put_words.Goals as goal

pub loop-k-init : goal.loop-k-init
unfolding splice word_bytes
loop-k-init c = (omega arith, search rules, refl, refl)

pub loop-k-preserved : goal.loop-k-preserved
loop-k-preserved c = let i = c.loop-k in let a = c.args in (omega arith, i.invariant.1, cc (words_more a.s.now a.o a.a i.k (omega arith)), omega arith)
