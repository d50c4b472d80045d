use Prim.Native.Nat.{ℕ}
use mathlib.Core.Path.{◌≡◌, refl, ap, ◌∙◌}
use mathlib.Core.List.{List}
use native.Mathlib.Omega.{arith}
use lib.ListN.{length, drop, take, length-drop}
use lib.Seq.{take_all}
use Rattle.octets.specs.Octets.{splice, word_bytes}
use Rattle.octets.proofs.WordLaws.{words_more}
use Rattle.content.proofs.RowLaws.{further_begin}
use borrow.Author.Rules.{rules}
use Rattle.content.proofs.apply.put_further.Goals as goal

pub loop-k-init : goal.loop-k-init
loop-k-init c = (omega arith, further_begin _ _, refl)

pub loop-k-preserved : goal.loop-k-preserved
loop-k-preserved c =
    let l = c.loop-k in
    (omega arith, c.put_16.ensures ∙ rw l.invariant.1 (words_more c.args.s.now c.args.o (take 32 (drop 12 c.args.row)) l.k c.loop-k-test.true), c.put_16.auto.s ∙ l.invariant.2)

pub returns : goal.returns
returns c =
    let l = c.loop-k in
    let row = c.args.row in
    let n : length row ≡ 44 = search rules in
    let d : length (drop 12 row) ≡ 32 = simp length-drop (omega arith) in
    let e = take_all 32 (drop 12 row) (omega arith) in
    l.invariant.1
    ∙ ap (λ (w : List ℕ). splice c.args.s.now c.args.o (word_bytes w)) (take_all l.k (take 32 (drop 12 row)) c.loop-k-test.false ∙ e)
