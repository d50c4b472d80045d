use Rattle.std.proofs.Common.{◌≡◌, ◌∙◌, sym, ap, length, arith, rules}
use Rattle.blocks.proofs.MapLaws.{length_noted, notes_none, notes_more}
use Rattle.blocks.proofs.free.note_each.Goals as goal

pub loop-k-init : goal.loop-k-init
loop-k-init g c = (c.requires.long, λ h t. notes_none _ _)

pub loop-k-preserved : goal.loop-k-preserved
loop-k-preserved g c =
    let l = c.loop-k in
    let e = c.note.ensures in
    (ap length e ∙ length_noted _ _ ∙ l.invariant.0, λ h t. rw e (notes_more _ l.k _ _ _ (c.from.ensures ∙ t.says l.k _ (omega arith) (record { met = c.block.ensures })) (l.invariant.1 h t)))

pub returns : goal.returns
returns g c = λ h t. let l = c.loop-k in let e : l.k ≡ c.args.count = omega arith in rw e at (l.invariant.1 h t)
