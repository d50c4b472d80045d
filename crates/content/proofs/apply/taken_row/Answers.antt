use Prim.Native.Nat.{ℕ, ◌+◌, ◌≤◌, ◌<◌}
use mathlib.Core.Path.{◌≡◌, refl, sym, ap, ◌∙◌, subst}
use mathlib.Core.Bool.{false}
use native.Mathlib.Omega.{arith}
use lib.ListN.{length, get_or, set, length-take, length-drop}
use Rattle.bounded.proofs.TableLaws.{length_table}
use Rattle.blocks.specs.Block.{kth_block}
use Rattle.blocks.specs.Free.{block_free}
use Rattle.blocks.specs.Map.{lacks}
use Rattle.ledger.specs.Change.{kept}
use Rattle.ledger.specs.Nth.{nth_free}
use Rattle.preservation.proofs.StoreLaws.{sized_at}
use Rattle.growth.specs.Extend.{zero_blocks}
use Rattle.content.proofs.RowLaws.{added_laid}
use Rattle.content.proofs.TakeLaws.{rows_fit, map_own, last_taken, last_next, last_high, next_is, next_some, nth_counted, nth_in, zeros_begin, zeros_turn, length_zeros, sized_same}
use Rattle.std.proofs.lemmas.List.Edits.{fill_by_more}
use borrow.Author.Rules.{rules}
use Rattle.content.proofs.apply.taken_row.Goals as goal

pub named_blocks-requires : goal.named_blocks-requires
named_blocks-requires c = rows_fit c.requires.0

pub loop-place-init : goal.loop-place-init
loop-place-init c =
    let a = c.args in
    let n : length c.kept_row-row.result ≡ 44 = ap length c.kept_row-row.ensures ∙ length_table (kept false (kth_block a.s.now a.n a.i) a.used) 44 in
    let f = c.requires.4 in
    (unfold last_taken in refl, zeros_begin _ _ _, (λ k l. absurd (omega arith)), simp (length-take, length-drop) (omega arith))

pub overflow_add-taken : goal.overflow_add-taken
overflow_add-taken c =
    let p = c.requires in
    let a = c.args in
    let l = c.loop-place in
    let r = nth_counted p.0 l.place-index (omega (arith, p.5, l.invariant.3)) in
    let w = last_high (block_free a.s.now a.n) a.b l.place-index (omega (arith, p.5, l.invariant.3)) in
    let h : l.taken ≤ a.b = omega (arith, l.invariant.0) in
    let g = (sized_at p.0).blocks in
    search rules

pub next-taken-requires : goal.next-taken-requires
next-taken-requires c =
    let p = c.requires in
    let l = c.loop-place in
    let m = c.named_blocks.ensures in
    let g = (sized_at p.0).blocks in
    let r = p.5 in
    (omega arith, g, m.long, next_some _ _ (lacks _) l.place-index (map_own p.0 _ m) _ l.invariant.0 (nth_counted p.0 l.place-index (omega (arith, l.invariant.3))))

pub zero_block-requires : goal.zero_block-requires
zero_block-requires c =
    let p = c.requires in
    let a = c.args in
    let l = c.loop-place in
    let e : c.next-taken.result ≡ nth_free (block_free a.s.now a.n) a.b l.place-index = next_is _ _ (lacks _) l.place-index (map_own p.0 _ c.named_blocks.ensures) _ l.invariant.0 _ c.next-taken.ensures in
    let r = nth_in p.0 l.place-index (omega (arith, p.5, l.invariant.3)) in
    (sized_same _ _ _ _ (ap length l.invariant.1 ∙ length_zeros _ _ _ _) (sized_at p.0), omega (arith, e, r.0), omega (arith, e, r.1))

pub overflow_cast-place : goal.overflow_cast-place
overflow_cast-place c =
    let p = c.requires in
    let a = c.args in
    let l = c.loop-place in
    let e : c.next-taken.result ≡ nth_free (block_free a.s.now a.n) a.b l.place-index = next_is _ _ (lacks _) l.place-index (map_own p.0 _ c.named_blocks.ensures) _ l.invariant.0 _ c.next-taken.ensures in
    let r = nth_in p.0 l.place-index (omega (arith, p.5, l.invariant.3)) in
    let h : c.next-taken.result ≤ a.b = omega (arith, e, r.1) in
    let g = (sized_at p.0).blocks in
    search rules

pub loop-place-preserved : goal.loop-place-preserved
loop-place-preserved c =
    let p = c.requires in
    let a = c.args in
    let l = c.loop-place in
    let e : c.next-taken.result ≡ nth_free (block_free a.s.now a.n) a.b l.place-index = next_is _ _ (lacks _) l.place-index (map_own p.0 _ c.named_blocks.ensures) _ l.invariant.0 _ c.next-taken.ensures in
    let f = nth_free (block_free a.s.now a.n) a.b in (
      e ∙ sym (last_next _ _ l.place-index),
      c.zero_block.ensures ∙ rw l.invariant.1 (zeros_turn _ _ _ l.place-index _ e),
      subst (λ (v : ℕ). (k : ℕ) → k < l.place-index + 1 → get_or (set l.place-items l.place-index v) k 0 ≡ f k) (sym e) (fill_by_more f l.place-items l.place-index 0 (omega (arith, l.auto.place-items)) l.invariant.2),
      l.invariant.3,
    )

pub returns : goal.returns
returns c =
    let p = c.requires in
    let a = c.args in
    let l = c.loop-place in
    let i : l.place-index ≡ a.m = omega (arith, l.auto.place-index-end, l.invariant.3) in
    let f = nth_free (block_free a.s.now a.n) a.b in (
      l.invariant.1 ∙ ap (zero_blocks a.s.now a.n f) i,
      added_laid (kth_block a.s.now a.n a.i) f a.used a.m c.kept_row-row.result l.place-items p.4 c.kept_row-row.ensures (omega (arith, l.auto.place-items, l.invariant.3)) (λ j q. l.invariant.2 j (omega arith)),
    )
