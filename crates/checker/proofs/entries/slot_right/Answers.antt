use mathlib.Core.Path.{sym, ◌∙◌}
use native.Mathlib.Omega.{arith}
use lib.ListN.{length-set, set}
use Rattle.std.proofs.lemmas.List.{length-take-le}
use Rattle.bounded.proofs.CountLaws.{tallied_le}
use Rattle.checker.proofs.EntryLaws.{cut_fits, in_reach, no_words, empty_slot_lem, unnamed_slot, same_slot, counted_slot, slot_range}
use Rattle.checker.proofs.entries.slot_right.Goals as goal

pub overflow_add-e : goal.overflow_add-e
overflow_add-e c = let a = c.args in omega (arith, cut_fits a.s.now a.n a.d a.t a.o c.requires.dir_fits)

pub slice_bounds-e-end : goal.slice_bounds-e-end
slice_bounds-e-end c = let a = c.args in omega (arith, cut_fits a.s.now a.n a.d a.t a.o c.requires.dir_fits)

pub offset_bounds-names-t : goal.offset_bounds-names-t
offset_bounds-names-t c = let a = c.args in omega (arith, in_reach a.s.now a.n a.d a.t a.o c.requires.dir_fits)

pub bounds-names-t : goal.bounds-names-t
bounds-names-t c = let a = c.args in omega (arith, in_reach a.s.now a.n a.d a.t a.o c.requires.dir_fits, c.requires.passed.long)

pub returns-then-is_empty : goal.returns-then-is_empty
returns-then-is_empty c =
    let a = c.args in
    empty_slot_lem a.s.now a.n a.d a.t a.o c.requires.dir_fits a.names.now a.counts.now c.requires.passed _ (no_words _ (sym c.is_empty.ensures ∙ c.if-is_empty.true)) _ c.is_empty.ensures c.if-is_empty.true

pub offset_bounds-names-t-2 : goal.offset_bounds-names-t-2
offset_bounds-names-t-2 c = let a = c.args in omega (arith, in_reach a.s.now a.n a.d a.t a.o c.requires.dir_fits)

pub bounds-names-t-2 : goal.bounds-names-t-2
bounds-names-t-2 c = let a = c.args in omega (arith, in_reach a.s.now a.n a.d a.t a.o c.requires.dir_fits, c.requires.passed.long)

pub returns-then-not-entry_named : goal.returns-then-not-entry_named
returns-then-not-entry_named c =
    let a = c.args in
    unnamed_slot a.s.now a.n a.d a.t a.o c.requires.dir_fits a.names.now a.counts.now c.requires.passed _ c.in_entry-name.ensures _ c.is_empty.ensures c.if-is_empty.false _ c.entry_named.ensures c.if-not-entry_named.true

pub slice_bounds-name_new-end : goal.slice_bounds-name_new-end
slice_bounds-name_new-end c = let a = c.args in omega (arith, in_reach a.s.now a.n a.d a.t a.o c.requires.dir_fits, c.requires.passed.long, length-set a.names.now a.t c.in_entry-name.result)

pub slice_bounds-name_new-end-2 : goal.slice_bounds-name_new-end-2
slice_bounds-name_new-end-2 c = let a = c.args in sym (length-take-le a.t (set a.names.now a.t c.in_entry-name.result) (omega (arith, in_reach a.s.now a.n a.d a.t a.o c.requires.dir_fits, c.requires.passed.long, length-set a.names.now a.t c.in_entry-name.result)))

pub returns-then-not-name_new : goal.returns-then-not-name_new
returns-then-not-name_new c =
    let a = c.args in
    same_slot a.s.now a.n a.d a.t a.o c.requires.dir_fits a.names.now a.counts.now c.requires.passed _ c.in_entry-name.ensures _ c.is_empty.ensures c.if-is_empty.false
    _ c.entry_named.ensures c.if-not-entry_named.false
    (λ i. (c.type_inv.s i).fits) _ c.name_new.ensures c.if-not-name_new.true

pub bounds-counts-from : goal.bounds-counts-from
bounds-counts-from c =
    let a = c.args in
    omega (arith, slot_range a.s.now a.n a.d a.t a.o c.requires.dir_fits a.names.now a.counts.now c.requires.passed _ c.in_entry-name.ensures _ c.is_empty.ensures c.if-is_empty.false _ c.entry_named.ensures c.if-not-entry_named.false _ (c.from.ensures ∙ c.entry_inode.ensures), c.requires.passed.counted.long)

pub overflow_add-counts : goal.overflow_add-counts
overflow_add-counts c =
    let a = c.args in
    let r = slot_range a.s.now a.n a.d a.t a.o c.requires.dir_fits a.names.now a.counts.now c.requires.passed _ c.in_entry-name.ensures _ c.is_empty.ensures c.if-is_empty.false _ c.entry_named.ensures c.if-not-entry_named.false _ (c.from.ensures ∙ c.entry_inode.ensures) in
    let f = c.requires.dir_fits.0.inode in
    omega (arith, in_reach a.s.now a.n a.d a.t a.o c.requires.dir_fits, f.high, f.few, tallied_le _ 1 257 _ c.from.result a.counts.now r.0 r.1 c.requires.passed.counted)

pub bounds-counts-from-2 : goal.bounds-counts-from-2
bounds-counts-from-2 c =
    let a = c.args in
    omega (arith, slot_range a.s.now a.n a.d a.t a.o c.requires.dir_fits a.names.now a.counts.now c.requires.passed _ c.in_entry-name.ensures _ c.is_empty.ensures c.if-is_empty.false _ c.entry_named.ensures c.if-not-entry_named.false _ (c.from.ensures ∙ c.entry_inode.ensures), c.requires.passed.counted.long)

pub returns : goal.returns
returns c =
    let a = c.args in
    counted_slot a.s.now a.n a.d a.t a.o c.requires.dir_fits a.names.now a.counts.now c.requires.passed _ c.in_entry-name.ensures _ c.is_empty.ensures c.if-is_empty.false
    _ c.entry_named.ensures c.if-not-entry_named.false
    (λ i. (c.type_inv.s i).fits) _ c.name_new.ensures c.if-not-name_new.false
    _ (c.from.ensures ∙ c.entry_inode.ensures)
