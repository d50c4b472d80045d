use Rattle.std.proofs.Common.{refl, sym, ◌∙◌}
use borrow.Author.Tests.{not-true, not-false}
use lib.Seq.{length-take-le}
use Rattle.keeping.proofs.CallLaws.{lengths_refused, dates_refused, answered, lengths, asked_none, all_read}
use Rattle.keeping.proofs.keep.Goals as goal

pub returns-then-not-allowed_lengths : goal.returns-then-not-allowed_lengths
returns-then-not-allowed_lengths c =
    let a = c.args in
    lengths_refused a.copies.now a.terms.now a.asked a.out.now (not-false _ (sym c.allowed_lengths.ensures ∙ c.if-not-allowed_lengths.true))

pub read_all-requires : goal.read_all-requires
read_all-requires c =
    let a = c.args in
    let l = lengths a.copies.now a.terms.now a.asked a.out.now (not-true _ (sym c.allowed_lengths.ensures ∙ c.if-not-allowed_lengths.false)) in
    (l.0, l.1)

pub returns-in_default : goal.returns-in_default
returns-in_default c =
    let a = c.args in
    dates_refused a.copies.now a.terms.now a.asked a.out.now (not-true _ (sym c.allowed_lengths.ensures ∙ c.if-not-allowed_lengths.false))
    (asked_none a.copies.now a.terms.now a.asked (sym c.read_all.ensures.told ∙ c.in_default.is))

pub slice_bounds-copy_days-end : goal.slice_bounds-copy_days-end
slice_bounds-copy_days-end c =
    let a = c.args in
    (all_read a.copies.now a.terms.now a.asked a.out.now (not-true _ (sym c.allowed_lengths.ensures ∙ c.if-not-allowed_lengths.false)) refl refl c.read_all.ensures c.in-Some.is).copies_long

pub slice_bounds-answer-end : goal.slice_bounds-answer-end
slice_bounds-answer-end c =
    let a = c.args in
    let r = all_read a.copies.now a.terms.now a.asked a.out.now (not-true _ (sym c.allowed_lengths.ensures ∙ c.if-not-allowed_lengths.false)) refl refl c.read_all.ensures c.in-Some.is in
    sym (length-take-le _ _ r.copies_long)

pub slice_bounds-term_days-end : goal.slice_bounds-term_days-end
slice_bounds-term_days-end c =
    let a = c.args in
    (all_read a.copies.now a.terms.now a.asked a.out.now (not-true _ (sym c.allowed_lengths.ensures ∙ c.if-not-allowed_lengths.false)) refl refl c.read_all.ensures c.in-Some.is).terms_long

pub slice_bounds-answer-end-2 : goal.slice_bounds-answer-end-2
slice_bounds-answer-end-2 c =
    let a = c.args in
    let r = all_read a.copies.now a.terms.now a.asked a.out.now (not-true _ (sym c.allowed_lengths.ensures ∙ c.if-not-allowed_lengths.false)) refl refl c.read_all.ensures c.in-Some.is in
    sym (length-take-le _ _ r.terms_long)

pub answer-requires : goal.answer-requires
answer-requires c =
    let a = c.args in
    (all_read a.copies.now a.terms.now a.asked a.out.now (not-true _ (sym c.allowed_lengths.ensures ∙ c.if-not-allowed_lengths.false)) refl refl c.read_all.ensures c.in-Some.is).fits

pub returns : goal.returns
returns c =
    let a = c.args in
    let r = all_read a.copies.now a.terms.now a.asked a.out.now (not-true _ (sym c.allowed_lengths.ensures ∙ c.if-not-allowed_lengths.false)) refl refl c.read_all.ensures c.in-Some.is in
    answered a.copies.now a.terms.now a.asked a.out.now c.answer.result _ _ _ _ r.right r.copies_dated r.terms_dated r.asked_dated r.copies_are r.terms_are (c.from.ensures ∙ r.day_is) c.answer.ensures
