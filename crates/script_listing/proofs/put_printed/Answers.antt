use native.Mathlib.Omega.{arith}
use Rattle.script_listing.proofs.TextLaws.{printed_listed, printed_plain}
use Rattle.script_listing.proofs.LengthLaws.{reply_most}
use Rattle.text.proofs.PutLaws.{put_same, put_on}
use borrow.Author.Tests.{not-true, not-false}
use borrow.Author.Rules.{rules}
use Rattle.script_listing.proofs.put_printed.Goals as goal

pub returns-then-not-finished : goal.returns-then-not-finished
returns-then-not-finished c = put_same _ _ _ _ _ _ (printed_plain _ _ _ _ (not-true _ c.if-not-finished.true-raw)) c.put_reply-e.ensures

pub put_listing-requires : goal.put_listing-requires
put_listing-requires c =
    let a = c.args in
    let h = c.requires.1 (not-false _ c.if-not-finished.false-raw) in
    (omega (arith, h.room, c.put_reply-e.ensures.ends, reply_most a.answer), h.sound, search rules, search rules)

pub returns : goal.returns
returns c = put_same _ _ _ _ _ _ (printed_listed _ _ _ _ (not-false _ c.if-not-finished.false-raw)) (put_on _ _ _ _ _ _ _ _ c.put_reply-e.ensures c.put_listing.ensures)
