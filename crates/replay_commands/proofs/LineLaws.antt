-- Laws of an answer's line.
use Rattle.std.specs.Prelude.{Ok, Err}
use Prim.Native.Nat.{ℕ}
use mathlib.Core.Path.{◌≡◌, refl, sym, ap, ◌∙◌}
use mathlib.Core.List.{List, ◌++◌}
use Rattle.text.specs.Letters.{letters}
use Rattle.text.specs.Put.{Put}
use Rattle.text.proofs.PutLaws.{put_same}
use Rattle.answers.specs.Refusal.{refusal_number}
use Rattle.answers.specs.declared.Refusal.{Refusal}
use Rattle.replay_commands.specs.Line.{reply_of, sums_text, line_text}
use Rattle.replay_commands.specs.Said.{reply_text}
use Rattle.replay_commands.specs.declared.Reply.{Reply}
use Rattle.replay_commands.specs.declared.Reply.TheVariants.{Error, Plain, Yes, No, Done, Refused, Laid, Shown, Asked}
use Rattle.replay_commands.specs.declared.Sums.{Sums}
use Rattle.answers.specs.Told.{Answer}

-- ---- a call's answer
pub done_reply : (a : Answer) (n : ℕ) → a ≡ Ok n → Done n ≡ reply_of a
done_reply a n e = rw e refl

pub refused_reply : (a : Answer) (e : Refusal) (n : ℕ) → a ≡ Err e → n ≡ refusal_number e → Refused n ≡ reply_of a
refused_reply a e n p q = rw (p, q) refl

-- ---- a reply in parts
pub put_reply : (r q : Reply) (page s t xs : List ℕ) (o e : ℕ) → r ≡ q → xs ≡ reply_text q page → Put s o xs e t → Put s o (reply_text r page) e t
put_reply r q page s t xs o e h g p = put_same _ _ _ _ _ _ (g ∙ ap (λ (x : Reply). reply_text x page) (sym h)) p

-- a line whose answer is no error ends in the checksums
pub said_line : (r : Reply) (page : List ℕ) (s : Sums) → (r ≡ Error → ⊥) → reply_text r page ++ sums_text s ≡ line_text r page s
unfolding reply_text line_text
said_line Error page s h = absurd (h refl)
said_line Plain page s h = refl
said_line Yes page s h = refl
said_line No page s h = refl
said_line (Done n) page s h = refl
said_line (Refused n) page s h = refl
said_line (Laid a d) page s h = refl
said_line (Shown n k) page s h = refl
said_line (Asked a l k) page s h = refl

pub error_line : (r : Reply) (page : List ℕ) (s : Sums) → r ≡ Error → reply_text r page ++ letters "\n" ≡ line_text r page s
unfolding reply_text line_text
error_line r page s e = rw e refl
