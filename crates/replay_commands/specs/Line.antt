-- The line that answers a command: the answer, ` | ` and three checksums.
use Rattle.std.specs.Prelude.{ℕ, List, [], ◌∷◌, ◌++◌, take, Ok, Err}
use Rattle.answers.specs.Refusal.{refusal_number}
use Rattle.io.specs.Digits.{last_digits}
use Rattle.text.specs.Letters.{letters}
use Rattle.text.specs.Put.{decimal_text, each, bytes_text}
use Rattle.replay_commands.specs.declared.Reply.{Reply}
use Rattle.replay_commands.specs.declared.Reply.TheVariants.{Error, Plain, Yes, No, Done, Refused, Laid, Shown, Asked}
use Rattle.replay_commands.specs.declared.Sums.{Sums}
use Rattle.answers.specs.Told.{Answer}

-- "`ok` and the answer's numbers, or `no` and the number"
abbrev pub reply_of : Answer → Reply
reply_of (Ok n) = Done n
reply_of (Err e) = Refused (refusal_number e)

-- a checksum in 16 hex digits
abbrev sum_text : ℕ → List ℕ
sum_text n = last_digits 16 16 n

unfoldable pub sums_text : Sums → List ℕ
sums_text w = letters " | " ++ (sum_text w.store ++ (letters " " ++ (sum_text w.image ++ (letters " " ++ (sum_text w.desk ++ letters "\n")))))

-- a number, and bytes in hex, after a space
abbrev pub number_text : ℕ → List ℕ
number_text n = letters " " ++ decimal_text n

abbrev pub shown_text : List ℕ → List ℕ
shown_text xs = letters " " ++ bytes_text xs

-- a word, and what comes after it
abbrev pub said : List ℕ → List ℕ → List ℕ → List ℕ
said word numbers shown = (word ++ each number_text numbers) ++ shown

-- An unknown command's line has no checksums. `new`: "`ok A D`, A and D being 0 or the refusal"; `rd`: "the count, then the whole out-buffer", which is the
-- first k bytes of page; "`ask`: state, locked inode, steps".
unfoldable pub line_text : Reply → List ℕ → Sums → List ℕ
line_text Error page w = letters "err\n"
line_text Plain page w = said (letters "ok") [] [] ++ sums_text w
line_text Yes page w = said (letters "yes") [] [] ++ sums_text w
line_text No page w = said (letters "no") [] [] ++ sums_text w
line_text (Done n) page w = said (letters "ok") (n ∷ []) [] ++ sums_text w
line_text (Refused n) page w = said (letters "no") (n ∷ []) [] ++ sums_text w
line_text (Laid a d) page w = said (letters "ok") (a ∷ d ∷ []) [] ++ sums_text w
line_text (Shown n k) page w = said (letters "ok") (n ∷ []) (shown_text (take k page)) ++ sums_text w
line_text (Asked a l k) page w = said (letters "ok") (a ∷ l ∷ k ∷ []) [] ++ sums_text w
