-- What the exported calls answer and leave: "the result if not negative, else minus the refusal's number", and the content of every lent buffer.
use Rattle.std.specs.Prelude.{ℕ, zero, suc, ◌+◌, ◌≤◌, Bool, List, [], ◌∷◌, eqb, ℤ, pos, negsuc, get_or}
use Rattle.bounded.specs.Count.{one}
use Rattle.bounded.specs.Search.{pick}
use Rattle.sound.specs.declared.Form.{Form}
use Rattle.sound.specs.declared.Form.TheVariants.{Store, Image}
use Rattle.sound.specs.Test.{is_sound}
use Rattle.answers.specs.Told.{Told}
use Rattle.format.specs.Format.{LaidOut}
use Rattle.files.specs.Plain.{PlainOutcome}
use Rattle.checkpoint.specs.Live.{Outcome}
use Rattle.marks.specs.Mark.{marked}
use Rattle.dealer.specs.Deal.{bays, Dealt}
use Rattle.laps.specs.Call.{Left}
use Rattle.keeping.specs.Call as keeping

abbrev pub code_by : ℕ → List ℕ → ℤ
code_by zero (x ∷ xs) = pos x
code_by zero [] = pos 0
code_by (suc k) xs = negsuc k

abbrev pub code_of : Told → ℤ
code_of t = code_by t.number t.values

-- for the code: the largest number of 32 bits with a sign, and that an answer's result, 0 for none, is not above it. Every public call's fits (proofs/ResultLaws.antt)
abbrev pub most_result : ℕ
most_result = 2147483647

abbrev pub Fits : Told → Type 0
Fits t = get_or t.values 0 0 ≤ most_result

-- the buffers stand in the order of the call's parameters
pub record Sent : Type 0 where
  pub code : ℤ
  pub buffers : List (List ℕ)

abbrev pub sends : ℤ → List (List ℕ) → Sent
sends c bs = record { code = c; buffers = bs }

-- a layout call
abbrev pub sent_laid : LaidOut → Sent
sent_laid o = sends (code_of o.answer) (o.buffer ∷ [])

-- "Look up and read take the store alone": the store, and a read's out-buffer
abbrev pub sent_alone : PlainOutcome → Sent
sent_alone o = sends (code_of o.answer) (o.store ∷ o.out ∷ [])

-- the calls over store, image and desk
abbrev pub sent : Outcome → Sent
sent o = sends (code_of o.answer) (o.store ∷ o.image ∷ o.desk ∷ [])

-- "state takes all three buffers and gives state, locked inode and steps": 0 and the three, or minus the refusal's number and the numbers as they were
pub record SentState : Type 0 where
  pub code : ℤ
  pub numbers : List ℕ

abbrev pub sends_state : ℤ → List ℕ → SentState
sends_state c ns = record { code = c; numbers = ns }

abbrev pub sent_state : Told → List ℕ → SentState
sent_state t ns = sends_state (code_by t.number (0 ∷ [])) (pick (eqb t.number 0) t.values ns)

-- ---- the dealer
-- "which bays are running": bit b of the mask says that bay b runs; the flags of n bays from bay b on
unfoldable pub flags_from : ℕ → ℕ → ℕ → List Bool
flags_from mask b zero = []
flags_from mask b (suc n) = marked mask b ∷ flags_from mask (b + 1) n

abbrev pub mask_flags : ℕ → List Bool
mask_flags mask = flags_from mask 0 bays

-- "It answers sixteen counts and the bay last served.": the counts are part of the answer, so 21 sets
-- C's counts to 0
abbrev pub sent_dealt : Dealt → Sent
sent_dealt d = sends (code_of d.answer) (d.counts ∷ [])

-- ---- laps against the mat: the four lists that the report goes to
abbrev pub sent_laps : Left → Sent
sent_laps o = sends (code_of o.answer) (o.lists.paired_watch ∷ o.lists.paired_mat ∷ o.lists.alone_watch ∷ o.lists.alone_mat ∷ [])

-- ---- which copies to keep: the list that the flags go to
abbrev pub sent_kept : keeping.Left → Sent
sent_kept o = sends (code_of o.answer) (o.out ∷ [])

-- ---- the check
-- "The check is told store or image, takes any bytes and answers yes or no": 0 tells a store, any other number an image; 1 is yes
abbrev pub form_told : ℕ → Form
form_told k = pick (eqb k 0) Store Image

unfoldable pub checked : ℕ → List ℕ → ℕ
checked image s = one (is_sound (form_told image) s)
