-- The calls by their C names are the public calls: what is claimed of lists of these (`Claim`, in `watch`) is claimed of lists of those.
use Rattle.std.specs.Prelude.{ℕ, ◌≡◌, Bool, List, [], ◌∷◌, ℤ, pos, Ok}
use Rattle.bounded.specs.Count as count
use Rattle.sound.specs.Test.{is_sound}
use Rattle.answers.specs.Told.{Answer, told}
use Rattle.format.specs.Format.{LaidOut, laid_out}
use Rattle.checkpoint.specs.Live.{World}
use Rattle.checkpoint.specs.List.{asks}
use Rattle.checkpoint.specs.Burst.{Act, one}
use Rattle.files.specs.Plain.{Received}
use Rattle.watch.specs.Made.{Did}
use Rattle.dealer.specs.Deal.{turn, dealt}
use Rattle.laps.specs.Walk.{Lists}
use Rattle.laps.specs.Call.{left, match_laps}
use Rattle.laps.specs.Claim.{Matched, Delivered}
use Rattle.calendar.specs.Date.{date_of, day_number}
use Rattle.keeping.specs.Call as keeping
use Rattle.keeping.specs.Call.{in_days, kept_count, keep_call}
use Rattle.keeping.specs.Claims as kept
use Rattle.api.specs.Api.{code_of, code_by, form_told, mask_flags}

-- a call made on w answered c and left v, and a read's out-buffer out ([] for the other calls): so it is the call x, whose caller got `received`
pub record Exported (x : Act) (w : World) (c : ℤ) (out : List ℕ) (v : World) : Type 0 where
  pub received : Received
  pub made : Did x w received v
  pub code : c ≡ code_of received.answer
  pub shown : out ≡ received.out

-- the state question answered c, and left the three numbers ns where ms stood: accepted, they are what it tells, and refused, what they were
pub record Asked (w : World) (ms : List ℕ) (c : ℤ) (ns : List ℕ) : Type 0 where
  pub received : Received
  pub made : Did (one asks) w received w
  pub code : c ≡ code_by received.answer.number (0 ∷ [])
  pub numbers : received.answer.number ≡ 0 → ns ≡ received.answer.values
  pub kept : (received.answer.number ≡ 0 → ⊥) → ns ≡ ms

-- ---- the calls that are in no list; `made` is the hypothesis of `FirstDemand` (watch/specs/Answered.antt)
-- a layout call answered c and left t; o is what its definition gives
pub record LaysOut (o : LaidOut) (c : ℤ) (t : List ℕ) : Type 0 where
  pub answer : Answer
  pub made : laid_out answer t ≡ o
  pub code : c ≡ code_of (told answer)

-- the check was told the number k for store or image, and answered c for the bytes s
pub record Checks (k : ℕ) (s : List ℕ) (c : ℕ) : Type 0 where
  pub answer : Bool
  pub made : answer ≡ is_sound (form_told k) s
  pub code : c ≡ count.one answer

-- a call of the dealer was told the mask, steps and bay, answered c and left the counts: so it is a call
-- of the dealer (`Call`, in `dealer`), of which `Claims` speaks, with the flags of that mask; a number
-- that is not negative is the bay that this call answered
pub record Dealing (mask steps last : ℕ) (c : ℤ) (counts : List ℕ) : Type 0 where
  pub answer : Answer
  pub made : turn answer counts ≡ dealt (mask_flags mask) steps last
  pub code : c ≡ code_of (told answer)
  pub bay : (x : ℕ) → c ≡ pos x → told answer ≡ told (Ok x)

-- laps against the mat: the call on watch times w and mat times m, with the lists o lent, answered c
-- and left v; so it is the public call, and delivered what is claimed of it (`Claim`, in `laps`); a
-- number that is not negative is that of the pairs
pub record LapsMatched (w m : List ℕ) (o : Lists) (c : ℤ) (v : Lists) : Type 0 where
  pub answer : Answer
  pub made : left answer v ≡ match_laps w m o
  pub code : c ≡ code_of (told answer)
  pub delivered : Delivered w m o v (told answer)
  pub pairs : (p : ℕ) → c ≡ pos p → Matched w m o v p

-- which copies to keep: the call on copies, terms and the day asked, with the list out lent, answered c
-- and left v; so it is the public call, and delivered what is claimed of it (`Claims`, in `keeping`); a
-- number that is not negative is that of the copies kept, and then there is a flag for each
pub record KeepTold (copies terms : List ℕ) (asked : ℕ) (out : List ℕ) (c : ℤ) (v : List ℕ) : Type 0 where
  pub answer : Answer
  pub made : keeping.left answer v ≡ keep_call copies terms asked out
  pub code : c ≡ code_of (told answer)
  pub delivered : kept.Delivered copies terms asked out v (told answer)
  pub flags : (n : ℕ) → c ≡ pos n → kept.Answered copies terms asked out v × (n ≡ kept_count (in_days copies) (in_days terms) (day_number (date_of asked)))
