-- Demand 1, of the calls' code: "The answer of each public call, for all bytes and numbers handed to
-- it, is its result or one of the sixteen refusals of document 01", and which. F-2: "Demand 1's
-- refusals take in 17 and the numbers that later requests add": here 18, 21, 23 to 25 and 26.
-- "A refusal changes no lent buffer, save that 16 marks the copy stopped and unlocks what was being copied."
use Rattle.std.specs.Prelude.{ℕ, ◌+◌, ◌-◌, min, max, ◌≡◌, Bool, true, false, not, List, [], ◌∷◌, length, replicate}
use Rattle.layout.specs.Inode.{size_of, free_inode}
use Rattle.blocks.specs.Block.{allowed}
use Rattle.layout.specs.Sizes.{most_store_blocks}
use Rattle.desk.specs.Desk.{desk_of}
use Rattle.desk.specs.Sizes.{desk_allowed}
use Rattle.bounded.specs.Reflect.{Reflects}
use Rattle.bounded.specs.Table.{table}
use Rattle.octets.specs.Octets.{splice}
use Rattle.sound.specs.declared.Form.{Form}
use Rattle.sound.specs.Sound.{Sound, inodes_in}
use Rattle.sound.specs.Test.{is_sound}
use Rattle.answers.specs.declared.Refusal.TheVariants.{BadBuffer, ImageFull, BadTurn}
use Rattle.answers.specs.Refusal.{refusal_number}
use Rattle.answers.specs.Told.{Answer, Told, told}
use Rattle.answers.specs.Order.{Row, row, order, looked_at, numbers, among, is_in_order}
use Rattle.format.specs.Format.{laid_out, fresh_store, fresh_desk, lay_out_store, lay_out_desk}
use Rattle.files.specs.Effect.{look_up, read, create, write, shorten, link, unlink, rename, rename_new, given}
use Rattle.files.specs.Plain.{Received}
use Rattle.checkpoint.specs.Live.{World}
use Rattle.checkpoint.specs.Table.{or_zero, inode_for, look_up_table, read_table, create_table, write_table, shorten_table, link_table, unlink_table, rename_table, rename_new_table, start_table, step_table, live_rows, burst_table}
use Rattle.checkpoint.specs.List.{call, advances, asks, starts, refusal_of, accepted_steps}
use Rattle.checkpoint.specs.Burst.{tries_of, Act, one, bursts}
use Rattle.checkpoint.specs.Progress.{Stopped}
use Rattle.dealer.specs.Deal.{bays, served, gets, turn, turn_allowed, dealt}
use Rattle.laps.specs.Walk.{Lists, report}
use Rattle.laps.specs.Call.{laps_table, left, over, match_laps}
use Rattle.calendar.specs.Date.{date_of, day_number}
use Rattle.keeping.specs.Call as keeping
use Rattle.keeping.specs.Call.{in_days, kept_count, keep_table, keep_call}
use Rattle.watch.specs.Received.{on_act}
use Rattle.watch.specs.Made.{Did}

-- ---- "Given by number, looked at lowest first, when and only when the condition holds for that call"
-- the answer by a table of conditions, where the result has the values vs: the refusal of the first that holds, or the result if none does
pub data ByTable (vs : List ℕ) : List Row → Told → Type 0 where
  result : ByTable vs [] (record { number = 0; values = vs })
  holds : {r : Row} {rs : List Row} → r.holds ≡ true → ByTable vs (r ∷ rs) (record { number = refusal_number r.refusal; values = [] })
  passes : {r : Row} {rs : List Row} {t : Told} → r.holds ≡ false → ByTable vs rs t → ByTable vs (r ∷ rs) t

-- the table stands in the order of looking; the number is one that is looked at, or 0
pub record Answered (vs : List ℕ) (rs : List Row) (t : Told) : Type 0 where
  pub by : ByTable vs rs t
  pub in_order : is_in_order 0 rs ≡ true
  pub known : among (0 ∷ looked_at) t.number ≡ true

-- ---- the calls in lists
-- the conditions of each call
unfoldable pub table_of : Act → World → List Row
table_of (one (call (look_up d name))) w = look_up_table w.store d name
table_of (one (call (read i o out))) w = read_table w.store i o
table_of (one (call (create d name k))) w = create_table w.store w.image w.desk d name
table_of (one (call (write i o xs))) w = write_table w.store w.image w.desk i o xs
table_of (one (call (shorten i z))) w = shorten_table w.store w.image w.desk i z
table_of (one (call (link d name i))) w = link_table w.store w.image w.desk d name i
table_of (one (call (unlink d name))) w = unlink_table w.store w.image w.desk d name
table_of (one (call (rename d name e other))) w = rename_table w.store w.image w.desk d name e other
table_of (one (call (rename_new d name e other))) w = rename_new_table w.store w.image w.desk d name e other
table_of (one starts) w = start_table w.store w.image w.desk
table_of (one advances) w = step_table w.store w.image w.desk
table_of (one asks) w = live_rows w.store w.image w.desk
table_of (bursts k) w = burst_table k w.store w.image w.desk

-- "Create and look up answer the inode, read its count, write and shorten the new size, step the steps so far"; state "gives state, locked inode and steps"; a burst "reports how many were accepted"; the others 0
unfoldable pub result_of : Act → World → List ℕ
result_of (one (call (look_up d name))) w = inode_for w.store d name ∷ []
result_of (one (call (read i o out))) w = min (length out) (size_of w.store i - o) ∷ []
result_of (one (call (create d name k))) w = or_zero (free_inode w.store (inodes_in w.store)) ∷ []
result_of (one (call (write i o xs))) w = max (size_of w.store i) (o + length xs) ∷ []
result_of (one (call (shorten i z))) w = z ∷ []
result_of (one (call (link d name i))) w = 0 ∷ []
result_of (one (call (unlink d name))) w = 0 ∷ []
result_of (one (call (rename d name e other))) w = 0 ∷ []
result_of (one (call (rename_new d name e other))) w = 0 ∷ []
result_of (one starts) w = 0 ∷ []
result_of (one advances) w = ((desk_of w.desk).steps + 1) ∷ []
result_of (one asks) w = (desk_of w.desk).state ∷ (desk_of w.desk).locked ∷ (desk_of w.desk).steps ∷ []
result_of (bursts k) w = accepted_steps (tries_of k w) w 0 ∷ []

-- the out-buffer that came in, [] for a call that has none
abbrev pub lent_to : Act → List ℕ
lent_to x = on_act x given [] [] [] (λ k. [])

-- the calls that 16 may answer: a step, or a burst whose first step gets it
pub data GetsFull (w : World) : Act → Type 0 where
  by_step : GetsFull w (one advances)
  by_first : {k : ℕ} → refusal_of advances w ≡ refusal_number ImageFull → GetsFull w (bursts k)

-- the call x made on the world w: its caller got a, and v was left
pub record Answers (x : Act) (w : World) (a : Received) (v : World) : Type 0 where
  pub answered : Answered (result_of x w) (table_of x w) a.answer
  -- "A refusal changes no lent buffer"
  pub keeps : (a.answer.number ≡ 0 → ⊥) → (a.answer.number ≡ refusal_number ImageFull → ⊥) → v ≡ w
  pub out : (a.answer.number ≡ 0 → ⊥) → a.out ≡ lent_to x
  -- "save that 16 marks the copy stopped and unlocks what was being copied"
  pub stops : a.answer.number ≡ refusal_number ImageFull → GetsFull w x × Stopped w v

-- ---- the layout calls: refusal 1 "by the numbers told"
abbrev pub store_lay_table : List ℕ → ℕ → ℕ → List Row
store_lay_table s n b = row (not (allowed most_store_blocks n b (length s))) BadBuffer ∷ []

abbrev pub desk_lay_table : List ℕ → ℕ → List Row
desk_lay_table desk n = row (not (desk_allowed n (length desk))) BadBuffer ∷ []

-- a layout call with the table rs, on the buffer s: it answered r and left t, which is fresh where it was accepted
pub record LayAnswers (rs : List Row) (s fresh : List ℕ) (r : Answer) (t : List ℕ) : Type 0 where
  pub answered : Answered (0 ∷ []) rs (told r)
  pub lays : (told r).number ≡ 0 → t ≡ fresh
  pub keeps : ((told r).number ≡ 0 → ⊥) → t ≡ s

-- ---- the dealer: 21, "looked at first"
abbrev pub deal_table : ℕ → ℕ → List Row
deal_table steps last = row (not (turn_allowed steps last)) BadTurn ∷ []

-- a turn that was told the flags, steps and bay answered r and gave the counts; no buffer is lent, and
-- refused, the counts are sixteen zeros
pub record DealAnswers (flags : List Bool) (steps last : ℕ) (r : Answer) (counts : List ℕ) : Type 0 where
  pub answered : Answered (served flags last steps ∷ []) (deal_table steps last) (told r)
  pub gives : (told r).number ≡ 0 → counts ≡ table (gets flags last steps) bays
  pub zeros : ((told r).number ≡ 0 → ⊥) → counts ≡ replicate bays 0

-- ---- laps against the mat: 26, "looked at first", then 1
-- the call on watch times w and mat times m, with the lists o lent, answered r and left v
pub record LapsAnswers (w m : List ℕ) (o : Lists) (r : Answer) (v : Lists) : Type 0 where
  pub answered : Answered (length (report w m).paired_watch ∷ []) (laps_table w m o) (told r)
  pub reports : (told r).number ≡ 0 → v ≡ over (report w m) o
  pub keeps : ((told r).number ≡ 0 → ⊥) → v ≡ o

-- ---- which copies to keep: 1, then "23 .. 24 .. 25 .. in that order"
-- the call on copies, terms and the day asked, with the list out lent, answered r and left v
pub record KeepAnswers (copies terms : List ℕ) (asked : ℕ) (out : List ℕ) (r : Answer) (v : List ℕ) : Type 0 where
  pub answered : Answered (kept_count (in_days copies) (in_days terms) (day_number (date_of asked)) ∷ []) (keep_table copies terms asked out) (told r)
  pub says : (told r).number ≡ 0 → v ≡ splice out 0 (keeping.flags (in_days copies) (in_days terms) (day_number (date_of asked)))
  pub keeps : ((told r).number ≡ 0 → ⊥) → v ≡ out

-- ---- demand 1: each call as its contract promises it. The check refuses nothing: it "takes any bytes and answers yes or no"; demand 2: "The soundness check says yes to a store that meets its conditions and no to every other."
pub record FirstDemand : Type 0 where
  -- "looked at lowest first"; 17 "comes right after 1", 18 "comes after 10"; 21 and 26 are "looked at first", each by its own call; 23 to 25 come after 1, "in that order"
  pub looked_at_lem : numbers order ≡ 21 ∷ 26 ∷ 1 ∷ 17 ∷ 2 ∷ 3 ∷ 4 ∷ 5 ∷ 6 ∷ 7 ∷ 8 ∷ 9 ∷ 10 ∷ 18 ∷ 11 ∷ 12 ∷ 13 ∷ 14 ∷ 15 ∷ 16 ∷ 23 ∷ 24 ∷ 25 ∷ []
  pub calls : {x : Act} {w v : World} {a : Received} → Did x w a v → Answers x w a v
  pub lays_store : {s t : List ℕ} (r : Answer) (inodes blocks : ℕ) → laid_out r t ≡ lay_out_store s inodes blocks → LayAnswers (store_lay_table s inodes blocks) s (fresh_store inodes blocks) r t
  pub lays_desk : {desk t : List ℕ} (r : Answer) (inodes : ℕ) → laid_out r t ≡ lay_out_desk desk inodes → LayAnswers (desk_lay_table desk inodes) desk (fresh_desk inodes) r t
  pub deals : {counts : List ℕ} (r : Answer) (flags : List Bool) (steps last : ℕ) → turn r counts ≡ dealt flags steps last → DealAnswers flags steps last r counts
  pub matches : {w m : List ℕ} {o v : Lists} (r : Answer) → left r v ≡ match_laps w m o → LapsAnswers w m o r v
  pub keeps_copies : {copies terms out v : List ℕ} (asked : ℕ) (r : Answer) → keeping.left r v ≡ keep_call copies terms asked out → KeepAnswers copies terms asked out r v
  pub checks : (f : Form) (s : List ℕ) (r : Bool) → r ≡ is_sound f s → Reflects r (Sound f s)
