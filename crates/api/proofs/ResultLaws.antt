-- Every public call's result fits 32 bits with a sign, on any bytes: it is 0, an inode's number, a size, a count of bytes, steps or pairs, or a bay. s is the store, m the image, d the desk.
use Rattle.std.specs.Prelude.{Err, None, Ok, Option, Some}
use Prim.Native.Nat.{ℕ, zero, suc, ◌+◌, ◌*◌, ◌≤◌}
use mathlib.Core.Path.{◌≡◌, refl, subst}
use mathlib.Core.Bool.{Bool, true, false, not, ◌&&◌}
use mathlib.Core.List.{List, []}
use native.Mathlib.Omega.{arith}
use borrow.Author.Tests.{leb-true, ltb-false, not-false}
use lib.Dec.{leb, ltb}
use lib.ListN.{length, get_or, replicate}
use Rattle.bounded.specs.Search.{pick}
use Rattle.bounded.specs.Table.{table}
use Rattle.bounded.proofs.BoolLaws.{never, and_right, or_false_r}
use Rattle.bounded.proofs.SearchLaws.{by_pick, found_lowest}
use Rattle.bounded.proofs.EachLaws.{All}
use Rattle.layout.specs.Sizes.{most_inodes, most_store_blocks, most_file_bytes}
use Rattle.layout.specs.Inode.{size_of, file_kind, is_file, is_directory, inode_free, free_inode}
use Rattle.blocks.specs.Block.{allowed}
use Rattle.names.specs.Name.{legal_name}
use Rattle.directory.specs.Slot.{find_slot, inode_at}
use Rattle.desk.specs.Sizes.{stopped, steps_an_inode, desk_allowed}
use Rattle.desk.specs.Desk.{desk_of}
use Rattle.sound.specs.Sound.{inodes_in, blocks_in}
use Rattle.sound.specs.Counted.{SoundStore}
use Rattle.sound.specs.Test.{framed_b, is_sound}
use Rattle.sound.specs.declared.Form.TheVariants.{Store}
use Rattle.sound.proofs.SoundLaws.{is_sound_lem}
use Rattle.preservation.proofs.StoreLaws.{sound_store, kind_size}
use Rattle.preservation.proofs.SlotPlaceLaws.{found_here}
use Rattle.answers.specs.declared.Refusal.TheVariants.{BadTurn}
use Rattle.answers.specs.Told.{Told}
use Rattle.answers.specs.Order.{Row}
use Rattle.format.specs.Format.{LaidOut, lay_out_store, lay_out_desk}
use Rattle.files.specs.Effect.{Call, look_up, read, create, write, shorten, link, unlink, rename, rename_new}
use Rattle.files.specs.Plain.{plain}
use Rattle.checkpoint.specs.Fit.{both_framed, desk_framed, desk_fits, is_running, notes_fit}
use Rattle.checkpoint.specs.Live.{World, Outcome, live, start, step, world}
use Rattle.checkpoint.specs.Table.{found, or_zero, look_up_table, read_table, create_table, write_table, shorten_table, step_table, burst_table}
use Rattle.checkpoint.specs.List.{call, advances, asks, starts, Event, outcome, next, accepted, completes, accepted_steps}
use Rattle.checkpoint.specs.Burst.{most_burst, count_allowed, burst, tries, tries_of, Act, one, bursts}
use Rattle.checkpoint.proofs.Copy.FitLaws.{desk_framed_is, desk_fits_is, notes_fit_is}
use Rattle.checkpoint.proofs.TableLaws.{look_up_alone, read_alone}
use Rattle.dealer.specs.Deal.{bays, served, gets, turn, turn_allowed, dealt}
use Rattle.dealer.proofs.Circle.{served_below}
use Rattle.dealer.proofs.TurnLaws.{allowed_is}
use Rattle.laps.specs.Walk.{Lists}
use Rattle.laps.specs.Call.{match_laps}
use Rattle.laps.specs.Claim.{Delivered, matched, bad_times, no_room}
use Rattle.laps.proofs.RisingLaws.{parted_length}
use Rattle.laps.proofs.Claim.{delivers}
use Rattle.bounded.proofs.CountLaws.{count_le}
use Rattle.calendar.specs.Date.{date_of, day_number}
use Rattle.keeping.specs.Keeping.{keeps}
use Rattle.keeping.specs.Call as keeping
use Rattle.keeping.specs.Claims as kept
use Rattle.keeping.proofs.CallLaws as keeping-laws
use Rattle.keeping.proofs.Claims as keeping-claims
use Rattle.watch.specs.Answered.{ByTable, result, holds, passes, table_of, result_of}
use Rattle.watch.specs.Received.{outcome_of}
use Rattle.watch.proofs.AnswerLaws.{by_table}
use Rattle.api.specs.Api.{most_result, Fits}

-- ---- an answer by a table fits, if its result does where no condition holds
abbrev NoneHolds : List Row → Type 0
NoneHolds rs = All (λ (r : Row). r.holds ≡ false) rs

by_rows : {vs : List ℕ} {rs : List Row} {t : Told} → ByTable vs rs t → (NoneHolds rs → get_or vs 0 0 ≤ most_result) → Fits t
by_rows result f = f tt
by_rows (holds h) f = omega arith
by_rows (passes h b) f = by_rows b (λ r. f (h, r))

-- ---- numbers of a sound store
module _ (s : List ℕ) (h : is_sound Store s ≡ true) where
  store : SoundStore s (inodes_in s) (blocks_in s)
  store = sound_store ((is_sound_lem Store s).to h) refl

  few_inodes : inodes_in s ≤ most_inodes
  few_inodes = ((is_sound_lem Store s).to h).framed.most_inodes_lem

  file_size : (i : ℕ) → is_file s (inodes_in s) i ≡ true → size_of s i ≤ most_file_bytes
  file_size i f = kind_size store file_kind i f

  named_inode : (e : ℕ) (name : List ℕ) → is_directory s (inodes_in s) e ≡ true → legal_name name ≡ true → (f : Option ℕ) → find_slot s (inodes_in s) e name ≡ f → found f ≡ true → inode_at s (inodes_in s) e (or_zero f) ≤ most_inodes
  named_inode e name d l (Some t) q g = omega (arith, few_inodes, (found_here store e t name d l q).high)
  named_inode e name d l None q g = never g

  free_number : (f : Option ℕ) → free_inode s (inodes_in s) ≡ f → or_zero f ≤ most_inodes
  unfolding free_inode
  free_number (Some i) q = omega (arith, few_inodes, (found_lowest (inode_free s) 1 (inodes_in s) i q).below)
  free_number None q = omega arith

-- ---- numbers of a desk that fits
module _ (s m d : List ℕ) (h : notes_fit s m d ≡ true) where
  desk_fits_lem : desk_fits d ≡ true
  desk_fits_lem = ((notes_fit_is s m d).to h).0

  few_states : (desk_of d).state ≤ stopped
  few_states = ((desk_fits_is d).to desk_fits_lem).0

  few_steps : (desk_of d).steps ≤ steps_an_inode * (desk_of d).inodes + 1
  few_steps =
      let l = ((desk_fits_is d).to desk_fits_lem).1.1.1.1.1.1.1 in
      let k = by_pick (λ (z : ℕ). z ≤ steps_an_inode * (desk_of d).inodes + 1) (is_running d) {x = steps_an_inode * (desk_of d).inodes} {y = steps_an_inode * (desk_of d).inodes + 1} (omega arith) (omega arith) in
      omega (arith, l, k)

-- ---- the accepted among the steps that a burst tries
tried : (k c : ℕ) (w : World) → accepted_steps (tries k w) w c ≤ c + k
unfolding tries accepted_steps
tried zero c w = omega arith
tried (suc k) c w = go (accepted advances w && not (completes advances w)) (accepted advances w) (tried k c (next advances w)) (tried k (suc c) (next advances w))
  where
    go : (b a : Bool) → accepted_steps (tries k (next advances w)) (next advances w) c ≤ c + k → accepted_steps (tries k (next advances w)) (next advances w) (suc c) ≤ suc c + k
        → accepted_steps (pick b (tries k (next advances w)) []) (next advances w) (pick a (suc c) c) ≤ c + suc k
    go true true p q = omega (arith, q)
    go true false p q = omega (arith, p)
    go false true p q = omega arith
    go false false p q = omega arith

burst_steps : (k : ℕ) (w : World) → count_allowed k ≡ true → accepted_steps (tries_of k w) w 0 ≤ most_burst
unfolding tries_of accepted_steps
burst_steps k w h =
    let l = leb-true k most_burst (and_right (leb 1 k) (leb k most_burst) h) in
    by_pick (λ (es : List Event). accepted_steps es w 0 ≤ most_burst) (both_framed w.store w.desk && count_allowed k) (omega (arith, l, tried k 0 w)) (omega arith)

-- ---- each call
module _ (w : World) where
  result_most : (x : Act) → NoneHolds (table_of x w) → get_or (result_of x w) 0 0 ≤ most_result
  unfolding table_of result_of look_up_table read_table create_table write_table shorten_table step_table burst_table
  result_most (one (call (look_up d name))) h =
      let l = named_inode w.store (not-false _ h.1.0) d name (not-false _ h.1.1.1.0) (not-false _ h.1.1.0) (find_slot w.store (inodes_in w.store) d name) refl (not-false _ h.1.1.1.1.0) in
      omega (arith, l)
  result_most (one (call (read i o out))) h = omega (arith, file_size w.store (not-false _ h.1.0) i (not-false _ h.1.1.0))
  result_most (one (call (create d name k))) h = omega (arith, free_number w.store (not-false _ h.1.0) (free_inode w.store (inodes_in w.store)) refl)
  result_most (one (call (write i o xs))) h =
      let z = file_size w.store (not-false _ h.1.0) i (not-false _ h.1.1.1.0) in
      let e = ltb-false most_file_bytes (o + length xs) (or_false_r (ltb (size_of w.store i) o) (ltb most_file_bytes (o + length xs)) h.1.1.1.1.0) in
      omega (arith, z, e)
  result_most (one (call (shorten i z))) h =
      let l = file_size w.store (not-false _ h.1.0) i (not-false _ h.1.1.1.0) in
      omega (arith, l, ltb-false (size_of w.store i) z h.1.1.1.1.0)
  result_most (one (call (link d name i))) h = omega arith
  result_most (one (call (unlink d name))) h = omega arith
  result_most (one (call (rename d name e other))) h = omega arith
  result_most (one (call (rename_new d name e other))) h = omega arith
  result_most (one starts) h = omega arith
  result_most (one advances) h =
      let n = ((desk_framed_is w.desk).to (and_right (framed_b Store w.store) (desk_framed w.desk) (not-false _ h.0))).1.0 in
      omega (arith, n, few_steps w.store w.image w.desk (not-false _ h.1.1.0))
  result_most (one asks) h = omega (arith, few_states w.store w.image w.desk (not-false _ h.1.1.0))
  result_most (bursts k) h = omega (arith, burst_steps k w (not-false _ h.1.0))

  pub result_fits : (x : Act) → Fits (outcome_of x w).answer
  result_fits x = by_rows (by_table w x) (result_most x)

-- ---- the same, as the contracts have it
pub live_fits : (c : Call) (w : World) → Fits (live c w).answer
unfolding outcome
live_fits c w = result_fits w (one (call c))

pub look_up_fits : (s : List ℕ) (d : ℕ) (name : List ℕ) → Fits (plain (look_up d name) s).answer
look_up_fits s d name = subst (λ (o : Outcome). Fits o.answer) (look_up_alone (world s [] []) d name) (live_fits (look_up d name) (world s [] []))

pub read_fits : (s : List ℕ) (i o : ℕ) (out : List ℕ) → Fits (plain (read i o out) s).answer
read_fits s i o out = subst (λ (o : Outcome). Fits o.answer) (read_alone (world s [] []) i o out) (live_fits (read i o out) (world s [] []))

pub start_fits : (s m d : List ℕ) → Fits (start s m d).answer
unfolding outcome
start_fits s m d = result_fits (world s m d) (one starts)

pub step_fits : (s m d : List ℕ) → Fits (step s m d).answer
unfolding outcome
step_fits s m d = result_fits (world s m d) (one advances)

pub burst_fits : (k : ℕ) (w : World) → Fits (burst k w).answer
burst_fits k w = result_fits w (bursts k)

-- the layout calls answer 0
pub lay_store_fits : (s : List ℕ) (n b : ℕ) → Fits (lay_out_store s n b).answer
unfolding lay_out_store
lay_store_fits s n b = by_pick (λ (o : LaidOut). Fits o.answer) (allowed most_store_blocks n b (length s)) (omega arith) (omega arith)

pub lay_desk_fits : (d : List ℕ) (n : ℕ) → Fits (lay_out_desk d n).answer
unfolding lay_out_desk
lay_desk_fits d n = by_pick (λ (o : LaidOut). Fits o.answer) (desk_allowed n (length d)) (omega arith) (omega arith)

-- the dealer answers a bay
pub deal_fits : (f : List Bool) (s b : ℕ) → Fits (dealt f s b).answer
deal_fits f s b = go (turn_allowed s b) refl
  where
    go : (v : Bool) → turn_allowed s b ≡ v → Fits (pick v (turn (Ok (served f b s)) (table (gets f b s) bays)) (turn (Err BadTurn) (replicate bays 0))).answer
    go true e = omega (arith, served_below f b s (allowed_is s b e).bay)
    go false e = omega arith

-- laps against the mat answer a number of pairs: at most that of the watch's times, and these are at most 512
few_pairs : {w m : List ℕ} {o v : Lists} {t : Told} → Delivered w m o v t → Fits t
few_pairs (matched p x) =
    let few = x.taken.0.0 in
    let all = parted_length x.reported.one_place.0 in
    let count = x.count in
    omega arith
few_pairs (bad_times h k) = omega arith
few_pairs (no_room h f k) = omega arith

pub laps_fits : (w m : List ℕ) (o : Lists) → Fits (match_laps w m o).answer
laps_fits w m o = few_pairs (delivers w m o)

-- of copies no more are kept than there are, and these are at most 256
few_kept : {copies terms : List ℕ} {asked : ℕ} {out v : List ℕ} {t : Told} → kept.Delivered copies terms asked out v t → Fits t
few_kept {copies} {terms} {asked} {out} (kept.answered x) =
    let few = (keeping-laws.lengths copies terms asked out x.lengths).0 in
    let long = keeping-laws.days_long copies in
    let count = count_le (keeps (keeping.in_days copies) (keeping.in_days terms) (day_number (date_of asked))) (length (keeping.in_days copies)) in
    omega arith
few_kept (kept.bad_lengths h k) = omega arith
few_kept (kept.no_date h d k) = omega arith
few_kept (kept.bad_terms h d w k) = omega arith
few_kept (kept.after_asked_lem h d w i l a k) = omega arith

pub keep_fits : (copies terms : List ℕ) (asked : ℕ) (out : List ℕ) → Fits (keeping.keep_call copies terms asked out).answer
keep_fits copies terms asked out = few_kept (keeping-claims.delivers copies terms asked out)
