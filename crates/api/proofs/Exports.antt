-- Each export is the public call of its name: from what a caller learns by its contract, whatever the arguments, follows that the call was made, and what its caller is told.
-- a are the arguments, z is the result, e the parameters at exit; m and d are an image and a desk that the call does not have.
use Rattle.std.specs.Prelude.{Err, Ok}
use Prim.Native.Nat.{ℕ}
use mathlib.Core.Path.{◌≡◌, refl, sym, ap, ◌∙◌, subst}
use mathlib.Core.Bool.{Bool, true, false, ◌&&◌}
use mathlib.Core.List.{List, [], ◌∷◌}
use mathlib.Core.Logic.{⊎_elim}
use borrow.Author.Tests.{ne_eqb}
use lib.IntN.{ℤ, pos, nat_abs, pos-ne-negsuc}
use lib.ListN.{length, replicate}
use Rattle.bounded.specs.Search.{pick}
use Rattle.bounded.proofs.BoolLaws.{holds_or_fails}
use Rattle.layout.specs.Sizes.{most_store_blocks}
use Rattle.blocks.specs.Block.{allowed}
use Rattle.desk.specs.Sizes.{desk_allowed}
use Rattle.sound.specs.Test.{is_sound}
use Rattle.entries.specs.declared.Kind.TheVariants.{File, Directory}
use Rattle.bounded.specs.Table.{table}
use Rattle.answers.specs.declared.Refusal.TheVariants.{BadBuffer, BadTurn, BadTimes}
use Rattle.answers.specs.Told.{Answer, Told, told}
use Rattle.format.specs.Format.{laid_out, fresh_store, fresh_desk, lay_out_store, lay_out_desk}
use Rattle.files.specs.Effect.{look_up, read, create, write, shorten, link, unlink, rename, rename_new}
use Rattle.files.specs.Plain as alone
use Rattle.files.specs.Plain.{got}
use Rattle.checkpoint.specs.Live.{World, Outcome, tells, live, start, step, status, world}
use Rattle.checkpoint.specs.List.{call, advances, starts}
use Rattle.checkpoint.specs.Burst.{burst, one, bursts}
use Rattle.watch.specs.Made.{on_store, on_three, started, stepped, asked, stepped_many}
use Rattle.watch.proofs.Contracts.{Gives}
use Rattle.dealer.specs.Deal.{bays, served, gets, turn, turn_allowed, dealt}
use Rattle.laps.specs.Times as times
use Rattle.laps.specs.Walk.{Lists, lists, report}
use Rattle.laps.specs.Call as laps
use Rattle.laps.specs.Claim.{Matched, Delivered, matched, bad_times, no_room}
use Rattle.laps.proofs.CallLaws.{refused_times, refused_room, accepted}
use Rattle.laps.proofs.Claim as matching
use Rattle.calendar.specs.Date.{date_of, day_number}
use Rattle.octets.specs.Octets.{splice}
use Rattle.answers.specs.Order.{Row, first_by}
use Rattle.keeping.specs.Call as keeping
use Rattle.keeping.specs.Claims as kept
use Rattle.keeping.proofs.Claims as keeping-claims
use Rattle.api.specs.Api.{Sent, code_of, sends, sent_laid, sent_alone, sent, SentState, sent_state, form_told, checked, mask_flags, sent_dealt, sent_laps, sent_kept}
use Rattle.api.specs.Exported.{Exported, Asked, LaysOut, Checks, Dealing, LapsMatched, KeepTold}
use Rattle.api.proofs.honecerise_lay_out_store.Kinds as lay-store-kinds
use Rattle.api.proofs.honecerise_lay_out_store.Reads as lay-store-reads
use Rattle.api.proofs.honecerise_lay_out_desk.Kinds as lay-desk-kinds
use Rattle.api.proofs.honecerise_lay_out_desk.Reads as lay-desk-reads
use Rattle.api.proofs.honecerise_check.Kinds as check-kinds
use Rattle.api.proofs.honecerise_check.Reads as check-reads
use Rattle.api.proofs.honecerise_look_up.Kinds as look-up-kinds
use Rattle.api.proofs.honecerise_look_up.Reads as look-up-reads
use Rattle.api.proofs.honecerise_read.Kinds as read-kinds
use Rattle.api.proofs.honecerise_read.Reads as read-reads
use Rattle.api.proofs.honecerise_create_file.Kinds as create-file-kinds
use Rattle.api.proofs.honecerise_create_file.Reads as create-file-reads
use Rattle.api.proofs.honecerise_create_directory.Kinds as create-directory-kinds
use Rattle.api.proofs.honecerise_create_directory.Reads as create-directory-reads
use Rattle.api.proofs.honecerise_write.Kinds as write-kinds
use Rattle.api.proofs.honecerise_write.Reads as write-reads
use Rattle.api.proofs.honecerise_shorten.Kinds as shorten-kinds
use Rattle.api.proofs.honecerise_shorten.Reads as shorten-reads
use Rattle.api.proofs.honecerise_link.Kinds as link-kinds
use Rattle.api.proofs.honecerise_link.Reads as link-reads
use Rattle.api.proofs.honecerise_unlink.Kinds as unlink-kinds
use Rattle.api.proofs.honecerise_unlink.Reads as unlink-reads
use Rattle.api.proofs.honecerise_rename.Kinds as rename-kinds
use Rattle.api.proofs.honecerise_rename.Reads as rename-reads
use Rattle.api.proofs.honecerise_rename_new.Kinds as rename-new-kinds
use Rattle.api.proofs.honecerise_rename_new.Reads as rename-new-reads
use Rattle.api.proofs.honecerise_start.Kinds as start-kinds
use Rattle.api.proofs.honecerise_start.Reads as start-reads
use Rattle.api.proofs.honecerise_step.Kinds as step-kinds
use Rattle.api.proofs.honecerise_step.Reads as step-reads
use Rattle.api.proofs.honecerise_burst.Kinds as burst-kinds
use Rattle.api.proofs.honecerise_burst.Reads as burst-reads
use Rattle.api.proofs.honecerise_deal.Kinds as deal-kinds
use Rattle.api.proofs.honecerise_deal.Reads as deal-reads
use Rattle.api.proofs.honecerise_state.Kinds as state-kinds
use Rattle.api.proofs.honecerise_state.Reads as state-reads
use Rattle.api.proofs.honecerise_match_laps.Kinds as match-laps-kinds
use Rattle.api.proofs.honecerise_match_laps.Reads as match-laps-reads
use Rattle.api.proofs.honecerise_keep.Kinds as keep-kinds
use Rattle.api.proofs.honecerise_keep.Reads as keep-reads

-- ---- the buffers that an equation tells
abbrev first : List (List ℕ) → List ℕ
first [] = []
first (b ∷ bs) = b

abbrev after : List (List ℕ) → List (List ℕ)
after [] = []
after (b ∷ bs) = bs

module _ (v : World) (z : ℤ) (o : Outcome) (h : sends z (v.store ∷ v.image ∷ v.desk ∷ []) ≡ sent o) where
  same_buffers : tells o.answer v.store v.image v.desk ≡ o
  same_buffers =
      let s = ap (λ (x : Sent). first x.buffers) h in
      let m = ap (λ (x : Sent). first (after x.buffers)) h in
      let d = ap (λ (x : Sent). first (after (after x.buffers))) h in
      rw (s, m, d) refl

  same_code : z ≡ code_of o.answer
  same_code = ap (λ (x : Sent). x.code) h

module _ (s out : List ℕ) (z : ℤ) (o : alone.PlainOutcome) (h : sends z (s ∷ out ∷ []) ≡ sent_alone o) where
  alone_buffers : record { answer = o.answer; store = s; out = out } ≡ o
  alone_buffers =
      let a = ap (λ (x : Sent). first x.buffers) h in
      let b = ap (λ (x : Sent). first (after x.buffers)) h in
      rw (a, b) refl

  alone_code : z ≡ code_of o.answer
  alone_code = ap (λ (x : Sent). x.code) h

-- ---- the layout calls: b says whether count and length are allowed, fresh is what is laid out
lays_out : (b : Bool) (s fresh t : List ℕ) (z : ℤ) → sends z (t ∷ []) ≡ sent_laid (pick b (laid_out (Ok 0) fresh) (laid_out (Err BadBuffer) s)) → LaysOut (pick b (laid_out (Ok 0) fresh) (laid_out (Err BadBuffer) s)) z t
lays_out true s fresh t z h = record { answer = Ok 0; made = ap (λ (x : Sent). laid_out (Ok 0) (first x.buffers)) h; code = ap (λ (x : Sent). x.code) h }
lays_out false s fresh t z h = record { answer = Err BadBuffer; made = ap (λ (x : Sent). laid_out (Err BadBuffer) (first x.buffers)) h; code = ap (λ (x : Sent). x.code) h }

pub lay_store_exported : Gives 1 lay-store-kinds.ps lay-store-kinds.r lay-store-reads.Learnt (λ κs a z e. LaysOut (lay_out_store a.0.now a.1.0 a.1.1.0) z e.0.now)
unfolding lay_out_store
lay_store_exported κs a z e h = lays_out (allowed most_store_blocks a.1.0 a.1.1.0 (length a.0.now)) a.0.now (fresh_store a.1.0 a.1.1.0) e.0.now z h

pub lay_desk_exported : Gives 1 lay-desk-kinds.ps lay-desk-kinds.r lay-desk-reads.Learnt (λ κs a z e. LaysOut (lay_out_desk a.0.now a.1.0) z e.0.now)
unfolding lay_out_desk
lay_desk_exported κs a z e h = lays_out (desk_allowed a.1.0 (length a.0.now)) a.0.now (fresh_desk a.1.0) e.0.now z h

-- ---- the check
pub check_exported : Gives 1 check-kinds.ps check-kinds.r check-reads.Learnt (λ κs a z e. Checks a.0 a.1.0.now z)
unfolding checked
check_exported κs a z e h = record { answer = is_sound (form_told a.0) a.1.0.now; made = refl; code = h }

-- ---- the calls on the store alone
pub look_up_exported : (m d : List ℕ) → Gives 2 look-up-kinds.ps look-up-kinds.r look-up-reads.Learnt (λ κs a z e.
    Exported (one (call (look_up a.1.0 a.1.1.0.now))) (world a.0.now m d) z [] (world a.0.now m d))
look_up_exported m d κs a z e h =
    let o = alone.plain (look_up a.1.0 a.1.1.0.now) a.0.now in
    record { received = got o.answer []; made = on_store o.answer refl (alone_buffers a.0.now [] z o h); code = alone_code a.0.now [] z o h; shown = refl }

pub read_exported : (m d : List ℕ) → Gives 2 read-kinds.ps read-kinds.r read-reads.Learnt (λ κs a z e.
    Exported (one (call (read a.1.0 a.1.1.0 a.1.1.1.0.now))) (world a.0.now m d) z e.1.1.1.0.now (world a.0.now m d))
read_exported m d κs a z e h =
    let o = alone.plain (read a.1.0 a.1.1.0 a.1.1.1.0.now) a.0.now in
    record { received = got o.answer e.1.1.1.0.now; made = on_store o.answer refl (alone_buffers a.0.now e.1.1.1.0.now z o h); code = alone_code a.0.now e.1.1.1.0.now z o h; shown = refl }

-- ---- the file calls over the three buffers
pub create_file_exported : Gives 4 create-file-kinds.ps create-file-kinds.r create-file-reads.Learnt (λ κs a z e.
    Exported (one (call (create a.1.1.1.0 a.1.1.1.1.0.now File))) (world a.0.now a.1.0.now a.1.1.0.now) z [] (world e.0.now e.1.0.now e.1.1.0.now))
create_file_exported κs a z e h =
    let v = (world e.0.now e.1.0.now e.1.1.0.now) in
    let o = live (create a.1.1.1.0 a.1.1.1.1.0.now File) (world a.0.now a.1.0.now a.1.1.0.now) in
    record { received = got o.answer []; made = on_three o.answer refl (same_buffers v z o h); code = same_code v z o h; shown = refl }

pub create_directory_exported : Gives 4 create-directory-kinds.ps create-directory-kinds.r create-directory-reads.Learnt (λ κs a z e.
    Exported (one (call (create a.1.1.1.0 a.1.1.1.1.0.now Directory))) (world a.0.now a.1.0.now a.1.1.0.now) z [] (world e.0.now e.1.0.now e.1.1.0.now))
create_directory_exported κs a z e h =
    let v = (world e.0.now e.1.0.now e.1.1.0.now) in
    let o = live (create a.1.1.1.0 a.1.1.1.1.0.now Directory) (world a.0.now a.1.0.now a.1.1.0.now) in
    record { received = got o.answer []; made = on_three o.answer refl (same_buffers v z o h); code = same_code v z o h; shown = refl }

pub write_exported : Gives 4 write-kinds.ps write-kinds.r write-reads.Learnt (λ κs a z e.
    Exported (one (call (write a.1.1.1.0 a.1.1.1.1.0 a.1.1.1.1.1.0.now))) (world a.0.now a.1.0.now a.1.1.0.now) z [] (world e.0.now e.1.0.now e.1.1.0.now))
write_exported κs a z e h =
    let v = (world e.0.now e.1.0.now e.1.1.0.now) in
    let o = live (write a.1.1.1.0 a.1.1.1.1.0 a.1.1.1.1.1.0.now) (world a.0.now a.1.0.now a.1.1.0.now) in
    record { received = got o.answer []; made = on_three o.answer refl (same_buffers v z o h); code = same_code v z o h; shown = refl }

pub shorten_exported : Gives 3 shorten-kinds.ps shorten-kinds.r shorten-reads.Learnt (λ κs a z e.
    Exported (one (call (shorten a.1.1.1.0 a.1.1.1.1.0))) (world a.0.now a.1.0.now a.1.1.0.now) z [] (world e.0.now e.1.0.now e.1.1.0.now))
shorten_exported κs a z e h =
    let v = (world e.0.now e.1.0.now e.1.1.0.now) in
    let o = live (shorten a.1.1.1.0 a.1.1.1.1.0) (world a.0.now a.1.0.now a.1.1.0.now) in
    record { received = got o.answer []; made = on_three o.answer refl (same_buffers v z o h); code = same_code v z o h; shown = refl }

pub link_exported : Gives 4 link-kinds.ps link-kinds.r link-reads.Learnt (λ κs a z e.
    Exported (one (call (link a.1.1.1.0 a.1.1.1.1.0.now a.1.1.1.1.1.0))) (world a.0.now a.1.0.now a.1.1.0.now) z [] (world e.0.now e.1.0.now e.1.1.0.now))
link_exported κs a z e h =
    let v = (world e.0.now e.1.0.now e.1.1.0.now) in
    let o = live (link a.1.1.1.0 a.1.1.1.1.0.now a.1.1.1.1.1.0) (world a.0.now a.1.0.now a.1.1.0.now) in
    record { received = got o.answer []; made = on_three o.answer refl (same_buffers v z o h); code = same_code v z o h; shown = refl }

pub unlink_exported : Gives 4 unlink-kinds.ps unlink-kinds.r unlink-reads.Learnt (λ κs a z e.
    Exported (one (call (unlink a.1.1.1.0 a.1.1.1.1.0.now))) (world a.0.now a.1.0.now a.1.1.0.now) z [] (world e.0.now e.1.0.now e.1.1.0.now))
unlink_exported κs a z e h =
    let v = (world e.0.now e.1.0.now e.1.1.0.now) in
    let o = live (unlink a.1.1.1.0 a.1.1.1.1.0.now) (world a.0.now a.1.0.now a.1.1.0.now) in
    record { received = got o.answer []; made = on_three o.answer refl (same_buffers v z o h); code = same_code v z o h; shown = refl }

pub rename_exported : Gives 5 rename-kinds.ps rename-kinds.r rename-reads.Learnt (λ κs a z e.
    Exported (one (call (rename a.1.1.1.0 a.1.1.1.1.0.now a.1.1.1.1.1.0 a.1.1.1.1.1.1.0.now))) (world a.0.now a.1.0.now a.1.1.0.now) z [] (world e.0.now e.1.0.now e.1.1.0.now))
rename_exported κs a z e h =
    let v = (world e.0.now e.1.0.now e.1.1.0.now) in
    let o = live (rename a.1.1.1.0 a.1.1.1.1.0.now a.1.1.1.1.1.0 a.1.1.1.1.1.1.0.now) (world a.0.now a.1.0.now a.1.1.0.now) in
    record { received = got o.answer []; made = on_three o.answer refl (same_buffers v z o h); code = same_code v z o h; shown = refl }

pub rename_new_exported : Gives 5 rename-new-kinds.ps rename-new-kinds.r rename-new-reads.Learnt (λ κs a z e.
    Exported (one (call (rename_new a.1.1.1.0 a.1.1.1.1.0.now a.1.1.1.1.1.0 a.1.1.1.1.1.1.0.now))) (world a.0.now a.1.0.now a.1.1.0.now) z [] (world e.0.now e.1.0.now e.1.1.0.now))
rename_new_exported κs a z e h =
    let v = (world e.0.now e.1.0.now e.1.1.0.now) in
    let o = live (rename_new a.1.1.1.0 a.1.1.1.1.0.now a.1.1.1.1.1.0 a.1.1.1.1.1.1.0.now) (world a.0.now a.1.0.now a.1.1.0.now) in
    record { received = got o.answer []; made = on_three o.answer refl (same_buffers v z o h); code = same_code v z o h; shown = refl }

-- ---- start, step, burst and state
pub start_exported : Gives 3 start-kinds.ps start-kinds.r start-reads.Learnt (λ κs a z e.
    Exported (one starts) (world a.0.now a.1.0.now a.1.1.0.now) z [] (world a.0.now e.1.0.now e.1.1.0.now))
start_exported κs a z e h =
    let v = (world a.0.now e.1.0.now e.1.1.0.now) in
    let o = start a.0.now a.1.0.now a.1.1.0.now in
    record { received = got o.answer []; made = started o.answer (same_buffers v z o h); code = same_code v z o h; shown = refl }

pub step_exported : Gives 3 step-kinds.ps step-kinds.r step-reads.Learnt (λ κs a z e.
    Exported (one advances) (world a.0.now a.1.0.now a.1.1.0.now) z [] (world a.0.now e.1.0.now e.1.1.0.now))
step_exported κs a z e h =
    let v = (world a.0.now e.1.0.now e.1.1.0.now) in
    let o = step a.0.now a.1.0.now a.1.1.0.now in
    record { received = got o.answer []; made = stepped o.answer (same_buffers v z o h); code = same_code v z o h; shown = refl }

pub burst_exported : Gives 3 burst-kinds.ps burst-kinds.r burst-reads.Learnt (λ κs a z e.
    Exported (bursts a.1.1.1.0) (world a.0.now a.1.0.now a.1.1.0.now) z [] (world a.0.now e.1.0.now e.1.1.0.now))
burst_exported κs a z e h =
    let v = (world a.0.now e.1.0.now e.1.1.0.now) in
    let o = burst a.1.1.1.0 (world a.0.now a.1.0.now a.1.1.0.now) in
    record { received = got o.answer []; made = stepped_many o.answer (same_buffers v z o h); code = same_code v z o h; shown = refl }

state_numbers : (t : Told) (ns ms : List ℕ) → t.number ≡ 0 → ns ≡ (sent_state t ms).numbers → ns ≡ t.values
state_numbers t ns ms e h = rw e at h

state_kept : (t : Told) (ns ms : List ℕ) → (t.number ≡ 0 → ⊥) → ns ≡ (sent_state t ms).numbers → ns ≡ ms
state_kept t ns ms e h = rw (ne_eqb t.number 0 e) at h

pub state_exported : Gives 6 state-kinds.ps state-kinds.r state-reads.Learnt (λ κs a z e.
    Asked (world a.0.now a.1.0.now a.1.1.0.now)
    (a.1.1.1.0.now ∷ a.1.1.1.1.0.now ∷ a.1.1.1.1.1.0.now ∷ []) z (e.1.1.1.0.now ∷ e.1.1.1.1.0.now ∷ e.1.1.1.1.1.0.now ∷ []))
state_exported κs a z e h =
    let r = status a.0.now a.1.0.now a.1.1.0.now in
    let q = ap (λ (x : SentState). x.numbers) h in
    record {
      received = got r [];
      made = asked r refl;
      code = ap (λ (x : SentState). x.code) h;
      numbers = λ n. state_numbers r _ _ n q;
      kept = λ n. state_kept r _ _ n q;
    }

-- ---- the dealer
told_bay : (x y : ℕ) (z : ℤ) → z ≡ pos x → z ≡ pos y → told (Ok x) ≡ told (Ok y)
told_bay x y z c e = ap (λ (i : ℤ). told (Ok (nat_abs i))) (sym c ∙ e)

module _ (mask steps last : ℕ) (z : ℤ) (counts : List ℕ) (h : sends z (counts ∷ []) ≡ sent_dealt (dealt (mask_flags mask) steps last)) where
  abbrev x : ℕ
  x = served (mask_flags mask) last steps

  abbrev cs : List ℕ
  cs = table (gets (mask_flags mask) last steps) bays

  dealing : Dealing mask steps last z counts
  dealing = go (turn_allowed steps last) refl
    where
      go : (v : Bool) → turn_allowed steps last ≡ v → Dealing mask steps last z counts
      go true e =
          let k : sends z (counts ∷ []) ≡ sent_dealt (turn (Ok x) cs) = rw e at h in
          let c = ap (λ (s : Sent). s.code) k in
          record {
            answer = Ok x;
            made = rw e (ap (λ (s : Sent). turn (Ok x) (first s.buffers)) k);
            code = c;
            bay = λ y. told_bay x y z c;
          }
      go false e =
          let k : sends z (counts ∷ []) ≡ sent_dealt (turn (Err BadTurn) (replicate bays 0)) = rw e at h in
          let c = ap (λ (s : Sent). s.code) k in
          record {
            answer = Err BadTurn;
            made = rw e (ap (λ (s : Sent). turn (Err BadTurn) (first s.buffers)) k);
            code = c;
            bay = λ y p. absurd (pos-ne-negsuc y 20 (sym p ∙ c));
          }

pub deal_exported : Gives 1 deal-kinds.ps deal-kinds.r deal-reads.Learnt (λ κs a z e. Dealing a.0 a.1.0 a.1.1.0 z e.1.1.1.0.now)
deal_exported κs a z e h = dealing a.0 a.1.0 a.1.1.0 z e.1.1.1.0.now h

-- ---- laps against the mat
told_pairs : {w m : List ℕ} {o v : Lists} {t : Told} {z : ℤ} → Delivered w m o v t → z ≡ code_of t → (p : ℕ) → z ≡ pos p → Matched w m o v p
told_pairs {w} {m} {o} {v} (matched q x) c p e = subst (Matched w m o v) (ap nat_abs (sym c ∙ e)) x
told_pairs (bad_times h k) c p e = absurd (pos-ne-negsuc p 25 (sym e ∙ c))
told_pairs (no_room h f k) c p e = absurd (pos-ne-negsuc p 0 (sym e ∙ c))

module _ (w m : List ℕ) (o v : Lists) (z : ℤ) (h : sends z (v.paired_watch ∷ v.paired_mat ∷ v.alone_watch ∷ v.alone_mat ∷ []) ≡ sent_laps (laps.match_laps w m o)) where
  -- r is what the public call answers, u the lists that it leaves
  matched_by : (r : Answer) (u : Lists) → laps.left r u ≡ laps.match_laps w m o → LapsMatched w m o z v
  matched_by r u e =
      let k : sends z (v.paired_watch ∷ v.paired_mat ∷ v.alone_watch ∷ v.alone_mat ∷ []) ≡ sent_laps (laps.left r u) = h ∙ ap sent_laps (sym e) in
      let pw = ap (λ (x : Sent). first x.buffers) k in
      let pm = ap (λ (x : Sent). first (after x.buffers)) k in
      let aw = ap (λ (x : Sent). first (after (after x.buffers))) k in
      let am = ap (λ (x : Sent). first (after (after (after x.buffers)))) k in
      let same : v ≡ u = rw (pw, pm, aw, am) refl in
      let q : laps.left r v ≡ laps.match_laps w m o = ap (λ (x : Lists). laps.left r x) same ∙ e in
      let c = ap (λ (x : Sent). x.code) k in
      let d = (matching.claim).delivered w m o v r q in
      record { answer = r; made = q; code = c; delivered = d; pairs = told_pairs d c }

  laps_matched : LapsMatched w m o z v
  laps_matched =
      ⊎_elim
      (λ (p : times.allowed w && times.allowed m ≡ true).
      ⊎_elim
      (λ (q : laps.room w m o ≡ true). matched_by (Ok (length (report w m).paired_watch)) (laps.over (report w m) o) (accepted w m o p q))
      (λ (q : laps.room w m o ≡ false). matched_by (Err BadBuffer) o (refused_room w m o p q))
      (holds_or_fails (laps.room w m o)))
      (λ (p : times.allowed w && times.allowed m ≡ false). matched_by (Err BadTimes) o (refused_times w m o p))
      (holds_or_fails (times.allowed w && times.allowed m))

pub match_laps_exported : Gives 6 match-laps-kinds.ps match-laps-kinds.r match-laps-reads.Learnt (λ κs a z e.
    LapsMatched a.0.now a.1.0.now (lists a.1.1.0.now a.1.1.1.0.now a.1.1.1.1.0.now a.1.1.1.1.1.0.now)
    z (lists e.1.1.0.now e.1.1.1.0.now e.1.1.1.1.0.now e.1.1.1.1.1.0.now))
match_laps_exported κs a z e h = laps_matched _ _ _ (lists e.1.1.0.now e.1.1.1.0.now e.1.1.1.1.0.now e.1.1.1.1.1.0.now) z h

-- ---- which copies to keep
module _ (copies terms : List ℕ) (day : ℕ) (out v : List ℕ) where
  abbrev kept_of : ℕ
  kept_of = keeping.kept_count (keeping.in_days copies) (keeping.in_days terms) (day_number (date_of day))

  told_kept : {t : Told} {z : ℤ} → kept.Delivered copies terms day out v t → z ≡ code_of t → (n : ℕ) → z ≡ pos n → kept.Answered copies terms day out v × (n ≡ kept_of)
  told_kept (kept.answered x) c n e = (x, ap nat_abs (sym e ∙ c))
  told_kept (kept.bad_lengths h k) c n e = absurd (pos-ne-negsuc n 0 (sym e ∙ c))
  told_kept (kept.no_date h d k) c n e = absurd (pos-ne-negsuc n 22 (sym e ∙ c))
  told_kept (kept.bad_terms h d w k) c n e = absurd (pos-ne-negsuc n 23 (sym e ∙ c))
  told_kept (kept.after_asked_lem h d w i l a k) c n e = absurd (pos-ne-negsuc n 24 (sym e ∙ c))

  -- r is what the public call answers, u the list that it leaves
  kept_by : (z : ℤ) → sends z (v ∷ []) ≡ sent_kept (keeping.keep_call copies terms day out) → (r : Answer) (u : List ℕ) → keeping.left r u ≡ keeping.keep_call copies terms day out
      → KeepTold copies terms day out z v
  kept_by z h r u e =
      let k : sends z (v ∷ []) ≡ sent_kept (keeping.left r u) = h ∙ ap sent_kept (sym e) in
      let same : v ≡ u = ap (λ (x : Sent). first x.buffers) k in
      let q : keeping.left r v ≡ keeping.keep_call copies terms day out = ap (keeping.left r) same ∙ e in
      let c = ap (λ (x : Sent). x.code) k in
      let d = (keeping-claims.claims).delivered copies terms day out v r q in
      record { answer = r; made = q; code = c; delivered = d; flags = told_kept d c }

-- by any table: what was answered and left
kept_given : (rs : List Row) (n : ℕ) (o u : List ℕ) → (r : Answer) × (v : List ℕ) × (keeping.left r v ≡ first_by (λ e. keeping.left (Err e) o) rs (keeping.left (Ok n) u))
kept_given [] n o u = (Ok n, u, refl)
kept_given (r ∷ rs) n o u = go r.holds (kept_given rs n o u)
  where
    rest : keeping.Left
    rest = first_by (λ e. keeping.left (Err e) o) rs (keeping.left (Ok n) u)

    go : (b : Bool) → (r : Answer) × (v : List ℕ) × (keeping.left r v ≡ rest) → (a : Answer) × (v : List ℕ) × (keeping.left a v ≡ pick b (keeping.left (Err r.refusal) o) rest)
    go true t = (Err r.refusal, o, refl)
    go false t = t

keep_told : (copies terms : List ℕ) (day : ℕ) (out v : List ℕ) (z : ℤ) → sends z (v ∷ []) ≡ sent_kept (keeping.keep_call copies terms day out) → KeepTold copies terms day out z v
unfolding keeping.keep_call
keep_told copies terms day out v z h =
    let today = day_number (date_of day) in
    let g = kept_given (keeping.keep_table copies terms day out) (kept_of copies terms day out v) out (splice out 0 (keeping.flags (keeping.in_days copies) (keeping.in_days terms) today)) in
    kept_by copies terms day out v z h g.0 g.1 g.2

pub keep_exported : Gives 3 keep-kinds.ps keep-kinds.r keep-reads.Learnt (λ κs a z e. KeepTold a.0.now a.1.0.now a.1.1.0 a.1.1.1.0.now z e.1.1.1.0.now)
keep_exported κs a z e h = keep_told a.0.now a.1.0.now a.1.1.0 a.1.1.1.0.now e.1.1.1.0.now z h
