-- What is claimed of the call follows from its definition, and so of the code from its contract.
use Rattle.std.specs.Prelude.{Ok}
use Prim.Native.Nat.{ℕ, ◌-◌, ◌≤◌}
use mathlib.Core.Path.{◌≡◌, refl, sym, ap, subst}
use mathlib.Core.Bool.{true, false, ◌&&◌}
use mathlib.Core.List.{List}
use mathlib.Core.Logic.{⊎_elim}
use native.Mathlib.Omega.{arith}
use lib.ListN.{length, get_or}
use contract.Lifetimes.{Lfts}
use denote.Triple.Clauses.{AtExit}
use borrow.Fn.Kinds.{Dens, res_t, ended_of}
use Rattle.octets.specs.Octets.{part, splice}
use Rattle.octets.proofs.PartLaws.{part_same}
use Rattle.bounded.specs.Reflect.{Reflects}
use Rattle.bounded.proofs.BoolLaws.{clash, holds_or_fails}
use Rattle.bounded.proofs.ReflectLaws.{r_and}
use Rattle.answers.specs.Told.{Answer, Told, told}
use Rattle.laps.specs.Times.{Allowed, allowed}
use Rattle.laps.specs.Walk.{Lists, lists, report}
use Rattle.laps.specs.Reported.{Reported}
use Rattle.laps.specs.Call.{room, Room, Left, left, over, match_laps}
use Rattle.laps.specs.Claim.{counted, Delivered, matched, bad_times, no_room, Claim}
use Rattle.laps.proofs.match_laps.Kinds as match-laps-kinds
use Rattle.laps.proofs.match_laps.Reads as match-laps-reads
use Rattle.laps.proofs.RisingLaws.{allowed_decides, parted_length}
use Rattle.laps.proofs.CallLaws.{room_decides, refused_times, refused_room, accepted}
use Rattle.laps.proofs.ReportLaws.{report_once, report_paired, reported}

-- the front of a list that the report was laid over
front_is : (s xs : List ℕ) (k : ℕ) → length xs ≡ k → k ≤ length s → part (splice s 0 xs) 0 k ≡ xs
front_is s xs k e h = part_same s 0 xs k e (omega arith)

module _ (w m : List ℕ) (o : Lists) where
  -- what counts in the lists is the report
  counted_is : Room w m o → counted w m (length (report w m).paired_watch) (over (report w m) o) ≡ report w m
  counted_is f =
      let r = report w m in
      let a = parted_length (report_once w m).0 in
      let b = parted_length (report_once w m).1 in
      let c = (report_paired w m).0 in
      let pw = front_is o.paired_watch r.paired_watch (length r.paired_watch) refl (omega arith) in
      let pm = front_is o.paired_mat r.paired_mat (length r.paired_watch) c (omega arith) in
      let aw = front_is o.alone_watch r.alone_watch (length w - length r.paired_watch) (omega arith) (omega arith) in
      let am = front_is o.alone_mat r.alone_mat (length m - length r.paired_watch) (omega arith) (omega arith) in
      rw (pw, pm, aw, am) refl

  both_decide : Reflects (allowed w && allowed m) (Allowed w × Allowed m)
  both_decide = r_and (allowed_decides w) (allowed_decides m)

  delivered_done : Allowed w × Allowed m → Room w m o → Delivered w m o (over (report w m) o) (told (Ok (length (report w m).paired_watch)))
  delivered_done h f =
      let e = counted_is f in
      matched (length (report w m).paired_watch)
      record {
        taken = h;
        fits = f;
        reported = subst (Reported w m) (sym e) (reported w m h.0.1 h.1.1);
        count = ap (λ (r : Lists). length r.paired_watch) e;
        rest = ap (λ (r : Lists). over r o) (sym e);
      }

  -- whatever the lists
  pub delivers : Delivered w m o (match_laps w m o).lists (match_laps w m o).answer
  delivers =
      ⊎_elim
      (λ (h : allowed w && allowed m ≡ true).
      ⊎_elim
      (λ (k : room w m o ≡ true). by (accepted w m o h k) (delivered_done (both_decide.to h) ((room_decides w m o).to k)))
      (λ (k : room w m o ≡ false). by (refused_room w m o h k) (no_room (both_decide.to h) (λ f. clash (room w m o) ((room_decides w m o).from f) k) refl))
      (holds_or_fails (room w m o)))
      (λ (h : allowed w && allowed m ≡ false). by (refused_times w m o h) (bad_times (λ f. clash (allowed w && allowed m) (both_decide.from f) h) refl))
      (holds_or_fails (allowed w && allowed m))
    where
      by : {l : Left} → l ≡ match_laps w m o → Delivered w m o l.lists l.answer → Delivered w m o (match_laps w m o).lists (match_laps w m o).answer
      by e d = subst (λ (l : Left). Delivered w m o l.lists l.answer) e d

delivered : (w m : List ℕ) (o v : Lists) (a : Answer) → left a v ≡ match_laps w m o → Delivered w m o v (told a)
delivered w m o v a e = subst (λ (l : Left). Delivered w m o l.lists l.answer) (sym e) (delivers w m o)

pub claim : Claim
claim = record {
  delivered = delivered;
  looked_at_first = λ w m o. refl;
}

-- ---- and so of the code: what a caller learns of `match_laps` by its contract, whatever the arguments
-- a; z is its answer, e the parameters at exit
pub match_laps_delivers : (κs : Lfts 6) (a : Dens κs match-laps-kinds.ps) (z : (res_t match-laps-kinds.r κs).Denot) (e : AtExit (ended_of 6 match-laps-kinds.ps match-laps-kinds.r) κs)
    → match-laps-reads.Learnt κs a z e
    → Delivered a.0.now a.1.0.now (lists a.1.1.0.now a.1.1.1.0.now a.1.1.1.1.0.now a.1.1.1.1.1.0.now)
    (lists e.1.1.0.now e.1.1.1.0.now e.1.1.1.1.0.now e.1.1.1.1.1.0.now) (told z)
match_laps_delivers κs a z e h = claim.delivered _ _ _ _ z h

-- no more pairs than times: for callers that go on with the answer
within : {w m : List ℕ} {o v : Lists} {t : Told} → Delivered w m o v t → (p : ℕ) → t ≡ told (Ok p) → (p ≤ length w) × (p ≤ length m)
within (matched q x) p e =
    let same : q ≡ p = ap (λ (t : Told). get_or t.values 0 0) e in
    let a = parted_length x.reported.one_place.0 in
    let b = parted_length x.reported.one_place.1 in
    let c = x.reported.paired.0 in
    let d = x.count in
    (omega arith, omega arith)
within (bad_times h k) p e = let z : ◌≡◌ {A = ℕ} 26 0 = ap (λ (t : Told). t.number) e in absurd (omega arith)
within (no_room h f k) p e = let z : ◌≡◌ {A = ℕ} 1 0 = ap (λ (t : Told). t.number) e in absurd (omega arith)

pub pairs_within : (w m : List ℕ) (o v : Lists) (a : Answer) (p : ℕ) → left a v ≡ match_laps w m o → a ≡ Ok p → (p ≤ length w) × (p ≤ length m)
pairs_within w m o v a p h e = within (delivered w m o v a h) p (ap told e)
