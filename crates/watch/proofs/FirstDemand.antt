-- Demand 1 is met by every call as its contract promises it.
use Rattle.std.specs.Prelude.{Err, Ok}
use Prim.Native.Nat.{ℕ}
use mathlib.Core.Path.{◌≡◌, refl, sym, ap, ◌∙◌}
use mathlib.Core.Bool.{Bool, true, false, not, ◌&&◌}
use mathlib.Core.List.{List, [], ◌∷◌}
use lib.ListN.{length, replicate}
use native.Mathlib.Omega.{arith}
use borrow.Author.Tests.{eqb-false}
use Rattle.blocks.specs.Block.{allowed}
use Rattle.layout.specs.Sizes.{most_store_blocks}
use Rattle.desk.specs.Sizes.{desk_allowed}
use Rattle.bounded.specs.Search.{pick}
use Rattle.bounded.specs.Table.{table}
use Rattle.sound.proofs.SoundLaws.{is_sound_lem}
use Rattle.answers.specs.declared.Refusal.TheVariants.{BadBuffer, BadTurn, BadTimes}
use Rattle.answers.specs.Refusal.{refusal_number}
use Rattle.answers.specs.Told.{Answer, Told, told}
use Rattle.answers.specs.Order.{Row, row, first_by}
use Rattle.answers.proofs.RefusalLaws.{looked_at_lem, not_none}
use Rattle.format.specs.Format.{LaidOut, laid_out, fresh_store, fresh_desk, lay_out_store, lay_out_desk}
use Rattle.checkpoint.specs.Live.{World}
use Rattle.checkpoint.specs.Burst.{Act}
use Rattle.dealer.specs.Deal.{bays, served, gets, Dealt, turn, turn_allowed}
use Rattle.laps.specs.Times as times
use Rattle.laps.specs.Walk.{Lists, report}
use Rattle.laps.specs.Call.{room, Left, left, over, match_laps}
use Rattle.octets.specs.Octets.{splice}
use Rattle.calendar.specs.Date.{date_of, day_number}
use Rattle.keeping.specs.Call as keeping
use Rattle.keeping.specs.Call.{in_days, kept_count, flags, keep_table, keep_call}
use Rattle.files.specs.Plain.{Received}
use Rattle.watch.specs.Made.{Did}
use Rattle.watch.specs.Answered.{ByTable, Answers, result, holds, passes, LayAnswers, LapsAnswers, KeepAnswers, FirstDemand}
use Rattle.watch.proofs.AnswerLaws.{answered, known_by}
use Rattle.watch.proofs.KeepLaws.{keeps, out_keeps, stops}
use Rattle.watch.proofs.MadeLaws.{did}

calls : {x : Act} {w v : World} {a : Received} → Did x w a v → Answers x w a v
calls {x} {w} {v} {a} d =
    let h = did d in
    rw (h.world, h.got) (record { answered = answered w x; keeps = keeps w x; out = out_keeps w x; stops = stops w x })

-- ---- a layout call: b says whether count and length are allowed, fresh is what it lays out
lay_by : (b : Bool) (s fresh : List ℕ) (t : Told) → t ≡ (pick b (laid_out (Ok 0) fresh) (laid_out (Err BadBuffer) s)).answer → ByTable (0 ∷ []) (row (not b) BadBuffer ∷ []) t
lay_by true s fresh t h = rw h (passes refl result)
lay_by false s fresh t h = rw h (holds refl)

lay_keeps : (b : Bool) (s fresh t : List ℕ) (r : Answer) → laid_out r t ≡ pick b (laid_out (Ok 0) fresh) (laid_out (Err BadBuffer) s) → ((told r).number ≡ 0 → ⊥) → t ≡ s
lay_keeps true s fresh t r h n = absurd (n (ap (λ (o : LaidOut). o.answer.number) h))
lay_keeps false s fresh t r h n = ap (λ (o : LaidOut). o.buffer) h

lay_gives : (b : Bool) (s fresh t : List ℕ) (r : Answer) → laid_out r t ≡ pick b (laid_out (Ok 0) fresh) (laid_out (Err BadBuffer) s) → (told r).number ≡ 0 → t ≡ fresh
lay_gives true s fresh t r h n = ap (λ (o : LaidOut). o.buffer) h
lay_gives false s fresh t r h n = let z : (told r).number ≡ 1 = ap (λ (o : LaidOut). o.answer.number) h in absurd (omega arith)

lays : (b : Bool) (s fresh t : List ℕ) (r : Answer) → laid_out r t ≡ pick b (laid_out (Ok 0) fresh) (laid_out (Err BadBuffer) s) → LayAnswers (row (not b) BadBuffer ∷ []) s fresh r t
lays b s fresh t r h =
    let p = lay_by b s fresh (told r) (ap (λ (o : LaidOut). o.answer) h) in
    record { answered = record { by = p; in_order = refl; known = known_by p }; lays = lay_gives b s fresh t r h; keeps = lay_keeps b s fresh t r h }

-- ---- the dealer: b says whether steps and bay are allowed, t is what it then answers
deal_by : (b : Bool) (x : ℕ) (cs none : List ℕ) (t : Told) → t ≡ (pick b (turn (Ok x) cs) (turn (Err BadTurn) none)).answer → ByTable (x ∷ []) (row (not b) BadTurn ∷ []) t
deal_by true x cs none t h = rw h (passes refl result)
deal_by false x cs none t h = rw h (holds refl)

deal_zeros : (b : Bool) (x : ℕ) (cs none counts : List ℕ) (r : Answer) → turn r counts ≡ pick b (turn (Ok x) cs) (turn (Err BadTurn) none) → ((told r).number ≡ 0 → ⊥) → counts ≡ none
deal_zeros true x cs none counts r h n = absurd (n (ap (λ (d : Dealt). d.answer.number) h))
deal_zeros false x cs none counts r h n = ap (λ (d : Dealt). d.counts) h

deal_gives : (b : Bool) (x : ℕ) (cs none counts : List ℕ) (r : Answer) → turn r counts ≡ pick b (turn (Ok x) cs) (turn (Err BadTurn) none) → (told r).number ≡ 0 → counts ≡ cs
deal_gives true x cs none counts r h n = ap (λ (d : Dealt). d.counts) h
deal_gives false x cs none counts r h n = let z : (told r).number ≡ 21 = ap (λ (d : Dealt). d.answer.number) h in absurd (omega arith)

-- ---- laps against the mat: a says whether both lists are allowed, b whether there is room; n pairs are
-- found, and u is the report laid over the lists o
abbrev laps_rows : Bool → Bool → List Row
laps_rows a b = row (not a) BadTimes ∷ row (not b) BadBuffer ∷ []

abbrev laps_left : Bool → Bool → ℕ → Lists → Lists → Left
laps_left a b n o u = first_by (λ e. left (Err e) o) (laps_rows a b) (left (Ok n) u)

laps_by : (a b : Bool) (n : ℕ) (o u : Lists) (t : Told) → t ≡ (laps_left a b n o u).answer → ByTable (n ∷ []) (laps_rows a b) t
laps_by true true n o u t h = rw h (passes refl (passes refl result))
laps_by true false n o u t h = rw h (passes refl (holds refl))
laps_by false b n o u t h = rw h (holds refl)

laps_keep : (a b : Bool) (n : ℕ) (o u v : Lists) (r : Answer) → left r v ≡ laps_left a b n o u → ((told r).number ≡ 0 → ⊥) → v ≡ o
laps_keep true true n o u v r h c = absurd (c (ap (λ (l : Left). l.answer.number) h))
laps_keep true false n o u v r h c = ap (λ (l : Left). l.lists) h
laps_keep false b n o u v r h c = ap (λ (l : Left). l.lists) h

laps_give : (a b : Bool) (n : ℕ) (o u v : Lists) (r : Answer) → left r v ≡ laps_left a b n o u → (told r).number ≡ 0 → v ≡ u
laps_give true true n o u v r h c = ap (λ (l : Left). l.lists) h
laps_give true false n o u v r h c = let z : (told r).number ≡ 1 = ap (λ (l : Left). l.answer.number) h in absurd (omega arith)
laps_give false b n o u v r h c = let z : (told r).number ≡ 26 = ap (λ (l : Left). l.answer.number) h in absurd (omega arith)

matches : {w m : List ℕ} {o v : Lists} (r : Answer) → left r v ≡ match_laps w m o → LapsAnswers w m o r v
unfolding match_laps
matches {w} {m} {o} {v} r h =
    let a = times.allowed w && times.allowed m in
    let b = room w m o in
    let n = length (report w m).paired_watch in
    let u = over (report w m) o in
    let p = laps_by a b n o u (told r) (ap (λ (l : Left). l.answer) h) in
    record { answered = record { by = p; in_order = refl; known = known_by p }; reports = laps_give a b n o u v r h; keeps = laps_keep a b n o u v r h }

-- ---- which copies to keep: by any table rs, where n are kept and u is the list with the flags
abbrev keep_left : List Row → ℕ → List ℕ → List ℕ → keeping.Left
keep_left rs n o u = first_by (λ e. keeping.left (Err e) o) rs (keeping.left (Ok n) u)

keep_by : (rs : List Row) (n : ℕ) (o u : List ℕ) → ByTable (n ∷ []) rs (keep_left rs n o u).answer
keep_by [] n o u = result
keep_by (r ∷ rs) n o u = go r.holds refl (keep_by rs n o u)
  where
    go : (b : Bool) → r.holds ≡ b → ByTable (n ∷ []) rs (keep_left rs n o u).answer
        → ByTable (n ∷ []) (r ∷ rs) (pick b (keeping.left (Err r.refusal) o) (keep_left rs n o u)).answer
    go true e t = holds e
    go false e t = passes e t

keep_keep : (rs : List Row) (n : ℕ) (o u : List ℕ) → ((keep_left rs n o u).answer.number ≡ 0 → ⊥) → (keep_left rs n o u).out ≡ o
keep_keep [] n o u c = absurd (c refl)
keep_keep (r ∷ rs) n o u c = go r.holds c (keep_keep rs n o u)
  where
    go : (b : Bool) → ((pick b (keeping.left (Err r.refusal) o) (keep_left rs n o u)).answer.number ≡ 0 → ⊥)
        → (((keep_left rs n o u).answer.number ≡ 0 → ⊥) → (keep_left rs n o u).out ≡ o)
        → (pick b (keeping.left (Err r.refusal) o) (keep_left rs n o u)).out ≡ o
    go true c t = refl
    go false c t = t c

keep_give : (rs : List Row) (n : ℕ) (o u : List ℕ) → (keep_left rs n o u).answer.number ≡ 0 → (keep_left rs n o u).out ≡ u
keep_give [] n o u c = refl
keep_give (r ∷ rs) n o u c = go r.holds c (keep_give rs n o u)
  where
    go : (b : Bool) → (pick b (keeping.left (Err r.refusal) o) (keep_left rs n o u)).answer.number ≡ 0
        → ((keep_left rs n o u).answer.number ≡ 0 → (keep_left rs n o u).out ≡ u)
        → (pick b (keeping.left (Err r.refusal) o) (keep_left rs n o u)).out ≡ u
    go true c t = absurd (eqb-false (refusal_number r.refusal) 0 (not_none r.refusal) c)
    go false c t = t c

keeps_copies : {copies terms out v : List ℕ} (asked : ℕ) (r : Answer) → keeping.left r v ≡ keep_call copies terms asked out → KeepAnswers copies terms asked out r v
unfolding keep_call
keeps_copies {copies} {terms} {out} {v} asked r h =
    let rs = keep_table copies terms asked out in
    let today = day_number (date_of asked) in
    let n = kept_count (in_days copies) (in_days terms) today in
    let u = splice out 0 (flags (in_days copies) (in_days terms) today) in
    let a : told r ≡ (keep_left rs n out u).answer = ap (λ (l : keeping.Left). l.answer) h in
    let p : ByTable (n ∷ []) rs (told r) = rw a (keep_by rs n out u) in
    record {
      answered = record { by = p; in_order = refl; known = known_by p };
      says = λ c. ap (λ (l : keeping.Left). l.out) h ∙ keep_give rs n out u (sym (ap (λ (t : Told). t.number) a) ∙ c);
      keeps = λ c. ap (λ (l : keeping.Left). l.out) h ∙ keep_keep rs n out u (λ e. c (ap (λ (t : Told). t.number) a ∙ e));
    }

pub first_demand : FirstDemand
unfolding lay_out_store lay_out_desk
first_demand = record {
  looked_at_lem = looked_at_lem;
  calls = λ d. calls d;
  lays_store = λ {s} {t} r n b h. lays (allowed most_store_blocks n b (length s)) s (fresh_store n b) t r h;
  lays_desk = λ {desk} {t} r n h. lays (desk_allowed n (length desk)) desk (fresh_desk n) t r h;
  deals = λ {counts} r flags steps last h.
      let cs = table (gets flags last steps) bays in
      let p = deal_by (turn_allowed steps last) (served flags last steps) cs (replicate bays 0) (told r) (ap (λ (d : Dealt). d.answer) h) in
      record {
        answered = record { by = p; in_order = refl; known = known_by p };
        gives = deal_gives (turn_allowed steps last) (served flags last steps) cs (replicate bays 0) counts r h;
        zeros = deal_zeros (turn_allowed steps last) (served flags last steps) cs (replicate bays 0) counts r h;
      };
  matches = λ r h. matches r h;
  keeps_copies = λ asked r h. keeps_copies asked r h;
  checks = λ f s r h. rw h (is_sound_lem f s);
}
