-- What an accepted file call of the library does: its effect, with the laws that hold of it; and that a refused one leaves all as it was.
use Rattle.std.specs.Prelude.{Ok}
use Prim.Native.Nat.{ℕ, ◌*◌, ◌<◌}
use mathlib.Core.Path.{◌≡◌, refl, sym, ap, ◌∙◌, subst}
use mathlib.Core.Logic.{◌≢◌, ⊎_elim}
use mathlib.Core.Bool.{Bool, true, false, ◌&&◌, ◌||◌}
use mathlib.Core.List.{List, [], ◌∷◌}
use native.Mathlib.Omega.{arith}
use borrow.Author.Tests.{eq-eqb}
use lib.Dec.{eqb}
use Rattle.bounded.specs.Search.{pick}
use Rattle.bounded.proofs.BoolLaws.{clash, or_l, or_false_r}
use Rattle.bounded.proofs.EachLaws.{some_none}
use Rattle.directory.specs.Slot.{most_slots}
use Rattle.sound.specs.Place.{filled, naming}
use Rattle.sound.specs.Sound.{Sound, inodes_in, blocks_in}
use Rattle.sound.specs.declared.Form.TheVariants.{Store}
use Rattle.sound.proofs.PlaceLaws.{naming_filled}
use Rattle.sound.proofs.SoundLaws.{is_sound_lem}
use Rattle.answers.specs.declared.Refusal.TheVariants.{Busy}
use Rattle.answers.specs.Refusal.{refusal_number}
use Rattle.answers.proofs.RefusalLaws.{not_none}
use Rattle.preservation.proofs.StoreLaws.{sound_store}
use Rattle.files.specs.Guard.{guard_of, on_guard}
use Rattle.files.specs.Effect.{Call, Entry, place_in, Effect, Planned, refused, does, on_planned, planned, plain_decision}
use Rattle.files.proofs.Lawful.{Away, Lawful, Each}
use Rattle.files.proofs.LawfulCalls.{lawful}
use Rattle.files.proofs.RefillLaws.{Refilling, refilling}
use Rattle.files.proofs.EffectFacts.{away_or}
use Rattle.checkpoint.specs.Busy.{any_locked, unless_busy}
use Rattle.checkpoint.specs.Notes.{cut_entries, clear_marks, set_marks}
use Rattle.checkpoint.specs.Live.{World, Outcome, three_guards, store_alone, decision, leaves_in, live}
use Rattle.checkpoint.specs.List.{Ready, call, outcome, next, accepted, taken_from, any_at, takes}
use Rattle.layout.specs.Header.{counts}

pub ready_sound : (w : World) → Ready w → Sound Store w.store
ready_sound w r = (is_sound_lem Store w.store).to r.sound

-- ---- where refusals 1 to 3 do not come, the plan decides, and the copy's timing
module _ (c : Call) (w : World) (r : Ready w) where
  abbrev plan : Planned
  plan = planned c w.store (inodes_in w.store) (blocks_in w.store)

  passes : guard_of w.store ≡ Ok (counts (inodes_in w.store) (blocks_in w.store))
  unfolding guard_of
  passes = rw (r.framed, r.sound) refl

  passes_three : three_guards w.store w.image w.desk ≡ Ok (counts (inodes_in w.store) (blocks_in w.store))
  unfolding three_guards
  passes_three = rw (r.framed, r.desk, r.sound, r.notes) refl

  pub ready_plain : plain_decision c w.store ≡ plan
  unfolding plain_decision
  ready_plain = rw passes refl

  pub ready_decides : decision c w ≡ unless_busy w.desk plan
  unfolding decision
  ready_decides = go (store_alone c)
    where
      go : (a : Bool) → on_guard (pick a (guard_of w.store) (three_guards w.store w.image w.desk)) (λ n b. unless_busy w.desk (planned c w.store n b)) refused ≡ unless_busy w.desk plan
      go true = rw passes refl
      go false = rw passes_three refl

-- ---- accepted
-- the buffers that an effect leaves
abbrev pub after_in : World → Effect → World
after_in w x =
    let n = inodes_in w.store in
    record { store = x.store; image = cut_entries w.image w.desk n x.taken; desk = set_marks (clear_marks w.desk n x.taken) n x.made }

abbrev buffers : Outcome → World
buffers o = record { store = o.store; image = o.image; desk = o.desk }

abbrev done : World → Planned → Bool
done w p = eqb (leaves_in w p).answer.number 0

accepted_is : (c : Call) (w : World) → accepted (call c) w ≡ done w (decision c w)
unfolding outcome live
accepted_is c w = refl

next_is : (c : Call) (w : World) → next (call c) w ≡ buffers (leaves_in w (decision c w))
unfolding next outcome live
next_is c w = refl

-- the call c has the effect x on w
pub record Does (c : Call) (w : World) (x : Effect) : Type 0 where
  pub decided : decision c w ≡ does x
  pub plain : plain_decision c w.store ≡ does x
  pub laws : Lawful w.store (inodes_in w.store) x
  pub refills : Refilling c w.store (inodes_in w.store) x
  pub free : any_locked w.desk x.touches ≡ false
  pub after : next (call c) w ≡ after_in w x

pub live_accepted : (c : Call) (w : World) → Ready w → accepted (call c) w ≡ true → (x : Effect) × Does c w x
live_accepted c w r a =
    go (planned c s n b) refl (lawful c (sound_store h refl)) (refilling s n b (sound_store h refl) c)
    (ap (done w) (sym (ready_decides c w r)) ∙ sym (accepted_is c w) ∙ a)
  where
    s : List ℕ
    s = w.store

    n : ℕ
    n = inodes_in s

    b : ℕ
    b = blocks_in s

    h : Sound Store s
    h = ready_sound w r

    free : (x : Effect) (f : Bool) → any_locked w.desk x.touches ≡ f → done w (pick f (refused Busy) (does x)) ≡ true → f ≡ false
    free x true e d = absurd (clash false d refl)
    free x false e d = refl

    go : (p : Planned) → planned c s n b ≡ p → Each (Lawful s n) p → Each (Refilling c s n) p → done w (unless_busy w.desk p) ≡ true → (x : Effect) × Does c w x
    go (refused e) q l m d = absurd (clash (eqb (refusal_number e) 0) d (not_none e))
    go (does x) q l m d =
        let f = free x (any_locked w.desk x.touches) refl d in
        let g : decision c w ≡ does x = ready_decides c w r ∙ ap (unless_busy w.desk) q ∙ ap (λ (z : Bool). pick z (refused Busy) (does x)) f in
        (x, record { decided = g; plain = ready_plain c w r ∙ q; laws = l; refills = m; free = f; after = next_is c w ∙ ap (λ (z : Planned). buffers (leaves_in w z)) g })

pub live_refused : (c : Call) (w : World) → accepted (call c) w ≡ false → next (call c) w ≡ w
live_refused c w a = go (decision c w) refl (sym (accepted_is c w) ∙ a)
  where
    go : (p : Planned) → decision c w ≡ p → done w p ≡ false → next (call c) w ≡ w
    go (does x) q d = absurd (clash true refl d)
    go (refused e) q d = next_is c w ∙ ap (λ (z : Planned). buffers (leaves_in w z)) q

-- ---- a place from which an accepted call takes nothing
any_away : (ys : List Entry) (p : ℕ) → any_at ys p ≡ false → Away p ys
unfolding any_at
any_away [] p e = tt
any_away (y ∷ ys) p e = (
  λ z. clash (eqb (place_in y) p || any_at ys p) (or_l (eqb (place_in y) p) (any_at ys p) (eq-eqb (place_in y) p (sym z))) e,
  any_away ys p (or_false_r (eqb (place_in y) p) (any_at ys p) e),
)

pub taken_none : (c : Call) (w : World) (x : Effect) (p : ℕ) → Does c w x → takes (call c) w p ≡ false → Away p x.taken
taken_none c w x p k e =
    any_away x.taken p
    (ap (λ (z : Planned). any_at (on_planned z (λ y. y.taken) (λ f. [])) p) (sym k.plain) ∙ none (accepted (call c) w) (accepted_is c w ∙ ap (done w) k.decided) e)
  where
    none : (b : Bool) → b ≡ true → b && any_at (taken_from c w.store) p ≡ false → any_at (taken_from c w.store) p ≡ false
    none true q d = d
    none false q d = absurd (clash false q refl)

-- its entry stands as it stood
pub untaken_stays : (s : List ℕ) (n : ℕ) (x : Effect) (p : ℕ) → Lawful s n x → p < most_slots * n → naming s n p ≢ 0 → Away p x.taken → naming x.store n p ≡ naming s n p
untaken_stays s n x p k l u a = ⊎_elim
    (λ b. (k.others p l a b).names)
    (λ y. absurd (some_none _ x.made (λ z q. let f = naming_filled s n p (omega arith) in clash (filled s n p) f (ap (filled s n) q.1 ∙ q.0 (subst (λ (v : ℕ). Away v x.taken) q.1 a))) y))
    (away_or _ p x.made k.bare)
