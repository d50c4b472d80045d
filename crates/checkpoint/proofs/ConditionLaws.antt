-- Tables of conditions, one condition at a time: the answer of what is decided is the first condition that holds. s is the store, m the image, d the desk.
use Rattle.std.specs.Prelude.{Err, None, Ok, Option, Result, Some}
use mathlib.Core.Path.{◌≡◌, refl, subst}
use mathlib.Core.Bool.{Bool, true, false, not, ◌&&◌}
use mathlib.Core.List.{List, [], ◌∷◌, ◌++◌}
use Prim.Native.Nat.{ℕ}
use lib.Dec.{ltb}
use Rattle.bounded.specs.Search.{pick, on_found}
use Rattle.layout.specs.Sizes.{address_count}
use Rattle.layout.specs.Inode.{size_of}
use Rattle.blocks.specs.Block.{blocks_used}
use Rattle.blocks.specs.Free.{free_block}
use Rattle.directory.specs.Slot.{slots, empty_slot}
use Rattle.sound.specs.Sound.{inodes_in, blocks_in}
use Rattle.sound.specs.Counted.{SoundStore}
use Rattle.sound.proofs.SoundLaws.{is_sound_lem}
use Rattle.preservation.proofs.StoreLaws.{sound_store}
use Rattle.sound.specs.declared.Form.TheVariants.{Store}
use Rattle.sound.specs.Test.{framed_b, is_sound}
use Rattle.answers.specs.declared.Refusal.{Refusal}
use Rattle.answers.specs.declared.Refusal.TheVariants.{BadBuffer, UnsoundStore, BadDesk, NoBlocks, NoSlot, Busy}
use Rattle.answers.specs.Told.{Told, told}
use Rattle.answers.specs.Order.{Row, row, first_by}
use Rattle.entries.specs.declared.Room.{Room}
use Rattle.entries.specs.Room.{room, room_in, on_room}
use Rattle.files.specs.Guard.{on_guard, store_rows}
use Rattle.files.specs.Effect.{Call, Effect, Planned, refused, does, planned, plain_decision, given}
use Rattle.files.specs.Plain.{leaves, plain}
use Rattle.files.proofs.PlainLaws.{on_guard_lem}
use Rattle.checkpoint.specs.Fit.{desk_framed, notes_fit, both_framed}
use Rattle.checkpoint.specs.Busy.{unless_busy}
use Rattle.checkpoint.specs.Live.{World, Outcome, three_guards, store_alone, decision, leaves_in, live, guarded, guard_rows}
use Rattle.checkpoint.proofs.DecisionLaws.{chained, three_is}
use Rattle.checkpoint.specs.Table.{found, or_zero, live_rows, no_block, no_slot}
use Rattle.layout.specs.Header.{counts}

-- the refusal of the first of rs that holds, else a
abbrev pub first_of : List Row → Told → Told
first_of rs a = first_by (λ e. told (Err e)) rs a

-- the answer x is that
pub record Gives (x : Told) (rs : List Row) (a : Told) : Type 0 where
  pub first : x ≡ first_of rs a

-- ---- one condition more at the head of a table; h is the answer of what was decided
module _ {A : Type 0} (h : A → Told) where
  pub by_pick_if : (b : Bool) (x y : A) {e : Refusal} {rs : List Row} {a : Told} → h x ≡ told (Err e) → (b ≡ false → Gives (h y) rs a) → Gives (h (pick b x y)) (row b e ∷ rs) a
  by_pick_if true x y p q = record { first = p }
  by_pick_if false x y p q = record { first = (q refl).first }

  pub by_pick : (b : Bool) (x y : A) {e : Refusal} {rs : List Row} {a : Told} → h x ≡ told (Err e) → Gives (h y) rs a → Gives (h (pick b x y)) (row b e ∷ rs) a
  by_pick b x y p q = by_pick_if b x y p (λ _. q)

  -- what is found refuses
  pub by_found : (f : Option ℕ) (g : ℕ → A) (y : A) {e : Refusal} {rs : List Row} {a : Told}
      → ((t : ℕ) → h (g t) ≡ told (Err e)) → Gives (h y) rs a → Gives (h (on_found f g y)) (row (found f) e ∷ rs) a
  by_found (Some t) g y p q = record { first = p t }
  by_found None g y p q = record { first = q.first }

  -- what is not found refuses
  pub by_absent_if : (f : Option ℕ) (g : ℕ → A) (y : A) {e : Refusal} {rs : List Row} {a : Told}
      → h y ≡ told (Err e) → (f ≡ Some (or_zero f) → Gives (h (g (or_zero f))) rs a) → Gives (h (on_found f g y)) (row (not (found f)) e ∷ rs) a
  by_absent_if (Some t) g y p q = record { first = (q refl).first }
  by_absent_if None g y p q = record { first = p }

  pub by_absent : (f : Option ℕ) (g : ℕ → A) (y : A) {e : Refusal} {rs : List Row} {a : Told}
      → h y ≡ told (Err e) → Gives (h (g (or_zero f))) rs a → Gives (h (on_found f g y)) (row (not (found f)) e ∷ rs) a
  by_absent f g y p q = by_absent_if f g y p (λ _. q)

  -- room for an entry more in the directory e
  pub by_room : (s : List ℕ) (e : ℕ) (f : Room → A) (g : Refusal → A) {rs : List Row} {a : Told}
      → h (g NoBlocks) ≡ told (Err NoBlocks)
      → h (g NoSlot) ≡ told (Err NoSlot)
      → ((r : Room) → Gives (h (f r)) rs a)
      → Gives (h (on_room (room_in s (inodes_in s) (blocks_in s) e) f g)) (row (no_block s e) NoBlocks ∷ row (no_slot s e) NoSlot ∷ rs) a
  unfolding room_in
  by_room s e f g {rs} {a} p r q = go (empty_slot s (inodes_in s) e) (ltb (blocks_used (size_of s e)) address_count) (free_block s (inodes_in s) (blocks_in s))
    where
      go : (t : Option ℕ) (b : Bool) (c : Option ℕ)
          → Gives (h (on_room (on_found t (λ j. Ok (room j None)) (pick b (on_found c (λ j. Ok (room (slots s e) (Some j))) (Err NoBlocks)) (Err NoSlot))) f g))
          (row (not (found t) && (b && not (found c))) NoBlocks ∷ row (not (found t) && not b) NoSlot ∷ rs) a
      go (Some t) b c = record { first = (q (room t None)).first }
      go None true (Some c) = record { first = (q (room (slots s e) (Some c))).first }
      go None true None = record { first = p }
      go None false c = record { first = r }

room_else : (x : Result Room Refusal) → on_room x Ok Err ≡ x
room_else (Ok r) = refl
room_else (Err e) = refl

-- the room itself is what is planned
pub by_own_room : (h : Result Room Refusal → Told) (s : List ℕ) (e : ℕ) {rs : List Row} {a : Told}
    → h (Err NoBlocks) ≡ told (Err NoBlocks) → h (Err NoSlot) ≡ told (Err NoSlot) → ((r : Room) → Gives (h (Ok r)) rs a)
    → Gives (h (room_in s (inodes_in s) (blocks_in s) e)) (row (no_block s e) NoBlocks ∷ row (no_slot s e) NoSlot ∷ rs) a
by_own_room h s e {rs} {a} p r q =
    subst (λ (x : Result Room Refusal). Gives (h x) (row (no_block s e) NoBlocks ∷ row (no_slot s e) NoSlot ∷ rs) a) (room_else (room_in s (inodes_in s) (blocks_in s) e))
    (by_room h s e Ok Err p r q)

-- the last condition, and what is done where it does not hold
pub by_busy : (b : Bool) (w : World) (x : Effect) → Gives (leaves_in w (pick b (refused Busy) (does x))).answer (row b Busy ∷ []) (told (Ok x.answer))
by_busy true w x = record { first = refl }
by_busy false w x = record { first = refl }

-- 1, 2 and 3
pub by_chain : (framed : Bool) (s m d : List ℕ) (o : Outcome) {rs : List Row} {a : Told} → Gives o.answer rs a → Gives (chained framed s m d o).answer (guard_rows framed s m d ++ rs) a
by_chain framed s m d o q =
    let h : Outcome → Told = λ z. z.answer in
    by_pick h (not framed) _ _ refl
    (by_pick h (not (is_sound Store s)) _ _ refl
    (by_pick h (not (notes_fit s m d)) _ _ refl q))

pub by_guards : (s m d : List ℕ) (o : Outcome) {rs : List Row} {a : Told} → Gives o.answer rs a → Gives (guarded (three_guards s m d) s m d o).answer (live_rows s m d ++ rs) a
by_guards s m d o q = rw (three_is s m d o) (by_chain (both_framed s d) s m d o q)

-- of a file call that takes all three buffers: its plan is looked at on a sound store
pub by_sound : (c : Call) (w : World) {rs : List Row} {a : Told} → store_alone c ≡ false
    → (SoundStore w.store (inodes_in w.store) (blocks_in w.store) → Gives (leaves_in w (unless_busy w.desk (planned c w.store (inodes_in w.store) (blocks_in w.store)))).answer rs a)
    → Gives (live c w).answer (live_rows w.store w.image w.desk ++ rs) a
unfolding live decision three_guards
by_sound c w {rs} {a} z q = rw z (go (framed_b Store w.store && desk_framed w.desk) (is_sound Store w.store) (notes_fit w.store w.image w.desk) refl)
  where
    go : (x y z : Bool) → is_sound Store w.store ≡ y → Gives (leaves_in w (on_guard (pick (not x) (Err BadBuffer) (pick (not y) (Err UnsoundStore) (pick (not z) (Err BadDesk) (Ok (counts (inodes_in w.store) (blocks_in w.store))))))
        (λ n b. unless_busy w.desk (planned c w.store n b)) refused)).answer (row (not x) BadBuffer ∷ row (not y) UnsoundStore ∷ row (not z) BadDesk ∷ rs) a
    go true true true e = record { first = (q (sound_store ((is_sound_lem Store w.store).to e) refl)).first }
    go true true false e = record { first = refl }
    go true false z e = record { first = refl }
    go false y z e = record { first = refl }

pub by_three : (c : Call) (w : World) {rs : List Row} {a : Told} → store_alone c ≡ false
    → Gives (leaves_in w (unless_busy w.desk (planned c w.store (inodes_in w.store) (blocks_in w.store)))).answer rs a → Gives (live c w).answer (live_rows w.store w.image w.desk ++ rs) a
by_three c w z q = by_sound c w z (λ _. q)

-- 1 and 2 of a call on the store alone
pub by_store : (c : Call) (s : List ℕ) {rs : List Row} {a : Told} → Gives (leaves s (given c) (planned c s (inodes_in s) (blocks_in s))).answer rs a → Gives (plain c s).answer (store_rows s ++ rs) a
unfolding plain plain_decision
by_store c s q =
    let h : Planned → Told = λ p. (leaves s (given c) p).answer in
    rw (on_guard_lem s (planned c s) refused) (by_pick h (not (framed_b Store s)) _ _ refl (by_pick h (not (is_sound Store s)) _ _ refl q))

-- no condition is left
pub by_none : {a : Told} → Gives a [] a
by_none = record { first = refl }

pub give : (x : Told) (rs : List Row) (a : Told) → Gives x rs a → x ≡ first_of rs a
give x rs a q = q.first
