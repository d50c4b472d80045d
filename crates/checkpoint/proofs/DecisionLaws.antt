-- What a live file call is decided to do, for all calls at once: as the plain one, or the copy is in the way, or a guard refuses; and what holds of each planned effect holds of it.
use Rattle.std.specs.Prelude.{Err, Ok, Result}
use Prim.Native.Nat.{ℕ}
use mathlib.Core.Path.{◌≡◌, refl, sym, ◌∙◌}
use mathlib.Core.Bool.{Bool, true, false, not, ◌&&◌, ◌||◌}
use mathlib.Core.List.{List, [], ◌∷◌}
use borrow.Author.Tests.{eq-eqb}
use lib.Dec.{eqb}
use Rattle.bounded.specs.Search.{pick}
use Rattle.bounded.proofs.BoolLaws.{clash, holds, or_l, or_false_r}
use Rattle.desk.specs.Desk.{desk_of}
use Rattle.desk.specs.Next.{locks, locks_any}
use Rattle.desk.proofs.LockLaws.{locks_none}
use Rattle.sound.specs.Sound.{inodes_in, blocks_in}
use Rattle.sound.specs.declared.Form.TheVariants.{Store}
use Rattle.sound.specs.Test.{framed_b, is_sound}
use Rattle.answers.specs.declared.Refusal.{Refusal}
use Rattle.answers.specs.declared.Refusal.TheVariants.{BadBuffer, UnsoundStore, BadDesk, Busy}
use Rattle.answers.proofs.RefusalLaws.{not_none}
use Rattle.files.specs.Guard.{guard_of, on_guard, guard_by}
use Rattle.files.specs.Effect.{Call, Effect, Planned, refused, does, on_planned, planned, plain_decision}
use Rattle.files.proofs.Lawful.{Apart, Each}
use Rattle.checkpoint.specs.Fit.{desk_framed, is_running, notes_fit, both_framed, all_framed}
use Rattle.checkpoint.specs.Busy.{any_locked, unless_busy}
use Rattle.checkpoint.specs.Live.{standing, World, Outcome, tells, refuse, three_guards, store_alone, decision, leaves_in, live, guarded, told_status, status, guard_rows, start_guards, started, start}
use Rattle.checkpoint.specs.List.{Ready, call, outcome, accepted}
use Rattle.layout.specs.declared.header.Counts.{Counts}
use Rattle.layout.specs.Header.{counts}

-- ---- the guards as a chain of tests; a says whether lengths and counts are those allowed
abbrev pub chained : Bool → List ℕ → List ℕ → List ℕ → Outcome → Outcome
chained a s m d o = pick (not a) (refuse BadBuffer s m d) (pick (not (is_sound Store s)) (refuse UnsoundStore s m d) (pick (not (notes_fit s m d)) (refuse BadDesk s m d) o))

guarded_is : (a : Bool) (s m d : List ℕ) (o : Outcome) → guarded (guard_by s (guard_rows a s m d)) s m d o ≡ chained a s m d o
guarded_is a s m d o = go a (is_sound Store s) (notes_fit s m d)
  where
    go : (a b c : Bool) → on_guard (pick (not a) (Err BadBuffer) (pick (not b) (Err UnsoundStore) (pick (not c) (Err BadDesk) (Ok (counts (inodes_in s) (blocks_in s)))))) (λ n k. o) (λ e. refuse e s m d)
        ≡ pick (not a) (refuse BadBuffer s m d) (pick (not b) (refuse UnsoundStore s m d) (pick (not c) (refuse BadDesk s m d) o))
    go true true true = refl
    go true true false = refl
    go true false c = refl
    go false b c = refl

pub three_is : (s m d : List ℕ) (o : Outcome) → guarded (three_guards s m d) s m d o ≡ chained (both_framed s d) s m d o
unfolding three_guards
three_is s m d o = guarded_is (both_framed s d) s m d o

pub start_is : (s m d : List ℕ) → start s m d ≡ chained (all_framed s m d) s m d (started s m d)
unfolding start start_guards
start_is s m d = guarded_is (all_framed s m d) s m d (started s m d)

-- ---- beside the plain decision p: q is the same, or the copy is in the way, or a refusal of the guards comes
pub data OfGuards : Refusal → Type 0 where
  lengths : OfGuards BadBuffer
  soundness : OfGuards UnsoundStore
  notes : OfGuards BadDesk

pub data Beside (w : World) (p q : Planned) : Type 0 where
  same : q ≡ p → Beside w p q
  busy : is_running w.desk ≡ true → q ≡ refused Busy → Beside w p q
  unfit : {e : Refusal} → OfGuards e → (Ready w → ⊥) → q ≡ refused e → Beside w p q

-- a call is busy only while a copy runs
locked_runs : (d is : List ℕ) → any_locked d is ≡ true → is_running d ≡ true
unfolding is_running
locked_runs d is e = holds (is_running d) (λ f. clash (any_locked d is) e (locks_none (desk_of d) _ f))

beside_busy : (w : World) (p : Planned) → Beside w p (unless_busy w.desk p)
beside_busy w (refused e) = same refl
beside_busy w (does x) = go (any_locked w.desk x.touches) refl
  where
    go : (b : Bool) → any_locked w.desk x.touches ≡ b → Beside w (does x) (pick b (refused Busy) (does x))
    go true e = busy (locked_runs w.desk x.touches e) refl
    go false e = same refl

pub beside : (c : Call) (w : World) → Beside w (plain_decision c w.store) (decision c w)
unfolding plain_decision decision three_guards guard_of
beside c w = go (store_alone c) (framed_b Store w.store) (desk_framed w.desk) (is_sound Store w.store) (notes_fit w.store w.image w.desk) refl refl
  where
    o : Result Counts Refusal
    o = Ok (counts (inodes_in w.store) (blocks_in w.store))

    last : Beside w (planned c w.store (inodes_in w.store) (blocks_in w.store)) (unless_busy w.desk (planned c w.store (inodes_in w.store) (blocks_in w.store)))
    last = beside_busy w (planned c w.store (inodes_in w.store) (blocks_in w.store))

    go : (a f d s n : Bool) → desk_framed w.desk ≡ d → notes_fit w.store w.image w.desk ≡ n
        → Beside w (on_guard (pick (not f) (Err BadBuffer) (pick (not s) (Err UnsoundStore) o)) (planned c w.store) refused)
        (on_guard (pick a (pick (not f) (Err BadBuffer) (pick (not s) (Err UnsoundStore) o)) (pick (not (f && d)) (Err BadBuffer) (pick (not s) (Err UnsoundStore) (pick (not n) (Err BadDesk) o))))
        (λ n b. unless_busy w.desk (planned c w.store n b)) refused)
    go true false d s n y t = same refl
    go true true d false n y t = same refl
    go true true d true n y t = last
    go false false d s n y t = same refl
    go false true false s n y t = unfit lengths (λ r. clash false (sym y ∙ r.desk) refl) refl
    go false true true false n y t = same refl
    go false true true true false y t = unfit notes (λ r. clash false (sym t ∙ r.notes) refl) refl
    go false true true true true y t = last

-- ---- what holds of a planned effect
-- Q holds of it, and the copy has locked nothing that it touches
abbrev pub Unhindered : (Effect → Type 0) → World → Effect → Type 0
Unhindered Q w x = Q x × (any_locked w.desk x.touches ≡ false)

module _ (Q : Effect → Type 0) where
  each_unless : (w : World) (q : Planned) → Each Q q → Each (Unhindered Q w) (unless_busy w.desk q)
  each_unless w (refused e) h = tt
  each_unless w (does x) h = go (any_locked w.desk x.touches) refl
    where
      go : (b : Bool) → any_locked w.desk x.touches ≡ b → Each (Unhindered Q w) (pick b (refused Busy) (does x))
      go true e = tt
      go false e = (h, e)

  pub each_decided : (c : Call) (w : World) → Each Q (planned c w.store (inodes_in w.store) (blocks_in w.store)) → Each (Unhindered Q w) (decision c w)
  unfolding decision three_guards guard_of
  each_decided c w h = go (store_alone c) (framed_b Store w.store) (desk_framed w.desk) (is_sound Store w.store) (notes_fit w.store w.image w.desk)
    where
      o : Result Counts Refusal
      o = Ok (counts (inodes_in w.store) (blocks_in w.store))

      last : Each (Unhindered Q w) (unless_busy w.desk (planned c w.store (inodes_in w.store) (blocks_in w.store)))
      last = each_unless w (planned c w.store (inodes_in w.store) (blocks_in w.store)) h

      go : (a f d s n : Bool) → Each (Unhindered Q w) (on_guard (pick a (pick (not f) (Err BadBuffer) (pick (not s) (Err UnsoundStore) o)) (pick (not (f && d)) (Err BadBuffer) (pick (not s) (Err UnsoundStore) (pick (not n) (Err BadDesk) o))))
          (λ n b. unless_busy w.desk (planned c w.store n b)) refused)
      go true false d s n = tt
      go true true d false n = tt
      go true true d true n = last
      go false false d s n = tt
      go false true false s n = tt
      go false true true false n = tt
      go false true true true false = tt
      go false true true true true = last

-- ---- what an accepted call does, by the laws of its effect
pub apart_locked : (d is : List ℕ) → is_running d ≡ true → any_locked d is ≡ false → Apart (desk_of d).locked is
unfolding locks_any is_running
apart_locked d [] r e = tt
apart_locked d (i ∷ is) r e = (
  λ z. clash (locks (desk_of d) i || any_locked d is) (or_l (locks (desk_of d) i) (any_locked d is) (rw (r, eq-eqb (desk_of d).locked i z) refl)) e,
  apart_locked d is r (or_false_r (locks (desk_of d) i) (any_locked d is) e),
)

-- ---- accepted
-- it is accepted, when and only when it is decided to do something
done_is : (w : World) (q : Planned) → eqb (leaves_in w q).answer.number 0 ≡ on_planned q (λ x. true) (λ e. false)
done_is w (does x) = refl
done_is w (refused e) = not_none e

pub accepted_is : (c : Call) (w : World) → accepted (call c) w ≡ on_planned (decision c w) (λ x. true) (λ e. false)
unfolding outcome live
accepted_is c w = done_is w (decision c w)

-- ---- the state question is answered as a call that does nothing would be
abbrev pub stated : List ℕ → List ℕ → List ℕ → Outcome
stated s m d = tells (told_status (Ok (standing (desk_of d).state (desk_of d).locked (desk_of d).steps))) s m d

pub status_is : (s m d : List ℕ) → status s m d ≡ (guarded (three_guards s m d) s m d (stated s m d)).answer
unfolding status
status_is s m d = go (three_guards s m d)
  where
    go : (g : Result Counts Refusal) → on_guard g (λ n b. (stated s m d).answer) (λ e. told_status (Err e)) ≡ (on_guard g (λ n b. stated s m d) (λ e. refuse e s m d)).answer
    go (Ok c) = refl
    go (Err e) = refl
