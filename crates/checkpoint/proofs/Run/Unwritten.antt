-- A file that no call wrote, named by an entry that no call took, has its size and bytes at every moment of a list. n and b are the counts of inodes and image blocks.
use Prim.Native.Nat.{ℕ, ◌*◌, ◌≤◌, ◌<◌}
use mathlib.Core.Path.{◌≡◌, refl, sym, ap, ◌∙◌, subst}
use mathlib.Core.Logic.{◌≢◌, inl, inr}
use mathlib.Core.Bool.{Bool, true, false, ◌&&◌, ◌||◌}
use mathlib.Core.List.{List, [], ◌∷◌}
use native.Mathlib.Omega.{arith}
use borrow.Author.Tests.{eq-eqb}
use lib.Dec.{eqb}
use Rattle.bounded.proofs.BoolLaws.{clash, holds_or_fails, or_l, or_false_r}
use Rattle.layout.specs.Inode.{kind_of, size_of, free_kind, file_kind}
use Rattle.blocks.specs.Block.{block_of}
use Rattle.directory.specs.Slot.{most_slots}
use Rattle.sound.specs.Place.{naming}
use Rattle.sound.proofs.PlaceLaws.{naming_filled}
use Rattle.preservation.proofs.StoreLaws.{sound_store}
use Rattle.content.specs.Content.{file_bytes}
use Rattle.files.specs.Effect.{Call, Effect, Planned, on_planned}
use Rattle.files.proofs.Lawful.{Apart, Keeps, Lawful}
use Rattle.files.proofs.LawfulSteady.{store_blocks}
use Rattle.checkpoint.specs.Live.{World}
use Rattle.checkpoint.specs.List.{Event, call, advances, asks, starts, next, accepted, takes, Untouched, Moment, here, after, Kept}
use Rattle.checkpoint.specs.List as list
use Rattle.checkpoint.specs.School.{written_by, any_is, writes, Unwritten}
use Rattle.checkpoint.proofs.PlainLaws.{steps_keep, asks_keep, starts_keep}
use Rattle.checkpoint.proofs.Call.LiveLaws.{ready_sound, Does, live_accepted, live_refused}
use Rattle.checkpoint.proofs.Copy.SeenLaws.{bytes_same}
use Rattle.checkpoint.proofs.Run.Lists.{Going, fit, counted, going_next}
use Rattle.checkpoint.proofs.Run.Stood.{event_names, entry_of}

-- size and bytes of i
pub record SameFile (s t : List ℕ) (n i : ℕ) : Type 0 where
  pub size : size_of t i ≡ size_of s i
  pub bytes : file_bytes t n i 0 (size_of t i) ≡ file_bytes s n i 0 (size_of s i)

-- a file that an accepted call does not write
any_apart : (js : List ℕ) (i : ℕ) → any_is js i ≡ false → Apart i js
unfolding any_is
any_apart [] i e = tt
any_apart (j ∷ js) i e = (
  λ z. clash (eqb j i || any_is js i) (or_l (eqb j i) (any_is js i) (eq-eqb j i (sym z))) e,
  any_apart js i (or_false_r (eqb j i) (any_is js i) e),
)

written_none : (c : Call) (w : World) (x : Effect) (i : ℕ) → Does c w x → accepted (call c) w ≡ true → writes (call c) w i ≡ false → Apart i x.writes
written_none c w x i k a e =
    any_apart x.writes i
    (ap (λ (z : Planned). any_is (on_planned z (λ y. y.writes) (λ f. [])) i) (sym k.plain) ∙ sym (ap (λ (z : Bool). z && any_is (written_by c w.store) i) a) ∙ e)

-- ---- one event. Place p names file i
module _ (n b : ℕ) (w : World) (g : Going n b w) (p : ℕ) (l : p < most_slots * n) (i : ℕ) (low : 1 ≤ i) (high : i ≤ n) (names : naming w.store n p ≡ i) (file : kind_of w.store i ≡ file_kind) where
  pub next_names : (e : Event) → takes e w p ≡ false → naming (next e w).store n p ≡ i
  next_names e t = event_names n b w g p l (λ z. omega arith) e t ∙ names

  -- i is still in use
  next_used : (e : Event) → takes e w p ≡ false → kind_of (next e w).store i ≢ free_kind
  next_used e t z =
      let o = next_names e t in
      (entry_of n b (next e w) (going_next n b w e g) p l (naming_filled (next e w).store n p (omega arith))).used (ap (kind_of (next e w).store) o ∙ z)

  -- and as it was
  record FileKept (t : List ℕ) : Type 0 where
    kind : kind_of t i ≡ file_kind
    same : SameFile w.store t n i

  store_kept : (t : List ℕ) → t ≡ w.store → FileKept t
  store_kept t e = rw e (record { kind = file; same = record { size = refl; bytes = refl } })

  keeps_kept : (t : List ℕ) → Keeps w.store t n i → FileKept t
  keeps_kept t k =
      let few = (store_blocks (sound_store (ready_sound w (fit g)) (counted g))).few i low high in
      record {
        kind = k.body.kind ∙ file;
        same = record {
          size = k.body.size;
          bytes = bytes_same w.store t n i k.body.size (λ a u _. ap (block_of t n) (k.body.blocks a (omega arith)) ∙ k.bytes a u);
        };
      }

  call_kept : (c : Call) → takes (call c) w p ≡ false → writes (call c) w i ≡ false → FileKept (next (call c) w).store
  call_kept c t u = elim (holds_or_fails (accepted (call c) w)) [
    | inl a ↦
        let x = live_accepted c w (fit g) a in
        let k = subst (λ (m : ℕ). Lawful w.store m x.0) (sym (counted g)) x.1.laws in
        let e = ap (λ (v : World). v.store) x.1.after in
        let used : kind_of x.0.store i ≢ free_kind = λ z. next_used (call c) t (ap (λ (s : List ℕ). kind_of s i) e ∙ z) in
        subst FileKept (sym e) (keeps_kept x.0.store (k.contents i low high file used (written_none c w x.0 i x.1 a u)))
    | inr a ↦ store_kept _ (ap (λ (v : World). v.store) (live_refused c w a))
  ]

  event_kept : (e : Event) → takes e w p ≡ false → writes e w i ≡ false → FileKept (next e w).store
  unfolding next
  event_kept (call c) t u = call_kept c t u
  event_kept advances t u = store_kept _ (steps_keep w)
  event_kept asks t u = store_kept _ (asks_keep w)
  event_kept starts t u = store_kept _ (starts_keep w)

-- ---- the list
pub moment_file : (n b : ℕ) (es : List Event) (w v : World) → Going n b w → (p : ℕ) → p < most_slots * n → (i : ℕ) → 1 ≤ i → i ≤ n → naming w.store n p ≡ i → kind_of w.store i ≡ file_kind
    → Untouched es w p → Unwritten es w i → Moment es w v → SameFile w.store v.store n i
unfolding Untouched Unwritten
moment_file n b es w v g p l i low high o f t u here = record { size = refl; bytes = refl }
moment_file n b (e ∷ es) w v g p l i low high o f t u (after m) =
    let k = event_kept n b w g p l i low high o f e t.0 u.0 in
    let r = moment_file n b es (next e w) v (going_next n b w e g) p l i low high (next_names n b w g p l i low high o f e t.0) k.kind t.1 u.1 m in
    record { size = r.size ∙ k.same.size; bytes = r.bytes ∙ k.same.bytes }

pub kept_untouched : {es : List Event} {w : World} {p : ℕ} → Kept es w p → Untouched es w p
kept_untouched (list.top f u d) = u
kept_untouched (list.below f u d k) = u
