-- An accepted start: what it found, and that the copy runs after it.
use Rattle.std.specs.Prelude.{Ok}
use Prim.Native.Nat.{ℕ, ◌≤◌}
use mathlib.Core.Path.{◌≡◌, refl, sym, ap, ◌∙◌, subst}
use mathlib.Core.Bool.{Bool, true, false, not, ◌&&◌}
use mathlib.Core.List.{List}
use native.Mathlib.Omega.{arith}
use borrow.Author.Tests.{eqb-true}
use lib.Dec.{eqb}
use lib.ListN.{length}
use Rattle.bounded.specs.Search.{pick}
use Rattle.bounded.proofs.BoolLaws.{clash, and_left, and_right}
use Rattle.desk.specs.Sizes.{desk_header_bytes}
use Rattle.desk.specs.declared.Desk.{Desk}
use Rattle.desk.specs.Desk.{desk_of, clear_notes}
use Rattle.desk.specs.Next.{starting}
use Rattle.desk.proofs.DeskLaws.{desk_put_desk, length_clear_notes}
use Rattle.sound.specs.Sound.{Sound, inodes_in}
use Rattle.sound.specs.declared.Form.TheVariants.{Store}
use Rattle.sound.proofs.SoundLaws.{is_sound_lem}
use Rattle.sound.specs.Test.{framed_b, is_sound}
use Rattle.answers.specs.declared.Refusal.TheVariants.{BadBuffer, UnsoundStore, BadDesk, WrongState}
use Rattle.copy_theory.specs.View.{Tidy}
use Rattle.copy_theory.specs.Holds.{Fresh}
use Rattle.copy_theory.proofs.HoldsLight.{holds_fresh}
use Rattle.checkpoint.specs.Fit.{desk_framed, desk_fits, image_allowed, image_blocks, is_running, notes_fit}
use Rattle.checkpoint.specs.Copier.{start_image, start_desk}
use Rattle.checkpoint.specs.Live.{World, Outcome, left, refuse, started, start}
use Rattle.checkpoint.specs.List.{Ready, starts, outcome, next, accepted}
use Rattle.checkpoint.proofs.DecisionLaws.{start_is}
use Rattle.checkpoint.proofs.Copy.Seen.{seen}
use Rattle.checkpoint.proofs.Copy.TidyLaws.{store_tidy}
use Rattle.checkpoint.proofs.Step.StartLaws.{start_laid, start_fresh}
use Rattle.checkpoint.proofs.Run.Going.{seen_in, Running, next_is}
use Rattle.checkpoint.proofs.Copy.FitLaws.{desk_framed_is}

-- what it leaves
abbrev pub opened : World → World
opened v = record {
  store = v.store;
  image = start_image (inodes_in v.store) (length v.image);
  desk = start_desk v.desk (inodes_in v.store) (image_blocks (inodes_in v.store) (length v.image));
}

pub record Opens (v : World) : Type 0 where
  pub ready : Ready v
  pub allowed : image_allowed (inodes_in v.store) (length v.image) ≡ true
  pub idle : is_running v.desk ≡ false
  pub is : next starts v ≡ opened v

pub opens : (v : World) → accepted starts v ≡ true → Opens v
unfolding outcome started
opens v a =
    go (framed_b Store s) (desk_framed d) (image_allowed (inodes_in s) (length m)) (is_sound Store s) (notes_fit s m d) (is_running d) refl refl refl refl refl refl
    (sym (ap (λ (o : Outcome). eqb o.answer.number 0) (start_is s m d)) ∙ a) (start_is s m d)
  where
    s : List ℕ
    s = v.store

    m : List ℕ
    m = v.image

    d : List ℕ
    d = v.desk

    o : Outcome
    o = left (Ok 0) s (start_image (inodes_in s) (length m)) (start_desk d (inodes_in s) (image_blocks (inodes_in s) (length m)))

    tests : (f g i k n r : Bool) → Outcome
    tests f g i k n r =
        pick (not ((f && g) && i)) (refuse BadBuffer s m d)
        (pick (not k) (refuse UnsoundStore s m d)
        (pick (not n) (refuse BadDesk s m d)
        (pick r (refuse WrongState s m d) o)))

    go : (f g i k n r : Bool) → framed_b Store s ≡ f → desk_framed d ≡ g → image_allowed (inodes_in s) (length m) ≡ i → is_sound Store s ≡ k → notes_fit s m d ≡ n → is_running d ≡ r
        → eqb (tests f g i k n r).answer.number 0 ≡ true → start s m d ≡ tests f g i k n r → Opens v
    go true true true true true false p q t u x y h e = record {
      ready = record { framed = p; sound = u; desk = q; notes = x };
      allowed = t;
      idle = y;
      is = next_is starts v (o) (e);
    }
    go true true true true true true p q t u x y h e = absurd (clash false h refl)
    go true true true true false r p q t u x y h e = absurd (clash false h refl)
    go true true true false n r p q t u x y h e = absurd (clash false h refl)
    go true true false k n r p q t u x y h e = absurd (clash false h refl)
    go true false i k n r p q t u x y h e = absurd (clash false h refl)
    go false g i k n r p q t u x y h e = absurd (clash false h refl)

-- after it the copy runs, afresh, with no step taken
pub record Fresher (n b : ℕ) (v : World) : Type 0 where
  pub runs : Running n b v
  pub fresh : Fresh (seen_in n v)
  pub steps : (desk_of v.desk).steps ≡ 0

module _ (v : World) (h : Opens v) where
  abbrev n : ℕ
  n = inodes_in v.store

  abbrev b : ℕ
  b = image_blocks (inodes_in v.store) (length v.image)

  sound : Sound Store v.store
  sound = (is_sound_lem Store v.store).to h.ready.sound

  fits : desk_fits v.desk ≡ true
  unfolding notes_fit
  fits = and_left (desk_fits v.desk) _ h.ready.notes

  count : (desk_of v.desk).inodes ≡ n
  unfolding notes_fit
  count = eqb-true (desk_of v.desk).inodes n (and_left _ _ (and_right (desk_fits v.desk) _ h.ready.notes))

  fresh : Fresh (seen_in n (opened v))
  fresh = start_fresh v.store v.image v.desk n sound refl h.allowed h.ready.desk count fits h.idle

  tidy : Tidy n (seen_in n (opened v)).store
  unfolding seen
  tidy = store_tidy v.store n sound refl

  long : desk_header_bytes ≤ length (clear_notes v.desk n)
  long =
      let e = ((desk_framed_is v.desk).to h.ready.desk).1.1 in
      let f = length_clear_notes v.desk n in
      omega arith

  no_steps : (desk_of (opened v).desk).steps ≡ 0
  unfolding start_desk
  no_steps = ap (λ (x : Desk). x.steps) (desk_put_desk (clear_notes v.desk n) (starting (desk_of v.desk) b) long)

  at_own : Fresher n b (opened v)
  at_own = record {
    runs = record {
      count = refl;
      sound = sound;
      laid = start_laid v.store v.image v.desk n sound refl h.allowed h.ready.desk count fits h.idle;
      holds = holds_fresh n (seen_in n (opened v)) tidy fresh;
    };
    fresh = fresh;
    steps = no_steps;
  }

pub opened_runs : (n b : ℕ) (v : World) → Opens v → n ≡ inodes_in v.store → image_blocks n (length v.image) ≡ b → Fresher n b (next starts v)
opened_runs n b v h e f = rw h.is (subst (λ (c : ℕ). Fresher n c (opened v)) f (subst (λ (k : ℕ). Fresher k (image_blocks k (length v.image)) (opened v)) (sym e) (at_own v h)))
