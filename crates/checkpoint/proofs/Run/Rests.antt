-- A world in which no copy runs, after one was started: what each event does to it. n and b are the counts of inodes and image blocks.
use Prim.Native.Nat.{ℕ, ◌≤◌}
use mathlib.Core.Path.{◌≡◌, refl, sym, ◌∙◌}
use mathlib.Core.Logic.{◌⊎◌, inl, inr}
use mathlib.Core.Bool.{false}
use mathlib.Core.List.{List}
use native.Mathlib.Omega.{arith}
use borrow.Author.Tests.{ne_eqb}
use lib.Dec.{eqb}
use lib.ListN.{length}
use Rattle.bounded.specs.Search.{pick}
use Rattle.bounded.proofs.BoolLaws.{clash, and_left}
use Rattle.layout.specs.Sizes.{most_image_blocks, is_complete, not_complete}
use Rattle.layout.specs.Header.{header_of}
use Rattle.blocks.specs.Block.{store_length}
use Rattle.desk.specs.Sizes.{running, finished, stopped}
use Rattle.desk.specs.Desk.{desk_of}
use Rattle.sound.specs.Sound.{Sound, inodes_in}
use Rattle.sound.specs.declared.Form.TheVariants.{Store}
use Rattle.sound.proofs.SoundLaws.{is_sound_lem}
use Rattle.sound.specs.Test.{framed_b, is_sound}
use Rattle.answers.specs.declared.Refusal.TheVariants.{WrongState}
use Rattle.preservation.proofs.StoreLaws.{sound_store}
use Rattle.files.specs.Effect.{Call, Planned, does, refused}
use Rattle.files.proofs.Lawful.{Each, Lawful}
use Rattle.files.proofs.LawfulCalls.{lawful}
use Rattle.checkpoint.specs.Fit.{is_running}
use Rattle.checkpoint.specs.Live.{World, refuse, decision, leaves_in, live, step}
use Rattle.checkpoint.specs.List.{Ready, call, advances, asks, outcome, next}
use Rattle.checkpoint.proofs.Copy.FitLaws.{notes_fit_is}
use Rattle.checkpoint.proofs.DecisionLaws.{Unhindered, each_decided}
use Rattle.checkpoint.proofs.Run.Calls.{asks_same}
use Rattle.checkpoint.proofs.Run.Going.{guards_pass, left_in, next_is}
use Rattle.checkpoint.proofs.Call.CallNotes.{idle_call}

pub record Resting (n b : ℕ) (w : World) : Type 0 where
  pub count : n ≡ inodes_in w.store
  pub fit : Ready w
  pub long : length w.image ≡ store_length n b
  pub some_blocks : 1 ≤ b
  pub most_blocks_lem : b ≤ most_image_blocks
  pub state : ((desk_of w.desk).state ≡ finished) ⊎ ((desk_of w.desk).state ≡ stopped)
  pub byte : (header_of w.image).complete ≡ pick (eqb (desk_of w.desk).state finished) is_complete not_complete

pub idle : {n b : ℕ} {w : World} → Resting n b w → is_running w.desk ≡ false
unfolding is_running
idle {w = w} r = ne_eqb (desk_of w.desk).state running (λ e. elim r.state [ inl f ↦ omega arith | inr f ↦ omega arith ])

-- ---- a call writes neither image nor desk
-- at rest the buffers fit another sound store of as many inodes
refit : (w : World) (s : List ℕ) → Ready w → is_running w.desk ≡ false → Sound Store s → inodes_in s ≡ inodes_in w.store → Ready (record { store = s; image = w.image; desk = w.desk })
unfolding is_sound
refit w s r i h e =
    let k = (is_sound_lem Store s).from h in
    let a = (notes_fit_is w.store w.image w.desk).to r.notes in
    record {
      framed = and_left (framed_b Store s) _ k;
      sound = k;
      desk = r.desk;
      notes = (notes_fit_is s w.image w.desk).from (a.0, (a.1.0 ∙ sym e, λ y. absurd (clash (is_running w.desk) y i)));
    }

module _ (n b : ℕ) (w : World) (r : Resting n b w) where
  sound : Sound Store w.store
  sound = (is_sound_lem Store w.store).to r.fit.sound

  -- store, image and desk after a call
  pub record Kept (v : World) : Type 0 where
    pub rest : Resting n b v
    pub image : v.image ≡ w.image
    pub desk : v.desk ≡ w.desk

  stays : (s : List ℕ) → Sound Store s → inodes_in s ≡ inodes_in w.store → Kept (record { store = s; image = w.image; desk = w.desk })
  stays s h e = record {
    rest = record { count = r.count ∙ sym e; fit = refit w s r.fit (idle r) h e; long = r.long; some_blocks = r.some_blocks; most_blocks_lem = r.most_blocks_lem; state = r.state; byte = r.byte };
    image = refl;
    desk = refl;
  }

  pub same_kept : (v : World) → v ≡ w → Kept v
  same_kept v e = rw e (record { rest = r; image = refl; desk = refl })

  decided : (q : Planned) → Each (Lawful w.store (inodes_in w.store)) q → Kept (left_in (leaves_in w q))
  decided (refused e) k = same_kept w refl
  decided (does x) k =
      let z = idle_call w.image w.desk (inodes_in w.store) x.taken x.made (idle r) in
      rw (z.0, z.1)
      (stays x.store k.sound k.frame.inodes)

  drop_allowed : (q : Planned) → Each (Unhindered (Lawful w.store (inodes_in w.store)) w) q → Each (Lawful w.store (inodes_in w.store)) q
  drop_allowed (refused e) k = tt
  drop_allowed (does x) k = k.0

  pub call_kept : (c : Call) → Kept (next (call c) w)
  unfolding next outcome live
  call_kept c =
      let h = lawful c (sound_store sound refl) in
      decided (decision c w) (drop_allowed (decision c w) (each_decided (Lawful w.store (inodes_in w.store)) c w h))

  pub asks_kept : Kept (next asks w)
  asks_kept = same_kept (next asks w) (asks_same w)

  pub step_idle : outcome advances w ≡ refuse WrongState w.store w.image w.desk
  unfolding outcome step
  step_idle = (guards_pass w r.fit _) ∙ rw (idle r) refl

  pub steps_kept : Kept (next advances w)
  steps_kept = same_kept (next advances w) (next_is advances w _ step_idle)
