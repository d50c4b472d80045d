-- A file call, a question and a start while a copy runs. n and b are the counts of inodes and image blocks.
use Prim.Native.Nat.{ℕ}
use mathlib.Core.Path.{◌≡◌, refl, sym, ◌∙◌, subst}
use mathlib.Core.Bool.{true, false}
use native.Mathlib.Omega.{arith}
use lib.ListN.{length}
use Rattle.layout.specs.Sizes.{most_image_blocks}
use Rattle.blocks.specs.Block.{store_length, Allowed}
use Rattle.sound.specs.Sound.{Sound, inodes_in, blocks_in}
use Rattle.sound.specs.declared.Form.TheVariants.{Store}
use Rattle.answers.specs.declared.Refusal.TheVariants.{WrongState}
use Rattle.preservation.proofs.StoreLaws.{sound_store}
use Rattle.files.specs.Effect.{Call, Effect, Planned, does, refused, planned}
use Rattle.files.proofs.Lawful.{Each, Lawful}
use Rattle.files.proofs.LawfulCalls.{lawful}
use Rattle.copy_theory.specs.View.{Shelf, Tidy}
use Rattle.copy_theory.specs.Deed.{Alike, called, rests}
use Rattle.copy_theory.proofs.HoldsLaws.{holds_does}
use Rattle.checkpoint.specs.Fit.{image_allowed, image_blocks}
use Rattle.checkpoint.specs.Notes.{cut_entries, clear_marks, set_marks}
use Rattle.checkpoint.specs.Busy.{any_locked}
use Rattle.checkpoint.specs.Live.{World, refuse, decision, leaves_in, live, started}
use Rattle.checkpoint.specs.List.{call, asks, starts, outcome, next}
use Rattle.checkpoint.proofs.DecisionLaws.{Unhindered, each_decided}
use Rattle.checkpoint.proofs.Copy.Seen.{seen}
use Rattle.checkpoint.proofs.Copy.TidyLaws.{store_tidy}
use Rattle.checkpoint.proofs.Call.CallLaid.{call_laid}
use Rattle.checkpoint.proofs.Call.CallSeen.{call_called}
use Rattle.checkpoint.proofs.Run.Going.{seen_in, Running, ready, runs, locked_used, left_in, next_is, start_passes}
use Rattle.checkpoint.proofs.Run.Turned.{Goes}
use Rattle.checkpoint.proofs.Step.StartLaws.{image_allowed_is}

-- an image of the length of b blocks is allowed, and b are told by its length
pub blocks_told : (n b k : ℕ) → k ≡ store_length n b → image_blocks n k ≡ b
unfolding image_blocks
blocks_told n b k e = omega arith

pub image_allowed_lem : (n b k : ℕ) → Allowed most_image_blocks n b k → image_allowed n k ≡ true
image_allowed_lem n b k h = (image_allowed_is n k).from (rw (blocks_told n b k h.long) h)

-- the state question changes nothing
pub asks_same : (w : World) → next asks w ≡ w
unfolding next outcome
asks_same w = refl

alike_self : (x : Shelf) (i : ℕ) → Alike x x i
alike_self x i = record { kind = refl; parent = refl; size = refl; bytes = λ e. refl }

module _ (n b : ℕ) (w : World) (r : Running n b w) where
  -- nothing is done
  same_goes : (v : World) → v ≡ w → Goes n b w v
  same_goes v e = rw e record {
    still = r;
    deed = rests (record { store = refl; names = λ q. refl; entries = λ q z. refl; inodes = alike_self (seen_in n w).image; marked = λ q. refl; copied = λ i. refl }) refl;
  }

  -- the world after an effect
  abbrev made : Effect → World
  made x = record { store = x.store; image = cut_entries w.image w.desk n x.taken; desk = set_marks (clear_marks w.desk n x.taken) n x.made }

  made_tidy : (x : Effect) → n ≡ inodes_in x.store → Sound Store x.store → Tidy n (seen_in n (made x)).store
  unfolding seen
  made_tidy x c h = store_tidy x.store n h c

  made_goes : (x : Effect) → Lawful w.store n x → any_locked w.desk x.touches ≡ false → Goes n b w (made x)
  made_goes x y a =
      let c : n ≡ inodes_in x.store = r.count ∙ sym y.frame.inodes in
      let d = called (call_called r.sound r.count r.laid x y a) in
      record {
        still = record {
          count = c;
          sound = y.sound;
          laid = call_laid r.sound r.count r.laid x y a (locked_used r);
          holds = holds_does n (seen_in n w) (seen_in n (made x)) r.holds d (made_tidy x c y.sound);
        };
        deed = d;
      }

  decided : (c : Call) (q : Planned) → decision c w ≡ q → Each (Unhindered (Lawful w.store n) w) q → Goes n b w (left_in (leaves_in w q))
  decided c (refused e) h k = same_goes w refl
  decided c (does x) h k =
      subst (λ (i : ℕ). Goes n b w (record { store = x.store; image = cut_entries w.image w.desk i x.taken; desk = set_marks (clear_marks w.desk i x.taken) i x.made }))
      r.count (made_goes x k.0 k.1)

  pub call_goes : (c : Call) → Goes n b w (next (call c) w)
  unfolding next outcome live
  call_goes c =
      let h = lawful c (sound_store r.sound refl) in
      let k = subst (λ (i : ℕ). Each (Lawful w.store i) (planned c w.store (inodes_in w.store) (blocks_in w.store))) (sym r.count) h in
      decided c (decision c w) refl (each_decided (Lawful w.store n) c w k)

  pub asks_goes : Goes n b w (next asks w)
  asks_goes = same_goes (next asks w) (asks_same w)

  pub start_busy : outcome starts w ≡ refuse WrongState w.store w.image w.desk
  unfolding outcome started
  start_busy =
      let f = r.laid.frame in
      let fits : Allowed most_image_blocks n b (length w.image) = record { some_inodes = f.some_inodes; most_inodes_lem = f.most_inodes_lem; some_blocks = f.some_blocks; most_blocks_lem = f.most_blocks_lem; long = f.long } in
      let a : image_allowed (inodes_in w.store) (length w.image) ≡ true = rw (sym r.count) (image_allowed_lem n b (length w.image) fits) in
      (start_passes w (ready r) a) ∙ rw (runs r) refl

  pub starts_goes : Goes n b w (next starts w)
  starts_goes = same_goes (next starts w) (next_is starts w _ start_busy)
