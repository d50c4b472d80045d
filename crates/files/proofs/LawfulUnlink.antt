-- The laws of unlink's effect. n and b are the counts of inodes and blocks.
use Rattle.std.specs.Prelude.{Err, Ok, Result}
use Prim.Native.Nat.{ℕ, ◌-◌, ◌<◌}
use mathlib.Core.Path.{◌≡◌, refl, sym, ◌∙◌, subst}
use mathlib.Core.Logic.{◌≢◌, ◌⊎◌, inl, inr}
use mathlib.Core.Bool.{Bool, true, false}
use mathlib.Core.List.{List, [], ◌∷◌}
use native.Mathlib.Decide.{ℕ_discrete}
use native.Mathlib.Omega.{arith}
use borrow.Author.Tests.{leb-true, leb-false}
use lib.Dec.{leb}
use Rattle.bounded.specs.Search.{pick}
use Rattle.bounded.proofs.CaseLaws.{each_else}
use Rattle.layout.specs.Inode.{kind_of, links_of, size_of, put_inode, put_links, free_kind, directory_kind, is_directory, zero_inode}
use Rattle.blocks.specs.Block.{blocks_used, kth_block}
use Rattle.layout.specs.Header.{more_free}
use Rattle.blocks.proofs.FrameLaws.{length_inode}
use Rattle.blocks.proofs.ViewLaws.{inode_fits}
use Rattle.layout.specs.Fits.{InodeFits}
use Rattle.directory.specs.Slot.{slots, slot_empty, clear_entry, inode_at}
use Rattle.directory.proofs.SlotLaws.{find_below}
use Rattle.sound.specs.Counted.{SoundStore}
use Rattle.preservation.proofs.SameLaws.{SameFrame, SameBody, SameBlock, same_body, frame_then, more_free_lem}
use Rattle.preservation.proofs.StoreLaws.{fits}
use Rattle.preservation.proofs.EntryWriteLaws.{EntriesAlone, entries_stay, clear_alone}
use Rattle.preservation.proofs.InodeWriteLaws.{links_relinked}
use Rattle.preservation.proofs.BaredLaws.{put_bared}
use Rattle.preservation.proofs.SlotPlaceLaws.{EntryHere, entry_here, found_full, place_filled}
use Rattle.entries.specs.Plan.{holds_none, unlink_plan}
use Rattle.entries.specs.Apply.{drop_link, unlinked}
use Rattle.entries.proofs.PlanFacts.{unlinks}
use Rattle.entries.proofs.UnlinkKeeps.{unlink_emptied, unlink_others, unlink_less, unlink_last, unlink_sound}
use Rattle.files.specs.Effect.{entry, changes, do_unlink, planned, unlink}
use Rattle.files.proofs.Lawful.{Lawful, Each}
use Rattle.files.proofs.LawfulSteady.{store_blocks, clear_steady}
use Rattle.answers.specs.declared.Refusal.{Refusal}
use Rattle.entries.specs.declared.UnlinkPlan.{UnlinkPlan}

-- ---- a link less: the frame and the bytes of all blocks stay
module _ (m : List ℕ) (n i : ℕ) (there : InodeFits m n i) where
  dropped : SameFrame m (drop_link m n i) × ((c : ℕ) → SameBlock m (drop_link m n i) n c)
  unfolding drop_link zero_inode
  dropped = go (leb (links_of m i) 1)
    where
      go : (b : Bool) → SameFrame m (pick b (more_free (put_inode m n i zero_inode) 1 (blocks_used (size_of m i))) (put_links m i (links_of m i - 1)))
          × ((c : ℕ) → SameBlock m (pick b (more_free (put_inode m n i zero_inode) 1 (blocks_used (size_of m i))) (put_links m i (links_of m i - 1))) n c)
      go true =
          let l = there.area in
          let e = length_inode m n i zero_inode in
          let c = more_free_lem (put_inode m n i zero_inode) n (omega arith) 1 (blocks_used (size_of m i)) in
          let r = put_bared m _ n i _ _ zero_inode there refl c in
          (r.frame, r.bytes)
      go false = let r = (links_relinked m n i there (links_of m i - 1)).inode in (r.frame, r.bytes)

-- ---- unlink
module _ (s : List ℕ) (n d t i : ℕ) {b : ℕ} (h : SoundStore s n b)
    (dir : is_directory s n d ≡ true) (inside : t < slots s d) (full : slot_empty s n d t ≡ false) (is : i ≡ inode_at s n d t) (holds : kind_of s i ≡ directory_kind → holds_none s n i ≡ true) where
  here : EntryHere s n d t i
  here = entry_here h d t i dir inside full is

  abbrev bared : List ℕ
  bared = clear_entry s n d t

  cleared : EntriesAlone s bared n
  cleared = clear_alone h (entries_stay s n) here.slot

  drop : SameFrame bared (unlinked s n d t i) × ((c : ℕ) → SameBlock bared (unlinked s n d t i) n c)
  unfolding unlinked
  drop = dropped bared n i (inode_fits s bared n i cleared.frame.long (fits h i here.low here.high))

  kind_after : (kind_of (unlinked s n d t i) i ≡ kind_of s i) ⊎ (kind_of (unlinked s n d t i) i ≡ free_kind)
  unfolding zero_inode
  kind_after = go (leb (links_of s i) 1) refl
    where
      go : (b : Bool) → leb (links_of s i) 1 ≡ b → (kind_of (unlinked s n d t i) i ≡ kind_of s i) ⊎ (kind_of (unlinked s n d t i) i ≡ free_kind)
      go true e = inr (unlink_last s n d t i h dir inside full is holds (leb-true (links_of s i) 1 e)).kind
      go false e = inl (unlink_less s n d t i h dir inside full is holds (leb-false (links_of s i) 1 e)).0.kind

  -- an inode with links left keeps its body
  body_after : kind_of (unlinked s n d t i) i ≢ free_kind → SameBody s (unlinked s n d t i) n i
  unfolding zero_inode
  body_after u = go (leb (links_of s i) 1) refl
    where
      go : (b : Bool) → leb (links_of s i) 1 ≡ b → SameBody s (unlinked s n d t i) n i
      go true e = absurd (u (unlink_last s n d t i h dir inside full is holds (leb-true (links_of s i) 1 e)).kind)
      go false e = (unlink_less s n d t i h dir inside full is holds (leb-false (links_of s i) 1 e)).0

  unlink_lawful : Lawful s n (changes 0 (unlinked s n d t i) (d ∷ i ∷ []) (entry d t i ∷ []) [])
  unlink_lawful =
      let o = unlink_emptied s n d t i h dir inside full is holds in
      let r = unlink_others s n d t i h dir inside full is holds in
      let y = here.slot in
      record {
        sound = unlink_sound s n d t i h dir inside full is holds;
        frame = frame_then cleared.frame drop.0;
        stood = (record { low = y.low; high = y.high; small = y.small; stands = place_filled s n d t y full; names = here.names }, tt);
        gone = (λ _. o.stands, tt);
        stands = tt;
        bare = tt;
        distinct = (tt, tt);
        swaps = (tt, tt);
        others = λ q l z _. let p = o.others q l z.0 in record { stands = p.stands; names = p.names };
        kinds = λ j l k u. elim (ℕ_discrete j i) as (λ _. (kind_of (unlinked s n d t i) j ≡ kind_of s j) ⊎ (kind_of (unlinked s n d t i) j ≡ free_kind)) [
          | yes e ↦ subst (λ (a : ℕ). (kind_of (unlinked s n d t i) a ≡ kind_of s a) ⊎ (kind_of (unlinked s n d t i) a ≡ free_kind)) (sym e) kind_after
          | no e ↦ inl (r j l k e).kind
        ];
        untouched = λ j l k u z. record {
          inode = r j l k z.1.0;
          bytes = λ a v. drop.1 (kth_block s n j a) ∙ ((clear_steady s n d t (store_blocks h) y).stays j l k u (z.0, tt)).bytes a v;
        };
        contents = λ j l k f u _. record {
          body = each_else (λ a. kind_of (unlinked s n d t i) a ≢ free_kind → SameBody s (unlinked s n d t i) n a) i j body_after (λ z _. same_body (r j l k z)) u;
          bytes = λ a v. drop.1 (kth_block s n j a) ∙ ((clear_steady s n d t (store_blocks h) y).files j l k f).bytes a v;
        };
        apart = λ j z. (((z.0, z.1.0), tt), tt);
      }

pub lawful_unlink : (s : List ℕ) (n b d : ℕ) (name : List ℕ) → SoundStore s n b → Each (Lawful s n) (planned (unlink d name) s n b)
lawful_unlink s n b d name h = go (unlink_plan s n d name) refl
  where
    go : (p : Result UnlinkPlan Refusal) → unlink_plan s n d name ≡ p → Each (Lawful s n) (do_unlink s n d p)
    go (Err w) e = tt
    go (Ok x) e =
        let c = unlinks s n d name x.slot x.inode e in
        let w = c.entry in
        unlink_lawful s n d x.slot x.inode h w.directory (find_below s n d name x.slot w.found) (found_full s n d name x.slot w.legal w.found) w.inode c.empty
