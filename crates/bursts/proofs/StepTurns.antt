-- Each step of a burst as a turn: what it asks for, what is left to do after it, and that it keeps what a burst keeps. s is the store, m the image, d the desk, n the inode count, h the desk's header.
use Rattle.std.specs.Prelude.{Err, None, Ok, Option, Some}
use Prim.Native.Nat.{ℕ, suc, ◌+◌, ◌*◌, ◌-◌, ◌/◌, ◌%◌, ◌≤◌, ◌<◌}
use mathlib.Core.Path.{◌≡◌, refl, sym, ap, ◌∙◌, subst}
use mathlib.Core.Logic.{◌≢◌}
use mathlib.Core.Bool.{Bool, true, false}
use mathlib.Core.List.{List}
use native.Mathlib.Decide.{ℕ_discrete, dec_lt}
use native.Mathlib.Omega.{arith}
use lib.ListN.{length}
use Rattle.bounded.specs.Count.{Tallied}
use Rattle.bounded.specs.Search.{on_found}
use Rattle.bounded.proofs.BoolLaws.{clash}
use Rattle.bounded.proofs.TallyLaws.{tallied_ext}
use Rattle.layout.specs.Sizes.{header_bytes, inode_bytes, most_inodes, most_image_blocks, most_blocks, address_count, address_place, not_complete}
use Rattle.layout.specs.Header.{header_of}
use Rattle.layout.specs.Inode.{kind_of, size_of, address_of, address_index, directory_kind}
use Rattle.layout.specs.Fits.{InodeFits}
use Rattle.blocks.specs.Block.{blocks_used, is_long, address_block, kth_by, kth_block, row_by}
use Rattle.blocks.specs.Free.{long_but}
use Rattle.blocks.specs.Fits.{Sized, BlockFits, RowsFit}
use Rattle.blocks.specs.Map.{noted, Maps}
use Rattle.blocks.proofs.KthLaws.{kth_direct}
use Rattle.blocks.proofs.MapLaws.{map_ext, map_change}
use Rattle.blocks.proofs.LongLaws.{but_here}
use Rattle.directory.specs.Slot.{most_slots}
use Rattle.desk.specs.declared.Desk.{Desk}
use Rattle.desk.specs.Desk.{desk_of}
use Rattle.sound.specs.Sound.{inodes_in}
use Rattle.sound.specs.declared.Form.TheVariants.{Store}
use Rattle.sound.proofs.SoundLaws.{is_sound_lem}
use Rattle.preservation.proofs.StoreLaws.{sound_store, sized_at}
use Rattle.answers.specs.Told.{Answer, Told, told}
use Rattle.answers.specs.declared.Refusal.{Refusal}
use Rattle.answers.specs.declared.Refusal.TheVariants.{BadDesk, ImageFull}
use Rattle.checkpoint.specs.Fit.{image_long, image_fits}
use Rattle.checkpoint.specs.Image.{image_naming}
use Rattle.checkpoint.specs.Copier.{Step, lock, copy, close, finish, full, target_block, free_step, step_of, step_image, step_desk}
use Rattle.checkpoint.specs.Live.{World, Outcome, left, tells, refuse, do_step, step, world, world_in}
use Rattle.checkpoint.specs.Burst.{burst_from, Steady}
use Rattle.checkpoint.proofs.Copy.FitLaws.{image_fits_is}
use Rattle.checkpoint.proofs.Copy.ChosenLaws.{Chosen, chosen, will_lock, will_copy, will_close, will_finish, no_room}
use Rattle.checkpoint.proofs.Step.BlockLaws.{SameAttributes}
use Rattle.checkpoint.proofs.Step.FinishFacts.{finished}
use Rattle.checkpoint.proofs.SteadyLaws.{steady_of, some, steady_sized, steady_address, steady_rows, lock_read, lock_fits, lock_stays, lock_unfit, locked_low, locked_high, copy_apart, behind, few_places, copy_attributes, copy_read, copy_new, copy_rows, copy_stays, copy_bytes, copy_else, close_inode, close_kind, close_rows, close_stays}
use Rattle.image.specs.Fit.{further_right_of}
use Rattle.image.specs.Addressed.{Addressed}
use Rattle.image.proofs.NamingLaws.{maps_free}
use Rattle.copier.specs.Held.{Held, Locked, Target, OpenImage}
use Rattle.copier.proofs.ReadyLaws.{ready_held, ready_locked, ready_open}
use Rattle.copier.proofs.FiveLaws.{locked_close, locked_copy, locked_full, step_free, step_locked, does_lock, does_full, target_inside}
use Rattle.bursts.specs.Turn.{Mapped, NamesStay, Counted, Going, Kept, Took}
use Rattle.bursts.proofs.NamingLaws.{copy_naming, close_naming}
use Rattle.bursts.proofs.TurnLaws.{went_stops, went_last, went_on, went_final}
use Rattle.bursts.specs.declared.Turn.TheVariants.{Goes}

-- ---- the buffers of a running copy
module _ (s m d : List ℕ) (z : Steady (world s m d)) (n : ℕ) (e : n ≡ inodes_in s) where
  pub steady_area : header_bytes + inode_bytes * n ≤ length s
  steady_area = let w = (sized_at (sound_store ((is_sound_lem Store s).to z.sound) e)).long in omega arith

  pub steady_addressed : Addressed m n
  steady_addressed =
      let w = steady_sized s m d z n e in
      let k = w.blocks in
      let l = w.long in
      record { few = w.inodes; area = omega arith; most = λ x u. let a = at x u in omega arith; inside = λ x u. let a = at x u in omega arith }
    where
      at : (x : ℕ) → x < address_count * n → address_of m n x ≤ (desk_of d).blocks
      at x u = let q : address_index (x / 12 + 1) (x % 12) ≡ x = omega arith in subst (λ (y : ℕ). address_of m n y ≤ (desk_of d).blocks) q (steady_address s m d z n e (x / 12 + 1) (x % 12) (omega arith) (omega arith) (omega arith))

  steady_incomplete : (header_of m).complete ≡ not_complete
  steady_incomplete = ((image_fits_is s m d).to z.image).1.1.1.1.0

-- the inode that a lock locks
lock_range : {s m d : List ℕ} {n : ℕ} {x : Step} → Chosen s m d n x → (i : ℕ) → x ≡ lock i → (1 ≤ i) × (i ≤ n)
lock_range (will_lock l _ low high _ _) i e = let y : l ≡ i = cc in (omega arith, omega arith)
lock_range (will_copy c _ _ _) i e = let y : ◌≡◌ {A = ℕ} 0 1 = cc in absurd (omega arith)
lock_range (will_close _ _) i e = let y : ◌≡◌ {A = ℕ} 0 1 = cc in absurd (omega arith)
lock_range (will_finish _ _ _) i e = let y : ◌≡◌ {A = ℕ} 0 1 = cc in absurd (omega arith)
lock_range (no_room _ _ _) i e = let y : ◌≡◌ {A = ℕ} 0 1 = cc in absurd (omega arith)

module _ (s m d : List ℕ) (n : ℕ) (h : Desk) (g : Going (world s m d) n h) where
  steady : Steady (world s m d)
  steady = steady_of (world s m d) g.ready g.running

  pub going_held : Held d n h
  going_held = ready_held s m d n g.ready g.inodes g.running h g.read

  pub going_area : header_bytes + inode_bytes * n ≤ length s
  going_area = steady_area s m d steady n g.inodes

  pub going_addressed : Addressed m n
  going_addressed = steady_addressed s m d steady n g.inodes

  locked_same : h.locked ≡ (desk_of d).locked
  locked_same = ap (λ (v : Desk). v.locked) g.read

  -- ---- the first turn: what a burst keeps is made
  pub first_asks : RowsFit (long_but m h.locked (is_long s h.locked)) m n × (header_bytes + inode_bytes * n ≤ length s) × (h.locked ≤ n)
  first_asks =
      let l = steady.locked in
      let e = steady.inodes ∙ sym g.inodes in
      let q = locked_same in
      (subst (λ (x : ℕ). RowsFit (long_but m x (is_long s x)) m n) (sym locked_same) (steady_rows s m d steady n g.inodes), going_area, omega arith)

  pub first_kept : (map counts : List ℕ) → Maps (long_but m h.locked (is_long s h.locked)) m n (most_blocks * n) map → Tallied (image_naming m n) 1 (most_inodes + 1) (most_slots * n) counts → Kept (world s m d) n map counts
  first_kept map counts k t = record {
    inodes = g.inodes;
    steady = steady;
    mapped = subst (λ (x : ℕ). Maps (long_but m x (is_long s x)) m n (most_blocks * n) map) locked_same k;
    counted = λ _. t;
  }

  -- ---- an inode is locked
  module _ (on : h.locked ≢ 0) where
    on_desk : (desk_of d).locked ≢ 0
    on_desk q = on (locked_same ∙ q)

    pub going_locked : Locked s n h
    going_locked = ready_locked s m d n g.ready g.inodes g.running h g.read on

    pub going_open : OpenImage s m n h
    going_open = ready_open s m d n g.ready g.inodes g.running h g.read on

    pub going_fits : InodeFits s n h.locked × InodeFits m n h.locked
    going_fits =
        let l = going_locked.low in
        let u = going_locked.high in
        let f = going_addressed.few in
        (record { low = l; high = u; few = f; area = going_area }, record { low = l; high = u; few = f; area = going_addressed.area })

    -- 3: f is where the map says that the next block goes
    module _ (map : List ℕ) (k : Mapped (world s m d) n map) (more : h.transferred < blocks_used (size_of s h.locked)) (own : ℕ) (o : own ≡ kth_block s n h.locked h.transferred)
        (f : Option ℕ) (place : (long : ℕ → Bool) (m : List ℕ) (n : ℕ) → Maps long m n (most_blocks * n) map → f ≡ target_block long m n h.blocks own) where
      found : f ≡ target_block (long_but m h.locked (is_long s h.locked)) m n h.blocks own
      found = place _ m n (subst (λ (v : Desk). Maps (long_but m v.locked (is_long s v.locked)) m n (most_blocks * n) map) (sym g.read) k)

      pub block_stops : f ≡ None → (e : Refusal) (p : List ℕ) → e ≡ ImageFull → p ≡ step_desk d full → (counts : List ℕ) → Took (Err e) (world s m d) n m p map counts
      block_stops w e p x y counts = subst (λ (r : Refusal). Took (Err r) (world s m d) n m p map counts) (sym x) (
          went_stops s m d n h g full
          (step_locked s m d n h g.read on ∙ locked_full s m n h.blocks h.locked h.transferred (blocks_used (size_of s h.locked)) refl more (is_long s h.locked) refl own o f found w)
          (told (Err ImageFull)) m p (does_full s m d n full refl (Err ImageFull) p refl y) ImageFull refl)

      module _ (c : ℕ) (w : f ≡ Some c) where
        pub block_target : Target m n h c
        block_target = target_inside going_locked going_open more _ own c f found w

        more_desk : (desk_of d).transferred < blocks_used (size_of s (desk_of d).locked)
        more_desk = subst (λ (v : Desk). v.transferred < blocks_used (size_of s v.locked)) g.read more

        goes : target_block (image_long s m d) m n (desk_of d).blocks (kth_block s n (desk_of d).locked (desk_of d).transferred) ≡ Some c
        goes =
            subst (λ (v : Desk). target_block (long_but m v.locked (is_long s v.locked)) m n v.blocks (kth_block s n v.locked v.transferred) ≡ Some c) g.read
            (ap (target_block (long_but m h.locked (is_long s h.locked)) m n h.blocks) (sym o) ∙ sym found ∙ w)

        -- what stands at its place can be read
        pub block_stands : InodeFits m n h.locked × (h.transferred < most_blocks) × (address_count ≤ h.transferred → BlockFits m n (address_block m n h.locked) × (address_block m n h.locked ≤ most_image_blocks))
        block_stands =
            let l = going_locked.low in
            let u = going_locked.high in
            let y : (desk_of d).transferred < 44 = few_places s m d steady n g.inodes on_desk c more_desk goes in
            let x = ap (λ (v : Desk). v.transferred) g.read in
            (going_fits.1, omega arith, λ q. (block_target.further q, going_addressed.most (address_index h.locked 11) (omega arith)))

        abbrev l : ℕ
        l = (desk_of d).locked

        abbrev q : ℕ
        q = (desk_of d).transferred

        abbrev after : List ℕ
        after = step_image s m d n (copy l q c)

        abbrev notes : List ℕ
        notes = step_desk d (copy l q c)

        is_copy : step_of s m d n ≡ copy l q c
        is_copy =
            step_locked s m d n h g.read on ∙ locked_copy s m n h.blocks h.locked h.transferred (blocks_used (size_of s h.locked)) refl more (is_long s h.locked) refl own o f found c w
            ∙ ap (λ (v : Desk). copy v.locked v.transferred c) g.read

        -- what stood at its place
        stood : kth_by (image_long s m d l) m n l q ≡ kth_by true m n l q
        stood = go (dec_lt q address_count)
          where
            go : Dec (q < address_count) → kth_by (image_long s m d l) m n l q ≡ kth_by true m n l q
            go (yes y) = kth_direct (image_long s m d l) m n l q y ∙ sym (kth_direct true m n l q y)
            go (no y) = ap (λ (x : Bool). kth_by x m n l q) (behind s m d steady n g.inodes on_desk c more_desk goes (omega arith)).0

        copy_mapped : kth_by true m n l q ≡ 0 → Mapped (world s after notes) n (noted map c)
        copy_mapped y =
            let a = locked_low s m d steady n g.inodes on_desk in
            let b = locked_high s m d steady n g.inodes on_desk in
            let x = few_places s m d steady n g.inodes on_desk c more_desk goes in
            let v = block_target.block.low in
            map_change (row_by (image_long s m d) m n) (row_by (image_long s after notes) after n) (most_blocks * n) map k (most_blocks * (l - 1) + q) c (omega arith)
            (copy_new s m d steady n g.inodes on_desk c more_desk goes) (omega arith) (copy_rows s m d steady n g.inodes on_desk c more_desk goes (stood ∙ y))

        -- a short file that is no directory in the image changes no names
        copy_counted : (counts : List ℕ) → Counted (world s m d) n counts → Counted (world s after notes) n counts
        copy_counted counts t stay = tallied_ext (image_naming m n) (image_naming after n) 1 (most_inodes + 1) (most_slots * n) counts
            (copy_naming same l q c (copy_bytes s m d steady n g.inodes on_desk c more_desk goes short) (copy_else s m d steady n g.inodes on_desk c more_desk goes short) free (locked_low s m d steady n g.inodes on_desk) short file)
            (t (λ _. (file, quiet.1)))
          where
            same : SameAttributes m after n
            same = copy_attributes s m d steady n g.inodes on_desk c more_desk goes

            lock_same : (desk_of notes).locked ≡ l
            lock_same = copy_read s m d steady n g.inodes on_desk c more_desk goes

            quiet : NamesStay (world s after notes) l
            quiet = subst (λ (x : ℕ). NamesStay (world s after notes) x) lock_same (stay (λ y. on_desk (sym lock_same ∙ y)))

            file : kind_of m l ≢ directory_kind
            file y = quiet.0 (same.kinds l (locked_low s m d steady n g.inodes on_desk) (locked_high s m d steady n g.inodes on_desk) ∙ y)

            short : q < address_count
            short = go (dec_lt q address_count)
              where
                go : Dec (q < address_count) → q < address_count
                go (yes y) = y
                go (no y) = absurd (clash (is_long s l) (sym (but_here m l (is_long s l) l refl) ∙ (behind s m d steady n g.inodes on_desk c more_desk goes (omega arith)).0) quiet.1)

            free : (x : ℕ) → x < address_count * n → address_of m n x ≢ c
            free x u y =
                let e : address_index (x / 12 + 1) (x % 12) ≡ x = omega arith in
                copy_apart s m d steady n g.inodes on_desk c more_desk goes (x / 12 + 1) (x % 12) (omega arith) (omega arith) (omega arith)
                (kth_direct (image_long s m d (x / 12 + 1)) m n (x / 12 + 1) (x % 12) (omega arith) ∙ ap (address_of m n) e ∙ y)

        -- the step answered a, and left t and p
        module _ (a : Told) (t p : List ℕ) (did : tells a s t p ≡ do_step s m d n (copy h.locked h.transferred c)) where
          did_desk : tells a s t p ≡ do_step s m d n (copy l q c)
          did_desk = did ∙ ap (λ (v : Desk). do_step s m d n (copy v.locked v.transferred c)) g.read

          copy_left : world s t p ≡ world s after notes
          copy_left = ap world_in did_desk

          stays : Steady (world s t p)
          stays = subst Steady (sym copy_left) (copy_stays s m d steady n g.inodes on_desk c more_desk goes)

          lock_left : (desk_of p).locked ≡ h.locked
          lock_left = ap (λ (v : World). (desk_of v.desk).locked) copy_left ∙ copy_read s m d steady n g.inodes on_desk c more_desk goes ∙ sym locked_same

          pub block_rows : RowsFit (long_but t h.locked (is_long s h.locked)) t n
          block_rows = subst (λ (x : ℕ). RowsFit (long_but t x (is_long s x)) t n) lock_left (steady_rows s t p stays n g.inodes)

          -- the address was old, and the map is new
          module _ (old : ℕ) (e : old ≡ kth_by true m n h.locked h.transferred) (new : List ℕ)
              (r : (old ≡ 0 → new ≡ noted map c) × (old ≢ 0 → Maps (long_but t h.locked (is_long s h.locked)) t n (most_blocks * n) new)) where
            mapped : Dec (old ≡ 0) → Mapped (world s t p) n new
            mapped (yes y) =
                subst (λ (v : World). Mapped v n new) (sym copy_left)
                (subst (Mapped (world s after notes) n) (sym (r.0 y)) (copy_mapped (sym (e ∙ ap (λ (v : Desk). kth_by true m n v.locked v.transferred) g.read) ∙ y)))
            mapped (no y) = subst (λ (x : ℕ). Maps (long_but t x (is_long s x)) t n (most_blocks * n) new) (sym lock_left) (r.1 y)

            pub block_goes : (counts : List ℕ) → Counted (world s m d) n counts → Took (Ok Goes) (world s m d) n t p new counts
            block_goes counts x = (
              (λ k j. went_on s m d n h g (copy l q c) is_copy a t p did_desk ((desk_of d).steps + 1) refl k j (steady_incomplete s t p stays n g.inodes)),
              record { inodes = g.inodes; steady = stays; mapped = mapped (ℕ_discrete old 0); counted = subst (λ (v : World). Counted v n counts) (sym copy_left) (copy_counted counts x) },
            )

    -- 4: the step answered a, and left t and p
    module _ (all : blocks_used (size_of s h.locked) ≤ h.transferred) (a : Told) (t p : List ℕ) (did : tells a s t p ≡ do_step s m d n (close h.locked)) where
      is_close : step_of s m d n ≡ close (desk_of d).locked
      is_close = step_locked s m d n h g.read on ∙ locked_close s m n h.blocks h.locked h.transferred (blocks_used (size_of s h.locked)) refl all ∙ ap close locked_same

      closed_desk : tells a s t p ≡ do_step s m d n (close (desk_of d).locked)
      closed_desk = did ∙ ap (λ (x : ℕ). do_step s m d n (close x)) locked_same

      close_left : world s t p ≡ world s (step_image s m d n (close (desk_of d).locked)) (step_desk d (close (desk_of d).locked))
      close_left = ap world_in closed_desk

      close_steady : Steady (world s t p)
      close_steady = subst Steady (sym close_left) (close_stays s m d steady n g.inodes on_desk)

      pub close_addressed : Addressed t n
      close_addressed = steady_addressed s t p close_steady n g.inodes

      -- no directory was closed, nor a long file
      pub close_names : (kind_of m h.locked ≢ directory_kind) × (kind_of s h.locked ≢ directory_kind) × (is_long s h.locked ≡ false) → (counts : List ℕ) → Counted (world s m d) n counts
          → Tallied (image_naming t n) 1 (most_inodes + 1) (most_slots * n) counts
      close_names x counts k =
          let y = subst (λ (i : ℕ). (kind_of m i ≢ directory_kind) × (kind_of s i ≢ directory_kind) × (is_long s i ≡ false)) locked_same x in
          subst (λ (v : World). Tallied (image_naming v.image n) 1 (most_inodes + 1) (most_slots * n) counts) (sym close_left)
          (tallied_ext (image_naming m n) (image_naming (step_image s m d n (close (desk_of d).locked)) n) 1 (most_inodes + 1) (most_slots * n) counts
          (close_naming (close_inode s m d steady n g.inodes on_desk) y.0 (λ w. y.1 (sym (close_kind s m d steady n g.inodes on_desk) ∙ w))) (k (λ _. (y.0, y.2))))

      pub close_goes : (counts : List ℕ) → Tallied (image_naming t n) 1 (most_inodes + 1) (most_slots * n) counts → (map : List ℕ) → Mapped (world s m d) n map → Took (Ok Goes) (world s m d) n t p map counts
      close_goes counts x map k = (
        (λ j c. went_on s m d n h g (close (desk_of d).locked) is_close a t p closed_desk ((desk_of d).steps + 1) refl j c (steady_incomplete s t p close_steady n g.inodes)),
        record {
          inodes = g.inodes;
          steady = close_steady;
          mapped = subst (λ (v : World). Mapped v n map) (sym close_left) (map_ext (row_by (image_long s m d) m n) _ (most_blocks * n) map k (close_rows s m d steady n g.inodes on_desk));
          counted = λ _. x;
        },
      )

  -- ---- nothing is locked
  module _ (none : h.locked ≡ 0) (map counts : List ℕ) (kept : Kept (world s m d) n map counts) where
    none_desk : (desk_of d).locked ≡ 0
    none_desk = sym locked_same ∙ none

    pub free_names : Tallied (image_naming m n) 1 (most_inodes + 1) (most_slots * n) counts
    free_names = kept.counted (λ on. absurd (on none_desk))

    pub free_maps : Maps (is_long m) m n (most_blocks * n) map
    free_maps = maps_free m n (desk_of d).locked (is_long s (desk_of d).locked) none_desk map kept.mapped

    sized : Sized m n h.blocks
    sized = subst (λ (v : Desk). Sized m n v.blocks) (sym g.read) (steady_sized s m d steady n g.inodes)

    pub free_most : h.blocks ≤ most_image_blocks
    free_most = sized.blocks

    -- f is what is to be locked
    module _ (f : Option ℕ) (next : (m : List ℕ) → Tallied (image_naming m n) 1 (most_inodes + 1) (most_slots * n) counts → free_step m d n ≡ on_found f lock finish) where
      is_next : (x : Option ℕ) → f ≡ x → step_of s m d n ≡ on_found x lock finish
      is_next x w = step_free s m d n h g.read none ∙ next m free_names ∙ ap (λ (y : Option ℕ). on_found y lock finish) w

      -- 5
      pub finish_ends : f ≡ None → (a : Told) (t p : List ℕ) → ((s : List ℕ) → tells a s t p ≡ do_step s m d n finish) → (k c : ℕ) → burst_from (suc k) c (world s m d) ≡ left (Ok (suc c)) s t p
      finish_ends w a t p did k c =
          went_last s m d n h g finish (is_next None w) a t p (did s) ((desk_of d).steps + 1) refl k c
          (ap (λ (o : Outcome). (header_of o.image).complete) (did s) ∙ (finished m n (desk_of d).blocks going_addressed.few going_addressed.area).complete)

      -- 1 and 2
      module _ (i : ℕ) (w : f ≡ Some i) where
        range : (1 ≤ i) × (i ≤ n)
        range = lock_range (chosen s m d n (some s m d steady n g.inodes)) i (is_next (Some i) w)

        fits_is : image_fits s m (step_desk d (lock i)) ≡ further_right_of (is_long s i) m n h.blocks i
        fits_is = lock_fits s m d steady n g.inodes none_desk i range.0 range.1 ∙ ap (λ (v : Desk). further_right_of (is_long s i) m n v.blocks i) (sym g.read)

        held_left : (desk_of (step_desk d (lock i))).locked ≡ i
        held_left = lock_read s m d steady n g.inodes none_desk i range.0 range.1

        -- what the look at its addresses asks for
        pub lock_asks : InodeFits s n i × Sized m n h.blocks × (address_block m n i ≤ h.blocks) × (further_right_of (is_long s i) m n h.blocks i ≡ true → RowsFit (long_but m i (is_long s i)) m n)
        lock_asks = (
          record { low = range.0; high = range.1; few = going_addressed.few; area = going_area },
          sized,
          subst (λ (v : Desk). address_block m n i ≤ v.blocks) (sym g.read) (steady_address s m d steady n g.inodes i address_place range.0 range.1 (omega arith)),
          (λ y. subst (λ (x : ℕ). RowsFit (long_but m x (is_long s x)) m n) held_left (steady_rows s m (step_desk d (lock i)) (lock_stays s m d steady n g.inodes none_desk i range.0 range.1 (fits_is ∙ y)) n g.inodes)),
        )

        pub lock_few : i < 65536
        lock_few = let l = range.1 in let k = going_addressed.few in omega arith

        -- it was locked: r is what the look found
        module _ (a : Answer) (p : List ℕ) (x : a ≡ Ok ((desk_of d).steps + 1)) (y : p ≡ step_desk d (lock i)) (r : Bool) (v : r ≡ further_right_of (is_long s i) m n h.blocks i) where
          incomplete : (header_of m).complete ≡ not_complete
          incomplete = steady_incomplete s m d steady n g.inodes

          locked : left a s m p ≡ do_step s m d n (lock i)
          locked = does_lock s m d n (lock i) i refl a p x y

          -- the next step would get 3
          pub lock_ends : r ≡ false → (k c : ℕ) → burst_from (suc k) c (world s m d) ≡ left (Ok (suc c)) s m p
          lock_ends e k c =
              went_final s m d n h g (lock i) (is_next (Some i) w) (told a) m p locked ((desk_of d).steps + 1) refl k c incomplete BadDesk
              (subst (λ (q : List ℕ). step s m q ≡ refuse BadDesk s m q) (sym y) (lock_unfit s m d steady n g.inodes none_desk i range.0 range.1 (fits_is ∙ sym v ∙ e)))

          pub lock_goes : r ≡ true → (new : List ℕ) → Maps (long_but m i (is_long s i)) m n (most_blocks * n) new → Took (Ok Goes) (world s m d) n m p new counts
          lock_goes e new k = (
            (λ j c. went_on s m d n h g (lock i) (is_next (Some i) w) (told a) m p locked ((desk_of d).steps + 1) refl j c incomplete),
            subst (λ (q : List ℕ). Kept (world s m q) n new counts) (sym y) (record {
              inodes = g.inodes;
              steady = lock_stays s m d steady n g.inodes none_desk i range.0 range.1 (fits_is ∙ sym v ∙ e);
              mapped = subst (λ (q : ℕ). Maps (long_but m q (is_long s q)) m n (most_blocks * n) new) (sym held_left) k;
              counted = λ _. free_names;
            }),
          )
