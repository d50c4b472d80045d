-- While a copy runs, refusals 1, 2 and 3 do not come: buffers that lie as they must fit, and the steps stay below their bound. s is the store, m the image, d the desk.
use Prim.Native.Nat.{ℕ, ◌+◌, ◌*◌, ◌-◌, ◌≤◌, ◌<◌}
use mathlib.Core.Path.{◌≡◌, refl, ◌∙◌, subst}
use mathlib.Core.Logic.{◌≢◌, ◌⊎◌, inl, inr}
use mathlib.Core.Bool.{Bool, true, false}
use mathlib.Core.List.{List}
use native.Mathlib.Decide.{ℕ_discrete}
use native.Mathlib.Omega.{arith}
use borrow.Author.Tests.{eq-eqb}
use lib.ListN.{length}
use Rattle.bounded.specs.Search.{pick}
use Rattle.bounded.specs.Reflect.{Reflects}
use Rattle.bounded.proofs.BoolLaws.{clash}
use Rattle.bounded.proofs.ReflectLaws.{r_eq, r_le, r_true, r_not, r_and, r_or, r_all, r_imp}
use Rattle.layout.specs.Sizes.{most_inodes, most_image_blocks, address_count, root_inode, not_complete, most_blocks}
use Rattle.layout.specs.Header.{header_of}
use Rattle.layout.specs.Inode.{size_of}
use Rattle.blocks.specs.Block.{store_length, is_long, address_block, blocks_used, row_by}
use Rattle.blocks.proofs.KthLaws.{kth_direct}
use Rattle.ledger.proofs.BytesLaws.{used_limits}
use Rattle.ledger.proofs.TallyLaws.{ledger_bound}
use Rattle.desk.specs.Sizes.{desk_length, stopped, steps_an_inode}
use Rattle.desk.specs.Desk.{desk_of, copied_of, desk_rest_zero, is_copied}
use Rattle.sound.specs.Sound.{Sound, inodes_in}
use Rattle.sound.specs.declared.Form.TheVariants.{Store}
use Rattle.sound.proofs.SoundLaws.{framed, is_sound_lem, size_most}
use Rattle.preservation.proofs.StoreLaws.{sound_store, blocks_of_lem}
use Rattle.checkpoint.specs.Fit.{desk_framed, is_running, most_steps, blocks_fit, desk_fits, image_long, lacks_addresses, image_fits, notes_fit}
use Rattle.checkpoint.specs.List.{Ready}
use Rattle.checkpoint.proofs.Copy.Laid.{Laid, cost}
use Rattle.checkpoint.proofs.Copy.LedgerLaws.{laid_ledger}
use Rattle.bounded.proofs.SumLaws.{sum_most, sum_spare}
use Rattle.desk.proofs.DeskLaws.{desk_allowed_lem}
use Rattle.checkpoint.proofs.Step.LockLaws.{free_cost, locked_cost}

-- ---- the tests and what they say
pub desk_framed_is : (d : List ℕ) → Reflects (desk_framed d) ((1 ≤ (desk_of d).inodes) × (((desk_of d).inodes ≤ most_inodes) × (length d ≡ desk_length (desk_of d).inodes)))
unfolding desk_framed
desk_framed_is d = desk_allowed_lem (desk_of d).inodes (length d)

pub desk_fits_is : (d : List ℕ) → Reflects (desk_fits d)
    (((desk_of d).state ≤ stopped)
    × ((blocks_fit d ≡ true)
    × ((desk_rest_zero d ≡ true)
    × (((k : ℕ) → k < (desk_of d).inodes → copied_of d (k + 1) ≤ 1)
    × (((desk_of d).locked ≤ (desk_of d).inodes)
    × (((desk_of d).transferred ≤ most_blocks)
    × (((is_running d ≡ true) ⊎ (((desk_of d).locked ≡ 0) × ((desk_of d).transferred ≡ 0)))
    × ((desk_of d).steps ≤ most_steps d))))))))
unfolding desk_fits
desk_fits_is d =
    r_and (r_le (desk_of d).state stopped)
    (r_and (r_true (blocks_fit d))
    (r_and (r_true (desk_rest_zero d))
    (r_and (r_all (desk_of d).inodes (λ k. r_le (copied_of d (k + 1)) 1))
    (r_and (r_le (desk_of d).locked (desk_of d).inodes)
    (r_and (r_le (desk_of d).transferred most_blocks)
    (r_and (r_or (r_true (is_running d)) (r_and (r_eq (desk_of d).locked 0) (r_eq (desk_of d).transferred 0)))
    (r_le (desk_of d).steps (most_steps d))))))))

-- "fields 6-9 not zero unless running"
pub idle_free : (d : List ℕ) → desk_fits d ≡ true → is_running d ≡ false → ((desk_of d).locked ≡ 0) × ((desk_of d).transferred ≡ 0)
idle_free d fits idle = go ((desk_fits_is d).to fits).1.1.1.1.1.1.0
  where
    go : (is_running d ≡ true) ⊎ (((desk_of d).locked ≡ 0) × ((desk_of d).transferred ≡ 0)) → ((desk_of d).locked ≡ 0) × ((desk_of d).transferred ≡ 0)
    go (inl t) = absurd (clash (is_running d) t idle)
    go (inr z) = z

pub image_fits_is : (s m d : List ℕ) → Reflects (image_fits s m d)
    ((length m ≡ store_length (desk_of d).inodes (desk_of d).blocks)
    × (((header_of m).inodes ≡ (desk_of d).inodes)
    × (((header_of m).blocks ≡ (desk_of d).blocks)
    × (((header_of m).root ≡ root_inode)
    × (((header_of m).complete ≡ not_complete)
    × (((x : ℕ) → x < most_blocks * (desk_of d).inodes → row_by (image_long s m d) m (desk_of d).inodes x ≤ (desk_of d).blocks)
    × (lacks_addresses s m d ≡ true → ⊥)))))))
unfolding image_fits
image_fits_is s m d =
    r_and (r_eq (length m) (store_length (desk_of d).inodes (desk_of d).blocks))
    (r_and (r_eq (header_of m).inodes (desk_of d).inodes)
    (r_and (r_eq (header_of m).blocks (desk_of d).blocks)
    (r_and (r_eq (header_of m).root root_inode)
    (r_and (r_eq (header_of m).complete not_complete)
    (r_and (r_all (most_blocks * (desk_of d).inodes) (λ x. r_le (row_by (image_long s m d) m (desk_of d).inodes x) (desk_of d).blocks))
    (r_not (r_true (lacks_addresses s m d))))))))

pub lacks_is : (s m d : List ℕ) → Reflects (lacks_addresses s m d)
    (((desk_of d).locked ≢ 0) × ((is_long s (desk_of d).locked ≡ true) × ((address_count ≤ (desk_of d).transferred) × (address_block m (desk_of d).inodes (desk_of d).locked ≡ 0))))
unfolding lacks_addresses
lacks_is s m d =
    r_and (r_not (r_eq (desk_of d).locked 0))
    (r_and (r_true (is_long s (desk_of d).locked))
    (r_and (r_le address_count (desk_of d).transferred) (r_eq (address_block m (desk_of d).inodes (desk_of d).locked) 0)))

pub notes_fit_is : (s m d : List ℕ) → Reflects (notes_fit s m d) ((desk_fits d ≡ true) × (((desk_of d).inodes ≡ inodes_in s) × (is_running d ≡ true → image_fits s m d ≡ true)))
unfolding notes_fit
notes_fit_is s m d = r_and (r_true (desk_fits d)) (r_and (r_eq (desk_of d).inodes (inodes_in s)) (r_imp (r_true (is_running d)) (r_true (image_fits s m d))))

module _ {n b : ℕ} {s m d : List ℕ} (h : Laid n b s m d) where
  -- ---- the image
  -- the locked inode has its address block in time
  laid_addresses : lacks_addresses s m d ≡ true → ⊥
  laid_addresses e =
      let r = (lacks_is s m d).to e in
      let o = ((h.opened r.0).named 11 (omega arith) (let z = r.1.1.0 in omega arith)).0 in
      let a = kth_direct (is_long s (desk_of d).locked) m n (desk_of d).locked 11 (omega arith) in
      let c = subst (λ (x : ℕ). address_block m x (desk_of d).locked ≡ 0) h.desk.inodes r.1.1.1 in
      omega arith

  pub laid_running : is_running d ≡ true
  unfolding is_running
  laid_running = eq-eqb (desk_of d).state 1 h.desk.state

  laid_image : image_fits s m d ≡ true
  laid_image =
      let f = h.frame in
      let i = h.desk.inodes in
      let k = h.desk.blocks in
      (image_fits_is s m d).from (rw (i, k) (f.long, (f.inodes, (f.blocks, (f.root, (f.complete, (ledger_bound (laid_ledger h), laid_addresses)))))))

  -- ---- the steps
  -- a copied inode is not the locked one
  copied_other : (i : ℕ) → 1 ≤ i → is_copied d n i ≡ true → i ≢ (desk_of d).locked
  copied_other i l c e = clash (is_copied d n i) c (rw e (h.opened (λ z. omega arith)).new)

  cost_most : (j : ℕ) → j < n → cost m d n j ≤ steps_an_inode
  unfolding cost
  cost_most j l = go (is_copied d n (j + 1)) refl
    where
      go : (c : Bool) → is_copied d n (j + 1) ≡ c → pick c (2 + blocks_used (size_of m (j + 1))) 0 ≤ 46
      go true c =
          let z = size_most (h.inodes (j + 1) (omega arith) (omega arith) (copied_other (j + 1) (omega arith) c)) in
          let u : blocks_used (size_of m (j + 1)) ≤ 44 = (used_limits (size_of m (j + 1))).0 z in
          omega arith
      go false c = omega arith

  cost_none : (j : ℕ) → is_copied d n (j + 1) ≡ false → cost m d n j ≡ 0
  unfolding cost
  cost_none j e = rw e

  module _ (sound : Sound Store s) (e : n ≡ inodes_in s) where
    -- "more than 44 blocks copied" never
    pub laid_copied : (desk_of d).transferred ≤ most_blocks
    laid_copied = go (ℕ_discrete (desk_of d).locked 0)
      where
        go : Dec ((desk_of d).locked ≡ 0) → (desk_of d).transferred ≤ 44
        go (yes z) = let c = h.desk.none z in omega arith
        go (no z) =
            let o = (h.opened z).few in
            let w = (blocks_of_lem (sound_store sound e) (desk_of d).locked (omega arith) h.desk.high).few in
            omega arith

    -- "steps .. above 46 × N if running" never
    pub laid_steps : (desk_of d).steps ≤ steps_an_inode * n
    laid_steps = go (ℕ_discrete (desk_of d).locked 0)
      where
        go : Dec ((desk_of d).locked ≡ 0) → (desk_of d).steps ≤ 46 * n
        go (yes z) =
            let a = h.steps in
            let c = free_cost d z in
            let r = sum_most (cost m d n) 46 n cost_most in
            omega arith
        go (no z) =
            let a = h.steps in
            let c = locked_cost d z in
            let k = laid_copied in
            let u = h.desk.high in
            let i : (desk_of d).locked - 1 + 1 ≡ (desk_of d).locked = omega arith in
            let v = cost_none ((desk_of d).locked - 1) (rw i (h.opened z).new) in
            let r = sum_spare (cost m d n) 46 (1 + (desk_of d).transferred) ((desk_of d).locked - 1) n cost_most (omega arith) (omega arith) in
            omega arith

    -- ---- the desk
    laid_blocks : blocks_fit d ≡ true
    unfolding blocks_fit
    laid_blocks =
        let f = h.frame in
        rw (h.desk.state, h.desk.blocks) ((r_and (r_le 1 b) (r_le b most_image_blocks)).from (f.some_blocks, f.most_blocks_lem))

    laid_most : (desk_of d).steps ≤ most_steps d
    laid_most = let r = laid_steps in rw (laid_running, h.desk.inodes) r

    laid_desk : desk_fits d ≡ true
    laid_desk =
        let w = h.desk in
        let a = w.state in
        let i = w.inodes in
        let k = w.high in
        (desk_fits_is d).from
        (omega arith, (laid_blocks, (w.reserved, ((λ j l. w.bytes (j + 1) (omega arith) (omega arith)), (omega arith, (laid_copied, (inl laid_running, laid_most)))))))

    pub laid_notes : notes_fit s m d ≡ true
    laid_notes = (notes_fit_is s m d).from (laid_desk, (h.desk.inodes ∙ e, λ _. laid_image))

    pub laid_framed : desk_framed d ≡ true
    laid_framed =
        let f = h.frame in
        (desk_framed_is d).from (rw h.desk.inodes (f.some_inodes, (f.most_inodes_lem, h.desk.long)))

    pub laid_ready : Ready (record { store = s; image = m; desk = d })
    laid_ready = record {
      framed = (framed Store s).from sound.framed;
      sound = (is_sound_lem Store s).from sound;
      desk = laid_framed;
      notes = laid_notes;
    }
