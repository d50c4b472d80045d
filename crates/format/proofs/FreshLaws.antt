-- A store or a desk as it is laid out: what each reader gives, and that the store is sound.
use Rattle.std.specs.Prelude.{Err, Ok}
use Prim.Native.Nat.{ℕ, zero, suc, ◌+◌, ◌*◌, ◌-◌, ◌/◌, ◌%◌, ◌≤◌, ◌<◌}
use mathlib.Core.Path.{◌≡◌, refl, sym, ap, ◌∙◌}
use mathlib.Core.Bool.{Bool, true, false, not, true≢false}
use mathlib.Core.Logic.{◌≢◌}
use mathlib.Core.List.{List, ◌∷◌}
use native.Mathlib.Decide.{ℕ_discrete}
use native.Mathlib.Omega.{arith}
use borrow.Author.Tests.{eq-eqb, ne_eqb, le-ltb}
use lib.Dec.{eqb, ltb}
use lib.ListN.{length, get_or, replicate, length-replicate}
use Rattle.bounded.specs.Search.{pick}
use Rattle.bounded.specs.Count.{count, count_to}
use Rattle.bounded.specs.Climb.{climb, Leads}
use Rattle.bounded.proofs.BoolLaws.{and-true, and_false_r}
use Rattle.bounded.proofs.BelowLaws.{none_some}
use Rattle.bounded.proofs.CountLaws.{count_none, count_all, count_split, unmet}
use Rattle.octets.specs.Octets.{splice, Apart, num_at, to_bytes, word_bytes}
use Rattle.octets.proofs.PartLaws.{length_splice}
use Rattle.octets.proofs.NumLaws.{num_apart, num_in, zero_num, num_off}
use Rattle.octets.proofs.ZeroLaws.{byte_zeros, num_zeros, zero_over}
use Rattle.layout.specs.Sizes.{most_inodes, most_store_blocks, most_blocks, root_inode}
use Rattle.layout.specs.declared.header.Header.{Header}
use Rattle.layout.specs.Header.{header_of, put_header, put_free, put_complete, header_rest_zero}
use Rattle.layout.specs.Inode.{attributes_at, address_at, address_index, kind_of, spare_of, links_of, size_of, parent_of, address_of, attribute_entry, put_attributes, put_addresses, put_inode, free_kind, directory_kind, inode_free}
use Rattle.blocks.specs.Block.{store_length, is_long, blocks_used, kth_block, row_by, row_of, allowed}
use Rattle.blocks.specs.Free.{named_by, block_named, block_free}
use Rattle.blocks.proofs.FrameLaws.{length_header, length_inode, header_past}
use Rattle.blocks.proofs.ViewLaws.{header_put}
use Rattle.blocks.proofs.KthLaws.{bare_all}
use Rattle.directory.specs.Slot.{most_slots, slots}
use Rattle.sound.specs.Place.{dir_of, slot_of, is_slot, filled, naming}
use Rattle.sound.specs.Inode.{InodeSound}
use Rattle.sound.specs.Link.{LinkSound}
use Rattle.sound.specs.Sound.{inodes_in, blocks_in, Sound}
use Rattle.sound.specs.declared.Form.TheVariants.{Store}
use Rattle.desk.specs.Sizes.{desk_length, copied_at, marks_at, idle}
use Rattle.desk.specs.Desk.{desk_of, copied_of, marks_of}
use Rattle.desk.specs.Desk as desk
use Rattle.desk.proofs.DeskLaws.{length_put_desk, desk_put_desk, reserved_put_desk, copied_put_desk, marks_put_desk}
use Rattle.answers.specs.declared.Refusal.TheVariants.{BadBuffer}
use Rattle.answers.specs.Told.{Told, told}
use Rattle.format.specs.Format.{laid_out, fresh_header, empty_root, fresh_store, fresh_desk, lay_out_store}
use Rattle.blocks.proofs.AllowedLaws.{allowed_is}

-- beside the header's fields, a header changes nothing
beside : (s : List ℕ) (h : Header) (k o : ℕ) → Apart o k 0 9 → Apart o k 10 2 → num_at k (put_header s h) o ≡ num_at k s o
unfolding put_header put_free put_complete
beside s h k o a b =
    rw (
      num_off k 2 o 10 b,
      num_off k 1 o 8 (omega arith),
      num_off k 2 o 6 (omega arith),
      num_off k 2 o 4 (omega arith),
      num_off k 2 o 2 (omega arith),
      num_off k 2 o 0 (omega arith),
    )

-- ---- a fresh store
-- the root's attributes: its kind, and zeros
abbrev root_entry : List ℕ
root_entry = 2 ∷ replicate 7 0

root_byte : (j : ℕ) → 1 ≤ j → get_or root_entry j 0 ≡ 0
root_byte zero l = absurd (omega arith)
root_byte (suc j) l = byte_zeros 7 j

module _ (n b : ℕ) where
  -- the header over zeros, and then the root's attributes; its addresses come last
  abbrev headed : List ℕ
  headed = put_header (replicate (store_length n b) 0) (fresh_header n b)

  abbrev rooted : List ℕ
  rooted = splice headed 16 root_entry

  fresh_form : fresh_store n b ≡ splice rooted (address_at n 0) (replicate 24 0)
  unfolding fresh_store put_inode put_addresses put_attributes empty_root attribute_entry to_bytes word_bytes
  fresh_form = refl

  pub length_fresh : length (fresh_store n b) ≡ store_length n b
  unfolding fresh_store
  length_fresh = simp (length_inode, length_header, length-replicate)

  length_headed : length headed ≡ store_length n b
  length_headed = simp (length_header, length-replicate)

  byte_headed : (x : ℕ) → 16 ≤ x → get_or headed x 0 ≡ 0
  unfolding num_at
  byte_headed x l =
      beside (replicate (store_length n b) 0) (fresh_header n b) 1 x (omega arith) (omega arith) ∙ num_zeros 1 (store_length n b) x

  pub header_fresh : header_of (fresh_store n b) ≡ fresh_header n b
  header_fresh =
      let e = length-replicate {A = ℕ} (store_length n b) 0 in
      ap header_of fresh_form ∙ header_past rooted (address_at n 0) (replicate 24 0) (omega arith) ∙ header_past headed 16 root_entry (omega arith)
      ∙ header_put (replicate (store_length n b) 0) (omega arith) (fresh_header n b)

  pub inodes_fresh : inodes_in (fresh_store n b) ≡ n
  unfolding fresh_header
  inodes_fresh = ap (λ (h : Header). h.inodes) header_fresh

  pub blocks_fresh : blocks_in (fresh_store n b) ≡ b
  unfolding fresh_header
  blocks_fresh = ap (λ (h : Header). h.blocks) header_fresh

  -- a number in the header's reserved bytes
  reserved_number : (k o : ℕ) → Apart o k 0 9 → Apart o k 10 2 → o + k ≤ 16 → num_at k (fresh_store n b) o ≡ 0
  reserved_number k o a c l =
      ap (λ (s : List ℕ). num_at k s o) fresh_form
      ∙ num_apart k rooted o (address_at n 0) (replicate 24 0) (omega arith)
      ∙ num_apart k headed o 16 root_entry (omega arith)
      ∙ beside (replicate (store_length n b) 0) (fresh_header n b) k o a c
      ∙ num_zeros k (store_length n b) o

  pub reserved_fresh : header_rest_zero (fresh_store n b) ≡ true
  unfolding header_rest_zero
  reserved_fresh =
      and-true _ _ (eq-eqb _ 0 (reserved_number 1 9 (omega arith) (omega arith) (omega arith))) (eq-eqb _ 0 (reserved_number 4 12 (omega arith) (omega arith) (omega arith)))

module _ (n b : ℕ) (some : 1 ≤ n) where
  -- past the header, only the root's kind is not zero
  pub byte_fresh : (x : ℕ) → 17 ≤ x → get_or (fresh_store n b) x 0 ≡ 0
  byte_fresh x l =
      let e = length_headed n b in
      let f = length_splice (headed n b) 16 root_entry in
      ap (λ (s : List ℕ). get_or s x 0) (fresh_form n b)
      ∙ zero_over (rooted n b) (address_at n 0) (replicate 24 0) x (omega arith)
      (zero_over (headed n b) 16 root_entry x (omega arith) (byte_headed n b x (omega arith)) (λ j q. root_byte j (omega arith)))
      (λ j q. byte_zeros 24 j)

  number_fresh : (k o : ℕ) → 17 ≤ o → num_at k (fresh_store n b) o ≡ 0
  number_fresh k o l = zero_num k (fresh_store n b) o (λ j m. byte_fresh (o + j) (omega arith))

  pub kind_root : kind_of (fresh_store n b) root_inode ≡ directory_kind
  unfolding kind_of
  kind_root =
      let e = length_headed n b in
      ap (λ (s : List ℕ). num_at 1 s 16) (fresh_form n b)
      ∙ num_apart 1 (rooted n b) 16 (address_at n 0) (replicate 24 0) (omega arith)
      ∙ num_in 1 (headed n b) 16 root_entry 0 (omega arith) (omega arith)
      ∙ (unfold num_at in refl)

  pub kind_fresh : (i : ℕ) → 1 ≤ i → i ≢ root_inode → kind_of (fresh_store n b) i ≡ free_kind
  unfolding kind_of
  kind_fresh i l h = number_fresh 1 (attributes_at i) (omega arith)

  pub spare_fresh : (i : ℕ) → spare_of (fresh_store n b) i ≡ 0
  unfolding spare_of
  spare_fresh i = number_fresh 1 (attributes_at i + 1) (omega arith)

  pub links_fresh : (i : ℕ) → links_of (fresh_store n b) i ≡ 0
  unfolding links_of
  links_fresh i = number_fresh 2 (attributes_at i + 2) (omega arith)

  pub size_fresh : (i : ℕ) → size_of (fresh_store n b) i ≡ 0
  unfolding size_of
  size_fresh i = number_fresh 2 (attributes_at i + 4) (omega arith)

  pub parent_fresh : (i : ℕ) → parent_of (fresh_store n b) i ≡ 0
  unfolding parent_of
  parent_fresh i = number_fresh 2 (attributes_at i + 6) (omega arith)

  pub address_fresh : (x : ℕ) → address_of (fresh_store n b) n x ≡ 0
  unfolding address_of
  address_fresh x = number_fresh 2 (address_at n x) (omega arith)

  -- no inode has a block or a slot, and no entry stands anywhere
  used_fresh : (i : ℕ) → blocks_used (size_of (fresh_store n b) i) ≡ 0
  unfolding blocks_used
  used_fresh i = rw (size_fresh i)

  pub slots_fresh : (d : ℕ) → slots (fresh_store n b) d ≡ 0
  unfolding slots
  slots_fresh d = rw (used_fresh d)

  no_slot : (p : ℕ) → is_slot (fresh_store n b) p ≡ false
  unfolding is_slot
  no_slot p =
      let e = slots_fresh (dir_of p) in
      and_false_r (eqb (kind_of (fresh_store n b) (dir_of p)) directory_kind) (ltb (slot_of p) (slots (fresh_store n b) (dir_of p)))
      (le-ltb (slot_of p) (slots (fresh_store n b) (dir_of p)) (omega arith))

  pub naming_fresh : (p : ℕ) → naming (fresh_store n b) n p ≡ 0
  unfolding naming
  naming_fresh p = rw (no_slot p)

  pub filled_fresh : (p : ℕ) → filled (fresh_store n b) n p ≡ false
  unfolding filled
  filled_fresh p = rw (no_slot p)

  kth_fresh : (i k : ℕ) → k < most_blocks → kth_block (fresh_store n b) n i k ≡ 0
  kth_fresh i k l = bare_all (is_long (fresh_store n b) i) (fresh_store n b) n i (λ j m. address_fresh (address_index i 0 + j)) k l

  row_fresh : (x : ℕ) → row_of (fresh_store n b) n x ≡ 0
  unfolding row_by
  row_fresh x = kth_fresh (x / most_blocks + 1) (x % most_blocks) (omega arith)

  named_fresh : (c : ℕ) → 1 ≤ c → block_named (fresh_store n b) n c ≡ false
  unfolding named_by
  named_fresh c l =
      none_some (λ x. eqb (row_of (fresh_store n b) n x) c) (most_blocks * n) (λ x m. ne_eqb _ c (λ e. let z = row_fresh x in omega arith))

  -- ---- it is sound
  inode_fresh : (i : ℕ) → 1 ≤ i → InodeSound (fresh_store n b) n b i
  inode_fresh i l =
      let z = size_fresh i in
      let u = used_fresh i in
      record {
        kind = kind_most (ℕ_discrete i 1);
        spare = spare_fresh i;
        free = λ e. (links_fresh i, (z, parent_fresh i));
        size = omega arith;
        used = λ k m q. absurd (omega arith);
        rest = λ k m q. kth_fresh i k m;
        directory = λ e. omega arith;
        tail = λ e h. absurd (h (omega arith));
        parent = λ e. parent_fresh i;
      }
    where
      kind_most : Dec (i ≡ 1) → kind_of (fresh_store n b) i ≤ directory_kind
      kind_most (yes e) = rw e (omega (arith, kind_root))
      kind_most (no h) = omega (arith, kind_fresh i l h)

  link_fresh : (i : ℕ) → 1 ≤ i → LinkSound (fresh_store n b) n i
  link_fresh i l =
      record {
        counted = links_fresh i ∙ sym (unmet (naming (fresh_store n b) n) (most_slots * n) i (λ p m e. let z = naming_fresh p in omega arith));
        named = λ u h. absurd (u (kind_fresh i l h));
        one = λ e h. let z = kind_fresh i l h in absurd (omega arith);
        leads = λ e. lead e (ℕ_discrete i 1);
      }
    where
      lead : kind_of (fresh_store n b) i ≡ directory_kind → Dec (i ≡ 1) → Leads (parent_of (fresh_store n b)) root_inode i
      lead e (yes q) = (0, (unfold climb in q))
      lead e (no h) = let z = kind_fresh i l h in absurd (omega arith)

  free_fresh : count_to (inode_free (fresh_store n b)) n ≡ n - 1
  free_fresh =
      let p : ℕ → Bool = λ k. inode_free (fresh_store n b) (k + 1) in
      let e : n ≡ 1 + (n - 1) = omega arith in
      let z = kind_root in
      let a : count p 1 ≡ 0 = count_none p 1 (λ k l. let q : k + 1 ≡ 1 = omega arith in rw q (ne_eqb (kind_of (fresh_store n b) 1) 0 (λ x. omega arith))) in
      let c : count (λ k. p (1 + k)) (n - 1) ≡ n - 1 = count_all (λ k. p (1 + k)) (n - 1) (λ k l. eq-eqb _ 0 (kind_fresh (1 + k + 1) (omega arith) (λ x. omega arith))) in
      ap (count p) e ∙ count_split p 1 (n - 1) ∙ omega arith

  unnamed_fresh : count_to (block_free (fresh_store n b) n) b ≡ b
  unnamed_fresh = count_all (λ k. block_free (fresh_store n b) n (k + 1)) b (λ k l. ap not (named_fresh (k + 1) (omega arith)))

pub fresh_sound : (n b : ℕ) → 1 ≤ n → n ≤ most_inodes → 1 ≤ b → b ≤ most_store_blocks → Sound Store (fresh_store n b)
unfolding fresh_header
fresh_sound n b h i k l =
    let e = inodes_fresh n b in
    let f = blocks_fresh n b in
    let g = header_fresh n b in
    record {
      framed = record { some_inodes = omega arith; most_inodes_lem = omega arith; some_blocks = omega arith; most_blocks_lem = omega arith; long = rw (e, f) (length_fresh n b) };
      complete = ap (λ (x : Header). x.complete) g;
      root_number = ap (λ (x : Header). x.root) g;
      reserved = reserved_fresh n b;
      inodes = λ j p q. rw (e, f) (inode_fresh n b h j p);
      once = rw e (λ x y p q r s. let z = row_fresh n b h y in omega arith);
      root = kind_root n b h;
      root_parent = parent_fresh n b h root_inode;
      entries = rw e (λ p q r. absurd (true≢false (sym r ∙ filled_fresh n b h p)));
      links = λ j p q. rw e (link_fresh n b h j p);
      free_inodes = ap (λ (x : Header). x.free_inodes) g ∙ rw e (sym (free_fresh n b h));
      free_blocks = ap (λ (x : Header). x.free_blocks) g ∙ rw (e, f) (sym (unnamed_fresh n b h));
      blanks = λ z. absurd (true≢false (sym z));
    }

-- a store that the call laid out
pub laid_out_sound : (s : List ℕ) (n b : ℕ) → (lay_out_store s n b).answer ≡ told (Ok 0) → Sound Store (lay_out_store s n b).buffer
unfolding lay_out_store
laid_out_sound s n b e = go (allowed most_store_blocks n b (length s)) refl e
  where
    go : (t : Bool) → allowed most_store_blocks n b (length s) ≡ t → (pick t (laid_out (Ok 0) (fresh_store n b)) (laid_out (Err BadBuffer) s)).answer ≡ told (Ok 0)
        → Sound Store (pick t (laid_out (Ok 0) (fresh_store n b)) (laid_out (Err BadBuffer) s)).buffer
    go true a r = let q = (allowed_is most_store_blocks n b (length s)).to a in fresh_sound n b q.some_inodes q.most_inodes_lem q.some_blocks q.most_blocks_lem
    go false a r = let z : ◌≡◌ {A = ℕ} 1 0 = ap (λ (x : Told). x.number) r in absurd (omega arith)

-- ---- a fresh desk
module _ (n : ℕ) where
  pub length_fresh_desk : length (fresh_desk n) ≡ desk_length n
  unfolding fresh_desk
  length_fresh_desk = simp (length_put_desk, length-replicate)

  pub desk_fresh : desk_of (fresh_desk n) ≡ record { inodes = n; blocks = 0; state = idle; locked = 0; transferred = 0; steps = 0 }
  unfolding fresh_desk
  desk_fresh =
      let e = length-replicate {A = ℕ} (desk_length n) 0 in
      desk_put_desk (replicate (desk_length n) 0) _ (omega arith)

  pub reserved_fresh_desk : desk.desk_rest_zero (fresh_desk n) ≡ true
  unfolding fresh_desk
  reserved_fresh_desk =
      reserved_put_desk (replicate (desk_length n) 0) _
      ∙ (unfold desk.desk_rest_zero in and-true _ _ (eq-eqb _ 0 (num_zeros 1 (desk_length n) 5)) (eq-eqb _ 0 (num_zeros 2 (desk_length n) 10)))

  pub copied_fresh : (i : ℕ) → copied_of (fresh_desk n) i ≡ 0
  unfolding fresh_desk
  copied_fresh i =
      copied_put_desk (replicate (desk_length n) 0) _ i ∙ (unfold copied_of in num_zeros 1 (desk_length n) (copied_at i))

  pub marks_fresh : (m i : ℕ) → marks_of (fresh_desk n) m i ≡ 0
  unfolding fresh_desk
  marks_fresh m i =
      marks_put_desk (replicate (desk_length n) 0) _ m i ∙ (unfold marks_of in num_zeros 8 (desk_length n) (marks_at m i))
