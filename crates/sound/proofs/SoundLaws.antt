-- The tests decide the records of conditions, on any bytes. n and b are the counts of inodes and blocks.
use Prim.Native.Nat.{ℕ, ◌*◌, ◌%◌, ◌≤◌, ◌<◌}
use mathlib.Core.Path.{◌≡◌, refl, sym, ap, ◌∙◌, subst}
use mathlib.Core.Bool.{Bool, true, false, ◌&&◌}
use mathlib.Core.List.{List}
use native.Mathlib.Omega.{arith}
use borrow.Author.Tests.{eq-eqb, ne_eqb}
use lib.Dec.{eqb}
use lib.ListN.{length, get_or}
use Rattle.bounded.specs.Search.{pick}
use Rattle.bounded.specs.Count.{tally, count_to}
use Rattle.bounded.specs.Climb.{Leads, Closed}
use Rattle.bounded.specs.Reflect.{Reflects}
use Rattle.bounded.proofs.CountLaws.{met_at}
use Rattle.bounded.proofs.ReflectLaws.{r_eq, r_le, r_lt, r_true, r_false, r_and, r_then, r_not, r_where, r_imp, r_else, r_all, r_to, r_differ, r_leads, r_says}
use Rattle.layout.specs.Sizes.{most_file_bytes, most_directory_bytes, most_blocks, block_bytes, root_inode}
use Rattle.layout.specs.Header.{header_of, header_rest_zero}
use Rattle.layout.specs.Inode.{kind_of, spare_of, links_of, size_of, parent_of, free_kind, file_kind, directory_kind, inode_free}
use Rattle.blocks.specs.Block.{block_of, blocks_used, kth_block, row_of}
use Rattle.blocks.proofs.AllowedLaws.{allowed_is}
use Rattle.blocks.specs.Free.{block_free}
use Rattle.names.specs.Entry.{legal_entry}
use Rattle.directory.specs.Slot.{most_slots}
use Rattle.sound.specs.Place.{IsDir, dir_of, slot_of, is_slot, entry_at, filled, naming}
use Rattle.sound.specs.Inode.{InodeSound, most_bytes, tail_byte}
use Rattle.sound.specs.Entry.{EntrySound, same_names, sibling}
use Rattle.sound.specs.Link.{LinkSound}
use Rattle.sound.specs.Sound.{inodes_in, blocks_in, Framed, Sound, limit_of, blank_of}
use Rattle.sound.specs.declared.Form.{Form}
use Rattle.sound.proofs.PlaceLaws.{slot_is, naming_slot, naming_filled}
use Rattle.sound.specs.Test.{attributes_b, addresses_b, zero_tail_b, inode_b, naming_b, new_name_b, entry_b, counted_b, lead_b, framed_b, header_b, free_counts_b, blank_block_b, blanks_b, body_b, is_sound}

pub framed : (f : Form) (s : List ℕ) → Reflects (framed_b f s) (Framed f s)
unfolding framed_b
framed f s = allowed_is (limit_of f) (inodes_in s) (blocks_in s) (length s)

-- ---- the limit of a kind k is a directory's or a file's, and no directory may be larger than a file
module _ (k : ℕ) where
  pub most_directory : k ≡ directory_kind → most_bytes k ≡ most_directory_bytes
  most_directory e = rw (eq-eqb k directory_kind e) refl

  pub most_file : k ≡ file_kind → most_bytes k ≡ most_file_bytes
  most_file e = rw (ne_eqb k directory_kind (λ z. omega arith)) refl

  most_between : (most_directory_bytes ≤ most_bytes k) × (most_bytes k ≤ most_file_bytes)
  most_between = go (eqb k directory_kind)
    where
      go : (b : Bool) → (most_directory_bytes ≤ pick b most_directory_bytes most_file_bytes) × (pick b most_directory_bytes most_file_bytes ≤ most_file_bytes)
      go true = (omega arith, omega arith)
      go false = (omega arith, omega arith)

  pub most_any : (z : ℕ) → z ≤ most_bytes k → z ≤ most_file_bytes
  most_any z l = omega (arith, most_between.1)

  -- what a directory may have, any inode may
  pub any_most : (z : ℕ) → z ≤ most_directory_bytes → z ≤ most_bytes k
  any_most z l = omega (arith, most_between.0)

-- ---- an inode by itself
module _ (s : List ℕ) (i : ℕ) where
  abbrev Free : Type 0
  Free = kind_of s i ≡ free_kind → (links_of s i ≡ 0) × ((size_of s i ≡ 0) × (parent_of s i ≡ 0))

  abbrev Attributes : Type 0
  Attributes =
      (kind_of s i ≤ directory_kind)
      × ((spare_of s i ≡ 0)
      × (Free
      × ((size_of s i ≤ most_bytes (kind_of s i))
      × ((kind_of s i ≡ directory_kind → size_of s i % block_bytes ≡ 0)
      × (kind_of s i ≡ file_kind → parent_of s i ≡ 0)))))

  pub attributes : Reflects (attributes_b s i) Attributes
  unfolding attributes_b
  attributes =
      r_and (r_le (kind_of s i) directory_kind)
      (r_and (r_eq (spare_of s i) 0)
      (r_and (r_imp (r_eq (kind_of s i) free_kind) (r_and (r_eq (links_of s i) 0) (r_and (r_eq (size_of s i) 0) (r_eq (parent_of s i) 0))))
      (r_and (r_le (size_of s i) (most_bytes (kind_of s i)))
      (r_and (r_imp (r_eq (kind_of s i) directory_kind) (r_eq (size_of s i % block_bytes) 0))
      (r_imp (r_eq (kind_of s i) file_kind) (r_eq (parent_of s i) 0))))))

module _ (s : List ℕ) (n b i : ℕ) where
  abbrev Address : ℕ → Type 0
  Address k =
      (k < blocks_used (size_of s i) → (1 ≤ kth_block s n i k) × (kth_block s n i k ≤ b))
      × (blocks_used (size_of s i) ≤ k → kth_block s n i k ≡ 0)

  addresses : Reflects (addresses_b s n b i) ((k : ℕ) → k < most_blocks → Address k)
  unfolding addresses_b
  addresses =
      r_all most_blocks
      (λ k.
      r_and (r_imp (r_lt k (blocks_used (size_of s i))) (r_and (r_le 1 (kth_block s n i k)) (r_le (kth_block s n i k) b)))
      (r_imp (r_le (blocks_used (size_of s i)) k) (r_eq (kth_block s n i k) 0)))

  abbrev ZeroTail : Type 0
  ZeroTail = kind_of s i ≡ file_kind → (size_of s i % block_bytes ≡ 0 → ⊥) → (o : ℕ) → o < block_bytes → size_of s i % block_bytes ≤ o → tail_byte s n i o ≡ 0

  zero_tail : Reflects (zero_tail_b s n i) ZeroTail
  unfolding zero_tail_b
  zero_tail =
      r_imp (r_eq (kind_of s i) file_kind)
      (r_else (r_eq (size_of s i % block_bytes) 0)
      (r_all block_bytes (λ o. r_imp (r_le (size_of s i % block_bytes) o) (r_eq (tail_byte s n i o) 0))))

  pub inode_sound : Reflects (inode_b s n b i) (InodeSound s n b i)
  unfolding inode_b
  inode_sound =
      r_says
      (λ p. record {
        kind = p.0.0;
        spare = p.0.1.0;
        free = p.0.1.1.0;
        size = p.0.1.1.1.0;
        used = λ k l. (p.1.0 k l).0;
        rest = λ k l. (p.1.0 k l).1;
        directory = p.0.1.1.1.1.0;
        tail = p.1.1;
        parent = p.0.1.1.1.1.1;
      })
      (λ r. ((r.kind, (r.spare, (r.free, (r.size, (r.directory, r.parent))))), ((λ k l. (r.used k l, r.rest k l)), r.tail)))
      (r_and (attributes s i) (r_and addresses zero_tail))

module _ {s : List ℕ} {n b i : ℕ} (h : InodeSound s n b i) where
  pub size_most : size_of s i ≤ most_file_bytes
  size_most = most_any (kind_of s i) (size_of s i) h.size

  pub size_directory : kind_of s i ≡ directory_kind → size_of s i ≤ most_directory_bytes
  size_directory e = subst (λ (m : ℕ). size_of s i ≤ m) (most_directory (kind_of s i) e) h.size

-- ---- an entry
module _ (s : List ℕ) (n p : ℕ) where
  abbrev Names : Type 0
  Names =
      (legal_entry (entry_at s n p) ≡ true)
      × ((1 ≤ naming s n p)
      × ((naming s n p ≤ n)
      × ((kind_of s (naming s n p) ≡ free_kind → ⊥)
      × ((naming s n p ≡ root_inode → ⊥)
      × (kind_of s (naming s n p) ≡ directory_kind → parent_of s (naming s n p) ≡ dir_of p)))))

  names : Reflects (naming_b s n p) Names
  unfolding naming_b
  names =
      r_and (r_true (legal_entry (entry_at s n p)))
      (r_and (r_le 1 (naming s n p))
      (r_and (r_le (naming s n p) n)
      (r_and (r_not (r_eq (kind_of s (naming s n p)) free_kind))
      (r_and (r_not (r_eq (naming s n p) root_inode))
      (r_imp (r_eq (kind_of s (naming s n p)) directory_kind) (r_eq (parent_of s (naming s n p)) (dir_of p)))))))

  new_name : Reflects (new_name_b s n p) ((t : ℕ) → t < slot_of p → filled s n (sibling p t) ≡ true → same_names s n (sibling p t) p ≡ false)
  unfolding new_name_b
  new_name = r_all (slot_of p) (λ t. r_imp (r_true (filled s n (sibling p t))) (r_false (same_names s n (sibling p t) p)))

  pub entry_sound : Reflects (entry_b s n p) (filled s n p ≡ true → EntrySound s n p)
  unfolding entry_b
  entry_sound =
      r_imp (r_true (filled s n p))
      (r_says
      (λ q. record {
        legal = q.0.0;
        differ = q.1;
        low = q.0.1.0;
        high = q.0.1.1.0;
        used = q.0.1.1.1.0;
        not_root = q.0.1.1.1.1.0;
        parent = q.0.1.1.1.1.1;
      })
      (λ r. ((r.legal, (r.low, (r.high, (r.used, (r.not_root, r.parent))))), r.differ))
      (r_and names new_name))

-- ---- what the entries say of each inode
module _ (s : List ℕ) (n : ℕ) where
  -- every entry is sound
  abbrev pub Entries : Type 0
  Entries = (p : ℕ) → p < most_slots * n → filled s n p ≡ true → EntrySound s n p

  -- the conditions on the link count of inode i
  pub record Counted (i : ℕ) : Type 0 where
    pub counted : links_of s i ≡ tally (naming s n) (most_slots * n) i
    pub named : (kind_of s i ≡ free_kind → ⊥) → (i ≡ root_inode → ⊥) → 1 ≤ links_of s i
    pub one : kind_of s i ≡ directory_kind → (i ≡ root_inode → ⊥) → links_of s i ≡ 1

  abbrev pub AllCounted : Type 0
  AllCounted = (i : ℕ) → 1 ≤ i → i ≤ n → Counted i

  pub counted_is : (i : ℕ) → Reflects (counted_b s n i) (Counted i)
  unfolding counted_b
  counted_is i =
      r_says (λ p. record { counted = p.0; named = p.1.0; one = p.1.1 }) (λ r. (r.counted, (r.named, r.one)))
      (r_and (r_eq (links_of s i) (tally (naming s n) (most_slots * n) i))
      (r_and (r_else (r_eq (kind_of s i) free_kind) (r_else (r_eq i root_inode) (r_le 1 (links_of s i))))
      (r_imp (r_eq (kind_of s i) directory_kind) (r_else (r_eq i root_inode) (r_eq (links_of s i) 1)))))

  -- d is a directory among the n inodes
  pub slot_dir : (p : ℕ) → p < most_slots * n → is_slot s p ≡ true → IsDir s n (dir_of p)
  slot_dir p l e = record { low = omega arith; high = omega arith; kind = ((slot_is s p).to e).0 }

  -- the entry of the directory i stands at p, in its parent
  pub record InParent (i p : ℕ) : Type 0 where
    pub below : p < most_slots * n
    pub names : naming s n p ≡ i
    pub parent : dir_of p ≡ parent_of s i
    pub above : IsDir s n (parent_of s i)

  pub in_parent : Entries → AllCounted → (i : ℕ) → IsDir s n i → (i ≡ root_inode → ⊥) → (p : ℕ) × InParent i p
  in_parent entries counts i d h =
      let c = counts i d.low d.high in
      let o = c.one d.kind h in
      let r = met_at (naming s n) (most_slots * n) i (omega (arith, c.counted)) in
      let p = r.0 in
      let l : p < most_slots * n = r.1 in
      let e : naming s n p ≡ i = r.2 in
      let g : 1 ≤ naming s n p = omega (arith, d.low) in
      let k : kind_of s (naming s n p) ≡ directory_kind = ap (kind_of s) e ∙ d.kind in
      let u : dir_of p ≡ parent_of s i = sym ((entries p l (naming_filled s n p g)).parent k) ∙ ap (parent_of s) e in
      (p, record { below = l; names = e; parent = u; above = subst (IsDir s n) u (slot_dir p l (naming_slot s n p g)) })

  -- so from directory to parent the climb stays among the inodes
  pub climbs : Entries → AllCounted → Closed (IsDir s n) (parent_of s) root_inode n
  climbs entries counts = record { within = λ x d. (d.low, d.high); parent = λ x d h. (in_parent entries counts x d h).1.above }

  pub leads_is : Entries → AllCounted → (i : ℕ) → 1 ≤ i → i ≤ n → Reflects (lead_b s n i) (kind_of s i ≡ directory_kind → Leads (parent_of s) root_inode i)
  unfolding lead_b
  leads_is entries counts i l m =
      r_where (r_eq (kind_of s i) directory_kind)
      (λ k. r_leads (IsDir s n) (parent_of s) root_inode n i (climbs entries counts) (record { low = l; high = m; kind = k }))

  links_of_lem : (i : ℕ) → Counted i → (kind_of s i ≡ directory_kind → Leads (parent_of s) root_inode i) → LinkSound s n i
  links_of_lem i c l = record { counted = c.counted; named = c.named; one = c.one; leads = l }

  counted_of : (i : ℕ) → LinkSound s n i → Counted i
  counted_of i r = record { counted = r.counted; named = r.named; one = r.one }

  pub link_sound : Entries → AllCounted → (i : ℕ) → 1 ≤ i → i ≤ n → Reflects (counted_b s n i && lead_b s n i) (LinkSound s n i)
  link_sound entries counts i l m =
      r_says (λ p. links_of_lem i p.0 p.1) (λ r. (counted_of i r, r.leads)) (r_and (counted_is i) (leads_is entries counts i l m))

-- ---- the whole
module _ (s : List ℕ) where
  header_is : Reflects (header_b s) (((header_of s).complete ≡ 1) × (((header_of s).root ≡ root_inode) × ((header_rest_zero s ≡ true) × ((kind_of s root_inode ≡ directory_kind) × (parent_of s root_inode ≡ 0)))))
  unfolding header_b
  header_is =
      r_and (r_eq (header_of s).complete 1)
      (r_and (r_eq (header_of s).root root_inode)
      (r_and (r_true (header_rest_zero s)) (r_and (r_eq (kind_of s root_inode) directory_kind) (r_eq (parent_of s root_inode) 0))))

  free_counts_is : Reflects (free_counts_b s) (((header_of s).free_inodes ≡ count_to (inode_free s) (inodes_in s)) × ((header_of s).free_blocks ≡ count_to (block_free s (inodes_in s)) (blocks_in s)))
  unfolding free_counts_b
  free_counts_is =
      r_and (r_eq (header_of s).free_inodes (count_to (inode_free s) (inodes_in s)))
      (r_eq (header_of s).free_blocks (count_to (block_free s (inodes_in s)) (blocks_in s)))

  zero_block_is : (c : ℕ) → Reflects (blank_block_b s (inodes_in s) c) ((o : ℕ) → o < block_bytes → get_or (block_of s (inodes_in s) c) o 0 ≡ 0)
  unfolding blank_block_b
  zero_block_is c = r_all block_bytes (λ o. r_eq (get_or (block_of s (inodes_in s) c) o 0) 0)

  blanks_is : (f : Form) → Reflects (blanks_b f s) (blank_of f ≡ true → (c : ℕ) → 1 ≤ c → c ≤ blocks_in s → block_free s (inodes_in s) c ≡ true → (o : ℕ) → o < block_bytes → get_or (block_of s (inodes_in s) c) o 0 ≡ 0)
  unfolding blanks_b
  blanks_is f =
      r_imp (r_true (blank_of f)) (r_to (blocks_in s) (λ c l m. r_imp (r_true (block_free s (inodes_in s) c)) (zero_block_is c)))

pub all_counted : {f : Form} {s : List ℕ} → Sound f s → AllCounted s (inodes_in s)
all_counted {s = s} h i l m = counted_of s (inodes_in s) i (h.links i l m)

-- of a store whose length is right
pub body : (f : Form) (s : List ℕ) → Framed f s → Reflects (body_b f s) (Sound f s)
unfolding body_b
body f s framed =
    r_says
    (λ p. record {
      framed = framed;
      complete = p.0.0;
      root_number = p.0.1.0;
      reserved = p.0.1.1.0;
      inodes = p.1.0;
      once = p.1.1.0;
      root = p.0.1.1.1.0;
      root_parent = p.0.1.1.1.1;
      entries = p.1.1.1.0;
      links = λ i l m. links_of_lem s (inodes_in s) i (p.1.1.1.1.0 i l m) (p.1.1.1.1.1.0 i l m);
      free_inodes = p.1.1.1.1.1.1.0.0;
      free_blocks = p.1.1.1.1.1.1.0.1;
      blanks = p.1.1.1.1.1.1.1;
    })
    (λ r. ((r.complete, (r.root_number, (r.reserved, (r.root, r.root_parent)))), (r.inodes, (r.once, (r.entries, (all_counted r, ((λ i l m. (r.links i l m).leads), ((r.free_inodes, r.free_blocks), r.blanks))))))))
    (r_and (header_is s)
    (r_and (r_to (inodes_in s) (λ i l m. inode_sound s (inodes_in s) (blocks_in s) i))
    (r_and (r_differ (row_of s (inodes_in s)) (most_blocks * inodes_in s))
    (r_then (r_all (most_slots * inodes_in s) (entry_sound s (inodes_in s)))
    (λ e. r_then (r_to (inodes_in s) (λ i l m. counted_is s (inodes_in s) i))
    (λ c. r_and (r_to (inodes_in s) (leads_is s (inodes_in s) e c))
    (r_and (free_counts_is s) (blanks_is s f))))))))

pub is_sound_lem : (f : Form) (s : List ℕ) → Reflects (is_sound f s) (Sound f s)
unfolding is_sound
is_sound_lem f s = r_says (λ p. p.1) (λ r. (r.framed, r)) (r_then (framed f s) (body f s))
