-- What of a sound store stays where inodes and blocks stay: each inode by itself, and the tree of entries and links. n and b are the counts of inodes and blocks.
use Prim.Native.Nat.{ℕ, ◌*◌, ◌/◌, ◌%◌, ◌≤◌, ◌<◌}
use mathlib.Core.Path.{◌≡◌, refl, sym, ap, ◌∙◌, subst}
use mathlib.Core.Logic.{◌≢◌}
use mathlib.Core.Bool.{Bool, true, false, ◌&&◌, true≢false}
use mathlib.Core.List.{List}
use native.Mathlib.Decide.{ℕ_discrete}
use native.Mathlib.Omega.{arith}
use borrow.Author.Tests.{ne_eqb}
use lib.Dec.{eqb, ltb}
use lib.ListN.{get_or}
use Rattle.bounded.specs.Count.{tally, Differ, count_to}
use Rattle.bounded.specs.Climb.{Closed}
use Rattle.bounded.proofs.BoolLaws.{clash, and_false_l}
use Rattle.bounded.proofs.CountLaws.{count_ext}
use Rattle.bounded.proofs.ClimbLaws.{leads_kept}
use Rattle.octets.specs.Octets.{part}
use Rattle.octets.proofs.PartLaws.{part_part}
use Rattle.layout.specs.Sizes.{most_blocks, most_file_bytes, block_bytes, root_inode}
use Rattle.ledger.proofs.BytesLaws.{place_used, used_limits}
use Rattle.layout.specs.Header.{header_of}
use Rattle.layout.specs.Inode.{kind_of, links_of, size_of, parent_of, free_kind, file_kind, directory_kind, inode_free}
use Rattle.blocks.specs.Block.{block_at, block_of, blocks_used, kth_block, bytes_place, bytes_block, row_of}
use Rattle.blocks.specs.Free.{block_free}
use Rattle.names.specs.Entry.{is_empty, legal_entry}
use Rattle.names.proofs.EntryLaws.{empty_inode_lem}
use Rattle.directory.specs.Slot.{most_slots, slots, slot_at, entry_of}
use Rattle.sound.specs.Inode.{InodeSound, tail_byte}
use Rattle.sound.specs.Entry.{EntrySound, same_names, sibling}
use Rattle.sound.specs.Link.{LinkSound}
use Rattle.sound.specs.Sound.{Framed, Sound, inodes_in, blocks_in}
use Rattle.sound.specs.Counted.{SoundStore}
use Rattle.sound.specs.Place.{dir_of, slot_of, is_slot, entry_at, filled, naming, IsDir}
use Rattle.sound.proofs.PlaceLaws.{slot_is, filled_is}
use Rattle.sound.proofs.SoundLaws.{size_most, climbs}
use Rattle.sound.specs.declared.Form.TheVariants.{Store}
use Rattle.preservation.proofs.SameLaws.{OtherInodes, SameFrame, SameInode, SameBody, SameBlock, same_body}
use Rattle.preservation.proofs.FreeLaws.{same_free}

-- ---- an inode by itself
-- "File bytes past the size in the last block are zero."
abbrev pub ZeroTail : List ℕ → ℕ → ℕ → Type 0
ZeroTail s n i = kind_of s i ≡ file_kind → (size_of s i % block_bytes ≡ 0 → ⊥) → (o : ℕ) → o < block_bytes → size_of s i % block_bytes ≤ o → tail_byte s n i o ≡ 0

-- its links and parent may change where they do not count
pub inode_like : (s t : List ℕ) (n b i : ℕ) → SameBody s t n i → (kind_of s i ≡ free_kind → (links_of t i ≡ links_of s i) × (parent_of t i ≡ parent_of s i)) → (kind_of s i ≡ file_kind → parent_of t i ≡ parent_of s i)
    → ZeroTail t n i → InodeSound s n b i → InodeSound t n b i
inode_like s t n b i e bare file g h =
    let z = e.size in
    let u : blocks_used (size_of t i) ≡ blocks_used (size_of s i) = ap blocks_used z in
    record {
      kind = rw e.kind h.kind;
      spare = e.spare ∙ h.spare;
      free = λ k. let k' = sym e.kind ∙ k in ((bare k').0 ∙ (h.free k').0, (z ∙ (h.free k').1.0, (bare k').1 ∙ (h.free k').1.1));
      size = rw (z, e.kind) h.size;
      used = λ k l w. let q = h.used k l (omega arith) in rw (e.blocks k l) q;
      rest = λ k l w. e.blocks k l ∙ h.rest k l (omega arith);
      directory = λ k. ap (λ (x : ℕ). x % block_bytes) z ∙ h.directory (sym e.kind ∙ k);
      tail = g;
      parent = λ k. let k' = sym e.kind ∙ k in file k' ∙ h.parent k';
    }

-- the block that a size ends in
tail_place : (z : ℕ) → z ≤ most_file_bytes → (z % block_bytes ≡ 0 → ⊥) → bytes_place z (z / block_bytes) < most_blocks
tail_place z l h = let u = place_used z (z / 64) (omega arith) in let w = (used_limits z).0 l in omega arith

-- the bytes of the block that its size ends in stay, where they count
pub tail_kept : (s t : List ℕ) (n b i : ℕ) → SameBody s t n i
    → (kind_of s i ≡ file_kind → (size_of s i % block_bytes ≡ 0 → ⊥) → SameBlock s t n (bytes_block s n i (size_of s i / block_bytes)))
    → InodeSound s n b i → ZeroTail t n i
tail_kept s t n b i e g h k q o l w =
    let z = e.size in
    let r : size_of t i % block_bytes ≡ size_of s i % block_bytes = ap (λ (x : ℕ). x % block_bytes) z in
    let m = size_most h in
    let k' = sym e.kind ∙ k in
    let q' : size_of s i % block_bytes ≡ 0 → ⊥ = λ x. q (r ∙ x) in
    let c : bytes_block t n i (size_of t i / block_bytes) ≡ bytes_block s n i (size_of s i / block_bytes) = ap (λ (x : ℕ). kth_block t n i (bytes_place x (x / block_bytes))) z ∙ e.blocks (bytes_place (size_of s i) (size_of s i / block_bytes)) (tail_place (size_of s i) (size_most h) q') in
    ap (λ (x : ℕ). get_or (block_of t n x) o 0) c ∙ ap (λ (x : List ℕ). get_or x o 0) (g k' q') ∙ h.tail k' q' o l (omega arith)

pub inode_kept : (s t : List ℕ) (n b i : ℕ) → SameInode s t n i
    → (kind_of s i ≡ file_kind → (size_of s i % block_bytes ≡ 0 → ⊥) → SameBlock s t n (bytes_block s n i (size_of s i / block_bytes)))
    → InodeSound s n b i → InodeSound t n b i
inode_kept s t n b i e g h = inode_like s t n b i (same_body e) (λ _. (e.links, e.parent)) (λ _. e.parent) (tail_kept s t n b i (same_body e) g h) h

-- ---- an entry, in a block of the same number and bytes
pub entry_in : (s : List ℕ) (n d u : ℕ) → entry_of s n d u ≡ part (block_of s n (kth_block s n d (u / 4))) (16 * (u % 4)) 16
unfolding entry_of slot_at block_of
entry_in s n d u = sym (part_part s (block_at n (kth_block s n d (u / 4))) 64 (16 * (u % 4)) 16 (omega arith))

pub entry_kept : (s t : List ℕ) (n d u : ℕ) → kth_block t n d (u / 4) ≡ kth_block s n d (u / 4) → SameBlock s t n (kth_block s n d (u / 4)) → entry_of t n d u ≡ entry_of s n d u
entry_kept s t n d u e g =
    entry_in t n d u ∙ ap (λ (c : ℕ). part (block_of t n c) (16 * (u % 4)) 16) e ∙ ap (λ (x : List ℕ). part x (16 * (u % 4)) 16) g ∙ sym (entry_in s n d u)

-- ---- a place: what stands there is the same
pub record SamePlace (s t : List ℕ) (n p : ℕ) : Type 0 where
  pub stands : filled t n p ≡ filled s n p
  pub names : naming t n p ≡ naming s n p
  pub entry : filled s n p ≡ true → entry_at t n p ≡ entry_at s n p

module _ (s t : List ℕ) (n p : ℕ) where
  -- a slot as before
  pub place_slot : is_slot t p ≡ is_slot s p → (is_slot s p ≡ true → entry_at t n p ≡ entry_at s n p) → SamePlace s t n p
  unfolding filled naming
  place_slot e f = go (is_slot s p) refl
    where
      go : (x : Bool) → is_slot s p ≡ x → SamePlace s t n p
      go true q = let g = f q in record { stands = rw (e, g); names = rw (e, g); entry = λ _. g }
      go false q = record { stands = rw (e, q); names = rw (e, q); entry = λ r. absurd (clash (is_slot s p) ((filled_is s n p).to r).0 q) }

  -- a new slot, empty
  pub place_new : is_slot s p ≡ false → is_slot t p ≡ true → is_empty (entry_at t n p) ≡ true → SamePlace s t n p
  unfolding filled naming
  place_new e f g = record {
    stands = rw (e, f, g);
    names = rw (e, f) (empty_inode_lem (entry_at t n p) g);
    entry = λ r. absurd (clash (is_slot s p) ((filled_is s n p).to r).0 e);
  }

-- of a directory whose slots are as many, or of no directory
pub slot_kept : (s t : List ℕ) (p : ℕ) → kind_of t (dir_of p) ≡ kind_of s (dir_of p) → (kind_of s (dir_of p) ≡ directory_kind → slots t (dir_of p) ≡ slots s (dir_of p)) → is_slot t p ≡ is_slot s p
unfolding is_slot
slot_kept s t p e f = rw e (go (ℕ_discrete (kind_of s (dir_of p)) directory_kind))
  where
    go : Dec (kind_of s (dir_of p) ≡ directory_kind) → eqb (kind_of s (dir_of p)) directory_kind && ltb (slot_of p) (slots t (dir_of p)) ≡ eqb (kind_of s (dir_of p)) directory_kind && ltb (slot_of p) (slots s (dir_of p))
    go (yes q) = ap (λ (x : ℕ). eqb (kind_of s (dir_of p)) directory_kind && ltb (slot_of p) x) (f q)
    go (no q) = and_false_l _ _ (ne_eqb (kind_of s (dir_of p)) directory_kind q) ∙ sym (and_false_l _ _ (ne_eqb (kind_of s (dir_of p)) directory_kind q))

pub same_slots : {s t : List ℕ} {n d : ℕ} → SameInode s t n d → slots t d ≡ slots s d
unfolding slots
same_slots e = rw e.size

-- of a directory that stays, with the bytes of its blocks
pub place_kept : (s t : List ℕ) (n p : ℕ) → SameBody s t n (dir_of p) → ((k : ℕ) → kind_of s (dir_of p) ≡ directory_kind → k < blocks_used (size_of s (dir_of p)) → SameBlock s t n (kth_block s n (dir_of p) k)) → SamePlace s t n p
unfolding entry_at slots
place_kept s t n p e f =
    place_slot s t n p (slot_kept s t p e.kind (λ _. ap (λ (z : ℕ). 4 * blocks_used z) e.size))
    (λ q.
    let r = (slot_is s p).to q in
    let l : slot_of p / 4 < most_blocks = omega arith in
    entry_kept s t n (dir_of p) (slot_of p) (e.blocks (slot_of p / 4) l) (f (slot_of p / 4) r.0 (unfold slots in (let m = r.1 in omega arith))))

-- ---- the tree: kinds, links, parents and what stands at each place
pub record SameTree (s t : List ℕ) (n : ℕ) : Type 0 where
  pub kinds : (i : ℕ) → 1 ≤ i → i ≤ n → kind_of t i ≡ kind_of s i
  pub links : (i : ℕ) → 1 ≤ i → i ≤ n → links_of t i ≡ links_of s i
  pub parents : (i : ℕ) → 1 ≤ i → i ≤ n → parent_of t i ≡ parent_of s i
  pub places : (p : ℕ) → p < most_slots * n → SamePlace s t n p

pub tree_stays : (s : List ℕ) (n : ℕ) → SameTree s s n
tree_stays s n = record { kinds = λ i l m. refl; links = λ i l m. refl; parents = λ i l m. refl; places = λ p l. record { stands = refl; names = refl; entry = λ e. refl } }

-- one inode changes that is no directory, and the blocks of directories stay
module _ (s t : List ℕ) (n i : ℕ) (others : OtherInodes s t n i) where
  -- a field, where only that of i may change
  pub changed : (f : List ℕ → ℕ → ℕ) → f t i ≡ f s i → ((j : ℕ) → SameInode s t n j → f t j ≡ f s j) → (j : ℕ) → 1 ≤ j → j ≤ n → f t j ≡ f s j
  changed f e g j l m = elim (ℕ_discrete j i) as (λ _. f t j ≡ f s j) [
    | yes q ↦ ap (f t) q ∙ e ∙ ap (f s) (sym q)
    | no q ↦ g j (others j l m q)
  ]

  pub file_tree : kind_of t i ≡ kind_of s i → links_of t i ≡ links_of s i → parent_of t i ≡ parent_of s i → kind_of s i ≢ directory_kind
      → ((d k : ℕ) → 1 ≤ d → d ≤ n → kind_of s d ≡ directory_kind → k < blocks_used (size_of s d) → SameBlock s t n (kth_block s n d k)) → SameTree s t n
  file_tree a b c v g =
      record {
        kinds = kinds;
        links = changed links_of b (λ j e. e.links);
        parents = changed parent_of c (λ j e. e.parent);
        places = λ p l. elim (ℕ_discrete (dir_of p) i) as (λ _. SamePlace s t n p) [
          | yes q ↦ place_slot s t n p (slot_kept s t p (kinds (dir_of p) (omega arith) (omega arith)) (λ k. absurd (v (ap (kind_of s) (sym q) ∙ k)))) (λ e. absurd (v (ap (kind_of s) (sym q) ∙ ((slot_is s p).to e).0)))
          | no q ↦ place_kept s t n p (same_body (others (dir_of p) (omega arith) (omega arith) q)) (λ k z w. g (dir_of p) k (omega arith) (omega arith) z w)
        ];
      }
    where
      kinds : (j : ℕ) → 1 ≤ j → j ≤ n → kind_of t j ≡ kind_of s j
      kinds = changed kind_of a (λ j e. e.kind)

-- entries
pub same_names_lem : (s t : List ℕ) (n p q : ℕ) → entry_at t n p ≡ entry_at s n p → entry_at t n q ≡ entry_at s n q → same_names t n p q ≡ same_names s n p q
unfolding same_names
same_names_lem s t n p q e f = rw (e, f)

module _ (s t : List ℕ) (n p : ℕ) where
  pub entry_sound_kept : SameTree s t n → p < most_slots * n → EntrySound s n p → filled s n p ≡ true → EntrySound t n p
  entry_sound_kept e l h f =
      let x = e.places p l in
      let g = x.entry f in
      let a = h.low in
      let b = h.high in
      let k : kind_of t (naming t n p) ≡ kind_of s (naming s n p) = ap (kind_of t) x.names ∙ e.kinds (naming s n p) a b in
      let u : parent_of t (naming t n p) ≡ parent_of s (naming s n p) = ap (parent_of t) x.names ∙ e.parents (naming s n p) a b in
      record {
        legal = ap legal_entry g ∙ h.legal;
        differ = λ v m r.
            let y = e.places (sibling p v) (omega arith) in
            let r' = sym y.stands ∙ r in
            same_names_lem s t n (sibling p v) p (y.entry r') g ∙ h.differ v m r';
        low = rw x.names a;
        high = rw x.names b;
        used = λ z. h.used (sym k ∙ z);
        not_root = λ z. h.not_root (sym x.names ∙ z);
        parent = λ z. u ∙ h.parent (sym k ∙ z);
      }

module _ (s t : List ℕ) (n : ℕ) (e : SameTree s t n) where
  naming_kept : (v : ℕ) → tally (naming t n) (most_slots * n) v ≡ tally (naming s n) (most_slots * n) v
  naming_kept v = count_ext (λ p. eqb (naming t n p) v) (λ p. eqb (naming s n p) v) (most_slots * n) (λ p l. ap (λ (x : ℕ). eqb x v) (e.places p l).names)

  link_sound_kept : Closed (IsDir s n) (parent_of s) root_inode n → (i : ℕ) → 1 ≤ i → i ≤ n → LinkSound s n i → LinkSound t n i
  link_sound_kept c i l m h =
      let k = e.kinds i l m in
      let r = e.links i l m in
      record {
        counted = r ∙ h.counted ∙ sym (naming_kept i);
        named = λ x y. rw r (h.named (λ z. x (k ∙ z)) y);
        one = λ x y. r ∙ h.one (sym k ∙ x) y;
        leads = λ x.
            let d = sym k ∙ x in
            let w = h.leads d in
            leads_kept (IsDir s n) (parent_of s) (parent_of t) root_inode n c (λ y q. e.parents y q.low q.high) w.0 i (record { low = l; high = m; kind = d }) w.1;
      }

-- ---- the whole
-- what is left to show of a store with the frame of a sound one
pub record Body (t : List ℕ) (n b : ℕ) : Type 0 where
  pub inodes : (i : ℕ) → 1 ≤ i → i ≤ n → InodeSound t n b i
  pub once : Differ (row_of t n) (most_blocks * n)
  pub root : kind_of t root_inode ≡ directory_kind
  pub root_parent : parent_of t root_inode ≡ 0
  pub entries : (p : ℕ) → p < most_slots * n → filled t n p ≡ true → EntrySound t n p
  pub links : (i : ℕ) → 1 ≤ i → i ≤ n → LinkSound t n i
  pub free_inodes : (header_of t).free_inodes ≡ count_to (inode_free t) n
  pub free_blocks : (header_of t).free_blocks ≡ count_to (block_free t n) b

pub body_of : {s : List ℕ} {n b : ℕ} → SoundStore s n b → Body s n b
body_of {s} {n} {b} c =
    let h = c.sound in
    let r : Body s (inodes_in s) (blocks_in s) = record {
      inodes = h.inodes;
      once = h.once;
      root = h.root;
      root_parent = h.root_parent;
      entries = h.entries;
      links = h.links;
      free_inodes = h.free_inodes;
      free_blocks = h.free_blocks;
    } in
    subst (λ (z : ℕ). Body s z b) (sym c.inodes) (subst (Body s (inodes_in s)) (sym c.blocks) r)

module _ {s t : List ℕ} {n b : ℕ} (h : SoundStore s n b) (f : SameFrame s t) where
  framed_kept : Framed Store t
  framed_kept =
      let g = h.sound.framed in
      let a = f.inodes in
      let b = f.blocks in
      let c = f.long in
      record {
        some_inodes = rw a g.some_inodes;
        most_inodes_lem = rw a g.most_inodes_lem;
        some_blocks = rw b g.some_blocks;
        most_blocks_lem = rw b g.most_blocks_lem;
        long = c ∙ g.long ∙ rw (a, b);
      }

  body_sound : Body t (inodes_in t) (blocks_in t) → Sound Store t
  body_sound r = record {
    framed = framed_kept;
    complete = f.complete ∙ h.sound.complete;
    root_number = f.root ∙ h.sound.root_number;
    reserved = f.reserved ∙ h.sound.reserved;
    inodes = r.inodes;
    once = r.once;
    root = r.root;
    root_parent = r.root_parent;
    entries = r.entries;
    links = r.links;
    free_inodes = r.free_inodes;
    free_blocks = r.free_blocks;
    blanks = λ z. absurd (true≢false (sym z));
  }

  -- for n and b as the sound store tells them
  pub sound_of : Body t n b → Sound Store t
  sound_of r = body_sound (subst (λ (z : ℕ). Body t z (blocks_in t)) (h.inodes ∙ sym f.inodes) (subst (Body t n) (h.blocks ∙ sym f.blocks) r))

  -- the tree stays, and so do the free inodes
  pub sound_kept : SameTree s t n → ((i : ℕ) → 1 ≤ i → i ≤ n → InodeSound t n b i) → Differ (row_of t n) (most_blocks * n)
      → (header_of t).free_inodes ≡ (header_of s).free_inodes → (header_of t).free_blocks ≡ count_to (block_free t n) b → Sound Store t
  sound_kept e inodes once free_inodes free_blocks =
      let x = h.inodes in
      let g = h.sound.framed.some_inodes in
      let r = body_of h in
      sound_of (record {
        inodes = inodes;
        once = once;
        root = e.kinds root_inode (omega arith) (omega arith) ∙ r.root;
        root_parent = e.parents root_inode (omega arith) (omega arith) ∙ r.root_parent;
        entries = λ p l q. let q' = sym (e.places p l).stands ∙ q in entry_sound_kept s t n p e l (r.entries p l q') q';
        links = λ i l m. link_sound_kept s t n e (climbs s n r.entries (λ j k o. let c = r.links j k o in record { counted = c.counted; named = c.named; one = c.one })) i l m (r.links i l m);
        free_inodes = free_inodes ∙ r.free_inodes ∙ sym (same_free s t n e.kinds);
        free_blocks = free_blocks;
      })
