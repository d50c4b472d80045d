-- Each way that the check's own functions return.
use Prim.Native.Nat.{ℕ, ◌*◌, ◌≤◌, ◌<◌}
use mathlib.Core.Path.{◌≡◌, sym, ap, ap₂, ◌∙◌}
use mathlib.Core.Bool.{Bool, true, false, not, ◌&&◌, ◌||◌, and_assoc}
use mathlib.Core.List.{List}
use native.Mathlib.Omega.{arith}
use borrow.Author.Tests.{eq-eqb, ne_eqb}
use lib.Dec.{eqb}
use lib.ListN.{length}
use Rattle.bounded.specs.Below.{all_below, all_to}
use Rattle.bounded.specs.Count.{differ_b, count_to}
use Rattle.bounded.specs.Climb.{Closed}
use Rattle.bounded.proofs.BoolLaws.{fails, and_false_l, chain_end}
use Rattle.bounded.proofs.ReflectLaws.{r_all, r_to}
use Rattle.layout.specs.Sizes.{root_inode, most_blocks, most_image_blocks}
use Rattle.layout.specs.Header.{header_of}
use Rattle.layout.specs.Inode.{parent_of, inode_free}
use Rattle.blocks.specs.Block.{is_long, blocks_used, row_of, allowed}
use Rattle.directory.specs.Slot.{most_slots}
use Rattle.directory.specs.Fits.{DirFits}
use Rattle.blocks.specs.Free.{block_free}
use Rattle.blocks.specs.Map.{lacks}
use Rattle.blocks.proofs.MapLaws.{map_count}
use Rattle.layout.specs.declared.header.Header.{Header}
use Rattle.layout.specs.Fits.{InodeFits}
use Rattle.blocks.specs.Fits.{Sized}
use Rattle.sound.specs.Inode.{InodeSound}
use Rattle.sound.specs.Place.{IsDir}
use Rattle.sound.specs.Sound.{inodes_in, blocks_in, Framed, limit_of, blank_of}
use Rattle.sound.proofs.FactLaws.{limit_few}
use Rattle.sound.proofs.SoundLaws.{framed, inode_sound, size_directory, entry_sound, counted_is, climbs}
use Rattle.sound.specs.Test.{inode_b, entry_b, counted_b, lead_b, framed_b, header_b, free_counts_b, blanks_b, body_b, is_sound}
use Rattle.check_inodes.specs.Pass.{MapsOf, blank_if_free_b}
use Rattle.sound.specs.declared.Form.TheVariants.{Image}
use Rattle.sound.specs.declared.Form.{Form}

-- ---- the frame
pub frame_short : (f : Form) (s : List ℕ) → length s < 16 → false ≡ framed_b f s
frame_short f s h = sym (fails (framed_b f s) (λ t. let w = (framed f s).to t in let l = w.long in omega arith))

-- h is the header as the code has read it
pub frame_read : (f : Form) (s : List ℕ) (h : Header) → h ≡ header_of s → (l : ℕ) → l ≡ limit_of f → (x : Bool) → x ≡ allowed l h.inodes h.blocks (length s) → x ≡ framed_b f s
unfolding framed_b
frame_read f s h e l g x q = q ∙ ap₂ (λ (y : ℕ) (w : Header). allowed y w.inodes w.blocks (length s)) g e

-- ---- the free counts: the code has read u free inodes and v free blocks
module _ (s : List ℕ) (h : Header) (e : h ≡ header_of s) (x : ℕ) (f : x ≡ count_to (inode_free s) (inodes_in s)) (u : ℕ) (d : u ≡ h.free_inodes) where
  pub counts_1 : (u ≡ x → ⊥) → eqb u x ≡ free_counts_b s
  unfolding free_counts_b
  counts_1 q =
      ne_eqb u x q
      ∙ sym (and_false_l _ _ (ne_eqb (header_of s).free_inodes (count_to (inode_free s) (inodes_in s)) (λ z. q (d ∙ ap (λ (y : Header). y.free_inodes) e ∙ z ∙ sym f))))

  pub counts_2 : (b y : ℕ) (l : List ℕ) → u ≡ x → MapsOf s (inodes_in s) (most_blocks * inodes_in s) l → b ≡ blocks_in s → b ≤ most_image_blocks
      → y ≡ count_to (lacks l) b → (v : ℕ) → v ≡ h.free_blocks → eqb v y ≡ free_counts_b s
  unfolding free_counts_b
  counts_2 b y l q m g i z v w =
      chain_end _ _ _ (eq-eqb (header_of s).free_inodes (count_to (inode_free s) (inodes_in s)) (sym (ap (λ (j : Header). j.free_inodes) e) ∙ sym d ∙ q ∙ f))
      (ap₂ eqb (w ∙ ap (λ (j : Header). j.free_blocks) e) (z ∙ map_count (is_long s) s (inodes_in s) l m b i ∙ ap (count_to (block_free s (inodes_in s))) g))

-- ---- the body: n and b are the counts that the code has read
abbrev pub inodes_right : List ℕ → ℕ → ℕ → Bool
inodes_right s n b = all_to (inode_b s n b) n

abbrev pub entries_right : List ℕ → ℕ → Bool
entries_right s n = all_below (entry_b s n) (most_slots * n)

abbrev pub links_right : List ℕ → ℕ → Bool
links_right s n = all_to (counted_b s n) n

abbrev pub blanks_right : Form → List ℕ → ℕ → ℕ → Bool
blanks_right f s n b = not (blank_of f) || all_to (blank_if_free_b s n) b

-- the passes in the code's order
abbrev pub body_as : Form → List ℕ → ℕ → ℕ → Bool
body_as f s n b =
    header_b s
    && ((inodes_right s n b && differ_b (row_of s n) (most_blocks * n))
    && (entries_right s n
    && (links_right s n
    && (all_to (lead_b s n) n
    && (free_counts_b s
    && blanks_right f s n b)))))

pub body_as_lem : (f : Form) (s : List ℕ) {n b : ℕ} → n ≡ inodes_in s → b ≡ blocks_in s → body_as f s n b ≡ body_b f s
unfolding body_b blanks_b
body_as_lem f s {n} {b} e g =
    ap₂ (body_as f s) e g
    ∙ ap (λ (y : Bool). header_b s && y)
    (and_assoc (inodes_right s (inodes_in s) (blocks_in s)) (differ_b (row_of s (inodes_in s)) (most_blocks * inodes_in s)) _)

pub body_headless : (f : Form) (s : List ℕ) {n b : ℕ} → n ≡ inodes_in s → b ≡ blocks_in s → header_b s ≡ false → false ≡ body_b f s
body_headless f s {n} {b} e g h =
    rw h (λ i. false) ∙ body_as_lem f s e g

-- where all passes but the last find nothing, the last one's answer is the test's
pub body_all : (f : Form) (s : List ℕ) {n b : ℕ} → n ≡ inodes_in s → b ≡ blocks_in s → header_b s ≡ true →
    inodes_right s n b && differ_b (row_of s n) (most_blocks * n) ≡ true → entries_right s n ≡ true → links_right s n ≡ true → all_to (lead_b s n) n ≡ true → free_counts_b s ≡ true →
    (x : Bool) → x ≡ blanks_right f s n b → x ≡ body_b f s
body_all f s {n} {b} e g h i j k l m x q =
    chain_end _ _ _ h (chain_end _ _ _ i (chain_end _ _ _ j (chain_end _ _ _ k (chain_end _ _ _ l (chain_end _ _ _ m q)))))
    ∙ body_as_lem f s e g

-- ---- what the passes need of each other
module _ (s : List ℕ) {n b : ℕ} (f : Framed Image s) (e : n ≡ inodes_in s) (g : b ≡ blocks_in s) where
  pub frame_sized : Sized s n b
  frame_sized =
      let x = f.most_inodes_lem in
      let y = f.most_blocks_lem in
      let z = f.long in
      record { inodes = omega arith; blocks = omega arith; long = omega arith }

  pub frame_fits : (i : ℕ) → 1 ≤ i → i ≤ n → InodeFits s n i
  frame_fits i l m =
      let x = f.most_inodes_lem in
      let z = f.long in
      record { low = l; high = m; few = omega arith; area = omega arith }

  module _ (t : inodes_right s n b ≡ true) where
    each : (i : ℕ) → 1 ≤ i → i ≤ n → InodeSound s n b i
    each = (r_to n (λ i l m. inode_sound s n b i)).to t

    pub dir_fits : (d : ℕ) → IsDir s n d → DirFits s n d
    unfolding blocks_used
    dir_fits d x =
        let h = each d x.low x.high in
        let z = size_directory h x.kind in
        let w = f.long in
        record {
          inode = frame_fits d x.low x.high;
          few = omega arith;
          blocks = λ k u. let v = h.used k (omega arith) u in record { low = v.0; inside = let p = v.1 in omega arith };
        }

    -- parents of directories are directories
    pub parents_closed : entries_right s n ≡ true → links_right s n ≡ true → Closed (IsDir s n) (parent_of s) root_inode n
    parents_closed a c =
        climbs s n ((r_all (most_slots * n) (entry_sound s n)).to a) ((r_to n (λ i l m. counted_is s n i)).to c)

-- ---- the whole
pub framed_on : (f : Form) (s : List ℕ) → framed_b f s ≡ true → Framed Image s
framed_on f s t =
    let w = (framed f s).to t in
    let l = limit_few f in
    record { some_inodes = w.some_inodes; most_inodes_lem = w.most_inodes_lem; some_blocks = w.some_blocks; most_blocks_lem = omega (arith, w.most_blocks_lem); long = w.long }

pub sound_stop : (f : Form) (s : List ℕ) → framed_b f s ≡ false → false ≡ is_sound f s
unfolding is_sound
sound_stop f s h = sym (and_false_l (framed_b f s) (body_b f s) h)

pub sound_on : (f : Form) (s : List ℕ) (x : Bool) → framed_b f s ≡ true → x ≡ body_b f s → x ≡ is_sound f s
unfolding is_sound
sound_on f s x h q = chain_end x (framed_b f s) (body_b f s) h q
