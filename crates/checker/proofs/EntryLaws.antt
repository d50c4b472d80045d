-- Laws of the pass over the entries: slot t of directory d and its place, what each return of the code says, and the counts. n is the inode count.
use Prim.Native.Nat.{ℕ, zero, suc, ◌+◌, ◌*◌, ◌-◌, ◌/◌, ◌%◌, ◌≤◌, ◌<◌}
use mathlib.Core.Path.{◌≡◌, refl, sym, ap, ap₂, ◌∙◌, subst}
use mathlib.Core.Bool.{Bool, true, false, not, ◌&&◌, ◌||◌}
use mathlib.Core.List.{List}
use mathlib.Core.Logic.{◌⊎◌, inl, inr}
use native.Mathlib.Nat.{add-zero}
use native.Mathlib.Numerals.{add-one}
use native.Mathlib.Decide.{dec_lt, ℕ_discrete}
use native.Mathlib.Omega.{arith}
use borrow.Author.Tests.{eq-eqb, eqb-true}
use lib.Dec.{eqb, leb}
use lib.ListN.{length, get_or, set, take, drop, replicate, length-set}
use lib.Seq.{get_or-set_same, get_or-set_other}
use Rattle.std.specs.List.{list_all}
use Rattle.std.proofs.lemmas.List.Folds.{list_all_more}
use Rattle.bounded.specs.Below.{all_below}
use Rattle.bounded.specs.Count.{Tallied}
use Rattle.bounded.specs.Search.{pick}
use Rattle.bounded.specs.Reflect.{Reflects}
use Rattle.bounded.proofs.BoolLaws.{clash, never, holds, same_test, and-true, and_left, and_false_l, and_false_r, or_l, or_weaker}
use Rattle.bounded.proofs.BelowLaws.{all_none, all_at, all_of, all_fail, all_stop, all_ext, all_split}
use Rattle.bounded.proofs.CountLaws.{tally_start, tally_skip, tally_one, tally_skips}
use Rattle.bounded.proofs.ReflectLaws.{r_eq, r_le, r_true, r_and, r_not, r_imp, r_same, r_says, r_fails, reflects_ext}
use Rattle.octets.specs.Octets.{Octets, part, num_at}
use Rattle.octets.proofs.NumLaws.{zero_num}
use Rattle.octets.proofs.PartLaws.{cut, get_d_part, octets_part}
use Rattle.layout.specs.Sizes.{root_inode, most_inodes}
use Rattle.layout.specs.Inode.{kind_of, parent_of, free_kind, directory_kind}
use Rattle.blocks.specs.Block.{block_at, kth_block}
use Rattle.names.specs.Name.{name_bytes, folded}
use Rattle.names.specs.declared.Name.{Name}
use Rattle.names.specs.Entry.{entry_inode, is_empty, name_at, same_name, entry_name, legal_entry}
use Rattle.names.proofs.NameLaws.{legal_bounds, legal_nonzero}
use Rattle.names.proofs.EntryLaws.{named, spelled_is, same_words_two, empty_all, empty_inode_lem, entry_legal}
use Rattle.names.proofs.FoldLaws.{folded_zero}
use Rattle.names.specs.Words.{folds, words_at, same_words}
use Rattle.directory.specs.Slot.{most_slots, slots, slot_at, entry_of}
use Rattle.directory.proofs.SlotLaws.{few_slots, slot_fits}
use Rattle.directory.specs.Fits.{DirFits}
use Rattle.sound.specs.Entry.{same_names}
use Rattle.sound.specs.Place.{dir_of, slot_of, is_slot, entry_at, filled, naming, place_of}
use Rattle.sound.proofs.PlaceLaws.{filled_is, naming_entry, place_dir, entry_place, slot_place}
use Rattle.sound.specs.Test.{naming_b, new_name_b, entry_b}
use Rattle.checker.specs.Pass.{no_name, name_of, Passed}

-- a place that is no slot names nothing, and is right
module _ (s : List ℕ) (n p : ℕ) (e : is_slot s p ≡ false) where
  pub other_naming : naming s n p < 1
  unfolding naming
  other_naming = let q : pick (is_slot s p) (entry_inode (entry_at s n p)) 0 ≡ 0 = ap (λ (b : Bool). pick b (entry_inode (entry_at s n p)) 0) e in omega arith

  pub other_right : entry_b s n p ≡ true
  unfolding entry_b filled
  other_right = or_l (not (filled s n p)) (naming_b s n p && new_name_b s n p) (ap not (and_false_l (is_slot s p) (not (is_empty (entry_at s n p))) e))

-- ---- what the code knows of the slot whose bytes start at o
abbrev pub Here : List ℕ → ℕ → ℕ → ℕ → ℕ → Type 0
Here s n d t o = DirFits s n d × (t < slots s d) × (kind_of s d ≡ directory_kind) × (o ≡ slot_at s n d t)

-- the part that the code reads
abbrev pub cut_at : List ℕ → ℕ → List ℕ
cut_at s o = take (o + 16 - o) (drop o s)

module _ (s : List ℕ) (n d t o : ℕ) (x : Here s n d t o) where
  pub in_reach : t < most_slots
  in_reach = let f = few_slots s n d x.0 in let l = x.1 in omega arith

  pub cut_fits : o + 16 ≤ length s
  cut_fits = let f = slot_fits s n d x.0 t x.1 in let e = x.3 in omega arith

  pub slot_here : is_slot s (place_of d t) ≡ true
  slot_here = (slot_place s n d t x.0.inode.low in_reach).from (x.2, x.1)

  pub cut_here : cut_at s o ≡ entry_of s n d t
  unfolding entry_of
  cut_here = cut s o 16 ∙ ap (λ (y : ℕ). part s y 16) x.3

  pub entry_here : entry_at s n (place_of d t) ≡ cut_at s o
  entry_here = entry_place s n d t x.0.inode.low in_reach ∙ sym cut_here

  pub naming_here : naming s n (place_of d t) ≡ entry_inode (cut_at s o)
  naming_here = naming_entry s n (place_of d t) slot_here ∙ ap entry_inode entry_here

  -- an entry stands there: what was read is not empty
  pub filled_here : filled s n (place_of d t) ≡ not (is_empty (cut_at s o))
  unfolding filled
  filled_here =
      ap (λ (b : Bool). b && not (is_empty (entry_at s n (place_of d t)))) slot_here ∙ ap (λ (e : List ℕ). not (is_empty e)) entry_here

  -- ---- entry_named
  abbrev Names : ℕ → Bool → Type 0
  Names i g =
      (g ≡ true)
      × ((1 ≤ i)
      × ((i ≤ n)
      × ((kind_of s i ≡ free_kind → ⊥)
      × ((i ≡ root_inode → ⊥)
      × (kind_of s i ≡ directory_kind → parent_of s i ≡ d)))))

  abbrev names_b : Bool → ℕ → ℕ → Bool
  names_b g i q =
      g
      && (leb 1 i
      && (leb i n
      && (not (eqb (kind_of s i) free_kind)
      && (not (eqb i root_inode)
      && (not (eqb (kind_of s i) directory_kind) || eqb (parent_of s i) q)))))

  names : (i : ℕ) (g : Bool) → Reflects (names_b g i d) (Names i g)
  names i g =
      r_and (r_true g)
      (r_and (r_le 1 i)
      (r_and (r_le i n)
      (r_and (r_not (r_eq (kind_of s i) free_kind))
      (r_and (r_not (r_eq i root_inode))
      (r_imp (r_eq (kind_of s i) directory_kind) (r_eq (parent_of s i) d))))))

  -- the inode that the code has read, and whether the name is legal
  module _ (i : ℕ) (g : Bool) (a : i ≡ entry_inode (cut_at s o)) (b : g ≡ legal_entry (cut_at s o)) where
    named_here : Reflects (naming_b s n (place_of d t)) (Names i g)
    unfolding naming_b
    named_here =
        r_same
        (sym
        (ap (λ (e : List ℕ). names_b (legal_entry e) (naming s n (place_of d t)) (dir_of (place_of d t))) entry_here
        ∙ ap (λ (y : Bool). names_b y (naming s n (place_of d t)) (dir_of (place_of d t))) (sym b)
        ∙ ap (λ (y : ℕ). names_b g y (dir_of (place_of d t))) (naming_here ∙ sym a)
        ∙ ap (names_b g i) (place_dir d t x.0.inode.low in_reach)))
        (names i g)

    -- one of the four tests that come first turns it down
    abbrev pub Barred : Type 0
    Barred = (g ≡ false) ⊎ (((g ≡ true) × (i < 1)) ⊎ (((g ≡ true) × (1 ≤ i) × (n < i)) ⊎ ((g ≡ true) × (1 ≤ i) × (i ≤ n) × (i ≡ root_inode))))

    pub barred : Barred → false ≡ naming_b s n (place_of d t)
    barred h = sym (r_fails named_here (λ w. go w h))
      where
        go : Names i g → Barred → ⊥
        go w (inl e) = clash g w.0 e
        go w (inr (inl e)) = let z = w.1.0 in omega arith
        go w (inr (inr (inl e))) = let z = w.1.1.0 in omega arith
        go w (inr (inr (inr e))) = w.1.1.1.1.0 e.3

    pub free_named : kind_of s i ≡ free_kind → false ≡ naming_b s n (place_of d t)
    free_named e = sym (r_fails named_here (λ w. w.1.1.1.0 e))

    module _ (y : g ≡ true) (p : 1 ≤ i) (q : i ≤ n) (v : i ≡ root_inode → ⊥) where
      pub file_named : (kind_of s i ≡ free_kind → ⊥) → (kind_of s i ≡ directory_kind → ⊥) → true ≡ naming_b s n (place_of d t)
      file_named u f = sym (named_here.from (y, (p, (q, (u, (v, λ e. absurd (f e)))))))

      pub dir_named : (w : ℕ) → w ≡ parent_of s i → kind_of s i ≡ directory_kind → eqb w d ≡ naming_b s n (place_of d t)
      dir_named w m f =
          same_test (eqb w d) (naming_b s n (place_of d t))
          (λ e. named_here.from (y, (p, (q, ((λ z. absurd (omega arith)), (v, λ z. sym m ∙ eqb-true w d e))))))
          (λ e. eq-eqb w d (m ∙ (named_here.to e).1.1.1.1.1 f))

    -- an inode of the n
    pub named_range : naming_b s n (place_of d t) ≡ true → (1 ≤ i) × (i ≤ n)
    named_range e = let w = named_here.to e in (w.1.0, w.1.1.0)

-- ---- name_new: no name of the list is w
abbrev pub apart : Name → Name → Bool
apart w x = not (same_words x w)

-- a test of each element, by its place
list_all-below : {X : Type 0} (p : X → Bool) (d : X) (xs : List X) (i : ℕ) → i ≤ length xs → list_all p (take i xs) ≡ all_below (λ u. p (get_or xs u d)) i
unfolding all_below
list_all-below p d xs zero l = refl
list_all-below p d xs (suc i) l =
    ap (λ (j : ℕ). list_all p (take j xs)) (sym (add-one i)) ∙ list_all_more p xs i d (omega arith)
    ∙ ap (λ (b : Bool). b && p (get_or xs i d)) (list_all-below p d xs i (omega arith))

-- an empty entry has no legal name
empty_differs : (a b : List ℕ) → is_empty a ≡ true → legal_entry b ≡ true → same_name a (part b name_at name_bytes) ≡ false
empty_differs a b z g =
    let w = entry_legal b g in
    let m = legal_bounds (entry_name b) w.0 in
    r_fails (named a (part b name_at name_bytes))
    (λ at.
    legal_nonzero (entry_name b) w.0 0 (omega arith)
    (sym ((spelled_is b (entry_name b)).to w.1 0 (omega arith)) ∙ sym (get_d_part b name_at name_bytes 0 (omega arith))
    ∙ folded_zero (get_or (part b name_at name_bytes) 0 0) (sym (at 0 (omega arith)) ∙ ap folded (empty_all a z (name_at + 0) (omega arith)))))

-- two names are the same as words and as bytes
same_parts : (a b : List ℕ) → Octets a → Octets b → same_words (words_at a name_at) (words_at b name_at) ≡ same_name a (part b name_at name_bytes)
same_parts a b ha hb =
    reflects_ext (same_words_two a b ha hb)
    (r_says (λ f k l. f k l ∙ ap folded (get_d_part b name_at name_bytes k l)) (λ f k l. f k l ∙ ap folded (sym (get_d_part b name_at name_bytes k l))) (named a (part b name_at name_bytes)))

octets_entry : (s : List ℕ) (n d t : ℕ) → Octets s → Octets (entry_of s n d t)
unfolding entry_of
octets_entry s n d t h = octets_part s (slot_at s n d t) 16 h

-- the words of the names up to slot t are read, and slot t has a legal name
module _ (s : List ℕ) (n d t : ℕ) (h : Octets s) (f : DirFits s n d) (k : kind_of s d ≡ directory_kind) (l : t < slots s d)
    (names : List Name) (long : length names ≡ most_slots) (each : (u : ℕ) → u < t + 1 → get_or names u no_name ≡ name_of s n d u)
    (g : legal_entry (entry_of s n d t) ≡ true) where
  reach : t < most_slots
  reach = let w = few_slots s n d f in omega arith

  at : (u : ℕ) → u ≤ t → entry_at s n (place_of d u) ≡ entry_of s n d u
  at u m = let w = reach in entry_place s n d u f.inode.low (omega arith)

  same_at : (u : ℕ) → u ≤ t → same_name (entry_of s n d u) (part (entry_of s n d t) name_at name_bytes) ≡ same_names s n (place_of d u) (place_of d t)
  unfolding same_names
  same_at u m = ap₂ (λ (x y : List ℕ). same_name x (part y name_at name_bytes)) (sym (at u m)) (sym (at t (omega arith)))

  words_at_lem : (u : ℕ) → u ≤ t → same_words (get_or names u no_name) (name_of s n d t) ≡ same_names s n (place_of d u) (place_of d t)
  words_at_lem u m =
      ap (λ (x : Name). same_words x (name_of s n d t)) (each u (omega arith))
      ∙ same_parts (entry_of s n d u) (entry_of s n d t) (octets_entry s n d u h) (octets_entry s n d t h) ∙ same_at u m

  empty_other : (u : ℕ) → u < t → filled s n (place_of d u) ≡ false → same_names s n (place_of d u) (place_of d t) ≡ false
  empty_other u m e =
      let y = slot_here s n d u (slot_at s n d u) (f, omega arith, k, refl) in
      let z = holds (is_empty (entry_at s n (place_of d u))) (λ q. clash (filled s n (place_of d u)) ((filled_is s n (place_of d u)).from (y, q)) e) in
      sym (same_at u (omega arith))
      ∙ empty_differs (entry_of s n d u) (entry_of s n d t) (ap is_empty (sym (at u (omega arith))) ∙ z) g

  pub new_here : list_all (apart (name_of s n d t)) (take t names) ≡ new_name_b s n (place_of d t)
  unfolding new_name_b
  new_here =
      let p = place_of d t in
      let a : d - 1 ≡ p / most_slots = omega (arith, reach, f.inode.low) in
      let b : t ≡ slot_of p = omega (arith, reach, f.inode.low) in
      let w = reach in
      list_all-below (apart (name_of s n d t)) no_name names t (omega arith)
      ∙ all_ext (λ u. apart (name_of s n d t) (get_or names u no_name)) (λ u. not (filled s n (place_of d u)) || not (same_names s n (place_of d u) p)) t
      (λ u m. ap not (words_at_lem u (omega arith)) ∙ or_weaker (filled s n (place_of d u)) (same_names s n (place_of d u) p) (empty_other u m))
      ∙ ap₂ (λ (q j : ℕ). all_below (λ u. not (filled s n (most_slots * q + u)) || not (same_names s n (most_slots * q + u) p)) j) a b

-- ---- slot_right
-- the words of an empty entry
pub no_words : (e : List ℕ) → is_empty e ≡ true → no_name ≡ words_at e 2
unfolding words_at folds folded
no_words e h =
    let a : num_at 8 e 2 ≡ 0 = zero_num 8 e 2 (λ j l. empty_all e h (2 + j) (omega arith)) in
    let b : num_at 6 e (2 + 8) ≡ 0 = zero_num 6 e (2 + 8) (λ j l. empty_all e h (2 + 8 + j) (omega arith)) in
    sym (ap₂ (λ (x y : ℕ). record { low = folds 8 x; high = folds 8 y }) a b)

module _ (s : List ℕ) (n d t o : ℕ) (x : Here s n d t o) (names : List Name) (counts : List ℕ) (y : Passed s n d t (place_of d t) names counts)
    (w : Name) (e : w ≡ words_at (cut_at s o) 2) where
  -- what names holds then
  abbrev names_now : List Name
  names_now = set names t w

  word : w ≡ name_of s n d t
  word = e ∙ ap (λ (q : List ℕ). words_at q 2) (cut_here s n d t o x)

  long_now : length names_now ≡ most_slots
  long_now = length-set names t w ∙ y.long

  each_now : (u : ℕ) → u < t + 1 → get_or names_now u no_name ≡ name_of s n d u
  each_now u l = at (ℕ_discrete u t)
    where
      at : Dec (u ≡ t) → get_or names_now u no_name ≡ name_of s n d u
      at (yes q) =
          let k = in_reach s n d t o x in
          ap (λ (j : ℕ). get_or names_now j no_name) q ∙ get_or-set_same names t w no_name (omega (arith, y.long)) ∙ word ∙ ap (name_of s n d) (sym q)
      at (no q) = get_or-set_other names t u w no_name q ∙ y.each u (omega arith)

  module _ (b : Bool) (r : b ≡ is_empty (cut_at s o)) where
    pub empty_slot_lem : b ≡ true → (true ≡ entry_b s n (place_of d t)) × (true ≡ true → Passed s n d (t + 1) (place_of d t + 1) names_now counts)
    unfolding entry_b
    empty_slot_lem z =
        let f : filled s n (place_of d t) ≡ false = filled_here s n d t o x ∙ ap not (sym r ∙ z) in
        let m = naming_here s n d t o x ∙ empty_inode_lem (cut_at s o) (sym r ∙ z) in (
          sym (or_l (not (filled s n (place_of d t))) (naming_b s n (place_of d t) && new_name_b s n (place_of d t)) (ap not f)),
          λ q. record { long = long_now; each = each_now; counted = tally_skip (naming s n) 1 (most_inodes + 1) (place_of d t) counts (omega arith) y.counted },
        )

    module _ (z : b ≡ false) (g : Bool) (c : g ≡ naming_b s n (place_of d t)) where
      full_slot : entry_b s n (place_of d t) ≡ naming_b s n (place_of d t) && new_name_b s n (place_of d t)
      unfolding entry_b
      full_slot =
          ap (λ (q : Bool). not q || (naming_b s n (place_of d t) && new_name_b s n (place_of d t))) (filled_here s n d t o x ∙ ap not (sym r ∙ z))

      pub unnamed_slot : {A : Type 0} → g ≡ false → (false ≡ entry_b s n (place_of d t)) × (false ≡ true → A)
      unnamed_slot q =
          (sym (full_slot ∙ and_false_l (naming_b s n (place_of d t)) (new_name_b s n (place_of d t)) (sym c ∙ q)), never)

      module _ (u : g ≡ true) where
        named_slot : naming_b s n (place_of d t) ≡ true
        named_slot = sym c ∙ u

        legal_slot : legal_entry (entry_of s n d t) ≡ true
        unfolding naming_b
        legal_slot = ap legal_entry (sym (entry_place s n d t x.0.inode.low (in_reach s n d t o x))) ∙ and_left (legal_entry (entry_at s n (place_of d t))) _ named_slot

        pub slot_range : (i : ℕ) → i ≡ entry_inode (cut_at s o) → (1 ≤ i) × (i < most_inodes + 1)
        slot_range i a =
            let v = named_range s n d t o x i (legal_entry (cut_at s o)) a refl named_slot in
            let few = x.0.inode.few in
            (v.0, omega (arith, v.1))

        module _ (h : Octets s) (m : Bool) (v : m ≡ list_all (apart w) (take t names_now)) where
          new_slot : m ≡ new_name_b s n (place_of d t)
          new_slot = v ∙ ap (λ (q : Name). list_all (apart q) (take t names_now)) word ∙ new_here s n d t h x.0 x.2 x.1 names_now long_now each_now legal_slot

          pub same_slot : {A : Type 0} → m ≡ false → (false ≡ entry_b s n (place_of d t)) × (false ≡ true → A)
          same_slot q =
              (sym (full_slot ∙ and_false_r (naming_b s n (place_of d t)) (new_name_b s n (place_of d t)) (sym new_slot ∙ q)), never)

          pub counted_slot : m ≡ true → (i : ℕ) → i ≡ entry_inode (cut_at s o)
              → (true ≡ entry_b s n (place_of d t)) × (true ≡ true → Passed s n d (t + 1) (place_of d t + 1) names_now (set counts i (get_or counts i 0 + 1)))
          counted_slot q i a =
              let k = slot_range i a in (
                sym (full_slot ∙ and-true (naming_b s n (place_of d t)) (new_name_b s n (place_of d t)) named_slot (sym new_slot ∙ q)),
                λ p. record {
                  long = long_now;
                  each = each_now;
                  counted = tally_one (naming s n) 1 (most_inodes + 1) (place_of d t) i counts (a ∙ sym (naming_here s n d t o x)) k.0 k.1 y.counted;
                },
              )

-- ---- block_right: slot j of block k is slot 4 × k + j
module _ (s : List ℕ) (n d k : ℕ) where
  pub slot_start : (o j : ℕ) → o ≡ block_at n (kth_block s n d k) → j < 4 → o + 16 * j ≡ slot_at s n d (4 * k + j)
  unfolding slot_at
  slot_start o j e l =
      let a : k ≡ (4 * k + j) / 4 = omega arith in
      let b : j ≡ (4 * k + j) % 4 = omega arith in
      ap (λ (x : ℕ). x + 16 * j) e ∙ ap₂ (λ (q r : ℕ). block_at n (kth_block s n d q) + 16 * r) a b

  pub slot_inside : 4 * k < slots s d → (j : ℕ) → j < 4 → 4 * k + j < slots s d
  unfolding slots
  slot_inside l j h = omega arith

  -- the same pass, in other words
  passed_at : {names : List Name} {counts : List ℕ} (t u p : ℕ) → t ≡ u → p ≡ place_of d u → Passed s n d t p names counts → Passed s n d u (place_of d u) names counts
  passed_at {names} {counts} t u p e f y =
      subst (λ (q : ℕ). Passed s n d u q names counts) f (subst (λ (q : ℕ). Passed s n d q p names counts) e y)

  pub block_begin : {names : List Name} {counts : List ℕ} → Passed s n d (4 * k) (place_of d (4 * k)) names counts → Passed s n d (4 * k + 0) (place_of d (4 * k + 0)) names counts
  block_begin = let e : 4 * k ≡ 4 * k + 0 = omega arith in passed_at (4 * k) (4 * k + 0) (place_of d (4 * k)) e (ap (place_of d) e)

  pub block_more : {names : List Name} {counts : List ℕ} (j : ℕ) → Passed s n d (4 * k + j + 1) (place_of d (4 * k + j) + 1) names counts → Passed s n d (4 * k + (j + 1)) (place_of d (4 * k + (j + 1))) names counts
  block_more j =
      let e : 4 * k + j + 1 ≡ 4 * k + (j + 1) = omega arith in
      let f : place_of d (4 * k + j) + 1 ≡ place_of d (4 * k + (j + 1)) = omega arith in
      passed_at (4 * k + j + 1) (4 * k + (j + 1)) (place_of d (4 * k + j) + 1) e f

-- ---- directory_right
module _ (s : List ℕ) (n d : ℕ) (some : 1 ≤ d) where
  abbrev pub right_at : ℕ → Bool
  right_at t = entry_b s n (place_of d t)

  -- the slots below u are passed, and the places from u on are no slots
  rest_right : (counts : List ℕ) (u : ℕ) → u ≤ most_slots → ((t : ℕ) → u ≤ t → t < most_slots → is_slot s (place_of d t) ≡ false)
      → all_below right_at u ≡ true → Tallied (naming s n) 1 257 (place_of d u) counts
      → (true ≡ all_below right_at most_slots) × (true ≡ true → Tallied (naming s n) 1 257 (most_slots * d) counts)
  rest_right counts u l h a y =
      let e : place_of d u + (most_slots - u) ≡ most_slots * d = omega arith in (
        sym (all_of right_at most_slots (λ t m. go t m (dec_lt t u))),
        λ q. subst (λ (p : ℕ). Tallied (naming s n) 1 257 p counts) e (tally_skips (naming s n) 1 257 (place_of d u) (most_slots - u) counts (λ j m. none j m) y),
      )
    where
      go : (t : ℕ) → t < most_slots → Dec (t < u) → right_at t ≡ true
      go t m (yes z) = all_at right_at u a t z
      go t m (no z) = other_right s n (place_of d t) (h t (omega arith) m)

      none : (j : ℕ) → j < most_slots - u → naming s n (place_of d u + j) < 1
      none j m =
          let e : place_of d (u + j) ≡ place_of d u + j = omega arith in
          subst (λ (p : ℕ). naming s n p < 1) e (other_naming s n (place_of d (u + j)) (h (u + j) (omega arith) (omega arith)))

  first_place : (counts : List ℕ) → Tallied (naming s n) 1 257 (most_slots * (d - 1)) counts → Tallied (naming s n) 1 257 (place_of d 0) counts
  first_place counts y = subst (λ (p : ℕ). Tallied (naming s n) 1 257 p counts) (sym (add-zero (most_slots * (d - 1)))) y

  -- no directory
  pub other_inode : (counts : List ℕ) (k : ℕ) → k ≡ kind_of s d → (k ≡ directory_kind → ⊥) → Tallied (naming s n) 1 257 (most_slots * (d - 1)) counts
      → (true ≡ all_below right_at most_slots) × (true ≡ true → Tallied (naming s n) 1 257 (most_slots * d) counts)
  other_inode counts k e h y =
      rest_right counts 0 (omega arith) (λ t l m. r_fails (slot_place s n d t some m) (λ w. h (e ∙ w.0))) (all_none right_at)
      (first_place counts y)

  -- before the first block, a block that is right, one that is not, and after the last
  pub dir_begin : (names : List Name) (counts : List ℕ) → length names ≡ most_slots → Tallied (naming s n) 1 257 (most_slots * (d - 1)) counts → Passed s n d 0 (place_of d 0) names counts
  dir_begin names counts p y = record { long = p; each = λ u l. absurd (omega arith); counted = first_place counts y }

  pub dir_more : (k : ℕ) (r : Bool) → all_below right_at (4 * k) ≡ true → r ≡ all_below (λ j. right_at (4 * k + j)) 4 → r ≡ true → all_below right_at (4 * (k + 1)) ≡ true
  dir_more k r a b c =
      let e : 4 * (k + 1) ≡ 4 * k + 4 = omega arith in
      ap (all_below right_at) e ∙ all_split right_at (4 * k) 4
      ∙ and-true (all_below right_at (4 * k)) (all_below (λ j. right_at (4 * k + j)) 4) a (sym b ∙ c)

  pub dir_next : {names : List Name} {counts : List ℕ} (k : ℕ) → Passed s n d (4 * k + 4) (place_of d (4 * k + 4)) names counts → Passed s n d (4 * (k + 1)) (place_of d (4 * (k + 1))) names counts
  dir_next k =
      let e : 4 * k + 4 ≡ 4 * (k + 1) = omega arith in
      passed_at s n d k (4 * k + 4) (4 * (k + 1)) (place_of d (4 * k + 4)) e (ap (place_of d) e)

  pub dir_stop : {A : Type 0} (k : ℕ) (r : Bool) → DirFits s n d → 4 * k < slots s d → r ≡ all_below (λ j. right_at (4 * k + j)) 4 → r ≡ false → (false ≡ all_below right_at most_slots) × (false ≡ true → A)
  dir_stop k r f l b c =
      let w = few_slots s n d f in
      let x = all_fail (λ j. right_at (4 * k + j)) 4 (sym b ∙ c) in
      let y = slot_inside s n d k l x.0 x.1 in
      (sym (all_stop right_at most_slots (4 * k + x.0) (omega arith) x.2), never)

  pub dir_done : {names : List Name} {counts : List ℕ} (k m : ℕ) → DirFits s n d → m ≡ slots s d → k ≤ m / 4 → m / 4 ≤ k → all_below right_at (4 * k) ≡ true → Passed s n d (4 * k) (place_of d (4 * k)) names counts
      → (true ≡ all_below right_at most_slots) × (true ≡ true → Tallied (naming s n) 1 257 (most_slots * d) counts)
  unfolding slots
  dir_done {names} {counts} k m f e p q a y =
      let w = f.few in
      let z : 4 * k ≡ slots s d = omega arith in
      rest_right counts (4 * k) (omega arith)
      (λ t l m. r_fails (slot_place s n d t some m) (λ w. let v = w.1 in omega arith)) a y.counted

-- ---- entries_right: directory k + 1
module _ (s : List ℕ) (n : ℕ) where
  dir_places : (k : ℕ) → all_below (λ t. entry_b s n (place_of (k + 1) t)) most_slots ≡ all_below (λ t. entry_b s n (most_slots * k + t)) most_slots
  dir_places k =
      let e : k + 1 - 1 ≡ k = omega arith in
      ap (λ (q : ℕ). all_below (λ t. entry_b s n (most_slots * q + t)) most_slots) e

  pub dirs_begin : (counts : List ℕ) → counts ≡ replicate 257 0 → Tallied (naming s n) 1 257 0 counts
  dirs_begin counts e = subst (λ (l : List ℕ). Tallied (naming s n) 1 257 0 l) (sym e) (tally_start (naming s n) 1 257)

  pub dirs_more : (k : ℕ) (r : Bool) → all_below (entry_b s n) (most_slots * k) ≡ true → r ≡ all_below (λ t. entry_b s n (place_of (k + 1) t)) most_slots → r ≡ true → all_below (entry_b s n) (most_slots * (k + 1)) ≡ true
  dirs_more k r a b c =
      let e : most_slots * (k + 1) ≡ most_slots * k + most_slots = omega arith in
      ap (all_below (entry_b s n)) e ∙ all_split (entry_b s n) (most_slots * k) most_slots
      ∙ and-true (all_below (entry_b s n) (most_slots * k)) (all_below (λ t. entry_b s n (most_slots * k + t)) most_slots) a (sym (dir_places k) ∙ sym b ∙ c)

  pub dirs_stop : {A : Type 0} (k : ℕ) (r : Bool) → k < n → r ≡ all_below (λ t. entry_b s n (place_of (k + 1) t)) most_slots → r ≡ false → (false ≡ all_below (entry_b s n) (most_slots * n)) × (false ≡ true → A)
  dirs_stop k r l b c =
      let x = all_fail (λ t. entry_b s n (most_slots * k + t)) most_slots (sym (dir_places k) ∙ sym b ∙ c) in
      let y = x.1 in
      (sym (all_stop (entry_b s n) (most_slots * n) (most_slots * k + x.0) (omega arith) x.2), never)
