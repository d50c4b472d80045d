-- A finished copy: sound, with every kept entry, and nothing false. n and b are the counts of inodes and image blocks.
use Prim.Native.Nat.{ℕ, ◌+◌, ◌-◌, ◌*◌, ◌≤◌, ◌<◌}
use mathlib.Core.Path.{◌≡◌, refl, sym, ap, ◌∙◌, subst}
use mathlib.Core.Logic.{◌≢◌}
use mathlib.Core.Bool.{true}
use mathlib.Core.List.{List}
use native.Mathlib.Omega.{arith}
use lib.ListN.{length}
use Rattle.bounded.proofs.BoolLaws.{holds}
use Rattle.layout.specs.Inode.{kind_of, free_kind, file_kind}
use Rattle.directory.specs.Slot.{most_slots}
use Rattle.sound.specs.Entry.{EntrySound}
use Rattle.sound.specs.Place.{entry_at, filled, naming}
use Rattle.sound.proofs.PlaceLaws.{naming_filled}
use Rattle.copy_theory.specs.View.{View}
use Rattle.copy_theory.specs.Deed.{Alike}
use Rattle.copy_theory.specs.History.{Spell, Chain}
use Rattle.copy_theory.proofs.HistoryLaws.{told_holds}
use Rattle.copy_theory.proofs.EndLaws.{all_honest, kept_there, kept_body, kept_kind}
use Rattle.checkpoint.specs.Live.{World}
use Rattle.checkpoint.specs.List.{Event, run, Moment, Kept}
use Rattle.checkpoint.specs.Finished.{count_of, HadName, HadBytes, InCopy, Names, Throughout, Honest, OneMoment, Finished}
use Rattle.checkpoint.proofs.Run.Moments.{at, moment_at, Parts, parts}
use Rattle.checkpoint.proofs.Run.Going.{Running}
use Rattle.checkpoint.proofs.Run.Lists.{Going, runs, counted, going_at}
use Rattle.checkpoint.proofs.Run.Finales.{views}
use Rattle.checkpoint.proofs.Run.Lasts.{store_names, store_kind, AlikeIn, Last}
use Rattle.checkpoint.proofs.Run.Held.{had_name, same_content, had_bytes, each_moment}
use Rattle.checkpoint.proofs.Run.Stood.{entry_of, InRange, kept_range, chain}

-- ---- a list that ends in its finish
module _ (b : ℕ) (es : List Event) (w : World) (r : Running (count_of w) b w) (fin : Last (count_of w) es w) where
  abbrev n : ℕ
  n = count_of w

  abbrev k : ℕ
  k = length es

  abbrev t : ℕ → View
  t = views n es w

  abbrev v : World
  v = run es w

  -- at every moment as many inodes
  count_at : (j : ℕ) → n ≡ count_of (at es w j)
  count_at j = counted (going_at n b es w (at es w j) (runs r) (moment_at es w j))

  -- the store's slot names i at moment j
  names_at : (j p i : ℕ) → 1 ≤ i → naming (at es w j).store n p ≡ i → Names (at es w j) p i
  names_at j p i o h = record {
    stands = subst (λ (c : ℕ). filled (at es w j).store c p ≡ true) (count_at j) (naming_filled (at es w j).store n p (omega arith));
    inode = ap (λ (c : ℕ). naming (at es w j).store c p) (sym (count_at j)) ∙ h;
  }

  -- ---- a kept entry
  module _ (p : ℕ) (kept : Kept es w p) where
    some : 1 ≤ n
    some = r.laid.frame.some_inodes

    going : Going n b w
    going = runs r

    inside : InRange n w p
    inside = kept_range n b es w going some p kept

    held : Chain t k p
    held = chain n b es w going some p k kept

    there : (t k).image.names p ≡ (t 0).store.names p
    there = (kept_there t n k fin.tells fin.ended p held).1

    first_names : (t 0).store.names p ≡ naming w.store n p
    unfolding at
    first_names = store_names n w p inside.below

    first_low : 1 ≤ naming w.store n p
    first_low = (entry_of n b w going p inside.below inside.stands).low

    first_high : naming w.store n p ≤ n
    first_high = (entry_of n b w going p inside.below inside.stands).high

    same_inode : naming v.image n p ≡ naming w.store n p
    same_inode = sym (fin.names p inside.below) ∙ there ∙ first_names

    shown : (t k).image.names p ≢ 0
    shown z = let a = there in let c = first_names in let l = first_low in omega arith

    same_kind : kind_of v.image (naming v.image n p) ≡ kind_of w.store (naming w.store n p)
    unfolding at
    same_kind =
        ap (kind_of v.image) same_inode
        ∙ sym (fin.kind (naming w.store n p) first_low first_high)
        ∙ ap (t k).image.kind (sym first_names)
        ∙ kept_kind t n k fin.tells fin.ended p held
        ∙ ap (t 0).store.kind first_names
        ∙ store_kind n w (naming w.store n p) first_low first_high

    name_had : HadName es w v.image p
    name_had =
        let s = all_honest t k (told_holds t n k fin.tells k (omega arith)).1 fin.ended p shown in
        let j = s.entry_at in
        let a = s.names j s.from_entry s.entry_to in
        let c = store_names n (at es w j) p inside.below in
        had_name n es w v p (at es w j) (moment_at es w j) refl (count_at j) (omega (arith, shown)) (fin.entry j p s.entry)

    bytes_had : kind_of w.store (naming w.store n p) ≡ file_kind → HadBytes es w v.image (naming w.store n p)
    bytes_had e =
        let h = kept_body t n k fin.tells fin.ended p held in
        let j = h.0 in
        let a = fin.alike j (naming w.store n p) first_low first_high (subst (λ (i : ℕ). Alike (t j).store (t k).image i) first_names h.2) in
        had_bytes n es w v (naming w.store n p) (at es w j) (moment_at es w j) refl (count_at j) a (sym a.kind ∙ ap (kind_of v.image) (sym same_inode) ∙ same_kind ∙ e)

    copied : InCopy es w v.image p
    copied = record {
      stands = let l = first_low in let e = same_inode in naming_filled v.image n p (omega arith);
      inode = same_inode;
      kind = same_kind;
      name = name_had;
      file = bytes_had;
    }

  -- ---- nothing false
  module _ (p : ℕ) (l : p < most_slots * n) (full : filled v.image n p ≡ true) where
    low : 1 ≤ naming v.image n p
    low = (subst (λ (m : ℕ). (q : ℕ) → q < most_slots * m → filled v.image m q ≡ true → EntrySound v.image m q) fin.count fin.sound.entries p l full).low

    seen_there : (t k).image.names p ≢ 0
    seen_there z = let a = fin.names p l in let c = low in omega arith

    spell : Spell t k p
    spell = all_honest t k (told_holds t n k fin.tells k (omega arith)).1 fin.ended p seen_there

    in_order : spell.from ≤ spell.to
    in_order = let a = spell.from_entry in let c = spell.entry_to in omega arith

    cuts : Parts es w spell.from spell.to
    cuts = parts es w spell.from spell.to in_order spell.past

    abbrev start : World
    start = run cuts.before w

    -- a moment of the spell, as one of its part of the list
    moment_is : (j : ℕ) → spell.from ≤ j → j ≤ spell.to → at cuts.during start (j - spell.from) ≡ at es w j
    moment_is j a c = cuts.each (j - spell.from) (omega arith) ∙ ap (at es w) (back spell.from j a)
      where
        back : (a j : ℕ) → a ≤ j → j - a + a ≡ j
        back a j l = omega arith

    in_spell : (j : ℕ) → spell.from ≤ j → j ≤ spell.to → Moment cuts.during start (at es w j)
    in_spell j a c = subst (Moment cuts.during start) (moment_is j a c) (moment_at cuts.during start (j - spell.from))

    start_count : n ≡ count_of start
    start_count = count_at spell.from ∙ ap count_of (sym cuts.first)

    -- the store's slot names the inode
    names_then : (j : ℕ) → spell.from ≤ j → j ≤ spell.to → naming (at es w j).store n p ≡ naming v.image n p
    names_then j a c = sym (store_names n (at es w j) p l) ∙ spell.names j a c ∙ fin.names p l

    then_names : (j : ℕ) → spell.from ≤ j → j ≤ spell.to → Names (at es w j) p (naming v.image n p)
    then_names j a c = names_at j p (naming v.image n p) low (names_then j a c)

    throughout : Throughout cuts.during start p (naming v.image n p)
    throughout = each_moment cuts.during start p (naming v.image n p) (λ j h.
        let e = cuts.long in
        let o = in_order in
        subst (λ (x : World). Names x p (naming v.image n p)) (sym (cuts.each j (omega arith))) (then_names (j + spell.from) (omega arith) (omega arith)))

    inode_range : naming v.image n p ≤ n
    inode_range = let a = fin.names p l in let c = (told_holds t n k fin.tells k (omega arith)).0.high p in omega arith

    inode_like : AlikeIn n (at es w spell.inode_at_lem).store v.image (naming v.image n p)
    inode_like = fin.alike spell.inode_at_lem (naming v.image n p) low inode_range (subst (λ (i : ℕ). Alike (t spell.inode_at_lem).store (t k).image i) (fin.names p l) spell.inode)

    honest : Honest es w v.image p
    honest =
        let i = spell.inode_at_lem in
        let x = spell.entry_at in
        let m = in_spell i spell.from_inode spell.inode_to in
        let o = low in
        let e = names_then x spell.from_entry spell.entry_to in
        record {
          before = cuts.before;
          during = cuts.during;
          after = cuts.rest;
          parts = cuts.whole;
          named = throughout;
          name = had_name n cuts.during start v p (at es w x) (in_spell x spell.from_entry spell.entry_to) start_count (count_at x) (omega arith) (fin.entry x p spell.entry);
          kind = record { moment = at es w i; in_time_lem = m; kind = inode_like.kind };
          file = λ h. had_bytes n cuts.during start v (naming v.image n p) (at es w i) m start_count (count_at i) inode_like (sym inode_like.kind ∙ h);
        }

  -- ---- one moment for each inode
  module _ (i : ℕ) (lo : 1 ≤ i) (hi : i ≤ n) (used : kind_of v.image i ≢ free_kind) where
    copied_then : (t k).copied i ≡ true
    copied_then = holds ((t k).copied i) (λ c. used (sym (fin.kind i lo hi) ∙ (told_holds t n k fin.tells k (omega arith)).0.blank i c))

    moment_of : OneMoment es w v.image i
    moment_of =
        let m = (told_holds t n k fin.tells k (omega arith)).1.seen i copied_then in
        let j = m.at in
        let a = fin.alike j i lo hi m.inode in
        record {
          moment = at es w j;
          in_time_lem = moment_at es w j;
          kind = a.kind;
          file = λ e. same_content n n (count_of (at es w j)) v (at es w j) i refl (count_at j) a (sym a.kind ∙ e);
          links = λ p l f e. names_at j p i lo (sym (store_names n (at es w j) p l) ∙ m.links p (fin.names p l ∙ e));
          slots = λ p l f d.
              let x = m.slots p d (seen_there p l f) in (
                names_at j p (naming v.image n p) (low p l f) (sym (store_names n (at es w j) p l) ∙ x.0 ∙ fin.names p l),
                fin.entry j p x.1 ∙ ap (λ (c : ℕ). entry_at (at es w j).store c p) (count_at j),
              );
        }

  pub finished : Finished es w (run es w).image (run es w).desk
  finished = record {
    count = fin.count;
    sound = fin.sound;
    entries = copied;
    honest = honest;
    moments = moment_of;
    state = fin.state;
  }
