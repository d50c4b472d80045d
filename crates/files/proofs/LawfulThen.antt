-- The laws of one effect and then another: what the first takes is gone when the second comes. The first makes no entry and writes no file. n is the inode count.
use Prim.Native.Nat.{ℕ, ◌*◌, ◌≤◌, ◌<◌}
use mathlib.Core.Path.{◌≡◌, sym, ap, ◌∙◌}
use mathlib.Core.Logic.{◌≢◌, ◌⊎◌, inl, inr, ⊎_elim}
use mathlib.Core.Bool.{true, false}
use mathlib.Core.List.{List, [], ◌∷◌, ◌++◌}
use native.Mathlib.Decide.{ℕ_discrete}
use Rattle.bounded.proofs.BoolLaws.{clash}
use Rattle.bounded.proofs.EachLaws.{All, Some, all_map, all_both, all_append, all_split, all_swap}
use Rattle.layout.specs.Sizes.{most_blocks}
use Rattle.layout.specs.Inode.{kind_of, size_of, free_kind, file_kind}
use Rattle.blocks.specs.Block.{blocks_used}
use Rattle.directory.specs.Slot.{most_slots}
use Rattle.sound.specs.Place.{filled}
use Rattle.sound.specs.Sound.{Sound, inodes_in}
use Rattle.sound.specs.declared.Form.TheVariants.{Store}
use Rattle.preservation.proofs.SameLaws.{frame_then}
use Rattle.preservation.proofs.StoreLaws.{sound_store}
use Rattle.files.specs.Effect.{Entry, place_in, Effect, changes, and_then}
use Rattle.files.proofs.Lawful.{Apart, Away, Distinct, Stands, SameNaming, Stays, Keeps, Lawful}
use Rattle.files.proofs.LawfulSteady.{store_blocks, keeps_then, stays_then}
use Rattle.files.proofs.EffectFacts.{stands_below, same_count, fresh}

distinct_append : (ys zs : List Entry) → Distinct ys → Distinct zs → All (λ y. Away (place_in y) zs) ys → Distinct (ys ++ zs)
distinct_append [] zs a b c = b
distinct_append (y ∷ ys) zs a b c = (all_append _ ys zs a.0 c.0, distinct_append ys zs a.1 b c.1)

-- t is the store that the first leaves, ys what it takes, is what it touches
module _ {s : List ℕ} {n : ℕ} (h : Sound Store s) (e : n ≡ inodes_in s) (a : ℕ) (t is : List ℕ) (ys : List Entry) (y : Effect)
    (first : Lawful s n (changes a t is ys [])) (then : Lawful t n y)
    (others : All (λ z. All (λ w. z.inode ≢ w.inode) ys) y.made) (used : All (λ z. kind_of t z.inode ≢ free_kind) y.made) where
  abbrev u : List ℕ
  u = y.store

  few : (j : ℕ) → 1 ≤ j → j ≤ n → blocks_used (size_of s j) ≤ most_blocks
  few = (store_blocks (sound_store h e)).few

  -- the places that the first empties are none from which the second takes
  empty_away : (q : ℕ) → filled t n q ≡ false → Away q y.taken
  empty_away q f = all_map _ _ y.taken (λ z r p. clash (filled t n q) (ap (filled t n) p ∙ r.stands) f) then.stood

  emptied : All (λ z. filled t n (place_in z) ≡ false) ys
  emptied = all_map _ _ ys (λ z r. r tt) first.gone

  taken_away : (q : ℕ) → filled t n q ≡ true → Away q ys
  taken_away q f = all_map _ _ ys (λ z r p. clash (filled t n q) f (ap (filled t n) p ∙ r)) emptied

  stood_before : (z : Entry) → Stands t n z → Stands s n z
  stood_before z r =
      let o = first.others (place_in z) (stands_below t n z r) (taken_away (place_in z) r.stands) tt in
      record { low = r.low; high = r.high; small = r.small; stands = sym o.stands ∙ r.stands; names = sym o.names ∙ r.names }

  -- an inode that the first frees stays free
  still_free : (j : ℕ) → 1 ≤ j → j ≤ n → kind_of t j ≡ free_kind → kind_of u j ≢ free_kind → ⊥
  still_free j l m f g = none y.made used (fresh t n y first.sound (same_count s n (changes a t is ys []) h e first) then j l m f g)
    where
      none : (zs : List Entry) → All (λ z. kind_of t z.inode ≢ free_kind) zs → Some (λ z. z.inode ≡ j) zs → ⊥
      none [] r q = elim q [ ]
      none (z ∷ zs) r (inl p) = r.0 (ap (kind_of t) p ∙ f)
      none (z ∷ zs) r (inr p) = none zs r.1 p

  kinds : (j : ℕ) → 1 ≤ j → j ≤ n → kind_of s j ≢ free_kind → (kind_of u j ≡ kind_of s j) ⊎ (kind_of u j ≡ free_kind)
  kinds j l m z = elim (ℕ_discrete (kind_of u j) free_kind) as (λ _. (kind_of u j ≡ kind_of s j) ⊎ (kind_of u j ≡ free_kind)) [
    | yes f ↦ inr f
    | no f ↦ ⊎_elim
        (λ p. ⊎_elim (λ q. inl (q ∙ p)) inr (then.kinds j l m (λ w. z (sym p ∙ w))))
        (λ p. absurd (still_free j l m p f))
        (first.kinds j l m z)
  ]

  contents : (j : ℕ) → 1 ≤ j → j ≤ n → kind_of s j ≡ file_kind → kind_of u j ≢ free_kind → Apart j y.writes → Keeps s u n j
  contents j l m f g z =
      let p = first.contents j l m f (λ w. still_free j l m w g) tt in
      keeps_then (few j l m) p (then.contents j l m (p.body.kind ∙ f) g z)

  untouched : (j : ℕ) → 1 ≤ j → j ≤ n → kind_of s j ≢ free_kind → Apart j (is ++ y.touches) → Stays s u n j
  untouched j l m f z =
      let r = all_split _ is y.touches z in
      let p = first.untouched j l m f r.0 in
      stays_then (few j l m) p (then.untouched j l m (λ w. f (sym p.inode.kind ∙ w)) r.1)

  same_naming : (q : ℕ) → q < most_slots * n → Away q (ys ++ y.taken) → Away q y.made → SameNaming s u n q
  same_naming q l z w =
      let r = all_split _ ys y.taken z in
      let o = first.others q l r.0 tt in
      let p = then.others q l r.1 w in
      record { stands = p.stands ∙ o.stands; names = p.names ∙ o.names }

  gone_first : (z : Entry) → Stands s n z → filled t n (place_in z) ≡ false → Away (place_in z) y.made → filled u n (place_in z) ≡ false
  gone_first z r f w = (then.others (place_in z) (stands_below s n z r) (empty_away (place_in z) f) w).stands ∙ f

  bare_before : (z : Entry) → Stands u n z → (Away (place_in z) y.taken → filled t n (place_in z) ≡ false) → Away (place_in z) (ys ++ y.taken) → filled s n (place_in z) ≡ false
  bare_before z r b w =
      let p = all_split _ ys y.taken w in
      sym (first.others (place_in z) (stands_below u n z r) p.0 tt).stands ∙ b p.1

  pub lawful_then : Lawful s n (and_then (changes a t is ys []) y)
  lawful_then = record {
    sound = then.sound;
    frame = frame_then first.frame then.frame;
    stood = all_append _ ys y.taken first.stood (all_map _ _ y.taken stood_before then.stood);
    gone = all_append _ ys y.taken (all_map _ _ ys (λ z r. gone_first z r.0 r.1) (all_both _ _ ys first.stood emptied)) then.gone;
    stands = then.stands;
    bare = all_map _ _ y.made (λ z r. bare_before z r.0 r.1) (all_both _ _ y.made then.stands then.bare);
    distinct = distinct_append ys y.taken first.distinct then.distinct (all_map _ _ ys (λ z. empty_away (place_in z)) emptied);
    swaps = all_append _ ys y.taken (all_map _ _ ys (λ z r. all_map _ _ y.made (λ w g _. g) r) (all_swap _ y.made ys others)) then.swaps;
    others = same_naming;
    kinds = kinds;
    untouched = untouched;
    contents = contents;
    apart = λ j z.
        let r = all_split _ is y.touches z in
        let o = then.apart j r.1 in
        (all_append _ ys y.taken (first.apart j r.0).0 o.0, o.1);
  }
