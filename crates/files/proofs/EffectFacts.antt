-- What follows of any effect that obeys the laws: which inodes are freed and made, for which an entry is made, and whose entries keep their bytes. n is the inode count.
use Prim.Native.Nat.{ℕ, ◌*◌, ◌≤◌, ◌<◌}
use mathlib.Core.Path.{◌≡◌, sym, ap, ◌∙◌, subst}
use mathlib.Core.Logic.{◌≢◌, ◌⊎◌, inl, inr, ⊎_elim}
use mathlib.Core.Bool.{true, false}
use mathlib.Core.List.{List, [], ◌∷◌}
use native.Mathlib.Decide.{ℕ_discrete}
use native.Mathlib.Omega.{arith}
use Rattle.bounded.proofs.BoolLaws.{clash}
use Rattle.bounded.proofs.CountLaws.{met_at, met_once}
use Rattle.bounded.proofs.EachLaws.{All, Some, all_map, all_both, some_map, some_none}
use Rattle.layout.specs.Sizes.{root_inode}
use Rattle.layout.specs.Inode.{kind_of, free_kind, file_kind, directory_kind}
use Rattle.directory.specs.Slot.{most_slots}
use Rattle.sound.specs.Place.{dir_of, filled, naming}
use Rattle.sound.specs.Sound.{Sound, inodes_in, blocks_in}
use Rattle.sound.proofs.PlaceLaws.{slot_is, filled_is, naming_filled}
use Rattle.sound.specs.declared.Form.TheVariants.{Store}
use Rattle.preservation.proofs.SameLaws.{same_body}
use Rattle.preservation.proofs.KeepLaws.{SamePlace, place_kept, Body, body_of}
use Rattle.preservation.proofs.StoreLaws.{sound_store}
use Rattle.files.specs.Effect.{Entry, place_in, Effect}
use Rattle.files.proofs.Lawful.{Apart, Away, Stands, Lawful}

-- place q is that of none of the entries, or of one, of which P holds
pub away_or : (P : Entry → Type 0) (q : ℕ) (ys : List Entry) → All P ys → Away q ys ⊎ Some (λ y. P y × (q ≡ place_in y)) ys
away_or P q [] a = inl tt
away_or P q (y ∷ ys) a = go (ℕ_discrete q (place_in y)) (away_or P q ys a.1)
  where
    go : Dec (q ≡ place_in y) → Away q ys ⊎ Some (λ z. P z × (q ≡ place_in z)) ys → Away q (y ∷ ys) ⊎ Some (λ z. P z × (q ≡ place_in z)) (y ∷ ys)
    go (yes e) r = inr (inl (a.0, e))
    go (no e) (inl r) = inl (e, r)
    go (no e) (inr r) = inr (inr r)

-- ---- a sound store
-- an inode in use, but the root, is named at a place
pub record NamedAt (s : List ℕ) (n j : ℕ) : Type 0 where
  pub place : ℕ
  pub below : place < most_slots * n
  pub names : naming s n place ≡ j

pub named_at : (s : List ℕ) (n b j : ℕ) → Body s n b → 1 ≤ j → j ≤ n → kind_of s j ≢ free_kind → j ≢ root_inode → NamedAt s n j
named_at s n b j h l m u r =
    let k = h.links j l m in
    let o = k.named u r in
    let c = k.counted in
    let q = met_at (naming s n) (most_slots * n) j (omega arith) in
    record { place = q.0; below = q.1; names = q.2 }

-- a place that names an inode is filled, and the inode is in use
names_filled : (s : List ℕ) (n q j : ℕ) → 1 ≤ j → naming s n q ≡ j → filled s n q ≡ true
names_filled s n q j l e = naming_filled s n q (omega arith)

names_used : (s : List ℕ) (n b q j : ℕ) → Body s n b → q < most_slots * n → 1 ≤ j → naming s n q ≡ j → kind_of s j ≢ free_kind
names_used s n b q j h l m e = λ z. (h.entries q l (names_filled s n q j m e)).used (ap (kind_of s) e ∙ z)

pub stands_below : (s : List ℕ) (n : ℕ) (y : Entry) → Stands s n y → place_in y < most_slots * n
stands_below s n y k = let a = k.low in let b = k.high in let l = k.small in omega arith

-- ---- what an effect leaves
module _ (s : List ℕ) (n : ℕ) (x : Effect) (h : Sound Store s) (e : n ≡ inodes_in s) (k : Lawful s n x) where
  pub same_count : n ≡ inodes_in x.store
  same_count = e ∙ sym k.frame.inodes

  before : Body s n (blocks_in s)
  before = body_of (sound_store h e)

  after : Body x.store n (blocks_in x.store)
  after = body_of (sound_store k.sound same_count)

  -- a place that names j before and is not taken from names j after; one that names j after and was not filled named j before
  still_names : (q j : ℕ) → q < most_slots * n → 1 ≤ j → naming s n q ≡ j → Away q x.taken → naming x.store n q ≡ j
  still_names q j l m z a = ⊎_elim
      (λ b. (k.others q l a b).names ∙ z)
      (λ y. absurd (some_none _ x.made (λ y p. clash (filled s n q) (names_filled s n q j m z) (ap (filled s n) p.1 ∙ p.0 (subst (λ (v : ℕ). Away v x.taken) p.1 a))) y))
      (away_or _ q x.made k.bare)

  named_before : (q j : ℕ) → q < most_slots * n → 1 ≤ j → naming x.store n q ≡ j → Away q x.made → naming s n q ≡ j
  named_before q j l m z b = ⊎_elim
      (λ a. sym (k.others q l a b).names ∙ z)
      (λ y. absurd (some_none _ x.taken (λ y p. clash (filled x.store n q) (names_filled x.store n q j m z) (ap (filled x.store n) p.1 ∙ p.0 (subst (λ (v : ℕ). Away v x.made) p.1 b))) y))
      (away_or _ q x.taken k.gone)

  -- an inode that comes into use is named by an entry that is made
  pub fresh : (j : ℕ) → 1 ≤ j → j ≤ n → kind_of s j ≡ free_kind → kind_of x.store j ≢ free_kind → Some (λ y. y.inode ≡ j) x.made
  fresh j l m f u =
      let r : j ≢ root_inode = λ z. let a = sym (ap (kind_of s) z) ∙ f in let b = before.root in omega arith in
      let q = named_at x.store n _ j after l m u r in
      ⊎_elim
      (λ b. absurd (names_used s n _ q.place j before q.below l (named_before q.place j q.below l q.names b) f))
      (some_map _ _ x.made (λ y p. sym p.0.names ∙ ap (naming x.store n) (sym p.1) ∙ q.names))
      (away_or _ q.place x.made k.stands)

  -- an inode that is freed was named by an entry that is taken
  pub freed : (j : ℕ) → 1 ≤ j → j ≤ n → kind_of s j ≢ free_kind → kind_of x.store j ≡ free_kind → Some (λ y. y.inode ≡ j) x.taken
  freed j l m u f =
      let r : j ≢ root_inode = λ z. let a = sym (ap (kind_of x.store) z) ∙ f in let b = after.root in omega arith in
      let q = named_at s n _ j before l m u r in
      ⊎_elim
      (λ a. absurd (names_used x.store n _ q.place j after q.below l (still_names q.place j q.below l q.names a) f))
      (some_map _ _ x.taken (λ y p. sym p.0.names ∙ ap (naming s n) (sym p.1) ∙ q.names))
      (away_or _ q.place x.taken k.stood)

  -- and touched
  pub freed_touched : (j : ℕ) → 1 ≤ j → j ≤ n → kind_of s j ≢ free_kind → kind_of x.store j ≡ free_kind → Apart j x.touches → ⊥
  freed_touched j l m u f a = u (sym (k.untouched j l m u a).inode.kind ∙ f)

  -- the inode of an entry that stays keeps its kind
  pub kept_kind : (q : ℕ) → q < most_slots * n → filled s n q ≡ true → Away q x.taken → Away q x.made → kind_of x.store (naming s n q) ≡ kind_of s (naming s n q)
  kept_kind q l f a b =
      let o = before.entries q l f in
      let y = k.others q l a b in
      let z = after.entries q l (y.stands ∙ f) in
      ⊎_elim (λ p. p) (λ p. absurd (z.used (ap (kind_of x.store) y.names ∙ p))) (k.kinds (naming s n q) o.low o.high o.used)

  -- the entries of a directory that is not touched stand as they stood, with their 16 bytes
  pub same_place : (q : ℕ) → q < most_slots * n → filled s n q ≡ true → Apart (dir_of q) x.touches → SamePlace s x.store n q
  same_place q l f a =
      let d = ((slot_is s q).to ((filled_is s n q).to f).0).0 in
      let u : kind_of s (dir_of q) ≢ free_kind = λ z. omega arith in
      let y = k.untouched (dir_of q) (omega arith) (omega arith) u a in
      place_kept s x.store n q (same_body y.inode) (λ j _ m. y.bytes j m)

  -- an entry is made for an inode that was free, or for a file, or for one of which the same call takes an entry: for a directory in use only by a move
  abbrev pub MadeFor : Entry → Type 0
  MadeFor y = (kind_of s y.inode ≡ free_kind) ⊎ ((kind_of s y.inode ≡ file_kind) ⊎ Some (λ z. z.inode ≡ y.inode) x.taken)

  made_one : (y : Entry) → Stands x.store n y → (Away (place_in y) x.taken → filled s n (place_in y) ≡ false) → MadeFor y
  made_one y st bare = go (ℕ_discrete (kind_of s y.inode) free_kind)
    where
      at : naming x.store n (place_in y) ≡ y.inode
      at = st.names

      low : 1 ≤ y.inode
      low = subst (λ (z : ℕ). 1 ≤ z) at (after.entries (place_in y) (stands_below x.store n y st) st.stands).low

      high : y.inode ≤ n
      high = subst (λ (z : ℕ). z ≤ n) at (after.entries (place_in y) (stands_below x.store n y st) st.stands).high

      used : kind_of x.store y.inode ≢ free_kind
      used = names_used x.store n _ (place_in y) y.inode after (stands_below x.store n y st) low at

      not_root : y.inode ≢ root_inode
      not_root z = (after.entries (place_in y) (stands_below x.store n y st) st.stands).not_root (at ∙ z)

      -- a directory that was in use: the place that named it would be a second one
      directory : kind_of s y.inode ≢ free_kind → kind_of s y.inode ≡ directory_kind → Some (λ z. z.inode ≡ y.inode) x.taken
      directory u d =
          let q = named_at s n _ y.inode before low high u not_root in
          let kind : kind_of x.store y.inode ≡ directory_kind = ⊎_elim (λ p. p ∙ d) (λ p. absurd (used p)) (k.kinds y.inode low high u) in
          let one = after.links y.inode low high in
          let single = sym one.counted ∙ one.one kind not_root in
          ⊎_elim
          (λ a.
          let same : q.place ≡ place_in y = met_once (naming x.store n) (most_slots * n) q.place (place_in y) y.inode single q.below (stands_below x.store n y st)
          (still_names q.place y.inode q.below low q.names a) at in
          absurd (clash (filled s n q.place) (names_filled s n q.place y.inode low q.names) (ap (filled s n) same ∙ bare (subst (λ (z : ℕ). Away z x.taken) same a))))
          (some_map _ _ x.taken (λ z p. sym p.0.names ∙ ap (naming s n) (sym p.1) ∙ q.names))
          (away_or _ q.place x.taken k.stood)

      go : Dec (kind_of s y.inode ≡ free_kind) → MadeFor y
      go (yes f) = inl f
      go (no u) = elim (ℕ_discrete (kind_of s y.inode) file_kind) as (λ _. MadeFor y) [
        | yes f ↦ inr (inl f)
        | no v ↦ inr (inr (directory u (let m = (before.inodes y.inode low high).kind in omega arith)))
      ]

  pub made_for : All MadeFor x.made
  made_for = all_map _ _ x.made (λ y p. made_one y p.0 p.1) (all_both _ _ x.made k.stands k.bare)
