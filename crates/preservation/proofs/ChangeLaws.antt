-- What a change of an entry does to the places of a store: one is emptied or filled, all others stay. And what it keeps of their names. n is the inode count.
use Prim.Native.Nat.{ℕ, ◌+◌, ◌*◌, ◌≤◌, ◌<◌}
use mathlib.Core.Path.{◌≡◌, sym, ap, ◌∙◌, subst}
use mathlib.Core.Logic.{◌≢◌}
use mathlib.Core.Bool.{true, false}
use mathlib.Core.List.{List}
use native.Mathlib.Decide.{ℕ_discrete, dec_lt}
use native.Mathlib.Omega.{arith}
use lib.ListN.{get_or}
use Rattle.bounded.specs.Reflect.{Reflects}
use Rattle.bounded.proofs.BoolLaws.{clash, fails}
use Rattle.bounded.proofs.ReflectLaws.{r_says, r_no, r_fails}
use Rattle.octets.specs.Octets.{part}
use Rattle.octets.proofs.PartLaws.{get_d_part}
use Rattle.names.specs.Name.{name_bytes, folded, legal_name}
use Rattle.names.specs.Entry.{name_at, same_name, legal_entry, entry_for}
use Rattle.names.proofs.EntryLaws.{named, entry_byte, legal_entry_lem}
use Rattle.directory.specs.Slot.{most_slots}
use Rattle.sound.specs.Place.{dir_of, slot_of, entry_at, filled, naming}
use Rattle.sound.specs.Entry.{EntrySound, same_names, sibling}
use Rattle.preservation.proofs.KeepLaws.{SamePlace, same_names_lem}

-- ---- the two changes
-- every place but p stays
abbrev pub OtherPlaces : List ℕ → List ℕ → ℕ → ℕ → Type 0
OtherPlaces s t n p = (q : ℕ) → q < most_slots * n → q ≢ p → SamePlace s t n q

-- no entry stands at p now
pub record Emptied (s t : List ℕ) (n p : ℕ) : Type 0 where
  pub stands : filled t n p ≡ false
  pub names : naming t n p ≡ 0
  pub others : OtherPlaces s t n p

-- the entry at p now names the inode i by name
pub record Filled (s t : List ℕ) (n p i : ℕ) (name : List ℕ) : Type 0 where
  pub stands : filled t n p ≡ true
  pub names : naming t n p ≡ i
  pub entry : entry_at t n p ≡ entry_for i name
  pub others : OtherPlaces s t n p

-- ---- a change, and then one that leaves all places
pub place_then : {s t u : List ℕ} {n p : ℕ} → SamePlace s t n p → SamePlace t u n p → SamePlace s u n p
place_then a b = record {
  stands = b.stands ∙ a.stands;
  names = b.names ∙ a.names;
  entry = λ e. b.entry (a.stands ∙ e) ∙ a.entry e;
}

module _ {s t u : List ℕ} {n p : ℕ} (l : p < most_slots * n) (h : (q : ℕ) → q < most_slots * n → SamePlace t u n q) where
  pub emptied_then : Emptied s t n p → Emptied s u n p
  emptied_then e = record {
    stands = (h p l).stands ∙ e.stands;
    names = (h p l).names ∙ e.names;
    others = λ q m z. place_then (e.others q m z) (h q m);
  }

  pub filled_then : {i : ℕ} {name : List ℕ} → Filled s t n p i name → Filled s u n p i name
  filled_then e = record {
    stands = (h p l).stands ∙ e.stands;
    names = (h p l).names ∙ e.names;
    entry = (h p l).entry e.stands ∙ e.entry;
    others = λ q m z. place_then (e.others q m z) (h q m);
  }

-- ---- the names of a directory
pub same_names_is : (s : List ℕ) (n p q : ℕ) → Reflects (same_names s n p q) ((k : ℕ) → k < name_bytes → folded (get_or (entry_at s n p) (name_at + k) 0) ≡ folded (get_or (entry_at s n q) (name_at + k) 0))
unfolding same_names
same_names_is s n p q =
    let e = entry_at s n q in
    r_says (λ f k l. f k l ∙ ap folded (get_d_part e name_at name_bytes k l)) (λ f k l. f k l ∙ ap folded (sym (get_d_part e name_at name_bytes k l)))
    (named (entry_at s n p) (part e name_at name_bytes))

-- "Names in a directory differ, and are legal"; an entry names an inode
pub record NamesSound (s : List ℕ) (n : ℕ) : Type 0 where
  pub legal : (p : ℕ) → p < most_slots * n → filled s n p ≡ true → legal_entry (entry_at s n p) ≡ true
  pub differ : (p q : ℕ) → p < most_slots * n → q < most_slots * n → dir_of p ≡ dir_of q → p < q → filled s n p ≡ true → filled s n q ≡ true → same_names s n p q ≡ false
  pub low : (p : ℕ) → p < most_slots * n → filled s n p ≡ true → 1 ≤ naming s n p

-- the entry at p is to have a name that no other of its directory has
abbrev pub NewName : List ℕ → ℕ → ℕ → List ℕ → Type 0
NewName s n p name = (q : ℕ) → q < most_slots * n → q ≢ p → dir_of q ≡ dir_of p → filled s n q ≡ true → same_name (entry_at s n q) name ≡ false

-- one that the entry at p has already is new there: no two of its directory have it
pub own_new : (s : List ℕ) (n p : ℕ) (name : List ℕ) → NamesSound s n → p < most_slots * n → filled s n p ≡ true → same_name (entry_at s n p) name ≡ true → NewName s n p name
own_new s n p name h m g own q l z d f = fails (same_name (entry_at s n q) name) (λ same. go same (dec_lt q p))
  where
    -- the names of both are this one
    both : same_name (entry_at s n q) name ≡ true → (k : ℕ) → k < name_bytes → folded (get_or (entry_at s n q) (name_at + k) 0) ≡ folded (get_or (entry_at s n p) (name_at + k) 0)
    both same k b = (named (entry_at s n q) name).to same k b ∙ sym ((named (entry_at s n p) name).to own k b)

    go : same_name (entry_at s n q) name ≡ true → Dec (q < p) → ⊥
    go same (yes b) = r_no (same_names_is s n q p) (h.differ q p l m d b f g) (both same)
    go same (no b) = r_no (same_names_is s n p q) (h.differ p q m l (sym d) (omega (arith, z)) g f) (λ k c. sym (both same k c))

-- it still is new where another place is emptied
pub new_emptied : (s t : List ℕ) (n p q : ℕ) (name : List ℕ) → Emptied s t n p → NewName s n q name → NewName t n q name
new_emptied s t n p q name e h r l z d f =
    let x = e.others r l (λ y. clash (filled t n r) f (ap (filled t n) y ∙ e.stands)) in
    let g = sym x.stands ∙ f in
    ap (λ (y : List ℕ). same_name y name) (x.entry g) ∙ h r l z d g

pub names_of : (s : List ℕ) (n : ℕ) → ((p : ℕ) → p < most_slots * n → filled s n p ≡ true → EntrySound s n p) → NamesSound s n
names_of s n h = record {
  legal = λ p l f. (h p l f).legal;
  differ = λ p q l m d o f g.
      let e : sibling q (slot_of p) ≡ p = omega arith in
      subst (λ (x : ℕ). same_names s n x q ≡ false) e ((h q m g).differ (slot_of p) (omega arith) (subst (λ (x : ℕ). filled s n x ≡ true) (sym e) f));
  low = λ p l f. (h p l f).low;
}

module _ (s t : List ℕ) (n : ℕ) (h : NamesSound s n) where
  -- two places that stay
  differ_else : (p q : ℕ) → p < most_slots * n → q < most_slots * n → dir_of p ≡ dir_of q → p < q → SamePlace s t n p → SamePlace s t n q → filled t n p ≡ true → filled t n q ≡ true → same_names t n p q ≡ false
  differ_else p q l m d o x y f g =
      let f' = sym x.stands ∙ f in
      let g' = sym y.stands ∙ g in
      same_names_lem s t n p q (x.entry f') (y.entry g') ∙ h.differ p q l m d o f' g'

  pub names_emptied : (p : ℕ) → Emptied s t n p → NamesSound t n
  names_emptied p e = record {
    legal = λ q l f. let x = e.others q l (other q f) in let g = sym x.stands ∙ f in ap legal_entry (x.entry g) ∙ h.legal q l g;
    differ = λ a b l m d o f g. differ_else a b l m d o (e.others a l (other a f)) (e.others b m (other b g)) f g;
    low = λ q l f. let x = e.others q l (other q f) in subst (λ (y : ℕ). 1 ≤ y) (sym x.names) (h.low q l (sym x.stands ∙ f));
  }
    where
      other : (q : ℕ) → filled t n q ≡ true → q ≢ p
      other q f z = clash (filled t n q) f (ap (filled t n) z ∙ e.stands)

  module _ (p i : ℕ) (name : List ℕ) (e : Filled s t n p i name) (o : 1 ≤ i) (g : legal_name name ≡ true) (new : NewName s n p name) where
    -- the new name, and that of another entry of its directory
    apart : (q : ℕ) → q < most_slots * n → q ≢ p → dir_of q ≡ dir_of p → filled t n q ≡ true
        → ((k : ℕ) → k < name_bytes → folded (get_or (entry_at t n q) (name_at + k) 0) ≡ folded (get_or (entry_at t n p) (name_at + k) 0)) → ⊥
    apart q l z d f same =
        let x = e.others q l z in
        let f' = sym x.stands ∙ f in
        r_no (named (entry_at s n q) name) (new q l z d f')
        (λ k m. ap (λ (y : List ℕ). folded (get_or y (name_at + k) 0)) (sym (x.entry f')) ∙ same k m ∙ ap (λ (y : List ℕ). folded (get_or y (name_at + k) 0)) e.entry ∙ ap folded (entry_byte i name k m))

    pub names_filled : NamesSound t n
    names_filled = record {
      legal = λ q l f. elim (ℕ_discrete q p) as (λ _. legal_entry (entry_at t n q) ≡ true) [
        | yes z ↦ ap (λ (x : ℕ). legal_entry (entry_at t n x)) z ∙ ap legal_entry e.entry ∙ legal_entry_lem i name g
        | no z ↦ let x = e.others q l z in let f' = sym x.stands ∙ f in ap legal_entry (x.entry f') ∙ h.legal q l f'
      ];
      differ = λ a b l m d k f r. two a b l m d k f r (ℕ_discrete a p) (ℕ_discrete b p);
      low = λ q l f. elim (ℕ_discrete q p) as (λ _. 1 ≤ naming t n q) [
        | yes z ↦ let x = ap (naming t n) z ∙ e.names in omega arith
        | no z ↦ let x = e.others q l z in subst (λ (y : ℕ). 1 ≤ y) (sym x.names) (h.low q l (sym x.stands ∙ f))
      ];
    }
      where
        two : (a b : ℕ) → a < most_slots * n → b < most_slots * n → dir_of a ≡ dir_of b → a < b → filled t n a ≡ true → filled t n b ≡ true → Dec (a ≡ p) → Dec (b ≡ p) → same_names t n a b ≡ false
        two a b l m d k f r (no x) (no y) = differ_else a b l m d k (e.others a l x) (e.others b m y) f r
        two a b l m d k f r (no x) (yes y) =
            r_fails (same_names_is t n a b) (λ same. apart a l x (d ∙ ap dir_of y) f (λ j w. same j w ∙ ap (λ (c : ℕ). folded (get_or (entry_at t n c) (name_at + j) 0)) y))
        two a b l m d k f r (yes x) y =
            r_fails (same_names_is t n a b)
            (λ same. apart b m (λ z. omega arith) (sym d ∙ ap dir_of x) r (λ j w. sym (same j w) ∙ ap (λ (c : ℕ). folded (get_or (entry_at t n c) (name_at + j) 0)) x))
