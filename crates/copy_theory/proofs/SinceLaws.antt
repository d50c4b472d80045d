-- What is known of an image's entries and inodes since the start holds just after it, and after every deed.
use Prim.Native.Nat.{ℕ, suc, ◌≤◌}
use mathlib.Core.Path.{◌≡◌, refl, sym, ap, ◌∙◌}
use mathlib.Core.Logic.{◌≢◌, inl, inr}
use mathlib.Core.Bool.{true}
use native.Mathlib.Nat.{le-suc_iff}
use native.Mathlib.Omega.{arith}
use native.Mathlib.Decide.{ℕ_discrete}
use Rattle.bounded.proofs.BoolLaws.{clash}
use Rattle.sound.specs.Place.{dir_of}
use Rattle.copy_theory.specs.View.{View}
use Rattle.copy_theory.specs.Deed.{Alike, Closed, Deed}
use Rattle.copy_theory.specs.Holds.{Holds, Fresh}
use Rattle.copy_theory.specs.History.{Names, Spell, Waits, Seen, Since}
use Rattle.copy_theory.proofs.LightLaws.{alike_on, Light, light_or_closed, name_was, old_was, copied_was}
use Rattle.copy_theory.proofs.HoldsClosed.{copied_l, copied_before, same_name_lem, same_entry, new_name, new_entry, new_unmarked, uncopied_l}

module _ (t : ℕ → View) where
  -- at one moment, and at one more
  names_once : {a p i : ℕ} → (t a).store.names p ≡ i → Names t a a p i
  names_once {a} {p} e m l u = let s : m ≡ a = omega arith in ap (λ (x : ℕ). (t x).store.names p) s ∙ e

  names_more : {a j p i : ℕ} → Names t a j p i → (t (suc j)).store.names p ≡ i → Names t a (suc j) p i
  names_more {j = j} {p = p} f e m l u = elim (le-suc_iff.0 u) [ inl x ↦ f m l x | inr s ↦ ap (λ (x : ℕ). (t x).store.names p) s ∙ e ]

  pub since_fresh : Fresh (t 0) → Since t 0
  since_fresh f = record {
    old = λ p m z. names_once refl;
    seen = λ i k. absurd (clash _ k (f.copied i));
    waits = λ p z k. absurd (z (f.names p));
    spells = λ p z k. absurd (z (f.names p));
  }

  -- an entry and its inode that the image keeps from j to the next moment
  spell_on : {j p : ℕ} → (t (suc j)).image.names p ≡ (t j).image.names p → (t (suc j)).image.entry p ≡ (t j).image.entry p
      → Alike (t j).image (t (suc j)).image ((t j).image.names p) → Spell t j p → Spell t (suc j) p
  spell_on {j} {p} n e a s = record {
    from = s.from;
    to = s.to;
    entry_at = s.entry_at;
    inode_at_lem = s.inode_at_lem;
    past = omega (arith, s.past);
    from_entry = s.from_entry;
    entry_to = s.entry_to;
    from_inode = s.from_inode;
    inode_to = s.inode_to;
    names = rw n s.names;
    entry = e ∙ s.entry;
    inode = rw n (alike_on s.inode a);
  }

  -- an entry that the image keeps stood in its directory at whatever moment m it did before
  slots_on : {j p m : ℕ} → (t (suc j)).image.names p ≡ (t j).image.names p → (t (suc j)).image.entry p ≡ (t j).image.entry p → (t (suc j)).image.names p ≢ 0
      → ((t j).image.names p ≢ 0 → ((t m).store.names p ≡ (t j).image.names p) × ((t j).image.entry p ≡ (t m).store.entry p))
      → ((t m).store.names p ≡ (t (suc j)).image.names p) × ((t (suc j)).image.entry p ≡ (t m).store.entry p)
  slots_on n e z f = let x = f (λ u. z (n ∙ u)) in (x.0 ∙ sym n, e ∙ x.1)

  waits_on : {j p : ℕ} → (t (suc j)).image.names p ≡ (t j).image.names p → (t (suc j)).image.entry p ≡ (t j).image.entry p
      → (t (suc j)).store.names p ≡ (t (suc j)).image.names p → Waits t j p → Waits t (suc j) p
  waits_on n e s r = record {
    from = r.from;
    past = omega (arith, r.past);
    names = names_more (rw n r.names) s;
    entry = e ∙ r.entry;
  }

  module _ (n j : ℕ) (h₀ : Holds n (t j)) (h : Holds n (t (suc j))) (s : Since t j) where
    -- 0 is never copied
    not_zero : (i : ℕ) → (t (suc j)).copied i ≡ true → i ≢ 0
    not_zero i k z = clash ((t (suc j)).copied i) k (ap (t (suc j)).copied z ∙ h.zero_not)

    since_light : Light (t j) (t (suc j)) → Since t (suc j)
    since_light e = record {
      old = λ p m z. let r = old_was e p z m in names_more (rw r.0 (s.old p r.1 (λ u. z (r.0 ∙ u)))) refl;
      seen = λ i k.
          let r = s.seen i (copied_was e i k) in
          record {
            at = r.at;
            past = omega (arith, r.past);
            inode = alike_on r.inode (e.inodes i);
            links = λ p q. r.links p (sym (name_was e p (λ u. not_zero i k (sym q ∙ u))) ∙ q);
            slots = λ p d z. slots_on (name_was e p z) (e.entries p z) z (r.slots p d);
          };
      waits = λ p z k.
          let a = name_was e p z in
          waits_on a (e.entries p z) (h.stands p z k) (s.waits p (λ u. z (a ∙ u)) (cc (e.copied ((t (suc j)).image.names p))));
      spells = λ p z k.
          let a = name_was e p z in
          spell_on a (e.entries p z) (e.inodes ((t j).image.names p)) (s.spells p (λ u. z (a ∙ u)) (cc (copied_was e ((t (suc j)).image.names p) k)));
    }

    module _ (l : ℕ) (e : Closed (t j) (t (suc j)) l) where
      -- an entry whose inode l is closed, and has been named since a
      closed_spell : (p a : ℕ) → a ≤ j → Names t a j p l → (t (suc j)).image.names p ≡ l → (t (suc j)).image.entry p ≡ (t a).store.entry p → Spell t (suc j) p
      closed_spell p a b f g x = record {
        from = a;
        to = j;
        entry_at = a;
        inode_at_lem = j;
        past = omega arith;
        from_entry = omega arith;
        entry_to = b;
        from_inode = b;
        inode_to = omega arith;
        names = rw g f;
        entry = x;
        inode = rw g e.whole;
      }

      -- an entry of l whose inode was copied before: it has stood since the start
      old_spell : (p : ℕ) → dir_of p ≡ l → (t (suc j)).image.names p ≢ 0 → (t (suc j)).image.names p ≢ l → (t (suc j)).copied ((t (suc j)).image.names p) ≡ true → Spell t (suc j) p
      old_spell p d z g k =
          let a = new_name e p d z in
          let c : (t j).copied ((t (suc j)).image.names p) ≡ true = sym (copied_before e ((t (suc j)).image.names p) g) ∙ k in
          let r = s.seen ((t (suc j)).image.names p) c in
          record {
            from = 0;
            to = j;
            entry_at = j;
            inode_at_lem = r.at;
            past = omega arith;
            from_entry = omega arith;
            entry_to = omega arith;
            from_inode = omega arith;
            inode_to = r.past;
            names = rw a (s.old p (new_unmarked e p d z (cc)) (λ u. z (a ∙ u)));
            entry = new_entry e p d z;
            inode = alike_on r.inode (e.others ((t (suc j)).image.names p) g);
          }

      -- wherever the image names l once it is closed, the store names it
      names_closed : (i : ℕ) → (t (suc j)).copied i ≡ true → i ≡ l → (p : ℕ) → (t (suc j)).image.names p ≡ i → (t j).store.names p ≡ i
      names_closed i k g p q =
          let z : (t (suc j)).image.names p ≢ 0 = λ u. not_zero i k (sym q ∙ u) in
          elim (ℕ_discrete (dir_of p) l) [
            | yes d ↦ sym (new_name e p d z) ∙ q
            | no d ↦
                let a = same_name_lem e p d in
                h₀.stands p (λ u. z (a ∙ u)) (ap (t j).copied (sym a ∙ q ∙ g) ∙ uncopied_l n (t j) (t (suc j)) l h₀ e) ∙ sym a ∙ q
          ]

      -- and wherever it names an inode that was copied before, the store named it at that inode's moment
      names_before : (i : ℕ) → (t (suc j)).copied i ≡ true → i ≢ l → (r : Seen t j i)
          → (p : ℕ) → (t (suc j)).image.names p ≡ i → (t r.at).store.names p ≡ i
      names_before i k g r p q =
          let z : (t (suc j)).image.names p ≢ 0 = λ u. not_zero i k (sym q ∙ u) in
          elim (ℕ_discrete (dir_of p) l) [
            | yes d ↦
                let a = new_name e p d z in
                let c : (t j).copied ((t j).store.names p) ≡ true = ap (t j).copied (sym a ∙ q) ∙ sym (copied_before e i g) ∙ k in
                s.old p (new_unmarked e p d z c) (λ u. z (a ∙ u)) r.at (omega arith) r.past ∙ sym a ∙ q
            | no d ↦ r.links p (sym (same_name_lem e p d) ∙ q)
          ]

      since_closed : Since t (suc j)
      since_closed = record {
        old = λ p m z.
            let a : (t (suc j)).store.names p ≡ (t j).store.names p = cc e.store in
            names_more (rw a (s.old p (sym (e.marked p) ∙ m) (λ u. z (a ∙ u)))) refl;
        seen = λ i k. elim (ℕ_discrete i l) [
          | yes g ↦ record {
            at = j;
            past = omega arith;
            inode = rw g e.whole;
            links = names_closed i k g;
            slots = λ p d z. (sym (new_name e p (d ∙ g) z), new_entry e p (d ∙ g) z);
          }
          | no g ↦
              let r = s.seen i (sym (copied_before e i g) ∙ k) in
              record {
                at = r.at;
                past = omega (arith, r.past);
                inode = alike_on r.inode (e.others i g);
                links = names_before i k g r;
                slots = λ p d z.
                    let o : dir_of p ≢ l = λ u. g (sym d ∙ u) in
                    let a = same_name_lem e p o in
                    slots_on a (same_entry e p o (λ u. z (a ∙ u))) z (r.slots p d);
              }
        ];
        waits = λ p z k. elim (ℕ_discrete (dir_of p) l) [
          | yes d ↦ record {
            from = suc j;
            past = omega arith;
            names = names_once (h.stands p z k);
            entry = new_entry e p d z ∙ ap (λ x. x.entry p) (sym e.store);
          }
          | no d ↦
              let a = same_name_lem e p d in
              let y : (t j).image.names p ≢ 0 = λ u. z (a ∙ u) in
              let g : (t (suc j)).image.names p ≢ l = λ u. clash ((t (suc j)).copied ((t (suc j)).image.names p)) (cc (copied_l e)) k in
              waits_on a (same_entry e p d y) (h.stands p z k) (s.waits p y (cc (copied_before e ((t (suc j)).image.names p) g)))
        ];
        spells = λ p z k. elim (ℕ_discrete (dir_of p) l) [
          | yes d ↦ elim (ℕ_discrete ((t (suc j)).image.names p) l) [
            | yes g ↦ closed_spell p j (omega arith) (names_once (sym (new_name e p d z) ∙ g)) g (new_entry e p d z)
            | no g ↦ old_spell p d z g k
          ]
          | no d ↦
              let a = same_name_lem e p d in
              let y : (t j).image.names p ≢ 0 = λ u. z (a ∙ u) in
              let x = same_entry e p d y in
              elim (ℕ_discrete ((t (suc j)).image.names p) l) [
                | yes g ↦
                    let r = s.waits p y (cc (uncopied_l n (t j) (t (suc j)) l h₀ e)) in
                    closed_spell p r.from r.past (λ m c f. r.names m c f ∙ sym a ∙ g) g (x ∙ r.entry)
                | no g ↦ spell_on a x (rw a at (e.others ((t (suc j)).image.names p) g)) (s.spells p y (cc (copied_before e ((t (suc j)).image.names p) g)))
              ]
        ];
      }

pub since_does : (t : ℕ → View) (n j : ℕ) → Holds n (t j) → Holds n (t (suc j)) → Deed n (t j) (t (suc j)) → Since t j → Since t (suc j)
since_does t n j h₀ h d s = elim (light_or_closed d) [ inl e ↦ since_light t n j h₀ h s e | inr r ↦ since_closed t n j h₀ h s r.0 r.1 ]
