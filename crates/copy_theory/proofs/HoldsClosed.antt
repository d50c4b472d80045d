-- What holds of a running copy holds after the locked inode l is closed: the image stays a tree.
use Prim.Native.Nat.{ℕ}
use mathlib.Core.Path.{◌≡◌, refl, sym, ◌∙◌, subst}
use mathlib.Core.Logic.{◌≢◌, inl, inr}
use mathlib.Core.Bool.{true, false}
use native.Mathlib.Omega.{arith}
use native.Mathlib.Decide.{ℕ_discrete}
use Rattle.bounded.specs.Update.{here, there}
use Rattle.bounded.proofs.BoolLaws.{clash, fails, holds}
use Rattle.layout.specs.Sizes.{root_inode}
use Rattle.layout.specs.Inode.{directory_kind}
use Rattle.sound.specs.Place.{dir_of}
use Rattle.copy_theory.specs.View.{View, Tidy}
use Rattle.copy_theory.specs.Deed.{elsewhere, skipped, taken, Closed}
use Rattle.copy_theory.specs.Holds.{Led, root, up, LockHolds, Holds}
use Rattle.copy_theory.proofs.HoldsLight.{led_on}

-- a directory of the image is copied
pub dir_copied : {n : ℕ} {v : View} (h : Holds n v) (i : ℕ) → v.image.kind i ≡ directory_kind → v.copied i ≡ true
dir_copied {v = v} h i k = holds (v.copied i) (λ u. omega (arith, h.blank i u))

-- the places and inodes of before: only l is new
module _ {v w : View} {l : ℕ} (e : Closed v w l) where
  pub copied_l : w.copied l ≡ true
  copied_l = elim (e.copied l) [ here g r ↦ r | there g r ↦ absurd (g refl) ]

  pub copied_before : (i : ℕ) → i ≢ l → w.copied i ≡ v.copied i
  copied_before i z = elim (e.copied i) [ here g r ↦ absurd (z g) | there g r ↦ r ]

  -- an image entry of another directory is as it was
  pub same_name_lem : (p : ℕ) → dir_of p ≢ l → w.image.names p ≡ v.image.names p
  same_name_lem p d = elim (e.slots p) [ elsewhere g r u ↦ r | skipped g _ _ _ ↦ absurd (d g) | taken g _ _ _ ↦ absurd (d g) ]

  pub same_entry : (p : ℕ) → dir_of p ≢ l → v.image.names p ≢ 0 → w.image.entry p ≡ v.image.entry p
  same_entry p d = elim (e.slots p) [ elsewhere g r u ↦ u | skipped g _ _ _ ↦ absurd (d g) | taken g _ _ _ ↦ absurd (d g) ]

  -- one of l's is the store's, and either unmarked or of an inode that was not copied
  pub new_name : (p : ℕ) → dir_of p ≡ l → w.image.names p ≢ 0 → w.image.names p ≡ v.store.names p
  new_name p d z = elim (e.slots p) [ elsewhere g _ _ ↦ absurd (g d) | skipped _ _ _ r ↦ absurd (z r) | taken _ _ r _ ↦ r ]

  pub new_entry : (p : ℕ) → dir_of p ≡ l → w.image.names p ≢ 0 → w.image.entry p ≡ v.store.entry p
  new_entry p d z = elim (e.slots p) [ elsewhere g _ _ ↦ absurd (g d) | skipped _ _ _ r ↦ absurd (z r) | taken _ _ r u ↦ u (λ x. z (r ∙ x)) ]

  pub new_unmarked : (p : ℕ) → dir_of p ≡ l → w.image.names p ≢ 0 → v.copied (v.store.names p) ≡ true → v.marked p ≡ false
  new_unmarked p d z k = elim (e.slots p) [ elsewhere g _ _ ↦ absurd (g d) | skipped _ _ _ r ↦ absurd (z r) | taken _ u _ _ ↦ fails (v.marked p) (λ m. u m k) ]

module _ (n : ℕ) (v w : View) (l : ℕ) (h : Holds n v) (e : Closed v w l) where
  lock : LockHolds n v
  lock = h.lock (λ z. e.real (sym e.was ∙ z))

  pub uncopied_l : v.copied l ≡ false
  uncopied_l = rw e.was at lock.new

  -- the copied of before are copied
  still : (i : ℕ) → v.copied i ≡ true → (i ≢ l) × (w.copied i ≡ true)
  still i k = let z : i ≢ l = λ g. clash _ k (cc (uncopied_l)) in (z, copied_before e i z ∙ k)

  kind_was : (i : ℕ) → i ≢ l → w.image.kind i ≡ directory_kind → v.image.kind i ≡ directory_kind
  kind_was i z k = sym (e.others i z).kind ∙ k

  kind_l : w.image.kind l ≡ directory_kind → v.store.kind l ≡ directory_kind
  kind_l k = sym e.whole.kind ∙ k

  -- an image entry of before stands in another directory
  apart : (p : ℕ) → v.image.names p ≢ 0 → dir_of p ≢ l
  apart p z = (still (dir_of p) (dir_copied h (dir_of p) (h.inside p z))).0

  -- one that names l is still that entry in the store
  stands_l : (p : ℕ) → v.image.names p ≡ l → v.store.names p ≡ l
  stands_l p g = h.stands p (λ z. e.real (sym g ∙ z)) (cc (uncopied_l)) ∙ g

  -- an entry of the store that names l, a directory, stands in a copied directory
  entry_l : (q : ℕ) → v.store.names q ≡ l → v.store.kind l ≡ directory_kind → v.copied (dir_of q) ≡ true
  entry_l q g k = elim lock.by [
    | inl u ↦ absurd (h.tidy.not_root q (cc e.was))
    | inr u ↦
        let a : v.image.names u.0 ≡ l = u.1 ∙ e.was in
        let s = stands_l u.0 a in
        let b : q ≡ u.0 = h.tidy.one q u.0 (λ z. e.real (cc)) (cc) (cc) in
        let d = dir_copied h (dir_of u.0) (h.inside u.0 (λ z. e.real (cc))) in cc
  ]

  -- no directory of the image gets a second entry
  no_second : (p : ℕ) → w.image.names p ≢ 0 → w.image.kind (w.image.names p) ≡ directory_kind → dir_of p ≢ l
  no_second p z k d =
      let a = new_name e p d z in
      let c : v.copied (dir_of p) ≡ true = elim (ℕ_discrete (w.image.names p) l) [
        | yes g ↦ entry_l p (cc) (kind_l (cc))
        | no g ↦
            let b : v.image.kind (v.store.names p) ≡ directory_kind = rw a at (kind_was (w.image.names p) g k) in
            h.old p (λ x. z (a ∙ x)) (new_unmarked e p d z (dir_copied h (v.store.names p) b)) b
      ] in
      (still (dir_of p) c).0 d

  leads : {x : ℕ} → Led v.copied v.image.parent x → Led w.copied w.image.parent x
  leads = led_on (λ i k. let s = still i k in (s.1, (e.others i s.0).parent))

  pub holds_closed : Tidy n w.store → Holds n w
  holds_closed t = record {
    tidy = t;
    lock = λ z. absurd (z e.now);
    blank = λ i k.
        let z : i ≢ l = λ g. clash (w.copied i) (cc (copied_l e)) k in
        (e.others i z).kind ∙ h.blank i (sym (copied_before e i z) ∙ k);
    real = λ i k u. elim (ℕ_discrete i l) [
      | yes g ↦ lock.used (cc (e.whole.kind, e.was))
      | no g ↦ h.real i (sym (copied_before e i g) ∙ k) (sym (e.others i g).kind ∙ u)
    ];
    zero_not = copied_before e 0 (λ g. e.real (sym g)) ∙ h.zero_not;
    root = λ k. elim (ℕ_discrete root_inode l) [
      | yes g ↦ (cc (e.whole.kind, h.tidy.root), cc (e.whole.parent, h.tidy.root_parent))
      | no g ↦ let r = h.root (sym (copied_before e root_inode g) ∙ k) in ((e.others root_inode g).kind ∙ r.0, (e.others root_inode g).parent ∙ r.1)
    ];
    inside = λ p z. elim (ℕ_discrete (dir_of p) l) [
      | yes g ↦ cc (e.whole.kind, h.tidy.inside p (λ u. z (new_name e p g z ∙ u)))
      | no g ↦ (e.others (dir_of p) g).kind ∙ h.inside p (λ u. z (same_name_lem e p g ∙ u))
    ];
    high = λ p. elim (e.slots p) [
      | elsewhere _ r _ ↦ omega (arith, h.high p)
      | skipped _ _ _ r ↦ omega arith
      | taken _ _ r _ ↦ omega (arith, h.tidy.high p)
    ];
    not_root = λ p u. elim (e.slots p) [
      | elsewhere _ r _ ↦ h.not_root p (sym r ∙ u)
      | skipped _ _ _ r ↦ omega arith
      | taken _ _ r _ ↦ h.tidy.not_root p (sym r ∙ u)
    ];
    stands = λ p z k. elim (ℕ_discrete (dir_of p) l) [
      | yes g ↦ cc (new_name e p g z, e.store)
      | no g ↦
          let a = same_name_lem e p g in
          let x : w.image.names p ≢ l = λ y. clash (w.copied (w.image.names p)) (cc (copied_l e)) k in
          let s = h.stands p (λ u. z (a ∙ u)) (cc (copied_before e (w.image.names p) x)) in
          cc e.store
    ];
    differ = λ p q o d z u. elim (ℕ_discrete (dir_of p) l) [
      | yes g ↦
          let f : dir_of q ≡ l = sym d ∙ g in
          rw (new_entry e p g z, new_entry e q f u) (h.tidy.differ p q o d (λ x. z (new_name e p g z ∙ x)) (λ x. u (new_name e q f u ∙ x)))
      | no g ↦
          let f : dir_of q ≢ l = λ x. g (d ∙ x) in
          let a : v.image.names p ≢ 0 = λ x. z (same_name_lem e p g ∙ x) in
          let b : v.image.names q ≢ 0 = λ x. u (same_name_lem e q f ∙ x) in
          rw (same_entry e p g a, same_entry e q f b) (h.differ p q o d a b)
    ];
    named = λ i k z.
        let on : (p : ℕ) → v.image.names p ≡ i → w.image.names p ≡ i =
        λ p u. same_name_lem e p (apart p (λ x. clash (w.copied i) k (cc (copied_before e 0 (λ y. e.real (sym y)), h.zero_not)))) ∙ u in
        elim (ℕ_discrete i l) [
          | yes g ↦ elim lock.by [
            | inl u ↦ absurd (z (g ∙ sym e.was ∙ u))
            | inr u ↦ (u.0, on u.0 (u.1 ∙ e.was ∙ sym g))
          ]
          | no g ↦ let r = h.named i (sym (copied_before e i g) ∙ k) z in (r.0, on r.0 r.1)
        ];
    one = λ p q z u k.
        let a = same_name_lem e p (no_second p z k) in
        let b = same_name_lem e q (no_second q (λ x. z (u ∙ x)) (cc)) in
        elim (ℕ_discrete (w.image.names p) l) [
          | yes g ↦
              let s = stands_l p (cc) in
              let r = stands_l q (cc) in
              h.tidy.one p q (λ x. z (cc)) (cc) (cc (kind_l (cc)))
          | no g ↦ h.one p q (λ x. z (a ∙ x)) (cc) (cc (kind_was (w.image.names p) g k))
        ];
    home = λ p z k.
        let a = same_name_lem e p (no_second p z k) in
        elim (ℕ_discrete (w.image.names p) l) [
          | yes g ↦
              let s = stands_l p (cc) in
              let r = h.tidy.home p (λ x. z (cc)) (cc (kind_l (cc))) in
              cc e.whole.parent
          | no g ↦
              let r = h.home p (λ x. z (a ∙ x)) (cc (kind_was (w.image.names p) g k)) in
              cc (e.others (w.image.names p) g).parent
        ];
    led = λ i k. elim (ℕ_discrete i l) [
      | yes g ↦ elim lock.by [
        | inl u ↦ let r : i ≡ root_inode = g ∙ sym e.was ∙ u in subst (Led w.copied w.image.parent) (sym r) root
        | inr u ↦
            let a : v.image.names u.0 ≡ l = u.1 ∙ e.was in
            let z : v.image.names u.0 ≢ 0 = λ x. e.real (sym a ∙ x) in
            let s = stands_l u.0 a in
            let r = h.tidy.home u.0 (λ x. e.real (sym s ∙ x)) (cc (kind_l (cc))) in
            let d : w.image.parent i ≡ dir_of u.0 = cc e.whole.parent in
            up i (cc (copied_l e)) (subst (Led w.copied w.image.parent) (sym d) (leads (h.led (dir_of u.0) (h.inside u.0 z))))
      ]
      | no g ↦ leads (h.led i (kind_was i g k))
    ];
    old = λ p z m k.
        let s : w.store.names p ≡ v.store.names p = cc e.store in
        let c : v.copied (dir_of p) ≡ true = elim (ℕ_discrete (w.store.names p) l) [
          | yes g ↦ entry_l p (sym s ∙ g) (kind_l (cc))
          | no g ↦ h.old p (λ x. z (s ∙ x)) (sym (e.marked p) ∙ m) (cc (kind_was (w.store.names p) g k))
        ] in
        (still (dir_of p) c).1;
  }
