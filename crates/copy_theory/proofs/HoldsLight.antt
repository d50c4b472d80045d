-- What holds of a running copy holds just after a start, and after a light deed.
use Prim.Native.Nat.{ℕ, ◌≤◌}
use mathlib.Core.Path.{◌≡◌, sym, ◌∙◌, subst}
use mathlib.Core.Logic.{◌≢◌, ◌⊎◌, inl, inr}
use mathlib.Core.Bool.{Bool, true, false}
use native.Mathlib.Omega.{arith}
use native.Mathlib.Decide.{ℕ_discrete}
use Rattle.bounded.proofs.BoolLaws.{clash}
use Rattle.layout.specs.Sizes.{root_inode}
use Rattle.layout.specs.Inode.{free_kind, directory_kind}
use Rattle.sound.specs.Place.{dir_of}
use Rattle.copy_theory.specs.View.{View, Tidy}
use Rattle.copy_theory.specs.Holds.{Led, root, up, Holds, Fresh}
use Rattle.copy_theory.proofs.LightLaws.{Light, name_was, name_stays, stands_on, old_was, copied_was}

pub holds_fresh : (n : ℕ) (v : View) → Tidy n v.store → Fresh v → Holds n v
holds_fresh n v t f = record {
  tidy = t;
  lock = λ z. absurd (z f.locked);
  blank = λ i k. f.kind i;
  real = λ i k. absurd (clash _ k (f.copied i));
  zero_not = f.copied 0;
  root = λ k. absurd (clash _ k (f.copied root_inode));
  inside = λ p z. absurd (z (f.names p));
  high = λ p. omega (arith, f.names p);
  not_root = λ p u. omega (arith, f.names p);
  stands = λ p z k. absurd (z (f.names p));
  differ = λ p q l d z u. absurd (z (f.names p));
  named = λ i k z. absurd (clash _ k (f.copied i));
  one = λ p q z u k. absurd (z (f.names p));
  home = λ p z k. absurd (z (f.names p));
  led = λ i k. absurd (no_kind i k);
  old = λ p z m k. absurd (no_kind (v.store.names p) k);
}
  where
    no_kind : (i : ℕ) → v.image.kind i ≡ directory_kind → ⊥
    no_kind i k = omega (arith, f.kind i)

-- parents lead on where copied inodes stay copied, with their parents
pub led_on : {c d : ℕ → Bool} {f g : ℕ → ℕ} {x : ℕ} → ((i : ℕ) → c i ≡ true → (d i ≡ true) × (g i ≡ f i)) → Led c f x → Led d g x
led_on h root = root
led_on {d = d} {g = g} h (up x k r) = up x (h x k).0 (subst (Led d g) (sym (h x k).1) (led_on h r))

-- what a view must have for its lock, besides the rest
pub record LockNew (n : ℕ) (v : View) : Type 0 where
  pub high : v.locked ≤ n
  pub new : v.copied v.locked ≡ false
  pub by : (v.locked ≡ root_inode) ⊎ ((p : ℕ) × (v.image.names p ≡ v.locked))

module _ (n : ℕ) (v w : View) (h : Holds n v) (e : Light v w) (t : Tidy n w.store) (lock : w.locked ≢ 0 → LockNew n w) where
  stands : (p : ℕ) → w.image.names p ≢ 0 → w.copied (w.image.names p) ≡ false → w.store.names p ≡ w.image.names p
  stands p z k =
      let a = name_was e p z in
      let b = e.copied (w.image.names p) in
      let s : v.store.names p ≡ v.image.names p = h.stands p (λ u. z (cc)) (cc) in
      stands_on e p s (cc) z ∙ s ∙ sym a

  used : (w.locked ≢ 0) → LockNew n w → w.store.kind w.locked ≢ free_kind
  used z r u = elim r.by [
    | inl g ↦ let k : w.store.kind w.locked ≡ directory_kind = cc t.root in omega arith
    | inr g ↦
        let s = stands g.0 (λ x. z (cc g.1)) (cc (g.1, r.new)) in
        t.used g.0 (λ x. z (cc g.1)) (cc g.1)
  ]

  kind : (i : ℕ) → w.image.kind i ≡ directory_kind → v.image.kind i ≡ directory_kind
  kind i k = sym (e.inodes i).kind ∙ k

  pub holds_light : Holds n w
  holds_light = record {
    tidy = t;
    lock = λ z. let r = lock z in record { high = r.high; new = r.new; used = used z r; by = r.by };
    blank = λ i k. (e.inodes i).kind ∙ h.blank i (sym (e.copied i) ∙ k);
    real = λ i k u. h.real i (copied_was e i k) (sym (e.inodes i).kind ∙ u);
    zero_not = e.copied 0 ∙ h.zero_not;
    root = λ k. let r = h.root (copied_was e root_inode k) in ((e.inodes root_inode).kind ∙ r.0, (e.inodes root_inode).parent ∙ r.1);
    inside = λ p z. let a = name_was e p z in (e.inodes (dir_of p)).kind ∙ h.inside p (λ u. z (a ∙ u));
    high = λ p. elim (ℕ_discrete (w.image.names p) 0) [ yes u ↦ omega arith | no z ↦ omega (arith, name_was e p z, h.high p) ];
    not_root = λ p u. h.not_root p (sym (name_was e p (λ z. omega arith)) ∙ u);
    stands = stands;
    differ = λ p q l d z u.
        let a = name_was e p z in
        let b = name_was e q u in
        rw (e.entries p z, e.entries q u) (h.differ p q l d (λ x. z (a ∙ x)) (λ x. u (b ∙ x)));
    named = λ i k z. let r = h.named i (copied_was e i k) z in (r.0, name_stays e r.0 (cc (copied_was e i k, r.1)) ∙ r.1);
    one = λ p q z u k.
        let a = name_was e p z in
        let b = name_was e q (λ x. z (u ∙ x)) in
        h.one p q (λ x. z (a ∙ x)) (cc) (cc (kind (w.image.names p) k));
    home = λ p z k.
        let a = name_was e p z in
        let r = h.home p (λ x. z (a ∙ x)) (cc (kind (w.image.names p) k)) in
        cc (e.inodes (w.image.names p)).parent;
    led = λ i k. led_on (λ x y. (e.copied x ∙ y, (e.inodes x).parent)) (h.led i (kind i k));
    old = λ p z m k.
        let r = old_was e p z m in
        e.copied (dir_of p) ∙ h.old p (λ x. z (r.0 ∙ x)) r.1 (cc (kind (w.store.names p) k, r.0));
  }
