-- Tests and the propositions that they decide, built side by side.
use mathlib.Core.Path.{◌≡◌, refl, ap, subst}
use mathlib.Core.Bool.{Bool, true, false, not, ◌&&◌, ◌||◌}
use mathlib.Core.Logic.{◌⊎◌, inl, inr, ⊎_elim}
use Prim.Native.Nat.{ℕ, ◌≤◌, ◌<◌}
use borrow.Author.Tests.{lt-ltb, le-leb, eq-eqb, ltb-true, leb-true, eqb-true, not-true}
use lib.Dec.{leb, ltb, eqb}
use Rattle.bounded.specs.Below.{all_below, some_below, all_to}
use Rattle.bounded.specs.Count.{differ_b, Differ}
use Rattle.bounded.specs.Climb.{Leads, leads_b, Closed}
use Rattle.bounded.specs.Reflect.{Reflects}
use Rattle.bounded.proofs.BoolLaws.{and-true, and_left, and_right, or_l, or_r, or_right, or_cases, clash, fails, holds_or_fails, same_test}
use Rattle.bounded.proofs.BelowLaws.{all_at, all_of, to_at, to_of, some_at, some_of}
use Rattle.bounded.proofs.CountLaws.{differ_prop, differ_bool}
use Rattle.bounded.proofs.ClimbLaws.{leads_prop, leads_bool}

pub r_eq : (a b : ℕ) → Reflects (eqb a b) (a ≡ b)
r_eq a b = record { to = eqb-true a b; from = eq-eqb a b }

pub r_le : (a b : ℕ) → Reflects (leb a b) (a ≤ b)
r_le a b = record { to = leb-true a b; from = le-leb a b }

pub r_lt : (a b : ℕ) → Reflects (ltb a b) (a < b)
r_lt a b = record { to = ltb-true a b; from = lt-ltb a b }

pub r_true : (b : Bool) → Reflects b (b ≡ true)
r_true b = record { to = λ e. e; from = λ e. e }

pub r_false : (b : Bool) → Reflects (not b) (b ≡ false)
r_false b = record { to = not-true b; from = λ e. ap not e }

pub r_and : {a b : Bool} {P Q : Type 0} → Reflects a P → Reflects b Q → Reflects (a && b) (P × Q)
r_and {a} {b} r s =
    record { to = λ e. (r.to (and_left a b e), s.to (and_right a b e)); from = λ p. and-true a b (r.from p.0) (s.from p.1) }

pub r_or : {a b : Bool} {P Q : Type 0} → Reflects a P → Reflects b Q → Reflects (a || b) (P ⊎ Q)
r_or {a} {b} r s =
    record {
      to = λ e. ⊎_elim (λ h. inl (r.to h)) (λ h. inr (s.to h)) (or_cases a b e);
      from = ⊎_elim (λ p. or_l a b (r.from p)) (λ q. or_r a b (s.from q));
    }

pub r_not : {a : Bool} {P : Type 0} → Reflects a P → Reflects (not a) (P → ⊥)
r_not {a} r = record { to = λ e p. clash a (r.from p) (not-true a e); from = λ h. ap not (fails a (λ e. h (r.to e))) }

-- where a holds, b holds; the test b may need what a says
pub r_where : {a b : Bool} {P Q : Type 0} → Reflects a P → (P → Reflects b Q) → Reflects (not a || b) (P → Q)
r_where {a} {b} r s = record { to = λ e p. (s p).to (imp_to a b e (r.from p)); from = λ f. imp_from a b (λ e. let p = r.to e in (s p).from (f p)) }
  where
    imp_to : (a b : Bool) → not a || b ≡ true → a ≡ true → b ≡ true
    imp_to true b e h = e
    imp_to false b e h = absurd (clash false h refl)

    imp_from : (a b : Bool) → (a ≡ true → b ≡ true) → not a || b ≡ true
    imp_from true b h = h refl
    imp_from false b h = refl

pub r_imp : {a b : Bool} {P Q : Type 0} → Reflects a P → Reflects b Q → Reflects (not a || b) (P → Q)
r_imp r s = r_where r (λ p. s)

-- where a fails, b holds
pub r_else : {a b : Bool} {P Q : Type 0} → Reflects a P → Reflects b Q → Reflects (a || b) ((P → ⊥) → Q)
r_else {a} {b} {P} {Q} r s = record { to = λ e h. s.to (or_right a b (fails a (λ t. h (r.to t))) e); from = λ f. go (holds_or_fails a) f }
  where
    go : (a ≡ true) ⊎ (a ≡ false) → ((P → ⊥) → Q) → a || b ≡ true
    go (inl e) f = or_l a b e
    go (inr e) f = or_r a b (s.from (f (λ p. clash a (r.from p) e)))

-- both, where the test b may need what a says
pub r_then : {a b : Bool} {P Q : Type 0} → Reflects a P → (P → Reflects b Q) → Reflects (a && b) (P × Q)
r_then {a} {b} r s =
    record {
      to = λ e. let p = r.to (and_left a b e) in (p, (s p).to (and_right a b e));
      from = λ h. and-true a b (r.from h.0) ((s h.0).from h.1);
    }

-- at each number below n: the test for k may need k < n
pub r_below : {p : ℕ → Bool} {P : ℕ → Type 0} (n : ℕ) → ((k : ℕ) → k < n → Reflects (p k) (P k)) → Reflects (all_below p n) ((k : ℕ) → k < n → P k)
r_below {p} n r = record { to = λ e k l. (r k l).to (all_at p n e k l); from = λ h. all_of p n (λ k l. (r k l).from (h k l)) }

pub r_all : {p : ℕ → Bool} {P : ℕ → Type 0} (n : ℕ) → ((k : ℕ) → Reflects (p k) (P k)) → Reflects (all_below p n) ((k : ℕ) → k < n → P k)
r_all n r = r_below n (λ k l. r k)

-- at each of the numbers 1 to n
pub r_to : {p : ℕ → Bool} {P : ℕ → Type 0} (n : ℕ) → ((k : ℕ) → 0 < k → k ≤ n → Reflects (p k) (P k)) → Reflects (all_to p n) ((k : ℕ) → 0 < k → k ≤ n → P k)
r_to {p} n r = record { to = λ e k l m. (r k l m).to (to_at p n e k l m); from = λ h. to_of p n (λ k l m. (r k l m).from (h k l m)) }

-- at some number below n
pub r_some : {p : ℕ → Bool} {P : ℕ → Type 0} (n : ℕ) → ((k : ℕ) → Reflects (p k) (P k)) → Reflects (some_below p n) ((k : ℕ) × (k < n) × P k)
r_some {p} n r =
    record { to = λ e. (let s = some_at p n e in (s.0, s.1, (r s.0).to s.2)); from = λ s. some_of p n s.0 s.1 ((r s.0).from s.2) }

pub r_differ : (f : ℕ → ℕ) (m : ℕ) → Reflects (differ_b f m) (Differ f m)
r_differ f m = record { to = differ_prop f m; from = differ_bool f m }

pub r_leads : (D : ℕ → Type 0) (up : ℕ → ℕ) (a n d : ℕ) → Closed D up a n → D d → Reflects (leads_b up a n d) (Leads up a d)
r_leads D up a n d c p = record { to = leads_prop up a n d; from = leads_bool up a D n d c p }

-- the proposition in other words
pub r_says : {b : Bool} {P Q : Type 0} → (P → Q) → (Q → P) → Reflects b P → Reflects b Q
r_says f g r = record { to = λ e. f (r.to e); from = λ q. r.from (g q) }

-- another test that is equal
pub r_same : {a b : Bool} {P : Type 0} → a ≡ b → Reflects a P → Reflects b P
r_same {P = P} e r = subst (λ (x : Bool). Reflects x P) e r

-- the test fails just where the proposition does
pub r_no : {b : Bool} {P : Type 0} → Reflects b P → b ≡ false → P → ⊥
r_no {b} r e p = clash b (r.from p) e

pub r_fails : {b : Bool} {P : Type 0} → Reflects b P → (P → ⊥) → b ≡ false
r_fails {b} r h = fails b (λ e. h (r.to e))

-- two tests of one proposition are equal
pub reflects_ext : {a b : Bool} {P : Type 0} → Reflects a P → Reflects b P → a ≡ b
reflects_ext {a} {b} r s = same_test a b (λ e. s.from (r.to e)) (λ e. r.from (s.to e))
