-- Laws of names: the test for a legal name and what it says, and names that agree in 14 bytes.
use Prim.Native.Nat.{ℕ, ◌≤◌, ◌<◌}
use mathlib.Core.Path.{◌≡◌}
use mathlib.Core.Bool.{true}
use mathlib.Core.List.{List}
use native.Mathlib.Omega.{arith}
use native.Mathlib.Decide.{dec_lt}
use lib.ListN.{length, get_or}
use Rattle.bounded.specs.Reflect.{Reflects}
use Rattle.bounded.proofs.ReflectLaws.{r_eq, r_le, r_and, r_not, r_all, r_says}
use Rattle.names.specs.Name.{name_bytes, slash, dot, plain_byte, is_dots, legal_name, Legal}

-- ---- a legal name
-- byte k is neither 0 nor a slash
abbrev pub Plain : List ℕ → ℕ → Type 0
Plain name k = (get_or name k 0 ≡ 0 → ⊥) × (get_or name k 0 ≡ slash → ⊥)

pub plain_byte_lem : (name : List ℕ) (k : ℕ) → Reflects (plain_byte name k) (Plain name k)
unfolding plain_byte
plain_byte_lem name k = r_and (r_not (r_eq (get_or name k 0) 0)) (r_not (r_eq (get_or name k 0) slash))

abbrev pub Dots : List ℕ → Type 0
Dots name = (length name ≤ 2) × ((k : ℕ) → k < length name → get_or name k 0 ≡ dot)

pub dots : (name : List ℕ) → Reflects (is_dots name) (Dots name)
unfolding is_dots
dots name = r_and (r_le (length name) 2) (r_all (length name) (λ k. r_eq (get_or name k 0) dot))

-- the tests' propositions, in their order
abbrev Tests : List ℕ → Type 0
Tests name = (1 ≤ length name) × ((length name ≤ name_bytes) × (((k : ℕ) → k < length name → Plain name k) × (Dots name → ⊥)))

-- one dot, and two
pub one_dot : (name : List ℕ) → length name ≡ 1 → get_or name 0 0 ≡ dot → Dots name
one_dot name n a = (omega arith, λ k l. let e : k ≡ 0 = omega arith in rw e a)

pub two_dots : (name : List ℕ) → length name ≡ 2 → get_or name 0 0 ≡ dot → get_or name 1 0 ≡ dot → Dots name
two_dots name n a b = (omega arith, λ k l. go k l (dec_lt k 1))
  where
    go : (k : ℕ) → k < length name → Dec (k < 1) → get_or name k 0 ≡ dot
    go k l (yes h) = let e : k ≡ 0 = omega arith in rw e a
    go k l (no h) = let e : k ≡ 1 = omega arith in rw e b

legal_says : (name : List ℕ) → Tests name → Legal name
legal_says name t =
    record {
      long = t.0;
      short = t.1.0;
      plain = t.1.1.0;
      not_dot = λ n a. t.1.1.1 (one_dot name n a);
      not_dots = λ n a b. t.1.1.1 (two_dots name n a b);
    }

legal_tests : (name : List ℕ) → Legal name → Tests name
legal_tests name h = (h.long, (h.short, (h.plain, λ d. go d (dec_lt (length name) 2))))
  where
    go : Dots name → Dec (length name < 2) → ⊥
    go d (yes l) = h.not_dot (omega (arith, h.long)) (d.1 0 (omega (arith, h.long)))
    go d (no l) = h.not_dots (omega (arith, d.0)) (d.1 0 (omega arith)) (d.1 1 (omega arith))

pub legal : (name : List ℕ) → Reflects (legal_name name) (Legal name)
unfolding legal_name
legal name =
    r_says (legal_says name) (legal_tests name)
    (r_and (r_le 1 (length name)) (r_and (r_le (length name) name_bytes) (r_and (r_all (length name) (plain_byte_lem name)) (r_not (dots name)))))

pub legal_bounds : (name : List ℕ) → legal_name name ≡ true → (1 ≤ length name) × (length name ≤ name_bytes)
legal_bounds name h = let l = (legal name).to h in (l.long, l.short)

pub legal_byte : (name : List ℕ) → legal_name name ≡ true → (k : ℕ) → k < length name → Plain name k
legal_byte name h = ((legal name).to h).plain

-- ---- names with no zero byte
abbrev pub Nonzero : List ℕ → Type 0
Nonzero name = (k : ℕ) → k < length name → get_or name k 0 ≡ 0 → ⊥

pub legal_nonzero : (name : List ℕ) → legal_name name ≡ true → Nonzero name
legal_nonzero name h k l = (legal_byte name h k l).0
