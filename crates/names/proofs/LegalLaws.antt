-- A legal entry by its bytes alone, with no name cut out: what the code tests.
use Rattle.std.specs.Prelude.{None, Option, Some}
use Prim.Native.Nat.{ℕ, zero, suc, ◌+◌, ◌-◌, ◌≤◌, ◌<◌}
use mathlib.Core.Path.{◌≡◌, refl, sym, ap, ◌∙◌}
use mathlib.Core.Bool.{Bool, true, not, ◌&&◌, ◌||◌}
use mathlib.Core.Logic.{◌⊎◌, inl, inr}
use mathlib.Core.List.{List}
use native.Mathlib.Omega.{arith}
use native.Mathlib.Decide.{dec_lt}
use borrow.Author.Tests.{eqb-true, eqb-false}
use lib.Dec.{eqb}
use lib.ListN.{length, get_or, get_or-eq_default}
use Rattle.bounded.specs.Below.{all_below}
use Rattle.bounded.specs.Search.{first, on_found}
use Rattle.bounded.specs.Reflect.{Reflects}
use Rattle.bounded.proofs.BoolLaws.{and-true}
use Rattle.bounded.proofs.SearchLaws.{found_lowest, none_below}
use Rattle.bounded.proofs.ReflectLaws.{r_eq, r_true, r_and, r_or, r_not, r_imp, r_all, r_says, reflects_ext}
use Rattle.octets.proofs.PartLaws.{length_inside, get_d_part}
use Rattle.names.specs.Name.{name_bytes, slash, dot, legal_name, Legal}
use Rattle.names.specs.Entry.{entry_bytes, name_at, spelled, name_length, entry_name, legal_entry}
use Rattle.names.proofs.NameLaws.{legal}
use Rattle.names.proofs.EntryLaws.{spelled_is, entry_legal}
use Rattle.names.specs.Words.{has_dots}

-- one dot or two, then a zero byte
abbrev Dotted : List ℕ → Type 0
Dotted e = (get_or e name_at 0 ≡ dot) × ((get_or e (name_at + 1) 0 ≡ 0) ⊎ ((get_or e (name_at + 1) 0 ≡ dot) × (get_or e (name_at + 2) 0 ≡ 0)))

pub dotted : (e : List ℕ) → Reflects (has_dots e) (Dotted e)
unfolding has_dots
dotted e =
    r_and (r_eq (get_or e name_at 0) dot)
    (r_or (r_eq (get_or e (name_at + 1) 0) 0) (r_and (r_eq (get_or e (name_at + 1) 0) dot) (r_eq (get_or e (name_at + 2) 0) 0)))

pub record Proper (e : List ℕ) : Type 0 where
  pub begins : get_or e name_at 0 ≡ 0 → ⊥
  pub plain : (k : ℕ) → k < name_bytes → get_or e (name_at + k) 0 ≡ slash → ⊥
  pub zeros : (k : ℕ) → suc k < name_bytes → get_or e (name_at + k) 0 ≡ 0 → get_or e (name_at + suc k) 0 ≡ 0
  pub undotted : Dotted e → ⊥

-- ---- where an entry's name ends
record Ends (e : List ℕ) (n : ℕ) : Type 0 where
  short : n ≤ name_bytes
  before : (k : ℕ) → k < n → get_or e (name_at + k) 0 ≡ 0 → ⊥
  end : n < name_bytes → get_or e (name_at + n) 0 ≡ 0

abbrev zero_at : List ℕ → ℕ → Bool
zero_at e k = eqb (get_or e (name_at + k) 0) 0

ends_at : (e : List ℕ) (r : Option ℕ) → first (zero_at e) name_bytes ≡ r → Ends e (on_found r (λ k. k) name_bytes)
unfolding first
ends_at e (Some t) q =
    let l = found_lowest (zero_at e) 0 name_bytes t q in
    record {
      short = omega (arith, l.below);
      before = λ k m. eqb-false (get_or e (name_at + k) 0) 0 (l.before k (omega arith) m);
      end = λ m. eqb-true (get_or e (name_at + t) 0) 0 l.holds;
    }
ends_at e None q =
    record {
      short = omega arith;
      before = λ k m. eqb-false (get_or e (name_at + k) 0) 0 (none_below (zero_at e) 0 name_bytes q k (omega arith) (omega arith));
      end = λ m. absurd (omega arith);
    }

ends : (e : List ℕ) → Ends e (name_length e)
unfolding name_length
ends e = ends_at e (first (zero_at e) name_bytes) refl

-- from a zero byte on all are zero
run : (e : List ℕ) → Proper e → (n i : ℕ) → get_or e (name_at + n) 0 ≡ 0 → n + i < name_bytes → get_or e (name_at + (n + i)) 0 ≡ 0
run e p n zero z l = let x : n + 0 ≡ n = omega arith in rw x z
run e p n (suc i) z l =
    let x : n + suc i ≡ suc (n + i) = omega arith in
    rw x (p.zeros (n + i) (omega arith) (run e p n i z (omega arith)))

-- ---- both ways
module _ (e : List ℕ) (f : entry_bytes ≤ length e) where
  name_long : length (entry_name e) ≡ name_length e
  unfolding entry_name
  name_long = let s = (ends e).short in length_inside e name_at (name_length e) (omega arith)

  name_byte : (k : ℕ) → k < name_length e → get_or (entry_name e) k 0 ≡ get_or e (name_at + k) 0
  unfolding entry_name
  name_byte k l = get_d_part e name_at (name_length e) k l

  proper_legal : Proper e → legal_name (entry_name e) ≡ true
  proper_legal p =
      let x = ends e in
      let w = name_long in
      (legal (entry_name e)).from
      record {
        long = some (dec_lt 0 (name_length e));
        short = omega (arith, x.short);
        plain = λ k l.
            let b = name_byte k (omega arith) in
            (λ z. x.before k (omega arith) (sym b ∙ z), λ z. p.plain k (omega (arith, x.short)) (sym b ∙ z));
        not_dot = λ q a.
            p.undotted (sym (name_byte 0 (omega arith)) ∙ a, inl (next 1 (omega arith) (omega arith)));
        not_dots = λ q a b.
            p.undotted (sym (name_byte 0 (omega arith)) ∙ a, inr (sym (name_byte 1 (omega arith)) ∙ b, next 2 (omega arith) (omega arith)));
      }
    where
      some : Dec (0 < name_length e) → 1 ≤ length (entry_name e)
      some (yes l) = let w = name_long in omega arith
      some (no l) = let z : name_length e ≡ 0 = omega arith in absurd (p.begins (rw z at ((ends e).end (omega arith))))

      next : (k : ℕ) → name_length e ≡ k → k < name_bytes → get_or e (name_at + k) 0 ≡ 0
      next k q l = rw q at ((ends e).end (omega arith))

  proper_spelled : Proper e → spelled e (entry_name e) ≡ true
  proper_spelled p = (spelled_is e (entry_name e)).from (λ k l. go k l (dec_lt k (name_length e)))
    where
      go : (k : ℕ) → k < name_bytes → Dec (k < name_length e) → get_or e (name_at + k) 0 ≡ get_or (entry_name e) k 0
      go k l (yes h) = sym (name_byte k h)
      go k l (no h) =
          let w = name_long in
          let x : name_length e + (k - name_length e) ≡ k = omega arith in
          let z : get_or e (name_at + (name_length e + (k - name_length e))) 0 ≡ 0 = run e p (name_length e) (k - name_length e) ((ends e).end (omega arith)) (omega arith) in
          (rw x at z) ∙ sym (get_or-eq_default (entry_name e) 0 (omega arith))

-- an entry that has a legal name
module _ (e name : List ℕ) (l : Legal name) (at : (k : ℕ) → k < name_bytes → get_or e (name_at + k) 0 ≡ get_or name k 0) where
  past : (k : ℕ) → length name ≤ k → k < name_bytes → get_or e (name_at + k) 0 ≡ 0
  past k h m = at k m ∙ get_or-eq_default name 0 h

  inside : (k : ℕ) → k < name_bytes → get_or e (name_at + k) 0 ≡ 0 → length name ≤ k
  inside k m z = go (dec_lt k (length name))
    where
      go : Dec (k < length name) → length name ≤ k
      go (yes h) = absurd ((l.plain k h).0 (sym (at k m) ∙ z))
      go (no h) = omega arith

  no_slash : (k : ℕ) → k < name_bytes → get_or e (name_at + k) 0 ≡ slash → ⊥
  no_slash k m z = go (dec_lt k (length name))
    where
      go : Dec (k < length name) → ⊥
      go (yes h) = (l.plain k h).1 (sym (at k m) ∙ z)
      go (no h) = let y = past k (omega arith) m in omega arith

  no_dots : Dotted e → ⊥
  no_dots d = go d.1 (dec_lt 1 (length name))
    where
      go : (get_or e (name_at + 1) 0 ≡ 0) ⊎ ((get_or e (name_at + 1) 0 ≡ dot) × (get_or e (name_at + 2) 0 ≡ 0)) → Dec (1 < length name) → ⊥
      go (inl z) h =
          let s = l.long in
          let n = inside 1 (omega arith) z in
          l.not_dot (omega arith) (sym (at 0 (omega arith)) ∙ d.0)
      go (inr q) (yes h) =
          let n = inside 2 (omega arith) q.1 in
          l.not_dots (omega arith) (sym (at 0 (omega arith)) ∙ d.0) (sym (at 1 (omega arith)) ∙ q.0)
      go (inr q) (no h) = let b = q.0 in let y = past 1 (omega arith) (omega arith) in omega arith

  proper_of : Proper e
  proper_of =
      record {
        begins = λ z. (l.plain 0 l.long).0 (sym (at 0 (omega arith)) ∙ z);
        plain = no_slash;
        zeros = λ k m z. let n = inside k (omega arith) z in past (suc k) (omega arith) m;
        undotted = no_dots;
      }

pub legal_is : (e : List ℕ) → entry_bytes ≤ length e → Reflects (legal_entry e) (Proper e)
unfolding legal_entry
legal_is e f =
    record {
      to = λ h. let a = entry_legal e h in proper_of e (entry_name e) ((legal (entry_name e)).to a.0) ((spelled_is e (entry_name e)).to a.1);
      from = λ p. and-true (legal_name (entry_name e)) (spelled e (entry_name e)) (proper_legal e f p) (proper_spelled e f p);
    }

-- ---- eight bytes at once
-- the tests of the bytes from o on
abbrev pub plain_run : List ℕ → ℕ → Bool
plain_run e o = all_below (λ j. not (eqb (get_or e (o + j) 0) slash)) 8

abbrev pub zeros_run : List ℕ → ℕ → Bool
zeros_run e o = all_below (λ j. not (eqb (get_or e (o + j) 0) 0) || eqb (get_or e (o + 1 + j) 0) 0) 8

plain_run_lem : (e : List ℕ) (o : ℕ) → Reflects (plain_run e o) ((j : ℕ) → j < 8 → get_or e (o + j) 0 ≡ slash → ⊥)
plain_run_lem e o = r_all 8 (λ j. r_not (r_eq (get_or e (o + j) 0) slash))

zeros_run_lem : (e : List ℕ) (o : ℕ) → Reflects (zeros_run e o) ((j : ℕ) → j < 8 → get_or e (o + j) 0 ≡ 0 → get_or e (o + 1 + j) 0 ≡ 0)
zeros_run_lem e o = r_all 8 (λ j. r_imp (r_eq (get_or e (o + j) 0) 0) (r_eq (get_or e (o + 1 + j) 0) 0))

module _ (e : List ℕ) where
  pub proper_plain : Proper e → (o : ℕ) → name_at ≤ o → o + 8 ≤ entry_bytes → plain_run e o ≡ true
  proper_plain p o a b =
      (plain_run_lem e o).from
      (λ j l z. let x : name_at + (o + j - name_at) ≡ o + j = omega arith in p.plain (o + j - name_at) (omega arith) (ap (λ (i : ℕ). get_or e i 0) x ∙ z))

  pub proper_zeros : Proper e → (o : ℕ) → name_at ≤ o → o + 9 ≤ entry_bytes → zeros_run e o ≡ true
  proper_zeros p o a b =
      (zeros_run_lem e o).from
      (λ j l z.
      let x : name_at + (o + j - name_at) ≡ o + j = omega arith in
      let y : name_at + suc (o + j - name_at) ≡ o + 1 + j = omega arith in
      ap (λ (i : ℕ). get_or e i 0) (sym y) ∙ p.zeros (o + j - name_at) (omega arith) (ap (λ (i : ℕ). get_or e i 0) x ∙ z))

  module _ (b : get_or e name_at 0 ≡ 0 → ⊥) (u : plain_run e 2 ≡ true) (v : plain_run e 8 ≡ true) (w : zeros_run e 2 ≡ true) (x : zeros_run e 7 ≡ true) where
    all_plain : (k : ℕ) → k < name_bytes → get_or e (name_at + k) 0 ≡ slash → ⊥
    all_plain k l z = go (dec_lt k 8)
      where
        go : Dec (k < 8) → ⊥
        go (yes h) = (plain_run_lem e 2).to u k h z
        go (no h) = let q : 8 + (k - 6) ≡ name_at + k = omega arith in (plain_run_lem e 8).to v (k - 6) (omega arith) (ap (λ (i : ℕ). get_or e i 0) q ∙ z)

    all_zeros : (k : ℕ) → suc k < name_bytes → get_or e (name_at + k) 0 ≡ 0 → get_or e (name_at + suc k) 0 ≡ 0
    all_zeros k l z = go (dec_lt k 8)
      where
        go : Dec (k < 8) → get_or e (name_at + suc k) 0 ≡ 0
        go (yes h) = let r : name_at + suc k ≡ 2 + 1 + k = omega arith in ap (λ (i : ℕ). get_or e i 0) r ∙ (zeros_run_lem e 2).to w k h z
        go (no h) =
            let q : 7 + (k - 5) ≡ name_at + k = omega arith in
            let r : name_at + suc k ≡ 7 + 1 + (k - 5) = omega arith in
            ap (λ (i : ℕ). get_or e i 0) r ∙ (zeros_run_lem e 7).to x (k - 5) (omega arith) (ap (λ (i : ℕ). get_or e i 0) q ∙ z)

    proper : (Dotted e → ⊥) → Proper e
    proper d = record { begins = b; plain = all_plain; zeros = all_zeros; undotted = d }

  -- the tests, one after the other
  pub legal_runs : entry_bytes ≤ length e → legal_entry e ≡ not (eqb (get_or e name_at 0) 0) && (plain_run e 2 && (plain_run e 8 && (zeros_run e 2 && (zeros_run e 7 && not (has_dots e)))))
  legal_runs f =
      reflects_ext (legal_is e f)
      (r_says
      (λ t. proper t.0 t.1.0 t.1.1.0 t.1.1.1.0 t.1.1.1.1.0 t.1.1.1.1.1)
      (λ p. (p.begins, (proper_plain p 2 (omega arith) (omega arith), (proper_plain p 8 (omega arith) (omega arith), (proper_zeros p 2 (omega arith) (omega arith), (proper_zeros p 7 (omega arith) (omega arith), p.undotted))))))
      (r_and (r_not (r_eq (get_or e name_at 0) 0)) (r_and (r_true (plain_run e 2)) (r_and (r_true (plain_run e 8)) (r_and (r_true (zeros_run e 2)) (r_and (r_true (zeros_run e 7)) (r_not (dotted e))))))))
