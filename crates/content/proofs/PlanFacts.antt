-- What a plan that is no refusal says of the store: the conditions that it has passed. n is the count of inodes.
use Rattle.std.specs.Prelude.{Err, Ok}
use Prim.Native.Nat.{ℕ, ◌+◌, ◌-◌, ◌≤◌, max, min}
use mathlib.Core.Path.{◌≡◌, sym, subst}
use mathlib.Core.Bool.{true, ◌||◌}
use mathlib.Core.List.{List}
use native.Mathlib.Omega.{arith}
use borrow.Author.Tests.{ltb-false}
use lib.Dec.{ltb}
use Rattle.bounded.proofs.SearchLaws.{pick_else, pick_not}
use Rattle.bounded.proofs.BoolLaws.{or_false_l, or_false_r}
use Rattle.layout.specs.Sizes.{most_file_bytes}
use Rattle.layout.specs.Header.{header_of}
use Rattle.layout.specs.Inode.{size_of, is_file}
use Rattle.blocks.specs.Block.{blocks_used}
use Rattle.answers.specs.declared.Refusal.{Refusal}
use Rattle.content.specs.Plan.{read_plan, write_plan, shorten_plan}

-- ---- read, write and shorten
no_size : (e : Refusal) (z : ℕ) → Err e ≡ Ok z → ⊥
no_size e z h = let y : ◌≡◌ {A = ℕ} 0 1 = cc in absurd (omega arith)

pub record Reads (s : List ℕ) (n i o k m : ℕ) : Type 0 where
  pub file : is_file s n i ≡ true
  pub inside : o ≤ size_of s i
  pub count : m ≡ min k (size_of s i - o)

pub reads : (s : List ℕ) (n i o k m : ℕ) → read_plan s n i o k ≡ Ok m → Reads s n i o k m
unfolding read_plan
reads s n i o k m e =
    let a = pick_not (is_file s n i) (Err _) _ (Ok m) e (no_size _ m) in
    let c = pick_else (ltb (size_of s i) o) (Err _) _ (Ok m) a.1 (no_size _ m) in
    record { file = a.0; inside = ltb-false (size_of s i) o c.0; count = cc c.1 }

pub record Shortens (s : List ℕ) (n i z y : ℕ) : Type 0 where
  pub file : is_file s n i ≡ true
  pub inside : z ≤ size_of s i
  pub size : y ≡ z

pub shortens : (s : List ℕ) (n i z y : ℕ) → shorten_plan s n i z ≡ Ok y → Shortens s n i z y
unfolding shorten_plan
shortens s n i z y e =
    let a = pick_not (is_file s n i) (Err _) _ (Ok y) e (no_size _ y) in
    let c = pick_else (ltb (size_of s i) z) (Err _) _ (Ok y) a.1 (no_size _ y) in
    record { file = a.0; inside = ltb-false (size_of s i) z c.0; size = cc c.1 }

pub record Writes (s : List ℕ) (n i o k z : ℕ) : Type 0 where
  pub file : is_file s n i ≡ true
  pub inside : o ≤ size_of s i
  pub most : o + k ≤ most_file_bytes
  pub size : z ≡ max (size_of s i) (o + k)
  pub blocks : blocks_used z - blocks_used (size_of s i) ≤ (header_of s).free_blocks

pub writes : (s : List ℕ) (n i o k z : ℕ) → write_plan s n i o k ≡ Ok z → Writes s n i o k z
unfolding write_plan
writes s n i o k z e =
    let a = pick_not (is_file s n i) (Err _) _ (Ok z) e (no_size _ z) in
    let c = pick_else (ltb (size_of s i) o || ltb most_file_bytes (o + k)) (Err _) _ (Ok z) a.1 (no_size _ z) in
    let f = pick_else (ltb (header_of s).free_blocks (blocks_used (max (size_of s i) (o + k)) - blocks_used (size_of s i))) (Err _) _ (Ok z) c.1 (no_size _ z) in
    let q : max (size_of s i) (o + k) ≡ z = cc f.1 in
    record {
      file = a.0;
      inside = ltb-false (size_of s i) o (or_false_l (ltb (size_of s i) o) (ltb most_file_bytes (o + k)) c.0);
      most = ltb-false most_file_bytes (o + k) (or_false_r (ltb (size_of s i) o) (ltb most_file_bytes (o + k)) c.0);
      size = sym q;
      blocks = subst (λ (y : ℕ). blocks_used y - blocks_used (size_of s i) ≤ (header_of s).free_blocks) q (ltb-false (header_of s).free_blocks (blocks_used (max (size_of s i) (o + k)) - blocks_used (size_of s i)) f.0);
    }
