-- The same of start, step and state: the answer is the first condition of the table that holds. s is the store, m the image, d the desk.
use Rattle.std.specs.Prelude.{None, Ok, Option, Some}
use mathlib.Core.Path.{◌≡◌, refl, sym, ap, ap₂, ◌∙◌}
use mathlib.Core.Bool.{Bool, true, false, not, ◌&&◌, true≢false}
use mathlib.Core.List.{List, [], ◌∷◌}
use Prim.Native.Nat.{ℕ, ◌+◌, ◌≤◌}
use native.Mathlib.Omega.{arith}
use borrow.Author.Tests.{leb-true, not-true, not-false}
use lib.Dec.{eqb, leb, ltb}
use Rattle.bounded.specs.Search.{pick, first_from, on_found}
use Rattle.bounded.proofs.BoolLaws.{and_left, and_right, fails, same_test, clash}
use Rattle.bounded.proofs.BelowLaws.{to_at, to_of}
use Rattle.bounded.proofs.SearchLaws.{none_below, absent_of}
use Rattle.bounded.specs.Below.{all_to}
use Rattle.layout.specs.Sizes.{root_inode}
use Rattle.layout.specs.Inode.{size_of}
use Rattle.blocks.specs.Block.{blocks_used, is_long, kth_block}
use Rattle.blocks.specs.Free.{named_by, lowest_by, long_but}
use Rattle.desk.specs.Desk.{desk_of, is_copied}
use Rattle.sound.specs.Sound.{inodes_in}
use Rattle.answers.specs.declared.Refusal.TheVariants.{WrongState, ImageFull}
use Rattle.answers.specs.Told.{Told, told}
use Rattle.answers.specs.Order.{row}
use Rattle.checkpoint.specs.Fit.{is_running, all_framed}
use Rattle.checkpoint.specs.Copier.{target_block, step_of, lock, copy, close, finish, full, locked_step, free_step, next_inode}
use Rattle.checkpoint.specs.Live.{standing, Outcome, refuse, do_step, started, start, step, told_status, status}
use Rattle.checkpoint.proofs.DecisionLaws.{stated, status_is, start_is}
use Rattle.checkpoint.specs.Table.{found, live_rows, start_table, step_table}
use Rattle.checkpoint.proofs.ConditionLaws.{first_of, Gives, by_pick, by_guards, by_none, give, by_chain}

-- 16: a block finds no place, when and only when "every image block [is] named"
no_place : (c : ℕ) (t : Bool) (f : Option ℕ) → not (found (pick t (Some c) f)) ≡ true → f ≡ None
no_place c true f h = absurd (true≢false (sym h))
no_place c false (Some j) h = absurd (true≢false (sym h))
no_place c false None h = refl

pub full_image : (long : ℕ → Bool) (m : List ℕ) (n b c : ℕ) → not (found (target_block long m n b c)) ≡ all_to (named_by long m n) b
unfolding target_block lowest_by
full_image long m n b c = same_test (not (found (target_block long m n b c))) (all_to (named_by long m n) b) there back
  where
    there : not (found (target_block long m n b c)) ≡ true → all_to (named_by long m n) b ≡ true
    there h =
        let e : first_from (λ j. not (named_by long m n j)) 1 b ≡ None = no_place c (leb 1 c && (leb c b && not (named_by long m n c))) (lowest_by long m n b) h in
        to_of (named_by long m n) b (λ j l k. not-false (named_by long m n j) (none_below (λ i. not (named_by long m n i)) 1 b e j (omega arith) (omega arith)))

    own : all_to (named_by long m n) b ≡ true → leb 1 c && (leb c b && not (named_by long m n c)) ≡ true → ⊥
    own h w =
        let r : leb c b && not (named_by long m n c) ≡ true = and_right (leb 1 c) (leb c b && not (named_by long m n c)) w in
        let l : 1 ≤ c = leb-true 1 c (and_left (leb 1 c) (leb c b && not (named_by long m n c)) w) in
        let k : c ≤ b = leb-true c b (and_left (leb c b) (not (named_by long m n c)) r) in
        clash (named_by long m n c) (to_at (named_by long m n) b h c l k) (not-true (named_by long m n c) (and_right (leb c b) (not (named_by long m n c)) r))

    back : all_to (named_by long m n) b ≡ true → not (found (target_block long m n b c)) ≡ true
    back h =
        let none : lowest_by long m n b ≡ None = absent_of (λ j. not (named_by long m n j)) 1 b (λ j l k. ap not (to_at (named_by long m n) b h j (omega arith) (omega arith))) in
        ap₂ (λ (t : Bool) (f : Option ℕ). not (found (pick t (Some c) f))) (fails (leb 1 c && (leb c b && not (named_by long m n c))) (own h)) none

-- ---- start, step and state
module _ (s m d : List ℕ) where
  pub start_table_lem : (start s m d).answer ≡ first_of (start_table s m d) (told (Ok 0))
  unfolding started start_table
  start_table_lem =
      let h : Outcome → Told = λ z. z.answer in
      ap h (start_is s m d)
      ∙ give _ (start_table s m d) _ (by_chain (all_framed s m d) s m d _ (by_pick h (is_running d) _ _ refl by_none))

  by_step : (i k : ℕ) (runs none more : Bool) (t : Option ℕ) (root : Bool) (next : Option ℕ)
      → Gives (pick runs (do_step s m d (inodes_in s) (pick none (pick root (on_found next lock finish) (lock root_inode)) (pick more (on_found t (λ c. copy i k c) full) (close i)))) (refuse WrongState s m d)).answer
      (row (not runs) WrongState ∷ row (not none && (more && not (found t))) ImageFull ∷ []) (told (Ok ((desk_of d).steps + 1)))
  by_step i k false none more t root next = record { first = refl }
  by_step i k true true more t true (Some j) = record { first = refl }
  by_step i k true true more t true None = record { first = refl }
  by_step i k true true more t false next = record { first = refl }
  by_step i k true false true (Some c) root next = record { first = refl }
  by_step i k true false true None root next = record { first = refl }
  by_step i k true false false t root next = record { first = refl }

  -- 16 by the paper's words
  by_full : (i k : ℕ) (runs none more : Bool) (t : Option ℕ) (root : Bool) (next : Option ℕ) (all : Bool) → not (found t) ≡ all
      → Gives (pick runs (do_step s m d (inodes_in s) (pick none (pick root (on_found next lock finish) (lock root_inode)) (pick more (on_found t (λ c. copy i k c) full) (close i)))) (refuse WrongState s m d)).answer
      (row (not runs) WrongState ∷ row (not none && (more && all)) ImageFull ∷ []) (told (Ok ((desk_of d).steps + 1)))
  by_full i k runs none more t root next all e = rw (← e) (by_step i k runs none more t root next)

  pub step_table_lem : (step s m d).answer ≡ first_of (step_table s m d) (told (Ok ((desk_of d).steps + 1)))
  unfolding step step_of free_step locked_step step_table
  step_table_lem =
      let i : ℕ = (desk_of d).locked in
      let k : ℕ = (desk_of d).transferred in
      give _ (step_table s m d) _
      (by_guards s m d _
      (by_full i k (is_running d) (eqb i 0) (ltb k (blocks_used (size_of s i))) (target_block (long_but m i (is_long s i)) m (inodes_in s) (desk_of d).blocks (kth_block s (inodes_in s) i k))
      (is_copied d (inodes_in s) root_inode) (next_inode m d (inodes_in s)) _ (full_image (long_but m i (is_long s i)) m (inodes_in s) (desk_of d).blocks (kth_block s (inodes_in s) i k))))

  pub status_table : status s m d ≡ first_of (live_rows s m d) (told_status (Ok (standing (desk_of d).state (desk_of d).locked (desk_of d).steps)))
  status_table = status_is s m d ∙ give _ (live_rows s m d) _ (by_guards s m d (stated s m d) by_none)
