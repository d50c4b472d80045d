-- A read's out-buffer after a call over the three buffers is the plain store's, and the other calls have none.
use Rattle.std.specs.Prelude.{Err, Ok, Result}
use Prim.Native.Nat.{ℕ}
use mathlib.Core.Path.{◌≡◌, refl}
use mathlib.Core.Bool.{Bool, true, false, true≢false}
use mathlib.Core.List.{List, []}
use lib.Dec.{eqb}
use lib.ListN.{length}
use Rattle.desk.specs.Next.{locks_any}
use Rattle.bounded.specs.Search.{pick}
use Rattle.bounded.proofs.SearchLaws.{by_pick}
use Rattle.answers.specs.declared.Refusal.TheVariants.{NameTaken, Busy}
use Rattle.answers.specs.Refusal.{refusal_number}
use Rattle.content.specs.Plan.{read_plan, write_plan, shorten_plan}
use Rattle.entries.specs.Plan.{look_up_plan, create_plan, link_plan, unlink_plan, rename_new_plan, over_plan}
use Rattle.files.specs.Guard.{guard_of, on_guard}
use Rattle.files.specs.Effect.{Call, look_up, read, create, write, shorten, link, unlink, rename, rename_new, Planned, refused, does, on_planned, and_then, plan_then, if_taken, planned, plain_decision, given, do_look_up, do_read, do_create, do_write, do_shorten, do_link, do_unlink, do_rename, do_rename_new, do_over}
use Rattle.files.specs.Plain.{leaves, plain}
use Rattle.checkpoint.specs.Busy.{any_locked, unless_busy}
use Rattle.checkpoint.specs.Live.{World, store_alone, guards_of, decision, out_of}
use Rattle.answers.specs.Told.{Answer}
use Rattle.answers.specs.declared.Refusal.{Refusal}
use Rattle.entries.specs.declared.Room.{Room}
use Rattle.layout.specs.declared.header.Counts.{Counts}
use Rattle.entries.specs.declared.CreatePlan.{CreatePlan}
use Rattle.entries.specs.declared.RenamePlan.TheVariants.{Move, Rename}
use Rattle.entries.specs.declared.OverPlan.TheVariants.{Over, Same}
use Rattle.entries.specs.declared.UnlinkPlan.{UnlinkPlan}
use Rattle.entries.specs.declared.RenamePlan.{RenamePlan}
use Rattle.entries.specs.declared.OverPlan.{OverPlan}

module _ (w : World) where
  -- what is decided has no out-buffer
  abbrev Outless : Planned → Type 0
  Outless p = on_planned p (λ x. x.out) (λ e. []) ≡ []

  outless_busy : (p : Planned) → Outless p → Outless (unless_busy w.desk p)
  outless_busy (refused e) h = h
  outless_busy (does x) h = go (any_locked w.desk x.touches)
    where
      go : (b : Bool) → Outless (pick b (refused Busy) (does x))
      go true = refl
      go false = h

  outless_guarded : (g : Result Counts Refusal) (f : ℕ → ℕ → Planned) → ((n b : ℕ) → Outless (f n b)) → Outless (on_guard g (λ n b. unless_busy w.desk (f n b)) refused)
  outless_guarded (Ok c) f h = outless_busy (f c.inodes c.blocks) (h c.inodes c.blocks)
  outless_guarded (Err e) f h = refl

  -- renames
  outless_rename : (s : List ℕ) (n b d : ℕ) (name : List ℕ) (e : ℕ) (other : List ℕ) → Outless (do_rename_new s n b d name e other)
  outless_rename s n b d name e other = go (rename_new_plan s n b d name e other)
    where
      go : (p : Result RenamePlan Refusal) → Outless (do_rename s n d e other p)
      go (Ok (Rename t i)) = refl
      go (Ok (Move t i r)) = refl
      go (Err f) = refl

  outless_taken : (p : Planned) → Outless p → (q : Planned) → Outless q → Outless (if_taken p q)
  outless_taken (does x) h q k = h
  outless_taken (refused e) h q k = by_pick Outless (eqb (refusal_number e) (refusal_number NameTaken)) k refl

  outless_then : (p : Planned) (f : List ℕ → Planned) → ((t : List ℕ) → Outless (f t)) → Outless (plan_then p f)
  outless_then (refused e) f h = refl
  outless_then (does x) f h = go (f x.store) (h x.store)
    where
      go : (q : Planned) → Outless q → Outless (on_planned q (λ y. does (and_then x y)) refused)
      go (does y) k = k
      go (refused e) k = refl

  outless_over : (n b d : ℕ) (name : List ℕ) (e : ℕ) (other : List ℕ) (p : Result OverPlan Refusal) → Outless (do_over w.store n b d name e other p)
  outless_over n b d name e other (Ok (Over i h)) = outless_then (do_unlink w.store n e (unlink_plan w.store n e other)) (λ t. do_rename_new t n b d name e other) (λ t. outless_rename t n b d name e other)
  outless_over n b d name e other (Ok (Same i)) = refl
  outless_over n b d name e other (Err f) = refl

  by_plan : (c : Call) → store_alone c ≡ false → (n b : ℕ) → Outless (planned c w.store n b)
  by_plan (look_up d name) h n b = absurd (true≢false h)
  by_plan (read i o out) h n b = absurd (true≢false h)
  by_plan (create d name k) h n b = go (create_plan w.store n b d name)
    where
      go : (p : Result CreatePlan Refusal) → Outless (do_create w.store n d name k p)
      go (Ok c) = refl
      go (Err e) = refl
  by_plan (write i o xs) h n b = go (write_plan w.store n i o (length xs))
    where
      go : (p : Answer) → Outless (do_write w.store n b i o xs p)
      go (Ok z) = refl
      go (Err e) = refl
  by_plan (shorten i z) h n b = go (shorten_plan w.store n i z)
    where
      go : (p : Answer) → Outless (do_shorten w.store n i p)
      go (Ok y) = refl
      go (Err e) = refl
  by_plan (link d name i) h n b = go (link_plan w.store n b d name i)
    where
      go : (p : Result Room Refusal) → Outless (do_link w.store n d name i p)
      go (Ok r) = refl
      go (Err e) = refl
  by_plan (unlink d name) h n b = go (unlink_plan w.store n d name)
    where
      go : (p : Result UnlinkPlan Refusal) → Outless (do_unlink w.store n d p)
      go (Ok c) = refl
      go (Err e) = refl
  by_plan (rename d name e other) h n b = outless_taken (do_rename_new w.store n b d name e other) (outless_rename w.store n b d name e other) _ (outless_over n b d name e other (over_plan w.store n d name e other))
  by_plan (rename_new d name e other) h n b = outless_rename w.store n b d name e other

  given_none : (c : Call) → store_alone c ≡ false → given c ≡ []
  given_none (look_up d name) h = refl
  given_none (read i o out) h = absurd (true≢false h)
  given_none (create d name k) h = refl
  given_none (write i o xs) h = refl
  given_none (shorten i z) h = refl
  given_none (link d name i) h = refl
  given_none (unlink d name) h = refl
  given_none (rename d name e other) h = refl
  given_none (rename_new d name e other) h = refl

  -- the calls over the three buffers
  pub no_out : (c : Call) → store_alone c ≡ false → out_of c w ≡ []
  unfolding out_of decision
  no_out c h = rw (given_none c h) (outless_guarded (guards_of c w) (planned c w.store) (by_plan c h))

  -- look up and read
  pub look_up_out : (d : ℕ) (name : List ℕ) → out_of (look_up d name) w ≡ (plain (look_up d name) w.store).out
  unfolding out_of decision plain plain_decision locks_any
  look_up_out d name = go (guard_of w.store)
    where
      plan : (p : Answer) → on_planned (unless_busy w.desk (do_look_up w.store p)) (λ x. x.out) (λ e. []) ≡ (leaves w.store [] (do_look_up w.store p)).out
      plan (Ok i) = refl
      plan (Err e) = refl

      go : (g : Result Counts Refusal) → on_planned (on_guard g (λ n b. unless_busy w.desk (planned (look_up d name) w.store n b)) refused) (λ x. x.out) (λ e. []) ≡ (leaves w.store [] (on_guard g (planned (look_up d name) w.store) refused)).out
      go (Ok c) = plan (look_up_plan w.store c.inodes d name)
      go (Err e) = refl

  pub read_out : (i o : ℕ) (out : List ℕ) → out_of (read i o out) w ≡ (plain (read i o out) w.store).out
  unfolding out_of decision plain plain_decision locks_any
  read_out i o out = go (guard_of w.store)
    where
      plan : (n : ℕ) (p : Answer) → on_planned (unless_busy w.desk (do_read w.store n i o out p)) (λ x. x.out) (λ e. out) ≡ (leaves w.store out (do_read w.store n i o out p)).out
      plan n (Ok k) = refl
      plan n (Err e) = refl

      go : (g : Result Counts Refusal) → on_planned (on_guard g (λ n b. unless_busy w.desk (planned (read i o out) w.store n b)) refused) (λ x. x.out) (λ e. out) ≡ (leaves w.store out (on_guard g (planned (read i o out) w.store) refused)).out
      go (Ok c) = plan c.inodes (read_plan w.store c.inodes i o (length out))
      go (Err e) = refl
