-- A burst's answer, on any bytes: the first condition of its table that holds, or the number of accepted steps among those that it tried.
use Rattle.std.specs.Prelude.{Err, Ok}
use Prim.Native.Nat.{ℕ, zero, suc, ◌+◌}
use mathlib.Core.Path.{◌≡◌, refl, sym, ap, ◌∙◌}
use mathlib.Core.Bool.{Bool, true, false}
use mathlib.Core.List.{List, [], ◌∷◌, tail}
use native.Mathlib.Omega.{arith}
use borrow.Author.Tests.{ne_eqb}
use lib.Dec.{eqb}
use Rattle.bounded.specs.Search.{pick}
use Rattle.bounded.proofs.BoolLaws.{never}
use Rattle.bounded.proofs.SearchLaws.{by_pick}
use Rattle.desk.specs.Desk.{desk_of}
use Rattle.answers.specs.declared.Refusal.TheVariants.{BadBuffer, BadCount}
use Rattle.answers.specs.Order.{Row}
use Rattle.answers.specs.Told.{Told, told}
use Rattle.answers.proofs.RefusalLaws.{not_none}
use Rattle.checkpoint.specs.Fit.{both_framed}
use Rattle.checkpoint.specs.Live.{World, Outcome, left, refuse, step}
use Rattle.checkpoint.specs.List.{advances, outcome, next, accepted, completes, accepted_steps}
use Rattle.checkpoint.specs.Burst.{count_allowed, burst_from, burst, tries, tries_of}
use Rattle.checkpoint.specs.Table.{step_table, burst_table}
use Rattle.checkpoint.proofs.ConditionLaws.{first_of}
use Rattle.checkpoint.proofs.CopierTables.{step_table_lem}
use Rattle.checkpoint.proofs.BurstLaws.{burst_count, burst_first}

-- ---- once a step was accepted, the burst is
record Accepts (o : Outcome) : Type 0 where
  count : ℕ
  tells : o.answer ≡ told (Ok count)

done_accepts : (x : ℕ) {s m d : List ℕ} → Accepts (left (Ok x) s m d)
done_accepts x = record { count = x; tells = refl }

later_accepted : (k c : ℕ) (w : World) → Accepts (burst_from k (suc c) w)
unfolding burst_from
later_accepted zero c w = done_accepts (suc c)
later_accepted (suc k) c w =
    rw (ne_eqb (suc c) 0 (λ e. omega arith))
    (by_pick Accepts (accepted advances w)
    (by_pick Accepts (completes advances w) (done_accepts (suc (suc c))) (later_accepted k (suc c) (next advances w)))
    (done_accepts (suc c)))

chosen : (b : Bool) {x : Outcome} (y : Outcome) → b ≡ true → Accepts x → Accepts (pick b x y)
chosen b y h p = rw h p

begun_accepted : (k : ℕ) (w : World) → both_framed w.store w.desk ≡ true → count_allowed k ≡ true → accepted advances w ≡ true → Accepts (burst k w)
unfolding burst burst_from
begun_accepted zero w f a r = never a
begun_accepted (suc k) w f a r = rw (f, a) (chosen (accepted advances w) _ r (by_pick Accepts (completes advances w) (done_accepts 1) (later_accepted k 0 (next advances w))))

-- ---- the four ways that a burst of k steps comes out
pub data Ends (k : ℕ) (w : World) : Type 0 where
  -- 1 and 17: no step is tried
  lengths : both_framed w.store w.desk ≡ false → burst k w ≡ refuse BadBuffer w.store w.image w.desk → tries_of k w ≡ [] → Ends k w
  number : both_framed w.store w.desk ≡ true → count_allowed k ≡ false → burst k w ≡ refuse BadCount w.store w.image w.desk → tries_of k w ≡ [] → Ends k w
  -- "If the very first is refused, that refusal is the answer."
  first : both_framed w.store w.desk ≡ true → count_allowed k ≡ true → accepted advances w ≡ false → burst k w ≡ step w.store w.image w.desk → tries_of k w ≡ advances ∷ [] → Ends k w
  counts : both_framed w.store w.desk ≡ true → count_allowed k ≡ true → accepted advances w ≡ true → (burst k w).answer ≡ told (Ok (accepted_steps (tries_of k w) w 0)) → Ends k w

tries_one : (k : ℕ) (w : World) → both_framed w.store w.desk ≡ true → count_allowed k ≡ true → accepted advances w ≡ false → tries_of k w ≡ advances ∷ []
unfolding tries_of tries
tries_one zero w f a r = never a
tries_one (suc k) w f a r = rw (f, a, r)

pub ends : (k : ℕ) (w : World) → Ends k w
unfolding burst tries_of
ends k w = go (both_framed w.store w.desk) refl (count_allowed k) refl (accepted advances w) refl
  where
    go : (f : Bool) → both_framed w.store w.desk ≡ f → (a : Bool) → count_allowed k ≡ a → (r : Bool) → accepted advances w ≡ r → Ends k w
    go false p a q r h = lengths p (rw p) (rw p)
    go true p false q r h = number p q (rw (p, q)) (rw (p, q))
    go true p true q false h = first p q h (burst_first k w p q h) (tries_one k w p q h)
    go true p true q true h = let b = begun_accepted k w p q h in counts p q h (b.tells ∙ ap (λ (x : ℕ). told (Ok x)) (sym (burst_count k w b.count b.tells)))

-- ---- a table by another result gives the same refusals
by_result : (rs : List Row) (x y : ℕ) → pick (eqb (first_of rs (told (Ok x))).number 0) (told (Ok y)) (first_of rs (told (Ok x))) ≡ first_of rs (told (Ok y))
by_result [] x y = refl
by_result (r ∷ rs) x y = go r.holds (by_result rs x y)
  where
    go : (b : Bool) → pick (eqb (first_of rs (told (Ok x))).number 0) (told (Ok y)) (first_of rs (told (Ok x))) ≡ first_of rs (told (Ok y))
        → pick (eqb (pick b (told (Err r.refusal)) (first_of rs (told (Ok x)))).number 0) (told (Ok y)) (pick b (told (Err r.refusal)) (first_of rs (told (Ok x)))) ≡ pick b (told (Err r.refusal)) (first_of rs (told (Ok y)))
    go true h = rw (not_none r.refusal) refl
    go false h = h

other_result : (rs : List Row) (x y : ℕ) (a : Told) → a ≡ first_of rs (told (Ok x)) → pick (eqb a.number 0) (told (Ok y)) a ≡ first_of rs (told (Ok y))
other_result rs x y a h = rw h (by_result rs x y)

-- ---- a burst's table
abbrev answer_in : Outcome → Told
answer_in o = o.answer

module _ (k : ℕ) (w : World) where
  abbrev steps : ℕ
  steps = accepted_steps (tries_of k w) w 0

  -- what follows 1 in the first step's
  first_rows : both_framed w.store w.desk ≡ true → pick (accepted advances w) (told (Ok steps)) (step w.store w.image w.desk).answer ≡ first_of (tail (step_table w.store w.image w.desk)) (told (Ok steps))
  unfolding outcome step_table
  first_rows f = other_result (step_table w.store w.image w.desk) ((desk_of w.desk).steps + 1) steps _ (step_table_lem w.store w.image w.desk) ∙ rw f

  pub burst_table_lem : (burst k w).answer ≡ first_of (burst_table k w.store w.image w.desk) (told (Ok steps))
  unfolding burst_table
  burst_table_lem = go (ends k w)
    where
      go : Ends k w → (burst k w).answer ≡ first_of (burst_table k w.store w.image w.desk) (told (Ok steps))
      go (lengths f e t) = rw f (ap answer_in e)
      go (number f a e t) = rw (f, a) (ap answer_in e)
      go (first f a r e t) = rw (f, a) (ap answer_in e ∙ (rw r at (first_rows f)))
      go (counts f a r e) = rw (f, a) (e ∙ (rw r at (first_rows f)))
