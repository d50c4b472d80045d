-- Each call's answer is by its table of conditions, on any world.
use Rattle.std.specs.Prelude.{Err}
use Prim.Native.Nat.{ℕ}
use mathlib.Core.Path.{◌≡◌, refl, ap, ◌∙◌}
use mathlib.Core.Bool.{Bool, true, false}
use mathlib.Core.List.{List, [], ◌∷◌}
use lib.Dec.{eqb}
use Rattle.bounded.specs.Search.{pick}
use Rattle.bounded.proofs.BoolLaws.{or_r}
use Rattle.answers.specs.Refusal.{refusal_number}
use Rattle.answers.specs.Told.{Told, told}
use Rattle.answers.proofs.RefusalLaws.{known}
use Rattle.answers.specs.Order.{Row, is_in_order, looked_at, among}
use Rattle.files.specs.Effect.{look_up, read, create, write, shorten, link, unlink, rename, rename_new}
use Rattle.checkpoint.specs.Live.{World, Outcome}
use Rattle.checkpoint.specs.List.{call, advances, asks, starts, outcome}
use Rattle.checkpoint.specs.Burst.{Act, one, bursts}
use Rattle.checkpoint.proofs.ConditionLaws.{first_of}
use Rattle.checkpoint.proofs.TableLaws.{look_up_table_lem, read_table_lem, create_table_lem, write_table_lem, shorten_table_lem, link_table_lem, unlink_table_lem, rename_new_table_lem, look_up_alone, read_alone}
use Rattle.checkpoint.proofs.ReplaceTable.{rename_table_lem}
use Rattle.checkpoint.proofs.CopierTables.{start_table_lem, step_table_lem, status_table}
use Rattle.checkpoint.proofs.BurstTables.{burst_table_lem}
use Rattle.checkpoint.proofs.RowLaws.{look_up_in_order, read_in_order, create_in_order, write_in_order, shorten_in_order, link_in_order, unlink_in_order, rename_in_order, rename_new_in_order, start_in_order, step_in_order, status_in_order, burst_in_order}
use Rattle.watch.specs.Answered.{ByTable, result, holds, passes, Answered, table_of, result_of}
use Rattle.watch.specs.Received.{outcome_of}

-- ---- tables
-- the first condition that holds
by_first : (vs : List ℕ) (rs : List Row) → ByTable vs rs (first_of rs (record { number = 0; values = vs }))
by_first vs [] = result
by_first vs (r ∷ rs) = go r.holds refl (by_first vs rs)
  where
    go : (b : Bool) → r.holds ≡ b → ByTable vs rs (first_of rs (record { number = 0; values = vs })) → ByTable vs (r ∷ rs) (pick b (told (Err r.refusal)) (first_of rs (record { number = 0; values = vs })))
    go true h t = holds h
    go false h t = passes h t

pub known_by : {vs : List ℕ} {rs : List Row} {t : Told} → ByTable vs rs t → among (0 ∷ looked_at) t.number ≡ true
known_by result = refl
known_by (holds {r} h) = or_r (eqb 0 (refusal_number r.refusal)) (among looked_at (refusal_number r.refusal)) (known r.refusal)
known_by (passes h b) = known_by b

by_answer : (vs : List ℕ) (rs : List Row) (t : Told) → t ≡ first_of rs (record { number = 0; values = vs }) → ByTable vs rs t
by_answer vs rs t h = rw h (by_first vs rs)

-- ---- each call's answer is by its table
module _ (w : World) where
  pub by_table : (x : Act) → ByTable (result_of x w) (table_of x w) (outcome_of x w).answer
  unfolding table_of result_of outcome
  by_table (one (call (look_up d name))) = by_answer _ _ _ (ap (λ (o : Outcome). o.answer) (look_up_alone w d name) ∙ look_up_table_lem w.store d name)
  by_table (one (call (read i o out))) = by_answer _ _ _ (ap (λ (o : Outcome). o.answer) (read_alone w i o out) ∙ read_table_lem w.store i o out)
  by_table (one (call (create d name k))) = by_answer _ _ _ (create_table_lem w d name k)
  by_table (one (call (write i o xs))) = by_answer _ _ _ (write_table_lem w i o xs)
  by_table (one (call (shorten i z))) = by_answer _ _ _ (shorten_table_lem w i z)
  by_table (one (call (link d name i))) = by_answer _ _ _ (link_table_lem w d name i)
  by_table (one (call (unlink d name))) = by_answer _ _ _ (unlink_table_lem w d name)
  by_table (one (call (rename d name e other))) = by_answer _ _ _ (rename_table_lem w d name e other)
  by_table (one (call (rename_new d name e other))) = by_answer _ _ _ (rename_new_table_lem w d name e other)
  by_table (one starts) = by_answer _ _ _ (start_table_lem w.store w.image w.desk)
  by_table (one advances) = by_answer _ _ _ (step_table_lem w.store w.image w.desk)
  by_table (one asks) = by_answer _ _ _ (status_table w.store w.image w.desk)
  by_table (bursts k) = by_answer _ _ _ (burst_table_lem k w)

  table_in_order : (x : Act) → is_in_order 0 (table_of x w) ≡ true
  unfolding table_of
  table_in_order (one (call (look_up d name))) = look_up_in_order w.store d name
  table_in_order (one (call (read i o out))) = read_in_order w.store i o
  table_in_order (one (call (create d name k))) = create_in_order w.store w.image w.desk d name
  table_in_order (one (call (write i o xs))) = write_in_order w.store w.image w.desk i o xs
  table_in_order (one (call (shorten i z))) = shorten_in_order w.store w.image w.desk i z
  table_in_order (one (call (link d name i))) = link_in_order w.store w.image w.desk d name i
  table_in_order (one (call (unlink d name))) = unlink_in_order w.store w.image w.desk d name
  table_in_order (one (call (rename d name e other))) = rename_in_order w.store w.image w.desk d name e other
  table_in_order (one (call (rename_new d name e other))) = rename_new_in_order w.store w.image w.desk d name e other
  table_in_order (one starts) = start_in_order w.store w.image w.desk
  table_in_order (one advances) = step_in_order w.store w.image w.desk
  table_in_order (one asks) = status_in_order w.store w.image w.desk
  table_in_order (bursts k) = burst_in_order w.store w.image w.desk k

  pub answered : (x : Act) → Answered (result_of x w) (table_of x w) (outcome_of x w).answer
  answered x = record { by = by_table x; in_order = table_in_order x; known = known_by (by_table x) }
