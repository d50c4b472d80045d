-- A call made on the code is what its definition gives, by its contract, and so is a list of calls.
use Prim.Native.Nat.{ℕ}
use mathlib.Core.Path.{◌≡◌, refl, sym, ap, ap₂, ◌∙◌}
use mathlib.Core.Bool.{true, true≢false}
use mathlib.Core.List.{List, [], ◌∷◌}
use Rattle.answers.specs.Told.{Told}
use Rattle.files.specs.Effect.{Call, look_up, read, create, write, shorten, link, unlink, rename, rename_new}
use Rattle.files.specs.Plain.{Received, got, PlainOutcome, plain}
use Rattle.checkpoint.specs.Live.{World, Outcome, tells, world_in, store_alone, live, out_of}
use Rattle.checkpoint.specs.List.{call, advances, starts, outcome, run}
use Rattle.checkpoint.specs.Burst.{Act, one, bursts, singles}
use Rattle.checkpoint.proofs.TableLaws.{look_up_alone, read_alone}
use Rattle.watch.specs.Received.{outcome_of, out_after, received}
use Rattle.watch.specs.Claim.{AsDefined}
use Rattle.watch.specs.Made.{Did, on_store, on_three, started, stepped, asked, stepped_many, Made, none, then}
use Rattle.watch.proofs.OutLaws.{no_out, look_up_out, read_out}
use Rattle.watch.proofs.SinglesLaws.{singles_next}

module _ (w : World) where
  -- what is left and told is the definition's
  by_outcome : (x : Act) (t : Told) (v : World) (out : List ℕ) → tells t v.store v.image v.desk ≡ outcome_of x w → out ≡ out_after x w → AsDefined x w (got t out) v
  by_outcome x t v out h k = record { world = ap world_in h; got = ap₂ got (ap (λ (o : Outcome). o.answer) h) k }

  -- a call on the store alone leaves what the plain store does
  abbrev beside : PlainOutcome → Outcome
  beside o = tells o.answer o.store w.image w.desk

  alone : (c : Call) → store_alone c ≡ true → (live c w ≡ beside (plain c w.store)) × (out_of c w ≡ (plain c w.store).out)
  alone (look_up d name) h = (look_up_alone w d name, look_up_out w d name)
  alone (read i o out) h = (read_alone w i o out, read_out w i o out)
  alone (create d name k) h = absurd (true≢false (sym h))
  alone (write i o xs) h = absurd (true≢false (sym h))
  alone (shorten i z) h = absurd (true≢false (sym h))
  alone (link d name i) h = absurd (true≢false (sym h))
  alone (unlink d name) h = absurd (true≢false (sym h))
  alone (rename d name e other) h = absurd (true≢false (sym h))
  alone (rename_new d name e other) h = absurd (true≢false (sym h))

pub did : {x : Act} {w v : World} {a : Received} → Did x w a v → AsDefined x w a v
unfolding outcome
did {w = w} (on_store {c} {out = out} t n h) =
    let l = alone w c n in
    by_outcome w (one (call c)) t w out (ap (beside w) h ∙ sym l.0) (ap (λ (o : PlainOutcome). o.out) h ∙ sym l.1)
did {w = w} {v = v} (on_three {c} t n h) = by_outcome w (one (call c)) t v [] h (sym (no_out w c n))
did {w = w} {v = v} (started t h) = by_outcome w (one starts) t v [] h refl
did {w = w} {v = v} (stepped t h) = by_outcome w (one advances) t v [] h refl
did {w = w} (asked t h) = record { world = refl; got = ap (λ (x : Told). got x []) h }
did {w = w} {v = v} (stepped_many {k} t h) = by_outcome w (bursts k) t v [] h refl

pub record AllDefined (xs : List Act) (w : World) (rs : List Received) (u : World) : Type 0 where
  pub world : u ≡ run (singles xs w) w
  pub got : rs ≡ received xs w

pub made : {xs : List Act} {w u : World} {rs : List Received} → Made xs w rs u → AllDefined xs w rs u
unfolding run received singles
made none = record { world = refl; got = refl }
made (then {x} {xs} {a} {rs} {w} {v} {u} d m) =
    let h = did d in
    let k = made m in
    record {
      world = k.world ∙ ap (λ (y : World). run (singles xs y) y) h.world ∙ sym (singles_next x xs w);
      got = ap₂ (λ (y : Received) (ys : List Received). y ∷ ys) h.got (k.got ∙ ap (received xs) h.world);
    }
