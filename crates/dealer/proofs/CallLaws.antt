-- What the promise of a call says of its answer and of its counts.
use Rattle.std.specs.Prelude.{Err, Ok}
use Prim.Native.Nat.{ℕ, ◌<◌}
use mathlib.Core.Path.{◌≡◌, refl, sym, ap, subst, ◌∙◌}
use mathlib.Core.Bool.{Bool, true, false}
use native.Mathlib.Omega.{arith}
use lib.ListN.{get_or, replicate, get_or-replicate}
use Rattle.bounded.specs.Search.{pick}
use Rattle.bounded.specs.Table.{table}
use Rattle.bounded.proofs.TableLaws.{get_or_table}
use Rattle.answers.specs.declared.Refusal.TheVariants.{BadTurn}
use Rattle.answers.specs.Refusal.{refusal_number}
use Rattle.answers.specs.Told.{Told}
use Rattle.dealer.specs.Deal.{bays, served, gets, Dealt, turn, turn_allowed}
use Rattle.dealer.specs.Claims.{Call, Answers, given}
use Rattle.dealer.specs.Places.{Allowed}
use Rattle.dealer.proofs.Circle.{served_below}
use Rattle.dealer.proofs.TurnLaws.{allowed_is}

-- a call that answered y
pub record Accepted (c : Call) (y : ℕ) : Type 0 where
  pub told : Allowed c.steps c.last
  pub answered : served c.flags c.last c.steps ≡ y
  pub gave : (x : ℕ) → x < bays → given c x ≡ gets c.flags c.last c.steps x

value : Told → ℕ
value t = get_or t.values 0 0

module _ (c : Call) where
  abbrev allowed : Bool
  allowed = turn_allowed c.steps c.last

  abbrev of : Bool → Dealt
  of v =
      pick v (turn (Ok (served c.flags c.last c.steps)) (table (gets c.flags c.last c.steps) bays))
      (turn (Err BadTurn) (replicate bays 0))

  -- the counts, refused or not
  pub data Gave : Type 0 where
    steps : Allowed c.steps c.last → ((x : ℕ) → x < bays → given c x ≡ gets c.flags c.last c.steps x) → Gave
    nothing : ((x : ℕ) → x < bays → given c x ≡ 0) → Gave

  counted : turn c.answer c.counts ≡ of true → (x : ℕ) → x < bays → given c x ≡ gets c.flags c.last c.steps x
  counted p x hx = ap (λ (d : Dealt). get_or d.counts x 0) p ∙ get_or_table (gets c.flags c.last c.steps) bays x hx

  pub gave : Gave
  gave = go allowed refl c.promise
    where
      go : (v : Bool) → allowed ≡ v → turn c.answer c.counts ≡ of v → Gave
      go true e p = steps (allowed_is _ _ e) (counted p)
      go false e p = nothing (λ x hx. ap (λ (d : Dealt). get_or d.counts x 0) p ∙ get_or-replicate {A = ℕ} bays x 0 0 hx)

  pub answers : allowed ≡ true → (x : ℕ) × (x < bays) × Answers c x
  answers e =
      let p = subst (λ (v : Bool). turn c.answer c.counts ≡ of v) e c.promise in
      let hb = (allowed_is c.steps c.last e).bay in
      (served c.flags c.last c.steps, served_below c.flags c.last c.steps hb, ap (λ (d : Dealt). d.answer) p)

  pub accepted : (y : ℕ) → Answers c y → Accepted c y
  unfolding value
  accepted y a = go allowed refl c.promise
    where
      go : (v : Bool) → allowed ≡ v → turn c.answer c.counts ≡ of v → Accepted c y
      go true e p = record {
        told = allowed_is _ _ e;
        answered = ap value (sym (ap (λ (d : Dealt). d.answer) p) ∙ a);
        gave = counted p;
      }
      go false e p = let z : refusal_number BadTurn ≡ 0 = ap (λ (t : Told). t.number) (sym (ap (λ (d : Dealt). d.answer) p) ∙ a) in absurd (omega arith)
