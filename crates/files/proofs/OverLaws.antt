-- A rename onto a name that another entry has, as the code does it: the recorder's rename first, and where that answers 7 an unlink of the holder and then that rename again. n and b are the counts of inodes and blocks.
use Rattle.std.specs.Prelude.{Ok, Err}
use Prim.Native.Nat.{ℕ}
use mathlib.Core.Path.{◌≡◌, refl, sym, ap, ◌∙◌, subst}
use mathlib.Core.Logic.{◌≢◌}
use mathlib.Core.Bool.{Bool, true, false}
use mathlib.Core.List.{List, [], ◌∷◌}
use borrow.Author.Tests.{eq-eqb, ne_eqb}
use lib.Dec.{eqb}
use Rattle.bounded.specs.Search.{pick}
use Rattle.bounded.proofs.BoolLaws.{clash}
use Rattle.bounded.proofs.EachLaws.{All}
use Rattle.layout.specs.Inode.{kind_of, free_kind}
use Rattle.sound.specs.Counted.{SoundStore}
use Rattle.answers.specs.declared.Refusal.TheVariants.{NameTaken}
use Rattle.answers.specs.Refusal.{refusal_number}
use Rattle.answers.specs.declared.Refusal.{Refusal}
use Rattle.answers.specs.Told.{Answer, told}
use Rattle.answers.proofs.RefusalLaws.{number_range}
use native.Mathlib.Omega.{arith}
use Rattle.entries.specs.Plan.{unlink_plan, over_plan}
use Rattle.entries.specs.Apply.{unlinked}
use Rattle.entries.proofs.PlanFacts.{replaces}
use Rattle.entries.proofs.OverKeeps.{Onward, within, to, onward, gone_sound, mover_used}
use Rattle.files.specs.Effect.{entry, Effect, changes, and_then, Planned, refused, does, plan_then, if_taken, watched, do_unlink, do_rename, do_rename_new, do_over}
use Rattle.files.specs.Plain.{PlainOutcome, plain_left, leaves}
use Rattle.entries.specs.declared.OverPlan.TheVariants.{Over}

-- ---- where the recorder's rename answers 7, and where it does not: s is the store before it, t after it
module _ (s t : List ℕ) (p : Planned) (a : Answer) (left : plain_left a t [] ≡ leaves s [] p) where
  abbrev taken : Bool
  taken = eqb (told a).number (refusal_number NameTaken)

  by_seven : (p : Planned) (c : Bool) → eqb (leaves s [] p).answer.number (refusal_number NameTaken) ≡ c
      → (c ≡ true → (leaves s [] p).store ≡ s) × ((q : Planned) → leaves s [] (if_taken p q) ≡ pick c (leaves s [] q) (leaves s [] p))
  by_seven (does x) true e = absurd (clash false e refl)
  by_seven (does x) false e = (λ z. absurd (clash false z refl), λ q. refl)
  by_seven (refused f) true e = (λ _. refl, λ q. rw e refl)
  by_seven (refused f) false e = (λ _. refl, λ q. rw e refl)

  same_answer : (c : Bool) → taken ≡ c → eqb (leaves s [] p).answer.number (refusal_number NameTaken) ≡ c
  same_answer c e = ap (λ (o : PlainOutcome). eqb o.answer.number (refusal_number NameTaken)) (sym left) ∙ e

  pub taken_stays : taken ≡ true → t ≡ s
  taken_stays e = ap (λ (o : PlainOutcome). o.store) left ∙ (by_seven p true (same_answer true e)).0 refl

  pub taken_goes_on : (q : List ℕ → Planned) (o : PlainOutcome) → taken ≡ true → o ≡ leaves t [] (q t) → o ≡ leaves s [] (if_taken p (q s))
  taken_goes_on q o e h = h ∙ ap (λ (v : List ℕ). leaves v [] (q v)) (taken_stays e) ∙ sym ((by_seven p true (same_answer true e)).1 (q s))

  pub untaken_ends : (q : Planned) → taken ≡ false → plain_left a t [] ≡ leaves s [] (if_taken p q)
  untaken_ends q e = left ∙ sym ((by_seven p false (same_answer false e)).1 q)

-- ---- what is left to do once the holder is gone
pub record Renamed (s : List ℕ) (n b d : ℕ) (name : List ℕ) (e : ℕ) (other : List ℕ) (i : ℕ) : Type 0 where
  pub effect : Effect
  pub done : do_rename_new s n b d name e other ≡ does effect
  pub answers : effect.answer ≡ 0
  pub touches : effect.touches ≡ watched d e i
  pub mover : All (λ z. z.inode ≡ i) effect.made

onward_renamed : (s : List ℕ) (n b d : ℕ) (name : List ℕ) (e : ℕ) (other : List ℕ) (t i : ℕ) → Onward s n b d name e other t i → Renamed s n b d name e other i
onward_renamed s n b d name e other t i (within z q) = record {
  effect = _;
  done = ap (do_rename s n d e other) q;
  answers = refl;
  touches = rw (eq-eqb d e z) refl;
  mover = tt;
}
onward_renamed s n b d name e other t i (to z r q) = record {
  effect = _;
  done = ap (do_rename s n d e other) q;
  answers = refl;
  touches = rw (ne_eqb d e z) refl;
  mover = (refl, tt);
}

-- it is an unlink, and then the recorder's rename
pub record Replaced (s : List ℕ) (n b d : ℕ) (name : List ℕ) (e : ℕ) (other : List ℕ) (i h : ℕ) : Type 0 where
  pub slot : ℕ
  pub unlinks : do_unlink s n e (unlink_plan s n e other) ≡ does (changes 0 (unlinked s n e slot h) (e ∷ h ∷ []) (entry e slot h ∷ []) [])
  pub sound : SoundStore (unlinked s n e slot h) n b
  pub renames : Renamed (unlinked s n e slot h) n b d name e other i
  pub differ : i ≢ h
  pub used : kind_of (unlinked s n e slot h) i ≢ free_kind

module _ (s : List ℕ) (n b d : ℕ) (name : List ℕ) (e : ℕ) (other : List ℕ) (i h : ℕ) (k : SoundStore s n b) (q : over_plan s n d name e other ≡ Ok (Over i h)) where
  pub replaced : Replaced s n b d name e other i h
  replaced =
      let r = replaces s n d name e other i h q in
      let p = r.0 in
      record {
        slot = p.held;
        unlinks = ap (do_unlink s n e) p.goes;
        sound = gone_sound s n b d name e other i h k p r.1;
        renames = onward_renamed _ n b d name e other p.slot i (onward s n b d name e other i h k p r.1);
        differ = r.1;
        used = mover_used s n b d name e other i h k p r.1;
      }

  pub over_does : do_over s n b d name e other (over_plan s n d name e other)
      ≡ does (and_then (changes 0 (unlinked s n e replaced.slot h) (e ∷ h ∷ []) (entry e replaced.slot h ∷ []) []) replaced.renames.effect)
  over_does =
      ap (do_over s n b d name e other) q
      ∙ ap (λ (p : Planned). plan_then p (λ t. do_rename_new t n b d name e other)) replaced.unlinks
      ∙ ap (λ (p : Planned). plan_then (does (changes 0 (unlinked s n e replaced.slot h) (e ∷ h ∷ []) (entry e replaced.slot h ∷ []) [])) (λ t. p)) replaced.renames.done

  -- t is the store after the unlink, which answers a
  module _ (t : List ℕ) (a : Answer) (left : plain_left a t [] ≡ leaves s [] (do_unlink s n e (unlink_plan s n e other))) where
    pub after_unlink : t ≡ unlinked s n e replaced.slot h
    after_unlink = ap (λ (o : PlainOutcome). o.store) left ∙ ap (λ (p : Planned). (leaves s [] p).store) replaced.unlinks

    pub still_sound : SoundStore t n b
    still_sound = subst (λ (v : List ℕ). SoundStore v n b) (sym after_unlink) replaced.sound

    -- so it is not refused
    pub goes_unrefused : (w : Refusal) → a ≡ Err w → ⊥
    goes_unrefused w r =
        let z : refusal_number w ≡ 0 =
        ap (λ (x : Answer). (told x).number) (sym r) ∙ ap (λ (o : PlainOutcome). o.answer.number) left ∙ ap (λ (p : Planned). (leaves s [] p).answer.number) replaced.unlinks in
        let l = (number_range w).0 in
        omega arith

    pub over_leaves : (o : PlainOutcome) → o ≡ leaves t [] (do_rename_new t n b d name e other) → o ≡ leaves s [] (do_over s n b d name e other (over_plan s n d name e other))
    over_leaves o z =
        z ∙ ap (λ (v : List ℕ). leaves v [] (do_rename_new v n b d name e other)) after_unlink
        ∙ ap (leaves (unlinked s n e replaced.slot h) []) replaced.renames.done
        ∙ sym (ap (leaves s []) over_does)
