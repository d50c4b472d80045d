-- The calls: what the guards let through, and each way that a call returns.
use Rattle.std.specs.Prelude.{Err, Ok, Result}
use Rattle.std.specs.Result.{IsErrAnd}
use Prim.Native.Nat.{ℕ}
use mathlib.Core.Path.{◌≡◌, refl, sym, ap, ◌∙◌}
use mathlib.Core.Bool.{true, false}
use mathlib.Core.List.{List, []}
use Rattle.bounded.proofs.SearchLaws.{pick_not}
use Rattle.sound.specs.Sound.{inodes_in, blocks_in}
use Rattle.sound.specs.Counted.{SoundStore}
use Rattle.sound.specs.declared.Form.TheVariants.{Store}
use Rattle.sound.proofs.SoundLaws.{is_sound_lem}
use Rattle.sound.specs.Test.{framed_b, is_sound}
use Rattle.answers.specs.declared.Refusal.{Refusal}
use Rattle.answers.specs.declared.Refusal.TheVariants.{BadBuffer, UnsoundStore}
use Rattle.answers.specs.Told.{Answer}
use Rattle.answers.proofs.RefusalLaws.{err_not_ok, exit}
use Rattle.files.specs.Guard.{guard_of}
use Rattle.files.specs.Effect.{Call, Planned, refused, planned, plain_decision, given, do_look_up}
use Rattle.files.specs.Plain.{PlainOutcome, plain_left, leaves, plain}
use Rattle.layout.specs.declared.header.Counts.{Counts}
use Rattle.layout.specs.Header.{counts}

-- ---- the guards in code
module _ (s : List ℕ) where
  pub guard_unframed : framed_b Store s ≡ false → Err BadBuffer ≡ guard_of s
  unfolding guard_of
  guard_unframed f = rw f

  module _ (f : framed_b Store s ≡ true) where
    pub guard_unsound : is_sound Store s ≡ false → Err UnsoundStore ≡ guard_of s
    unfolding guard_of
    guard_unsound g = rw (f, g)

    pub guard_sound : (n b : ℕ) → is_sound Store s ≡ true → n ≡ inodes_in s → b ≡ blocks_in s → Ok (counts n b) ≡ guard_of s
    unfolding guard_of
    guard_sound n b g p q = rw (f, g, p, q)

-- ---- what they let through
module _ (s : List ℕ) where
  pub passed : (n b : ℕ) → guard_of s ≡ Ok (counts n b) → SoundStore s n b
  unfolding guard_of
  passed n b e =
      let z : Result Counts Refusal = Ok (counts n b) in
      let a = pick_not (framed_b Store s) (Err _) _ z e (err_not_ok _ _) in
      let c = pick_not (is_sound Store s) (Err _) _ z a.1 (err_not_ok _ _) in
      let q : counts (inodes_in s) (blocks_in s) ≡ counts n b = cc c.1 in
      record {
        sound = (is_sound_lem Store s).to c.0;
        inodes = sym (ap (λ (x : Counts). x.inodes) q);
        blocks = sym (ap (λ (x : Counts). x.blocks) q);
      }

-- ---- a call returns: g is what the guard has answered, x what it leaves
module _ (c : Call) (s : List ℕ) (g : Result Counts Refusal) (e : g ≡ guard_of s) where
  pub call_through : (n b : ℕ) (x : PlainOutcome) → g ≡ Ok (counts n b) → x ≡ leaves s (given c) (planned c s n b) → x ≡ plain c s
  unfolding plain plain_decision
  call_through n b x h q = let p = sym e ∙ h in rw p (q)

  pub call_stopped : (w : Refusal) (r : Answer) → IsErrAnd r (λ y. y ≡ w) → g ≡ Err w → plain_left r s (given c) ≡ plain c s
  unfolding plain plain_decision
  call_stopped w r x h = let p = sym e ∙ h in rw (exit r w x, p) refl

-- the plan is a refusal, which the call hands on
pub plan_refused : {P : Type 0} (does : Result P Refusal → Planned) (s out : List ℕ) (p : Result P Refusal) (w : Refusal) (r : Answer)
    → does (Err w) ≡ refused w → p ≡ Err w → IsErrAnd r (λ y. y ≡ w) → plain_left r s out ≡ leaves s out (does p)
plan_refused does s out p w r d q x = rw (exit r w x) (ap (leaves s out) (sym d) ∙ ap (λ y. leaves s out (does y)) (sym q))

-- a look up answers what its plan does
pub looked : (s : List ℕ) {r p : Answer} → r ≡ p → plain_left r s [] ≡ leaves s [] (do_look_up s p)
looked s {r} {p} e = rw e (go p)
  where
    go : (p : Answer) → plain_left p s [] ≡ leaves s [] (do_look_up s p)
    go (Ok i) = refl
    go (Err w) = refl
