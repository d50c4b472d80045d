-- Laws of an answer sent as one number with a sign: it fits 32 bits, and says what the answer tells.
use Rattle.std.specs.Prelude.{Err, Ok, Result}
use Prim.Native.Nat.{ℕ, zero, suc, ◌≤◌}
use mathlib.Core.Path.{◌≡◌, refl, sym, ap, ◌∙◌, subst}
use mathlib.Core.Bool.{Bool, true, false}
use mathlib.Core.List.{List, [], ◌∷◌}
use lib.Dec.{eqb}
use Rattle.bounded.specs.Count.{one}
use Rattle.bounded.specs.Search.{pick}
use Rattle.sound.specs.declared.Form.{Form}
use Rattle.sound.specs.declared.Form.TheVariants.{Store, Image}
use native.Mathlib.Omega.{arith}
use borrow.Author.Tests.{ne_eqb}
use lib.IntN.{ℤ, pos, negsuc, ◌-ℤ◌, +ℤ_idl}
use mir.Syntax.{w32}
use mir.Val.{SFits, of_z, to_z, bool_byte}
use mir.ValLaws.{to_z-of_z, to_z_pos}
use Rattle.answers.specs.declared.Refusal.{Refusal}
use Rattle.answers.specs.Refusal.{refusal_number}
use Rattle.answers.specs.Told.{Answer, Told, told}
use Rattle.answers.proofs.RefusalLaws.{number_range}
use Rattle.format.specs.Format.{LaidOut}
use Rattle.format.specs.Format as laid
use Rattle.files.specs.Plain as alone
use Rattle.checkpoint.specs.Live.{left, Outcome, told_status, standing}
use Rattle.dealer.specs.Deal.{Dealt, turn}
use Rattle.laps.specs.Walk.{Lists}
use Rattle.laps.specs.Call as laps
use Rattle.keeping.specs.Call as keeping
use Rattle.api.specs.Api.{form_told, most_result, code_by, code_of, Fits, Sent, sends, sent_laid, sent_alone, sent, sends_state, sent_state, sent_dealt, sent_laps, sent_kept}
use Rattle.checkpoint.specs.declared.Status.{Status}

-- ---- numbers of 32 bits
number_fits : (n : ℕ) → n ≤ most_result → SFits w32 (pos n)
number_fits n l = record { sfits = omega arith }

pub result_is : (n : ℕ) → n ≤ most_result → to_z w32 n ≡ pos n
result_is n l = to_z_pos w32 n (omega arith)

pub refusal_fits : (k : ℕ) → k ≤ 255 → SFits w32 (code_by k [])
refusal_fits zero l = record { sfits = omega arith }
refusal_fits (suc k) l = record { sfits = omega arith }

minus : (k : ℕ) → pos 0 -ℤ pos k ≡ code_by k []
minus zero = refl
minus (suc k) = +ℤ_idl (negsuc k)

-- minus the number k of a refusal
pub negated : (e : Refusal) (k : ℕ) → k ≡ refusal_number e → pos 0 -ℤ to_z w32 k ≡ code_by (refusal_number e) []
negated e k h =
    let r = (number_range e).1 in
    ap (λ (z : ℤ). pos 0 -ℤ z) (to_z_pos w32 k (omega arith)) ∙ minus k ∙ ap (λ (n : ℕ). code_by n []) h

code_fits : (a : Answer) → Fits (told a) → SFits w32 (code_of (told a))
code_fits (Ok n) l = number_fits n l
code_fits (Err e) l = refusal_fits (refusal_number e) (number_range e).1

-- the result in an answer that fits
pub done_fits : (a : Answer) (n : ℕ) → Fits (told a) → a ≡ Ok n → n ≤ most_result
done_fits a n l e = rw e at l

-- what comes back from a call is the number itself
pub back : {z y : ℤ} → z ≡ y → SFits w32 y → to_z w32 (of_z w32 z) ≡ y
back {z} {y} e f = ap (λ (u : ℤ). to_z w32 (of_z w32 u)) e ∙ to_z-of_z w32 y f

pub done_code : (a : Answer) (n : ℕ) (z : ℤ) → Fits (told a) → a ≡ Ok n → z ≡ pos n → to_z w32 (of_z w32 z) ≡ code_of (told a)
done_code a n z l e f = back f (number_fits n (done_fits a n l e)) ∙ ap (λ (x : Answer). code_of (told x)) (sym e)

pub refused_code : (a : Answer) (r : Refusal) (z : ℤ) → a ≡ Err r → z ≡ code_by (refusal_number r) [] → to_z w32 (of_z w32 z) ≡ code_of (told a)
refused_code a r z e f = back f (refusal_fits _ (number_range r).1) ∙ ap (λ (x : Answer). code_of (told x)) (sym e)

-- ---- an answer and the buffers: a is what the call answered, o what its definition gives, and z what is sent for it
module _ (a : Answer) where
  sent_as : (z : ℤ) (bs : List (List ℕ)) (o : Sent) → Fits (told a) → z ≡ code_of (told a) → sends (code_of (told a)) bs ≡ o → sends (to_z w32 (of_z w32 z)) bs ≡ o
  sent_as z bs o l f e = ap (λ (c : ℤ). sends c bs) (back f (code_fits a l)) ∙ e

  module _ (b : List ℕ) (o : LaidOut) (e : laid.laid_out a b ≡ o) (l : Fits o.answer) where
    pub laid_fits : Fits (told a)
    laid_fits = subst Fits (sym (ap (λ (x : LaidOut). x.answer) e)) l

    pub sent_laid_lem : (z : ℤ) → z ≡ code_of (told a) → sends (to_z w32 (of_z w32 z)) (b ∷ []) ≡ sent_laid o
    sent_laid_lem z f = sent_as z _ _ laid_fits f (ap sent_laid e)

  module _ (s out : List ℕ) (o : alone.PlainOutcome) (e : alone.plain_left a s out ≡ o) (l : Fits o.answer) where
    pub alone_fits : Fits (told a)
    alone_fits = subst Fits (sym (ap (λ (x : alone.PlainOutcome). x.answer) e)) l

    pub sent_alone_lem : (z : ℤ) → z ≡ code_of (told a) → sends (to_z w32 (of_z w32 z)) (s ∷ out ∷ []) ≡ sent_alone o
    sent_alone_lem z f = sent_as z _ _ alone_fits f (ap sent_alone e)

  module _ (s m d : List ℕ) (o : Outcome) (e : left a s m d ≡ o) (l : Fits o.answer) where
    pub three_fits : Fits (told a)
    three_fits = subst Fits (sym (ap (λ (x : Outcome). x.answer) e)) l

    pub sent_three : (z : ℤ) → z ≡ code_of (told a) → sends (to_z w32 (of_z w32 z)) (s ∷ m ∷ d ∷ []) ≡ sent o
    sent_three z f = sent_as z _ _ three_fits f (ap sent e)

  module _ (cs : List ℕ) (o : Dealt) (e : turn a cs ≡ o) (l : Fits o.answer) where
    pub dealt_fits : Fits (told a)
    dealt_fits = subst Fits (sym (ap (λ (x : Dealt). x.answer) e)) l

    pub sent_dealt_lem : (z : ℤ) → z ≡ code_of (told a) → sends (to_z w32 (of_z w32 z)) (cs ∷ []) ≡ sent_dealt o
    sent_dealt_lem z f = sent_as z _ _ dealt_fits f (ap sent_dealt e)

  module _ (v : Lists) (o : laps.Left) (e : laps.left a v ≡ o) (l : Fits o.answer) where
    pub matched_fits : Fits (told a)
    matched_fits = subst Fits (sym (ap (λ (x : laps.Left). x.answer) e)) l

    pub sent_laps_lem : (z : ℤ) → z ≡ code_of (told a) → sends (to_z w32 (of_z w32 z)) (v.paired_watch ∷ v.paired_mat ∷ v.alone_watch ∷ v.alone_mat ∷ []) ≡ sent_laps o
    sent_laps_lem z f = sent_as z _ _ matched_fits f (ap sent_laps e)

  module _ (v : List ℕ) (o : keeping.Left) (e : keeping.left a v ≡ o) (l : Fits o.answer) where
    pub kept_fits : Fits (told a)
    kept_fits = subst Fits (sym (ap (λ (x : keeping.Left). x.answer) e)) l

    pub sent_kept_lem : (z : ℤ) → z ≡ code_of (told a) → sends (to_z w32 (of_z w32 z)) (v ∷ []) ≡ sent_kept o
    sent_kept_lem z f = sent_as z _ _ kept_fits f (ap sent_kept e)

-- ---- the state question
pub state_told : (r : Result Status Refusal) (t : Told) (a l k : ℕ) (ns : List ℕ) → told_status r ≡ t → r ≡ Ok (standing a l k) → sends_state (pos 0) (a ∷ l ∷ k ∷ []) ≡ sent_state t ns
state_told r t a l k ns e h = rw (← e, h) refl

pub state_refused : (r : Result Status Refusal) (t : Told) (e : Refusal) (z : ℤ) (ns : List ℕ) → told_status r ≡ t → r ≡ Err e → z ≡ code_by (refusal_number e) [] → sends_state (to_z w32 (of_z w32 z)) ns ≡ sent_state t ns
state_refused r t e z ns h p q =
    let k = number_range e in
    ap (λ (c : ℤ). sends_state c ns) (back q (refusal_fits _ k.1)) ∙ sym (go (refusal_number e) k.0) ∙ ap (λ (u : Told). sent_state u ns) (sym (ap told_status p) ∙ h)
  where
    go : (k : ℕ) → 1 ≤ k → sent_state (record { number = k; values = [] }) ns ≡ sends_state (code_by k []) ns
    go zero l = absurd (omega arith)
    go (suc k) l = rw (ne_eqb (suc k) 0 (λ e. omega arith)) refl

-- ---- the check
pub one_byte : (b : Bool) → bool_byte b ≡ one b
one_byte true = refl
one_byte false = refl

pub told_form : (k : ℕ) (b : Bool) {f : Form} → eqb k 0 ≡ b → f ≡ pick b Store Image → f ≡ form_told k
told_form k b e q = rw (e, q) refl
