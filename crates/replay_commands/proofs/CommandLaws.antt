-- Laws of what a command line asks for: what the code's turns and branches find is the definition's.
use Rattle.std.specs.Prelude.{None, Option, Some}
use Prim.Native.Nat.{ℕ, zero, suc, ◌-◌, ◌≤◌, ◌<◌}
use mathlib.Core.Path.{◌≡◌, refl, sym, ap, ◌∙◌}
use mathlib.Core.Bool.{Bool, true, false}
use mathlib.Core.List.{List, [], ◌∷◌}
use native.Mathlib.Omega.{arith}
use lib.ListN.{length, take, drop, length-drop, length-take}
use lib.Seq.{take_all}
use Rattle.bounded.specs.Search.{pick, first, on_found}
use Rattle.bounded.proofs.SearchLaws.{first_ext, found_below}
use lib.Dec.{eqb}
use borrow.Author.Tests.{eq-eqb, ne_eqb}
use Rattle.bounded.specs.Below.{all_below}
use Rattle.bounded.proofs.BoolLaws.{and_false_l, chain_end}
use Rattle.bounded.proofs.CaseLaws.{NoneBelow, above}
use Rattle.octets.specs.Octets.{part}
use Rattle.octets.proofs.PartLaws.{front_all}
use Rattle.text.specs.Letters.{letters}
use Rattle.std.specs.Option.{unwrap_or, is_some}
use Rattle.std.specs.Bool.{then_some}
use Rattle.text.specs.Number.{number_of, on_number}
use Rattle.text.specs.Hex.{hex_count, take_hex}
use Rattle.text.specs.Pieces.{place_from, piece, pieces, is_word}
use Rattle.replay_commands.specs.Command.{is_arrow, command_in, Form, forms, asked_in, asked, field_value, value_at, worth, has_value, fits, bytes_at, parsed, form_of, asked_by, parsed_by}
use Rattle.replay_commands.specs.declared.Command.{Command}
use Rattle.replay_commands.specs.declared.Command.TheVariants.{Bad}

-- ---- the command of a line
-- four bytes of what stands from k on are the arrow
abbrev pub cut_arrow : List ℕ → ℕ → Bool
cut_arrow s k = is_word (take 4 (take (length s - k) (drop k s))) (letters " => ")

cut_is : (s : List ℕ) (k : ℕ) → cut_arrow s k ≡ is_arrow s k
unfolding is_arrow part
cut_is s k = ap (λ (l : List ℕ). is_word (take 4 l) (letters " => ")) (take_all (length s - k) (drop k s) (omega (arith, length-drop k s)))

module _ (s : List ℕ) (r : Option ℕ) (e : r ≡ first (cut_arrow s) (length s)) where
  place : on_found r (λ t. t) (length s) ≡ place_from (is_arrow s) 0 (length s)
  unfolding place_from first
  place = let z : length s - 0 ≡ length s = omega arith in rw (e, z, first_ext (cut_arrow s) (is_arrow s) 0 (length s) (λ j l m. cut_is s j)) refl

  pub command_part : (k : ℕ) → r ≡ Some k → take k s ≡ command_in s
  unfolding command_in
  command_part k h = let f : k ≡ place_from (is_arrow s) 0 (length s) = ap (λ (x : Option ℕ). on_found x (λ t. t) (length s)) (sym h) ∙ place in ap (λ (m : ℕ). take m s) f

  pub command_all : r ≡ None → s ≡ command_in s
  unfolding command_in
  command_all h = let f : length s ≡ place_from (is_arrow s) 0 (length s) = ap (λ (x : Option ℕ). on_found x (λ t. t) (length s)) (sym h) ∙ place in front_all s (place_from (is_arrow s) 0 (length s)) (omega arith)

  pub command_within : (k : ℕ) → r ≡ Some k → k ≡ length (take k s)
  command_within k h = let l : k < length s = found_below (cut_arrow s) (length s) e h in omega (arith, length-take k s)

-- ---- what a field is worth
module _ (p s : List ℕ) (a b : ℕ) (r : Option ℕ) where
  pub value_number : is_word p (letters "#") ≡ true → r ≡ number_of s → r ≡ field_value p s a b
  unfolding field_value
  value_number h e = rw h e

  pub value_name : is_word p (letters "#") ≡ false → is_word p (letters "*") ≡ true → r ≡ hex_count s a → r ≡ field_value p s a b
  unfolding field_value
  value_name g h e = rw (g, h) e

  pub value_other : is_word p (letters "#") ≡ false → is_word p (letters "*") ≡ false → is_word p (letters "+") ≡ true → r ≡ hex_count s b → r ≡ field_value p s a b
  unfolding field_value
  value_other f g h e = rw (f, g, h) e

module _ (p s : List ℕ) (a b : ℕ) (f : is_word p (letters "#") ≡ false) (g : is_word p (letters "*") ≡ false) (h : is_word p (letters "+") ≡ false) where
  pub value_word : (r : Option ℕ) → r ≡ then_some {T = ℕ} (is_word s p) 0 → r ≡ field_value p s a b
  unfolding field_value
  value_word r e = rw (f, g, h) (e ∙ as_pick (is_word s p))
    where
      as_pick : (c : Bool) → then_some {T = ℕ} c 0 ≡ pick c (Some 0) None
      as_pick true = refl
      as_pick false = refl

pub value_at_lem : (form cmd p s : List ℕ) (a b k : ℕ) (r : Option ℕ) → p ≡ piece form 32 k → s ≡ piece cmd 32 k → r ≡ field_value p s a b → r ≡ value_at form cmd a b k
unfolding value_at
value_at_lem form cmd p s a b k r e f h = h ∙ rw (e, f) refl

pub worth_or : (form cmd : List ℕ) (a b k : ℕ) (r : Option ℕ) (v : ℕ) → r ≡ value_at form cmd a b k → v ≡ unwrap_or r 0 → v ≡ worth form cmd a b k
unfolding worth
worth_or form cmd a b k r v e h = rw (← e) (h ∙ go r)
  where
    go : (r : Option ℕ) → unwrap_or r 0 ≡ on_number r (λ n. n) 0
    go (Some n) = refl
    go None = refl

pub has_value_is : (r : Option ℕ) → is_some r ≡ has_value r
has_value_is (Some n) = refl
has_value_is None = refl

-- ---- the form that a command fits, and the field that is to be p
module _ (form cmd : List ℕ) (a b : ℕ) where
  pub fits_all : (n : ℕ) (r : Bool) → n ≡ pieces form 32 → pieces cmd 32 ≡ n → r ≡ all_below (λ k. has_value (value_at form cmd a b k)) n → r ≡ fits form cmd a b
  unfolding fits
  fits_all n r e h g = chain_end r (eqb (pieces cmd 32) (pieces form 32)) (all_below (λ k. has_value (value_at form cmd a b k)) (pieces form 32)) (eq-eqb _ _ (h ∙ e)) (g ∙ ap (all_below (λ k. has_value (value_at form cmd a b k))) e)

  pub fits_not : (pieces cmd 32 ≡ pieces form 32 → ⊥) → false ≡ fits form cmd a b
  unfolding fits
  fits_not h = sym (and_false_l (eqb (pieces cmd 32) (pieces form 32)) (all_below (λ k. has_value (value_at form cmd a b k)) (pieces form 32)) (ne_eqb _ _ h))

module _ (form p cmd : List ℕ) where
  pub bytes_found : (k : ℕ) → first (λ j. is_word (piece form 32 j) p) (pieces form 32) ≡ Some k → piece cmd 32 k ≡ bytes_at form p cmd
  unfolding bytes_at
  bytes_found k e = rw e refl

  pub bytes_none : first (λ j. is_word (piece form 32 j) p) (pieces form 32) ≡ None → [] ≡ bytes_at form p cmd
  unfolding bytes_at
  bytes_none e = rw e refl

-- ---- what a form asks for
pub asked_is : (i j a b c d : ℕ) → j ≡ i → asked i a b c d ≡ asked j a b c d
asked_is i j a b c d e = ap (λ (x : ℕ). asked x a b c d) (sym e)

past : (fs : List Form) (j a b c d : ℕ) → length fs ≤ j → Bad ≡ asked_in fs j a b c d
past [] j a b c d l = refl
past (f ∷ fs) zero a b c d l = absurd (omega arith)
past (f ∷ fs) (suc j) a b c d l = past fs j a b c d (omega arith)

pub asked_no : (j a b c d : ℕ) → NoneBelow 22 j → Bad ≡ asked j a b c d
unfolding asked forms
asked_no j a b c d h = past forms j a b c d (above 22 j h)

pub asked_all : (j : ℕ) (form cmd : List ℕ) (a b x y z w : ℕ) (r : Command) → x ≡ worth form cmd a b 1 → y ≡ worth form cmd a b 2 → z ≡ worth form cmd a b 3 → w ≡ worth form cmd a b 4 → r ≡ asked j x y z w → r ≡ asked_by j form cmd a b
unfolding asked_by
asked_all j form cmd a b x y z w r e f g h k = k ∙ rw (e, f, g, h) refl

-- ---- what a line leaves
module _ (lines cmd b o : List ℕ) (t : Option ℕ) (e : t ≡ form_of lines cmd (length b) (length o)) where
  pub parsed_none : t ≡ None → parsed Bad b o ≡ parsed_by lines cmd b o
  unfolding parsed_by
  parsed_none h = rw (← e, h) refl

  pub parsed_at : (j : ℕ) (form f g b₂ o₂ : List ℕ) (r : Command) → t ≡ Some j → form ≡ piece lines 10 j → f ≡ bytes_at form (letters "*") cmd → b₂ ≡ take_hex f b
      → g ≡ bytes_at form (letters "+") cmd → o₂ ≡ take_hex g o → r ≡ asked_by j form cmd (length b) (length o) → parsed r b₂ o₂ ≡ parsed_by lines cmd b o
  unfolding parsed_by
  parsed_at j form f g b₂ o₂ r h p q x u v y = rw (← e, h, ← p, x, q, v, u, y) refl
