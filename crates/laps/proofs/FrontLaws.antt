-- Four lists that are written from the front on, turn by turn.
use Prim.Native.Nat.{ℕ, ◌+◌, ◌-◌}
use mathlib.Core.Path.{◌≡◌, refl, sym, ap, subst, ◌∙◌}
use mathlib.Core.List.{List, [], ◌∷◌, ◌++◌, append-nil}
use native.Mathlib.Nat.{zero-add}
use native.Mathlib.Omega.{arith}
use lib.ListN.{length, set, drop, length-append, length-drop}
use lib.Seq.{append_snoc}
use Rattle.octets.specs.Octets.{part, splice, pasted}
use Rattle.octets.proofs.PartLaws.{splice_append, splice_snoc, front_all}
use Rattle.laps.specs.Walk.{Lists, lists, paired, watch_aside, mat_aside}
use Rattle.laps.specs.Call.{over}

-- k of the list's times stand in the buffer, and `rest` is to be written
pub record Front (l : List ℕ) (k : ℕ) (rest entry b : List ℕ) : Type 0 where
  pub fore : List ℕ
  pub long : length fore ≡ k
  pub whole : fore ++ rest ≡ l
  pub is : b ≡ splice entry 0 fore

pub begins : (l b : List ℕ) → Front l 0 l b b
unfolding splice
begins l b = record { fore = []; long = refl; whole = refl; is = refl }

-- one time more
pub puts : {l entry b rest : List ℕ} {k : ℕ} (x : ℕ) → Front l k (x ∷ rest) entry b → Front l (k + 1) rest entry (set b k x)
puts {l} {entry} {b} {rest} {k} x f =
    record {
      fore = f.fore ++ (x ∷ []);
      long = length-append f.fore (x ∷ []) ∙ ap (◌+ 1) f.long;
      whole = append_snoc f.fore x rest ∙ f.whole;
      is = ap (λ (c : List ℕ). set c k x) f.is ∙ ap (λ (n : ℕ). set (splice entry 0 f.fore) n x) (sym (zero-add k)) ∙ splice_snoc entry 0 f.fore k x f.long;
    }

-- all that is left
pub lays : {l entry b rest : List ℕ} {k : ℕ} → Front l k rest entry b → splice b k rest ≡ splice entry 0 l
lays {l} {entry} {b} {rest} {k} f =
    ap (λ (c : List ℕ). splice c k rest) f.is
    ∙ ap (λ (n : ℕ). splice (splice entry 0 f.fore) n rest) (sym f.long ∙ sym (zero-add (length f.fore)))
    ∙ splice_append entry 0 f.fore rest
    ∙ ap (splice entry 0) f.whole

pub ends : {l entry b : List ℕ} {k : ℕ} → Front l k [] entry b → (k ≡ length l) × (b ≡ splice entry 0 l)
ends {l} {entry} {b} {k} f =
    let e = sym (append-nil f.fore) ∙ f.whole in
    (sym f.long ∙ ap length e, f.is ∙ ap (splice entry 0) e)

-- what is left of a list, as the code lays it
pub rest_laid : (d : List ℕ) (o : ℕ) (s : List ℕ) (i : ℕ) → pasted d o s i (length s - i) ≡ splice d o (drop i s)
unfolding pasted part
rest_laid d o s i = ap (splice d o) (sym (front_all (drop i s) (length s - i) (let e = length-drop i s in omega arith)))

-- ---- all four: t is to be written into o, r of it is left, and v is what stands there
pub record Written (t r : Lists) (p x y : ℕ) (o v : Lists) : Type 0 where
  pub paired_watch : Front t.paired_watch p r.paired_watch o.paired_watch v.paired_watch
  pub paired_mat : Front t.paired_mat p r.paired_mat o.paired_mat v.paired_mat
  pub alone_watch : Front t.alone_watch x r.alone_watch o.alone_watch v.alone_watch
  pub alone_mat : Front t.alone_mat y r.alone_mat o.alone_mat v.alone_mat

pub written_begin : (t o : Lists) → Written t t 0 0 0 o o
written_begin t o = record { paired_watch = begins _ _; paired_mat = begins _ _; alone_watch = begins _ _; alone_mat = begins _ _ }

module _ {t s r : Lists} {p x y : ℕ} {o v : Lists} where
  -- a turn, by what it reports
  pub written_watch : (a x' : ℕ) → s ≡ watch_aside a r → x' ≡ x + 1 → Written t s p x y o v
      → Written t r p x' y o (lists v.paired_watch v.paired_mat (set v.alone_watch x a) v.alone_mat)
  written_watch a x' e h f =
      let g = subst (λ (q : Lists). Written t q p x y o v) e f in
      subst (λ (k : ℕ). Written t r p k y o (lists v.paired_watch v.paired_mat (set v.alone_watch x a) v.alone_mat)) (sym h)
      (record { paired_watch = g.paired_watch; paired_mat = g.paired_mat; alone_watch = puts a g.alone_watch; alone_mat = g.alone_mat })

  pub written_mat : (b y' : ℕ) → s ≡ mat_aside b r → y' ≡ y + 1 → Written t s p x y o v
      → Written t r p x y' o (lists v.paired_watch v.paired_mat v.alone_watch (set v.alone_mat y b))
  written_mat b y' e h f =
      let g = subst (λ (q : Lists). Written t q p x y o v) e f in
      subst (λ (k : ℕ). Written t r p x k o (lists v.paired_watch v.paired_mat v.alone_watch (set v.alone_mat y b))) (sym h)
      (record { paired_watch = g.paired_watch; paired_mat = g.paired_mat; alone_watch = g.alone_watch; alone_mat = puts b g.alone_mat })

  pub written_pair : (a b x' y' : ℕ) → s ≡ paired a b r → x' ≡ x → y' ≡ y → Written t s p x y o v
      → Written t r (p + 1) x' y' o (lists (set v.paired_watch p a) (set v.paired_mat p b) v.alone_watch v.alone_mat)
  written_pair a b x' y' e hx hy f =
      let g = subst (λ (q : Lists). Written t q p x y o v) e f in
      let u = lists (set v.paired_watch p a) (set v.paired_mat p b) v.alone_watch v.alone_mat in
      subst (λ (k : ℕ). Written t r (p + 1) k y' o u) (sym hx)
      (subst (λ (k : ℕ). Written t r (p + 1) x k o u) (sym hy)
      (record { paired_watch = puts a g.paired_watch; paired_mat = puts b g.paired_mat; alone_watch = g.alone_watch; alone_mat = g.alone_mat }))

-- no pair is left: the rest of both lists is laid behind what was set aside
pub written_last : {t s : Lists} {p x y : ℕ} {o v : Lists} (aw am : List ℕ) → s ≡ lists [] [] aw am → Written t s p x y o v
    → (p ≡ length t.paired_watch) × (lists v.paired_watch v.paired_mat (splice v.alone_watch x aw) (splice v.alone_mat y am) ≡ over t o)
written_last {t} {s} {p} {x} {y} {o} {v} aw am e f =
    let g = subst (λ (q : Lists). Written t q p x y o v) e f in
    ((ends g.paired_watch).0, rw ((ends g.paired_watch).1, (ends g.paired_mat).1, lays g.alone_watch, lays g.alone_mat) refl)

pub past_a_pair : (i p : ℕ) → i + 1 - (p + 1) ≡ i - p
past_a_pair i p = omega arith
