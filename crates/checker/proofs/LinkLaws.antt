-- Laws of the check of link counts, and of the climb from parent to parent with a list of those that are known to lead to the root.
use mathlib.Core.Path.{◌≡◌, refl, sym, ap, ◌∙◌, subst}
use mathlib.Core.Bool.{Bool, true, false, not, ◌||◌}
use mathlib.Core.Logic.{◌⊎◌, inl, inr}
use mathlib.Core.List.{List}
use Prim.Native.Nat.{ℕ, zero, suc, ◌+◌, ◌*◌, ◌-◌, ◌≤◌, ◌<◌}
use native.Mathlib.Decide.{ℕ_discrete}
use native.Mathlib.Omega.{arith}
use borrow.Author.Tests.{eq-eqb, ne_eqb}
use lib.Dec.{eqb, leb}
use lib.ListN.{length, get_or, set, replicate, length-set, length-replicate}
use lib.Seq.{get_or-set_same, get_or-set_other}
use Rattle.bounded.specs.Count.{tally}
use Rattle.bounded.specs.Climb.{Leads, leads_b, Closed}
use Rattle.bounded.proofs.BoolLaws.{clash, holds_or_fails}
use Rattle.bounded.proofs.ClimbLaws.{leads_self, leads_up, leads_turn, leads_end, leads_bool, leads_on}
use Rattle.bounded.proofs.ReflectLaws.{r_eq, r_le, r_says, r_fails, reflects_ext}
use Rattle.layout.specs.Sizes.{root_inode}
use Rattle.layout.specs.Inode.{kind_of, links_of, parent_of, free_kind, directory_kind}
use Rattle.layout.specs.Fits.{InodeFits}
use Rattle.directory.specs.Slot.{most_slots}
use Rattle.sound.specs.Place.{naming, IsDir}
use Rattle.sound.proofs.SoundLaws.{counted_is}
use Rattle.sound.specs.Test.{counted_b, lead_b}
use Rattle.checker.specs.Pass.{Known}

-- ---- the link count l of inode i, which count entries name
module _ (s : List ℕ) (n i count l : ℕ) (t : count ≡ tally (naming s n) (most_slots * n) i) (e : l ≡ links_of s i) where
  pub count_wrong : (l ≡ count → ⊥) → counted_b s n i ≡ false
  count_wrong h = r_fails (counted_is s n i) (λ r. h (e ∙ r.counted ∙ sym t))

  pub count_free : (k : ℕ) → l ≡ count → k ≡ kind_of s i → k ≡ free_kind → true ≡ counted_b s n i
  count_free k q m f =
      sym
      ((counted_is s n i).from
      (record { counted = sym e ∙ q ∙ t; named = λ u x. absurd (u (sym m ∙ f)); one = λ u x. absurd (omega arith) }))

  pub count_root : l ≡ count → i ≡ root_inode → true ≡ counted_b s n i
  count_root q h = sym ((counted_is s n i).from (record { counted = sym e ∙ q ∙ t; named = λ u x. absurd (x h); one = λ u x. absurd (x h) }))

  pub count_dir : (k : ℕ) → l ≡ count → k ≡ kind_of s i → (i ≡ root_inode → ⊥) → k ≡ directory_kind → eqb count 1 ≡ counted_b s n i
  count_dir k q m h f =
      reflects_ext (r_eq count 1)
      (r_says (λ r. sym q ∙ e ∙ r.one (sym m ∙ f) h)
      (λ o. record { counted = sym e ∙ q ∙ t; named = λ u x. omega arith; one = λ u x. sym e ∙ q ∙ o })
      (counted_is s n i))

  pub count_file : (k : ℕ) → l ≡ count → k ≡ kind_of s i → (k ≡ free_kind → ⊥) → (i ≡ root_inode → ⊥) → (k ≡ directory_kind → ⊥) → leb 1 count ≡ counted_b s n i
  count_file k q m g h f =
      reflects_ext (r_le 1 count)
      (r_says (λ r. let o = r.named (λ u. g (m ∙ u)) h in omega arith)
      (λ o. record { counted = sym e ∙ q ∙ t; named = λ u x. omega arith; one = λ u x. absurd (f (m ∙ u)) })
      (counted_is s n i))

-- ---- the list of those that are known
module _ (s : List ℕ) where
  -- what is not known is not the root
  pub known_not : (l : List Bool) (x : ℕ) → Known s l → get_or l x false ≡ false → x ≡ root_inode → ⊥
  known_not l x g z h = clash (get_or l x false) (ap (λ (y : ℕ). get_or l y false) h ∙ g.root) z

  -- a place is noted
  module _ (l : List Bool) (x : ℕ) where
    noted : length l ≡ 257 → x < 257 → get_or (set l x true) x false ≡ true
    noted e h = get_or-set_same l x true false (omega arith)

    pub known_more : x < 257 → Leads (parent_of s) root_inode x → Known s l → Known s (set l x true)
    known_more h r g =
        record {
          long = length-set l x true ∙ g.long;
          root = root (ℕ_discrete root_inode x);
          each = λ y f. at y (ℕ_discrete y x) f;
        }
      where
        root : Dec (root_inode ≡ x) → get_or (set l x true) root_inode false ≡ true
        root (yes e) = ap (λ (y : ℕ). get_or (set l x true) y false) e ∙ noted g.long h
        root (no e) = get_or-set_other l x root_inode true false e ∙ g.root

        at : (y : ℕ) → Dec (y ≡ x) → get_or (set l x true) y false ≡ true → Leads (parent_of s) root_inode y
        at y (yes e) f = subst (Leads (parent_of s) root_inode) (sym e) r
        at y (no e) f = g.each y (sym (get_or-set_other l x y true false e) ∙ f)

  -- before any look: the root alone
  not_noted : (m y : ℕ) → get_or (replicate m false) y false ≡ false
  not_noted zero y = refl
  not_noted (suc m) zero = refl
  not_noted (suc m) (suc y) = not_noted m y

  abbrev blank : List Bool
  blank = replicate 257 false

  start_at : (y : ℕ) → Dec (y ≡ root_inode) → get_or (set blank root_inode true) y false ≡ true → Leads (parent_of s) root_inode y
  start_at y (yes e) f = subst (Leads (parent_of s) root_inode) (sym e) (leads_self (parent_of s) root_inode)
  start_at y (no e) f = absurd (clash (get_or blank y false) (sym (get_or-set_other blank root_inode y true false e) ∙ f) (not_noted 257 y))

  pub known_start : Known s (set (replicate 257 false) root_inode true)
  known_start =
      record {
        long = length-set blank root_inode true ∙ length-replicate {A = Bool} 257 false;
        root = noted blank root_inode (length-replicate {A = Bool} 257 false) (omega arith);
        each = λ y f. start_at y (ℕ_discrete y root_inode) f;
      }

-- ---- k steps up from d the climb is at x
pub record Climbing (s : List ℕ) (n d k x : ℕ) : Type 0 where
  pub steps : k ≤ n
  pub dir : IsDir s n x
  pub back : Leads (parent_of s) root_inode x → Leads (parent_of s) root_inode d
  pub same : leads_b (parent_of s) root_inode (n - k) x ≡ leads_b (parent_of s) root_inode n d

module _ (s : List ℕ) (n d : ℕ) where
  module _ (closed : Closed (IsDir s n) (parent_of s) root_inode n) (l : List Bool) (g : Known s l) (k x : ℕ) (c : Climbing s n d k x) where
    pub climbing_turn : (p : ℕ) → get_or l x false ≡ false → k < n → p ≡ parent_of s x → Climbing s n d (k + 1) p
    climbing_turn p z m e =
        let h = known_not s l x g z in
        let u : n - (k + 1) + 1 ≡ n - k = omega arith in
        record {
          steps = omega arith;
          dir = subst (IsDir s n) (sym e) (closed.parent x c.dir h);
          back = λ r. c.back (leads_up (parent_of s) root_inode x (subst (Leads (parent_of s) root_inode) e r));
          same = ap (leads_b (parent_of s) root_inode (n - (k + 1))) e
              ∙ sym (leads_turn (parent_of s) root_inode (n - (k + 1)) x h)
              ∙ ap (λ (i : ℕ). leads_b (parent_of s) root_inode i x) u ∙ c.same;
        }

    pub climbing_known : IsDir s n d → get_or l x false ≡ true → true ≡ leads_b (parent_of s) root_inode n d
    climbing_known h f = sym (leads_bool (parent_of s) root_inode (IsDir s n) n d closed h (c.back (g.each x f)))

    -- n steps up, what is not known is not the root
    pub climbing_end : IsDir s n d → n ≤ k → get_or l x false ≡ leads_b (parent_of s) root_inode n d
    climbing_end h m = go (holds_or_fails (get_or l x false))
      where
        go : (get_or l x false ≡ true) ⊎ (get_or l x false ≡ false) → get_or l x false ≡ leads_b (parent_of s) root_inode n d
        go (inl e) = e ∙ climbing_known h e
        go (inr e) =
            let u : 0 ≡ n - k = omega arith in
            e ∙ sym (ne_eqb x root_inode (known_not s l x g e))
            ∙ sym (leads_end (parent_of s) root_inode x) ∙ ap (λ (i : ℕ). leads_b (parent_of s) root_inode i x) u ∙ c.same

-- ---- the check of one number
module _ (s : List ℕ) (n d k : ℕ) (e : k ≡ kind_of s d) where
  pub lead_other : (k ≡ directory_kind → ⊥) → true ≡ lead_b s n d
  unfolding lead_b
  lead_other h = sym (ap (λ (b : Bool). not b || leads_b (parent_of s) root_inode n d) (ne_eqb (kind_of s d) directory_kind (λ u. h (e ∙ u))))

  pub is_dir : InodeFits s n d → k ≡ directory_kind → IsDir s n d
  is_dir f h = record { low = f.low; high = f.high; kind = sym e ∙ h }

  pub lead_dir : k ≡ directory_kind → lead_b s n d ≡ leads_b (parent_of s) root_inode n d
  unfolding lead_b
  lead_dir h = ap (λ (b : Bool). not b || leads_b (parent_of s) root_inode n d) (eq-eqb (kind_of s d) directory_kind (sym e ∙ h))

-- ---- the way up from a directory that leads to the root is noted: the next is x
pub record Path (s : List ℕ) (n x : ℕ) (l : List Bool) : Type 0 where
  pub dir : IsDir s n x
  pub leads : Leads (parent_of s) root_inode x
  pub known : Known s l

pub path_turn : (s : List ℕ) (n x p : ℕ) (l : List Bool) → n ≤ 256 → Closed (IsDir s n) (parent_of s) root_inode n → Path s n x l → get_or l x false ≡ false → p ≡ parent_of s x → Path s n p (set l x true)
path_turn s n x p l m closed w z e =
    let h = known_not s l x w.known z in
    let u = w.dir.high in
    record {
      dir = subst (IsDir s n) (sym e) (closed.parent x w.dir h);
      leads = subst (Leads (parent_of s) root_inode) (sym e) (leads_on (parent_of s) root_inode x h w.leads);
      known = known_more s l x (omega arith) w.leads w.known;
    }
