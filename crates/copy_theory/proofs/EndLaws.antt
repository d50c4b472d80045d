-- A finished copy: its image is tidy, each entry is of a spell, and a chain of entries that stood is in it.
use Prim.Native.Nat.{ℕ, ◌≤◌}
use mathlib.Core.Path.{◌≡◌, sym, ◌∙◌}
use mathlib.Core.Logic.{◌≢◌}
use mathlib.Core.Bool.{Bool, true}
use native.Mathlib.Omega.{arith}
use Rattle.bounded.specs.Climb.{Leads}
use Rattle.bounded.proofs.BoolLaws.{holds}
use Rattle.bounded.proofs.ClimbLaws.{leads_self, leads_up}
use Rattle.layout.specs.Sizes.{root_inode}
use Rattle.sound.specs.Place.{dir_of}
use Rattle.copy_theory.specs.View.{View, Tidy}
use Rattle.copy_theory.specs.Deed.{Alike}
use Rattle.copy_theory.specs.Holds.{Led, root, up, Holds, Ended}
use Rattle.copy_theory.specs.History.{Recorded, Spell, Since, Stood, Chain, top, below}
use Rattle.copy_theory.proofs.HistoryLaws.{told_holds, kind_held, keeps}

led_leads : {c : ℕ → Bool} {f : ℕ → ℕ} {x : ℕ} → Led c f x → Leads f root_inode x
led_leads {f = f} root = leads_self f root_inode
led_leads {f = f} (up x k r) = leads_up f root_inode x (led_leads r)

pub tidy_image : {n : ℕ} {v : View} → Holds n v → Ended v → Tidy n v.image
tidy_image {v = v} h e = record {
  high = h.high;
  used = λ p z. h.real (v.image.names p) (e.last p z);
  not_root = h.not_root;
  inside = h.inside;
  one = h.one;
  home = h.home;
  differ = h.differ;
  root = (h.root e.root).0;
  root_parent = (h.root e.root).1;
  named = λ i z. h.named i (holds (v.copied i) (λ u. z (h.blank i u)));
  leads = λ i k. led_leads (h.led i k);
}

pub all_honest : (t : ℕ → View) (k : ℕ) → Since t k → Ended (t k) → (p : ℕ) → (t k).image.names p ≢ 0 → Spell t k p
all_honest t k s e p z = s.spells p z (e.last p z)

module _ (t : ℕ → View) (n k : ℕ) (told : Recorded t n k) (e : Ended (t k)) where
  chain_stood : {p : ℕ} → Chain t k p → Stood t k p
  chain_stood (top s r) = s
  chain_stood (below s r c) = s

  pub kept_there : (p : ℕ) → Chain t k p → ((t k).copied (dir_of p) ≡ true) × ((t k).image.names p ≡ (t 0).store.names p)
  kept_there p (top s r) = let c : (t k).copied (dir_of p) ≡ true = cc e.root in (c, (keeps t n k told k p (omega arith) s).there c)
  kept_there p (below {q = q} s r h) =
      let ih = kept_there q h in
      let c : (t k).copied ((t k).image.names q) ≡ true = e.last q (λ z. (chain_stood h).0 (sym ih.1 ∙ z)) in
      let d : (t k).copied (dir_of p) ≡ true = cc ih.1 in
      (d, (keeps t n k told k p (omega arith) s).there d)

  -- its inode is copied, as it was at one moment
  pub kept_body : (p : ℕ) → Chain t k p → (m : ℕ) × (m ≤ k) × Alike (t m).store (t k).image ((t 0).store.names p)
  kept_body p h =
      let r = (kept_there p h).1 in
      let m = (told_holds t n k told k (omega arith)).1.seen ((t 0).store.names p) (rw r at (e.last p (λ z. (chain_stood h).0 (sym r ∙ z)))) in
      (m.at, m.past, m.inode)

  pub kept_kind : (p : ℕ) → Chain t k p → (t k).image.kind ((t 0).store.names p) ≡ (t 0).store.kind ((t 0).store.names p)
  kept_kind p h =
      let s = chain_stood h in
      let r = kept_body p h in
      r.2.kind
      ∙ kind_held t n k told p ((t 0).store.names p) 0 r.0 (omega arith) r.1 s.0
      (λ m a b. s.1 m (omega arith) (omega (arith, r.1)))
