-- Laws of a function with another value at one number.
use mathlib.Core.Path.{◌≡◌, refl, sym, ◌∙◌, fun_ext}
use mathlib.Core.Logic.{◌≢◌}
use Prim.Native.Nat.{ℕ, ◌≤◌, ◌<◌}
use native.Mathlib.Decide.{ℕ_discrete}
use Rattle.bounded.specs.Update.{choose, upd, Changed, here, there}

-- functions that agree: from 1 to n, there but at i, and below m but at p
abbrev pub SameTo : ℕ → (ℕ → ℕ) → (ℕ → ℕ) → Type 0
SameTo n f g = (j : ℕ) → 1 ≤ j → j ≤ n → g j ≡ f j

abbrev pub ElseTo : ℕ → ℕ → (ℕ → ℕ) → (ℕ → ℕ) → Type 0
ElseTo n i f g = (j : ℕ) → 1 ≤ j → j ≤ n → j ≢ i → g j ≡ f j

abbrev pub ElseBelow : ℕ → ℕ → (ℕ → ℕ) → (ℕ → ℕ) → Type 0
ElseBelow m p f g = (q : ℕ) → q < m → q ≢ p → g q ≡ f q

pub changed : {A : Type 0} (f : ℕ → A) (p : ℕ) (v : A) (q : ℕ) → Changed f p v q (upd f p v q)
unfolding upd
changed f p v q = go (ℕ_discrete q p)
  where
    go : (d : Dec (q ≡ p)) → Changed f p v q (choose d v (f q))
    go (yes e) = here e refl
    go (no n) = there n refl

-- what it is at p and elsewhere
pub changed_here : {A : Type 0} {f : ℕ → A} {p : ℕ} {v : A} {q : ℕ} {r : A} → q ≡ p → Changed f p v q r → r ≡ v
changed_here h (here e r) = r
changed_here h (there n r) = absurd (n h)

pub changed_there : {A : Type 0} {f : ℕ → A} {p : ℕ} {v : A} {q : ℕ} {r : A} → q ≢ p → Changed f p v q r → r ≡ f q
changed_there h (here e r) = absurd (h e)
changed_there h (there n r) = r

pub upd_same : {A : Type 0} (f : ℕ → A) (p : ℕ) (v : A) → upd f p v p ≡ v
upd_same f p v = changed_here refl (changed f p v p)

pub upd_other : {A : Type 0} (f : ℕ → A) (p : ℕ) (v : A) (q : ℕ) → q ≢ p → upd f p v q ≡ f q
upd_other f p v q h = changed_there h (changed f p v q)

-- one change has one outcome
pub changed_same : {A : Type 0} {f : ℕ → A} {p : ℕ} {v : A} {q : ℕ} {r s : A} → Changed f p v q r → Changed f p v q s → r ≡ s
changed_same (here e r) c = r ∙ sym (changed_here e c)
changed_same (there n r) c = r ∙ sym (changed_there n c)

pub changed_ext : {A : Type 0} {f : ℕ → A} {p : ℕ} {v : A} (g h : ℕ → A) → ((q : ℕ) → Changed f p v q (g q)) → ((q : ℕ) → Changed f p v q (h q)) → g ≡ h
changed_ext g h a b = fun_ext (λ q. changed_same (a q) (b q))

pub changed_upd : {A : Type 0} (f : ℕ → A) (p : ℕ) (v : A) (g : ℕ → A) → ((q : ℕ) → Changed f p v q (g q)) → g ≡ upd f p v
changed_upd f p v g h = changed_ext g (upd f p v) h (changed f p v)
