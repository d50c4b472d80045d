-- A list that ends in the finish of its copy: the copy runs up to its last step, and the theory knows every event. n and b are the counts of inodes and image blocks.
use Prim.Native.Nat.{ℕ, zero, suc, ◌≤◌, ◌<◌}
use mathlib.Core.Path.{◌≡◌, refl, ap}
use mathlib.Core.Bool.{true, false}
use mathlib.Core.List.{List, [], ◌∷◌}
use native.Mathlib.Omega.{arith}
use lib.Dec.{eqb}
use lib.ListN.{length}
use Rattle.bounded.proofs.BoolLaws.{clash, and_left, and_right}
use Rattle.layout.specs.Sizes.{is_complete}
use Rattle.layout.specs.Header.{header_of}
use Rattle.answers.specs.Told.{Told}
use Rattle.copy_theory.specs.View.{View, Tidy}
use Rattle.copy_theory.specs.Deed.{Deed, rests}
use Rattle.copy_theory.specs.Holds.{Fresh}
use Rattle.copy_theory.specs.History.{Recorded}
use Rattle.checkpoint.specs.Live.{World, Outcome}
use Rattle.checkpoint.specs.List.{Event, call, advances, asks, starts, next, accepted, completes, run, Finish, last, more}
use Rattle.checkpoint.proofs.Copy.Seen.{seen}
use Rattle.checkpoint.proofs.Copy.TidyLaws.{store_tidy}
use Rattle.checkpoint.proofs.Run.Moments.{at}
use Rattle.checkpoint.proofs.Run.Going.{seen_in, Running, incomplete}
use Rattle.checkpoint.proofs.Run.Turned.{Goes, Finishes, Stepped, on, ends, halts, stepped}
use Rattle.checkpoint.proofs.Run.Calls.{call_goes, asks_goes, starts_goes}
use Rattle.checkpoint.proofs.Run.Rests.{Resting, step_idle}
use Rattle.checkpoint.proofs.Run.Ends.{finals, halted, completed}
use Rattle.checkpoint.proofs.Run.Progresses.{still_next}

-- the view at each moment
abbrev pub views : ℕ → List Event → World → ℕ → View
views n es w j = seen_in n (at es w j)

module _ (n b : ℕ) where
  -- what rests never finishes
  rest_never : (es : List Event) (w : World) → Resting n b w → Finish es w → ⊥
  rest_never es w r (last c) = clash (accepted advances w) (and_left (accepted advances w) _ c) (ap (λ (o : Outcome). eqb o.answer.number 0) (step_idle n b w r))
  rest_never (e ∷ es) w r (more q c f) = rest_never es (next e w) (still_next n b e w r q).rest f

  pub record Finale (es : List Event) (w : World) : Type 0 where
    -- the world just before the last step
    pub before : World
    pub runs : Running n b before
    pub finishes : Finishes n b before
    pub is : run es w ≡ next advances before
    pub deeds : (j : ℕ) → j < length es → Deed n (seen_in n (at es w j)) (seen_in n (at es w (suc j)))
    pub tidy : (j : ℕ) → j ≤ length es → Tidy n (seen_in n (at es w j)).store

  runs_tidy : {w : World} → Running n b w → Tidy n (seen_in n w).store
  unfolding seen
  runs_tidy {w} r = store_tidy w.store n r.sound r.count

  -- one event more in front
  front : (e : Event) (es : List Event) (w : World) → Running n b w → Deed n (seen_in n w) (seen_in n (next e w)) → Finale es (next e w) → Finale (e ∷ es) w
  unfolding at run
  front e es w r d f = record {
    before = f.before;
    runs = f.runs;
    finishes = f.finishes;
    is = f.is;
    deeds = λ j l. deeds j l;
    tidy = λ j l. tidy j l;
  }
    where
      deeds : (j : ℕ) → j < suc (length es) → Deed n (seen_in n (at (e ∷ es) w j)) (seen_in n (at (e ∷ es) w (suc j)))
      deeds zero l = d
      deeds (suc j) l = f.deeds j (omega arith)

      tidy : (j : ℕ) → j ≤ suc (length es) → Tidy n (seen_in n (at (e ∷ es) w j)).store
      tidy zero l = runs_tidy r
      tidy (suc j) l = f.tidy j (omega arith)

  -- the last step
  locked_same : (w : World) (r : Running n b w) (f : Finishes n b w) → (seen_in n (next advances w)).locked ≡ (seen_in n w).locked
  unfolding seen
  locked_same w r f = (finals n b w r f).locked

  store_same : (w : World) (r : Running n b w) (f : Finishes n b w) → Tidy n (seen_in n (next advances w)).store
  unfolding seen
  store_same w r f = let k = finals n b w r f in rw k.store (store_tidy w.store n r.sound r.count)

  final : (w : World) → Running n b w → Finishes n b w → Finale (advances ∷ []) w
  unfolding at run
  final w r f = record {
    before = w;
    runs = r;
    finishes = f;
    is = refl;
    deeds = λ j l. deeds j l;
    tidy = λ j l. tidy j l;
  }
    where
      deeds : (j : ℕ) → j < 1 → Deed n (seen_in n (at (advances ∷ []) w j)) (seen_in n (at (advances ∷ []) w (suc j)))
      deeds zero l = rests (finals n b w r f).quiet (locked_same w r f)
      deeds (suc j) l = absurd (omega arith)

      tidy : (j : ℕ) → j ≤ 1 → Tidy n (seen_in n (at (advances ∷ []) w j)).store
      tidy zero l = runs_tidy r
      tidy (suc zero) l = store_same w r f
      tidy (suc (suc j)) l = absurd (omega arith)

  -- a step that finishes, and one that does not
  not_on : (w : World) → Goes n b w (next advances w) → completes advances w ≡ true → ⊥
  not_on w g c = clash (eqb (header_of (next advances w).image).complete is_complete) (and_right (accepted advances w) _ c) (incomplete g.still)

  not_halts : (w : World) → accepted advances w ≡ false → completes advances w ≡ true → ⊥
  not_halts w a c = clash (accepted advances w) (and_left (accepted advances w) _ c) a

  last_step : (w : World) → Running n b w → Stepped n b w → completes advances w ≡ true → Finale (advances ∷ []) w
  last_step w r (on g c a) q = absurd (not_on w g q)
  last_step w r (ends f) q = final w r f
  last_step w r (halts f) q = absurd (not_halts w (ap (λ (a : Told). eqb a.number 0) (halted n b w r f).answer) q)

  one_step : (es : List Event) (w : World) → Running n b w → Stepped n b w → completes advances w ≡ false → Finish es (next advances w) → (Running n b (next advances w) → Finale es (next advances w)) → Finale (advances ∷ es) w
  one_step es w r (on g c a) q f rec = front advances es w r g.deed (rec g.still)
  one_step es w r (ends k) q f rec = absurd (clash (completes advances w) (completed n b w r k) q)
  one_step es w r (halts k) q f rec = absurd (rest_never es (next advances w) (halted n b w r k).rest f)

  pub finale : (es : List Event) (w : World) → Running n b w → Finish es w → Finale es w
  finale es w r (last q) = last_step w r (stepped n b w r) q
  finale (call c ∷ es) w r (more p q f) = let g = call_goes n b w r c in front (call c) es w r g.deed (finale es (next (call c) w) g.still f)
  finale (advances ∷ es) w r (more p q f) = one_step es w r (stepped n b w r) q f (λ k. finale es (next advances w) k f)
  finale (asks ∷ es) w r (more p q f) = let g = asks_goes n b w r in front asks es w r g.deed (finale es (next asks w) g.still f)
  finale (starts ∷ es) w r (more p q f) = let g = starts_goes n b w r in front starts es w r g.deed (finale es (next starts w) g.still f)

  -- ---- as the theory has it
  pub told : (es : List Event) (w : World) → Fresh (seen_in n w) → Finale es w → Recorded (views n es w) n (length es)
  unfolding at
  told es w fr f = record { fresh = fr; tidy = f.tidy; deeds = f.deeds }
