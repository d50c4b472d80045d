-- Each way that a turn, the turns and the burst return. s is the store, m the image, d the desk, n the inode count.
use Rattle.std.specs.Prelude.{Err, Ok, Result}
use Prim.Native.Nat.{ℕ, zero, suc, ◌+◌, ◌-◌, ◌*◌, ◌≤◌, ◌<◌}
use mathlib.Core.Path.{◌≡◌, refl, sym, ap, ◌∙◌, subst}
use mathlib.Core.Bool.{Bool, true, false, not}
use mathlib.Core.List.{List}
use native.Mathlib.Omega.{arith}
use borrow.Author.Tests.{eq-eqb, ne_eqb, not-true, not-false}
use lib.Dec.{eqb, leb}
use lib.ListN.{length}
use Rattle.bounded.specs.Search.{pick}
use Rattle.bounded.proofs.BoolLaws.{and_left, and_right}
use Rattle.bounded.proofs.ReflectLaws.{r_le}
use Rattle.layout.specs.Sizes.{is_complete, not_complete}
use Rattle.layout.specs.Header.{header_of}
use Rattle.desk.specs.Sizes.{desk_header_bytes, steps_an_inode}
use Rattle.desk.specs.declared.Desk.{Desk}
use Rattle.desk.specs.Desk.{desk_of}
use Rattle.sound.specs.Sound.{inodes_in}
use Rattle.std.specs.Result.{IsErrAnd}
use Rattle.answers.proofs.RefusalLaws.{exit}
use Rattle.answers.specs.declared.Refusal.{Refusal}
use Rattle.answers.specs.declared.Refusal.TheVariants.{BadBuffer, BadCount, BadDesk, WrongState}
use Rattle.answers.specs.Told.{Answer, Told, told}
use Rattle.answers.proofs.RefusalLaws.{not_none}
use Rattle.files.specs.Guard.{guard_by}
use Rattle.checkpoint.specs.Fit.{both_framed, is_running}
use Rattle.checkpoint.specs.Copier.{Step, step_of}
use Rattle.checkpoint.specs.Live.{World, Outcome, left, tells, refuse, guard_rows, three_guards, do_step, step, world, world_in}
use Rattle.checkpoint.specs.List.{Ready, advances, outcome, next, accepted, completes}
use Rattle.checkpoint.specs.Burst.{most_burst, count_allowed, burst_from, burst}
use Rattle.checkpoint.proofs.Copy.FitLaws.{desk_framed_is}
use Rattle.checkpoint.proofs.DecisionLaws.{three_is}
use Rattle.checkpoint.proofs.SteadyLaws.{ready_of, late, ready_step}
use Rattle.guards.specs.Handed.{handed, watched_by}
use Rattle.guards.proofs.GuardLaws.{three_framed, shut}
use Rattle.copier.proofs.StepLaws.{step_ready}
use Rattle.bursts.specs.Turn.{Going, Kept, stopped_at, Took}
use Rattle.bursts.specs.declared.Turn.TheVariants.{Ends, Goes}
use Rattle.bursts.specs.declared.Turn.{Turn}
use Rattle.guards.specs.declared.Watched.{Watched}

-- ---- the answer after k accepted steps
module _ (k : ℕ) (e : Refusal) where
  pub stopped_later : (k ≡ 0 → ⊥) → Ok k ≡ stopped_at k e
  stopped_later q = rw (ne_eqb k 0 q)

ends : (s m d : List ℕ) (c : ℕ) → burst_from zero c (world s m d) ≡ left (Ok c) s m d
unfolding burst_from
ends s m d c = refl

-- ---- a step of a burst by what the step does: it left o
module _ (s m d : List ℕ) (o : Outcome) (h : step s m d ≡ o) where
  -- the world lent
  abbrev w : World
  w = world s m d

  taken : accepted advances w ≡ eqb o.answer.number 0
  unfolding outcome
  taken = ap (λ (x : Outcome). eqb x.answer.number 0) h

  left_in : next advances w ≡ world_in o
  unfolding next outcome
  left_in = ap world_in h

  module _ (k c : ℕ) where
    from_refused : (e : Refusal) → o.answer ≡ told (Err e) → burst_from (suc k) c w ≡ left (stopped_at c e) o.store o.image o.desk
    unfolding burst_from
    from_refused e q =
        let a : accepted advances w ≡ false = taken ∙ ap (λ (x : Told). eqb x.number 0) q ∙ not_none e in
        rw (a, h) (go (eqb c 0))
      where
        go : (b : Bool) → pick b o (left (Ok c) o.store o.image o.desk) ≡ left (pick b (Err e) (Ok c)) o.store o.image o.desk
        go true = ap (λ (x : Told). tells x o.store o.image o.desk) q
        go false = refl

    module _ (x : ℕ) (q : o.answer ≡ told (Ok x)) where
      on : accepted advances w ≡ true
      on = taken ∙ ap (λ (x : Told). eqb x.number 0) q

      ended : (b : Bool) → eqb (header_of o.image).complete is_complete ≡ b → completes advances w ≡ b
      ended b p = rw on (ap (λ (v : World). eqb (header_of v.image).complete is_complete) left_in ∙ p)

      from_last : eqb (header_of o.image).complete is_complete ≡ true → burst_from (suc k) c w ≡ left (Ok (suc c)) o.store o.image o.desk
      unfolding burst_from
      from_last p = let a = on in let b = ended true p in rw (b, a, h)

      from_on : eqb (header_of o.image).complete is_complete ≡ false → burst_from (suc k) c w ≡ burst_from k (suc c) (world_in o)
      unfolding burst_from
      from_on p = let a = on in let b = ended false p in rw (b, a) (ap (burst_from k (suc c)) left_in)

-- ---- one turn, from what a burst keeps
module _ (s m d : List ℕ) (n : ℕ) (map counts : List ℕ) (z : Kept (world s m d) n map counts) where
  pub turn_long : desk_header_bytes ≤ length d
  turn_long = let f = ((desk_framed_is d).to z.steady.desk).1.1 in omega arith

  module _ (h : Desk) (r : h ≡ desk_of d) where
    pub turn_late : steps_an_inode * h.inodes < h.steps → Took (Err BadDesk) (world s m d) n m d map counts
    turn_late l k c =
        let q = ap (λ (v : Desk). v.inodes) r in
        let p = ap (λ (v : Desk). v.steps) r in
        from_refused s m d (refuse BadDesk s m d) (late (world s m d) z.steady (omega arith)) k c BadDesk refl

    pub turn_going : h.steps ≤ steps_an_inode * h.inodes → Going (world s m d) n h
    turn_going l =
        let q = ap (λ (v : Desk). v.inodes) r in
        let p = ap (λ (v : Desk). v.steps) r in
        record { ready = ready_of (world s m d) z.steady (omega arith); running = z.steady.running; inodes = z.inodes; read = r }

-- ---- the step is x: it answered a, and left t and p
module _ (s m d : List ℕ) (n : ℕ) (h : Desk) (g : Going (world s m d) n h) (x : Step) (is : step_of s m d n ≡ x) (a : Told) (t p : List ℕ) (f : tells a s t p ≡ do_step s m d n x) where
  stepped : step s m d ≡ tells a s t p
  stepped = ready_step s m d g.ready g.running ∙ ap (λ (y : ℕ). do_step s m d y (step_of s m d y)) (sym g.inodes) ∙ ap (do_step s m d n) is ∙ sym f

  answered : a ≡ (do_step s m d n x).answer
  answered = ap (λ (o : Outcome). o.answer) f

  pub went_stops : (e : Refusal) → (do_step s m d n x).answer ≡ told (Err e) → (k c : ℕ) → burst_from (suc k) c (world s m d) ≡ left (stopped_at c e) s t p
  went_stops e q k c = from_refused s m d (tells a s t p) stepped k c e (answered ∙ q)

  module _ (y : ℕ) (q : (do_step s m d n x).answer ≡ told (Ok y)) (k c : ℕ) where
    pub went_last : (header_of t).complete ≡ is_complete → burst_from (suc k) c (world s m d) ≡ left (Ok (suc c)) s t p
    went_last w = from_last s m d (tells a s t p) stepped k c y (answered ∙ q) (eq-eqb (header_of t).complete is_complete w)

    module _ (w : (header_of t).complete ≡ not_complete) where
      pub went_on : burst_from (suc k) c (world s m d) ≡ burst_from k (suc c) (world s t p)
      went_on = from_on s m d (tells a s t p) stepped k c y (answered ∙ q) (ne_eqb (header_of t).complete is_complete (λ v. omega arith))

      -- a step that is accepted, with none after it
      pub went_final : (e : Refusal) → step s t p ≡ refuse e s t p → burst_from (suc k) c (world s m d) ≡ left (Ok (suc c)) s t p
      went_final e v = went_on ∙ after k
        where
          after : (k : ℕ) → burst_from k (suc c) (world s t p) ≡ left (Ok (suc c)) s t p
          after zero = ends s t p (suc c)
          after (suc j) = from_refused s t p (refuse e s t p) v j (suc c) e refl ∙ ap (λ (x : Answer). left x s t p) (sym (stopped_later (suc c) e (λ y. omega arith)))

-- ---- the loop: of count steps k are taken, and a turn r leaves t and p
pub turns_begin : (count : ℕ) (v : World) → burst_from (count - 0) 0 v ≡ burst_from count 0 v
turns_begin count v = let e : count - 0 ≡ count = omega arith in ap (λ (k : ℕ). burst_from k 0 v) e

pub turns_end : (count k : ℕ) (s m d : List ℕ) → k ≤ count → count ≤ k → left (Ok count) s m d ≡ burst_from (count - k) k (world s m d)
unfolding burst_from
turns_end count k s m d a b =
    let e : count - k ≡ 0 = omega arith in
    let f : count ≡ k = omega arith in
    rw (e, f)

module _ (s m d : List ℕ) (n : ℕ) (t p map counts : List ℕ) (r : Result Turn Refusal) (h : Took r (world s m d) n t p map counts) (count k : ℕ) (l : k < count) where
  one_more : count - k ≡ suc (count - (k + 1))
  one_more = omega arith

  next_k : k + 1 ≡ suc k
  next_k = omega arith

  pub turns_ends : r ≡ Ok Ends → left (Ok (k + 1)) s t p ≡ burst_from (count - k) k (world s m d)
  turns_ends q =
      let g : Took (Ok Ends) (world s m d) n t p map counts = subst (λ (x : Result Turn Refusal). Took x (world s m d) n t p map counts) q h in
      rw (one_more, next_k) (sym (g (count - suc k) k))

  pub turns_stops : (e : Refusal) → r ≡ Err e → (a : Answer) → a ≡ stopped_at k e → left a s t p ≡ burst_from (count - k) k (world s m d)
  turns_stops e q a b =
      let g : Took (Err e) (world s m d) n t p map counts = subst (λ (x : Result Turn Refusal). Took x (world s m d) n t p map counts) q h in
      ap (λ (x : Answer). left x s t p) b ∙ sym (g (count - (k + 1)) k) ∙ ap (λ (x : ℕ). burst_from x k (world s m d)) (sym one_more)

  module _ (q : r ≡ Ok Goes) where
    goes : Took (Ok Goes) (world s m d) n t p map counts
    goes = subst (λ (x : Result Turn Refusal). Took x (world s m d) n t p map counts) q h

    pub turns_goes : burst_from (count - (k + 1)) (k + 1) (world s t p) ≡ burst_from (count - k) k (world s m d)
    turns_goes = rw one_more (ap (λ (x : ℕ). burst_from (count - (k + 1)) x (world s t p)) next_k ∙ sym (goes.0 (count - (k + 1)) k))

    pub turns_kept : Kept (world s t p) n map counts
    turns_kept = goes.1

-- ---- a refusal of the very first step
module _ (s m d : List ℕ) where
  first_stops : (e : Refusal) → step s m d ≡ refuse e s m d → (count : ℕ) → 1 ≤ count → refuse e s m d ≡ burst_from count 0 (world s m d)
  first_stops e h zero l = absurd (omega arith)
  first_stops e h (suc k) l = sym (from_refused s m d (refuse e s m d) h k 0 e refl)

  pub rests : (count : ℕ) → 1 ≤ count → Ready (world s m d) → is_running d ≡ false → refuse WrongState s m d ≡ burst_from count 0 (world s m d)
  unfolding step
  rests count some r t = first_stops WrongState (three_is s m d _ ∙ rw (r.framed, r.desk, r.sound, r.notes, t)) count some

-- ---- the whole: a and b are what the code has found of lengths and count
module _ (s m d : List ℕ) (count : ℕ) (a : Bool) (f : a ≡ both_framed s d) where
  pub burst_unframed : not a ≡ true → refuse BadBuffer s m d ≡ burst count (world s m d)
  unfolding burst
  burst_unframed q = let g = sym f ∙ not-true a q in rw g

  module _ (q : not a ≡ false) where
    pub burst_framed : both_framed s d ≡ true
    burst_framed = sym f ∙ not-false a q

    module _ (b : Bool) (h : b ≡ count_allowed count) where
      pub burst_count : not b ≡ true → refuse BadCount s m d ≡ burst count (world s m d)
      unfolding burst
      burst_count x = let g = burst_framed in let k = sym h ∙ not-true b x in rw (g, k)

      module _ (x : not b ≡ false) where
        counted : count_allowed count ≡ true
        counted = sym h ∙ not-false b x

        some_steps : 1 ≤ count
        some_steps = (r_le 1 count).to (and_left (leb 1 count) (leb count most_burst) counted)

        few_steps : count ≤ most_burst
        few_steps = (r_le count most_burst).to (and_right (leb 1 count) (leb count most_burst) counted)

        pub burst_through : (o : Outcome) → o ≡ burst_from count 0 (world s m d) → o ≡ burst count (world s m d)
        unfolding burst
        burst_through o e = let g = burst_framed in let k = counted in rw (g, k) (e)

        -- w is what the guards have answered
        module _ (w : Result Watched Refusal) (e : w ≡ handed (guard_by s (guard_rows true s m d)) (desk_of d)) where
          pub burst_ready : {n c : ℕ} {g : Desk} → w ≡ Ok (watched_by n c g) → (g ≡ desk_of d) × Ready (world s m d) × (n ≡ inodes_in s) × (1 ≤ count) × (count ≤ most_burst)
          burst_ready y =
              let z = step_ready s m d w (three_framed s m d burst_framed w e) y in
              (z.0, z.1, z.2, some_steps, few_steps)

          stops : (r : Refusal) → w ≡ Err r → step s m d ≡ refuse r s m d
          unfolding step
          stops r y = let g = shut (three_guards s m d) (desk_of d) w (three_framed s m d burst_framed w e) y in rw g

          pub burst_stopped : (r : Refusal) (a : Answer) → IsErrAnd a (λ z. z ≡ r) → w ≡ Err r → left a s m d ≡ burst count (world s m d)
          burst_stopped r a z y = ap (λ (x : Answer). left x s m d) (exit a r z) ∙ burst_through (refuse r s m d) (first_stops s m d r (stops r y) count some_steps)
