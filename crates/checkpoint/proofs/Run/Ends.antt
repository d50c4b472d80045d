-- A copy that ends: by its last step, or by 16. n and b are the counts of inodes and image blocks.
use Rattle.std.specs.Prelude.{Err, Ok}
use Prim.Native.Nat.{ℕ, ◌+◌, ◌*◌, ◌≤◌}
use mathlib.Core.Path.{◌≡◌, refl, sym, ap, ◌∙◌}
use mathlib.Core.Logic.{◌⊎◌, inl, inr}
use mathlib.Core.Bool.{true, false, not, ◌&&◌, ◌||◌}
use mathlib.Core.List.{List}
use native.Mathlib.Omega.{arith}
use borrow.Author.Tests.{eq-eqb, ne_eqb, le-leb}
use lib.Dec.{eqb, leb}
use lib.ListN.{length}
use Rattle.bounded.specs.Search.{pick}
use Rattle.bounded.specs.Below.{all_below}
use Rattle.bounded.proofs.BoolLaws.{and-true, or_l, or_r}
use Rattle.bounded.proofs.BelowLaws.{all_of}
use Rattle.layout.specs.Sizes.{most_inodes, most_image_blocks, is_complete, not_complete, most_blocks}
use Rattle.layout.specs.Header.{header_of}
use Rattle.desk.specs.Sizes.{desk_header_bytes, desk_length, idle, running, finished, stopped, steps_an_inode}
use Rattle.desk.specs.declared.Desk.{Desk}
use Rattle.desk.specs.Desk.{desk_of, put_desk, copied_of, desk_rest_zero}
use Rattle.desk.specs.Next.{finishing, stopping}
use Rattle.desk.proofs.DeskLaws.{desk_put_desk, length_put_desk, copied_put_desk, reserved_put_desk, desk_allowed_lem}
use Rattle.sound.specs.Sound.{Sound, inodes_in}
use Rattle.sound.specs.declared.Form.TheVariants.{Image}
use Rattle.copy_theory.specs.Deed.{Quiet}
use Rattle.copy_theory.proofs.EndLaws.{tidy_image}
use Rattle.answers.specs.declared.Refusal.TheVariants.{ImageFull}
use Rattle.answers.specs.Told.{Told, told}
use Rattle.checkpoint.specs.Fit.{desk_framed, desk_fits, blocks_fit, is_running, most_steps, notes_fit, image_fits}
use Rattle.checkpoint.specs.Copier.{finish, full, finish_image}
use Rattle.checkpoint.specs.Live.{World, Outcome}
use Rattle.checkpoint.specs.List.{advances, outcome, next, accepted, completes}
use Rattle.checkpoint.proofs.Copy.Laid.{DeskLaid}
use Rattle.checkpoint.proofs.Copy.FitLaws.{laid_steps}
use Rattle.checkpoint.proofs.Step.FinishFacts as facts
use Rattle.checkpoint.proofs.Step.FinishSeen.{finish_sound, finish_quiet}
use Rattle.checkpoint.proofs.Run.Going.{seen_in, Running, ready, step_does, next_is}
use Rattle.checkpoint.proofs.Run.Turned.{Finishes, Fills}
use Rattle.checkpoint.proofs.Run.Rests.{Resting}

-- a desk header at rest
pub record AtRest (n b : ℕ) (h : Desk) : Type 0 where
  pub inodes : h.inodes ≡ n
  pub blocks : h.blocks ≡ b
  pub state : (h.state ≡ finished) ⊎ (h.state ≡ stopped)
  pub locked : h.locked ≡ 0
  pub transferred : h.transferred ≡ 0
  pub steps : h.steps ≤ steps_an_inode * n + 1

module _ (n b : ℕ) (d : List ℕ) (k : DeskLaid n b d) (h : Desk) (r : AtRest n b h) where
  long : desk_header_bytes ≤ length d
  long = let e = k.long in omega arith

  is : desk_of (put_desk d h) ≡ h
  is = desk_put_desk d h long

  inodes_is : (desk_of (put_desk d h)).inodes ≡ n
  inodes_is = ap (λ (x : Desk). x.inodes) is ∙ r.inodes

  blocks_is : (desk_of (put_desk d h)).blocks ≡ b
  blocks_is = ap (λ (x : Desk). x.blocks) is ∙ r.blocks

  state_is : (desk_of (put_desk d h)).state ≡ h.state
  state_is = ap (λ (x : Desk). x.state) is

  locked_is : (desk_of (put_desk d h)).locked ≡ 0
  locked_is = ap (λ (x : Desk). x.locked) is ∙ r.locked

  transferred_is : (desk_of (put_desk d h)).transferred ≡ 0
  transferred_is = ap (λ (x : Desk). x.transferred) is ∙ r.transferred

  steps_is : (desk_of (put_desk d h)).steps ≡ h.steps
  steps_is = ap (λ (x : Desk). x.steps) is

  rest_state : ((desk_of (put_desk d h)).state ≡ finished) ⊎ ((desk_of (put_desk d h)).state ≡ stopped)
  rest_state = elim r.state [ inl f ↦ inl (state_is ∙ f) | inr f ↦ inr (state_is ∙ f) ]

  rest_idle : is_running (put_desk d h) ≡ false
  unfolding is_running
  rest_idle = ne_eqb (desk_of (put_desk d h)).state running (λ e. elim rest_state [ inl f ↦ omega arith | inr f ↦ omega arith ])

  rest_framed : 1 ≤ n → n ≤ most_inodes → desk_framed (put_desk d h) ≡ true
  unfolding desk_framed
  rest_framed l m =
      let e : length (put_desk d h) ≡ desk_length n = length_put_desk d h ∙ k.long in
      let i = inodes_is in
      (desk_allowed_lem (desk_of (put_desk d h)).inodes (length (put_desk d h))).from (omega arith, (omega arith, omega arith))

  rest_blocks : 1 ≤ b → b ≤ most_image_blocks → blocks_fit (put_desk d h) ≡ true
  unfolding blocks_fit
  rest_blocks l m =
      let i = blocks_is in
      let x = (desk_of (put_desk d h)).blocks in
      let no : eqb (desk_of (put_desk d h)).state idle ≡ false = ne_eqb (desk_of (put_desk d h)).state idle (λ e. elim rest_state [ inl f ↦ omega arith | inr f ↦ omega arith ]) in
      rw no (and-true (leb 1 x) _ (le-leb 1 x (omega arith)) (le-leb x most_image_blocks (omega arith)))

  rest_steps : leb (desk_of (put_desk d h)).steps (most_steps (put_desk d h)) ≡ true
  rest_steps =
      let i = inodes_is in
      let s = steps_is in
      let a = r.steps in
      rw rest_idle (le-leb (desk_of (put_desk d h)).steps (steps_an_inode * (desk_of (put_desk d h)).inodes + 1) (omega arith))

  rest_bytes : all_below (λ j. leb (copied_of (put_desk d h) (j + 1)) 1) (desk_of (put_desk d h)).inodes ≡ true
  rest_bytes =
      let i = inodes_is in
      all_of (λ j. leb (copied_of (put_desk d h) (j + 1)) 1) (desk_of (put_desk d h)).inodes (λ j l.
      let e = copied_put_desk d h (j + 1) in
      let f = k.bytes (j + 1) (omega arith) (omega arith) in
      le-leb (copied_of (put_desk d h) (j + 1)) 1 (omega arith))

  rest_fits : 1 ≤ b → b ≤ most_image_blocks → desk_fits (put_desk d h) ≡ true
  unfolding desk_fits
  rest_fits l m =
      let x = desk_of (put_desk d h) in
      let lo = locked_is in
      let co = transferred_is in
      and-true (leb x.state stopped) _ (le-leb x.state stopped (elim rest_state [ inl f ↦ omega arith | inr f ↦ omega arith ]))
      (and-true (blocks_fit (put_desk d h)) _ (rest_blocks l m)
      (and-true (desk_rest_zero (put_desk d h)) _ (reserved_put_desk d h ∙ k.reserved)
      (and-true (all_below (λ j. leb (copied_of (put_desk d h) (j + 1)) 1) x.inodes) _ rest_bytes
      (and-true (leb x.locked x.inodes) _ (le-leb x.locked x.inodes (omega arith))
      (and-true (leb x.transferred most_blocks) _ (le-leb x.transferred most_blocks (omega arith))
      (and-true (is_running (put_desk d h) || (eqb x.locked 0 && eqb x.transferred 0)) _
      (or_r (is_running (put_desk d h)) _ (and-true (eqb x.locked 0) _ (eq-eqb x.locked 0 lo) (eq-eqb x.transferred 0 co)))
      rest_steps))))))

module _ (n b : ℕ) (w : World) (r : Running n b w) where
  -- the world at rest, with image m
  comes_to_rest : (m : List ℕ) (h : Desk) → length m ≡ length w.image → (header_of m).complete ≡ pick (eqb h.state finished) is_complete not_complete → AtRest n b h → Resting n b (record { store = w.store; image = m; desk = put_desk w.desk h })
  unfolding notes_fit
  comes_to_rest m h e q a =
      let k = r.laid.desk in
      let f = r.laid.frame in
      record {
        count = r.count;
        fit = record {
          framed = (ready r).framed;
          sound = (ready r).sound;
          desk = rest_framed n b w.desk k h a f.some_inodes f.most_inodes_lem;
          notes =
              and-true (desk_fits (put_desk w.desk h)) _ (rest_fits n b w.desk k h a f.some_blocks f.most_blocks_lem)
              (and-true (eqb (desk_of (put_desk w.desk h)).inodes (inodes_in w.store)) _ (eq-eqb _ _ (inodes_is n b w.desk k h a ∙ r.count))
              (or_l (not (is_running (put_desk w.desk h))) (image_fits w.store m (put_desk w.desk h)) (ap not (rest_idle n b w.desk k h a))));
        };
        long = e ∙ f.long;
        some_blocks = f.some_blocks;
        most_blocks_lem = f.most_blocks_lem;
        state = rest_state n b w.desk k h a;
        byte = q ∙ ap (λ (x : ℕ). pick (eqb x finished) is_complete not_complete) (sym (state_is n b w.desk k h a));
      }

  few_steps : (desk_of w.desk).steps ≤ steps_an_inode * n
  few_steps = laid_steps r.laid r.sound r.count

  header : (h : Desk) → desk_of (put_desk w.desk h) ≡ h
  header h = let e = r.laid.desk.long in desk_put_desk w.desk h (omega arith)

  -- ---- the last step
  pub record Finals : Type 0 where
    pub image : (next advances w).image ≡ finish_image w.image n b
    pub store : (next advances w).store ≡ w.store
    pub desk : (next advances w).desk ≡ put_desk w.desk (finishing (desk_of w.desk))
    pub rest : Resting n b (next advances w)
    pub state : (desk_of (next advances w).desk).state ≡ finished
    pub locked : (desk_of (next advances w).desk).locked ≡ (desk_of w.desk).locked
    pub counts : (desk_of (next advances w).desk).steps ≡ (desk_of w.desk).steps + 1
    pub answer : (outcome advances w).answer ≡ told (Ok ((desk_of w.desk).steps + 1))
    pub sound : Sound Image (finish_image w.image n b)
    pub quiet : Quiet (seen_in n w) (seen_in n (next advances w))

  -- the world that it leaves
  abbrev done : World
  done = record { store = w.store; image = finish_image w.image n b; desk = put_desk w.desk (finishing (desk_of w.desk)) }

  done_is : Finishes n b w → next advances w ≡ done
  done_is f =
      next_is advances w _ (step_does r finish f.is)
      ∙ ap (λ (m : List ℕ). record { store = w.store; image = m; desk = put_desk w.desk (finishing (desk_of w.desk)) }) (ap (finish_image w.image n) r.laid.desk.blocks)

  done_rest : Finishes n b w → Resting n b done
  done_rest f =
      let few = few_steps in
      let f1 = r.laid.frame in
      let finished-is = facts.finished w.image n b f1.most_inodes_lem (omega arith) in
      comes_to_rest (finish_image w.image n b) (finishing (desk_of w.desk)) finished-is.long finished-is.complete record {
        inodes = r.laid.desk.inodes;
        blocks = r.laid.desk.blocks;
        state = inl refl;
        locked = f.none;
        transferred = r.laid.desk.none f.none;
        steps = omega arith;
      }

  pub finals : Finishes n b w → Finals
  finals f =
      let v = done_is f in
      let h = header (finishing (desk_of w.desk)) in
      record {
        image = ap (λ (x : World). x.image) v;
        store = ap (λ (x : World). x.store) v;
        desk = ap (λ (x : World). x.desk) v;
        rest = rw v (done_rest f);
        state = ap (λ (x : World). (desk_of x.desk).state) v ∙ ap (λ (x : Desk). x.state) h;
        locked = ap (λ (x : World). (desk_of x.desk).locked) v ∙ ap (λ (x : Desk). x.locked) h;
        counts = ap (λ (x : World). (desk_of x.desk).steps) v ∙ ap (λ (x : Desk). x.steps) h;
        answer = ap (λ (o : Outcome). o.answer) (step_does r finish f.is);
        sound = finish_sound r.laid f.none (tidy_image r.holds f.ended);
        quiet = rw v (finish_quiet r.laid f.none);
      }

  -- ---- 16
  pub record Halted : Type 0 where
    pub is : next advances w ≡ record { store = w.store; image = w.image; desk = put_desk w.desk (stopping (desk_of w.desk)) }
    pub rest : Resting n b (next advances w)
    pub state : (desk_of (next advances w).desk).state ≡ stopped
    pub counts : (desk_of (next advances w).desk).steps ≡ (desk_of w.desk).steps
    pub answer : (outcome advances w).answer ≡ told (Err ImageFull)

  pub halted : Fills n b w → Halted
  halted f =
      let o = step_does r full f.is in
      let v = next_is advances w _ o in
      let h = header (stopping (desk_of w.desk)) in
      let few = few_steps in
      record {
        is = v;
        rest = rw v (comes_to_rest w.image (stopping (desk_of w.desk)) refl r.laid.frame.complete record { inodes = r.laid.desk.inodes; blocks = r.laid.desk.blocks; state = inr refl; locked = refl; transferred = refl; steps = omega arith });
        state = ap (λ (x : World). (desk_of x.desk).state) v ∙ ap (λ (x : Desk). x.state) h;
        counts = ap (λ (x : World). (desk_of x.desk).steps) v ∙ ap (λ (x : Desk). x.steps) h;
        answer = ap (λ (o : Outcome). o.answer) o;
      }

  pub completed : Finishes n b w → completes advances w ≡ true
  completed f =
      let k = finals f in
      and-true (accepted advances w) _ (ap (λ (a : Told). eqb a.number 0) k.answer) (ap (λ (m : List ℕ). eqb (header_of m).complete is_complete) k.image ∙ ap (λ (x : ℕ). eqb x is_complete) k.sound.complete)
