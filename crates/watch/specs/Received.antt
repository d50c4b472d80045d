-- What the callers of a list get (the record is in files/specs/Plain.antt), from the world w on; and what that tells, by itself. xs are the calls of the list, rs what their callers got.
use Rattle.std.specs.Prelude.{ℕ, suc, ◌+◌, Bool, List, [], ◌∷◌, eqb, get_or}
use Rattle.bounded.specs.Search.{pick}
use Rattle.answers.specs.declared.Refusal.TheVariants.{Busy}
use Rattle.answers.specs.Refusal.{refusal_number}
use Rattle.files.specs.Effect.{Call}
use Rattle.files.specs.Plain.{Received, got}
use Rattle.checkpoint.specs.Live.{World, Outcome, world_in, out_of}
use Rattle.checkpoint.specs.List.{on_event, outcome}
use Rattle.checkpoint.specs.Burst.{count_allowed, burst, Act, one, bursts}

-- one value for each kind of call: file call, step, question, start, burst
abbrev pub on_act : {A : Type 0} → Act → (Call → A) → A → A → A → (ℕ → A) → A
on_act (one e) file step question start many = on_event e file step question start
on_act (bursts k) file step question start many = many k

-- ---- by the definitions
abbrev pub outcome_of : Act → World → Outcome
outcome_of (one e) w = outcome e w
outcome_of (bursts k) w = burst k w

abbrev pub next_of : Act → World → World
next_of x w = world_in (outcome_of x w)

abbrev pub out_after : Act → World → List ℕ
out_after x w = on_act x (λ c. out_of c w) [] [] [] (λ k. [])

unfoldable pub received : List Act → World → List Received
received [] w = []
received (x ∷ xs) w = got (outcome_of x w).answer (out_after x w) ∷ received xs (next_of x w)

-- ---- by what the callers got, and by nothing else
-- a is refusal k; 0 for none
abbrev pub refused_with : ℕ → Received → Bool
refused_with k a = eqb a.answer.number k

-- a burst "reports how many were accepted"; a refused one had none
abbrev pub count_told : Received → ℕ
count_told a = pick (refused_with 0 a) (get_or a.answer.values 0 0) 0

-- "the copy's accepted steps", counted from the latest start; c is the count before
unfoldable pub steps_told : List Act → List Received → ℕ → ℕ
steps_told [] rs c = c
steps_told (x ∷ xs) [] c = c
steps_told (x ∷ xs) (a ∷ rs) c = steps_told xs rs (on_act x (λ y. c) (pick (refused_with 0 a) (suc c) c) c (pick (refused_with 0 a) 0 c) (λ k. c + count_told a))

-- the file calls, "the ones refused as busy left out"
unfoldable pub heard : List Act → List Received → List Call
heard [] rs = []
heard (x ∷ xs) [] = []
heard (x ∷ xs) (a ∷ rs) = let cs = heard xs rs in on_act x (λ c. pick (refused_with (refusal_number Busy) a) cs (c ∷ cs)) cs cs cs (λ k. cs)

-- what their callers got
unfoldable pub replies : List Act → List Received → List Received
replies [] rs = []
replies (x ∷ xs) [] = []
replies (x ∷ xs) (a ∷ rs) = let qs = replies xs rs in on_act x (λ c. pick (refused_with (refusal_number Busy) a) qs (a ∷ qs)) qs qs qs (λ k. qs)

-- ---- the steps that a list asks for
abbrev pub steps_asked : List Act → ℕ
steps_asked [] = 0
steps_asked (x ∷ xs) = on_act x (λ c. steps_asked xs) (suc (steps_asked xs)) (steps_asked xs) (steps_asked xs) (λ k. pick (count_allowed k) k 0 + steps_asked xs)
