-- A list behind its guards: while a copy goes on refusals 1 to 3 do not come, so what a list leaves can be computed without a test of the whole store at each event.
use Prim.Native.Nat.{ℕ}
use mathlib.Core.Path.{◌≡◌, refl, ap, ◌∙◌}
use mathlib.Core.List.{List, [], ◌∷◌, ◌++◌}
use Rattle.bounded.specs.Search.{pick}
use Rattle.answers.specs.declared.Refusal.TheVariants.{WrongState}
use Rattle.sound.specs.Sound.{inodes_in, blocks_in}
use Rattle.files.specs.Effect.{planned}
use Rattle.checkpoint.specs.Fit.{is_running}
use Rattle.checkpoint.specs.Busy.{unless_busy}
use Rattle.checkpoint.specs.Copier.{step_of}
use Rattle.checkpoint.specs.Live.{World, refuse, leaves_in, do_step, live, step}
use Rattle.checkpoint.specs.List.{Ready, Event, call, advances, asks, starts, outcome, next, run}
use Rattle.checkpoint.proofs.Call.LiveLaws.{ready_decides}
use Rattle.checkpoint.proofs.Run.Going.{guards_pass, left_in}
use Rattle.checkpoint.proofs.Run.Lists.{Going, fit, going_next}

-- what an event leaves where its guards let it pass; a state question or a start as it is
unfoldable pub behind : Event → World → World
behind (call c) w = left_in (leaves_in w (unless_busy w.desk (planned c w.store (inodes_in w.store) (blocks_in w.store))))
behind advances w =
    left_in (pick (is_running w.desk)
    (do_step w.store w.image w.desk (inodes_in w.store) (step_of w.store w.image w.desk (inodes_in w.store)))
    (refuse WrongState w.store w.image w.desk))
behind asks w = next asks w
behind starts w = next starts w

unfoldable pub behind_all : List Event → World → World
behind_all [] w = w
behind_all (e ∷ es) w = behind_all es (behind e w)

behind_is : (e : Event) (w : World) → Ready w → next e w ≡ behind e w
unfolding behind next outcome live step
behind_is (call c) w r = ap (λ p. left_in (leaves_in w p)) (ready_decides c w r)
behind_is advances w r = ap left_in (guards_pass w r _)
behind_is asks w r = refl
behind_is starts w r = refl

pub behind_run : (n b : ℕ) (es : List Event) (w : World) → Going n b w → run es w ≡ behind_all es w
unfolding run behind_all
behind_run n b [] w g = refl
behind_run n b (e ∷ es) w g = behind_run n b es (next e w) (going_next n b w e g) ∙ ap (behind_all es) (behind_is e w (fit g))

-- a list in two parts
pub behind_two : (es fs : List Event) (w v : World) → behind_all es w ≡ v → behind_all (es ++ fs) w ≡ behind_all fs v
unfolding behind_all
behind_two [] fs w v e = ap (behind_all fs) e
behind_two (x ∷ es) fs w v e = behind_two es fs (behind x w) v e
