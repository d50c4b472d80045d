use Prim.Native.Nat.{ℕ}
use mathlib.Core.Path.{◌≡◌, ap, ◌∙◌}
use mathlib.Core.Bool.{Bool}
use mathlib.Core.List.{List}
use Rattle.dealer.specs.Deal.{Dealt, dealt}
use Rattle.api.specs.Api.{mask_flags}
use Rattle.api.proofs.CodeLaws.{dealt_fits, sent_dealt_lem}
use Rattle.api.proofs.ResultLaws.{deal_fits}
use Rattle.api.proofs.honecerise_deal.Goals as goal

-- `api::honecerise_deal` meets its contract. Assumes nothing.
-- what the dealer gives for the flags is what it gives for the mask
by_mask : (mask steps last : ℕ) (fs : List Bool) (d : Dealt) → d ≡ dealt fs steps last → fs ≡ mask_flags mask → d ≡ dealt (mask_flags mask) steps last
by_mask mask steps last fs d p q = p ∙ ap (λ (f : List Bool). dealt f steps last) q

pub code-requires : goal.code-requires
code-requires c =
    let a = c.args in
    dealt_fits c.deal-turn.result.answer _ _
    (by_mask a.running a.steps a.last _ _ c.deal-turn.ensures c.flags.ensures)
    (deal_fits (mask_flags a.running) a.steps a.last)

pub returns : goal.returns
returns c =
    let a = c.args in
    sent_dealt_lem c.deal-turn.result.answer _ _
    (by_mask a.running a.steps a.last _ _ c.deal-turn.ensures c.flags.ensures)
    (deal_fits (mask_flags a.running) a.steps a.last) _ c.code.ensures
