-- `transfer::refresh_step` meets its contract: progress of an older transaction is cleared once, and then there is none.
use Rattle.std.proofs.Common.{◌≡◌, ◌<◌, sym, ap, ◌∙◌, arith}
use Rattle.meta.specs.declared.superblock.Superblock.{Superblock}
use Rattle.transfer.specs.Steps.{refresh_step_to}
use Rattle.transfer.specs.RefreshLaws.{pending, pending_one, pending_none, step_fresh, step_onward, step_anew}
use Rattle.transfer.proofs.sums.+refresh_step.Goals as goal

pub returns-then-not-is_refreshing : goal.returns-then-not-is_refreshing
returns-then-not-is_refreshing t c =
    let a = c.args in
    c.refresh_from.ensures ∙ step_fresh a.block a.s.now a.mem.now a.n (sym c.is_refreshing.ensures ∙ c.if-not-is_refreshing.true)

pub refresh_step-requires : goal.refresh_step-requires
refresh_step-requires t c =
    let a = c.args in
    let now : pending a.block ≡ t = c.decreases in
    let one : pending a.block ≡ 1 = pending_one a.block a.s.now a.mem.now a.n (sym c.is_refreshing.ensures ∙ c.if-not-is_refreshing.false) c.if-block.true in
    let none : pending c.without_refresh.result ≡ 0 = ap pending c.without_refresh.ensures ∙ pending_none a.block in
    let less : pending c.without_refresh.result < t = omega (arith, now, one, none) in
    (less, tt)

pub returns-then-block : goal.returns-then-block
returns-then-block t c =
    let a = c.args in
    c.refresh_step.ensures
    ∙ ap (λ (k : Superblock). refresh_step_to a.s.now a.mem.now k a.n) c.without_refresh.ensures
    ∙ step_anew a.block a.s.now a.mem.now a.n (sym c.is_refreshing.ensures ∙ c.if-not-is_refreshing.false) c.if-block.true

pub returns : goal.returns
returns t c =
    let a = c.args in
    c.refresh_from-2.ensures ∙ step_onward a.block a.s.now a.mem.now a.n (sym c.is_refreshing.ensures ∙ c.if-not-is_refreshing.false) c.if-block.false
