use Rattle.std.proofs.Common.{◌≡◌, false, ap, ◌∙◌, rules}
use Rattle.update.specs.declared.Overlay.{Overlay}
use Rattle.update.specs.declared.Budget.{Budget}
use Rattle.update.specs.Update.{fresh}
use Rattle.update.specs.Buffers.{overlay_of}
use Rattle.store.specs.Store.{budget_of, resting, no_overlay}
use Rattle.lending.proofs.ended.Goals as goal

pub returns : goal.returns
unfolding no_overlay
returns c =
    let a = c.args in
    let none : c.default.result ≡ budget_of false 0 0 = search rules in
    ap (λ (v : Overlay). resting a.count.0 a.block v) (c.new.ensures ∙ ap (λ (g : Budget). overlay_of 16384 8 0 (fresh 16384 0 g)) none)
