-- What the closure left is what the call leaves.
use Rattle.std.proofs.Common.{rules, sym, ◌∙◌}
use Rattle.update.specs.Laid.{bufs, laid}
use Rattle.blob.proofs.changing.change.Goals as goal

pub settle-requires : goal.settle-requires
settle-requires g c =
    let k = c.apply-verdict in
    let x = laid k.new.arg2 (bufs k.new.arg4 k.new.arg5 k.new.arg6 k.new.arg7) k.result in
    (c.requires.change.1.after x (sym c.any_is_short.ensures ∙ c.if-any_is_short.false) (sym c.import_bars.ensures ∙ c.if-import_bars.false) (search rules)).0

pub returns : goal.returns
returns g c =
    let k = c.apply-verdict in
    let x = laid k.new.arg2 (bufs k.new.arg4 k.new.arg5 k.new.arg6 k.new.arg7) k.result in
    λ call is. c.settle.ensures ∙ (is.after x (sym c.any_is_short.ensures ∙ c.if-any_is_short.false) (sym c.import_bars.ensures ∙ c.if-import_bars.false) (search rules)).1
