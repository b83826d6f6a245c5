-- `zeroplan::main` meets its contract: the answer is within its buffer.
use Rattle.std.proofs.Common.{◌≡◌, ◌+◌, length, take, length-take, ap, ◌∙◌, arith}
use Rattle.decimal.specs.Write.{Written, next_write}
use Rattle.zeroplan.specs.Reply.{reply}
use Rattle.zeroplan.specs.ReplyLaws.{reply-length}
use Rattle.zeroplan.proofs.main.Goals as goal

pub slice_bounds-out-end : goal.slice_bounds-out-end
slice_bounds-out-end c =
    let t = take c.in_ok-n.n c.read_full.new.buffer in
    let e : c.respond-k.result ≡ 0 + length (reply t) = ap (λ (w : Written). w.next) c.respond-k.ensures ∙ next_write 0 (reply t) _ in
    omega (arith, e, reply-length t, c.respond-k.auto.out)

pub slice_bounds-write_all-end : goal.slice_bounds-write_all-end
slice_bounds-write_all-end c =
    let t = take c.in_ok-n.n c.read_full.new.buffer in
    let e : c.respond-k.result ≡ 0 + length (reply t) = ap (λ (w : Written). w.next) c.respond-k.ensures ∙ next_write 0 (reply t) _ in
    simp length-take (omega (arith, e, reply-length t, c.respond-k.auto.out))
