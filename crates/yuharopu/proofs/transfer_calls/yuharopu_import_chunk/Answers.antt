-- `transfer_calls::yuharopu_import_chunk` meets its contract.
use Rattle.std.proofs.Common.{refl, rules}
use Rattle.store.specs.Calls.{import_chunk}
use Rattle.yuharopu.proofs.transfer_calls.yuharopu_import_chunk.Goals as goal

pub returns : goal.returns
returns c =
    let a = c.args in
    c.call_on_memory.ensures.calls (import_chunk a.offset a.bytes.now) (record { fills = refl; does = λ x x' r h. record { answer = _; alike = (refl, refl); made = search rules } })
