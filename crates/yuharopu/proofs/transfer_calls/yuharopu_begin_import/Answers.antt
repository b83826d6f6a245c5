-- `transfer_calls::yuharopu_begin_import` meets its contract.
use Rattle.std.proofs.Common.{refl, rules}
use Rattle.store.specs.Calls.{import_begin}
use Rattle.yuharopu.proofs.transfer_calls.yuharopu_begin_import.Goals as goal

pub returns : goal.returns
returns c =
    let a = c.args in
    c.call_on_memory.ensures.calls (import_begin a.total a.expected) (record { fills = refl; does = λ x x' r h. record { answer = _; alike = (refl, refl); made = search rules } })
