-- `transfer_calls::yuharopu_finish_import` meets its contract.
use Rattle.std.proofs.Common.{refl, rules}
use Rattle.store.specs.Calls.{import_finish}
use Rattle.yuharopu.proofs.transfer_calls.yuharopu_finish_import.Goals as goal

pub returns : goal.returns
returns c = c.call_on_memory.ensures.calls import_finish (record { fills = refl; does = λ x x' r h. record { answer = _; alike = (refl, refl); made = search rules } })
