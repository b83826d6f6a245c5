-- `transfer_calls::yuharopu_refresh_checksum_chunk` meets its contract.
use Rattle.std.proofs.Common.{refl, rules}
use Rattle.store.specs.Calls.{refresh_step}
use Rattle.yuharopu.proofs.transfer_calls.yuharopu_refresh_checksum_chunk.Goals as goal

pub returns : goal.returns
returns c =
    let a = c.args in
    c.call_on_memory.ensures.calls (refresh_step a.n) (record { fills = refl; does = λ x x' r h. record { answer = _; alike = (refl, refl); made = search rules } })
