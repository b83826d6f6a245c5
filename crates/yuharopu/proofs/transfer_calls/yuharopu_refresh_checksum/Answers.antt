-- `transfer_calls::yuharopu_refresh_checksum` meets its contract.
use Rattle.std.proofs.Common.{refl, rules}
use Rattle.store.specs.Calls.{refresh}
use Rattle.yuharopu.proofs.ClosureLaws.{checksum_alike}
use Rattle.yuharopu.proofs.transfer_calls.yuharopu_refresh_checksum.Goals as goal

pub returns : goal.returns
returns c = c.call_on_memory.ensures.calls refresh (record { fills = refl; does = λ x x' r h. record { answer = _; alike = checksum_alike r; made = search rules } })
