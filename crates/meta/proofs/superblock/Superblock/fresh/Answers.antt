-- `meta::Superblock::fresh` meets its contract.
use Rattle.std.proofs.Common.{◌≡◌, [], rules, refl, ap}
use Rattle.memory.specs.Bytes.{filled}
use Rattle.meta.specs.Block.{of_fields, fresh as freshBlock}
use Rattle.meta.specs.Stored.{Outcome}
use Rattle.meta.proofs.superblock.Superblock.fresh.Goals as goal

pub seal-requires : goal.seal-requires
unfolding filled
seal-requires c = refl

pub returns : goal.returns
unfolding freshBlock
returns c =
    let none : c.default.result ≡ of_fields 0 0 0 [] = search rules in
    rw none at (ap (λ (o : Outcome). o.block) c.seal.ensures)
