-- `transfer::sums::refresh_from` meets its contract.
use Rattle.std.proofs.Common.{◌≡◌, ap, ◌∙◌, ℕ, ◌-◌, nat_eq}
use Rattle.fnv.specs.Fnv.{fold}
use Rattle.meta.specs.declared.superblock.Superblock.{Superblock}
use Rattle.image.specs.Reading.{image_of}
use Rattle.update.specs.declared.Image.{Image}
use Rattle.update.specs.Lists.{tabulate_from}
use Rattle.update.specs.Image.{image_in}
use Rattle.store.specs.Answers.{Answer, Refreshed}
use Rattle.transfer.specs.Steps.{restore_to, refresh_to}
use Rattle.transfer.specs.RefreshLaws.{refresh_full, refresh_part}
use Rattle.transfer.specs.StoreCases.{stored_as}
use Rattle.transfer.proofs.sums.refresh_from.Goals.{then-complete, else-complete}
use Rattle.transfer.proofs.sums.refresh_from.Goals as goal

pub returns : goal.returns
returns c =
    let a = c.args in
    let end : ℕ = c.refresh_end-end.result in
    let sum : ℕ = c.fold-sum.result in
    let answer : Answer = Refreshed (record { complete = nat_eq end a.block.db_size; checksum = sum; scanned_bytes = end; db_size = a.block.db_size }) in
    let hashed : sum ≡ fold a.hash (tabulate_from a.from (end - a.from) (image_in 16384 (image_of a.block) a.mem.now)) =
    c.fold-sum.ensures ∙ ap (λ (i : Image). fold a.hash (tabulate_from a.from (end - a.from) (image_in 16384 i a.mem.now))) c.image_of-image.ensures in
    let came : restore_to a.s.now a.mem.now c.if-complete.next answer ≡ refresh_to a.s.now a.mem.now a.block a.n a.from a.hash =
    elim c.if-complete.branch [
      | then-complete w ↦ ap (λ (k : Superblock). restore_to a.s.now a.mem.now k answer) (w.next-is ∙ w.after_refresh-next.ensures)
          ∙ refresh_full a.s.now a.mem.now a.block a.n a.from a.hash end sum c.refresh_end-end.ensures hashed w.if-complete.true
      | else-complete w ↦ ap (λ (k : Superblock). restore_to a.s.now a.mem.now k answer) (w.next-is ∙ w.after_refresh_step-next.ensures)
          ∙ refresh_part a.s.now a.mem.now a.block a.n a.from a.hash end sum c.refresh_end-end.ensures hashed w.if-complete.false
    ] in
    stored_as a.s.now c.restore.new.s a.mem.now c.restore.new.mem c.if-complete.next answer c.restore.ensures ∙ came
