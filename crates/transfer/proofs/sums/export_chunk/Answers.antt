-- `transfer::sums::export_chunk` meets its contract.
use Rattle.std.proofs.Common.{refl, sym, ap, ◌∙◌, ◌≡◌, arith, ℕ, ◌-◌, min, List, ◌++◌, length, take, drop, length-take, take_all}
use Rattle.std.proofs.lemmas.Result.{err_from_is_err_and}
use Rattle.memory.specs.Bytes.{overwrite}
use Rattle.memory.specs.Laws.{overwrite_front}
use Rattle.image.specs.Reading.{image_of}
use Rattle.update.specs.declared.Image.{Image}
use Rattle.update.specs.Lists.{tabulate_from}
use Rattle.update.specs.ListLaws.{length-tabulate_from}
use Rattle.update.specs.Image.{image_in}
use Rattle.store.specs.Answers.{Exported}
use Rattle.store.specs.Calls.{export, out}
use Rattle.transfer.specs.OnMemory.{lent}
use Rattle.transfer.specs.StoreCases.{refused_exit, admitted, export_done}
use Rattle.transfer.proofs.sums.export_chunk.Goals as goal

pub returns-in_err-admit : goal.returns-in_err-admit
returns-in_err-admit c =
    let a = c.args in
    let p = err_from_is_err_and c.from_residual.result c.from_residual.ensures.1 in
    refused_exit a.s.now a.mem.now (export a.offset a.dst.now) refl (λ x. Exported x) c.from_residual.result _ _ p.1 p.2 (sym c.admit.ensures ∙ c.in_err-admit.was)

pub returns : goal.returns
returns c =
    let a = c.args in
    let n : ℕ = c.below_size-n.result in
    let bytes : List ℕ = tabulate_from a.offset n (image_in 16384 (image_of a.s.now.block) a.mem.now) in
    let few : n ≡ min (length a.dst.now) (a.s.now.block.db_size - a.offset) = c.below_size-n.ensures in
    let k : length (take n a.dst.now) ≡ n = length-take n a.dst.now ∙ omega arith in
    let read : c.read.new.dst ≡ bytes = c.read.ensures
    ∙ ap (λ (j : ℕ). tabulate_from a.offset j (image_in 16384 c.image_of-image.result a.mem.now)) k
    ∙ ap (λ (i : Image). tabulate_from a.offset n (image_in 16384 i a.mem.now)) c.image_of-image.ensures in
    let m : length bytes ≡ n = length-tabulate_from a.offset n (image_in 16384 (image_of a.s.now.block) a.mem.now) in
    let laid : c.read.new.dst ++ drop n a.dst.now ≡ overwrite 0 bytes a.dst.now =
    ap (λ (l : List ℕ). l ++ drop n a.dst.now) (read ∙ sym (take_all n bytes (omega arith))) ∙ overwrite_front n bytes a.dst.now (omega arith) in
    λ b w. ap (λ (l : List ℕ). out a.s.now (lent a.mem.now b w) (Exported n) l) laid
    ∙ sym (admitted a.s.now a.mem.now (export a.offset a.dst.now) refl b w (sym c.admit.ensures ∙ c.in_ok-admit.was) ∙ export_done a.s.now a.mem.now b w a.offset n a.dst.now few)
