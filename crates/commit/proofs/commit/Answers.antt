-- `commit::commit` meets its contract.
use Rattle.std.proofs.Common.{sym, ap, ◌∙◌, List, take, ◌*◌}
use Rattle.meta.specs.declared.ZeroExtent.{ZeroExtent}
use Rattle.runs.specs.FlatLaws.{runs_in-all}
use Rattle.image_runs.specs.Image.{image_runs}
use Rattle.update.specs.Pages.{pages_in}
use Rattle.store.specs.Codec.{real_codec}
use Rattle.store.specs.Plan.{store_plan}
use Rattle.commit.specs.Committed.{settle_to}
use Rattle.commit.specs.CommitSteps.{commit_empty, commit_on, runs_cut}
use Rattle.commit.proofs.commit.Goals as goal

pub returns-then-is_empty-clause-left : goal.returns-then-is_empty-clause-left
returns-then-is_empty-clause-left c =
    let a = c.args in
    commit_empty 16384 65536 8 1024 18446744073709551615 a.update a.s.now a.mem.now a.o.now.base_size a.o.now.size a.o.now.dirty a.o.now.recorded a.frames.numbers.now a.frames.bytes.now a.«record».now c.requires.0 c.requires.2 (sym c.is_empty.ensures ∙ c.if-is_empty.true)

pub returns-clause-left : goal.returns-clause-left
returns-clause-left c =
    let a = c.args in
    commit_on 16384 65536 8 1024 18446744073709551615 a.update a.s.now a.mem.now a.o.now.base_size a.o.now.size a.o.now.dirty a.o.now.recorded a.frames.numbers.now a.frames.bytes.now a.«record».now c.requires.0 c.requires.2 _ (sym c.is_empty.ensures ∙ c.if-is_empty.false)
    (c.settle.ensures.left
    ∙ ap (λ (x : List ZeroExtent). settle_to 16384 65536 8 1024 18446744073709551615 real_codec a.update a.s.now a.mem.now a.o.now.size (pages_in 16384 (take a.o.now.dirty a.frames.numbers.now) a.frames.bytes.now)
    (store_plan 16384 1024 a.s.now.block.db_size a.o.now.size (image_runs a.s.now.block.zero_extent_count a.mem.now) x (take a.o.now.dirty a.frames.numbers.now)))
    (sym (runs_in-all (take (a.o.now.recorded * 2) a.«record».now)) ∙ runs_cut a.o.now.recorded a.«record».now c.requires.2))
