use Rattle.std.proofs.Common.{sym}
use Rattle.reading.specs.ReadCases.{size_updating, size_idle}
use Rattle.reading.proofs.file_size.Goals as goal

pub returns-then-s : goal.returns-then-s
returns-then-s c = λ l. sym (size_updating c.args.s.now l c.if-s.true)

pub returns : goal.returns
returns c = λ l. sym (size_idle c.args.s.now l c.if-s.false)
