use Rattle.std.proofs.Common.{◌≡◌, ◌*◌, ◌≤◌, length}
use Rattle.std.specs.Iterator.Adapters.{zip_first, zip_second}
use Rattle.std.specs.Slice.Iter.{iter_rest, chunks_exact_rest, chunks_exact_size}
use Rattle.update.specs.Pages.{pages_in}
use Rattle.store.specs.Codec.{real_codec}
use Rattle.store.specs.Store.{write_pages}
use Rattle.commit.proofs.write_pages.Given as goal

abbrev pub invariant-loop-page : goal.invariant-loop-page
invariant-loop-page l =
    let ns = iter_rest (zip_first l.page-iterator) in
    let fs = chunks_exact_rest (zip_second l.page-iterator) in
    (chunks_exact_size (zip_second l.page-iterator) ≡ 16384) × (length ns * 16384 ≤ length fs)
    × (write_pages 16384 65536 8 1024 18446744073709551615 real_codec l.base l.count (pages_in 16384 ns fs) l.mem
    ≡ write_pages 16384 65536 8 1024 18446744073709551615 real_codec l.base l.count (pages_in 16384 l.fn.frames.numbers.now l.fn.frames.bytes.now) l.initial.mem)
