-- The number and the values of each refusal. Every contract speaks of a refusal through this definition.
use Rattle.std.specs.Prelude.{ℕ}
use Rattle.config.specs.declared.refusal.Refusal.{Refusal}
use Rattle.config.specs.declared.refusal.Refusal.TheVariants.{ForeignStableMemoryImage, UnsupportedLayoutVersion, MetaChecksumMismatch, ImageOutOfMemory, ImportAlreadyStarted, ImportNotStarted, UpdateInProgress, UpdateBegunTwice, OffsetOverflow, ImportOutOfOrder, ImportOutOfBounds, ImportIncomplete, ChecksumMismatch, ChecksumRefreshChunkEmpty, BudgetExceeded, ZeroExtentLimitExceeded, GrowFailed, FramesFull, RecordFull, BufferTooShort}
use Rattle.config.specs.declared.refusal.Numbers.{Numbers}

abbrev pub these : ℕ → ℕ → ℕ → Numbers
these n a b = record { number = n; first = a; second = b }

-- 01, "What a call can answer": 2 "with the number", 24 "with both", 32 "with current and required stable pages"
abbrev pub numbers_of : Refusal → Numbers
numbers_of ForeignStableMemoryImage = these 1 0 0
numbers_of (UnsupportedLayoutVersion v) = these 2 v 0
numbers_of MetaChecksumMismatch = these 3 0 0
numbers_of ImageOutOfMemory = these 4 0 0
numbers_of ImportAlreadyStarted = these 10 0 0
numbers_of ImportNotStarted = these 11 0 0
numbers_of UpdateInProgress = these 12 0 0
numbers_of UpdateBegunTwice = these 13 0 0
numbers_of OffsetOverflow = these 20 0 0
numbers_of ImportOutOfOrder = these 21 0 0
numbers_of ImportOutOfBounds = these 22 0 0
numbers_of ImportIncomplete = these 23 0 0
numbers_of (ChecksumMismatch expected actual) = these 24 expected actual
numbers_of ChecksumRefreshChunkEmpty = these 25 0 0
numbers_of BudgetExceeded = these 30 0 0
numbers_of ZeroExtentLimitExceeded = these 31 0 0
numbers_of (GrowFailed current required) = these 32 current.0 required.0
numbers_of FramesFull = these 33 0 0
numbers_of RecordFull = these 34 0 0
numbers_of BufferTooShort = these 35 0 0
