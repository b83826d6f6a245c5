-- The store's definition at the begin of an update: one law for each way out.
use Rattle.std.specs.Prelude.{◌≡◌, ℕ, Bool, true, false, []}
use Rattle.std.proofs.Math.Path.{refl}
use Rattle.std.proofs.Common.{ap, ◌∙◌}
use Rattle.config.specs.declared.refusal.Refusal.TheVariants.{ImportAlreadyStarted, UpdateBegunTwice}
use Rattle.update.specs.Update.{fresh}
use Rattle.update.specs.Buffers.{overlay_of}
use Rattle.store.specs.declared.State.{State}
use Rattle.store.specs.Answers.{Size, Refused}
use Rattle.store.specs.Codec.{real_codec}
use Rattle.store.specs.Blocks.{importing}
use Rattle.store.specs.Calls.{begin, Lent, out, mode_if, mode_of, short}
use Rattle.store.specs.Store.{store, budget_of, working, do_begin}
use Rattle.transfer.specs.StoreCases.{most}
use Rattle.lending.specs.Lending.{calls}

module _ (s : State) (l : Lent) where
  module _ (g : Bool) (p b : ℕ) where
    begin_is : calls s l (begin g p b) ≡ do_begin 16384 65536 8 1024 most real_codec s l (budget_of g p b) (importing s.block) (mode_of s)
    unfolding store short
    begin_is = refl

    pub begin_importing : importing s.block ≡ true → calls s l (begin g p b) ≡ out s l (Refused ImportAlreadyStarted) []
    begin_importing h = begin_is ∙ ap (λ (t : Bool). do_begin 16384 65536 8 1024 most real_codec s l (budget_of g p b) t (mode_of s)) h

    module _ (h : importing s.block ≡ false) where
      begins : (u : Bool) → s.updating ≡ u → calls s l (begin g p b) ≡ do_begin 16384 65536 8 1024 most real_codec s l (budget_of g p b) false (mode_if u s.overlay)
      begins u e =
          begin_is
          ∙ ap (λ (t : Bool). do_begin 16384 65536 8 1024 most real_codec s l (budget_of g p b) t (mode_of s)) h
          ∙ ap (λ (t : Bool). do_begin 16384 65536 8 1024 most real_codec s l (budget_of g p b) false (mode_if t s.overlay)) e

      pub begin_again : s.updating ≡ true → calls s l (begin g p b) ≡ out s l (Refused UpdateBegunTwice) []
      begin_again e = begins true e

      pub begin_done : s.updating ≡ false
          → calls s l (begin g p b)
          ≡ out (working s.count.0 s.block (overlay_of 16384 8 s.block.db_size (fresh 16384 s.block.db_size (budget_of g p b)))) l (Size s.block.db_size) []
      begin_done e = begins false e
