-- `fresh_fields` meets its contract.
use Rattle.std.proofs.Common.{ℕ, List, ◌≡◌, ◌<◌, ◌≤◌, ◌++◌, length, drop, Err, rules, ap, ◌∙◌}
use borrow.Author.Tests.{lt-ltb, le-ltb}
use Rattle.config.specs.declared.refusal.Refusal.TheVariants.{BufferTooShort}
use Rattle.meta.specs.Block.{numbers_of, fresh}
use Rattle.yuharopu.specs.Exports.{answer, fresh_fields, in_front}
use Rattle.yuharopu.proofs.fresh_fields.Goals as goal

pub returns-in_err-shown : goal.returns-in_err-shown
unfolding fresh_fields
returns-in_err-shown c =
    let refused : c.from_residual.result ≡ Err BufferTooShort = search rules in
    let few : length c.args.fields.now < 21 = search rules in
    rw refused (simp (lt-ltb _ _ few))

pub returns : goal.returns
unfolding fresh_fields
returns c =
    let s = c.args.fields.now in
    let room : 21 ≤ length s = search rules in
    let numbers : c.numbers.result ≡ numbers_of fresh = c.numbers.ensures ∙ ap numbers_of c.fresh.ensures in
    rw (le-ltb _ _ room) (ap (answer 0) (ap (λ (n : List ℕ). n ++ drop 21 s) numbers ∙ in_front (numbers_of fresh) s room))
