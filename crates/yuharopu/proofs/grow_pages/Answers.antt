-- `grow_pages` meets its contract.
use Rattle.std.proofs.Common.{◌≡◌, ◌<◌, ◌≤◌, [], ◌∷◌, length, Err, rules, sym, ap, ◌∙◌}
use borrow.Author.Tests.{lt-ltb}
use Rattle.config.specs.Refusals.{numbers_of as numbersOfRefusal}
use Rattle.config.specs.declared.refusal.Numbers.{Numbers}
use Rattle.config.specs.declared.refusal.Refusal.TheVariants.{BufferTooShort}
use Rattle.memory.specs.Growth.{Growth, outcome}
use Rattle.memory.specs.Bytes.{overwrite}
use Rattle.yuharopu.specs.Exports.{grew, growth_shown, grow_pages, grow_shown, in_front}
use Rattle.yuharopu.proofs.grow_pages.Goals as goal

pub returns-in_err-shown : goal.returns-in_err-shown
unfolding grow_pages
returns-in_err-shown c =
    let refused : c.from_residual.result ≡ Err BufferTooShort = search rules in
    let few : length c.args.pages.now < 2 = search rules in
    rw refused (simp (lt-ltb _ _ few))

pub returns-in-Ok : goal.returns-in-Ok
returns-in-Ok c =
    let s = c.args in
    let room : 2 ≤ length s.pages.now = search rules in
    ap (grew 0 c.grow.new.mem) (in_front (s.count.0 ∷ c.in-Ok.after.0 ∷ []) s.pages.now room)
    ∙ ap (λ (x : Growth). growth_shown s.count.0 c.grow.new.mem x s.pages.now) (sym c.in-Ok.is)
    ∙ grow_shown s.mem.now s.count.0 s.end s.pages.now (outcome c.grow.result c.grow.new.mem) room c.grow.ensures

pub returns-in-Err : goal.returns-in-Err
returns-in-Err c =
    let s = c.args in
    let n = c.from-n in
    let room : 2 ≤ length s.pages.now = search rules in
    let number = (numbersOfRefusal c.in-Err.refusal).number in
    ap (grew number c.grow.new.mem) (in_front (n.result.first ∷ n.result.second ∷ []) s.pages.now room)
    ∙ ap (λ (x : Numbers). grew number c.grow.new.mem (overwrite 0 (x.first ∷ x.second ∷ []) s.pages.now)) n.ensures
    ∙ ap (λ (x : Growth). growth_shown s.count.0 c.grow.new.mem x s.pages.now) (sym c.in-Err.is)
    ∙ grow_shown s.mem.now s.count.0 s.end s.pages.now (outcome c.grow.result c.grow.new.mem) room c.grow.ensures
