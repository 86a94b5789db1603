use Rattle.std.proofs.Common.{ap, sym, ◌∙◌, arith, ◌≡◌, ℕ, ◌*◌, ◌+◌, ◌-◌, ◌≤◌, length}
use Rattle.std.proofs.lemmas.List.{with_items_is}
use Rattle.lw_model.specs.Replay.{byte_after}
use Rattle.lw_image.proofs.Written.{written_all, length-put_mid, length-part, count_of_write}
use Rattle.lw_image.proofs.image.Image.write.Goals as goal

pub returns-clause-after : goal.returns-clause-after
returns-clause-after c = λ device past after.
    let block : c.self.inside.block ≡ c.args.self.now.block = ap (λ i. i.block) c.self.view_is in
    let bytes : c.self.inside.bytes.items ≡ c.args.self.now.bytes = ap (λ i. i.bytes) c.self.view_is in
    let writes : c.self.inside.writes ≡ c.args.self.now.writes = ap (λ i. i.writes) c.self.view_is in
    let was : c.deref_mut.result.now ≡ c.args.self.now.bytes = c.deref_mut.ensures.value ∙ bytes in
    let first : ℕ = c.first_byte-first.result in
    let span : ℕ = first + c.length-length.result - first in
    let same_span : c.args.count * c.self.inside.block ≡ c.args.count * c.args.self.now.block = ap (λ b. c.args.count * b) block in
    let fits : first + span ≤ length c.args.self.now.bytes = omega (arith, c.first_byte-first.ensures.within, c.length-length.ensures) in
    let kept = c.fill_with.auto.range in
    let size : length c.fill_with.new.range ≡ span = kept ∙ length-part c.deref_mut.result.now first span (omega (arith, ap length was)) in
    record {
      bytes = written_all c.self.inside.block c.args.start c.args.count device first span c.args.pattern.now
          c.args.self.now.bytes c.deref_mut.result.now c.fill_with.new.range _ past was
          (with_items_is c.self.inside.bytes _
          (length-put_mid c.deref_mut.result.now c.fill_with.new.range first span (omega (arith, ap length was)) size ∙ c.deref_mut.ensures.len))
          (c.first_byte-first.ensures.first ∙ ap (λ b. c.args.start * b) (sym block)) (omega (arith, c.length-length.ensures, same_span)) fits size c.fill_with.ensures
          (λ x below. after.bytes x below ∙ ap (λ b. byte_after b past x) (sym block));
      writes = omega (arith, writes, after.writes, count_of_write device c.args.start c.args.count c.args.pattern.now past);
    }
