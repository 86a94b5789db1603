use Rattle.std.proofs.Common.{ap, sym, arith, ◌≡◌, length}
use Rattle.lw_image.proofs.Ranges.{range_within_all}
use Rattle.lw_image.proofs.image.Image.first_byte.Goals as goal

pub returns-clause-within : goal.returns-clause-within
returns-clause-within c =
    let blocks : c.self.inside.blocks ≡ c.args.self.now.blocks = ap (λ i. i.blocks) c.self.view_is in
    let bytes : c.self.inside.bytes.items ≡ c.args.self.now.bytes = ap (λ i. i.bytes) c.self.view_is in
    range_within_all c.args.start c.args.count c.self.inside.blocks c.args.self.now.block c.self.inside.block (length c.args.self.now.bytes)
    (omega (arith, c.requires, blocks)) (sym (ap (λ i. i.block) c.self.view_is)) (omega (arith, ap length bytes, c.self.invariant.0))
