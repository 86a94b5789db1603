use Rattle.std.proofs.Common.{ap, ◌∙◌, arith, ◌≡◌, ◌*◌, ◌+◌, length}
use Rattle.std.specs.List.{between, range_with_len}
use Rattle.std.specs.Prelude.{map}
use Rattle.lw_model.specs.Replay.{byte_after}
use Rattle.lw_image.proofs.Written.{between_told}
use Rattle.lw_image.proofs.image.Image.copy_to.Goals as goal

pub returns : goal.returns
returns c = λ past after.
    let bytes : c.deref.result.now ≡ c.args.self.now.bytes = c.deref.ensures.value ∙ ap (λ i. i.bytes) c.self.view_is in
    let first = c.first_byte-first.ensures.first in
    let size : length c.args.into.now ≡ c.args.count * c.args.self.now.block = c.requires.fits in
    let read = between_told c.args.self.now.bytes (byte_after c.args.self.now.block past) c.first_byte-first.result (length c.args.into.now)
    (omega (arith, c.first_byte-first.ensures.within)) after.bytes in
    c.copy_from_slice.ensures.after
    ∙ ap (λ l. between c.first_byte-first.result (c.first_byte-first.result + length c.args.into.now) l) bytes
    ∙ read
    ∙ ap (λ a. map (byte_after c.args.self.now.block past) (range_with_len a (length c.args.into.now))) first
    ∙ ap (λ n. map (byte_after c.args.self.now.block past) (range_with_len (c.args.start * c.args.self.now.block) n)) size
