use Rattle.std.proofs.Common.{◌+◌, refl, drop, take}
use Rattle.lw_base.proofs.Pieces.{next_piece}
use Rattle.lw_base.proofs.memory.MemSourceSource.read.Goals as goal

pub returns-clause-next : goal.returns-clause-next
returns-clause-next c =
    let bytes = c.args.self.now.bytes.items in
    let read = c.args.self.now.read in
    let count = c.copy_front-count.result in
    let front = take count c.copy_front-count.new.into in
    (drop (read + count) bytes, refl, next_piece count read bytes c.deref-2.result.now front c.deref-2.ensures.value c.copy_front-count.ensures.front)
