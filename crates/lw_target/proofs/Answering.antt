-- A write's answer is that of any request with its operands.
use Rattle.std.proofs.Common.{◌≡◌, ℕ, List, ◌∷◌, Option, Some, refl}
use Rattle.lw_model.specs.declared.script.Op.{Op}
use Rattle.lw_model.specs.declared.script.Op.TheVariants as op
use Rattle.lw_model.specs.declared.record.Replied.TheVariants as replied
use Rattle.lw_image.specs.Image.{Contents, IsAfter}
use Rattle.lw_target.specs.declared.mail.Load.TheVariants as load
use Rattle.lw_target.specs.Owner.{AnswersAs}

pub write_answers : (old new : Contents) (start count : ℕ) (pattern : List ℕ)
    → ((d : ℕ) (past : List (Option Op)) → IsAfter old past → IsAfter new (Some (op.Write d start count pattern) ∷ past))
    → AnswersAs old new (load.Write start count pattern) replied.Ok
write_answers old new start count pattern written (op.Write d s c p) past e after =
    let same_start : s ≡ start = cc in
    let same_count : c ≡ count = cc in
    let same_pattern : p ≡ pattern = cc in
    (refl, rw (same_start, same_count, same_pattern) (written d past after))
write_answers old new start count pattern written (op.Read d s c) past e after = absurd (cc)
write_answers old new start count pattern written (op.Get d) past e after = absurd (cc)
write_answers old new start count pattern written (op.Put d) past e after = absurd (cc)
write_answers old new start count pattern written (op.Flush d) past e after = absurd (cc)
write_answers old new start count pattern written (op.Wait d) past e after = absurd (cc)
write_answers old new start count pattern written (op.Visit d) past e after = absurd (cc)
write_answers old new start count pattern written op.Each past e after = absurd (cc)
write_answers old new start count pattern written (op.Unregister d) past e after = absurd (cc)
