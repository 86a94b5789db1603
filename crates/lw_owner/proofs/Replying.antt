-- The replies to requests.
use Rattle.std.proofs.Common.{◌≡◌, ℕ, List, ◌∷◌, Option, Some, refl, sym, ap, subst, ◌∙◌}
use Rattle.lw_model.specs.declared.script.Op.{Op}
use Rattle.lw_model.specs.declared.script.Op.TheVariants as op
use Rattle.lw_model.specs.declared.record.Replied.TheVariants as replied
use Rattle.lw_model.specs.Replay.{bytes_after}
use Rattle.lw_pool.specs.PoolEnds.{BufferEnd, filled_bytes}
use Rattle.lw_image.specs.Image.{Contents, IsAfter}
use Rattle.lw_mail.specs.declared.mail.Content.TheVariants as content
use Rattle.lw_owner.specs.Serving.{IsReply}

pub written : (old new : Contents) (d start count k : ℕ) (pattern : List ℕ) → ((device : ℕ) (past : List (Option Op)) → IsAfter old past → IsAfter new (Some (op.Write device start count pattern) ∷ past))
    → IsReply old new (op.Write d start count pattern) k (content.Written k)
written old new d start count k pattern after = record { answer = replied.Ok; what = refl; load = refl; answers = λ past h. (refl, after d past h) }

pub flushed : (old new : Contents) (d k writes : ℕ) → writes ≡ old.writes → new ≡ old → IsReply old new (op.Flush d) k (content.Flushed k writes)
flushed old new d k writes e same = record {
  answer = replied.Writes writes;
  what = refl;
  load = refl;
  answers = λ past h. (ap (λ n. Some (replied.Writes n)) (sym (e ∙ h.writes)), subst (λ x. IsAfter x (Some (op.Flush d) ∷ past)) (sym same) (record { bytes = h.bytes; writes = h.writes }));
}

pub filled : (image : Contents) (d start count k : ℕ) (b : BufferEnd) → ((past : List (Option Op)) → IsAfter image past → filled_bytes b ≡ bytes_after image.block past start count)
    → IsReply image image (op.Read d start count) k (content.Filled k b)
filled image d start count k b read = record {
  answer = replied.Bytes (filled_bytes b);
  what = refl;
  load = refl;
  answers = λ past h. (ap (λ bs. Some (replied.Bytes bs)) (sym (read past h)), record { bytes = h.bytes; writes = h.writes });
}
