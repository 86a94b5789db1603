-- An owner that has run nothing.
use Rattle.std.proofs.Common.{◌≡◌, false, [], length, All, Some, arith}
use Rattle.lw_model.specs.Threads.{thread_count}
use Rattle.lw_image.specs.Image.{IsAfter}
use Rattle.lw_thread.specs.Acts.{Known, no_asks}
use Rattle.lw_whole.specs.Letters.{Letter}
use Rattle.lw_whole.proofs.Unsent.{none_asked}
use Rattle.lw_mail.specs.Runs.{Run}
use Rattle.lw_owner.specs.declared.owner.Owner.{Owner}
use Rattle.lw_owner.specs.Serving.{IsOwnerOf}
use Rattle.lw_owner.specs.Keeping.{Keeps}

pub keeps_new : (run : Run) (k : Known Letter Run) (b : Owner) → IsOwnerOf run b → IsAfter b.image [] → b.ended ≡ false → k.family ≡ Some run → k.thread ≡ b.thread → k.ran ≡ [] → length k.sent ≡ thread_count run.script → All (λ ls. ls ≡ []) k.sent
    → Keeps k no_asks b
keeps_new run k b own zeros not_ended family number ran threads none = record {
  run = run;
  family = family;
  owner = own;
  number = number;
  threads = threads;
  made = ([], zeros);
  few_writes = omega (arith, zeros.writes);
  log = λ e. record { runs = []; sends = []; ran = ran; served = tt; sent = none_asked k.thread k.sent none; image = zeros; ended = not_ended };
}
