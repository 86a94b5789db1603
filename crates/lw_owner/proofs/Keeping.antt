-- An owner that keeps one message more.
use Rattle.std.proofs.Common.{◌≡◌, ◌≤◌, List, [], ◌∷◌, ◌++◌, length, sym, ap, subst, ◌∙◌, arith}
use Rattle.lw_image.specs.Image.{IsAfter}
use Rattle.lw_thread.specs.Acts.{Known, Asks}
use Rattle.lw_whole.specs.Letters.{Letter}
use Rattle.lw_mail.specs.Runs.{Run}
use Rattle.lw_mail.specs.declared.mail.Mail.{Mail}
use Rattle.lw_owner.specs.declared.owner.Owner.{Owner}
use Rattle.lw_owner.specs.Serving.{IsOwnerOf}
use Rattle.lw_owner.specs.Keeping.{Keeps}

-- whatever it is to send then, and where its thread has run no less
pub keeps_one_more : (k : Known Letter Run) (ran : List Letter) (a a2 : Asks Letter) (m : Mail) (b b2 : Owner) → Keeps k a b → length k.ran ≤ length ran → b2 ≡ record b { kept = b.kept ++ m ∷ [] } → Keeps (record k { ran = ran }) a2 b2
keeps_one_more k ran a a2 m b b2 h more e = record {
  run = h.run;
  family = h.family;
  owner = subst (IsOwnerOf h.run) (sym e) (record { script = h.owner.script; device = h.owner.device; is_image = h.owner.is_image; thread = h.owner.thread; block = h.owner.block; blocks = h.owner.blocks; devices = h.owner.devices; set = h.owner.set });
  number = h.number ∙ sym (ap (λ (x : Owner). x.thread) e);
  threads = h.threads;
  made = (h.made.0, subst (λ (x : Owner). IsAfter x.image h.made.0) (sym e) h.made.1);
  few_writes = omega (arith, ap (λ (x : Owner). x.image.writes) e, h.few_writes, more);
  log = λ f. absurd (not_nil b.kept (sym (ap (λ (x : Owner). x.kept) e) ∙ f));
}
  where
    not_nil : (ms : List Mail) → ms ++ m ∷ [] ≡ [] → ⊥
    not_nil [] e = absurd (cc)
    not_nil (x ∷ xs) e = absurd (cc)
