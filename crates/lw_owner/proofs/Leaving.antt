-- An owner that may end leaves the log of a thread that ended.
use Rattle.std.proofs.Common.{◌≡◌, ℕ, ◌==◌, nat_lt, true, List, [], ◌∷◌, map, length, refl, sym, ap, subst, ◌∙◌, arith}
use Rattle.std.specs.List.{AllByRecursion}
use Rattle.std.proofs.lemmas.Bool.{and_parts, eqb-true, lt-ltb}
use Rattle.std.proofs.lemmas.List.{append-nil, length-map}
use Rattle.lw_base.specs.declared.moves.Hop.{Hop}
use Rattle.lw_latch.specs.DeviceEnds.{new_seat}
use Rattle.lw_model.specs.declared.script.Script.{Script}
use Rattle.lw_model.specs.Sent.{to_thread}
use Rattle.lw_thread.specs.Acts.{Known}
use Rattle.lw_whole.specs.Letters.{Letter, Note}
use Rattle.lw_whole.specs.Notes.{idle}
use Rattle.lw_whole.specs.Owners.{owner_log, all_served}
use Rattle.lw_whole.proofs.OwnerLogs.{sends_flat}
use Rattle.lw_whole.proofs.OwnerEnds.{owner_ended}
use Rattle.lw_whole.proofs.Unsent.{all_made}
use Rattle.lw_mail.specs.Runs.{Run}
use Rattle.lw_mail.specs.Saying.{notes_of}
use Rattle.lw_mail.specs.declared.mail.Mail.{Mail}
use Rattle.lw_owner.specs.declared.owner.Owner.{Owner}
use Rattle.lw_owner.specs.Keeping.{Keeps, HasLog, may_end}
use Rattle.lw_owner.specs.Leaving.{LeavesLog}
use Rattle.lw_owner.proofs.Unused.{row_unused}

none_kept : (b : Owner) → may_end b ≡ true → b.kept ≡ []
none_kept b e = empty b.kept (eqb-true (length b.kept) 0 (and_parts b.ended (length b.kept == 0) e).1)
  where
    empty : (ms : List Mail) → length ms ≡ 0 → ms ≡ []
    empty [] e = refl
    empty (m ∷ ms) e = absurd (omega (arith, e))

module _ (k : Known Letter Run) (live : ℕ → ℕ) (b : Owner) (home : ℕ) (hops : List Hop) (h : Keeps k (record { live = live; pending = [] }) b) (e : may_end b ≡ true) where
  script : Script
  script = h.run.script

  log_of : HasLog h.run.script k (record { live = live; pending = [] }) b
  log_of = h.log (none_kept b e)

  abbrev notes : List Note
  notes = notes_of b.set.row.seats

  unused : AllByRecursion (λ n. n ≡ idle) notes
  unused = subst (λ x. AllByRecursion (λ n. n ≡ idle) (notes_of x.row.seats)) (sym h.owner.set) (row_unused h.run.registry b.thread)

  as_many : length notes ≡ length h.run.script.images
  as_many = ap (λ x. length (notes_of x.row.seats)) h.owner.set ∙ length-map (map (λ l. new_seat l b.thread) h.run.registry) _ ∙ length-map h.run.registry (λ l. new_seat l b.thread) ∙ h.owner.devices

  is_an_owner : nat_lt (length h.run.script.clients) k.thread ≡ true
  is_an_owner = lt-ltb (length h.run.script.clients) k.thread (omega (arith, h.number, h.owner.thread))

  pub leaves_log : LeavesLog h.run.script k b home hops
  leaves_log =
      let l = log_of in
      record {
        log = owner_log home hops l.runs l.sends notes;
        began = refl;
        moved = refl;
        ran = sym l.ran;
        sent = λ t within. all_made k.thread k.sent (all_served l.sends) l.sent t within ∙ ap (to_thread t) (sym (append-nil _ ∙ sends_flat l.sends));
        row = refl;
        role = record { role = is_an_owner; replies = λ f. refl; seen = λ f. refl };
        ended = owner_ended h.run.script k.thread h.owner.device home hops l.runs l.sends notes (h.number ∙ h.owner.thread) l.served unused as_many;
      }
