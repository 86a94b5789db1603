-- What is left of a thread that may end, once its ring is closed and its place is ended, is at rest.
use Rattle.std.proofs.Common.{◌≡◌, ◌<◌, length, List, [], ◌++◌, map, false, sym, ap, subst, ◌∙◌}
use Rattle.std.specs.Prelude.{Bool}
use Rattle.std.proofs.lemmas.List.{append-nil}
use Rattle.lw_base.specs.declared.message.Tag.{Tag}
use Rattle.lw_ring.specs.Ends.{Sender, Receiver}
use Rattle.lw_thread.specs.Acts.{Known, Asks, asks_of, no_asks, letters}
use Rattle.lw_thread.specs.Runs.{IsRow}
use Rattle.lw_thread.specs.Threads.{Thread, AreAscending, WasRun, IsKept, known, known_of}
use Rattle.lw_thread.specs.Rest.{Left, IsAtRest}
use Rattle.lw_thread.specs.Endings.{MayEnd, IsEnded}
use Rattle.lw_thread.proofs.Live.{none_live}

-- where nothing is left of the batch, the log is that of all that was taken
pub log_whole : {L : Type 0} (tag_of : L → Tag) (taken : List L) (ran : List Tag) (left : List L) → left ≡ [] → WasRun tag_of taken ran left → ran ≡ map tag_of taken
log_whole tag_of taken ran left none h = h.tags ∙ ap (map tag_of) (sym (h.parts ∙ ap (λ l. h.run ++ l) none ∙ append-nil h.run))

module _ {L F M B : Type 0} where
  -- where no poller is live and nothing is pending, nothing is under way
  pub nothing_asked : (letter : M → L) (t : Thread L F M B) (ends : B → Bool) → MayEnd ends t → t.acts.pending ≡ [] → asks_of letter t.acts ≡ no_asks
  nothing_asked letter t ends may none = λ i. record { live = none_live t.acts.pollers may.no_poller i; pending = letters letter (none i) }

  pub at_rest : (letter : M → L) (tag_of : L → Tag) (lawful : Known L F → Asks L → B → Type 0) (ends : B → Bool) (t : Thread L F M B) (r : Left L F B)
      → IsKept letter tag_of lawful t → t.stopped ≡ false → IsEnded ends t r → IsAtRest tag_of lawful ends r
  at_rest letter tag_of lawful ends t r kept going e =
      let p = kept.parts in
      let l = kept.going going in
      let thread = ap (λ s. s.thread) e.seat in
      let family = ap (λ (x : Receiver L F). x.family) e.recv in
      let taken = ap (λ (x : Receiver L F). x.taken) e.recv in
      let is : known t ≡ known_of r.seat.thread r.recv r.ends = λ i. record { thread = sym thread i; family = sym family i; ran = sym taken i; sent = map (λ (x : Sender L F). x.sent) (sym e.same_ends i) } in
      record {
        closed = ap (λ (x : Receiver L F). x.closed) e.recv;
        place = ap (λ s. s.place) e.seat;
        row = subst (λ (x : List (Sender L F)). IsRow r.recv.family r.seat.thread x) (sym e.same_ends)
            (subst (λ f. IsRow f r.seat.thread t.ends) (sym family) (subst (λ n. IsRow t.recv.family n t.ends) (sym thread) p.ends.row));
        number = ap (λ (x : Receiver L F). x.number) e.recv ∙ p.ends.number ∙ sym thread;
        senders = ap (λ (x : Receiver L F). x.senders) e.recv ∙ p.ends.senders ∙ ap length (sym e.same_ends);
        own = subst (λ n. n < length r.ends) (sym thread) (subst (λ (x : List (Sender L F)). t.seat.thread < length x) (sym e.same_ends) p.ends.own);
        load = ap (λ x. x.thread) e.load ∙ p.load ∙ sym thread;
        trail = subst AreAscending (sym e.trail) p.trail;
        ran = e.ran ∙ log_whole tag_of t.recv.taken t.ran t.left l.all_run p.taken ∙ ap (map tag_of) (sym taken);
        keeps = subst (λ (k : Known L F). lawful k no_asks r.body) is
            (subst (λ (b : B). lawful (known t) no_asks b) (sym e.body) (subst (λ (a : Asks L). lawful (known t) a t.body) (nothing_asked letter t ends e.may l.none_pending) l.keeps));
        may_end = ap ends e.body ∙ e.may.body;
      }
