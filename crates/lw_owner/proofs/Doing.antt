-- What an owner does with a message keeps what it keeps.
use Rattle.std.proofs.Common.{◌≡◌, ℕ, ◌+◌, ◌-◌, ◌==◌, Bool, true, false, not, [], ◌∷◌, ◌++◌, length, Some, refl, sym, ap, ap₂, subst, ◌∙◌, arith}
use Rattle.std.specs.Prelude.{option_and_then}
use Rattle.std.specs.Arc.{arc_value}
use Rattle.std.proofs.lemmas.Bool.{eqb-true, true≢false}
use Rattle.std.proofs.lemmas.List.{length-append}
use Rattle.lw_base.specs.declared.message.What.TheVariants as what
use Rattle.lw_model.specs.ScriptRules.{block_at}
use Rattle.lw_model.specs.Threads.{op_at, owner_of}
use Rattle.lw_model.specs.Replay.{answer_after}
use Rattle.lw_image.specs.Image.{IsAfter}
use Rattle.lw_thread.specs.Acts.{Known, ActsEnd, Doing, and_run, asks_of}
use Rattle.lw_whole.specs.Letters.{Letter, Load}
use Rattle.lw_whole.specs.Sends.{ops_run, answer_in, block_of_owner}
use Rattle.lw_whole.specs.Owners.{steps_run}
use Rattle.lw_mail.specs.Runs.{Run}
use Rattle.lw_mail.specs.Saying.{letter_of}
use Rattle.lw_mail.specs.Fitting.{Fits}
use Rattle.lw_mail.specs.declared.mail.Mail.{Mail}
use Rattle.lw_mail.specs.declared.mail.Content.{Content}
use Rattle.lw_mail.specs.declared.mail.Content.TheVariants as content
use Rattle.lw_passing.specs.Passing.{IsNextVisit, IsNextCast}
use Rattle.lw_owner.specs.declared.owner.Owner.{Owner}
use Rattle.lw_owner.specs.Serving.{IsOwnerOf}
use Rattle.lw_owner.specs.Handling.{Answers, Does, HandlesAs, Handles, KeepsIt, is_strange}
use Rattle.lw_owner.specs.Keeping.{Keeps, HasLog}
use Rattle.lw_owner.proofs.Keeping.{keeps_one_more}
use Rattle.lw_owner.proofs.Logging.{went_on, went_on_quietly, visit_goes, cast_goes}

pub not_false : (b : Bool) → not b ≡ false → b ≡ true
not_false true e = refl
not_false false e = absurd (true≢false e)

-- a request that isn't strange is its sender's own
pub asker : (client sender : ℕ) → not (client == sender) ≡ false → client ≡ sender
asker client sender e = eqb-true client sender (not_false (client == sender) e)

-- the owner of an image of the run stays it, with another image of that size
pub same_owner : (r : Run) (s t : Doing Mail Owner) (client j : ℕ) → IsOwnerOf r s.body → Answers client j s t → IsOwnerOf r t.body
same_owner r s t client j own h = subst (IsOwnerOf r) (sym h.body) (record {
  script = own.script;
  device = own.device;
  is_image = own.is_image;
  thread = own.thread;
  block = h.size.0 ∙ own.block;
  blocks = h.size.1 ∙ own.blocks;
  devices = own.devices;
  set = own.set;
})

module _ (k : Known Letter Run) (s t : Doing Mail Owner) (h : Keeps k (asks_of letter_of s.acts) s.body) where
  longer : (x : Letter) → length (k.ran ++ x ∷ []) ≡ length k.ran + 1
  longer x = length-append k.ran (x ∷ [])

  -- where its kept messages stay, the log goes on
  same_kept : (same : t.body.kept ≡ s.body.kept) → t.body.kept ≡ [] → HasLog h.run.script k (asks_of letter_of s.acts) s.body
  same_kept same e = h.log (sym same ∙ e)

  block_of : block_of_owner h.run.script k.thread ≡ s.body.image.block
  block_of =
      let device : k.thread - owner_of h.run.script 0 ≡ h.owner.device = omega (arith, h.number, h.owner.thread) in
      ap (block_at h.run.script) device ∙ sym h.owner.block

  its_op : (client j : ℕ) (a : Answers client j s t) → op_at h.run.script client j ≡ Some a.of
  its_op client j a = ap (λ x. op_at x client j) (sym h.owner.script) ∙ a.its_op

  -- a request was answered
  abbrev asks : ℕ → ℕ → ℕ → Load → Letter
  asks sender number j load = record { tag = record { sender = sender; number = number; what = what.Request j }; load = load }

  answered_on : (sender number : ℕ) (load : Load) (client j : ℕ) → client ≡ sender → Answers client j s t → Keeps (and_run k (asks sender number j load)) (asks_of letter_of t.acts) t.body
  answered_on sender number load client j from a = record {
    run = h.run;
    family = h.family;
    owner = same_owner h.run s t client j h.owner a;
    number = h.number ∙ sym (ap (λ (b : Owner). b.thread) a.body);
    threads = h.threads;
    made = (Some a.of ∷ h.made.0, (a.is.answers h.made.0 h.made.1).1);
    few_writes = omega (arith, a.writes, h.few_writes, longer (asks sender number j load));
    log = λ e. on (same_kept (ap (λ (b : Owner). b.kept) a.body) e);
  }
    where
      on : HasLog h.run.script k (asks_of letter_of s.acts) s.body → HasLog h.run.script (and_run k (asks sender number j load)) (asks_of letter_of t.acts) t.body
      on l =
          let script = h.run.script in
          let past = ops_run script (steps_run l.runs) in
          let it : op_at script sender j ≡ Some a.of = ap (λ c. op_at script c j) (sym from) ∙ its_op client j a in
          let both = a.is.answers past l.image in
          went_on script k s.acts s.body l (asks sender number j load) client a.reply t.acts t.body a.asked
          (record {
            reply = ap₂ (λ u w. (u, w) ∷ []) from a.is.what;
            answer =
                ap (λ v. answer_in v ∷ []) a.is.load
                ∙ ap (λ o. o ∷ []) (sym both.0)
                ∙ ap (λ n. answer_after n past a.of ∷ []) (sym block_of)
                ∙ ap (λ o. option_and_then (answer_after (block_of_owner script k.thread) past) o ∷ []) (sym it);
          })
          (subst (λ o. IsAfter t.body.image (o ∷ past)) (sym it) both.1)
          (ap (λ (b : Owner). b.ended) a.body ∙ l.ended)

  -- nothing but the acts changed, but that the owner may have ended
  same_but_acts : (x : Letter) (done : Bool) → t.body ≡ record s.body { ended = done } → (HasLog h.run.script k (asks_of letter_of s.acts) s.body → HasLog h.run.script (and_run k x) (asks_of letter_of t.acts) t.body) → Keeps (and_run k x) (asks_of letter_of t.acts) t.body
  same_but_acts x done e go = record {
    run = h.run;
    family = h.family;
    owner = subst (IsOwnerOf h.run) (sym e) (record { script = h.owner.script; device = h.owner.device; is_image = h.owner.is_image; thread = h.owner.thread; block = h.owner.block; blocks = h.owner.blocks; devices = h.owner.devices; set = h.owner.set });
    number = h.number ∙ sym (ap (λ (b : Owner). b.thread) e);
    threads = h.threads;
    made = (h.made.0, subst (λ (b : Owner). IsAfter b.image h.made.0) (sym e) h.made.1);
    few_writes = omega (arith, ap (λ (b : Owner). b.image.writes) e, h.few_writes, longer x);
    log = λ f. go (same_kept (ap (λ (b : Owner). b.kept) e) f);
  }

  -- a message was kept
  kept_on : (m : Mail) → KeepsIt m s t → Keeps (and_run k (letter_of m)) (asks_of letter_of t.acts) t.body
  kept_on m g = keeps_one_more k (k.ran ++ letter_of m ∷ []) (asks_of letter_of s.acts) (asks_of letter_of t.acts) m s.body t.body h (omega (arith, longer (letter_of m))) g.body

  same_body : t.body ≡ s.body → t.body ≡ record s.body { ended = s.body.ended }
  same_body e = e

  -- what is served
  done_on : (sender number : ℕ) (c : Content) → is_strange (arc_value s.body.script) (letter_of (record { sender = sender; number = number; content = c })) ≡ false → Fits s.body.thread h.run c → Does c s t
      → Keeps (and_run k (letter_of (record { sender = sender; number = number; content = c }))) (asks_of letter_of t.acts) t.body
  done_on sender number (content.Request client j) strange f g = answered_on sender number _ client j (asker client sender strange) g.answers
  done_on sender number (content.Read client j b) strange f g = answered_on sender number _ client j (asker client sender strange) g.answers
  done_on sender number (content.Visit token) strange f g = same_but_acts _ s.body.ended (same_body g.1) on
    where
      on : HasLog h.run.script k (asks_of letter_of s.acts) s.body → HasLog h.run.script (and_run k (letter_of (record { sender = sender; number = number; content = content.Visit token }))) (asks_of letter_of t.acts) t.body
      on l = went_on h.run.script k s.acts s.body l _ g.0.to g.0.content t.acts t.body g.0.asked
          (visit_goes h.run.script k.thread l.runs token.value g.0.to _ g.0.content f.0.threads (subst (λ n. IsNextVisit n [] token.value g.0.to g.0.content) (sym h.number) g.0.next))
          (subst (λ (b : Owner). IsAfter b.image (ops_run h.run.script (steps_run l.runs))) (sym g.1) l.image)
          (ap (λ (b : Owner). b.ended) g.1 ∙ l.ended)
  done_on sender number (content.Cast token) strange f g = same_but_acts _ s.body.ended (same_body g.1) on
    where
      on : HasLog h.run.script k (asks_of letter_of s.acts) s.body → HasLog h.run.script (and_run k (letter_of (record { sender = sender; number = number; content = content.Cast token }))) (asks_of letter_of t.acts) t.body
      on l = went_on h.run.script k s.acts s.body l _ g.0.to g.0.content t.acts t.body g.0.asked
          (cast_goes h.run.script k.thread l.runs token.value g.0.to _ g.0.content f.0.threads (subst (λ n. IsNextCast n (n ∷ []) token.value g.0.to g.0.content) (sym h.number) g.0.next))
          (subst (λ (b : Owner). IsAfter b.image (ops_run h.run.script (steps_run l.runs))) (sym g.1) l.image)
          (ap (λ (b : Owner). b.ended) g.1 ∙ l.ended)
  done_on sender number content.Stop strange f g = same_but_acts _ true g.0 on
    where
      on : HasLog h.run.script k (asks_of letter_of s.acts) s.body → HasLog h.run.script (and_run k (letter_of (record { sender = sender; number = number; content = content.Stop }))) (asks_of letter_of t.acts) t.body
      on l = went_on_quietly h.run.script k s.acts s.body l _ t.acts t.body (ap (λ (a : ActsEnd Mail). a.pending) g.1) refl
          (subst (λ (b : Owner). IsAfter b.image (ops_run h.run.script (steps_run l.runs))) (sym g.0) l.image)
          (ap (λ (b : Owner). b.ended) g.0)
  done_on sender number (content.Written j) strange f g = absurd g
  done_on sender number (content.Filled j b) strange f g = absurd g
  done_on sender number (content.Flushed j n) strange f g = absurd g
  done_on sender number (content.PutSelf d) strange f g = absurd g
  done_on sender number (content.Visited token) strange f g = absurd g
  done_on sender number (content.Casted token) strange f g = absurd g
  done_on sender number (content.Done set) strange f g = absurd g

  pub keeps_handled : (m : Mail) → Fits s.body.thread h.run m.content → Handles m s t → Keeps (and_run k (letter_of m)) (asks_of letter_of t.acts) t.body
  keeps_handled m f g = at (is_strange (arc_value s.body.script) (letter_of m)) refl g
    where
      at : (b : Bool) → is_strange (arc_value s.body.script) (letter_of m) ≡ b → HandlesAs b m s t → Keeps (and_run k (letter_of m)) (asks_of letter_of t.acts) t.body
      at true e g = kept_on m g
      at false e g = done_on m.sender m.number m.content e f g
