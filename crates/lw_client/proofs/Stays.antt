-- A client that lists no op stays sound where its parts do.
use Rattle.std.proofs.Common.{◌≡◌, ℕ, ◌+◌, ◌<◌, ◌≤◌, Bool, false, List, length, Option, refl, ◌∙◌}
use Rattle.std.specs.Prelude.{slice_index_or}
use Rattle.lw_model.specs.declared.record.Called.{Called}
use Rattle.lw_model.specs.declared.record.Reply.{Reply}
use Rattle.lw_model.specs.declared.record.Seen.{Seen}
use Rattle.lw_model.specs.Threads.{op_at}
use Rattle.lw_pool.specs.declared.class.Class.{Class}
use Rattle.lw_pool.specs.PoolEnds.{PoolEnd, taken_of, given_of}
use Rattle.lw_channel.specs.Channels.{Channels}
use Rattle.lw_mail.specs.Runs.{Run}
use Rattle.lw_mail.specs.declared.mail.Mail.{Mail}
use Rattle.lw_client.specs.declared.client.Client.{Client}
use Rattle.lw_client.specs.declared.client.Waits.{Waits}
use Rattle.lw_client.specs.declared.client.Use.{Use}
use Rattle.lw_client.specs.Clients.{IsSound, SetFits, WaitsFor, StageFits, on_image, any_op, lends, weigh, use_of, no_use}

module _ (r : Run) (b : Client) (h : IsSound r b) where
  pub stays_on : (o : Option Channels) (us : List Use) (marks : List Bool) (q : ℕ) (p : PoolEnd) (w : Waits) (cs : List Called) (rs : List Reply) (ss : List Seen) (ks : List Mail)
      → p.pool ≡ r.pool → p.number ≡ b.thread → length us ≡ length b.uses → length marks ≡ length b.unanswered
      → SetFits r b.thread (length b.did) b.stage w us o
      → ((k : ℕ) → b.next ≤ k → slice_index_or marks k false ≡ false)
      → ((d : ℕ) → d < length r.script.images → (slice_index_or us d no_use).requests ≡ weigh (on_image r.script b.thread d) marks)
      → q ≡ weigh any_op marks
      → ((class : Class) → taken_of class p ≡ given_of class p + weigh (λ k. lends r.script class (op_at r.script b.thread k)) marks)
      → WaitsFor r.script b.thread b.next w
      → StageFits r.script b.thread b.next q w b.stage
      → IsSound r (record b { set = o; uses = us; unanswered = marks; requests = q; pool = p; waits = w; called = cs; replies = rs; seen = ss; kept = ks })
  stays_on o us marks q p w cs rs ss ks pool pass uses size fits unasked requests all lent awaits stage = record {
    of_run = h.of_run;
    pool = pool;
    pass = pass;
    uses = uses ∙ h.uses;
    marks = size ∙ h.marks;
    within = h.within;
    lines = h.lines;
    set = fits;
    unasked = unasked;
    requests = requests;
    in_all = all;
    lent = lent;
    awaits = awaits;
    stage = stage;
  }

  -- what is kept of devices changes, but not how many requests are unanswered
  pub devices_on : (o : Option Channels) (us : List Use) (cs : List Called) → length us ≡ length b.uses → SetFits r b.thread (length b.did) b.stage b.waits us o
      → ((d : ℕ) → (slice_index_or us d no_use).requests ≡ (use_of b d).requests) → IsSound r (record b { set = o; uses = us; called = cs })
  unfolding stays_on
  devices_on o us cs size fits same = stays_on o us b.unanswered b.requests b.pool b.waits cs b.replies b.seen b.kept h.pool h.pass size refl fits h.unasked (λ d l. same d ∙ h.requests d l) h.in_all h.lent h.awaits h.stage
