-- A client that does its next op stays sound.
use Rattle.std.proofs.Common.{◌≡◌, ◌≢◌, ℕ, ◌+◌, ◌<◌, ◌≤◌, Bool, false, List, length, Option, refl, sym, subst, ◌∙◌, arith}
use Rattle.std.specs.Prelude.{slice_index_or}
use Rattle.std.proofs.lemmas.List.{length_push}
use Rattle.lw_latch.specs.DeviceEnds.{SeatEnd}
use Rattle.lw_model.specs.declared.record.Answer.{Answer}
use Rattle.lw_model.specs.Threads.{op_at, ops_of}
use Rattle.lw_pool.specs.declared.class.Class.{Class}
use Rattle.lw_pool.specs.PoolEnds.{PoolEnd, taken_of, given_of}
use Rattle.lw_device.specs.Rows.{latches, no_seat}
use Rattle.lw_channel.specs.declared.channel.Channel.{Channel}
use Rattle.lw_channel.specs.Channels.{Channels, no_channel}
use Rattle.lw_mail.specs.Runs.{Run}
use Rattle.lw_client.specs.declared.client.Client.{Client}
use Rattle.lw_client.specs.declared.client.Stage.{Stage}
use Rattle.lw_client.specs.declared.client.Stage.TheVariants.{Runs}
use Rattle.lw_client.specs.declared.client.Waits.{Waits}
use Rattle.lw_client.specs.declared.client.Use.{Use}
use Rattle.lw_client.specs.Clients.{IsSound, HasSet, SetFits, KeepsDevice, WaitsFor, StageFits, on_image, any_op, lends, weigh, use_of, no_use, visits}
use Rattle.lw_client.specs.Doing.{listed}
use Rattle.lw_client.proofs.Lists.{Reads}
use Rattle.lw_client.proofs.Devices.{each_but, each_longer}

-- a set of which one device changes
pub set_on : (r : Run) (thread lines more : ℕ) (stage : Stage) (w w2 : Waits) (us us2 : List Use) (x y : Channels) (d : ℕ) (k : Channel) (e : SeatEnd) (u : Use)
    → HasSet r thread lines stage w us x → latches y.row ≡ latches x.row → length y.channels ≡ length x.channels
    → Reads no_channel d x.channels y.channels k → Reads no_seat d x.row.seats y.row.seats e → Reads no_use d us us2 u
    → ((i : ℕ) → i ≢ d → visits w2 i ≡ visits w i) → lines ≤ more → (d < length r.script.images → KeepsDevice thread more (visits w2 d) k e u)
    → HasSet r thread more stage w2 us2 y
set_on r thread lines more stage w w2 us us2 x y d k e u h row count rk re ru same le one = record {
  not_done = h.not_done;
  registry = row ∙ h.registry;
  devices = count ∙ h.devices;
  each = each_but (length r.script.images) thread lines more (visits w) (visits w2) d x.channels y.channels x.row.seats y.row.seats us us2 k e u rk re ru same le h.each one;
}

-- a set that stays, while lines may be listed
pub set_longer : (r : Run) (thread lines more : ℕ) (stage : Stage) (w w2 : Waits) (us : List Use) (x : Channels) → ((i : ℕ) → visits w2 i ≡ visits w i) → lines ≤ more → HasSet r thread lines stage w us x → HasSet r thread more stage w2 us x
set_longer r thread lines more stage w w2 us x same le h = record {
  not_done = h.not_done;
  registry = h.registry;
  devices = h.devices;
  each = each_longer (length r.script.images) thread lines more (visits w) (visits w2) x.channels x.row.seats us same le h.each;
}

module _ (r : Run) (b : Client) (h : IsSound r b) (below : b.next < length (ops_of r.script b.thread)) (runs : b.stage ≡ Runs) where
  -- the line is one more, whatever it says; the rest is given
  pub listed_on : (at : ℕ) (a : Answer) (o : Option Channels) (us : List Use) (marks : List Bool) (q : ℕ) (p : PoolEnd) (w : Waits)
      → p.pool ≡ r.pool → p.number ≡ b.thread → length us ≡ length r.script.images → length marks ≡ length b.unanswered
      → SetFits r b.thread (length b.did + 1) b.stage w us o
      → ((k : ℕ) → b.next + 1 ≤ k → slice_index_or marks k false ≡ false)
      → ((d : ℕ) → d < length r.script.images → (slice_index_or us d no_use).requests ≡ weigh (on_image r.script b.thread d) marks)
      → q ≡ weigh any_op marks
      → ((class : Class) → taken_of class p ≡ given_of class p + weigh (λ k. lends r.script class (op_at r.script b.thread k)) marks)
      → WaitsFor r.script b.thread (b.next + 1) w
      → IsSound r (listed at a (record b { set = o; uses = us; unanswered = marks; requests = q; pool = p; waits = w }))
  listed_on at a o us marks q p w pool pass uses size fits unasked requests all lent awaits =
      let longer = length_push b.did (record { at = at; op = b.next; answer = a }) in
      let lines = h.lines in
      record {
        of_run = h.of_run;
        pool = pool;
        pass = pass;
        uses = uses;
        marks = size ∙ h.marks;
        within = omega (arith, below);
        lines = omega (arith, longer, lines);
        set = subst (λ n. SetFits r b.thread n b.stage w us o) (sym longer) fits;
        unasked = unasked;
        requests = requests;
        in_all = all;
        lent = lent;
        awaits = awaits;
        stage = subst (StageFits r.script b.thread (b.next + 1) q w) (sym runs) tt;
      }

  -- no request goes out
  pub listed_plain : (at : ℕ) (a : Answer) (o : Option Channels) (us : List Use) (w : Waits) → length us ≡ length r.script.images
      → SetFits r b.thread (length b.did + 1) b.stage w us o
      → ((d : ℕ) → (slice_index_or us d no_use).requests ≡ (use_of b d).requests)
      → WaitsFor r.script b.thread (b.next + 1) w
      → IsSound r (listed at a (record b { set = o; uses = us; waits = w }))
  unfolding listed_on
  listed_plain at a o us w uses fits same awaits = listed_on at a o us b.unanswered b.requests b.pool w h.pool h.pass uses refl fits
      (λ k le. h.unasked k (omega (arith, le)))
      (λ d within. same d ∙ h.requests d within)
      h.in_all
      h.lent
      awaits
