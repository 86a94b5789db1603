-- What is kept of a device through each change of it.
use Rattle.std.proofs.Common.{◌≡◌, ℕ, ◌+◌, ◌-◌, ◌≤◌, Bool, true, false, Option, Some, None, refl, ap, arith}
use Rattle.lw_latch.specs.DeviceEnds.{SeatEnd}
use Rattle.lw_device.specs.Rows.{seat_given, seat_usable, seat_found, seat_began, seat_visiting, seat_not_visiting, seat_fired, seat_tried, seat_destroyed}
use Rattle.lw_channel.specs.declared.channel.Channel.{Channel}
use Rattle.lw_channel.specs.Channels.{channel_made, channel_shared, channel_refused, channel_counted, channel_deferred, channel_given_back, channel_kept, channel_destroyed, channel_submitted, seat_refused}
use Rattle.lw_client.specs.declared.client.Use.{Use}
use Rattle.lw_client.specs.Clients.{KeepsDevice, Owes}
use Rattle.lw_client.specs.Doing.{use_asked, use_answered, use_deferred, use_put, use_owing, use_called}

module _ (thread lines : ℕ) (v : Bool) (k : Channel) (e : SeatEnd) (u : Use) (h : KeepsDevice thread lines v k e u) where
  pub made : (n : ℕ) → KeepsDevice thread (lines + 1) v (channel_made n k) (seat_given n e) u
  made n = record { alone = h.alone; number = h.number; visit = h.visit; owes = h.owes; puts = h.puts; balance = omega (arith, h.balance); few_gets = omega (arith, h.few_gets); few_requests = omega arith; referenced = λ one. omega arith }

  pub shared : KeepsDevice thread (lines + 1) v (channel_shared k) (seat_usable e) u
  shared = record { alone = h.alone; number = h.number; visit = h.visit; owes = h.owes; puts = h.puts; balance = omega (arith, h.balance); few_gets = omega (arith, h.few_gets); few_requests = omega (arith, h.few_requests); referenced = λ one. omega arith }

  pub refused : (o : Option ℕ) → KeepsDevice thread (lines + 1) v (channel_refused k) (seat_refused o e) u
  refused None = record { alone = h.alone; number = h.number; visit = h.visit; owes = h.owes; puts = h.puts; balance = omega (arith, h.balance); few_gets = omega (arith, h.few_gets); few_requests = omega (arith, h.few_requests); referenced = h.referenced }
  refused (Some n) = record { alone = h.alone; number = h.number; visit = h.visit; owes = h.owes; puts = h.puts; balance = omega (arith, h.balance); few_gets = omega (arith, h.few_gets); few_requests = omega (arith, h.few_requests); referenced = h.referenced }

  pub counted : 2 ≤ k.references → KeepsDevice thread (lines + 1) v (channel_counted k) e u
  counted two = record { alone = h.alone; number = h.number; visit = h.visit; owes = h.owes; puts = h.puts; balance = omega (arith, two, h.balance); few_gets = omega (arith, h.few_gets); few_requests = omega (arith, h.few_requests); referenced = λ one. omega (arith, two) }

  pub deferred : k.references ≡ 1 → u.requests ≡ 0 → KeepsDevice thread (lines + 1) v (channel_deferred k) e (use_deferred u)
  deferred last none = record { alone = h.alone; number = h.number; visit = h.visit; owes = h.owes; puts = ap (λ n. n + 1) h.puts; balance = omega (arith, last, h.balance); few_gets = omega (arith, h.few_gets); few_requests = omega (arith, h.few_requests); referenced = λ one. absurd (omega (arith, none, one)) }

  pub found : (more : ℕ) → lines ≤ more → KeepsDevice thread more v k (seat_found e) u
  found more l = record { alone = h.alone; number = h.number; visit = h.visit; owes = h.owes; puts = h.puts; balance = h.balance; few_gets = omega (arith, l, h.few_gets); few_requests = omega (arith, l, h.few_requests); referenced = h.referenced }

  pub begun : (given opens : ℕ) → KeepsDevice thread (lines + 1) v k (seat_began given opens e) (use_owing u)
  begun given opens = record { alone = h.alone; number = h.number; visit = h.visit; owes = (refl, refl); puts = h.puts; balance = omega (arith, h.balance); few_gets = omega (arith, h.few_gets); few_requests = omega (arith, h.few_requests); referenced = h.referenced }

  pub submitted : 1 ≤ k.references → KeepsDevice thread (lines + 1) v (channel_submitted k) e (use_asked u)
  submitted some = record { alone = h.alone; number = h.number; visit = h.visit; owes = h.owes; puts = h.puts; balance = omega (arith, h.balance); few_gets = omega (arith, h.few_gets); few_requests = omega (arith, h.few_requests); referenced = λ one. some }

  pub visiting : KeepsDevice thread (lines + 1) true k (seat_visiting e) u
  visiting = record { alone = h.alone; number = h.number; visit = refl; owes = h.owes; puts = h.puts; balance = omega (arith, h.balance); few_gets = omega (arith, h.few_gets); few_requests = omega (arith, h.few_requests); referenced = h.referenced }

  pub not_visiting : KeepsDevice thread lines false k (seat_not_visiting e) u
  not_visiting = record { alone = h.alone; number = h.number; visit = refl; owes = h.owes; puts = h.puts; balance = h.balance; few_gets = h.few_gets; few_requests = h.few_requests; referenced = h.referenced }

  pub fired : Owes true e → KeepsDevice thread lines v k (seat_fired e) (use_called u)
  fired o = record { alone = h.alone; number = h.number; visit = h.visit; owes = omega (arith, o.0); puts = h.puts; balance = h.balance; few_gets = h.few_gets; few_requests = h.few_requests; referenced = h.referenced }

  pub tried : (seen : ℕ) → KeepsDevice thread lines v k (seat_tried seen e) u
  tried seen = record { alone = h.alone; number = h.number; visit = h.visit; owes = h.owes; puts = h.puts; balance = h.balance; few_gets = h.few_gets; few_requests = h.few_requests; referenced = h.referenced }

  -- behind the close no request is unanswered
  pub given_back : u.requests ≡ 0 → 1 ≤ k.references → KeepsDevice thread lines v (channel_given_back k) e (use_deferred u)
  given_back none some = record { alone = h.alone; number = h.number; visit = h.visit; owes = h.owes; puts = ap (λ n. n + 1) h.puts; balance = omega (arith, some, h.balance); few_gets = h.few_gets; few_requests = h.few_requests; referenced = λ one. absurd (omega (arith, none, one)) }

  pub answered : KeepsDevice thread lines v k e (use_answered u)
  answered = record { alone = h.alone; number = h.number; visit = h.visit; owes = h.owes; puts = h.puts; balance = h.balance; few_gets = h.few_gets; few_requests = h.few_requests; referenced = λ one. h.referenced (omega (arith, one)) }

  -- a PutSelf runs
  pub put_kept : KeepsDevice thread lines v (channel_kept k) e (use_put u)
  put_kept = record { alone = h.alone; number = h.number; visit = h.visit; owes = h.owes; puts = ap (λ n. n - 1) h.puts; balance = omega (arith, h.balance); few_gets = h.few_gets; few_requests = h.few_requests; referenced = h.referenced }

  pub put_destroyed : KeepsDevice thread lines v (channel_destroyed k) (seat_destroyed e) (use_put u)
  put_destroyed = record { alone = h.alone; number = h.number; visit = h.visit; owes = h.owes; puts = ap (λ n. n - 1) h.puts; balance = omega (arith, h.balance); few_gets = h.few_gets; few_requests = h.few_requests; referenced = h.referenced }
