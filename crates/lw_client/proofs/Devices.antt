-- What a client keeps of its devices, where one of them changes.
use Rattle.std.proofs.Common.{◌≡◌, ◌≢◌, ℕ, ◌<◌, ◌≤◌, Bool, List, length, get_or, sym, ap, subst, ◌∙◌, arith}
use Rattle.std.proofs.lemmas.List.{length-map}
use Rattle.lw_latch.specs.DeviceEnds.{DeviceLatch, SeatEnd}
use Rattle.lw_device.specs.Rows.{Row, no_seat, latches}
use Rattle.lw_channel.specs.declared.channel.Channel.{Channel}
use Rattle.lw_channel.specs.Channels.{no_channel}
use Rattle.lw_client.specs.declared.client.Use.{Use}
use Rattle.lw_client.specs.Clients.{KeepsDevice, no_use}
use Rattle.lw_client.proofs.Lists.{Reads, at_or_other}

-- more lines
pub longer : (thread lines more : ℕ) (v : Bool) (k : Channel) (e : SeatEnd) (u : Use) → lines ≤ more → KeepsDevice thread lines v k e u → KeepsDevice thread more v k e u
longer thread lines more v k e u l h = record {
  alone = h.alone;
  number = h.number;
  visit = h.visit;
  owes = h.owes;
  puts = h.puts;
  balance = h.balance;
  few_gets = omega (arith, l, h.few_gets);
  few_requests = omega (arith, l, h.few_requests);
  referenced = h.referenced;
}

abbrev Each : ℕ → ℕ → ℕ → (ℕ → Bool) → List Channel → List SeatEnd → List Use → Type 0
Each n thread lines v ks es us = (i : ℕ) → i < n → KeepsDevice thread lines (v i) (get_or ks i no_channel) (get_or es i no_seat) (get_or us i no_use)

-- one device changes, and lines may be listed
pub each_but : (n thread lines more : ℕ) (v v2 : ℕ → Bool) (d : ℕ) (ks ks2 : List Channel) (es es2 : List SeatEnd) (us us2 : List Use) (k : Channel) (e : SeatEnd) (u : Use)
    → Reads no_channel d ks ks2 k → Reads no_seat d es es2 e → Reads no_use d us us2 u → ((i : ℕ) → i ≢ d → v2 i ≡ v i) → lines ≤ more
    → Each n thread lines v ks es us → (d < n → KeepsDevice thread more (v2 d) k e u) → Each n thread more v2 ks2 es2 us2
each_but n thread lines more v v2 d ks ks2 es es2 us us2 k e u rk re ru same le all one i within = at_or_other
    (λ j. j < n → KeepsDevice thread more (v2 j) (get_or ks2 j no_channel) (get_or es2 j no_seat) (get_or us2 j no_use)) i d
    (λ l. subst (λ x. KeepsDevice thread more (v2 d) x (get_or es2 d no_seat) (get_or us2 d no_use)) (sym rk.at)
    (subst (λ x. KeepsDevice thread more (v2 d) k x (get_or us2 d no_use)) (sym re.at)
    (subst (λ x. KeepsDevice thread more (v2 d) k e x) (sym ru.at) (one l))))
    (λ other l. subst (λ x. KeepsDevice thread more x (get_or ks2 i no_channel) (get_or es2 i no_seat) (get_or us2 i no_use)) (sym (same i other))
    (subst (λ x. KeepsDevice thread more (v i) x (get_or es2 i no_seat) (get_or us2 i no_use)) (sym (rk.others i other))
    (subst (λ x. KeepsDevice thread more (v i) (get_or ks i no_channel) x (get_or us2 i no_use)) (sym (re.others i other))
    (subst (λ x. KeepsDevice thread more (v i) (get_or ks i no_channel) (get_or es i no_seat) x) (sym (ru.others i other))
    (longer thread lines more (v i) (get_or ks i no_channel) (get_or es i no_seat) (get_or us i no_use) le (all i l))))))
    within

-- only lines are listed
pub each_longer : (n thread lines more : ℕ) (v v2 : ℕ → Bool) (ks : List Channel) (es : List SeatEnd) (us : List Use) → ((i : ℕ) → v2 i ≡ v i) → lines ≤ more → Each n thread lines v ks es us → Each n thread more v2 ks es us
each_longer n thread lines more v v2 ks es us same le all i within = subst (λ x. KeepsDevice thread more x (get_or ks i no_channel) (get_or es i no_seat) (get_or us i no_use)) (sym (same i))
    (longer thread lines more (v i) (get_or ks i no_channel) (get_or es i no_seat) (get_or us i no_use) le (all i within))

-- a row has a seat a device
pub seats_of_registry : (x : Row) (ls : List DeviceLatch) (n : ℕ) → latches x ≡ ls → length ls ≡ n → length x.seats ≡ n
seats_of_registry x ls n e f = sym (length-map x.seats (λ (s : SeatEnd). s.latch)) ∙ ap length e ∙ f
