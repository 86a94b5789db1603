-- What a set keeps agrees with its row: when it is made, and where the row alone changes.
use Rattle.std.proofs.Common.{◌≡◌, ℕ, ◌+◌, ◌<◌, List, length, get_or, set, replicate, refl, sym, ap, subst, ◌∙◌, add-zero, arith, All}
use Rattle.std.proofs.lemmas.List.{length-set, get_or-set_same, get_or-set_other, length-replicate, get_or-replicate}
use mathlib.Core.Logic.{dite}
use native.Mathlib.Decide.{ℕ_discrete}
use Rattle.lw_latch.specs.DeviceEnds.{SeatEnd, both_ends}
use Rattle.lw_device.specs.Rows.{Row, no_seat, seat_of, with_seat, latches, both_rows}
use Rattle.lw_device.proofs.RowLaws.{length-seats, length-both_rows, seat_of-both_rows}
use Rattle.lw_channel.specs.declared.channel.Channel.{Channel}
use Rattle.lw_channel.specs.Channels.{no_channel, Agrees, AreAgreed}

agrees_new : (e : SeatEnd) → e.view.channel ≡ 0 → e.view.gives ≡ 0 → Agrees no_channel e
agrees_new e none never = record { in_row = none; stands = λ q. absurd (cc); gone = λ q. refl; counted = omega arith; gives = omega arith; few = omega arith }

-- nothing is kept, and the row holds no channel and was never asked for one
pub agreed_new : (es : List SeatEnd) → All (λ e. e.view.channel ≡ 0) es → All (λ e. e.view.gives ≡ 0) es → AreAgreed es (replicate (length es) no_channel)
agreed_new es none never = record {
  count = length-replicate (length es) no_channel;
  each = λ d l. subst (λ (k : Channel). Agrees k (get_or es d no_seat)) (sym (get_or-replicate (length es) d no_channel no_channel l)) (agrees_new (get_or es d no_seat) (none d no_seat l) (never d no_seat l));
}

-- the seat of a device changes, and not in what it holds or was asked for
pub agreed_row : (r : Row) (ks : List Channel) (d : ℕ) (f : SeatEnd → SeatEnd) → ((e : SeatEnd) → ((f e).view.channel ≡ e.view.channel) × ((f e).view.gives ≡ e.view.gives))
    → AreAgreed r.seats ks → AreAgreed (with_seat r d f).seats ks
agreed_row r ks d f same a = record {
  count = a.count ∙ sym (length-set r.seats d (f (seat_of r d)));
  each = λ i l.
      let size = length-set r.seats d (f (seat_of r d)) in
      let within : i < length r.seats = omega arith in
      let old = a.each i within in
      dite (ℕ_discrete i d)
      (λ at.
      let there : d < length r.seats = omega arith in
      let now = subst (λ (j : ℕ). get_or (set r.seats d (f (seat_of r d))) j no_seat ≡ f (get_or r.seats j no_seat)) (sym at) (get_or-set_same r.seats d (f (seat_of r d)) no_seat there) in
      subst (Agrees (get_or ks i no_channel)) (sym now) (agrees_same (get_or ks i no_channel) (get_or r.seats i no_seat) (f (get_or r.seats i no_seat)) (same (get_or r.seats i no_seat)) old))
      (λ other. subst (Agrees (get_or ks i no_channel)) (sym (get_or-set_other r.seats d i (f (seat_of r d)) no_seat other)) old);
}
  where
    agrees_same : (k : Channel) (e g : SeatEnd) → (g.view.channel ≡ e.view.channel) × (g.view.gives ≡ e.view.gives) → Agrees k e → Agrees k g
    agrees_same k e g same a = record { in_row = same.0 ∙ a.in_row; stands = a.stands; gone = a.gone; counted = a.counted; gives = omega (arith, same.1, a.gives); few = a.few }

-- a row is taken in that holds no channel
pub agreed_both : (r s : Row) (ks : List Channel) → latches s ≡ latches r → All (λ e. e.view.channel ≡ 0) s.seats → AreAgreed r.seats ks → AreAgreed (both_rows r s).seats ks
agreed_both r s ks of none a = record {
  count = a.count ∙ sym (length-both_rows r s);
  each = λ d l.
      let size = length-both_rows r s in
      let within : d < length r.seats = omega arith in
      let other : d < length s.seats = omega (arith, length-seats r s of) in
      subst (Agrees (get_or ks d no_channel)) (sym (seat_of-both_rows r s d of within)) (agrees_both (get_or ks d no_channel) (seat_of r d) (seat_of s d) (none d no_seat other) (a.each d within));
}
  where
    agrees_both : (k : Channel) (e f : SeatEnd) → f.view.channel ≡ 0 → Agrees k e → Agrees k (both_ends e f)
    agrees_both k e f none a = record { in_row = ap (λ n. e.view.channel + n) none ∙ add-zero e.view.channel ∙ a.in_row; stands = a.stands; gone = a.gone; counted = a.counted; gives = a.gives; few = a.few }
