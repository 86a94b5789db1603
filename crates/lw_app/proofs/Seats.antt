-- What a tick keeps of what the app keeps of its run.
use Rattle.std.proofs.Common.{◌≡◌, ℕ, zero, suc, ◌+◌, ◌<◌, ◌≤◌, ◌==◌, ◌≢◌, Bool, true, false, length, refl, sym, ap, subst, ◌∙◌, arith, length-set, inl, inr}
use Rattle.std.specs.Arc.{arc_value}
use Rattle.std.proofs.lemmas.Bool.{cases_lt, eqb-true, eqb-false, false≢true}
use Rattle.std.proofs.lemmas.List.{length-map}
use Rattle.lw_latch.specs.DeviceWord.{closing_word}
use Rattle.lw_latch.specs.DeviceEnds.{SeatEnd}
use Rattle.lw_device.specs.Rows.{latches, seat_of, seat_began, seat_found, seat_fired, seat_tried}
use Rattle.lw_device.proofs.RowLaws.{seat_of-with_seat, seat_of-with_seat-other, latches-with_seat}
use Rattle.lw_channel.specs.Channels.{Channels, IsEmpty, with_row}
use Rattle.lw_model.specs.declared.record.Answer.{Answer}
use Rattle.lw_model.specs.declared.record.Answer.TheVariants as answer
use Rattle.lw_mail.specs.Runs.{Run}
use Rattle.lw_app.specs.declared.app.Stage.{Stage}
use Rattle.lw_app.specs.declared.app.Stage.TheVariants as stage
use Rattle.lw_app.specs.declared.app.App.{App}
use Rattle.lw_app.specs.Flags.{how_many}
use Rattle.lw_app.specs.Apps.{flag_at, lines_at, IsSeat, IsApp}
use Rattle.lw_app.specs.Ticking.{is_due, is_due_at, Begins, BeginsAt, Answered, Unregisters, UnregistersTo, Fires, Fails, TriesAs, Tries, TriesTo}
use Rattle.lw_app.proofs.Counting.{flag_here, flag_there, is_there}

-- as many seats as devices
pub as_many_seats : (r : Run) (n : ℕ) (b : App) → IsApp r n b → length b.set.row.seats ≡ length r.script.images
as_many_seats r n b h = sym (length-map b.set.row.seats (λ (e : SeatEnd). e.latch)) ∙ ap length h.registry ∙ h.devices

moved : (n d all awaited : ℕ) (owed owed2 : Bool) (e e2 : SeatEnd) → owed2 ≡ owed → e2 ≡ e → IsSeat n d all awaited owed e → IsSeat n d all awaited owed2 e2
moved n d all awaited owed owed2 e e2 f g h = subst (λ o. IsSeat n d all awaited o e2) (sym f) (subst (IsSeat n d all awaited owed) (sym g) h)

-- one device more was unregistered, which isn't this one
one_further : (n d all awaited : ℕ) (owed : Bool) (e : SeatEnd) → (d ≡ n → ⊥) → IsSeat n d all awaited owed e → IsSeat (n + 1) d all awaited owed e
one_further n d all awaited owed e ne h = record {
  number = h.number;
  no_visit = h.no_visit;
  seats = h.seats;
  owes = h.owes;
  fired = h.fired;
  shut = λ l. h.shut (below l);
  later = λ l. h.later (omega (arith, l));
}
  where
    below : d < n + 1 → d < n
    below l = elim (cases_lt d n) [ inl s ↦ s | inr g ↦ absurd (ne (omega (arith, l, g))) ]

-- the seat of a device on which a call was made, and all others
module _ (r : Run) (n m : ℕ) (a b : App) (d : ℕ) (f : SeatEnd → SeatEnd) (h : IsApp r n a) (within : d < length r.script.images)
    (set : b.set ≡ with_row a.set d f) (latch : (e : SeatEnd) → (f e).latch ≡ e.latch) (awaited : b.awaited ≡ a.awaited) where
  its_seat : seat_of b.set.row d ≡ f (seat_of a.set.row d)
  its_seat = ap (λ (x : Channels). seat_of x.row d) set ∙ seat_of-with_seat a.set.row d f (omega (arith, within, as_many_seats r n a h))

  other_seat : (k : ℕ) → (k ≡ d → ⊥) → seat_of b.set.row k ≡ seat_of a.set.row k
  other_seat k ne = ap (λ (x : Channels). seat_of x.row k) set ∙ seat_of-with_seat-other a.set.row d f k ne

  after_call : arc_value b.script ≡ arc_value a.script → length b.owed ≡ length a.owed
      → ((k : ℕ) → (k ≡ d → ⊥) → flag_at b.owed k ≡ flag_at a.owed k)
      → ((k all w : ℕ) (o : Bool) (e : SeatEnd) → (k ≡ d → ⊥) → IsSeat n k all w o e → IsSeat m k all w o e)
      → ((all w : ℕ) → IsSeat n d all w (flag_at a.owed d) (seat_of a.set.row d) → IsSeat m d all w (flag_at b.owed d) (f (seat_of a.set.row d)))
      → IsApp r m b
  after_call script owed others further here = record {
    script = script ∙ h.script;
    devices = h.devices;
    registry = ap (λ (x : Channels). latches x.row) set ∙ latches-with_seat a.set.row d f latch ∙ h.registry;
    empty = subst IsEmpty (sym set) h.empty;
    clients = ap length awaited ∙ h.clients;
    images = owed ∙ h.images;
    seats = λ k l. subst (λ w. IsSeat m k (1 + length r.script.clients) (how_many w) (flag_at b.owed k) (seat_of b.set.row k)) (sym awaited) (at k l (k == d) refl);
  }
    where
      at : (k : ℕ) → k < length r.script.images → (x : Bool) → (k == d) ≡ x → IsSeat m k (1 + length r.script.clients) (how_many a.awaited) (flag_at b.owed k) (seat_of b.set.row k)
      at k l true e =
          let same = eqb-true k d e in
          subst (λ j. IsSeat m j (1 + length r.script.clients) (how_many a.awaited) (flag_at b.owed j) (seat_of b.set.row j)) (sym same)
          (subst (IsSeat m d (1 + length r.script.clients) (how_many a.awaited) (flag_at b.owed d)) (sym its_seat) (here (1 + length r.script.clients) (how_many a.awaited) (h.seats d within)))
      at k l false e =
          let ne = eqb-false k d e in
          moved m k (1 + length r.script.clients) (how_many a.awaited) (flag_at a.owed k) (flag_at b.owed k) (seat_of a.set.row k) (seat_of b.set.row k) (others k ne) (other_seat k ne)
          (further k (1 + length r.script.clients) (how_many a.awaited) (flag_at a.owed k) (seat_of a.set.row k) ne (h.seats k l))

-- a device was unregistered
module _ (r : Run) (n at : ℕ) (a b : App) (h : IsApp r n a) (within : n < length r.script.images) (u : Unregisters at n a b) where
  same_script : arc_value b.script ≡ arc_value a.script
  same_script = ap (λ (x : App). arc_value x.script) u.body

  same_awaited : b.awaited ≡ a.awaited
  same_awaited = ap (λ (x : App). x.awaited) u.body

  answered : (x : Answer) → Answered x n a b.set b.owed → IsApp r (n + 1) b
  answered (answer.Began given) g =
      after_call r n (n + 1) a b n (seat_began given g.0.opens) h within g.0.row (λ e. refl) same_awaited same_script
      (ap length g.1 ∙ length-set a.owed n true)
      (λ k ne. ap (λ fs. flag_at fs k) g.1 ∙ flag_there a.owed n k true ne)
      (λ k all w o e ne i. one_further n k all w o e ne i)
      (λ all w i.
      let set_here = ap (λ fs. flag_at fs n) g.1 ∙ flag_here a.owed n true (omega (arith, within, h.images)) in
      record {
        number = i.number;
        no_visit = i.no_visit;
        seats = i.seats;
        owes = λ e. (refl, i.number);
        fired = λ e. absurd (false≢true (sym e ∙ set_here));
        shut = λ l. omega arith;
        later = λ l. absurd (omega (arith, l));
      })
  answered answer.Already g =
      after_call r n (n + 1) a b n seat_found h within g.0 (λ e. refl) same_awaited same_script
      (ap length g.1)
      (λ k ne. ap (λ fs. flag_at fs k) g.1)
      (λ k all w o e ne i. one_further n k all w o e ne i)
      (λ all w i. subst (λ o. IsSeat (n + 1) n all w o (seat_found (seat_of a.set.row n))) (sym (ap (λ fs. flag_at fs n) g.1)) (record {
        number = i.number;
        no_visit = i.no_visit;
        seats = i.seats;
        owes = λ e. absurd (false≢true (sym (i.later (omega arith)) ∙ e));
        fired = i.fired;
        shut = λ l. omega arith;
        later = λ l. absurd (omega (arith, l));
      }))
  answered (answer.Given k) g = absurd g
  answered (answer.Again k) g = absurd g
  answered answer.Shut g = absurd g
  answered answer.NoChannel g = absurd g
  answered answer.Counted g = absurd g
  answered answer.Deferred g = absurd g
  answered answer.Sent g = absurd g
  answered answer.Waited g = absurd g
  answered answer.Started g = absurd g
  answered answer.Closed g = absurd g

  pub app_unregistered : IsApp r (n + 1) b
  app_unregistered = answered u.answer u.answered

pub app_unregistered_to : (r : Run) (at n : ℕ) (a b : App) → IsApp r 0 a → n ≤ length r.script.images → UnregistersTo at n a b → IsApp r n b
app_unregistered_to r at zero a b h l e = subst (IsApp r 0) (sym e) h
app_unregistered_to r at (suc n) a b h l u = subst (λ k. IsApp r k b) one_more (app_unregistered r n at u.0 b (app_unregistered_to r at n a u.0 h (omega (arith, l)) u.1) (omega (arith, l)) u.2)
  where
    one_more : n + 1 ≡ suc n
    one_more = omega arith

-- a callback was tried
module _ (r : Run) (n at d : ℕ) (a b : App) (h : IsApp r n a) (within : d < length r.script.images) where
  was_fired : flag_at a.owed d ≡ true → Fires at d a b → IsApp r n b
  was_fired owed u =
      let owes = ap (λ (x : App). x.owed) u.body in
      after_call r n n a b d seat_fired h within (ap (λ (x : App). x.set) u.body) (λ e. refl) (ap (λ (x : App). x.awaited) u.body) (ap (λ (x : App). arc_value x.script) u.body)
      (ap length owes ∙ length-set a.owed d false)
      (λ k ne. ap (λ fs. flag_at fs k) owes ∙ flag_there a.owed d k false ne)
      (λ k all w o e ne i. i)
      (λ all w i.
      let clear = ap (λ fs. flag_at fs d) owes ∙ flag_here a.owed d false (is_there a.owed d owed) in
      record {
        number = i.number;
        no_visit = i.no_visit;
        seats = i.seats;
        owes = λ e. absurd (false≢true (sym clear ∙ e));
        fired = λ e. omega (arith, (i.owes owed).0);
        shut = i.shut;
        later = λ l. clear;
      })

  was_tried : Fails d a b → IsApp r n b
  was_tried u =
      let owes = ap (λ (x : App). x.owed) u.body in
      after_call r n n a b d (seat_tried u.seen) h within (ap (λ (x : App). x.set) u.body) (λ e. refl) (ap (λ (x : App). x.awaited) u.body) (ap (λ (x : App). arc_value x.script) u.body)
      (ap length owes)
      (λ k ne. ap (λ fs. flag_at fs k) owes)
      (λ k all w o e ne i. i)
      (λ all w i. subst (λ o. IsSeat n d all w o (seat_tried u.seen (seat_of a.set.row d))) (sym (ap (λ fs. flag_at fs d) owes)) (record {
        number = i.number;
        no_visit = i.no_visit;
        seats = i.seats;
        owes = i.owes;
        fired = i.fired;
        shut = i.shut;
        later = i.later;
      }))

  pub app_tried : Tries at d a b → IsApp r n b
  app_tried u = by (flag_at a.owed d) refl u
    where
      by : (o : Bool) → flag_at a.owed d ≡ o → TriesAs o at d a b → IsApp r n b
      by true e (inl f) = was_fired e f
      by true e (inr f) = was_tried f
      by false e f = subst (IsApp r n) (sym f) h

pub app_tried_to : (r : Run) (n at m : ℕ) (a b : App) → IsApp r n a → m ≤ length r.script.images → TriesTo at m a b → IsApp r n b
app_tried_to r n at zero a b h l e = subst (IsApp r n) (sym e) h
app_tried_to r n at (suc m) a b h l u = app_tried r n at m u.0 b (app_tried_to r n at m a u.0 h (omega (arith, l)) u.1) (omega (arith, l)) u.2

-- a callback that isn't due
pub not_due : (at d seen : ℕ) (a : App) (y : Channels) → flag_at a.owed d ≡ true → y ≡ with_row a.set d (seat_tried seen) → seen ≢ closing_word (seat_of a.set.row d).view.count → Tries at d a (record a { set = y })
not_due at d seen a y e same another = subst (λ o. TriesAs o at d a (record a { set = y })) (sym e) (inr (record { seen = seen; another = another; body = ap (λ (x : Channels). record a { set = x }) same }))

-- what the calls ask for, by what the app keeps
pub may_unregister : (r : Run) (d : ℕ) (b : App) → IsApp r d b → d < length r.script.images → (d < length b.set.row.seats) × (d < length b.owed) × (flag_at b.owed d ≡ false)
may_unregister r d b h l = (omega (arith, l, as_many_seats r d b h), omega (arith, l, h.images), (h.seats d l).later (omega arith))

pub may_try : (r : Run) (n d : ℕ) (b : App) → IsApp r n b → d < length r.script.images → flag_at b.owed d ≡ true → (1 ≤ (seat_of b.set.row d).view.begun) × ((seat_of b.set.row d).began_by ≡ (seat_of b.set.row d).number)
may_try r n d b h l e = (omega (arith, ((h.seats d l).owes e).0), ((h.seats d l).owes e).1 ∙ sym (h.seats d l).number)

-- other lines, other kept messages or another stage
pub app_same : (r : Run) (n : ℕ) (a b : App) → b.script ≡ a.script → b.set ≡ a.set → b.awaited ≡ a.awaited → b.owed ≡ a.owed → IsApp r n a → IsApp r n b
app_same r n a b script set awaited owed h = record {
  script = ap arc_value script ∙ h.script;
  devices = h.devices;
  registry = ap (λ (x : Channels). latches x.row) set ∙ h.registry;
  empty = subst IsEmpty (sym set) h.empty;
  clients = ap length awaited ∙ h.clients;
  images = ap length owed ∙ h.images;
  seats = λ d l. subst (λ w. IsSeat n d (1 + length r.script.clients) (how_many w) (flag_at b.owed d) (seat_of b.set.row d)) (sym awaited)
      (subst (λ o. IsSeat n d (1 + length r.script.clients) (how_many a.awaited) (flag_at o d) (seat_of b.set.row d)) (sym owed)
      (subst (λ (x : Channels). IsSeat n d (1 + length r.script.clients) (how_many a.awaited) (flag_at a.owed d) (seat_of x.row d)) (sym set) (h.seats d l)));
}

-- all devices were unregistered
pub app_begun : (r : Run) (at : ℕ) (a b : App) → IsApp r (lines_at a.stage r.script) a → is_due a ≡ true → Begins at a b → IsApp r (length r.script.images) b
app_begun r at a b h due g = by a.stage refl h due g
  where
    by : (s : Stage) → a.stage ≡ s → IsApp r (lines_at s r.script) a → is_due_at s a ≡ true → BeginsAt s at a b → IsApp r (length r.script.images) b
    by stage.Waiting e i due g =
        let m = app_unregistered_to r at (length a.owed) a g.0 i (omega (arith, i.images)) g.1 in
        subst (λ n. IsApp r n b) i.images (subst (IsApp r (length a.owed)) (sym g.2) (app_same r (length a.owed) g.0 (record g.0 { stage = stage.Calling }) refl refl refl refl m))
    by stage.Calling e i due g = subst (IsApp r (length r.script.images)) (sym g) i
    by stage.Stopped e i due g = absurd (false≢true due)
