-- What a desk keeps, through a send, a take and the hand-out of an event.
use Rattle.std.proofs.Common.{◌≡◌, ◌≢◌, ℕ, ◌<◌, ◌≤◌, List, [], ◌∷◌, ◌++◌, length, map, reverse, All, refl, sym, ap, subst, ◌∙◌, append_assoc, length-set, get_or-set_same, get_or-set_other}
use Rattle.std.specs.Prelude.{slice_index_or, slice_set}
use Rattle.std.proofs.lemmas.List.{get_or_default, reverse-append}
use Rattle.std.proofs.lemmas.List.Elements.{All-head, All-tail}
use Rattle.std.proofs.Math.Logic.{dite}
use native.Mathlib.Decide.{ℕ_discrete}
use Rattle.lw_base.specs.Letters.{FitsRing}
use Rattle.lw_ring.specs.Ends.{Sender, Receiver}
use Rattle.lw_ring.specs.Queue.{AllFit}
use Rattle.lw_thread.specs.Runs.{RunId}
use Rattle.lw_thread.specs.Threads.{EndsStill}
use Rattle.lw_event.specs.Letters.{Letter, tag_in}
use Rattle.lw_event.specs.Events.{letter_of, event_fits}
use Rattle.lw_event.specs.Desks.{Desk, IsKept, IsStill, HasReactors}
use Rattle.lw_event.specs.declared.event.Event.{Event}

-- the last of a batch that lies in reverse is the first of it
pub batch_first : {X : Type 0} (xs ys : List X) (x : X) → xs ≡ ys ++ x ∷ [] → reverse xs ≡ x ∷ reverse ys
batch_first xs ys x e = ap reverse e ∙ reverse-append ys (x ∷ [])

pub reverse_twice : {X : Type 0} (xs : List X) → reverse (reverse xs) ≡ xs
reverse_twice [] = refl
reverse_twice (x ∷ xs) = ap reverse (reverse-append (x ∷ []) xs) ∙ reverse-append (reverse xs) (x ∷ []) ∙ ap (λ l. x ∷ l) (reverse_twice xs)

-- the end at a place
pub end_at : {X : Type 0} (es : List X) (to : ℕ) (e : X) → to < length es → e ≡ slice_index_or es to e → (d : X) → slice_index_or es to d ≡ e
end_at es to e within at d = get_or_default es to d e within ∙ sym at

pub same_ends : {L F : Type 0} (es : List (Sender L F)) → EndsStill es es
same_ends es = record { count = refl; each = λ k d within. refl }

-- the ends stay those of the same rings, where one has sent more
pub set_still : {L F : Type 0} (es : List (Sender L F)) (to : ℕ) (end e2 : Sender L F) → ((d : Sender L F) → slice_index_or es to d ≡ end) → e2 ≡ record end { sent = e2.sent; found = e2.found } → EndsStill es (slice_set es to e2)
set_still {L} {F} es to end e2 at same = record {
  count = length-set es to e2;
  each = λ k d within. dite (ℕ_discrete k to)
      (λ (is : k ≡ to). (let here : slice_index_or (slice_set es to e2) k d ≡ e2 = ap (λ n. slice_index_or (slice_set es to e2) n d) is ∙ get_or-set_same es to e2 d (subst (λ n. n < length es) is within) in
      let was : slice_index_or es k d ≡ end = ap (λ n. slice_index_or es n d) is ∙ at d in
      here ∙ same ∙ (λ i. record (sym was i) { sent = (sym here i).sent; found = (sym here i).found })))
      (λ (other : k ≢ to). (let keeps = get_or-set_other es to k e2 d other in keeps ∙ (λ i. record (slice_index_or es k d) { sent = (sym keeps i).sent; found = (sym keeps i).found })));
}

module _ {B M L F : Type 0} where
  pub still_ends : (d : Desk B M L F) (es : List (Sender Letter (RunId F))) → EndsStill d.ends es → IsStill d (record d { ends = es })
  still_ends d es s = record { number = refl; recv = refl; ends = s }

  pub still_batch : (d : Desk B M L F) (xs : List (Event B M L F)) → IsStill d (record d { batch = xs })
  still_batch d xs = record { number = refl; recv = refl; ends = same_ends d.ends }

  pub still_taken : (d : Desk B M L F) (r : Receiver Letter (RunId F)) (xs : List (Event B M L F)) (ls : List Letter) → r ≡ record d.recv { taken = ls; hand = r.hand } → IsStill d (record d { recv = r; batch = xs })
  still_taken d r xs ls took = record {
    number = refl;
    recv = took ∙ (λ i. record d.recv { taken = (sym (ap (λ (q : Receiver Letter (RunId F)). q.taken) took)) i; hand = r.hand });
    ends = same_ends d.ends;
  }

  -- through a take
  pub took_still : (d old : Desk B M L F) (r : Receiver Letter (RunId F)) (xs : List (Event B M L F)) → d ≡ old → r ≡ record d.recv { taken = d.recv.taken ++ map letter_of xs; hand = r.hand }
      → IsStill old (record d { recv = r; batch = xs })
  took_still d old r xs is took = subst (λ (o : Desk B M L F). IsStill o (record d { recv = r; batch = xs })) is (still_taken d r xs (d.recv.taken ++ map letter_of xs) took)

  pub took_is : (d old : Desk B M L F) (r : Receiver Letter (RunId F)) (xs : List (Event B M L F)) → d ≡ old → r ≡ record d.recv { taken = d.recv.taken ++ map letter_of xs; hand = r.hand }
      → record d { recv = r; batch = xs } ≡ record old { recv = record old.recv { taken = old.recv.taken ++ map letter_of xs; hand = r.hand }; batch = xs }
  took_is d old r xs is took = subst (λ (o : Desk B M L F). record d { recv = r; batch = xs } ≡ record o { recv = record o.recv { taken = o.recv.taken ++ map letter_of xs; hand = r.hand }; batch = xs }) is
      (ap (λ (q : Receiver Letter (RunId F)). record d { recv = q; batch = xs }) took)

  pub kept_ends : (d : Desk B M L F) (es : List (Sender Letter (RunId F))) → IsKept d → EndsStill d.ends es → IsKept (record d { ends = es })
  kept_ends d es i s =
      let low : (k : ℕ) → k < length es → k < length d.ends = λ k l. subst (λ n. k < n) s.count l in
      record {
        number = i.number;
        no_latch = i.no_latch;
        not_closed = i.not_closed;
        unsettled = i.unsettled;
        senders = i.senders ∙ sym s.count;
        some = subst (λ n. 1 ≤ n) (sym s.count) i.some;
        few = subst (λ n. n ≤ 16) (sym s.count) i.few;
        run = subst (λ n. HasReactors n d.recv.family) (sym s.count) i.run;
        row = λ k e l.
            (let at = s.each k e (low k l) in
            let was = i.row k e (low k l) in
            record {
              from = ap (λ (x : Sender Letter (RunId F)). x.sender) at ∙ was.from;
              number = ap (λ (x : Sender Letter (RunId F)). x.number) at ∙ was.number;
              of_family = ap (λ (x : Sender Letter (RunId F)). x.family) at ∙ was.of_family;
            });
        all_open = λ k e l. ap (λ (x : Sender Letter (RunId F)). x.latch) (s.each k e (low k l)) ∙ i.all_open k e (low k l);
        handed = i.handed;
        taken = i.taken;
        fits = i.fits;
      }

  pub kept_taken : (d : Desk B M L F) (r : Receiver Letter (RunId F)) (xs : List (Event B M L F)) → IsKept d → r ≡ record d.recv { taken = d.recv.taken ++ map letter_of xs; hand = r.hand }
      → AllFit letter_of tag_in event_fits d.recv.number d.recv.family d.recv.senders xs → IsKept (record d { recv = r; batch = xs })
  kept_taken d r xs i took fit = subst (λ (q : Receiver Letter (RunId F)). IsKept (record d { recv = q; batch = xs })) (sym took) (record {
    number = i.number;
    no_latch = i.no_latch;
    not_closed = i.not_closed;
    unsettled = i.unsettled;
    senders = i.senders;
    some = i.some;
    few = i.few;
    run = i.run;
    row = i.row;
    all_open = i.all_open;
    handed = d.recv.taken;
    taken = refl;
    fits = subst (λ n. AllFit letter_of tag_in event_fits n d.recv.family d.recv.senders xs) i.number fit;
  })

  pub kept_next : (d : Desk B M L F) (e : Event B M L F) (xs : List (Event B M L F)) → IsKept d → d.batch ≡ e ∷ xs → IsKept (record d { batch = xs })
  kept_next d e xs i is =
      let P = λ (x : Event B M L F). FitsRing event_fits d.number d.recv.family x × ((tag_in (letter_of x)).sender < d.recv.senders) in
      record {
        number = i.number;
        no_latch = i.no_latch;
        not_closed = i.not_closed;
        unsettled = i.unsettled;
        senders = i.senders;
        some = i.some;
        few = i.few;
        run = i.run;
        row = i.row;
        all_open = i.all_open;
        handed = i.handed ++ letter_of e ∷ [];
        taken = i.taken ∙ ap (λ ys. i.handed ++ map letter_of ys) is ∙ sym (append_assoc i.handed (letter_of e ∷ []) (map letter_of xs));
        fits = All-tail P e xs (subst (λ ys. All P ys) is i.fits);
      }

  pub next_fits : (d : Desk B M L F) (e : Event B M L F) (xs : List (Event B M L F)) → IsKept d → d.batch ≡ e ∷ xs
      → FitsRing event_fits d.number d.recv.family e × ((tag_in (letter_of e)).sender < length d.ends)
  next_fits d e xs i is =
      let P = λ (x : Event B M L F). FitsRing event_fits d.number d.recv.family x × ((tag_in (letter_of x)).sender < d.recv.senders) in
      let here = All-head P e xs (subst (λ ys. All P ys) is i.fits) in
      (here.0, subst (λ n. (tag_in (letter_of e)).sender < n) i.senders here.1)
