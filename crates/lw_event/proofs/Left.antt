-- All ends of a ring, one of each desk, and what is left of the ring.
use Rattle.std.proofs.Common.{◌≡◌, ℕ, zero, suc, ◌+◌, ◌-◌, ◌<◌, ◌≤◌, List, [], ◌∷◌, ◌++◌, length, map, drop, get_or, All, refl, sym, ap, subst, ◌∙◌, arith, append_assoc, length-append}
use Rattle.std.proofs.lemmas.List.{map-append, length-map, get_or-map, append-nil, length-drop}
use Rattle.std.proofs.lemmas.List.Elements.{All-append}
use Rattle.lw_base.specs.Letters.{sent_by, list_at, FitsRing}
use Rattle.lw_ring.specs.Ends.{Sender, Receiver}
use Rattle.lw_ring.specs.Queue.{AllFit}
use Rattle.lw_ring.specs.Settling.{all_sent}
use Rattle.lw_thread.specs.Runs.{RunId, RingId, ring_of_end, ring_of_recv}
use Rattle.lw_event.specs.Letters.{Letter, tag_in}
use Rattle.lw_event.specs.Events.{letter_of, event_fits}
use Rattle.lw_event.specs.Desks.{Desk, IsKept, AreAllDesks}
use Rattle.lw_event.specs.Leaving.{IsRest, AreLeft, joined, sent_to}
use Rattle.lw_event.specs.Regrouping.{IsPaired, IsRegrouped}
use Rattle.lw_event.specs.declared.event.Event.{Event}
use Rattle.lw_event.proofs.Dealt.{each_grown, each_push, front}
use Rattle.lw_event.proofs.Begun.{nth_of}

-- ---- lists

pub joined_more : {X : Type 0} (xs : List (List X)) (y : List X) → joined (xs ++ y ∷ []) ≡ joined xs ++ y
joined_more [] y = append-nil y
joined_more (x ∷ xs) y = ap (λ l. x ++ l) (joined_more xs y) ∙ sym (append_assoc x (joined xs) y)

pub list_at_sent : {L F : Type 0} (es : List (Sender L F)) (k : ℕ) (d : Sender L F) → k < length es → list_at (all_sent es) k ≡ (get_or es k d).sent
list_at_sent [] k d low = absurd (omega arith)
list_at_sent (e ∷ es) zero d low = refl
list_at_sent (e ∷ es) (suc k) d low = list_at_sent es k d (omega arith)

module _ {B M L F : Type 0} where
  -- ---- one ring

  -- what was taken and not handed out, and then what wasn't taken
  pub rest_of : (recv : Receiver Letter (RunId F)) (batch left whole : List (Event B M L F)) (es : List (Sender Letter (RunId F)))
      → IsPaired recv batch es → ((p : ℕ) → sent_by tag_in p (recv.taken ++ map letter_of left) ≡ list_at (all_sent es) p)
      → AllFit letter_of tag_in event_fits recv.number recv.family recv.senders left → whole ≡ batch ++ left → IsRest recv batch (all_sent es) whole
  rest_of recv batch left whole es h each fit is =
      let P = λ (x : Event B M L F). FitsRing event_fits recv.number recv.family x × ((tag_in (letter_of x)).sender < recv.senders) in
      record {
        each = λ handed taken p.
            ap (sent_by tag_in p)
            (ap (λ (xs : List (Event B M L F)). handed ++ map letter_of xs) is
            ∙ ap (λ xs. handed ++ xs) (map-append letter_of batch left)
            ∙ sym (append_assoc handed (map letter_of batch) (map letter_of left))
            ∙ ap (λ t. t ++ map letter_of left) (sym taken))
            ∙ each p;
        fits = subst (All P) (sym is) (All-append P batch left h.fits fit);
      }

  -- ---- the ends by their rings

  -- the first so many ends of a ring: of each of these desks its end to that reactor
  pub record IsColumn (ds : List (Desk B M L F)) (count reactor : ℕ) (es : List (Sender Letter (RunId F))) : Type 0 where
    pub size : length es ≡ count
    pub each : (j : ℕ) (e : Sender Letter (RunId F)) → j < count → (d : Desk B M L F) (x : Sender Letter (RunId F)) → get_or es j e ≡ get_or (get_or ds j d).ends reactor x

  pub column_none : (ds : List (Desk B M L F)) (count reactor : ℕ) (es : List (Sender Letter (RunId F))) → es ≡ [] → count ≡ 0 → IsColumn ds count reactor es
  column_none ds count reactor es none zero_is = record { size = ap length none ∙ sym zero_is; each = λ j e low d x. absurd (omega arith) }

  pub column_more : (ds : List (Desk B M L F)) (n k : ℕ) (d : Desk B M L F) (ends old new : List (Sender Letter (RunId F)))
      → ((x : Desk B M L F) → get_or ds n x ≡ d) → ends ≡ d.ends → k < length ends → ((x : Sender Letter (RunId F)) → new ≡ old ++ get_or ends k x ∷ []) → IsColumn ds n k old → IsColumn ds (n + 1) k new
  column_more ds n k d ends old new at same low grows h =
      let x = nth_of ends k low in
      let end : Sender Letter (RunId F) = get_or ends k x in
      let is : new ≡ old ++ end ∷ [] = grows x in
      record {
        size = ap length is ∙ length-append old (end ∷ []) ∙ ap (λ m. m + 1) h.size;
        each = each_push (λ j (e : Sender Letter (RunId F)). (d : Desk B M L F) (x : Sender Letter (RunId F)) → e ≡ get_or (get_or ds j d).ends k x) n old new end is h.size h.each
            (λ y z. end_default ends k x z low ∙ ap (λ (l : List (Sender Letter (RunId F))). get_or l k z) (same ∙ ap (λ (q : Desk B M L F). q.ends) (sym (at y))));
      }
    where
      end_default : (es : List (Sender Letter (RunId F))) (k : ℕ) (x z : Sender Letter (RunId F)) → k < length es → get_or es k x ≡ get_or es k z
      end_default [] k x z low = absurd (omega arith)
      end_default (e ∷ es) zero x z low = refl
      end_default (e ∷ es) (suc k) x z low = end_default es k x z (omega arith)

  pub columns_sent : (es : List (Sender Letter (RunId F))) (ds : List (Desk B M L F)) (k : ℕ) → length es ≡ length ds
      → ((j : ℕ) (e : Sender Letter (RunId F)) → j < length es → (d : Desk B M L F) (x : Sender Letter (RunId F)) → get_or es j e ≡ get_or (get_or ds j d).ends k x)
      → ((j : ℕ) (d : Desk B M L F) → j < length ds → k < length (get_or ds j d).ends) → all_sent es ≡ sent_to k ds
  columns_sent [] [] k size each within = refl
  columns_sent [] (d ∷ ds) k size each within = absurd (omega arith)
  columns_sent (e ∷ es) [] k size each within = absurd (omega arith)
  columns_sent (e ∷ es) (d ∷ ds) k size each within =
      let head : e.sent ≡ list_at (all_sent d.ends) k = ap (λ (s : Sender Letter (RunId F)). s.sent) (each 0 e (omega arith) d e) ∙ sym (list_at_sent d.ends k e (within 0 d (omega arith))) in
      let tail = columns_sent es ds k (omega arith) (λ j y low z x. each (suc j) y (omega arith) z x) (λ j y low. within (suc j) y (omega arith)) in
      λ i. head i ∷ tail i

  -- the ends of all desks to one reactor's ring are all ends of it
  pub regrouped : (ds : List (Desk B M L F)) (k : ℕ) (d : Desk B M L F) (recv : Receiver Letter (RunId F)) (batch : List (Event B M L F)) (es : List (Sender Letter (RunId F)))
      → AreAllDesks ds → ((j : ℕ) (x : Desk B M L F) → j < length ds → IsKept (get_or ds j x)) → k < length ds
      → recv ≡ (get_or ds k d).recv → batch ≡ (get_or ds k d).batch → IsColumn ds (length ds) k es → IsRegrouped ds k (get_or ds k d) recv batch es
  regrouped ds k d recv batch es all kept low recv_is batch_is col =
      let mine = all.each k d low in
      let own = kept k d low in
      let ends_count : (j : ℕ) (x : Desk B M L F) → j < length ds → length (get_or ds j x).ends ≡ length ds =
      λ j x l. sym (length-map (get_or ds j x).ends ring_of_end) ∙ ap length (all.each j x l).ends ∙ sym all.count in
      let end_low : (j : ℕ) (x : Desk B M L F) → j < length ds → k < length (get_or ds j x).ends = λ j x l. subst (λ n. k < n) (sym (ends_count j x l)) low in
      let col_low : (j : ℕ) → j < length es → j < length ds = λ j l. subst (λ n. j < n) col.size l in
      record {
        recv_is = recv_is;
        batch_is = batch_is;
        sent = columns_sent es ds k col.size (λ j e l. col.each j e (col_low j l)) end_low;
        paired = record {
          unsettled = ap (λ (r : Receiver Letter (RunId F)). r.known) recv_is ∙ own.unsettled;
          all = record {
            count = col.size ∙ sym (ends_count k d low) ∙ sym own.senders ∙ ap (λ (r : Receiver Letter (RunId F)). r.senders) (sym recv_is);
            each = λ j e l.
                (let within = col_low j l in
                let x = nth_of ds j within in
                let at = col.each j e within x e in
                let its = end_low j x within in
                let ring : ring_of_end (get_or es j e) ≡ ring_of_recv recv =
                ap ring_of_end at
                ∙ sym (get_or-map ring_of_end (get_or ds j x).ends k e (ring_of_recv recv) its)
                ∙ ap (λ (l : List RingId). get_or l k (ring_of_recv recv)) (all.each j x within).ends
                ∙ mine.its_ring (ring_of_recv recv)
                ∙ ap ring_of_recv (sym recv_is) in
                record {
                  queue = ap (λ (r : RingId). r.queue) ring;
                  latch = ap (λ (r : RingId). r.latch) ring;
                  sender = ap (λ (s : Sender Letter (RunId F)). s.sender) at ∙ ((kept j x within).row k e its).from ∙ (all.each j x within).number;
                });
          };
          fits = subst (λ (r : Receiver Letter (RunId F)). AllFit letter_of tag_in event_fits r.number r.family r.senders batch) (sym recv_is)
              (subst (λ (xs : List (Event B M L F)). AllFit letter_of tag_in event_fits (get_or ds k d).recv.number (get_or ds k d).recv.family (get_or ds k d).recv.senders xs) (sym batch_is)
              (subst (λ n. AllFit letter_of tag_in event_fits n (get_or ds k d).recv.family (get_or ds k d).recv.senders (get_or ds k d).batch) (sym own.number) own.fits));
        };
      }

  -- the first desks are taken apart
  pub record AreTaken {I C : Type 0} (ds rest : List (Desk B M L F)) (is : List I) (cs : List C) (recv_of : I → Receiver Letter (RunId F)) (batch_of : I → List (Event B M L F)) (ends_of : C → List (Sender Letter (RunId F))) : Type 0 where
    pub within : length is ≤ length ds
    pub rest_is : rest ≡ drop (length is) ds
    pub columns : length cs ≡ length ds
    pub inboxes : (k : ℕ) (i : I) → k < length is → (d : Desk B M L F) → (recv_of (get_or is k i) ≡ (get_or ds k d).recv) × (batch_of (get_or is k i) ≡ (get_or ds k d).batch) × IsKept (get_or ds k d)
    pub each : (k : ℕ) (c : C) → k < length ds → IsColumn ds (length is) k (ends_of (get_or cs k c))

  module _ {I C : Type 0} (recv_of : I → Receiver Letter (RunId F)) (batch_of : I → List (Event B M L F)) (ends_of : C → List (Sender Letter (RunId F))) where
    pub taken_none : (ds rest : List (Desk B M L F)) (is : List I) (cs : List C) → is ≡ [] → rest ≡ ds → length cs ≡ length ds → ((k : ℕ) (c : C) → k < length cs → ends_of (get_or cs k c) ≡ []) → AreTaken ds rest is cs recv_of batch_of ends_of
    taken_none ds rest is cs none all size empty =
        let zero_is = ap length none in
        record {
          within = omega arith;
          rest_is = all ∙ ap (λ n. drop n ds) (sym zero_is);
          columns = size;
          inboxes = λ k i low. absurd (omega arith);
          each = λ k c low. column_none ds (length is) k (ends_of (get_or cs k c)) (empty k c (omega arith)) zero_is;
        }

    pub taken_more : (ds rest next : List (Desk B M L F)) (is more : List I) (cs deal : List C) (d : Desk B M L F) (i : I) (ends : List (Sender Letter (RunId F)))
        → AreTaken ds rest is cs recv_of batch_of ends_of → AreAllDesks ds → rest ≡ d ∷ next → IsKept d → ends ≡ d.ends → recv_of i ≡ d.recv → batch_of i ≡ d.batch → more ≡ is ++ i ∷ []
        → length deal ≡ length cs → ((k : ℕ) (c : C) (x : Sender Letter (RunId F)) → k < length cs → ends_of (get_or deal k c) ≡ ends_of (get_or cs k c) ++ get_or ends k x ∷ [])
        → AreTaken ds next more deal recv_of batch_of ends_of
    taken_more ds rest next is more cs deal d i ends h all step kept same recv_is batch_is grown size dealt =
        let n = length is in
        let a = front ds n d next (sym h.rest_is ∙ step) in
        let long : length more ≡ n + 1 = ap length grown ∙ length-append is (i ∷ []) in
        let count : length ends ≡ length ds = ap length same ∙ ap (λ (q : Desk B M L F). length q.ends) (sym (a.1 d)) ∙ sym (length-map (get_or ds n d).ends ring_of_end) ∙ ap length (all.each n d a.0).ends ∙ sym all.count in
        record {
          within = (let l = a.0 in omega arith);
          rest_is = a.2 ∙ ap (λ m. drop m ds) (sym long);
          columns = size ∙ h.columns;
          inboxes = each_grown (λ k (i : I). (d : Desk B M L F) → (recv_of i ≡ (get_or ds k d).recv) × (batch_of i ≡ (get_or ds k d).batch) × IsKept (get_or ds k d)) is more i grown h.inboxes
              (λ y. subst (λ (q : Desk B M L F). (recv_of i ≡ q.recv) × (batch_of i ≡ q.batch) × IsKept q) (sym (a.1 y)) (recv_is, batch_is, kept));
          each = λ k c low. subst (λ m. IsColumn ds m k (ends_of (get_or deal k c))) (sym long)
              (column_more ds n k d ends (ends_of (get_or cs k c)) (ends_of (get_or deal k c)) a.1 same (subst (λ m. k < m) (sym count) low) (λ x. dealt k c x (subst (λ m. k < m) (sym h.columns) low)) (h.each k c low));
        }

    -- as many ends as columns
    pub deal_size : (ds rest next : List (Desk B M L F)) (is : List I) (cs : List C) (d : Desk B M L F) (ends : List (Sender Letter (RunId F)))
        → AreTaken ds rest is cs recv_of batch_of ends_of → AreAllDesks ds → rest ≡ d ∷ next → ends ≡ d.ends → length ends ≡ length cs
    deal_size ds rest next is cs d ends h all step same =
        let a = front ds (length is) d next (sym h.rest_is ∙ step) in
        ap length same ∙ ap (λ (q : Desk B M L F). length q.ends) (sym (a.1 d)) ∙ sym (length-map (get_or ds (length is) d).ends ring_of_end) ∙ ap length (all.each (length is) d a.0).ends ∙ sym all.count ∙ sym h.columns

    pub taken_all : (ds rest : List (Desk B M L F)) (is : List I) (cs : List C) → AreTaken ds rest is cs recv_of batch_of ends_of → AreAllDesks ds → length rest ≡ 0
        → (length is ≡ length ds) × (length cs ≡ length ds) × ((k : ℕ) (d : Desk B M L F) (i : I) (c : C) → k < length ds → IsRegrouped ds k (get_or ds k d) (recv_of (get_or is k i)) (batch_of (get_or is k i)) (ends_of (get_or cs k c)))
    taken_all ds rest is cs h all none =
        let left : length rest ≡ length ds - length is = ap length h.rest_is ∙ length-drop (length is) ds in
        let size : length is ≡ length ds = let w = h.within in omega arith in
        let kept : (j : ℕ) (x : Desk B M L F) → j < length ds → IsKept (get_or ds j x) = λ j x low. (let l = subst (λ n. j < n) (sym size) low in (h.inboxes j (nth_of is j l) l x).2) in (
          size,
          h.columns,
          λ k d i c low.
              let m = h.inboxes k i (subst (λ n. k < n) (sym size) low) d in
              regrouped ds k d (recv_of (get_or is k i)) (batch_of (get_or is k i)) (ends_of (get_or cs k c)) all kept low m.0 m.1 (subst (λ n. IsColumn ds n k (ends_of (get_or cs k c))) size (h.each k c low)),
        )

  -- ---- all rings

  -- the first rings are settled
  pub record AreSettled {I C : Type 0} (is rest : List I) (cs rest_cs : List C) (left : List (Event B M L F)) (recv_of : I → Receiver Letter (RunId F)) (batch_of : I → List (Event B M L F)) (ends_of : C → List (Sender Letter (RunId F))) : Type 0 where
    pub parts : List (List (Event B M L F))
    pub within : length parts ≤ length is
    pub rest_is : rest ≡ drop (length parts) is
    pub rest_cs_is : rest_cs ≡ drop (length parts) cs
    pub whole : left ≡ joined parts
    pub each : (k : ℕ) (p : List (Event B M L F)) → k < length parts → (i : I) (c : C) → IsRest (recv_of (get_or is k i)) (batch_of (get_or is k i)) (all_sent (ends_of (get_or cs k c))) (get_or parts k p)

  module _ {I C : Type 0} (recv_of : I → Receiver Letter (RunId F)) (batch_of : I → List (Event B M L F)) (ends_of : C → List (Sender Letter (RunId F))) where
    pub settled_more : (is rest next : List I) (cs rest_cs next_cs : List C) (left more part : List (Event B M L F)) (i : I) (c : C)
        → AreSettled is rest cs rest_cs left recv_of batch_of ends_of → rest ≡ i ∷ next → rest_cs ≡ c ∷ next_cs
        → IsRest (recv_of i) (batch_of i) (all_sent (ends_of c)) part → more ≡ left ++ part → AreSettled is next cs next_cs more recv_of batch_of ends_of
    settled_more is rest next cs rest_cs next_cs left more part i c h step step_cs one grown =
        let n = length h.parts in
        let a = front is n i next (sym h.rest_is ∙ step) in
        let b = front cs n c next_cs (sym h.rest_cs_is ∙ step_cs) in
        let long : length (h.parts ++ part ∷ []) ≡ n + 1 = length-append h.parts (part ∷ []) in
        record {
          parts = h.parts ++ part ∷ [];
          within = (let l = a.0 in omega arith);
          rest_is = a.2 ∙ ap (λ m. drop m is) (sym long);
          rest_cs_is = b.2 ∙ ap (λ m. drop m cs) (sym long);
          whole = grown ∙ ap (λ l. l ++ part) h.whole ∙ sym (joined_more h.parts part);
          each = each_grown (λ k (p : List (Event B M L F)). (i : I) (c : C) → IsRest (recv_of (get_or is k i)) (batch_of (get_or is k i)) (all_sent (ends_of (get_or cs k c))) p) h.parts (h.parts ++ part ∷ []) part refl h.each
              (λ y z. subst (λ x. IsRest (recv_of x) (batch_of x) (all_sent (ends_of (get_or cs n z))) part) (sym (a.1 y)) (subst (λ x. IsRest (recv_of i) (batch_of i) (all_sent (ends_of x)) part) (sym (b.1 z)) one));
        }

    pub settled_all : (is rest : List I) (cs rest_cs : List C) (left : List (Event B M L F)) → AreSettled is rest cs rest_cs left recv_of batch_of ends_of → length rest ≡ 0
        → (parts : List (List (Event B M L F))) × (length parts ≡ length is) × (left ≡ joined parts)
        × ((k : ℕ) (i : I) (c : C) (p : List (Event B M L F)) → k < length is → IsRest (recv_of (get_or is k i)) (batch_of (get_or is k i)) (all_sent (ends_of (get_or cs k c))) (get_or parts k p))
    settled_all is rest cs rest_cs left h none =
        let some : length rest ≡ length is - length h.parts = ap length h.rest_is ∙ length-drop (length h.parts) is in
        let size : length h.parts ≡ length is = let w = h.within in omega arith in
        (h.parts, size, h.whole, λ k i c p low. h.each k p (subst (λ n. k < n) (sym size) low) i c)

    -- by the desks again
    pub left_all : (ds : List (Desk B M L F)) (is : List I) (cs : List C) (events : List (Event B M L F))
        → length is ≡ length ds
        → ((k : ℕ) (d : Desk B M L F) (i : I) (c : C) → k < length ds → IsRegrouped ds k (get_or ds k d) (recv_of (get_or is k i)) (batch_of (get_or is k i)) (ends_of (get_or cs k c)))
        → length cs ≡ length ds
        → (parts : List (List (Event B M L F))) × (length parts ≡ length is) × (events ≡ joined parts)
        × ((k : ℕ) (i : I) (c : C) (p : List (Event B M L F)) → k < length is → IsRest (recv_of (get_or is k i)) (batch_of (get_or is k i)) (all_sent (ends_of (get_or cs k c))) (get_or parts k p))
        → AreLeft ds events
    left_all ds is cs events size regrouped cs_size h = record {
      parts = h.0;
      count = h.1 ∙ size;
      whole = h.2;
      each = λ k d p low.
          (let within : k < length is = subst (λ n. k < n) (sym size) low in
          let i = nth_of is k within in
          let c = nth_of cs k (subst (λ n. k < n) (sym cs_size) low) in
          let r = regrouped k d i c low in
          subst (λ q. IsRest q (get_or ds k d).batch (sent_to k ds) (get_or h.0 k p)) r.recv_is
          (subst (λ b. IsRest (recv_of (get_or is k i)) b (sent_to k ds) (get_or h.0 k p)) r.batch_is
          (subst (λ l. IsRest (recv_of (get_or is k i)) (batch_of (get_or is k i)) l (get_or h.0 k p)) r.sent (h.3 k i c p within))));
    }

    -- the next ring's ends
    pub next_paired : (is rest next : List I) (cs rest_cs next_cs : List C) (left : List (Event B M L F)) (i : I) (c : C)
        → AreSettled is rest cs rest_cs left recv_of batch_of ends_of → rest ≡ i ∷ next → rest_cs ≡ c ∷ next_cs
        → ((k : ℕ) (i : I) (c : C) → k < length is → IsPaired (recv_of (get_or is k i)) (batch_of (get_or is k i)) (ends_of (get_or cs k c)))
        → IsPaired (recv_of i) (batch_of i) (ends_of c)
    next_paired is rest next cs rest_cs next_cs left i c h step step_cs all =
        let a = front is (length h.parts) i next (sym h.rest_is ∙ step) in
        let b = front cs (length h.parts) c next_cs (sym h.rest_cs_is ∙ step_cs) in
        subst (λ x. IsPaired (recv_of x) (batch_of x) (ends_of c)) (a.1 i) (subst (λ x. IsPaired (recv_of (get_or is (length h.parts) i)) (batch_of (get_or is (length h.parts) i)) (ends_of x)) (b.1 c) (all (length h.parts) i c a.0))

    pub settled_none : (is rest : List I) (cs rest_cs : List C) (left : List (Event B M L F)) → rest ≡ is → rest_cs ≡ cs → left ≡ [] → AreSettled is rest cs rest_cs left recv_of batch_of ends_of
    settled_none is rest cs rest_cs left all all_cs none = record {
      parts = [];
      within = omega arith;
      rest_is = all;
      rest_cs_is = all_cs;
      whole = none;
      each = λ k p low. absurd (omega arith);
    }

    -- there are as many columns
    pub never_less : (is rest next : List I) (cs rest_cs : List C) (left : List (Event B M L F)) (i : I) → AreSettled is rest cs rest_cs left recv_of batch_of ends_of → length is ≡ length cs → rest ≡ i ∷ next → length rest_cs ≡ 0 → ⊥
    never_less is rest next cs rest_cs left i h same step none =
        let a = front is (length h.parts) i next (sym h.rest_is ∙ step) in
        let b : length rest_cs ≡ length cs - length h.parts = ap length h.rest_cs_is ∙ length-drop (length h.parts) cs in
        let l = a.0 in
        omega arith
