-- New event rings, and the desks that are made of them.
use Rattle.std.proofs.Common.{◌≡◌, ℕ, ◌+◌, ◌<◌, ◌≤◌, List, [], ◌∷◌, ◌++◌, length, map, drop, get_or, All, Some, None, refl, sym, ap, subst, ◌∙◌, arith, length-append}
use Rattle.std.proofs.lemmas.List.{map-append, length-map, get_or-map}
use Rattle.std.proofs.lemmas.List.Elements.{All-push, All-same}
use Rattle.lw_place.specs.PlaceWord.{most_reactors}
use Rattle.lw_ring.specs.Ends.{Sender, Receiver, new_sender, new_receiver}
use Rattle.lw_thread.specs.Runs.{RunId, IsRow, IsRowEnd, ring_of_end, ring_of_recv}
use Rattle.lw_event.specs.Letters.{Letter}
use Rattle.lw_event.specs.Desks.{Desk, IsKept, AreNewDesks, HasReactors}
use Rattle.lw_event.specs.Making.{AreNewRecvs, IsNewRow, AreParts, new_desk}
use Rattle.lw_event.proofs.Dealt.{each_grown, front}

pub nth_of : {X : Type 0} (xs : List X) (k : ℕ) → k < length xs → X
nth_of [] k lt = absurd (omega arith)
nth_of (x ∷ xs) k lt = x

module _ {F : Type 0} (run : RunId F) where
  pub first_row : (k : ℕ) (recvs : List (Receiver Letter (RunId F))) (es : List (Sender Letter (RunId F))) → recvs ≡ [] → es ≡ [] → IsNewRow run (map ring_of_recv recvs) k es
  first_row k recvs es none empty = subst (λ (rs : List (Receiver Letter (RunId F))). IsNewRow run (map ring_of_recv rs) k es) (sym none)
      (subst (IsNewRow run [] k) (sym empty) (record {
        rings_are = refl;
        row = λ j d low. absurd (omega arith);
        all_open = λ j d low. absurd (omega arith);
        unsent = λ j d low. absurd (omega arith);
      }))

  pub row_more : (count number k : ℕ) (recvs more : List (Receiver Letter (RunId F))) (r : Receiver Letter (RunId F)) (old new : List (Sender Letter (RunId F))) (e : Sender Letter (RunId F))
      → more ≡ recvs ++ r ∷ [] → new ≡ old ++ e ∷ [] → r ≡ new_receiver r.queue None number (Some run) count → e ≡ new_sender r.queue None number (Some run) k → length recvs ≡ number
      → IsNewRow run (map ring_of_recv recvs) k old → IsNewRow run (map ring_of_recv more) k new
  row_more count number k recvs more r old new e grown longer made is size row =
      let long : length old ≡ number = sym (length-map old ring_of_end) ∙ ap length row.rings_are ∙ length-map recvs ring_of_recv ∙ size in
      let no_latch : None ≡ r.latch = sym (ap (λ (x : Receiver Letter (RunId F)). x.latch) made) in
      let ring : ring_of_end e ≡ ring_of_recv r = ap ring_of_end is ∙ (λ i. record { queue = r.queue; latch = no_latch i }) in
      record {
        rings_are = ap (map ring_of_end) longer
            ∙ (map-append ring_of_end old (e ∷ [])
            ∙ ((λ i. row.rings_are i ++ ring i ∷ [])
            ∙ (sym (map-append ring_of_recv recvs (r ∷ [])) ∙ ap (map ring_of_recv) (sym grown))));
        row = each_grown (λ j (x : Sender Letter (RunId F)). IsRowEnd (Some run) k j x) old new e longer row.row
            (record {
              from = ap (λ (x : Sender Letter (RunId F)). x.sender) is;
              number = ap (λ (x : Sender Letter (RunId F)). x.number) is ∙ sym long;
              of_family = ap (λ (x : Sender Letter (RunId F)). x.family) is;
            });
        all_open = All-same (λ (x : Sender Letter (RunId F)). x.latch ≡ None) new (old ++ e ∷ []) longer
            (All-push (λ (x : Sender Letter (RunId F)). x.latch ≡ None) old e row.all_open (ap (λ (x : Sender Letter (RunId F)). x.latch) is));
        unsent = All-same (λ (x : Sender Letter (RunId F)). (x.sent ≡ []) × (x.found ≡ 0)) new (old ++ e ∷ []) longer
            (All-push (λ (x : Sender Letter (RunId F)). (x.sent ≡ []) × (x.found ≡ 0)) old e row.unsent (ap (λ (x : Sender Letter (RunId F)). x.sent) is, ap (λ (x : Sender Letter (RunId F)). x.found) is));
      }

  -- a row and a receiving end make a desk
  pub parts : (count k : ℕ) (recvs : List (Receiver Letter (RunId F))) (r : Receiver Letter (RunId F)) (es : List (Sender Letter (RunId F)))
      → length recvs ≡ count → 1 ≤ count → count ≤ most_reactors → run.places.reactors ≡ count
      → r ≡ new_receiver r.queue None k (Some run) count → IsNewRow run (map ring_of_recv recvs) k es → AreParts k r es
  parts count k recvs r es size some few reactors made row =
      let long : length es ≡ count = sym (length-map es ring_of_end) ∙ ap length row.rings_are ∙ length-map recvs ring_of_recv ∙ size in
      let family : r.family ≡ Some run = ap (λ (x : Receiver Letter (RunId F)). x.family) made in
      record {
        recv_is = made ∙ (λ i. new_receiver r.queue None k (sym family i) (sym long i));
        some = subst (λ n. 1 ≤ n) (sym long) some;
        few = subst (λ n. n ≤ most_reactors) (sym long) few;
        run = subst (HasReactors (length es)) (sym family) (reactors ∙ sym long);
        row = subst (λ o. IsRow o k es) (sym family) row.row;
        all_open = row.all_open;
      }

  pub desks_are : {B M L : Type 0} {V : Type 0} (f : V → List (Sender Letter (RunId F))) (count : ℕ) (recvs : List (Receiver Letter (RunId F))) (rows : List V) (ds : List (Desk B M L F))
      → length recvs ≡ count → length rows ≡ count → AreNewRecvs run count recvs → ((k : ℕ) (e : V) → k < count → IsNewRow run (map ring_of_recv recvs) k (f (get_or rows k e)))
      → length ds ≡ length recvs
      → ((k : ℕ) (d : Desk B M L F) (r : Receiver Letter (RunId F)) (e : V) → k < length recvs → get_or ds k d ≡ new_desk k (get_or recvs k r) (f (get_or rows k e)))
      → AreNewDesks run count ds
  desks_are {B} {M} {L} f count recvs rows ds size row_size made row long each = record {
    rings = map ring_of_recv recvs;
    ring_count = length-map recvs ring_of_recv ∙ size;
    desk_count = long ∙ size;
    each = λ k d low.
        (let within : k < length recvs = omega arith in
        let r = nth_of recvs k within in
        let e = nth_of rows k (omega arith) in
        let is = each k d r e within in
        let new = made k r within in
        let its = row k e low in (
          record {
            number = ap (λ (x : Desk B M L F). x.number) is;
            its_ring = λ x. get_or-map ring_of_recv recvs k r x within ∙ ap (λ (y : Desk B M L F). ring_of_recv y.recv) (sym is);
            family = ap (λ (y : Desk B M L F). y.recv.family) is ∙ ap (λ (y : Receiver Letter (RunId F)). y.family) new;
            ends = ap (λ (y : Desk B M L F). map ring_of_end y.ends) is ∙ its.rings_are;
          },
          record {
            recv = subst (λ (q : Receiver Letter (RunId F)). q ≡ new_receiver q.queue None k (Some run) count) (sym (ap (λ (y : Desk B M L F). y.recv) is)) new;
            unsent = subst (λ (es : List (Sender Letter (RunId F))). All (λ x. (x.sent ≡ []) × (x.found ≡ 0)) es) (sym (ap (λ (y : Desk B M L F). y.ends) is)) its.unsent;
            no_batch = ap (λ (y : Desk B M L F). y.batch) is;
          },
        ));
  }

-- what a new desk keeps
pub new_kept : {B M L F : Type 0} (number : ℕ) (recv : Receiver Letter (RunId F)) (es : List (Sender Letter (RunId F))) → AreParts number recv es → IsKept (new_desk {B = B} {M = M} {L = L} {F = F} number recv es)
new_kept {F = F} number recv es p = record {
  number = ap (λ (x : Receiver Letter (RunId F)). x.number) p.recv_is;
  no_latch = ap (λ (x : Receiver Letter (RunId F)). x.latch) p.recv_is;
  not_closed = ap (λ (x : Receiver Letter (RunId F)). x.closed) p.recv_is;
  unsettled = ap (λ (x : Receiver Letter (RunId F)). x.known) p.recv_is;
  senders = ap (λ (x : Receiver Letter (RunId F)). x.senders) p.recv_is;
  some = p.some;
  few = p.few;
  run = p.run;
  row = p.row;
  all_open = p.all_open;
  handed = [];
  taken = ap (λ (x : Receiver Letter (RunId F)). x.taken) p.recv_is;
  fits = λ j d low. absurd (omega arith);
}

-- the first desks are made, of the first receiving ends and rows
pub record AreMade {B M L F V : Type 0} (f : V → List (Sender Letter (RunId F))) (recvs rest : List (Receiver Letter (RunId F))) (rows rest_rows : List V) (ds : List (Desk B M L F)) : Type 0 where
  pub within : length ds ≤ length recvs
  pub rest_is : rest ≡ drop (length ds) recvs
  pub rows_are : rest_rows ≡ drop (length ds) rows
  pub each : (k : ℕ) (d : Desk B M L F) (r : Receiver Letter (RunId F)) (e : V) → k < length ds → get_or ds k d ≡ new_desk k (get_or recvs k r) (f (get_or rows k e))

module _ {B M L F V : Type 0} (f : V → List (Sender Letter (RunId F))) where
  pub made_more : (recvs rest next : List (Receiver Letter (RunId F))) (rows rest_rows next_rows : List V) (ds more : List (Desk B M L F)) (r : Receiver Letter (RunId F)) (v : V) (d : Desk B M L F) (number : ℕ)
      → AreMade f recvs rest rows rest_rows ds → rest ≡ r ∷ next → rest_rows ≡ v ∷ next_rows → number ≡ length ds → d ≡ new_desk number r (f v) → more ≡ ds ++ d ∷ []
      → AreMade f recvs next rows next_rows more
  made_more recvs rest next rows rest_rows next_rows ds more r v d number h step row_step at is grown =
      let n = length ds in
      let a = front recvs n r next (sym h.rest_is ∙ step) in
      let b = front rows n v next_rows (sym h.rows_are ∙ row_step) in
      let long : length more ≡ n + 1 = ap length grown ∙ length-append ds (d ∷ []) in
      record {
        within = (let l = a.0 in omega arith);
        rest_is = a.2 ∙ ap (λ m. drop m recvs) (sym long);
        rows_are = b.2 ∙ ap (λ m. drop m rows) (sym long);
        each = λ k x y e low. each_grown (λ k x. (y : Receiver Letter (RunId F)) (e : V) → x ≡ new_desk k (get_or recvs k y) (f (get_or rows k e))) ds more d grown (λ k x low y e. h.each k x y e low)
            (λ y e. is ∙ ap (λ m. new_desk m r (f v)) at ∙ (λ i. new_desk n (sym (a.1 y) i) (f (sym (b.1 e) i)))) k x low y e;
      }

  -- the parts of the next desk
  pub next_parts : (recvs rest next : List (Receiver Letter (RunId F))) (rows rest_rows next_rows : List V) (ds : List (Desk B M L F)) (r : Receiver Letter (RunId F)) (v : V) (number : ℕ)
      → AreMade f recvs rest rows rest_rows ds → rest ≡ r ∷ next → rest_rows ≡ v ∷ next_rows → number ≡ length ds
      → ((k : ℕ) (y : Receiver Letter (RunId F)) (e : V) → k < length recvs → AreParts k (get_or recvs k y) (f (get_or rows k e))) → (number < length recvs) × AreParts number r (f v)
  next_parts recvs rest next rows rest_rows next_rows ds r v number h step row_step at all =
      let a = front recvs (length ds) r next (sym h.rest_is ∙ step) in
      let b = front rows (length ds) v next_rows (sym h.rows_are ∙ row_step) in
      let here = subst (λ x. AreParts (length ds) (get_or recvs (length ds) r) (f x)) (b.1 v) (all (length ds) r v a.0) in
      subst (λ m. (m < length recvs) × AreParts m r (f v)) (sym at) (a.0, subst (λ x. AreParts (length ds) x (f v)) (a.1 r) here)
