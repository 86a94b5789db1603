-- Threads that come and go.
use Rattle.std.proofs.Common.{◌≡◌, ◌-◌, ◌<◌, ℕ, suc, List, [], ◌∷◌, ◌++◌, length, take, drop, All, refl, sym, ap, subst, ◌∙◌, arith, Some}
use Rattle.std.specs.Prelude.{slice_get, remove}
use Rattle.std.proofs.lemmas.Option.{slice_get-get_or}
use Rattle.std.proofs.lemmas.List.{length_push}
use Rattle.std.proofs.lemmas.List.Elements.{All-append, All-take, All-drop}
use Rattle.std.proofs.Math.Seq.{get_or-append_seam}
use Rattle.lw_base.specs.declared.moves.Hop.{Hop}
use Rattle.lw_place.specs.declared.place.Place.{Place}
use Rattle.lw_place.specs.declared.place.Place.TheVariants as place
use Rattle.lw_thread.specs.Runs.{RunId}
use Rattle.lw_thread.specs.Threads.{Thread, IsThreadOf, last_of}
use Rattle.lw_event.specs.Events.{MayArrive}
use Rattle.lw_station.specs.Stations.{IsHere, Stands, Holds, MayGo}
use Rattle.lw_station.specs.Handling.{IsAt, arrived, at_place}

-- all that are left
pub All-remove : {X : Type 0} (P : X → Type 0) (xs : List X) (at : ℕ) → All P xs → All P (remove xs at)
All-remove P xs at all = All-append P (take at xs) (drop (suc at) xs) (All-take P at xs all) (All-drop P (suc at) xs all)

-- the last hop is the one that was noted last
pub last_push : (hs : List Hop) (h : Hop) → last_of (hs ++ h ∷ []) ≡ Some h
last_push hs h =
    let long = length_push hs h in
    let at : length (hs ++ h ∷ []) - 1 ≡ length hs = omega arith in
    let within : length hs < length (hs ++ h ∷ []) = omega arith in
    ap (λ n. slice_get (hs ++ h ∷ []) n) at ∙ slice_get-get_or (hs ++ h ∷ []) (length hs) h within ∙ ap Some (get_or-append_seam hs h [] h)

module _ {L F M B : Type 0} where
  -- wherever it stands, a thread is of its run
  pub of_run_at : (run : RunId F) (p : Place) (t : Thread L F M B) → IsThreadOf run t → IsThreadOf run (at_place p t)
  of_run_at run p t h = record {
    places = h.places;
    number = h.number;
    its_ring = h.its_ring;
    ring_number = h.ring_number;
    family = h.family;
    senders = h.senders;
    unsettled = h.unsettled;
    rings = h.rings;
    row = h.row;
    load_number = h.load_number;
    its_cell = h.its_cell;
  }

  -- what each thread meets, the one at a place meets
  pub at_place_all : (P : Thread L F M B → Type 0) (ts : List (Thread L F M B)) (number at : ℕ) (t : Thread L F M B) → IsAt ts number at t → All P ts → P t
  at_place_all P ts number at t i all = subst P (i.there t) (all at t i.range)

  module _ (run : RunId F) (reactor : ℕ) where
    pub listed_stands : (t : Thread L F M B) → IsThreadOf run t → Stands run reactor (at_place (place.List reactor) t)
    listed_stands t h = record { of_run = of_run_at run (place.List reactor) t h; place = refl }

    -- a thread of the list, brought back to it, is as it was
    pub back_again : (t : Thread L F M B) → Stands run reactor t → at_place (place.List reactor) t ≡ t
    back_again t s = λ i. record t { seat = record t.seat { place = (sym s.place) i } }

    pub arrived_stands : (round : ℕ) (t : Thread L F M B) → MayArrive reactor run round t → Stands run reactor (arrived reactor round t)
    arrived_stands round t m =
        let h = of_run_at run (place.List reactor) t m.of_run in record {
          of_run = record {
            places = h.places;
            number = h.number;
            its_ring = h.its_ring;
            ring_number = h.ring_number;
            family = h.family;
            senders = h.senders;
            unsettled = h.unsettled;
            rings = h.rings;
            row = h.row;
            load_number = h.load_number;
            its_cell = h.its_cell;
          };
          place = refl;
        }

    -- one that has arrived may be polled
    pub arrived_goes : (homes : List ℕ) (round : ℕ) (t : Thread L F M B) → MayArrive reactor run round t → MayGo reactor homes (arrived reactor round t)
    arrived_goes homes round t m = record {
      going = m.going;
      here = subst (IsHere reactor homes t.seat.thread) (sym (last_push t.trail (record { round = round; reactor = reactor }))) refl;
    }

    -- so may one that was started
    pub started_goes : (homes : List ℕ) (t : Thread L F M B) → Holds run reactor homes t → MayGo reactor homes (at_place (place.List reactor) t)
    started_goes homes t h = record {
      going = h.going;
      here = subst (λ hs. IsHere reactor homes t.seat.thread (last_of hs)) (sym h.no_hop) h.home;
    }
