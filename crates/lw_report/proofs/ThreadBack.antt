-- A thread's lines are read back.
use Rattle.std.proofs.Common.{◌≡◌, ℕ, ◌+◌, nat_lt, true, ◌&&◌, List, [], ◌∷◌, ◌++◌, map, length, codes, decimal, Option, None, Result, Ok, refl, sym, ap, subst, ◌∙◌}
use Rattle.std.specs.List.{list_all}
use Rattle.std.proofs.lemmas.Bool.{and_parts}
use Rattle.lw_base.specs.declared.message.Tag.{Tag}
use Rattle.lw_model.specs.declared.script.Script.{Script}
use Rattle.lw_model.specs.declared.record.ThreadRecord.{ThreadRecord}
use Rattle.lw_model.specs.declared.record.Called.{Called}
use Rattle.lw_base.specs.declared.ends.DeviceEnd.{DeviceEnd}
use Rattle.lw_model.specs.declared.record.Span.{Span}
use Rattle.lw_model.specs.Printable.{has_a_line, has_role, may_reply, is_printable_thread}
use Rattle.lw_model.specs.ReportText.{line, hop_line, ran_line, did_line, called_line, reply_line, seen_line, thread_line, thread_lines as lines_of_thread, device_line}
use Rattle.lw_model.specs.Ranges.{Fits64, HopFits, TagFits, DidFits, CalledFits, ThreadFits}
use Rattle.lw_report_lines.specs.LineKinds.{hop_in, ran_in, did_in, called_in, reply_in, seen_in, thread_in}
use Rattle.lw_report.specs.Machine.{State, ◌>>=◌, one}
use Rattle.lw_report.specs.Report.{thread_lines, thread_at}
use Rattle.lw_report.proofs.Reading.{state}
use Rattle.lw_report.proofs.ReportTexts.{fed}
use Rattle.lw_report.proofs.Chains.{thread_of_lines}
use Rattle.lw_report_lines.proofs.Moves.{clock_line}
use Rattle.lw_report_lines.proofs.LinesBack.{hop_back, ran_back, did_back, called_back, thread_back}
use Rattle.lw_report.proofs.MachineBack.{fed_both, one_back, Stops, stops_over, many_back, Back, NextThread, role_is, both_fit, own_read}

-- the lines that stand behind one of a kind, as they follow each other
module _ (images : ℕ) (x : ThreadRecord) (R : List (List ℕ)) where
  abbrev own_rest : List (List ℕ)
  own_rest = fed (map reply_line x.replies) ++ (fed (map seen_line x.seen) ++ R)

  abbrev called_rest : List (List ℕ)
  called_rest = fed (map called_line x.called) ++ own_rest

  abbrev did_rest : List (List ℕ)
  did_rest = fed (map did_line x.did) ++ called_rest

  abbrev ran_rest : List (List ℕ)
  ran_rest = fed (map ran_line x.ran) ++ did_rest

  abbrev hop_rest : List (List ℕ)
  hop_rest = fed (map hop_line x.hops) ++ ran_rest

  spread : (first : List ℕ) → fed (first ∷ map hop_line x.hops ++ map ran_line x.ran ++ map did_line x.did ++ map called_line x.called ++ map reply_line x.replies ++ map seen_line x.seen) ++ R ≡ (first ++ 10 ∷ []) ∷ hop_rest
  spread first =
      let hops = map hop_line x.hops in
      let ran = map ran_line x.ran in
      let did = map did_line x.did in
      let called = map called_line x.called in
      let replies = map reply_line x.replies in
      let seen = map seen_line x.seen in
      fed_both (first ∷ hops ++ ran ++ did ++ called ++ replies) seen R
      ∙ fed_both (first ∷ hops ++ ran ++ did ++ called) replies (fed seen ++ R)
      ∙ fed_both (first ∷ hops ++ ran ++ did) called (fed replies ++ (fed seen ++ R))
      ∙ fed_both (first ∷ hops ++ ran) did (fed called ++ (fed replies ++ (fed seen ++ R)))
      ∙ fed_both (first ∷ hops) ran (fed did ++ (fed called ++ (fed replies ++ (fed seen ++ R))))

  module _ (next : NextThread images R) where
    own_stops : {X : Type 0} (f : List ℕ → Option X) → ((r : _) → f (reply_line r ++ 10 ∷ []) ≡ None) → ((q : _) → f (seen_line q ++ 10 ∷ []) ≡ None) → Stops f R → Stops f own_rest
    own_stops f a b last = stops_over f reply_line a x.replies (fed (map seen_line x.seen) ++ R) (stops_over f seen_line b x.seen R last)

    called_stops : Stops (called_in images) own_rest
    called_stops = own_stops (called_in images) (λ r. refl) (λ q. refl) next.called

    did_stops : Stops did_in called_rest
    did_stops = stops_over did_in called_line (λ c. refl) x.called own_rest (own_stops did_in (λ r. refl) (λ q. refl) next.did)

    ran_stops : Stops ran_in did_rest
    ran_stops = stops_over ran_in did_line (λ d. refl) x.did called_rest (stops_over ran_in called_line (λ c. refl) x.called own_rest (own_stops ran_in (λ r. refl) (λ q. refl) next.ran))

    hop_stops : Stops hop_in ran_rest
    hop_stops =
        stops_over hop_in ran_line (λ m. refl) x.ran did_rest
        (stops_over hop_in did_line (λ d. refl) x.did called_rest (stops_over hop_in called_line (λ c. refl) x.called own_rest (own_stops hop_in (λ r. refl) (λ q. refl) next.hop)))

-- the parts of the rule for a thread
record ThreadParts (script : Script) (n : ℕ) (x : ThreadRecord) : Type 0 where
  role : has_role (length script.clients) n x.role ≡ true
  own : may_reply x.role x ≡ true
  ran : list_all (λ (m : Tag). has_a_line m.what) x.ran ≡ true
  called : list_all (λ (c : Called). nat_lt c.device (length script.images)) x.called ≡ true

thread_parts : (script : Script) (n : ℕ) (x : ThreadRecord) → is_printable_thread script n x ≡ true → ThreadParts script n x
thread_parts script n x e =
    let a = has_role (length script.clients) n x.role in
    let b = may_reply x.role x in
    let c = list_all (λ (m : Tag). has_a_line m.what) x.ran in
    let d = list_all (λ (q : Called). nat_lt q.device (length script.images)) x.called in
    let h = and_parts (a && b && c) d e in
    let k = and_parts (a && b) c h.0 in
    let m = and_parts a b k.0 in
    record { role = m.0; own = m.1; ran = k.1; called = h.1 }

pub thread_read : (script : Script) (n : ℕ) (x : ThreadRecord) (s : State) (R : List (List ℕ)) → ThreadFits x → is_printable_thread script n x ≡ true → Fits64 n → NextThread (length script.images) R
    → s.lines ≡ fed (lines_of_thread n x) ++ R → Back (thread_at (length script.clients) (length script.images) n s) x R
thread_read script n x s R fit printable small next e =
    let images = length script.images in
    let p = thread_parts script n x printable in
    let first = thread_line n x in
    let a = one_back (thread_in x.role n) s (first ++ 10 ∷ []) (hop_rest images x R) x.home (e ∙ spread images x R first) (thread_back x.role n x.home small fit.home) in
    let s0 = state (s.line + 1) (hop_rest images x R) in
    let e1 = many_back hop_in hop_line HopFits hop_back x.hops fit.hops s0 (ran_rest images x R) (hop_stops images x R next) refl in
    let s1 = state (s0.line + length x.hops) (ran_rest images x R) in
    let e2 = many_back ran_in ran_line (λ m. TagFits m × (has_a_line m.what ≡ true)) (λ m h. ran_back m h.0 h.1) x.ran (both_fit TagFits (λ m. has_a_line m.what) x.ran fit.ran p.ran) s1 (did_rest images x R) (ran_stops images x R next) refl in
    let s2 = state (s1.line + length x.ran) (did_rest images x R) in
    let e3 = many_back did_in did_line DidFits did_back x.did fit.did s2 (called_rest images x R) (did_stops images x R next) refl in
    let s3 = state (s2.line + length x.did) (called_rest images x R) in
    let e4 = many_back (called_in images) called_line (λ c. CalledFits c × (nat_lt c.device images ≡ true)) (λ c h. called_back images c h.0 h.1) x.called (both_fit CalledFits (λ c. nat_lt c.device images) x.called fit.called p.called) s3 (own_rest images x R) (called_stops images x R next) refl in
    let s4 = state (s3.line + length x.called) (own_rest images x R) in
    let own = own_read x.role x images s4 R p.own fit.replies fit.seen next refl in
    let all = thread_of_lines x.role x.home images s0 s1 s2 s3 s4 x.hops x.ran x.did x.called ((x.replies, x.seen), own.0) e1 e2 e3 e4 own.2 in (
      own.0,
      own.1,
      ap (λ r. one (thread_in r n) s >>= (λ h. Ok (thread_lines r h.0 images h.1))) (sym (role_is (length script.clients) n x.role p.role))
          ∙ ap (λ (r : Result (ℕ × State) ℕ). r >>= (λ h. Ok (thread_lines x.role h.0 images h.1))) a
          ∙ ap (λ (q : ThreadRecord × State). Ok q) (sym all),
    )

-- what stands behind a thread: another thread, a device, the clock's line or the pool's
pub next_thread : (images n : ℕ) (x : ThreadRecord) (R : List (List ℕ)) → NextThread images (fed (lines_of_thread n x) ++ R)
next_thread images n x R = record { hop = by hop_in refl; ran = by ran_in refl; did = by did_in refl; called = by (called_in images) refl; reply = by reply_in refl; seen = by seen_in refl }
  where
    by : {X : Type 0} (f : List ℕ → Option X) → f (thread_line n x ++ 10 ∷ []) ≡ None → Stops f (fed (lines_of_thread n x) ++ R)
    by f none = subst (Stops f) (sym (spread images x R (thread_line n x))) none

pub next_device : (images n : ℕ) (x : DeviceEnd) (R : List (List ℕ)) → NextThread images ((device_line n x ++ 10 ∷ []) ∷ R)
next_device images n x R = record { hop = refl; ran = refl; did = refl; called = refl; reply = refl; seen = refl }

pub next_home : (images small large : ℕ) (R : List (List ℕ)) → NextThread images ((line (codes "home" ∷ decimal small ∷ decimal large ∷ []) ++ 10 ∷ []) ∷ R)
next_home images small large R = record { hop = refl; ran = refl; did = refl; called = refl; reply = refl; seen = refl }

pub next_clock : (images : ℕ) (span : Span) (R : List (List ℕ)) → NextThread images ((clock_line span ++ 10 ∷ []) ∷ R)
next_clock images span R = record { hop = refl; ran = refl; did = refl; called = refl; reply = refl; seen = refl }
