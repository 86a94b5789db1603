-- What was sent to each thread is what the log of the history sends to it.
use Rattle.std.proofs.Common.{◌≡◌, ◌≢◌, ℕ, ◌<◌, ◌==◌, Bool, true, false, List, [], ◌∷◌, ◌++◌, All, length, refl, sym, ap, ap₂, subst, ◌∙◌, arith, append_assoc}
use Rattle.std.proofs.lemmas.Bool.{eqb-true, ne_eqb}
use Rattle.std.proofs.lemmas.List.{append-nil}
use Rattle.std.proofs.lemmas.List.Elements.{All-head, All-tail}
use Rattle.lw_base.specs.Letters.{list_at}
use Rattle.lw_base.specs.declared.moves.Hop.{Hop}
use Rattle.lw_model.specs.declared.script.Script.{Script}
use Rattle.lw_model.specs.declared.record.RoleKind.{RoleKind}
use Rattle.lw_model.specs.Sent.{to_thread}
use Rattle.lw_whole.specs.Letters.{Letter, Note}
use Rattle.lw_whole.specs.Logs.{all_sends}
use Rattle.lw_whole.specs.Unsent.{named_from}
use Rattle.lw_whole.proofs.Unsent.{to_append}
use Rattle.lw_history.specs.Histories.{Event, ran, did, called, ended, sends_of, last_of, all_of, numbered, flat, log_of}
use Rattle.lw_history.specs.Fitting.{SparesLast, ClientFits, AppFits, EachFits}
use Rattle.lw_history.specs.Made.{AreMade}
use Rattle.lw_history.proofs.Made.{to_another}
use Rattle.lw_history.proofs.Numbering.{to_numbered, numbered-append, flat_numbered, flat_push}

-- what one kind of fitting says of each event, another says too
pub each_fits_as : {P Q : List Event → Event → Type 0} → ((before : List Event) (e : Event) → P before e → Q before e) → (h : List Event) → EachFits P h → EachFits Q h
each_fits_as f [] k = tt
each_fits_as f (e ∷ before) k = (f before e k.0, each_fits_as f before k.1)

-- what an event sends spares the receivers of the last messages
abbrev pub Spares : List Event → Event → Type 0
Spares before (ran x now) = SparesLast (last_of before) now
Spares before (did x now) = SparesLast (last_of before) now
Spares before (called x) = Unit {0}
Spares before (ended now) = Unit {0}

nothing_spares : (last now : List (ℕ × Letter)) → now ≡ [] → SparesLast last now
nothing_spares last now e = subst (SparesLast last) (sym e) (λ k d l. absurd (omega (arith, l)))

client_spares : (s : Script) (t : ℕ) (before : List Event) (e : Event) → ClientFits s t before e → Spares before e
client_spares s t before (ran x now) h = h.spares
client_spares s t before (did x now) h = h.spares
client_spares s t before (called x) h = tt
client_spares s t before (ended now) h = tt

app_spares : (s : Script) (before : List Event) (e : Event) → AppFits s before e → Spares before e
app_spares s before (ran x now) h = h.spares
app_spares s before (did x now) h = nothing_spares (last_of before) now h.sent
app_spares s before (called x) h = tt
app_spares s before (ended now) h = tt

to_none : (u : ℕ) (ps : List (ℕ × Letter)) → All (λ q. q.0 ≢ u) ps → to_thread u ps ≡ []
to_none u [] h = refl
to_none u (p ∷ ps) h =
    to_append u (p ∷ []) ps ∙ ap₂ (λ (a b : List Letter). a ++ b) (to_another u p (ne_eqb p.0 u (All-head (λ q. q.0 ≢ u) p ps h))) (to_none u ps (All-tail (λ q. q.0 ≢ u) p ps h))

-- so the last messages may stand behind it
either_way : (u : ℕ) (last now : List (ℕ × Letter)) → SparesLast last now → to_thread u last ++ to_thread u now ≡ to_thread u now ++ to_thread u last
either_way u last [] h = append-nil (to_thread u last)
either_way u last (p ∷ now) h = at (p.0 == u) refl (either_way u last now (All-tail (λ (r : ℕ × Letter). All (λ (q : ℕ × Letter). q.0 ≢ r.0) last) p now h))
  where
    here : All (λ q. q.0 ≢ p.0) last
    here = All-head (λ (r : ℕ × Letter). All (λ (q : ℕ × Letter). q.0 ≢ r.0) last) p now h

    at : (b : Bool) → (p.0 == u) ≡ b → to_thread u last ++ to_thread u now ≡ to_thread u now ++ to_thread u last → to_thread u last ++ to_thread u (p ∷ now) ≡ to_thread u (p ∷ now) ++ to_thread u last
    at true e rest =
        let none : to_thread u last ≡ [] = to_none u last (subst (λ n. All (λ q. q.0 ≢ n) last) (eqb-true p.0 u e) here) in
        ap (λ l. l ++ to_thread u (p ∷ now)) none ∙ sym (append-nil (to_thread u (p ∷ now))) ∙ ap (λ l. to_thread u (p ∷ now) ++ l) (sym none)
    at false e rest =
        let other : to_thread u (p ∷ now) ≡ to_thread u now = to_append u (p ∷ []) now ∙ ap (λ l. l ++ to_thread u now) (to_another u p e) in
        ap (λ l. to_thread u last ++ l) other
        ∙ rest
        ∙ ap (λ l. l ++ to_thread u last) (sym other)

-- what goes to a thread of all sends is what its steps send to it, and then what the thread sent last
to_all : (u : ℕ) (h : List Event) → EachFits Spares h → to_thread u (all_of h) ≡ to_thread u (flat (sends_of h)) ++ to_thread u (last_of h)
to_all u [] fits = refl
to_all u (e ∷ before) fits = at e fits.0 (to_all u before fits.1)
  where
    sends : List (ℕ × Letter)
    sends = flat (sends_of before)

    last : List (ℕ × Letter)
    last = last_of before

    all : List (ℕ × Letter)
    all = all_of before

    step : (now : List (ℕ × Letter)) → SparesLast last now → to_thread u all ≡ to_thread u sends ++ to_thread u last → to_thread u (all ++ now) ≡ to_thread u (flat (sends_of before ++ now ∷ [])) ++ to_thread u last
    step now spares go =
        to_append u all now
        ∙ ap (λ l. l ++ to_thread u now) go
        ∙ append_assoc (to_thread u sends) (to_thread u last) (to_thread u now)
        ∙ ap (λ l. to_thread u sends ++ l) (either_way u last now spares)
        ∙ sym (append_assoc (to_thread u sends) (to_thread u now) (to_thread u last))
        ∙ ap (λ l. l ++ to_thread u last) (sym (ap (to_thread u) (flat_push (sends_of before) now) ∙ to_append u sends now))

    at : (e : Event) → Spares before e → to_thread u all ≡ to_thread u sends ++ to_thread u last → to_thread u (all_of (e ∷ before)) ≡ to_thread u (flat (sends_of (e ∷ before))) ++ to_thread u (last_of (e ∷ before))
    at (ran x now) spares go = step now spares go
    at (did x now) spares go = step now spares go
    at (called x) spares go = go
    at (ended now) spares go =
        to_append u all now ∙ ap (λ l. l ++ to_thread u now) go ∙ append_assoc (to_thread u sends) (to_thread u last) (to_thread u now) ∙ ap (λ l. to_thread u sends ++ l) (sym (to_append u last now))

module _ (t : ℕ) (sent : List (List Letter)) (h : List Event) (role : RoleKind) (home : ℕ) (hops : List Hop) (own row : List Note) where
  are_the_logs : EachFits Spares h → AreMade t sent [] (all_of h) → (u : ℕ) → u < length sent → list_at sent u ≡ to_thread u (all_sends (log_of t role home hops h own row))
  are_the_logs fits made u within =
      made.each u within
      ∙ ap (λ l. named_from t 0 (to_thread u l)) (sym (made.parts ∙ append-nil made.made))
      ∙ ap (named_from t 0) (to_all u h fits ∙ sym (to_append u (flat (sends_of h)) (last_of h)))
      ∙ sym (to_numbered t u [] (flat (sends_of h) ++ last_of h))
      ∙ ap (to_thread u) (numbered-append t [] (flat (sends_of h)) (last_of h) ∙ ap (λ l. l ++ numbered t (flat (sends_of h)) (last_of h)) (sym (flat_numbered t [] (sends_of h))))

pub client_sends_are_the_logs : (s : Script) (t : ℕ) (sent : List (List Letter)) (h : List Event) (role : RoleKind) (home : ℕ) (hops : List Hop) (own row : List Note)
    → EachFits (ClientFits s t) h → AreMade t sent [] (all_of h) → (u : ℕ) → u < length sent → list_at sent u ≡ to_thread u (all_sends (log_of t role home hops h own row))
client_sends_are_the_logs s t sent h role home hops own row fits = are_the_logs t sent h role home hops own row (each_fits_as (client_spares s t) h fits)

pub app_sends_are_the_logs : (s : Script) (sent : List (List Letter)) (h : List Event) (role : RoleKind) (home : ℕ) (hops : List Hop) (own row : List Note)
    → EachFits (AppFits s) h → AreMade 0 sent [] (all_of h) → (u : ℕ) → u < length sent → list_at sent u ≡ to_thread u (all_sends (log_of 0 role home hops h own row))
app_sends_are_the_logs s sent h role home hops own row fits = are_the_logs 0 sent h role home hops own row (each_fits_as (app_spares s) h fits)
