-- What a body's calls add. For whoever writes a body.
use Rattle.std.proofs.Common.{◌≡◌, ℕ, true, [], ◌∷◌, ◌++◌, inl, inr, refl, sym, ap, subst, ◌∙◌, append_assoc, Ok, Err}
use Rattle.std.specs.Prelude.{List, IfOk, IfErr, OnOk, OnErr}
use Rattle.std.specs.declared.result.Result.{Result}
use Rattle.std.proofs.lemmas.List.{append-nil}
use Rattle.lw_poller.specs.declared.names.PollerId.{PollerId}
use Rattle.lw_poller.specs.declared.names.PollerRefusal.{PollerRefusal}
use Rattle.lw_poller.specs.Pollers.{Pollers}
use Rattle.lw_poller.specs.Changes.{IsLeastFree, AddsTimed, Pauses, Resumes, Removes, IsUnknown, with_active}
use Rattle.lw_thread.specs.Acts.{ActsEnd, IsAsked}
use Rattle.lw_thread.specs.Calls.{Adds}
use Rattle.lw_thread.specs.PollerChanges.{IsChange, AreChanges}

changes_both : (us vs : List Pollers) (s t u : Pollers) → AreChanges s us t → AreChanges t vs u → AreChanges s (us ++ vs) u
changes_both [] vs s t u a b = subst (λ (x : Pollers). AreChanges x vs u) a b
changes_both (x ∷ xs) vs s t u a b = (a.0, changes_both xs vs x t u a.1 b)

module _ {M : Type 0} where
  pub adds_none : (a : ActsEnd M) → Adds a a
  adds_none a = record { more = []; pending = sym (append-nil a.pending); starts = []; started = sym (append-nil a.started); threads = refl; ran = refl; changes = []; pollers = refl; end = λ e. e }

  -- one after the other
  pub adds_both : (a b c : ActsEnd M) → Adds a b → Adds b c → Adds a c
  adds_both a b c h i = record {
    more = h.more ++ i.more;
    pending = i.pending ∙ ap (λ l. l ++ i.more) h.pending ∙ append_assoc a.pending h.more i.more;
    starts = h.starts ++ i.starts;
    started = i.started ∙ ap (λ l. l ++ i.starts) h.started ∙ append_assoc a.started h.starts i.starts;
    threads = i.threads ∙ h.threads;
    ran = i.ran ∙ h.ran;
    changes = h.changes ++ i.changes;
    pollers = changes_both h.changes i.changes a.pollers b.pollers c.pollers h.pollers i.pollers;
    end = λ e. i.end (h.end e);
  }

  -- the same acts
  pub adds_same : (a b : ActsEnd M) → b ≡ a → Adds a b
  adds_same a b e = subst (λ (x : ActsEnd M). Adds a x) (sym e) (adds_none a)

  -- a send
  pub adds_send : {L F : Type 0} (letter : M → L) (marked : L → ℕ → ℕ → L) (fits : ℕ → F → M → Type 0) (to : ℕ) (message : M) (a b : ActsEnd M) → IsAsked letter marked fits to message a b → Adds a b
  adds_send letter marked fits to message a b h = subst (λ (x : ActsEnd M). Adds a x) (sym h.added)
      (record { more = record { to = to; what = h.waiting } ∷ []; pending = refl; starts = []; started = sym (append-nil a.started); threads = refl; ran = refl; changes = []; pollers = refl; end = λ e. e })

  -- a start
  pub adds_start : (thread : ℕ) (a b : ActsEnd M) → b ≡ record a { started = a.started ++ thread ∷ [] } → Adds a b
  adds_start thread a b h = subst (λ (x : ActsEnd M). Adds a x) (sym h)
      (record { more = []; pending = sym (append-nil a.pending); starts = thread ∷ []; started = refl; threads = refl; ran = refl; changes = []; pollers = refl; end = λ e. e })

  -- the end is asked for
  pub adds_end : (a b : ActsEnd M) → b ≡ record a { asked_end = true } → Adds a b
  adds_end a b h = subst (λ (x : ActsEnd M). Adds a x) (sym h)
      (record { more = []; pending = sym (append-nil a.pending); starts = []; started = sym (append-nil a.started); threads = refl; ran = refl; changes = []; pollers = refl; end = λ e. refl })

  -- the pollers change by one call
  pub adds_change : (a b : ActsEnd M) → b ≡ record a { pollers = b.pollers } → IsChange a.pollers b.pollers → Adds a b
  adds_change a b h c =
      let ps : Pollers = b.pollers in
      subst (λ (x : ActsEnd M). Adds a x) (sym h)
      (record { more = []; pending = sym (append-nil a.pending); starts = []; started = sym (append-nil a.started); threads = refl; ran = refl; changes = ps ∷ []; pollers = (c, refl); end = λ e. e })

  -- or not
  adds_unknown : (number : ℕ) (e : PollerRefusal) (a b : ActsEnd M) → b ≡ record a { pollers = b.pollers } → IsUnknown number a.pollers b.pollers e → Adds a b
  adds_unknown number e a b h u = adds_same a b (h ∙ ap (λ (p : Pollers). record a { pollers = p }) u.2)

  -- `Acts::add_active`
  pub adds_active : (r : Result PollerId PollerRefusal) (a b : ActsEnd M) → IfOk r (λ id. IsLeastFree a.pollers id.0) → IfOk r (λ id. b ≡ record a { pollers = with_active id.0 a.pollers }) → OnErr r (b ≡ a) → Adds a b
  adds_active (Ok id) a b free added same =
      let at = ap (λ (x : ActsEnd M). x.pollers) added in
      adds_change a b (added ∙ ap (λ (p : Pollers). record a { pollers = p }) (sym at)) (inl (id.0, free, at))
  adds_active (Err e) a b free added same = adds_same a b same

  -- `Acts::add_timed`
  pub adds_timed : (now period : ℕ) (r : Result PollerId PollerRefusal) (a b : ActsEnd M) → IfOk r (λ id. IsLeastFree a.pollers id.0) → IfOk r (λ id. AddsTimed id.0 now period a.pollers b.pollers) → OnErr r (b ≡ a) → b ≡ record a { pollers = b.pollers } → Adds a b
  adds_timed now period (Ok id) a b free added same rest = adds_change a b rest (inr (inl (id.0, free, now, period, added)))
  adds_timed now period (Err e) a b free added same rest = adds_same a b same

  -- `Acts::pause`
  pub adds_pause : {T : Type 0} (number : ℕ) (r : Result T PollerRefusal) (a b : ActsEnd M) → OnOk r (Pauses number a.pollers b.pollers) → IfErr r (λ e. IsUnknown number a.pollers b.pollers e) → b ≡ record a { pollers = b.pollers } → Adds a b
  adds_pause number (Ok x) a b paused cause rest = adds_change a b rest (inr (inr (inl (number, paused))))
  adds_pause number (Err e) a b paused cause rest = adds_unknown number e a b rest cause

  -- `Acts::resume`
  pub adds_resume : {T : Type 0} (number now : ℕ) (r : Result T PollerRefusal) (a b : ActsEnd M) → OnOk r (Resumes number now a.pollers b.pollers) → IfErr r (λ e. IsUnknown number a.pollers b.pollers e) → b ≡ record a { pollers = b.pollers } → Adds a b
  adds_resume number now (Ok x) a b resumed cause rest = adds_change a b rest (inr (inr (inr (inl (number, now, resumed)))))
  adds_resume number now (Err e) a b resumed cause rest = adds_unknown number e a b rest cause

  -- `Acts::remove`
  pub adds_remove : {T : Type 0} (number : ℕ) (r : Result T PollerRefusal) (a b : ActsEnd M) → OnOk r (Removes number a.pollers b.pollers) → IfErr r (λ e. IsUnknown number a.pollers b.pollers e) → b ≡ record a { pollers = b.pollers } → Adds a b
  adds_remove number (Ok x) a b removed cause rest = adds_change a b rest (inr (inr (inr (inr (number, removed)))))
  adds_remove number (Err e) a b removed cause rest = adds_unknown number e a b rest cause
