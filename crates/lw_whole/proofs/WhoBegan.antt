-- One thread began to unregister a device, and it is the one that the registry names.
use Rattle.std.proofs.Common.{◌≡◌, ℕ, zero, suc, ◌+◌, ◌<◌, ◌==◌, Bool, true, false, List, [], ◌∷◌, map, length, Option, Some, None, slice_get, unwrap_or, refl, sym, ap, subst, ◌∙◌, arith, inl, inr, cond, ◌≤◌, filter_map}
use Rattle.std.specs.Prelude.{◌⊎◌, Any, if◌then◌else◌}
use Rattle.std.specs.List.{cons_option, enumerate_from}
use Rattle.std.proofs.lemmas.Bool.{eqb-true, false≢true, ne_eqb}
use Rattle.std.proofs.lemmas.Option.{slice_get_within}
use Rattle.lw_base.specs.declared.message.What.{What}
use Rattle.lw_base.specs.declared.message.What.TheVariants as what
use Rattle.lw_base.specs.declared.ends.DeviceEnd.{DeviceEnd}
use Rattle.lw_model.specs.declared.record.Record.{Record}
use Rattle.lw_model.specs.Threads.{thread_count, is_client, is_on}
use Rattle.lw_model.specs.Devices.{device_at}
use Rattle.lw_base.specs.declared.message.Tag.{Tag}
use Rattle.lw_base.specs.Totals.{total}
use Rattle.lw_base.proofs.Lists.{get_within}
use Rattle.lw_model.specs.declared.step.Step.TheVariants as step
use Rattle.lw_whole.proofs.Replying.{owner_steps}
use Rattle.lw_whole.proofs.TokenFlow.{sum_only}
use Rattle.lw_whole.proofs.Flow.{sum_below}
use Rattle.lw_whole.specs.Letters.{Letter, row, Note}
use Rattle.lw_whole.specs.Logs.{Log}
use Rattle.lw_whole.specs.Notes.{idle, note_at, both_notes, both_rows, joined, row_of, row_in, rows_in, NoteFits, DeviceSettled, notes_of, count_begun, begun_in}
use Rattle.lw_whole.specs.WholeRun.{IsWholeRun}
use Rattle.lw_whole.proofs.Access.{at_number, in_range, log_of, log_count, ended, app_ended, client_ended, owner_ended}
use Rattle.lw_whole.proofs.TokenBack.{Among, IsTo}
use Rattle.lw_whole.proofs.AtStep.{at_step}
use Rattle.lw_whole.proofs.SentFrom.{SentFrom}
use Rattle.lw_whole.proofs.TokenLoads.{sent_from, in_run}
use Rattle.lw_whole.proofs.Plain.{none_of, NoneOf, step_none}
use Rattle.lw_whole.proofs.Ranges.{sum_pair}
use Rattle.lw_whole.proofs.NoteSums.{Adds, is_done, dones_rare, one_done, client_last, last_no_done, own_at, own_is, rows_are_own, row_at, row_is, total_sum}

-- what is known of the row that began
abbrev pub DidBegin : ℕ → ℕ → Note → Type 0
DidBegin g t n = (n.begun ≡ 1) × (n.count ≡ g) × (n.began_by ≡ t)

both_began : (g t : ℕ) (n m : Note) → DidBegin g t (both_notes n m) → DidBegin g t n ⊎ DidBegin g t m
both_began g t n m h = at (n.begun == 0) refl h.0 h.1 h.2
  where
    at : (b : Bool) → (n.begun == 0) ≡ b → n.begun + m.begun ≡ 1 → (if b then m.count else n.count) ≡ g → (if b then m.began_by else n.began_by) ≡ t → DidBegin g t n ⊎ DidBegin g t m
    at true e one count by = inr (omega (arith, one, eqb-true n.begun 0 e), count, by)
    at false e one count by = inl (some n.begun e one, count, by)
      where
        some : (k : ℕ) → (k == 0) ≡ false → k + m.begun ≡ 1 → k ≡ 1
        some zero e one = absurd (false≢true (sym e))
        some (suc k) e one = omega (arith, one)

idle_not : (g t : ℕ) → DidBegin g t idle → ⊥
idle_not g t h = omega (arith, h.0)

both_rows_began : (g t d : ℕ) (ns ms : List Note) → DidBegin g t (note_at (both_rows ns ms) d) → DidBegin g t (note_at ns d) ⊎ DidBegin g t (note_at ms d)
both_rows_began g t d [] ms h = inl h
both_rows_began g t d (n ∷ ns) [] h = inl h
both_rows_began g t zero (n ∷ ns) (m ∷ ms) h = both_began g t n m h
both_rows_began g t (suc d) (n ∷ ns) (m ∷ ms) h = both_rows_began g t d ns ms h

joined_began : (g t d : ℕ) (ns : List Note) (rows : List (List Note)) → DidBegin g t (note_at (joined ns rows) d) → DidBegin g t (note_at ns d) ⊎ Among (λ ms. DidBegin g t (note_at ms d)) rows
joined_began g t d ns [] h = inl h
joined_began g t d ns (ms ∷ rows) h = elim (joined_began g t d (both_rows ns ms) rows h) [
  | inl first ↦ elim (both_rows_began g t d ns ms first) [ inl own ↦ inl own | inr taken ↦ inr (inl taken) ]
  | inr later ↦ inr (inr later)
]

-- a row that came stands in a letter
pub record CameIn (P : List Note → Type 0) (ls : List Letter) : Type 0 where
  pub place : ℕ
  pub letter : Letter
  pub at : slice_get ls place ≡ Some letter
  pub notes : List Note
  pub row_is : row_in letter ≡ Some notes
  pub holds : P notes

came_in : (P : List Note → Type 0) (ls : List Letter) → Among P (rows_in ls) → CameIn P ls
came_in P [] g = absurd g
came_in P (x ∷ ls) g = at (row_in x) refl g (λ h. came_in P ls h)
  where
    further : CameIn P ls → CameIn P (x ∷ ls)
    further c = record { place = suc c.place; letter = c.letter; at = c.at; notes = c.notes; row_is = c.row_is; holds = c.holds }

    at : (o : Option (List Note)) → row_in x ≡ o → Among P (cons_option o (rows_in ls)) → (Among P (rows_in ls) → CameIn P ls) → CameIn P (x ∷ ls)
    at None e g go = further (go g)
    at (Some ms) e (inl here) go = record { place = 0; letter = x; at = refl; notes = ms; row_is = e; holds = here }
    at (Some ms) e (inr later) go = further (go later)

-- what holds of one of a list of rows, of which thread it is
any_log : (P : Note → Type 0) (h : Log → Note) (logs : List Log) → Any P (map h logs) → (t : ℕ) × (l : Log) × (slice_get logs t ≡ Some l) × P (h l)
any_log P h [] (k, x, less, is, p) = absurd (omega (arith, less))
any_log P h (l ∷ logs) (zero, x, less, is, p) = (0, l, refl, subst P (sym is) p)
any_log P h (l ∷ logs) (suc k, x, less, is, p) = let rest = any_log P h logs (k, x, omega (arith, less), is, p) in (suc rest.0, rest.1, rest.2, rest.3)

done_of_row : (x : Letter) (ns : List Note) → row_in x ≡ Some ns → (is_done x.tag.what ≡ true) × (row_of x.load ≡ Some ns)
done_of_row x ns e = at x.tag.what e
  where
    at : (v : What) → elim v [ what.Done ↦ row_of x.load | _ ↦ None ] ≡ Some ns → (is_done v ≡ true) × (row_of x.load ≡ Some ns)
    at what.Done e = (refl, e)
    at _ e = cc

module _ (r : Record) (logs : List Log) (whole : IsWholeRun r logs) where
  -- the Done that the app ran of a client brought that client's row
  pub record DoneFrom (x : Letter) : Type 0 where
    pub client : ℕ
    pub named : x.tag.sender ≡ client
    pub within : client < thread_count r.script
    pub is : is_client r.script client ≡ true
    pub log : Log
    pub at : slice_get logs client ≡ Some log
    pub carried : x.load ≡ row log.own

  pub done_from : (l : Log) → slice_get logs 0 ≡ Some l → (i : ℕ) (x : Letter) → slice_get l.ran i ≡ Some x → is_done x.tag.what ≡ true → DoneFrom x
  done_from l at i x e done = of (sent_from r logs whole 0 l at i x e)
    where
      of : SentFrom logs 0 x → DoneFrom x
      of from = elim from.among [
        | inl at_steps ↦
            let a = at_step r.script from.sender from.log (IsTo 0 (λ y. y ≡ x)) (ended r logs whole from.sender from.log from.at).sends.at_steps at_steps in
            absurd (none_of is_done 0 x a.now done (step_none is_done dones_rare r.script from.sender from.log (λ k own. refl) a.past a.this a.now a.sent) a.among)
        | inr at_end ↦ role (is_client r.script from.sender) refl at_end
      ]
        where
          role : (b : Bool) → is_client r.script from.sender ≡ b → Among (IsTo 0 (λ y. y ≡ x)) from.log.last → DoneFrom x
          role true c g =
              let sends = (ended r logs whole from.sender from.log from.at).sends in
              let one = one_done from.log.own from.log.last (sends.at_end ∙ client_last r.script from.sender c) (sends.with_row c) in
              record {
                client = from.sender;
                named = from.named;
                within = in_run r logs whole from.sender from.within;
                is = c;
                log = from.log;
                at = from.at;
                carried = ap (λ (y : Letter). y.load) (sym (only one.letter (subst (Among (IsTo 0 (λ y. y ≡ x))) one.last_is g))) ∙ one.carried;
              }
            where
              only : (y : Letter) → Among (IsTo 0 (λ z. z ≡ x)) ((0, y) ∷ []) → y ≡ x
              only y (inl is) = is.1
              only y (inr g) = absurd g
          role false c g = absurd (none_of is_done 0 x from.log.last done (subst (NoneOf is_done) (sym (ended r logs whole from.sender from.log from.at).sends.at_end) (last_no_done r.script from.sender c)) g)

  module _ (d : ℕ) (device : d < length r.script.images) where
    abbrev n : ℕ
    n = thread_count r.script

    abbrev pub end : DeviceEnd
    end = device_at r d

    pub settled : DeviceSettled (notes_of d logs) end
    settled = in_range (λ k. DeviceSettled (notes_of k logs) (device_at r k)) 0 (length r.script.images) d whole.registry (omega arith) (omega (arith, device))

    -- what a thread's own row keeps of the device fits its lines
    pub own_fits : (t : ℕ) (l : Log) → slice_get logs t ≡ Some l → NoteFits r.script t d l (own_at r logs whole d device t)
    own_fits t l e =
        let row = (ended r logs whole t l e).own_row in
        let at = get_within l.own d (omega (arith, device, row.devices)) in
        subst (NoteFits r.script t d l) (sym (own_is r logs whole d device t l e ∙ ap (λ (o : Option Note). unwrap_or o idle) at.1))
        (subst (λ k. NoteFits r.script t k l at.0) (omega arith) (at_number (λ k n. NoteFits r.script t k l n) 0 l.own d at.0 row.notes at.1))

    -- an owner lists nothing, so its row began nothing
    owner_none : (t : ℕ) (l : Log) → slice_get logs t ≡ Some l → (t == 0) ≡ false → is_client r.script t ≡ false → (note_at l.own d).begun ≡ 0
    owner_none t l e z c =
        let fits = subst (NoteFits r.script t d l) (own_is r logs whole d device t l e) (own_fits t l e) in
        none (note_at l.own d) (sym fits.begun ∙ ap (filter_map (count_begun (is_on r.script t d))) (owner_steps l (owner_ended r logs whole t l e z c).did) ∙ no_rans 0 l.lines.ran)
      where
        no_rans : (k : ℕ) (ms : List Tag) → filter_map (count_begun (is_on r.script t d)) (map (λ p. step.Ran p.0 p.1) (enumerate_from k ms)) ≡ []
        no_rans k [] = refl
        no_rans k (m ∷ ms) = no_rans (k + 1) ms

        none : (m : Note) → begun_in m ≡ [] → m.begun ≡ 0
        none m e = at (m.begun == 0) refl e
          where
            at : (b : Bool) → (m.begun == 0) ≡ b → cond b [] (m.count ∷ []) ≡ [] → m.begun ≡ 0
            at true f e = eqb-true m.begun 0 f
            at false f e = cc

    -- no row but the app's began, so all rows began once at most
    rows_begun : (t : ℕ) (l : Log) → slice_get logs t ≡ Some l → (t == 0) ≡ false → (row_at r logs whole d device t).begun ≡ 0
    rows_begun t l e z = at (is_client r.script t) refl
      where
        at : (b : Bool) → is_client r.script t ≡ b → (row_at r logs whole d device t).begun ≡ 0
        at true c = ap (λ (m : Note). m.begun) (row_is r logs whole d device t l e ∙ ap (λ ns. note_at ns d) (client_ended r logs whole t l e c).row)
        at false c = ap (λ (m : Note). m.begun) (row_is r logs whole d device t l e ∙ ap (λ ns. note_at ns d) (owner_ended r logs whole t l e z c).row) ∙ owner_none t l e z c

    -- the thread that began
    pub record WhoBegan : Type 0 where
      pub thread : ℕ
      pub within : thread < thread_count r.script
      pub began : DidBegin end.given end.thread (own_at r logs whole d device thread)

    began_of : (t : ℕ) (l : Log) → slice_get logs t ≡ Some l → t < n → DidBegin end.given end.thread (note_at l.own d) → WhoBegan
    began_of t l e less h = record { thread = t; within = less; began = subst (DidBegin end.given end.thread) (sym (own_is r logs whole d device t l e)) h }

    who_began : WhoBegan
    who_began =
        let one = any_log (DidBegin end.given end.thread) (λ l. note_at l.row d) logs settled.began in
        let less : one.0 < n = omega (arith, slice_get_within logs one.0 one.1 one.2, log_count r logs whole) in
        role one.0 one.1 one.2 less one.3 (one.0 == 0) refl (is_client r.script one.0) refl
      where
        of_app : (l : Log) → slice_get logs 0 ≡ Some l → DidBegin end.given end.thread (note_at l.own d) ⊎ Among (λ ms. DidBegin end.given end.thread (note_at ms d)) (rows_in l.ran) → WhoBegan
        of_app l e (inl own) = began_of 0 l e (omega arith) own
        of_app l e (inr taken) =
            let came = came_in (λ ms. DidBegin end.given end.thread (note_at ms d)) l.ran taken in
            let done = done_of_row came.letter came.notes came.row_is in
            let from = done_from l e came.place came.letter came.at done.0 in
            let same : from.log.own ≡ came.notes = rows (sym (ap row_of from.carried) ∙ done.1) in
            began_of from.client from.log from.at from.within (subst (λ ms. DidBegin end.given end.thread (note_at ms d)) (sym same) came.holds)
          where
            rows : {ms ns : List Note} → Some ms ≡ Some ns → ms ≡ ns
            rows e = cc

        role : (t : ℕ) (l : Log) → slice_get logs t ≡ Some l → t < n → DidBegin end.given end.thread (note_at l.row d) → (a : Bool) → (t == 0) ≡ a → (b : Bool) → is_client r.script t ≡ b → WhoBegan
        role t l e less h true z b c =
            let e' = subst (λ k. slice_get logs k ≡ Some l) (eqb-true t 0 z) e in
            of_app l e' (joined_began end.given end.thread d l.own (rows_in l.ran) (subst (λ ns. DidBegin end.given end.thread (note_at ns d)) (app_ended r logs whole l e').took_in.joined h))
        role t l e less h false z true c = absurd (idle_not end.given end.thread (subst (λ ns. DidBegin end.given end.thread (note_at ns d)) (client_ended r logs whole t l e c).row h))
        role t l e less h false z false c = absurd (omega (arith, owner_none t l e z c, (subst (λ ns. DidBegin end.given end.thread (note_at ns d)) (owner_ended r logs whole t l e z c).row h).0))

    pub began : WhoBegan
    began = who_began

    -- it is the thread that the registry names
    pub thread_is : began.thread ≡ end.thread
    thread_is =
        let l = log_of r logs whole began.thread began.within in
        sym ((own_fits began.thread l.0 l.1).began_by (omega (arith, began.began.0))) ∙ began.began.2

    adds_begun : Adds (λ m. m.begun)
    adds_begun = record { none = refl; both = λ n m. refl }

    alone : total (λ m. m.begun) (notes_of d logs) ≤ 1
    alone = omega (
      arith,
      total_sum (λ m. m.begun) (λ l. note_at l.row d) logs,
      ap (sum_below (λ t. (row_at r logs whole d device t).begun)) (log_count r logs whole),
      sum_only (λ t. (row_at r logs whole d device t).begun) 0 n elsewhere,
      at_app,
    )
      where
        elsewhere : (t : ℕ) → t < n → (t ≡ 0 → ⊥) → (row_at r logs whole d device t).begun ≡ 0
        elsewhere t less other = let l = log_of r logs whole t less in rows_begun t l.0 l.1 (ne_eqb t 0 other)

        at_app : (row_at r logs whole d device 0).begun ≤ 1
        at_app =
            let one = any_log (DidBegin end.given end.thread) (λ l. note_at l.row d) logs settled.began in
            of one.0 one.1 one.2 one.3 (one.0 == 0) refl
          where
            of : (t : ℕ) (l : Log) → slice_get logs t ≡ Some l → DidBegin end.given end.thread (note_at l.row d) → (b : Bool) → (t == 0) ≡ b → (row_at r logs whole d device 0).begun ≤ 1
            of t l e h true z = omega (arith, h.0, ap (λ (m : Note). m.begun) (row_is r logs whole d device t l e), ap (λ k. (row_at r logs whole d device k).begun) (eqb-true t 0 z))
            of t l e h false z = absurd (omega (arith, h.0, ap (λ (m : Note). m.begun) (row_is r logs whole d device t l e), rows_begun t l e z))

    -- no other thread began
    pub others : (t : ℕ) → t < n → (t ≡ began.thread → ⊥) → (own_at r logs whole d device t).begun ≡ 0
    others t less other = omega (
      arith,
      alone,
      rows_are_own r logs whole d device (λ m. m.begun) adds_begun,
      sum_pair (λ k. (own_at r logs whole d device k).begun) n began.thread t began.within less other,
      began.began.0,
    )
