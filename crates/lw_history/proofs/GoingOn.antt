-- A token that was to go to a client which has exited goes on past it: the history that says so fits as well.
use Rattle.std.proofs.Common.{◌≡◌, ◌≢◌, ℕ, zero, suc, ◌+◌, ◌-◌, ◌<◌, ◌≤◌, nat_lt, Bool, true, false, cond, not, List, [], ◌∷◌, ◌++◌, All, length, ◌⊎◌, refl, sym, ap, ap₂, subst, ◌∙◌, arith, append_assoc, inl, inr}
use Rattle.std.specs.List.{list_all, range_with_len, AllByRecursion}
use Rattle.std.proofs.lemmas.Bool.{and_parts, and_from, lt-ltb, le-ltb}
use Rattle.std.proofs.lemmas.List.{append-nil, length-append}
use Rattle.std.proofs.lemmas.List.Elements.{All-weaker, All-from_recursion, recursion_from_All}
use Rattle.lw_base.proofs.Lists.{heads, tails, all_parts}
use Rattle.lw_base.specs.declared.message.What.{What}
use Rattle.lw_model.specs.declared.script.Script.{Script}
use Rattle.lw_model.specs.declared.step.Step.TheVariants as step
use Rattle.lw_model.specs.declared.record.Did.{Did}
use Rattle.lw_model.specs.Threads.{thread_count}
use Rattle.lw_model.specs.Sent.{must_run, completion, sent_last}
use Rattle.lw_model.proofs.Growth.{all-append}
use Rattle.lw_whole.specs.Letters.{Letter, Load}
use Rattle.lw_whole.specs.Logs.{addressed}
use Rattle.lw_whole.specs.Tokens.{may_pass, WentTo, WentHome, GoesOn}
use Rattle.lw_history.specs.Histories.{Event, ran, did, called, ended, last_of, all_of}
use Rattle.lw_history.specs.Fitting.{SparesLast, EachFits}
use Rattle.lw_history.specs.GoingOn.{is_token, last_before, SameButSends, GoneOn}
use Rattle.lw_history.proofs.Splits.{not_nil, InFirst, InSecond, where_it_stands, no_token, completes_none, last_none}

-- ---- a token goes on

passes : (q : ℕ → Bool) (a m n k b : ℕ) → k ≡ m + 1 + n → b ≡ a + m → list_all q (range_with_len a m) ≡ true → q b ≡ true → list_all q (range_with_len (b + 1) n) ≡ true → list_all q (range_with_len a k) ≡ true
passes q a m n zero b e eb f g h = absurd (omega (arith, e))
passes q a zero n (suc k) b e eb f g h =
    and_from (q a) (list_all q (range_with_len (a + 1) k)) (ap q (omega (arith, eb)) ∙ g) (ap₂ (λ i j. list_all q (range_with_len i j)) (omega (arith, eb)) (omega (arith, e)) ∙ h)
passes q a (suc m) n (suc k) b e eb f g h =
    let both = and_parts (q a) (list_all q (range_with_len (a + 1) m)) f in
    and_from (q a) (list_all q (range_with_len (a + 1) k)) both.0 (passes q (a + 1) m n k b (omega (arith, e)) (omega (arith, eb)) both.1 g h)

module _ (s : Script) (w : What) (from to : ℕ) (load : Load) (above : from ≤ to) (thread : to < thread_count s) (passed : may_pass s w from to) (skips : must_run s w to ≡ false) where
  past_it : (u : ℕ) → to < u → may_pass s w (to + 1) u → may_pass s w from u
  past_it u less h = passes (λ v. not (must_run s w v)) from (to - from) (u - (to + 1)) (u - from) to (omega (arith, above, less)) (omega (arith, above)) passed (ap not skips) h

  -- from the thread behind, and so from the first too
  goes_past : (now : List (ℕ × Letter)) → GoesOn s w (to + 1) load now → GoesOn s w from load now
  goes_past [] h = tt
  goes_past (p ∷ []) h = elim h [
    | inl k ↦ inl (record { above = omega (arith, above, k.above); thread = k.thread; token = k.token; carried = k.carried; passed = past_it p.0 (omega (arith, k.above)) k.passed })
    | inr k ↦ inr (record { completes = k.completes; carried = k.carried; passed = past_it (thread_count s) thread k.passed })
  ]
  goes_past (p ∷ q ∷ rest) h = absurd h

-- the send that comes back, and what is sent in its place
pub record Back (s : Script) (to : ℕ) (x : Letter) (now : List (ℕ × Letter)) : Type 0 where
  pub token : is_token x.tag.what ≡ true
  pub skips : must_run s x.tag.what to ≡ false
  pub goes : GoesOn s x.tag.what (to + 1) x.load now

-- it was the only send there
pub record Alone (front rest : List (ℕ × Letter)) (fits : Type 0) : Type 0 where
  pub first : front ≡ []
  pub only : rest ≡ []
  pub still : fits

pub goes_instead : (s : Script) (w : What) (from : ℕ) (load : Load) (sends front : List (ℕ × Letter)) (to : ℕ) (x : Letter) (rest now : List (ℕ × Letter))
    → Back s to x now → sends ≡ front ++ (to, x) ∷ rest → GoesOn s w from load sends → Alone front rest (GoesOn s w from load now)
goes_instead s w from load [] front to x rest now b e h = absurd (not_nil front (to, x) rest e)
goes_instead s w from load (p ∷ q ∷ more) front to x rest now b e h = absurd h
goes_instead s w from load (p ∷ []) (f ∷ front) to x rest now b e h = absurd (not_nil front (to, x) rest (tails e))
goes_instead s w from load (p ∷ []) [] to x rest now b e h = record { first = refl; only = sym (tails e); still = on h }
  where
    is : p ≡ (to, x)
    is = heads e

    on : WentTo s w from load p.0 p.1 ⊎ WentHome s w from load p.0 p.1 → GoesOn s w from load now
    on (inl k) =
        let went : WentTo s w from load to x = subst (λ (q : ℕ × Letter). WentTo s w from load q.0 q.1) is k in
        goes_past s w from to load went.above went.thread went.passed (ap (λ v. must_run s v to) (sym went.token) ∙ b.skips) now
        (subst (λ v. GoesOn s v (to + 1) load now) went.token (subst (λ v. GoesOn s x.tag.what (to + 1) v now) went.carried b.goes))
    on (inr k) = absurd (no_token (p ∷ []) [] (to, x) rest (completion w) e b.token k.completes (completes_none w))

pub none_instead : (front : List (ℕ × Letter)) (to : ℕ) (x : Letter) (rest sends : List (ℕ × Letter)) → sends ≡ front ++ (to, x) ∷ rest → sends ≡ [] → ⊥
none_instead front to x rest sends e none = not_nil front (to, x) rest (sym none ∙ e)

-- ---- the last messages before a place

fewer : (P : ℕ × Letter → Type 0) (n : ℕ) (h : List Event) → AllByRecursion P (last_of h) → AllByRecursion P (last_before n h)
fewer P n [] k = tt
fewer P n (ran x now ∷ before) k = fewer P n before k
fewer P n (did x now ∷ before) k = fewer P n before k
fewer P n (called x ∷ before) k = fewer P n before k
fewer P n (ended now ∷ before) k =
    let parts = all_parts P (last_of before) now k in
    let rest = fewer P n before parts.0 in
    at (nat_lt n (length (all_of before))) rest (all-append P (last_before n before) now rest parts.1)
  where
    at : (b : Bool) → AllByRecursion P (last_before n before) → AllByRecursion P (last_before n before ++ now) → AllByRecursion P (cond b (last_before n before) (last_before n before ++ now))
    at true f g = f
    at false f g = g

pub all_are_spared : (n : ℕ) (h : List Event) (now : List (ℕ × Letter)) → SparesLast (last_of h) now → SparesLast (last_before n h) now
all_are_spared n h now k =
    All-weaker (λ (p : ℕ × Letter). All (λ (q : ℕ × Letter). q.0 ≢ p.0) (last_of h)) (λ (p : ℕ × Letter). All (λ (q : ℕ × Letter). q.0 ≢ p.0) (last_before n h))
    (λ p f. All-from_recursion (λ (q : ℕ × Letter). q.0 ≢ p.0) (last_before n h) (fewer (λ (q : ℕ × Letter). q.0 ≢ p.0) n h (recursion_from_All (λ (q : ℕ × Letter). q.0 ≢ p.0) (last_of h) f)))
    now k

-- at a place behind all sends these are all last messages
all_before : (n : ℕ) (h : List Event) → length (all_of h) ≤ n → last_before n h ≡ last_of h
all_before n [] le = refl
all_before n (ran x now ∷ before) le = all_before n before (omega (arith, le, length-append (all_of before) now))
all_before n (did x now ∷ before) le = all_before n before (omega (arith, le, length-append (all_of before) now))
all_before n (called x ∷ before) le = all_before n before le
all_before n (ended now ∷ before) le =
    let shorter : length (all_of before) ≤ n = omega (arith, le, length-append (all_of before) now) in
    ap (λ b. cond b (last_before n before) (last_before n before ++ now)) (le-ltb n (length (all_of before)) shorter) ∙ ap (λ l. l ++ now) (all_before n before shorter)

-- at a place among those before the last messages it is without them
before_the_last : (made behind : List (ℕ × Letter)) (p : ℕ × Letter) (now : List (ℕ × Letter)) (before : List Event) → all_of before ≡ made ++ p ∷ behind → last_before (length made) (ended now ∷ before) ≡ last_before (length made) before
before_the_last made behind p now before e =
    ap (λ b. cond b (last_before (length made) before) (last_before (length made) before ++ now))
    (lt-ltb (length made) (length (all_of before)) (omega (arith, ap length e, length-append made (p ∷ behind))))

pub tokens_stand_before_the_last : (s : Script) (t : ℕ) (last : List (ℕ × Letter)) (before : List Event) (made : List (ℕ × Letter)) (to : ℕ) (x : Letter) (rest now : List (ℕ × Letter))
    → addressed last ≡ sent_last s t → last_of before ≡ [] → all_of (ended last ∷ before) ≡ made ++ (to, x) ∷ rest → is_token x.tag.what ≡ true
    → SparesLast (last_before (length made) (ended last ∷ before)) now
tokens_stand_before_the_last s t last before made to x rest now at none e token = elim (where_it_stands (all_of before) last made (to, x) rest e) [
  | inl k ↦ subst (λ l. SparesLast l now) (sym (before_the_last made k.behind (to, x) last before k.first_is)) (all_are_spared (length made) before now (subst (λ l. SparesLast l now) (sym none) nothing))
  | inr k ↦ absurd (no_token last k.front (to, x) rest (sent_last s t) k.second_is token at (last_none s t))
]
  where
    nothing : SparesLast [] now
    nothing i d l j d' l' = absurd (omega (arith, l'))

-- ---- the history that says so

pub extend : (e : Event) (g h : List Event) → SameButSends g h → SameButSends (e ∷ g) (e ∷ h)
extend (ran x now) g h k = record {
  runs = ap (λ l. l ++ x ∷ []) k.runs;
  dids = k.dids;
  calls = k.calls;
  past = ap₂ (λ n l. step.Ran n x.tag ∷ l) (ap length k.runs) k.past;
  stood = k.stood;
  last = k.last;
  ends = k.ends;
}
extend (did x now) g h k = record {
  runs = k.runs;
  dids = ap (λ l. l ++ x ∷ []) k.dids;
  calls = k.calls;
  past = ap₂ (λ n l. step.Did n x ∷ l) (ap length k.dids) k.past;
  stood = k.stood;
  last = k.last;
  ends = k.ends;
}
extend (called x) g h k = record {
  runs = k.runs;
  dids = k.dids;
  calls = ap (λ l. l ++ x ∷ []) k.calls;
  past = k.past;
  stood = ap₂ (λ l n. l ++ n ∷ []) k.stood (ap length k.past);
  last = k.last;
  ends = k.ends;
}
extend (ended now) g h k = record {
  runs = k.runs;
  dids = k.dids;
  calls = k.calls;
  past = k.past;
  stood = k.stood;
  last = ap (λ l. l ++ now) k.last;
  ends = ap (λ n. n + 1) k.ends;
}

-- a kind of fitting that looks at no sends before an event but the last, and under which a token that an event sent may go on
pub record LetsGoOn (s : Script) (fits : List Event → Event → Type 0) : Type 0 where
  pub alike : (g h : List Event) (e : Event) → SameButSends g h → fits g e → fits h e
  pub at_run : (before : List Event) (y : Letter) (sends front : List (ℕ × Letter)) (to : ℕ) (x : Letter) (rest now : List (ℕ × Letter)) → Back s to x now → sends ≡ front ++ (to, x) ∷ rest
      → SparesLast (last_of before) now → fits before (ran y sends) → Alone front rest (fits before (ran y now))
  pub at_line : (before : List Event) (y : Did) (sends front : List (ℕ × Letter)) (to : ℕ) (x : Letter) (rest now : List (ℕ × Letter)) → Back s to x now → sends ≡ front ++ (to, x) ∷ rest
      → SparesLast (last_of before) now → fits before (did y sends) → Alone front rest (fits before (did y now))
  pub at_end : (before : List Event) (sends front : List (ℕ × Letter)) (p : ℕ × Letter) (rest : List (ℕ × Letter)) → sends ≡ front ++ p ∷ rest → is_token p.1.tag.what ≡ true → fits before (ended sends) → ⊥

module _ (s : Script) (fits : List Event → Event → Type 0) (lets : LetsGoOn s fits) (to : ℕ) (x : Letter) (now : List (ℕ × Letter)) (back : Back s to x now) where
  abbrev Goes : List Event → Type 0
  Goes h = (made rest : List (ℕ × Letter)) → EachFits fits h → all_of h ≡ made ++ (to, x) ∷ rest → SparesLast (last_before (length made) h) now → GoneOn fits h (made ++ now ++ rest)

  -- where it stands before the event
  earlier : (e : Event) (before : List Event) (made sends behind rest : List (ℕ × Letter)) → fits before e → ((g : List Event) → all_of (e ∷ g) ≡ all_of g ++ sends) → rest ≡ behind ++ sends
      → GoneOn fits before (made ++ now ++ behind) → GoneOn fits (e ∷ before) (made ++ now ++ rest)
  earlier e before made sends behind rest fit adds is k = record {
    after = e ∷ k.after;
    same = extend e before k.after k.same;
    fits = (lets.alike before k.after e k.same fit, k.fits);
    sends = adds k.after ∙ ap (λ l. l ++ sends) k.sends ∙ append_assoc (made ++ now) behind sends ∙ ap (λ l. made ++ now ++ l) (sym is);
  }

  -- where it is the event's
  instead : (before : List Event) (made front rest : List (ℕ × Letter)) → made ≡ all_of before ++ front → front ≡ [] → rest ≡ [] → all_of before ++ now ≡ made ++ now ++ rest
  instead before made front rest is none only =
      ap (λ l. l ++ now) (sym (is ∙ ap (λ l. all_of before ++ l) none ∙ append-nil (all_of before))) ∙ sym (ap (λ l. made ++ now ++ l) only ∙ append-nil (made ++ now))

  spared : (before : List Event) (made front : List (ℕ × Letter)) → made ≡ all_of before ++ front → SparesLast (last_before (length made) before) now → SparesLast (last_of before) now
  spared before made front is k = subst (λ l. SparesLast l now) (all_before (length made) before (omega (arith, ap length is, length-append (all_of before) front))) k

  pub goes_on : (h : List Event) → Goes h
  goes_on [] made rest k e spares = absurd (not_nil made (to, x) rest e)
  goes_on (called y ∷ before) made rest k e spares =
      earlier (called y) before made [] rest rest k.0 (λ g. sym (append-nil (all_of g))) (sym (append-nil rest)) (goes_on before made rest k.1 e spares)
  goes_on (ended sends ∷ before) made rest k e spares = at (where_it_stands (all_of before) sends made (to, x) rest e) (goes_on before made)
    where
      at : InFirst (all_of before) sends made (to, x) rest ⊎ InSecond (all_of before) sends made (to, x) rest
          → ((behind : List (ℕ × Letter)) → EachFits fits before → all_of before ≡ made ++ (to, x) ∷ behind → SparesLast (last_before (length made) before) now → GoneOn fits before (made ++ now ++ behind))
          → GoneOn fits (ended sends ∷ before) (made ++ now ++ rest)
      at (inl w) go = earlier (ended sends) before made sends w.behind rest k.0 (λ g. refl) w.rest_is
          (go w.behind k.1 w.first_is (subst (λ l. SparesLast l now) (before_the_last made w.behind (to, x) sends before w.first_is) spares))
      at (inr w) go = absurd (lets.at_end before sends w.front (to, x) rest w.second_is back.token k.0)
  goes_on (ran y sends ∷ before) made rest k e spares = at (where_it_stands (all_of before) sends made (to, x) rest e) (goes_on before made)
    where
      at : InFirst (all_of before) sends made (to, x) rest ⊎ InSecond (all_of before) sends made (to, x) rest
          → ((behind : List (ℕ × Letter)) → EachFits fits before → all_of before ≡ made ++ (to, x) ∷ behind → SparesLast (last_before (length made) before) now → GoneOn fits before (made ++ now ++ behind))
          → GoneOn fits (ran y sends ∷ before) (made ++ now ++ rest)
      at (inl w) go = earlier (ran y sends) before made sends w.behind rest k.0 (λ g. refl) w.rest_is (go w.behind k.1 w.first_is spares)
      at (inr w) go =
          let alone = lets.at_run before y sends w.front to x rest now back w.second_is (spared before made w.front w.made_is spares) k.0 in
          record {
            after = ran y now ∷ before;
            same = record { runs = refl; dids = refl; calls = refl; past = refl; stood = refl; last = refl; ends = refl };
            fits = (alone.still, k.1);
            sends = instead before made w.front rest w.made_is alone.first alone.only;
          }
  goes_on (did y sends ∷ before) made rest k e spares = at (where_it_stands (all_of before) sends made (to, x) rest e) (goes_on before made)
    where
      at : InFirst (all_of before) sends made (to, x) rest ⊎ InSecond (all_of before) sends made (to, x) rest
          → ((behind : List (ℕ × Letter)) → EachFits fits before → all_of before ≡ made ++ (to, x) ∷ behind → SparesLast (last_before (length made) before) now → GoneOn fits before (made ++ now ++ behind))
          → GoneOn fits (did y sends ∷ before) (made ++ now ++ rest)
      at (inl w) go = earlier (did y sends) before made sends w.behind rest k.0 (λ g. refl) w.rest_is (go w.behind k.1 w.first_is spares)
      at (inr w) go =
          let alone = lets.at_line before y sends w.front to x rest now back w.second_is (spared before made w.front w.made_is spares) k.0 in
          record {
            after = did y now ∷ before;
            same = record { runs = refl; dids = refl; calls = refl; past = refl; stood = refl; last = refl; ends = refl };
            fits = (alone.still, k.1);
            sends = instead before made w.front rest w.made_is alone.first alone.only;
          }
