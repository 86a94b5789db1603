-- What an owner keeps of its log while it runs is, once it has ended, the log of a thread that ended.
use Rattle.std.proofs.Common.{◌≡◌, ℕ, ◌+◌, Bool, true, false, List, [], ◌∷◌, ◌++◌, map, reverse, length, Option, Some, slice_get, unwrap_or, option_map, refl, sym, ap, subst, ◌∙◌, append_assoc}
use Rattle.std.specs.List.{flat_map}
use Rattle.std.proofs.lemmas.List.{append-nil, reverse-reverse, length-reverse, length-map, map-append}
use Rattle.std.proofs.lemmas.Bool.{false≢true}
use Rattle.lw_base.proofs.Lists.{reverse_cons}
use Rattle.lw_base.specs.declared.message.What.{What}
use Rattle.lw_base.specs.declared.message.What.TheVariants as what
use Rattle.lw_base.specs.declared.message.Tag.{Tag}
use Rattle.lw_base.specs.declared.moves.Hop.{Hop}
use Rattle.lw_model.specs.declared.script.Script.{Script}
use Rattle.lw_model.specs.declared.step.Step.{Step}
use Rattle.lw_model.specs.declared.step.Step.TheVariants as step
use Rattle.lw_model.specs.declared.record.ThreadRecord.{ThreadRecord}
use Rattle.lw_model.specs.Threads.{is_owner}
use Rattle.lw_model.specs.OwnOrder.{own_order, with_past}
use Rattle.lw_model.proofs.Growth.{with_past_push, own_order-run}
use Rattle.lw_whole.specs.Letters.{Letter, nothing, Note}
use Rattle.lw_whole.specs.Logs.{Log, load_at, steps, steps_with_past}
use Rattle.lw_whole.specs.Sends.{SentBy, SentAlong, Replies}
use Rattle.lw_whole.specs.Tokens.{GoesOn, load_behind}
use Rattle.lw_whole.specs.Owners.{steps_run, Serves, Served, all_served, owner_log}

-- all sends, in order
pub sends_flat : (sends : List (List (ℕ × Letter))) → flat_map (λ now. now) (reverse sends) ≡ all_served sends
sends_flat [] = refl
sends_flat (now ∷ sends) = ap (flat_map (λ n. n)) (reverse_cons now sends) ∙ flat_push (reverse sends) now ∙ ap (λ l. l ++ now) (sends_flat sends)
  where
    flat_push : (xs : List (List (ℕ × Letter))) (y : List (ℕ × Letter)) → flat_map (λ n. n) (xs ++ y ∷ []) ≡ flat_map (λ n. n) xs ++ y
    flat_push [] y = append-nil y
    flat_push (x ∷ xs) y = ap (λ l. x ++ l) (flat_push xs y) ∙ sym (append_assoc x (flat_map (λ n. n) xs) y)

-- what a request sends, by whether its runner is an owner
abbrev OfRequest : Script → ℕ → List Step → Tag → ℕ → List (ℕ × Letter) → Bool → Type 0
OfRequest s t past m k now b = elim b [ true ↦ Replies s t past m k now | false ↦ now ≡ [] ]

chosen : (s : Script) (t : ℕ) (past : List Step) (m : Tag) (k : ℕ) (now : List (ℕ × Letter)) (b : Bool) → b ≡ true → Replies s t past m k now → OfRequest s t past m k now b
chosen s t past m k now true e h = h
chosen s t past m k now false e h = absurd (false≢true e)

module _ (s : Script) (t : ℕ) where
  along_push : (l : Log) (ps : List (List Step × Step)) (sends : List (List (ℕ × Letter))) (p : List Step × Step) (now : List (ℕ × Letter)) → SentAlong s t l ps sends → SentBy s t l p.0 p.1 now → SentAlong s t l (ps ++ p ∷ []) (sends ++ now ∷ [])
  along_push l [] [] p now h g = (g, tt)
  along_push l [] (x ∷ xs) p now h g = absurd h
  along_push l (q ∷ qs) [] p now h g = absurd h
  along_push l (q ∷ qs) (x ∷ xs) p now h g = (h.0, along_push l qs xs p now h.1 g)

  -- the letter behind so many others
  at_behind : (xs : List Letter) (x : Letter) (ys : List Letter) → slice_get (xs ++ x ∷ ys) (length xs) ≡ Some x
  at_behind [] x ys = refl
  at_behind (z ∷ zs) x ys = at_behind zs x ys

  -- what an owner sends as it runs a letter is what its step sends in the log
  as_step : (l : Log) (before : List Letter) (x : Letter) (now : List (ℕ × Letter)) → is_owner s t ≡ true → load_at l (length before) ≡ x.load → Serves s t before x now → SentBy s t l (steps_run before) (step.Ran (length before) x.tag) now
  as_step l before x now owner load h = from x.tag.what h
    where
      of : What → Type 0
      of v = elim v [
        | what.Request k ↦ elim (is_owner s t) [ true ↦ Replies s t (steps_run before) x.tag k now | false ↦ now ≡ [] ]
        | what.Visit o k d ↦ GoesOn s (what.Visit o k d) (t + 1) (load_behind s t (steps_run before) (what.Visit o k d) (load_at l (length before))) now
        | what.Cast o k ↦ GoesOn s (what.Cast o k) (t + 1) (load_behind s t (steps_run before) (what.Cast o k) (load_at l (length before))) now
        | _ ↦ now ≡ []
      ]

      served : What → Type 0
      served v = elim v [
        | what.Request k ↦ Replies s t (steps_run before) x.tag k now
        | what.Visit o k d ↦ GoesOn s (what.Visit o k d) (t + 1) (load_behind s t (steps_run before) (what.Visit o k d) x.load) now
        | what.Cast o k ↦ GoesOn s (what.Cast o k) (t + 1) (load_behind s t (steps_run before) (what.Cast o k) x.load) now
        | _ ↦ now ≡ []
      ]

      from : (v : What) → served v → of v
      from (what.Request k) g = chosen s t (steps_run before) x.tag k now (is_owner s t) owner g
      from (what.Visit o k d) g = subst (λ y. GoesOn s (what.Visit o k d) (t + 1) (load_behind s t (steps_run before) (what.Visit o k d) y) now) (sym load) g
      from (what.Cast o k) g = subst (λ y. GoesOn s (what.Cast o k) (t + 1) (load_behind s t (steps_run before) (what.Cast o k) y) now) (sym load) g
      from (what.Reply k) g = g
      from (what.PutSelf d) g = g
      from (what.Visited k) g = g
      from (what.Casted k) g = g
      from what.Done g = g
      from what.Stop g = g
      from (what.Arrive a b) g = g
      from (what.Order a b c) g = g

  -- each step in turn
  along : (l : Log) → is_owner s t ≡ true → (runs : List Letter) (sends : List (List (ℕ × Letter))) (later : List Letter) → l.ran ≡ reverse runs ++ later → Served s t runs sends → SentAlong s t l (with_past [] (reverse (steps_run runs))) (reverse sends)
  along l owner [] [] later e h = tt
  along l owner [] (now ∷ sends) later e h = absurd h
  along l owner (x ∷ before) [] later e h = absurd h
  along l owner (x ∷ before) (now ∷ sends) later e h =
      let y = step.Ran (length before) x.tag in
      let all : l.ran ≡ reverse before ++ x ∷ later = e ∙ ap (λ ls. ls ++ later) (reverse_cons x before) ∙ append_assoc (reverse before) (x ∷ []) later in
      let got : slice_get l.ran (length before) ≡ Some x = ap (slice_get l.ran) (sym (length-reverse before)) ∙ ap (λ ls. slice_get ls (length (reverse before))) all ∙ at_behind (reverse before) x later in
      let load : load_at l (length before) ≡ x.load = load_is got in
      let past : reverse (reverse (steps_run before)) ++ [] ≡ steps_run before = append-nil (reverse (reverse (steps_run before))) ∙ reverse-reverse (steps_run before) in
      let first = along l owner before sends (x ∷ later) all h.1 in
      let both = along_push l (with_past [] (reverse (steps_run before))) (reverse sends) (reverse (reverse (steps_run before)) ++ [], y) now first (subst (λ q. SentBy s t l q y now) (sym past) (as_step l before x now owner load h.0)) in
      let steps_are : with_past [] (reverse (steps_run before)) ++ (reverse (reverse (steps_run before)) ++ [], y) ∷ [] ≡ with_past [] (reverse (y ∷ steps_run before)) = sym (ap (with_past []) (reverse_cons y (steps_run before)) ∙ with_past_push [] (reverse (steps_run before)) y) in
      subst (λ ps. SentAlong s t l ps (reverse (now ∷ sends))) steps_are (subst (SentAlong s t l (with_past [] (reverse (steps_run before)) ++ (reverse (reverse (steps_run before)) ++ [], y) ∷ [])) (sym (reverse_cons now sends)) both)
    where
      load_is : slice_get l.ran (length before) ≡ Some x → load_at l (length before) ≡ x.load
      load_is got = ap (λ (o : Option Letter). unwrap_or (option_map (λ z. z.load) o) nothing) got

-- the steps of such a log
pub steps_are : (home : ℕ) (hops : List Hop) (runs : List Letter) (sends : List (List (ℕ × Letter))) (notes : List Note) → steps (owner_log home hops runs sends notes) ≡ reverse (steps_run runs)
steps_are home hops [] sends notes = refl
steps_are home hops (x ∷ before) sends notes =
    let lines : ThreadRecord = (owner_log home hops before sends notes).lines in
    let tags : List Tag = map (λ (y : Letter). y.tag) (reverse before) in
    let more : map (λ (y : Letter). y.tag) (reverse (x ∷ before)) ≡ tags ++ x.tag ∷ [] = ap (map (λ (y : Letter). y.tag)) (reverse_cons x before) ∙ map-append (λ (y : Letter). y.tag) (reverse before) (x ∷ []) in
    let count : length tags ≡ length before = length-map (reverse before) (λ (y : Letter). y.tag) ∙ length-reverse before in
    ap (λ ms. own_order (record lines { ran = ms })) more
    ∙ own_order-run lines x.tag (record { did = tt; called = tt })
    ∙ ap (λ k. own_order lines ++ step.Ran k x.tag ∷ []) count
    ∙ ap (λ q. q ++ step.Ran (length before) x.tag ∷ []) (steps_are home hops before sends notes)
    ∙ sym (reverse_cons (step.Ran (length before) x.tag) (steps_run before))

-- what was sent, in the log's own words
pub sent_along : (s : Script) (t home : ℕ) (hops : List Hop) (runs : List Letter) (sends : List (List (ℕ × Letter))) (notes : List Note) → is_owner s t ≡ true → Served s t runs sends
    → SentAlong s t (owner_log home hops runs sends notes) (steps_with_past (owner_log home hops runs sends notes)) (reverse sends)
sent_along s t home hops runs sends notes owner h =
    subst (λ q. SentAlong s t (owner_log home hops runs sends notes) (with_past [] q) (reverse sends)) (sym (steps_are home hops runs sends notes))
    (along s t (owner_log home hops runs sends notes) owner runs sends [] (sym (append-nil (reverse runs))) h)
