-- The sends that are asked for, in a queue of them.
use Rattle.std.proofs.Common.{◌≡◌, ◌≢◌, ℕ, ◌+◌, ◌<◌, ◌≤◌, Bool, true, false, List, [], ◌∷◌, ◌++◌, length, drop, sym, ap, subst, ◌∙◌, arith, Option, Some, None, ⊎_elim}
use Rattle.std.specs.Prelude.{slice_index_or, min, if◌then◌else◌, IfSome}
use Rattle.std.specs.Option.{option_to_list}
use Rattle.std.proofs.lemmas.Bool.{cases_lt}
use Rattle.std.proofs.lemmas.List.{map-append}
use Rattle.std.proofs.Math.Seq.{drop-length}
use Rattle.std.proofs.lemmas.List.Elements.{All-head, All-tail, All-append}
use Rattle.lw_ring.proofs.Counts.{All-back}
use Rattle.lw_thread.specs.declared.acts.Asked.{Asked}
use Rattle.lw_thread.specs.Acts.{Post, AreAsked, blank}
use Rattle.lw_thread.specs.Sending.{first_to, sends_of}
use Rattle.lw_thread.proofs.Counting.{first_to_more, first_to_from, first_to_end}

module _ {M L : Type 0} (letter : M → L) (marked : L → ℕ → ℕ → L) where
  abbrev post : Asked M → Post M
  post s = record { to = s.to; what = s.message }

  -- the first is taken out, if there is one
  pub asked_rest : (threads : ℕ) (xs : List (Asked M)) (first : Option (Asked M)) (ys : List (Asked M)) → xs ≡ option_to_list first ++ ys → AreAsked letter marked threads (sends_of xs) → AreAsked letter marked threads (sends_of ys)
  asked_rest threads xs None ys e h = subst (λ l. AreAsked letter marked threads (sends_of l)) e h
  asked_rest threads xs (Some s) ys e h =
      let i = subst (λ l. AreAsked letter marked threads (sends_of l)) e h in
      record { to = All-tail (λ p. p.to < threads) (post s) (sends_of ys) i.to; blank = All-tail (λ p. letter p.what ≡ blank marked (letter p.what)) (post s) (sends_of ys) i.blank }

  pub asked_first : (threads : ℕ) (xs : List (Asked M)) (first : Option (Asked M)) (ys : List (Asked M)) → xs ≡ option_to_list first ++ ys → AreAsked letter marked threads (sends_of xs)
      → IfSome first (λ s. (s.to < threads) × (letter s.message ≡ marked (letter s.message) 0 0))
  asked_first threads xs None ys e h = tt
  asked_first threads xs (Some s) ys e h =
      let i = subst (λ l. AreAsked letter marked threads (sends_of l)) e h in
      (All-head (λ p. p.to < threads) (post s) (sends_of ys) i.to, All-head (λ p. letter p.what ≡ blank marked (letter p.what)) (post s) (sends_of ys) i.blank)

  -- others are put behind, or not
  pub asked_both : (threads : ℕ) (xs ys zs : List (Asked M)) (done : Bool) → zs ≡ (if done then xs ++ ys else xs) → AreAsked letter marked threads (sends_of xs) → AreAsked letter marked threads (sends_of ys) → AreAsked letter marked threads (sends_of zs)
  asked_both threads xs ys zs true e h i =
      subst (λ l. AreAsked letter marked threads l) (sym (ap sends_of e ∙ map-append post xs ys))
      (record { to = All-append (λ p. p.to < threads) (sends_of xs) (sends_of ys) h.to i.to; blank = All-append (λ p. letter p.what ≡ blank marked (letter p.what)) (sends_of xs) (sends_of ys) h.blank i.blank })
  asked_both threads xs ys zs false e h i = subst (λ l. AreAsked letter marked threads (sends_of l)) (sym e) h

  -- of others the last are put before them
  pub asked_behind : (threads : ℕ) (dropped put rest first zs : List (Asked M)) → first ≡ dropped ++ put → zs ≡ put ++ rest → AreAsked letter marked threads (sends_of first) → AreAsked letter marked threads (sends_of rest) → AreAsked letter marked threads (sends_of zs)
  asked_behind threads dropped put rest first zs parts e h i =
      let P = λ (p : Post M). p.to < threads in
      let Q = λ (p : Post M). letter p.what ≡ blank marked (letter p.what) in
      let j = subst (λ l. AreAsked letter marked threads l) (ap sends_of parts ∙ map-append post dropped put) h in
      subst (λ l. AreAsked letter marked threads l) (sym (ap sends_of e ∙ map-append post put rest))
      (record { to = All-append P (sends_of put) (sends_of rest) (All-back P (sends_of dropped) (sends_of put) j.to) i.to; blank = All-append Q (sends_of put) (sends_of rest) (All-back Q (sends_of dropped) (sends_of put) j.blank) i.blank })

  -- the first of them goes to one of the threads
  pub first_asked : (threads : ℕ) (xs : List (Asked M)) (x : Asked M) → 0 < length xs → x ≡ slice_index_or xs 0 x → AreAsked letter marked threads (sends_of xs) → (1 ≤ first_to x.to (sends_of xs)) × (x.to < threads)
  first_asked threads [] x some e h = absurd (omega arith)
  first_asked threads (y ∷ ys) x some e h =
      let one = first_to_more x.to (post y) (sends_of ys) (ap (λ (s : Asked M). s.to) (sym e)) in
      (omega arith, subst (λ (s : Asked M). s.to < threads) (sym e) (All-head (λ p. p.to < threads) (post y) (sends_of ys) h.to))

module _ {X : Type 0} where
  -- as many as are looked at go there
  pub neighbours_most : (ps : List (Post X)) (to place most : ℕ) → place ≤ length ps → ((j : ℕ) (d : Post X) → j < place → (slice_index_or ps j d).to ≡ to) → place ≡ most → place ≡ min (first_to to ps) most
  neighbours_most ps to place most within all e =
      let a = first_to_from to place ps within all in
      omega arith

  -- all before this place go there, and so does the one there
  pub neighbours_more : (ps : List (Post X)) (to place : ℕ) → ((j : ℕ) (d : Post X) → j < place → (slice_index_or ps j d).to ≡ to) → ((d : Post X) → (slice_index_or ps place d).to ≡ to)
      → (j : ℕ) (d : Post X) → j < place + 1 → (slice_index_or ps j d).to ≡ to
  neighbours_more ps to place all here j d l = ⊎_elim (λ low. all j d low) (λ high. (let is : j ≡ place = omega arith in ap (λ n. (slice_index_or ps n d).to) is ∙ here d)) (cases_lt j place)

  -- and the one there doesn't
  pub neighbours_end : (ps : List (Post X)) (to place : ℕ) → place < length ps → ((j : ℕ) (d : Post X) → j < place → (slice_index_or ps j d).to ≡ to) → ((d : Post X) → (slice_index_or ps place d).to ≢ to) → place ≡ first_to to ps
  neighbours_end [] to place within all other = absurd (omega arith)
  neighbours_end (p ∷ ps) to place within all other =
      let a = first_to_from to place (p ∷ ps) (omega arith) all in
      let b = first_to_end to (p ∷ ps) place p within (other p) in
      omega arith

  -- all go there
  pub neighbours_all : (ps : List (Post X)) (to : ℕ) → ((j : ℕ) (d : Post X) → j < length ps → (slice_index_or ps j d).to ≡ to) → length ps ≡ first_to to ps
  neighbours_all ps to all =
      let a = first_to_from to (length ps) ps (omega arith) all in
      let b : first_to to (drop (length ps) ps) ≡ 0 = ap (λ l. first_to to l) (drop-length ps) in
      omega arith

-- letters of the sends that are put before others
pub sends_both : {M : Type 0} (xs ys : List (Asked M)) → sends_of (xs ++ ys) ≡ sends_of xs ++ sends_of ys
sends_both xs ys = map-append (λ s. record { to = s.to; what = s.message }) xs ys
