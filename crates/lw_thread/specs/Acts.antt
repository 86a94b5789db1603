-- What a light thread knows of its messages, and what its body asks for in a call.
use Rattle.std.specs.Prelude.{◌≡◌, ℕ, ◌<◌, Bool, false, List, [], ◌∷◌, ◌++◌, map, All, Option, slice_set}
use Rattle.lw_base.specs.Letters.{list_at, FitsRing}
use Rattle.lw_poller.specs.Pollers.{Pollers, no_pollers, times}

-- a message to a receiver, or its letter
pub record Post (X : Type 0) : Type 0 where
  pub to : ℕ
  pub what : X

-- what is known of a thread: its number, the family of its ring, what it has run, and what it has sent to each receiver
pub record Known (L F : Type 0) : Type 0 where
  pub thread : ℕ
  pub family : Option F
  pub ran : List L
  pub sent : List (List L)

-- what a body has under way
pub record Asks (L : Type 0) : Type 0 where
  -- 1 where a live poller has the number, and else 0
  pub live : ℕ → ℕ
  -- the sends that are still to be made, in order
  pub pending : List (Post L)

-- what a body sees and changes in a call
pub record ActsEnd (M : Type 0) : Type 0 where
  -- how many threads there are, and how many messages were run before the present one
  pub threads : ℕ
  pub ran : ℕ
  pub pollers : Pollers
  -- the sends that are still to be made, in order
  pub pending : List (Post M)
  -- the threads that are to be started, in the order in which that was asked for
  pub started : List ℕ
  -- whether the end of the thread was asked for
  pub asked_end : Bool

-- a body, and what it sees and changes
pub record Doing (M B : Type 0) : Type 0 where
  pub body : B
  pub acts : ActsEnd M

-- nothing is asked for, of so many threads
abbrev pub no_acts : {M : Type 0} → ℕ → ActsEnd M
no_acts threads = record { threads = threads; ran = 0; pollers = no_pollers; pending = []; started = []; asked_end = false }

-- nothing is under way
abbrev pub no_asks : {L : Type 0} → Asks L
no_asks = record { live = λ _. 0; pending = [] }

-- A message that isn't sent yet has 0 in its tag for its sender and its number.
abbrev pub blank : {L : Type 0} → (L → ℕ → ℕ → L) → L → L
blank marked x = marked x 0 0

module _ {M L : Type 0} (letter : M → L) where
  -- the letter of each, to the same receiver
  abbrev pub letters : List (Post M) → List (Post L)
  letters ps = map (λ p. record { to = p.to; what = letter p.what }) ps

  -- what a body has under way, by its acts
  abbrev pub asks_of : ActsEnd M → Asks L
  asks_of a = record { live = λ number. times number a.pollers; pending = letters a.pending }

module _ {L F : Type 0} where
  -- one more was run
  abbrev pub and_run : Known L F → L → Known L F
  and_run k x = record k { ran = k.ran ++ x ∷ [] }

  -- one more was sent
  abbrev pub and_sent : Known L F → ℕ → L → Known L F
  and_sent k to x = record k { sent = slice_set k.sent to (list_at k.sent to ++ x ∷ []) }

-- each fits its receiver and this family
abbrev pub AllFit : {M F : Type 0} → (ℕ → F → M → Type 0) → Option F → List (Post M) → Type 0
AllFit fits family ps = All (λ p. FitsRing fits p.to family p.what) ps

-- what the type of acts keeps of the sends: each goes to one of so many threads, and has no sender and number yet
pub record AreAsked {M L : Type 0} (letter : M → L) (marked : L → ℕ → ℕ → L) (threads : ℕ) (ps : List (Post M)) : Type 0 where
  pub to : All (λ p. p.to < threads) ps
  pub blank : All (λ p. letter p.what ≡ blank marked (letter p.what)) ps

-- a send is asked for, behind the others. What waits to be sent is the message without a sender and number
pub record IsAsked {M L F : Type 0} (letter : M → L) (marked : L → ℕ → ℕ → L) (fits : ℕ → F → M → Type 0) (to : ℕ) (message : M) (old new : ActsEnd M) : Type 0 where
  pub waiting : M
  pub same_letter : letter waiting ≡ blank marked (letter message)
  pub still_fits : (r : ℕ) (f : F) → fits r f message → fits r f waiting
  pub added : new ≡ record old { pending = old.pending ++ record { to = to; what = waiting } ∷ [] }
