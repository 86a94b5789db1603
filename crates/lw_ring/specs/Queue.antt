-- The rule of a ring's queue: of each sender, what was taken and then what waits is what it sent.
use Rattle.std.specs.Prelude.{◌≡◌, ◌≢◌, ◌⊎◌, ℕ, ◌+◌, ◌<◌, ◌≤◌, true, false, List, [], ◌∷◌, ◌++◌, map, length, All, Option, None}
use mathlib.Core.Option.{some}
use lib.ListN.{get_elem?}
use Rattle.lw_base.specs.declared.message.Tag.{Tag}
use Rattle.lw_latch.specs.RingWord.{most_senders, most_sent, above_all_sent}
use Rattle.lw_base.specs.Letters.{sent_by, list_at, FitsRing}
use Rattle.lw_ring.specs.declared.queue.PassView.{PassView}
use Rattle.lw_ring.specs.declared.parcel.Parcel.{Parcel}
use Rattle.lw_ring.specs.declared.parcel.Parcel.TheVariants.{One, Run}

-- the messages of a parcel, and of several, oldest first
abbrev pub contents : {T : Type 0} → Parcel T → List T
contents (One x) = x ∷ []
contents (Run xs) = xs.items

abbrev pub unpacked : {T : Type 0} → List (Parcel T) → List T
unpacked [] = []
unpacked (x ∷ xs) = contents x ++ unpacked xs

module _ {L F : Type 0} where
  -- the first pass, before the ring is made
  abbrev pub fresh : PassView L F
  fresh = record { fresh = true; number = 0; family = None; sends = false; from = 0; put = []; gets = false; made = 0; got = []; known = [] }

  -- a pass that was joined away
  abbrev pub spent : PassView L F
  spent = record { fresh = false; number = 0; family = None; sends = false; from = 0; put = []; gets = false; made = 0; got = []; known = [] }

  -- a sender that has sent nothing
  abbrev pub sender : ℕ → Option F → ℕ → PassView L F
  sender number family from = record { fresh = false; number = number; family = family; sends = true; from = from; put = []; gets = false; made = 0; got = []; known = [] }

  -- the receiver that has taken nothing, with so many senders made
  abbrev pub receiver : ℕ → Option F → ℕ → PassView L F
  receiver number family made = record { fresh = false; number = number; family = family; sends = false; from = 0; put = []; gets = true; made = made; got = []; known = [] }

  -- the receiver's view with one more sender made, and that sender's
  abbrev pub one_more : PassView L F → PassView L F
  one_more v = record v { made = v.made + 1 }

  abbrev pub the_next : PassView L F → PassView L F
  the_next v = sender v.number v.family v.made

  -- the receiver's view once it has taken in the next sender's
  abbrev pub with_sender : PassView L F → PassView L F → PassView L F
  with_sender v w = record v { known = v.known ++ w.put ∷ [] }

  -- with more letters sent, and with more taken
  abbrev pub with_put : PassView L F → List L → PassView L F
  with_put v ls = record v { put = v.put ++ ls }

  abbrev pub with_got : PassView L F → List L → PassView L F
  with_got v ls = record v { got = v.got ++ ls }

-- the whole of a ring: the receiver's pass, each sender's (the receiver's where there is none), what each has sent, what
-- was taken, and the ring's number and family
pub record Facts (L F : Type 0) : Type 0 where
  pub reader : ℕ
  pub pass_of : ℕ → ℕ
  pub sent : ℕ → List L
  pub got : List L
  pub number : ℕ
  pub family : Option F

module _ {L F : Type 0} where
  -- what a sender's pass knows is so
  pub record FitsSender (f : Facts L F) (i : ℕ) (v : PassView L F) : Type 0 where
    pub its_pass : f.pass_of v.from ≡ i
    pub apart : i ≢ f.reader
    pub put : v.put ≡ f.sent v.from
    pub number : v.number ≡ f.number
    pub family : v.family ≡ f.family

  -- what the receiver's pass knows is so, and a sender that is not yet made has sent nothing
  pub record FitsReceiver (f : Facts L F) (i : ℕ) (v : PassView L F) : Type 0 where
    pub its_pass : i ≡ f.reader
    pub alone : v.sends ≡ false
    pub got : v.got ≡ f.got
    pub number : v.number ≡ f.number
    pub family : v.family ≡ f.family
    pub later : (p : ℕ) → v.made ≤ p → (f.pass_of p ≡ f.reader) × (f.sent p ≡ [])
    pub known : (k : ℕ) → k < length v.known → (f.pass_of k ≡ f.reader) × (list_at v.known k ≡ f.sent k)
    pub few : v.made ≤ most_senders
    pub taken_in : length v.known ≤ v.made

  -- what a pass of a ring that is made knows is so
  pub record FitsView (f : Facts L F) (i : ℕ) (v : PassView L F) : Type 0 where
    pub not_fresh : v.fresh ≡ false
    pub as_sender : v.sends ≡ true → FitsSender f i v
    pub as_receiver : v.gets ≡ true → FitsReceiver f i v

module _ {T L F : Type 0} (letter : T → L) (tag_of : L → Tag) (fits : ℕ → F → T → Type 0) where
  -- the rule of a ring that is made, of the messages that wait, oldest first, and of the passes' views
  pub record Posted (items : List T) (views : List (PassView L F)) : Type 0 where
    pub facts : Facts L F
    pub delivered : (p : ℕ) → sent_by tag_of p (facts.got ++ map letter items) ≡ facts.sent p
    pub short : (p : ℕ) → length (facts.sent p) ≤ most_sent
    pub fitting : All (FitsRing fits facts.number facts.family) items
    pub each : (i : ℕ) (v : PassView L F) → get_elem? views i ≡ some v → FitsView facts i v

  -- the ring is not made yet: nothing waits, and there is the first pass alone
  pub record Unmade (items : List T) (views : List (PassView L F)) : Type 0 where
    pub empty : items ≡ []
    pub first : views ≡ fresh ∷ []

  abbrev pub Keeps : List T → List (PassView L F) → Type 0
  Keeps items views = Unmade items views ⊎ Posted items views

  -- the rule of the queue, in which the messages stand in parcels
  abbrev pub Delivers : List (Parcel T) → List (PassView L F) → Type 0
  Delivers parcels views = Keeps (unpacked parcels) views

  -- each message fits the ring and was sent by one of its senders
  abbrev pub AllFit : ℕ → Option F → ℕ → List T → Type 0
  AllFit number family senders xs = All (λ x. FitsRing fits number family x × ((tag_of (letter x)).sender < senders)) xs

  -- what a pop tells of the parcel that it gave
  pub record Takes (v : PassView L F) (x : Parcel T) (w : PassView L F) : Type 0 where
    pub view : w ≡ with_got v (map letter (contents x))
    pub fitting : AllFit v.number v.family v.made (contents x)
    pub short : length w.got < above_all_sent

  -- some messages came off the queue, and stand behind those that were at hand
  pub record TakenOff (v w : PassView L F) (before after : List T) : Type 0 where
    pub more : List T
    pub view : w ≡ with_got v (map letter more)
    pub behind : after ≡ before ++ more
    pub fitting : AllFit v.number v.family v.made more
    pub short : length w.got < above_all_sent

  -- at one moment these parcels waited, and a pass had this view
  pub record Saw (v : PassView L F) (parcels : List (Parcel T)) : Type 0 where
    pub views : List (PassView L F)
    pub pass : ℕ
    pub rule : Delivers parcels views
    pub here : get_elem? views pass ≡ some v

-- what a push tells
abbrev pub Sends : {T L F : Type 0} → (T → L) → PassView L F → Parcel T → PassView L F → Type 0
Sends letter v x w = w ≡ with_put v (map letter (contents x))
