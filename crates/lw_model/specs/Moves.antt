-- Where a thread ran, and how its messages are numbered.
use Rattle.std.specs.Prelude.{ℕ, ◌≡◌, ◌==◌, nat_lt, Bool, true, ◌&&◌, IsTrue, List, [], ◌∷◌, option_map, unwrap_or, slice_get, count_by}
use Rattle.std.specs.List.{list_all, list_any}
use Rattle.lw_base.specs.declared.message.Tag.{Tag}
use Rattle.lw_model.specs.declared.record.Record.{Record}
use Rattle.lw_base.specs.declared.moves.Hop.{Hop}
use Rattle.lw_model.specs.Threads.{EachThread, of_thread, ran_of}
use Rattle.lw_model.specs.OwnOrder.{with_past}
use Rattle.lw_base.specs.Masks.{every_reactor, home}

-- the reactor on which a thread started
abbrev pub home_of : Record → ℕ → ℕ
home_of r t = unwrap_or (option_map (λ x. x.home) (slice_get r.threads t)) 0

-- the reactor on which a thread has to start: scripts have no masks, so it may stand on every one
abbrev pub first_reactor : Record → ℕ → ℕ
first_reactor r t = home every_reactor r.reactors t

-- the moves of a thread
abbrev pub hops_of : Record → ℕ → List Hop
hops_of r t = of_thread (λ x. x.hops) r t

-- a round with the hop's number has an order of thread t to the hop's reactor
abbrev pub is_ordered : Record → ℕ → Hop → Bool
is_ordered r t h = list_any (λ x. x.number == h.round && list_any (λ o. o.thread == t && o.to == h.reactor) x.orders) r.rounds

-- the hop's round is above that of the hop before it
abbrev pub is_above_last : List Hop → Hop → Bool
is_above_last [] h = true
is_above_last (g ∷ past) h = nat_lt g.round h.round

-- a hop goes up in rounds and has its order
abbrev pub hop_fits : Record → ℕ → List Hop → Hop → Bool
hop_fits r t past h = is_above_last past h && is_ordered r t h

-- each thread starts at home, and each of its hops has its order, in ascending rounds
pub record HomesAndHops (r : Record) : Type 0 where
  pub homes : EachThread r (λ t. home_of r t ≡ first_reactor r t)
  pub hops : EachThread r (λ t. IsTrue (list_all (λ p. hop_fits r t p.0 p.1) (with_past [] (hops_of r t))))

-- a message's number is that of the earlier messages of its sender that this thread ran
abbrev pub number_fits : List Tag → Tag → Bool
number_fits past m = m.number == count_by (λ x. x.sender == m.sender) past

-- each message is numbered so
abbrev pub Numbers : Record → Type 0
Numbers r = EachThread r (λ t. IsTrue (list_all (λ p. number_fits p.0 p.1) (with_past [] (ran_of r t))))
