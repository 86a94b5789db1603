-- Where every reactor is named, as for each record, thread t is at home on the reactor t modulo their number.
use Rattle.std.proofs.Common.{◌≡◌, ℕ, zero, suc, ◌+◌, ◌/◌, ◌%◌, ◌^◌, ◌<◌, ◌≤◌, ◌==◌, nat_le, Bool, true, cond, ◌∷◌, length, filter, get_or, refl, ap, ◌∙◌, arith}
use Rattle.std.specs.List.{range_with_len}
use Rattle.std.proofs.lemmas.Bool.{agree_below_at, or_left, and_parts, leb-true}
use Rattle.std.proofs.lemmas.Nat.{mod_below}
use Rattle.std.proofs.lemmas.List.FromFn.{length-range_with_len, get_or-range_with_len}
use Rattle.lw_model.specs.declared.record.Record.{Record}
use Rattle.lw_base.specs.Masks.{every_reactor, allows, allowed, home}
use Rattle.lw_model.specs.Moves.{first_reactor}
use Rattle.lw_model.proofs.Printed.{parts}

pub every_allows : (reactors c : ℕ) → c < 16 → allows every_reactor reactors c ≡ true
every_allows reactors c below = or_left ((every_reactor / 2 ^ c) % 2 == 1) (every_reactor % 2 ^ reactors == 0)
    (agree_below_at (λ k. (every_reactor / 2 ^ k) % 2 == 1) (λ k. true) 16 c refl below)

filter_range : (p : ℕ → Bool) (a n : ℕ) → ((c : ℕ) → c < a + n → p c ≡ true) → filter p (range_with_len a n) ≡ range_with_len a n
filter_range p a zero h = refl
filter_range p a (suc n) h =
    ap (λ b. cond b (a ∷ filter p (range_with_len (a + 1) n)) (filter p (range_with_len (a + 1) n))) (h a (omega arith))
    ∙ ap (λ l. a ∷ l) (filter_range p (a + 1) n (λ c below. h c (omega arith)))

pub every_allowed : (reactors : ℕ) → reactors ≤ 16 → allowed every_reactor reactors ≡ range_with_len 0 reactors
every_allowed reactors few = filter_range (allows every_reactor reactors) 0 reactors (λ c below. every_allows reactors c (omega arith))

pub home_everywhere : (reactors t : ℕ) → 1 ≤ reactors → reactors ≤ 16 → home every_reactor reactors t ≡ t % reactors
home_everywhere reactors t some few =
    let zero_more : 0 + t % reactors ≡ t % reactors = omega arith in
    ap (λ l. get_or l (t % length l) 0) (every_allowed reactors few)
    ∙ ap (λ n. get_or (range_with_len 0 reactors) (t % n) 0) (length-range_with_len 0 reactors)
    ∙ get_or-range_with_len 0 reactors (t % reactors) 0 (mod_below t reactors (omega (arith, some)))
    ∙ zero_more

pub first_reactor_is : (r : Record) (t : ℕ) → first_reactor r t ≡ t % r.reactors
first_reactor_is r t =
    let within = and_parts (nat_le 1 r.reactors) (nat_le r.reactors 16) (parts r).reactors in
    home_everywhere r.reactors t (leb-true 1 r.reactors within.0) (leb-true r.reactors 16 within.1)
