-- What it means that a premise is needed: logs that meet all others, and whose record isn't lawful.
use Rattle.std.proofs.Common.{◌≡◌, ℕ, ◌==◌, Bool, true, false, ◌||◌, List, [], ◌∷◌, map, Option, Some, None, option_map, slice_get, refl, sym}
use Rattle.std.specs.List.{list_all}
use Rattle.std.proofs.lemmas.Bool.{false≢true}
use Rattle.lw_model.specs.declared.record.Record.{Record}
use Rattle.lw_model.specs.Lawful.{Lawful}
use Rattle.lw_model.specs.Verdict.{verdict}
use Rattle.lw_model.proofs.Judged.{verdict-exact}
use Rattle.lw_model.proofs.Passing.{item_passes}
use Rattle.lw_whole.specs.Logs.{Log}
use Rattle.lw_whole.specs.WholeRun.{Taken}
use Rattle.lw_whole.proofs.Premises.{Premise, Holds}
use Rattle.lw_whole.proofs.Premises as the
use Rattle.lw_whole.proofs.PremiseTests.{test, test_is}

-- a premise's place
abbrev pub place : Premise → ℕ
place the.threads = 0
place the.tags = 1
place the.sends = 2
place the.last = 3
place the.with_row = 4
place the.did_ats = 5
place the.called_ats = 6
place the.stood = 7
place the.callbacks = 8
place the.stays = 9
place the.devices = 10
place the.ordinals = 11
place the.found = 12
place the.begun = 13
place the.began_by = 14
place the.fired = 15
place the.client_count = 16
place the.client_lines = 17
place the.replies = 18
place the.seen = 19
place the.client_row = 20
place the.app_count = 21
place the.app_lines = 22
place the.took_in = 23
place the.knew = 24
place the.owner_lines = 25
place the.owner_row = 26
place the.run_is_sent = 27
place the.numbered = 28
place the.each_once = 29
place the.given = 30
place the.who_began = 31
place the.all_fired = 32
place the.one_callback = 33
place the.homes = 34
place the.ascend = 35
place the.for_orders = 36
place the.orders_sent = 37
place the.rounds = 38
place the.pool = 39

-- all of them but `threads`, in their places
abbrev pub tested : List Premise
tested =
    the.tags ∷ the.sends ∷ the.last ∷ the.with_row ∷ the.did_ats ∷ the.called_ats ∷ the.stood ∷ the.callbacks ∷ the.stays ∷ the.devices ∷ the.ordinals ∷ the.found ∷ the.begun ∷ the.began_by ∷ the.fired
    ∷ the.client_count ∷ the.client_lines ∷ the.replies ∷ the.seen ∷ the.client_row ∷ the.app_count ∷ the.app_lines ∷ the.took_in ∷ the.knew ∷ the.owner_lines ∷ the.owner_row ∷ the.run_is_sent ∷ the.numbered
    ∷ the.each_once ∷ the.given ∷ the.who_began ∷ the.all_fired ∷ the.one_callback ∷ the.homes ∷ the.ascend ∷ the.for_orders ∷ the.orders_sent ∷ the.rounds ∷ the.pool ∷ []

-- logs that meet all premises but this one, and whose record breaks a rule
pub record IsNeeded (p : Premise) : Type 0 where
  pub left : Record
  pub logs : List Log
  pub taken : List Taken
  pub others : (q : Premise) → (place q == place p) ≡ false → Holds q left logs taken
  pub unlawful : Lawful left → ⊥

module _ (p : Premise) (r : Record) (logs : List Log) (taken : List Taken) (rule : ℕ) (made : (0 == place p) ≡ false → r.threads ≡ map (λ l. l.lines) logs)
    (met : list_all (λ q. place q == place p || test q r logs taken) tested ≡ true) (breaks : option_map (λ (v : ℕ × ℕ). v.0) (verdict r) ≡ Some rule) where
  tested_holds : (k : ℕ) (q : Premise) → slice_get tested k ≡ Some q → (place q == place p) ≡ false → Holds q r logs taken
  tested_holds k q at other = test_is q r logs taken (of (place q == place p) other (item_passes (λ q. place q == place p || test q r logs taken) tested k q met at))
    where
      of : (b : Bool) {c : Bool} → b ≡ false → (b || c) ≡ true → c ≡ true
      of true e f = absurd (false≢true (sym e))
      of false e f = f

  holds : (q : Premise) → (place q == place p) ≡ false → Holds q r logs taken
  holds the.threads e = made e
  holds the.tags e = tested_holds 0 the.tags refl e
  holds the.sends e = tested_holds 1 the.sends refl e
  holds the.last e = tested_holds 2 the.last refl e
  holds the.with_row e = tested_holds 3 the.with_row refl e
  holds the.did_ats e = tested_holds 4 the.did_ats refl e
  holds the.called_ats e = tested_holds 5 the.called_ats refl e
  holds the.stood e = tested_holds 6 the.stood refl e
  holds the.callbacks e = tested_holds 7 the.callbacks refl e
  holds the.stays e = tested_holds 8 the.stays refl e
  holds the.devices e = tested_holds 9 the.devices refl e
  holds the.ordinals e = tested_holds 10 the.ordinals refl e
  holds the.found e = tested_holds 11 the.found refl e
  holds the.begun e = tested_holds 12 the.begun refl e
  holds the.began_by e = tested_holds 13 the.began_by refl e
  holds the.fired e = tested_holds 14 the.fired refl e
  holds the.client_count e = tested_holds 15 the.client_count refl e
  holds the.client_lines e = tested_holds 16 the.client_lines refl e
  holds the.replies e = tested_holds 17 the.replies refl e
  holds the.seen e = tested_holds 18 the.seen refl e
  holds the.client_row e = tested_holds 19 the.client_row refl e
  holds the.app_count e = tested_holds 20 the.app_count refl e
  holds the.app_lines e = tested_holds 21 the.app_lines refl e
  holds the.took_in e = tested_holds 22 the.took_in refl e
  holds the.knew e = tested_holds 23 the.knew refl e
  holds the.owner_lines e = tested_holds 24 the.owner_lines refl e
  holds the.owner_row e = tested_holds 25 the.owner_row refl e
  holds the.run_is_sent e = tested_holds 26 the.run_is_sent refl e
  holds the.numbered e = tested_holds 27 the.numbered refl e
  holds the.each_once e = tested_holds 28 the.each_once refl e
  holds the.given e = tested_holds 29 the.given refl e
  holds the.who_began e = tested_holds 30 the.who_began refl e
  holds the.all_fired e = tested_holds 31 the.all_fired refl e
  holds the.one_callback e = tested_holds 32 the.one_callback refl e
  holds the.homes e = tested_holds 33 the.homes refl e
  holds the.ascend e = tested_holds 34 the.ascend refl e
  holds the.for_orders e = tested_holds 35 the.for_orders refl e
  holds the.orders_sent e = tested_holds 36 the.orders_sent refl e
  holds the.rounds e = tested_holds 37 the.rounds refl e
  holds the.pool e = tested_holds 38 the.pool refl e

  -- the record breaks this rule
  pub needed : IsNeeded p
  needed = record {
    left = r;
    logs = logs;
    taken = taken;
    others = holds;
    unlawful = λ l. none (verdict r) breaks ((verdict-exact r).1 l);
  }
    where
      none : (o : Option (ℕ × ℕ)) → option_map (λ (v : ℕ × ℕ). v.0) o ≡ Some rule → o ≡ None → ⊥
      none None e f = cc
      none (Some v) e f = cc
