-- The app's end, of one device.
use Rattle.std.proofs.Common.{ℕ, zero, suc, ◌≡◌, ◌+◌, ◌<◌, ◌∷◌, ◌++◌, List, [], Some, None, true, false, Bool, length, get_or, set, arith, refl, ap, ◌∙◌}
use Rattle.std.specs.Prelude.{is_none, ◌||◌, ◌≤◌, cond}
use Rattle.lw_model.specs.declared.record.Did.{Did}
use Rattle.lw_model.specs.declared.record.Called.{Called}
use Rattle.lw_model.specs.declared.record.Answer.TheVariants.{Began}
use Rattle.lw_base.specs.declared.message.What.TheVariants as what
use Rattle.lw_target.specs.declared.mail.Load.TheVariants as load
use Rattle.lw_target.specs.declared.acts.Outgoing.{Outgoing}
use Rattle.lw_target.specs.declared.app.App.{App}
use Rattle.lw_target.specs.declared.device.Device.{Device}
use Rattle.lw_target.specs.Messages.{Asked}
use Rattle.lw_target.specs.Answers.{unregister_answer}
use Rattle.lw_target.specs.App.{Begins, Calls, Stops, Ends, unregistered, called_back}

-- before the device is unregistered, and after
abbrev pub begun : ℕ → List Did → App → ℕ → Device → List Device → Type 0
begun zero lines new at v devices = (new.did ≡ lines) × (devices ≡ v ∷ [])
begun (suc n) lines new at v devices = (new.owed.items ≡ true ∷ []) × (new.did ≡ lines ++ record { at = at; op = 0; answer = Began v.given } ∷ []) × (devices ≡ unregistered v ∷ [])

-- an element is read the same with itself in place of the default
pub get_or_twice : {X : Type 0} (xs : List X) (i : ℕ) (d : X) → get_or xs i d ≡ get_or xs i (get_or xs i d)
get_or_twice [] i d = refl
get_or_twice (x ∷ xs) zero d = refl
get_or_twice (x ∷ xs) (suc i) d = get_or_twice xs i d

set_one : (flags : List Bool) (x : Bool) → length flags ≡ 1 → set flags 0 x ≡ x ∷ []
set_one [] x e = absurd (omega (arith, e))
set_one (b ∷ []) x e = refl
set_one (b ∷ c ∷ flags) x e = absurd (omega (arith, e))

pub begun_on : (lines : List Did) (mid new : App) (at i : ℕ) (v x y : Device) (devices : List Device) → i < length devices → v.shut_by ≡ None → length mid.owed.items ≡ length devices
    → begun i lines mid at v devices → x ≡ get_or devices i x → y ≡ unregistered x
    → new.did ≡ mid.did ++ record { at = at; op = i; answer = unregister_answer x } ∷ [] → new.owed.items ≡ set mid.owed.items i (is_none x.shut_by)
    → begun (i + 1) lines new at v (set devices i y)
begun_on lines mid new at zero v x y devices less usable long (did, is) here there listed owes =
    let same : x ≡ v = here ∙ ap (λ ds. get_or ds 0 x) is in (
      owes ∙ set_one mid.owed.items (is_none x.shut_by) (long ∙ ap length is) ∙ ap (λ b. b ∷ []) (ap (λ (d : Device). is_none d.shut_by) same ∙ ap is_none usable),
      listed ∙ ap (λ q. q ++ record { at = at; op = 0; answer = unregister_answer x } ∷ []) did
          ∙ ap (λ a. lines ++ (let l : Did = record { at = at; op = 0; answer = a } in l) ∷ []) (ap unregister_answer same ∙ answered v usable),
      ap (λ ds. set ds 0 y) is ∙ ap (λ d. d ∷ []) (there ∙ ap unregistered same),
    )
  where
    answered : (d : Device) → d.shut_by ≡ None → unregister_answer d ≡ Began d.given
    answered d e = rw e refl
begun_on lines mid new at (suc i) v x y devices less usable long (owed, did, is) here there listed owes = absurd (omega (arith, less, ap length is))

-- before the callback that is owed and due is made, and after
abbrev pub called : ℕ → List Called → App → ℕ → Device → List Device → Type 0
called zero lines new at v devices = (new.owed.items ≡ true ∷ []) × (new.called ≡ lines) × (devices ≡ v ∷ [])
called (suc n) lines new at v devices = (new.owed.items ≡ false ∷ []) × (new.called ≡ lines ++ record { at = at; device = 0 } ∷ []) × (devices ≡ called_back v ∷ [])

pub called_on : (lines : List Called) (mid new : App) (at i : ℕ) (v x y : Device) (devices : List Device) → i < length devices → v.standing ≡ 0
    → called i lines mid at v devices → x ≡ get_or devices i x
    → (get_or mid.owed.items i false ≡ true → x.standing ≡ 0
    → (new.owed.items ≡ set mid.owed.items i false) × (new.called ≡ mid.called ++ record { at = at; device = i } ∷ []) × (y ≡ called_back x))
    → called (i + 1) lines new at v (set devices i y)
called_on lines mid new at zero v x y devices less unused (owed, made, is) here does =
    let same : x ≡ v = here ∙ ap (λ ds. get_or ds 0 x) is in
    let did = does (ap (λ bs. get_or bs 0 false) owed) (ap (λ (d : Device). d.standing) same ∙ unused) in (
      did.0 ∙ ap (λ bs. set bs 0 false) owed,
      did.1 ∙ ap (λ q. q ++ record { at = at; device = 0 } ∷ []) made,
      ap (λ ds. set ds 0 y) is ∙ ap (λ d. d ∷ []) (did.2 ∙ ap called_back same),
    )
called_on lines mid new at (suc i) v x y devices less unused (owed, made, is) here does = absurd (omega (arith, less, ap length is))

-- one of two parts did something
pub either : (p q : Bool) → cond (p || q) 1 0 ≤ cond p 1 0 + cond q 1 0
either true true = omega arith
either true false = omega arith
either false true = omega arith
either false false = omega arith

-- before the owner is told to stop, and after
abbrev pub stopped : ℕ → ℕ → List Outgoing → List Outgoing → Type 0
stopped zero clients before after = after ≡ before
stopped (suc n) clients before after = after ≡ before ++ record { to = 1 + clients; what = what.Stop; load = load.Nothing } ∷ []

-- a device that the app unregisters
pub unregistered_is : (v : Device) → v.shut_by ≡ None → unregistered v ≡ record v { shut_by = Some 0 }
unregistered_is v e = rw e refl

-- the three parts of the app's end
pub ends_all : (a b c d : App) (before after : Asked) (at : ℕ) (v : Device) (mid new : List Device) → at ≡ before.ran → Begins a b at v mid → v.shut_by ≡ None → v.standing ≡ 0
    → ((u : Device) → mid ≡ u ∷ [] → u.standing ≡ 0 → b.owed.items ≡ true ∷ [] → Calls b c at u new)
    → (c.owed.items ≡ false ∷ [] → Stops c d before after) → Ends a d before after v new
ends_all a b c d before after at v mid new now began usable unused calls stops =
    let called = calls (unregistered v) began.device (ap (λ (d : Device). d.standing) (unregistered_is v usable) ∙ unused) began.owed in
    let stopped = stops called.owed in
    record {
      clients = stopped.clients ∙ called.rest.clients ∙ began.rest.clients;
      done = stopped.done ∙ called.rest.done ∙ began.rest.done;
      began = stopped.began ∙ called.rest.began ∙ began.began;
      ended = stopped.ended;
      did = stopped.did ∙ called.rest.did ∙ began.did ∙ ap (λ n. a.did ++ (let l : Did = record { at = n; op = 0; answer = Began v.given } in l) ∷ []) now;
      called = stopped.called ∙ called.called ∙ ap (λ q. q ++ (let l : Called = record { at = at; device = 0 } in l) ∷ []) began.rest.called
          ∙ ap (λ n. a.called ++ (let l : Called = record { at = n; device = 0 } in l) ∷ []) now;
      sends = stopped.sends ∙ ap (λ n. before.sends ++ (let o : Outgoing = record { to = 1 + n; what = what.Stop; load = load.Nothing } in o) ∷ []) (called.rest.clients ∙ began.rest.clients);
      device = called.device;
    }
