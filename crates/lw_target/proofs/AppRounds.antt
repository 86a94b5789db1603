-- One device more of the app's loops.
use Rattle.std.proofs.Common.{ℕ, ◌≡◌, ◌+◌, ◌<◌, Bool, false, List, [], ◌∷◌, ◌++◌, zip, take, length, get_or, set, option_to_list, append_assoc, refl, sym, ap, ap₂, ◌∙◌, arith}
use Rattle.std.specs.Prelude.{is_none}
use Rattle.std.proofs.lemmas.List.FromFn.{map-range_with_len_more}
use Rattle.lw_model.specs.declared.record.Did.{Did}
use Rattle.lw_model.specs.declared.record.Called.{Called}
use Rattle.lw_target.specs.declared.device.Device.{Device}
use Rattle.lw_target.specs.declared.acts.Outgoing.{Outgoing}
use Rattle.lw_target.specs.Answers.{unregister_answer}
use Rattle.lw_target.specs.App.{unregistered}
use Rattle.lw_target.specs.AppCalls.{begins_owed, unregistrations, callback, callbacks, still_owed, behind_callback, stops, stop_for}
use Rattle.lw_target.proofs.AppEach.{made_to, made_next, made_get, listed_next, chosen_next, zip_length, zip_get}

abbrev pub did_line : ℕ → ℕ → Device → Did
did_line at place v = record { at = at; op = place; answer = unregister_answer v }

-- what the loop over unregistrations keeps at place i
pub record Begun (at i : ℕ) (devices : List Device) (flags : List Bool) (lines : List Did) (owed : List Bool) (did : List Did) (now : List Device) : Type 0 where
  pub owes : owed ≡ made_to begins_owed devices flags i
  pub lists : did ≡ lines ++ unregistrations at (take i devices)
  pub are : now ≡ made_to unregistered devices devices i

pub begun_each : (at i : ℕ) (devices : List Device) (flags : List Bool) (lines : List Did) (owed owed' : List Bool) (did did' : List Did) (now : List Device) (x y : Device)
    → i < length devices → length flags ≡ length devices → Begun at i devices flags lines owed did now
    → x ≡ get_or now i x → y ≡ unregistered x → did' ≡ did ++ did_line at i x ∷ [] → owed' ≡ set owed i (is_none x.shut_by)
    → Begun at (i + 1) devices flags lines owed' did' (set now i y)
begun_each at i devices flags lines owed owed' did did' now x y less long h here there listed owes =
    let same : x ≡ get_or devices i x = here ∙ ap (λ ds. get_or ds i x) h.are ∙ made_get unregistered devices devices i x less refl in
    record {
      owes = owes ∙ ap (λ bs. set bs i (is_none x.shut_by)) h.owes ∙ made_next begins_owed devices flags i x (is_none x.shut_by) less long (ap begins_owed same);
      lists = listed_next (did_line at) lines did did' devices i x x less same h.lists listed;
      are = ap (λ ds. set ds i y) h.are ∙ made_next unregistered devices devices i x y less refl (there ∙ ap unregistered same);
    }

-- what the loop over callbacks keeps at place i
pub record MadeCalls (at i : ℕ) (devices : List Device) (flags : List Bool) (lines : List Called) (owed : List Bool) (called : List Called) (now : List Device) : Type 0 where
  pub owes : owed ≡ made_to still_owed (zip flags devices) flags i
  pub lists : called ≡ lines ++ callbacks at (take i (zip flags devices))
  pub are : now ≡ made_to behind_callback (zip flags devices) devices i

pub called_each : (at i : ℕ) (devices : List Device) (flags : List Bool) (lines : List Called) (owed owed' : List Bool) (called called' : List Called) (now : List Device) (x y : Device)
    → i < length devices → length flags ≡ length devices → MadeCalls at i devices flags lines owed called now
    → x ≡ get_or now i x → y ≡ behind_callback (get_or owed i false, x) → called' ≡ called ++ option_to_list (callback at i (get_or owed i false, x))
    → owed' ≡ set owed i (still_owed (get_or owed i false, x))
    → MadeCalls at (i + 1) devices flags lines owed' called' (set now i y)
called_each at i devices flags lines owed owed' called called' now x y less long h here there listed owes =
    let zs : List (Bool × Device) = zip flags devices in
    let few : i < length zs = omega (arith, zip_length flags devices long, less) in
    let flag : get_or owed i false ≡ get_or flags i false = ap (λ bs. get_or bs i false) h.owes ∙ made_get still_owed zs flags i false few (omega (arith, zip_length flags devices long, long)) in
    let device : x ≡ get_or devices i x = here ∙ ap (λ ds. get_or ds i x) h.are ∙ made_get behind_callback zs devices i x few (sym (zip_length flags devices long)) in
    let pair : ◌≡◌ {A = Bool × Device} (get_or owed i false, x) (get_or zs i (false, x)) =
    ap₂ (λ (b : Bool) (v : Device). let p : Bool × Device = (b, v) in p) flag device ∙ sym (zip_get flags devices i false x long less) in
    record {
      owes = owes ∙ ap (λ bs. set bs i (still_owed (get_or owed i false, x))) h.owes
          ∙ made_next still_owed zs flags i (false, x) (still_owed (get_or owed i false, x)) few (omega (arith, zip_length flags devices long, long)) (ap still_owed pair);
      lists = chosen_next (callback at) lines called called' zs i (false, x) (get_or owed i false, x) few pair h.lists listed;
      are = ap (λ ds. set ds i y) h.are ∙ made_next behind_callback zs devices i (false, x) y few (sym (zip_length flags devices long)) (there ∙ ap behind_callback pair);
    }

-- one stop more
pub stop_next : (clients i : ℕ) (before mid after : List Outgoing) → mid ≡ before ++ stops clients i → after ≡ mid ++ stop_for clients i ∷ [] → after ≡ before ++ stops clients (i + 1)
stop_next clients i before mid after is sent =
    sent ∙ ap (λ l. l ++ stop_for clients i ∷ []) is ∙ append_assoc before (stops clients i) (stop_for clients i ∷ [])
    ∙ ap (λ l. before ++ l) (sym (map-range_with_len_more (stop_for clients) 0 i i (omega arith)))
