-- A letter that was run had been sent.
use Rattle.std.proofs.Common.{◌≡◌, ℕ, zero, suc, ◌<◌, ◌==◌, Bool, true, false, List, [], ◌∷◌, length, Option, Some, slice_get, unwrap_or, option_map, refl, sym, ap, subst, ◌∙◌, inl, inr}
use Rattle.std.specs.Prelude.{◌⊎◌, if◌then◌else◌}
use Rattle.std.specs.List.{flat_map}
use Rattle.std.proofs.lemmas.Bool.{eqb-true, cases_lt}
use Rattle.std.proofs.lemmas.Option.{slice_get_within}
use Rattle.lw_base.specs.Letters.{sent_by}
use Rattle.lw_base.proofs.Lists.{get_within}
use Rattle.lw_whole.specs.Letters.{Letter}
use Rattle.lw_whole.specs.Logs.{Log, all_sends, sent_by_thread}
use Rattle.lw_whole.specs.Rings.{RingsSettled}
use Rattle.lw_whole.proofs.Numbers.{run_at, none_sent}
use Rattle.lw_whole.proofs.TokenBack.{Among, among_either, of_some_sender, IsTo, sent_to}

among_get : {X : Type 0} (xs : List X) (i : ℕ) (x : X) → slice_get xs i ≡ Some x → Among (λ y. y ≡ x) xs
among_get [] i x e = cc
among_get (y ∷ xs) zero x e = inl (same e)
  where
    same : Some y ≡ Some x → y ≡ x
    same e = cc
among_get (y ∷ xs) (suc i) x e = inr (among_get xs i x e)

-- a letter of a sender names it
named_by : (s : ℕ) (x : Letter) (ls : List Letter) → Among (λ y. y ≡ x) (sent_by (λ l. l.tag) s ls) → x.tag.sender ≡ s
named_by s x [] g = absurd g
named_by s x (y ∷ ls) g = at (y.tag.sender == s) refl g (λ h. named_by s x ls h)
  where
    at : (b : Bool) → (y.tag.sender == s) ≡ b → Among (λ z. z ≡ x) (if b then y ∷ sent_by (λ l. l.tag) s ls else sent_by (λ l. l.tag) s ls) → (Among (λ z. z ≡ x) (sent_by (λ l. l.tag) s ls) → x.tag.sender ≡ s) → x.tag.sender ≡ s
    at true e (inl is) go = ap (λ (z : Letter). z.tag.sender) (sym is) ∙ eqb-true y.tag.sender s e
    at true e (inr g) go = go g
    at false e g go = go g

-- a letter that thread u ran was sent to it by some thread, at a step or last
pub record SentFrom (logs : List Log) (u : ℕ) (x : Letter) : Type 0 where
  pub sender : ℕ
  pub named : x.tag.sender ≡ sender
  pub within : sender < length logs
  pub log : Log
  pub at : slice_get logs sender ≡ Some log
  pub among : Among (IsTo u (λ y. y ≡ x)) (flat_map (λ now. now) log.sends) ⊎ Among (IsTo u (λ y. y ≡ x)) log.last

pub came_from : (logs : List Log) → RingsSettled logs → (u : ℕ) (l : Log) → slice_get logs u ≡ Some l → (i : ℕ) (x : Letter) → slice_get l.ran i ≡ Some x → SentFrom logs u x
came_from logs rings u l at i x e =
    let by = of_some_sender (λ y. y ≡ x) l.ran (among_get l.ran i x e) in
    let sent : Among (IsTo u (λ y. y ≡ x)) (sent_by_thread logs by.0) = sent_to u (λ y. y ≡ x) (sent_by_thread logs by.0)
    (subst (Among (λ y. y ≡ x)) (ap (sent_by (λ l. l.tag) by.0) (sym (run_at logs u l at)) ∙ rings.run_is_sent u by.0 (slice_get_within logs u l at)) by.1) in
    elim (cases_lt by.0 (length logs)) [
      | inl within ↦
          let s = get_within logs by.0 within in
          record {
            sender = by.0;
            named = named_by by.0 x l.ran by.1;
            within = within;
            log = s.0;
            at = s.1;
            among = among_either (IsTo u (λ y. y ≡ x)) (flat_map (λ now. now) s.0.sends) s.0.last (subst (Among (IsTo u (λ y. y ≡ x))) (ap (λ (o : Option Log). unwrap_or (option_map all_sends o) []) s.1) sent);
          }
      | inr out ↦ absurd (subst (Among (IsTo u (λ y. y ≡ x))) (none_sent logs by.0 out) sent)
    ]
