-- Numbers, from the settled rings.
use Rattle.std.proofs.Common.{◌≡◌, ℕ, suc, ◌+◌, ◌<◌, ◌≤◌, ◌==◌, Bool, true, false, cond, List, [], ◌∷◌, map, filter, length, Option, Some, slice_get, unwrap_or, option_map, refl, sym, ap, ap₂, subst, ◌∙◌, arith, inl, inr}
use Rattle.std.specs.Prelude.{slice_index_or, if◌then◌else◌}
use Rattle.std.specs.List.{list_all, range_with_len}
use Rattle.std.proofs.lemmas.Bool.{cases_lt}
use Rattle.std.proofs.lemmas.Option.{slice_get_past}
use Rattle.lw_base.specs.declared.message.Tag.{Tag}
use Rattle.lw_base.specs.Letters.{sent_by}
use Rattle.lw_model.specs.declared.record.Record.{Record}
use Rattle.lw_model.specs.OwnOrder.{with_past}
use Rattle.lw_model.specs.Moves.{Numbers, number_fits}
use Rattle.lw_model.proofs.RunFacts.{numbered_by_sender}
use Rattle.lw_model.specs.Sent.{to_thread}
use Rattle.lw_whole.specs.Letters.{Letter}
use Rattle.lw_whole.specs.Logs.{Log, run_by, sent_by_thread, all_sends}
use Rattle.lw_whole.specs.WholeRun.{IsWholeRun}
use Rattle.lw_whole.proofs.Access.{of_log, log_of, log_count, ended}

abbrev pub tags : List Letter → List Tag
tags ls = map (λ l. l.tag) ls

-- the tags of what came of a sender
pub tags_of_sender : (s : ℕ) (ls : List Letter) → filter (λ m. m.sender == s) (tags ls) ≡ tags (sent_by (λ l. l.tag) s ls)
tags_of_sender s [] = refl
tags_of_sender s (l ∷ ls) = at (l.tag.sender == s) (tags_of_sender s ls)
  where
    at : (b : Bool) → filter (λ m. m.sender == s) (tags ls) ≡ tags (sent_by (λ l. l.tag) s ls)
        → cond b (l.tag ∷ filter (λ m. m.sender == s) (tags ls)) (filter (λ m. m.sender == s) (tags ls)) ≡ tags (if b then l ∷ sent_by (λ l. l.tag) s ls else sent_by (λ l. l.tag) s ls)
    at true e = ap (λ q. l.tag ∷ q) e
    at false e = e

-- numbered letters have the numbers from n on
numbers_of : (s n : ℕ) (ls : List Letter) → ((k : ℕ) (d : Letter) → k < length ls → (slice_index_or ls k d).tag.number ≡ n + k) → map (λ m. m.number) (tags ls) ≡ range_with_len n (length (tags ls))
numbers_of s n [] h = refl
numbers_of s n (l ∷ ls) h = ap₂ (λ k q. k ∷ q) (h 0 l (omega arith) ∙ omega arith) (numbers_of s (n + 1) ls (λ k d less. h (suc k) d (omega (arith, less)) ∙ omega arith))

pub run_at : (logs : List Log) (t : ℕ) (l : Log) → slice_get logs t ≡ Some l → run_by logs t ≡ l.ran
run_at logs t l e = ap (λ (o : Option Log). unwrap_or (option_map (λ (x : Log). x.ran) o) []) e

pub none_sent : (logs : List Log) (s : ℕ) → length logs ≤ s → sent_by_thread logs s ≡ []
none_sent logs s h = ap (λ (o : Option Log). unwrap_or (option_map all_sends o) []) (slice_get_past logs s h)

pub numbers : (r : Record) (logs : List Log) → IsWholeRun r logs → Numbers r
numbers r logs w t less =
    let l = log_of r logs w t less in
    let within : t < length logs = omega (arith, less, log_count r logs w) in
    ap (λ (ms : List Tag). list_all (λ p. number_fits p.0 p.1) (with_past [] ms)) (of_log r logs w (λ x. x.ran) t l.0 l.1 ∙ sym (ended r logs w t l.0 l.1).tags)
    ∙ numbered_by_sender [] (tags l.0.ran) (λ s. of_sender s l.0 l.1 within)
  where
    of_sender : (s : ℕ) (l : Log) → slice_get logs t ≡ Some l → t < length logs → map (λ m. m.number) (filter (λ m. m.sender == s) (tags l.ran)) ≡ range_with_len 0 (length (filter (λ m. m.sender == s) (tags l.ran)))
    of_sender s l e within =
        let same : filter (λ m. m.sender == s) (tags l.ran) ≡ tags (to_thread t (sent_by_thread logs s))
        = tags_of_sender s l.ran ∙ ap (λ ls. tags (sent_by (λ x. x.tag) s ls)) (sym (run_at logs t l e)) ∙ ap tags (w.rings.run_is_sent t s within) in
        subst (λ ms. map (λ m. m.number) ms ≡ range_with_len 0 (length ms)) (sym same) (numbered_sent s within)
      where
        numbered_sent : (s : ℕ) → t < length logs → map (λ m. m.number) (tags (to_thread t (sent_by_thread logs s))) ≡ range_with_len 0 (length (tags (to_thread t (sent_by_thread logs s))))
        numbered_sent s within = elim (cases_lt s (length logs)) [
          | inl below ↦ numbers_of s 0 (to_thread t (sent_by_thread logs s)) (λ k d less. (w.rings.numbered t s within below k d less).1 ∙ omega arith)
          | inr above ↦ ap (λ ps. map (λ m. m.number) (tags (to_thread t ps))) (none_sent logs s above) ∙ sym (ap (λ ps. range_with_len 0 (length (tags (to_thread t ps)))) (none_sent logs s above))
        ]
