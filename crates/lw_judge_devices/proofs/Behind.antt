-- What is owed behind one request more of an image's journal.
use Rattle.std.proofs.Common.{◌≡◌, ℕ, ◌==◌, Bool, true, false, cond, ◌&&◌, List, [], ◌∷◌, ◌++◌, reverse, Option, Some, None, option_and_then, IsTrue, refl, sym, ap, ap₂, subst, ◌∙◌}
use Rattle.std.specs.Option.{option_or}
use Rattle.std.proofs.lemmas.Bool.{and_parts, eqb-true}
use Rattle.lw_model.specs.declared.script.Script.{Script}
use Rattle.lw_model.specs.declared.script.Op.{Op}
use Rattle.lw_model.specs.declared.record.Replied.{Replied}
use Rattle.lw_model.specs.ScriptRules.{block_at}
use Rattle.lw_model.specs.Threads.{is_client, is_on, op_at}
use Rattle.lw_model.specs.Replay.{answer_after}
use Rattle.lw_model.specs.Journal.{look_up}
use Rattle.lw_judge_devices.specs.declared.table.Owed.{Owed}
use Rattle.lw_judge_devices.specs.declared.replay.Replay.{Replay}
use Rattle.lw_judge_devices.specs.Replayed.{IsAfter}
use Rattle.lw_judge_devices.specs.Owed.{reply_in, HasPlaces}
use Rattle.lw_judge_devices.specs.Answered.{asked_ops, answered, IsBehind, NotesAnswer}
use Rattle.lw_judge_devices.proofs.Answering.{answered_more, past_more}

-- behind a request whose op is there
pub behind_request : (s : Script) (d client number : ℕ) (request : Op) (asked : List (ℕ × ℕ)) (was old new : Owed) (image next : Replay) → IsBehind s d asked was old image → op_at s client number ≡ Some request
    → image.block ≡ block_at s d → HasPlaces s new
    → NotesAnswer s d client number (answer_after image.block (reverse (asked_ops s asked)) request) old new
    → IsAfter (Some request ∷ reverse (asked_ops s asked)) next
    → IsBehind s d (asked ++ (client, number) ∷ []) was new next
behind_request s d client number request asked was old new image next behind at block places notes after = record {
  places = places;
  replies = λ t k is. notes t k ∙ one t k is (client == t && number == k) refl ∙ ap (λ o. cond (is_on s t d k) o (reply_in was t k)) (sym (answered_more s d t k asked client number));
  after = subst (λ past. IsAfter past next) (sym (past_more s asked client number ∙ ap (λ o. o ∷ reverse (asked_ops s asked)) at)) after;
}
  where
    answer : Option Replied
    answer = answer_after image.block (reverse (asked_ops s asked)) request

    answer_is : answer ≡ option_and_then (answer_after (block_at s d) (reverse (asked_ops s asked))) (op_at s client number)
    answer_is = ap (λ b. answer_after b (reverse (asked_ops s asked)) request) block ∙ sym (ap (option_and_then (answer_after (block_at s d) (reverse (asked_ops s asked)))) at)

    -- the answer that the journal gives
    given : Option Replied
    given = option_and_then (answer_after (block_at s d) (reverse (asked_ops s asked))) (op_at s client number)

    both : (on : Bool) (found kept old' : Option Replied) → old' ≡ cond on found kept → cond on (option_or old' answer) old' ≡ cond on (option_or found given) kept
    both true found kept old' is = ap₂ option_or is answer_is
    both false found kept old' is = is

    one : (t k : ℕ) → IsTrue (is_client s t) → (b : Bool) → (client == t && number == k) ≡ b
        → cond (b && is_on s client d number) (option_or (reply_in old client number) answer) (reply_in old t k)
        ≡ cond (is_on s t d k) (cond b (option_or (look_up t k (answered s d asked)) given) (look_up t k (answered s d asked))) (reply_in was t k)
    one t k is false e = behind.replies t k is
    one t k is true e =
        let p = and_parts (client == t) (number == k) e in
        ap₂ (λ on o. cond on (option_or o answer) (reply_in old t k)) (ap₂ (λ c n. is_on s c d n) (eqb-true client t p.0) (eqb-true number k p.1)) (ap₂ (reply_in old) (eqb-true client t p.0) (eqb-true number k p.1))
        ∙ both (is_on s t d k) (look_up t k (answered s d asked)) (reply_in was t k) (reply_in old t k) (behind.replies t k is)

-- behind one whose op isn't
pub behind_none : (s : Script) (d client number : ℕ) (asked : List (ℕ × ℕ)) (was now : Owed) (image : Replay) → IsBehind s d asked was now image → op_at s client number ≡ None
    → IsBehind s d (asked ++ (client, number) ∷ []) was now image
behind_none s d client number asked was now image behind at = record {
  places = behind.places;
  replies = λ t k is. behind.replies t k is ∙ ap (λ o. cond (is_on s t d k) o (reply_in was t k)) (sym (answered_more s d t k asked client number ∙ unfound t k (client == t && number == k)));
  after = subst (λ past. IsAfter past image) (sym (past_more s asked client number ∙ ap (λ o. o ∷ reverse (asked_ops s asked)) at)) (after_none (reverse (asked_ops s asked)) behind.after);
}
  where
    or_none : (o : Option Replied) → option_or o None ≡ o
    or_none None = refl
    or_none (Some a) = refl

    unfound : (t k : ℕ) (b : Bool) → cond b (option_or (look_up t k (answered s d asked)) (option_and_then (answer_after (block_at s d) (reverse (asked_ops s asked))) (op_at s client number))) (look_up t k (answered s d asked)) ≡ look_up t k (answered s d asked)
    unfound t k false = refl
    unfound t k true = ap (λ o. option_or (look_up t k (answered s d asked)) (option_and_then (answer_after (block_at s d) (reverse (asked_ops s asked))) o)) at ∙ or_none (look_up t k (answered s d asked))

    after_none : (past : List (Option Op)) → IsAfter past image → IsAfter (None ∷ past) image
    after_none past after = record {
      last = after.last;
      numbers = after.numbers;
      writes = after.writes;
    }

-- the same of equal lists, tables and images
pub behind_moved : (s : Script) (d : ℕ) (asked asked' : List (ℕ × ℕ)) (was now now' : Owed) (image image' : Replay) → asked' ≡ asked → now' ≡ now → image' ≡ image → IsBehind s d asked was now image → IsBehind s d asked' was now' image'
behind_moved s d asked asked' was now now' image image' e f g h = subst (λ (p : List (ℕ × ℕ) × Owed × Replay). IsBehind s d p.0 was p.1 p.2) parts h
  where
    parts : ◌≡◌ {A = List (ℕ × ℕ) × Owed × Replay} (asked, now, image) (asked', now', image')
    parts = λ i. (sym e i, sym f i, sym g i)
