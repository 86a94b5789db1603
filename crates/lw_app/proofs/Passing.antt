-- The log, where a token was run, or went past a client.
use Rattle.std.proofs.Common.{◌≡◌, ℕ, ◌+◌, ◌==◌, nat_lt, nat_le, Bool, true, false, ◌&&◌, ◌||◌, not, List, [], ◌∷◌, ◌++◌, length, reverse, filter_map, count_by, refl, sym, ap, subst, ◌∙◌, arith}
use Rattle.std.specs.List.{list_any}
use Rattle.std.proofs.lemmas.Bool.{and_parts, and_right, or_from, ne_eqb, ltb-true, leb-true, le-ltb}
use Rattle.lw_base.specs.declared.message.What.{What}
use Rattle.lw_base.specs.declared.message.What.TheVariants as what
use Rattle.lw_model.specs.declared.script.Script.{Script}
use Rattle.lw_model.specs.declared.record.Called.{Called}
use Rattle.lw_model.specs.Threads.{thread_count, is_client, is_owner, is_on}
use Rattle.lw_model.specs.Holding.{says, ordinal_given}
use Rattle.lw_model.specs.Devices.{is_began, is_refusal}
use Rattle.lw_model.specs.Answers.{is_done_of}
use Rattle.lw_model.specs.Sent.{must_run, is_origin}
use Rattle.lw_channel.specs.Channels.{IsEmpty}
use Rattle.lw_visit.specs.Tokens.{Visit, Cast, marks_of}
use Rattle.lw_thread.specs.Acts.{Known, and_run}
use Rattle.lw_whole.specs.Letters.{Letter, Note, marked, reached}
use Rattle.lw_whole.specs.Notes.{note_at, count_begun, joined, rows_in}
use Rattle.lw_whole.specs.Tokens.{GoesOn}
use Rattle.lw_history.specs.Histories.{Event, past_of, last_of, all_of}
use Rattle.lw_history.specs.Fitting.{AppFits}
use Rattle.lw_history.specs.GoingOn.{is_token, SameButSends, GoneOn}
use Rattle.lw_history.specs.Keeping.{KeepsRow}
use Rattle.lw_history.proofs.Made.{sends_are_replaced}
use Rattle.lw_history.proofs.Joining.{none_taken_in}
use Rattle.lw_history.proofs.GoingOn.{all_are_spared}
use Rattle.lw_history.proofs.Passing.{app_tokens_go_on}
use Rattle.lw_history.proofs.Sparing.{none_to_spare}
use Rattle.lw_mail.specs.Runs.{Run}
use Rattle.lw_mail.specs.declared.mail.Content.{Content}
use Rattle.lw_passing.specs.Passing.{IsNextVisit, IsNextCast}
use Rattle.lw_passing.proofs.Going.{letter_as, visit_goes_on, cast_goes_on}
use Rattle.lw_app.specs.declared.app.App.{App}
use Rattle.lw_app.specs.Logging.{HasLog}
use Rattle.lw_app.proofs.Histories.{none_last}
use Rattle.lw_app.proofs.Logs.{log_ran}
use Rattle.lw_app.proofs.Empty.{no_marks, no_own_mark}

-- the letters of tokens
abbrev pub visit_with : ℕ → ℕ → Visit → Letter
visit_with sender number token = record { tag = record { sender = sender; number = number; what = what.Visit token.origin token.op token.device }; load = marked token.marks }

abbrev pub cast_with : ℕ → ℕ → Cast → Letter
cast_with sender number token = record { tag = record { sender = sender; number = number; what = what.Cast token.origin token.op }; load = reached token.ran }

module _ (s : Script) (n : ℕ) (k : Known Letter Run) (unsent : List (ℕ × Letter)) (a : App) (l : HasLog s n 0 k unsent a) (sender number to : ℕ) (c : Content) (unsent2 : List (ℕ × Letter)) (more : unsent2 ≡ unsent ++ (to, letter_as 0 0 c) ∷ []) where
  -- no token is a Done
  not_done : (b rest : Bool) → (b && false || rest) ≡ rest
  not_done b rest = ap (λ x. x || rest) (and_right b false refl)

  pub log_visit : (token : Visit) → IsEmpty a.set → token.threads ≡ thread_count s → IsNextVisit 0 (marks_of 0 token.device a.set) token to c → HasLog s n 0 (and_run k (visit_with sender number token)) unsent2 a
  log_visit token empty threads next =
      let none = no_marks 0 token.device a.set empty in
      let own = no_own_mark s token.device l.history l.fits in
      log_ran s n k unsent a l (visit_with sender number token) ((to, letter_as 0 0 c) ∷ []) unsent2 a (record {
        sent = subst (λ ms. GoesOn s (what.Visit token.origin token.op token.device) (0 + 1) (marked (token.marks ++ ms)) ((to, letter_as 0 0 c) ∷ [])) (none ∙ sym own)
            (visit_goes_on s 0 (marks_of 0 token.device a.set) token to 0 0 c threads next);
        spares = none_to_spare (last_of l.history) ((to, letter_as 0 0 c) ∷ []) (none_last l.history l.ends);
        no_reply = refl;
        no_results = refl;
      }) more refl refl refl
      (l.row ∙ sym (none_taken_in l.own l.history (visit_with sender number token) ((to, letter_as 0 0 c) ∷ []) refl))
      (λ j w. l.came j w ∙ sym (ap not (not_done (sender == j + 1) (list_any (is_done_of (j + 1)) (past_of l.history)))))

  pub log_cast : (token : Cast) → token.threads ≡ thread_count s → IsNextCast 0 (0 ∷ []) token to c → HasLog s n 0 (and_run k (cast_with sender number token)) unsent2 a
  log_cast token threads next =
      log_ran s n k unsent a l (cast_with sender number token) ((to, letter_as 0 0 c) ∷ []) unsent2 a (record {
        sent = cast_goes_on s 0 (0 ∷ []) token to 0 0 c threads next;
        spares = none_to_spare (last_of l.history) ((to, letter_as 0 0 c) ∷ []) (none_last l.history l.ends);
        no_reply = refl;
        no_results = refl;
      }) more refl refl refl
      (l.row ∙ sym (none_taken_in l.own l.history (cast_with sender number token) ((to, letter_as 0 0 c) ∷ []) refl))
      (λ j w. l.came j w ∙ sym (ap not (not_done (sender == j + 1) (list_any (is_done_of (j + 1)) (past_of l.history)))))

-- ---- a token goes past a client other than its origin

pub need_not_run : (s : Script) (w : What) (past : ℕ) → is_client s past ≡ true → is_origin w past ≡ false → must_run s w past ≡ false
need_not_run s w past client other =
    let parts = and_parts (nat_lt 0 past) (nat_le past (length s.clients)) client in
    or_from (past == 0 || is_owner s past) (is_origin w past)
    (or_from (past == 0) (is_owner s past) (ne_eqb past 0 (λ e. absurd (omega (arith, e, ltb-true 0 past parts.0)))) (le-ltb (length s.clients) past (leb-true past (length s.clients) parts.1)))
    other

-- what two histories that differ in their sends alone keep of a row
same_row : (s : Script) (own : List Note) (g h : List Event) → SameButSends g h → KeepsRow s 0 g own → KeepsRow s 0 h own
same_row s own g h same keeps = record {
  devices = keeps.devices;
  notes = λ d w.
      let n = keeps.notes d w in
      record {
        ordinals = subst (λ p. (note_at own d).ordinals ≡ filter_map (ordinal_given (is_on s 0 d)) (reverse p)) (sym same.past) n.ordinals;
        found = λ e. n.found (sym (ap (list_any (says (is_on s 0 d) is_refusal)) same.past) ∙ e);
        begun = ap (λ p. filter_map (count_begun (is_on s 0 d)) (reverse p)) same.past ∙ n.begun;
        began_by = n.began_by;
        fired = ap (count_by (λ (x : Called). x.device == d)) same.calls ∙ n.fired;
      };
}

pub log_skipped : (s : Script) (n : ℕ) (k : Known Letter Run) (to : ℕ) (x : Letter) (rest now : List (ℕ × Letter)) (a : App) → HasLog s n 0 k ((to, x) ∷ rest) a → is_token x.tag.what ≡ true → must_run s x.tag.what to ≡ false → GoesOn s x.tag.what (to + 1) x.load now
    → HasLog s n 0 k (now ++ rest) a
log_skipped s n k to x rest now a l token skips goes =
    let made = l.sent.made in
    let gone : GoneOn (AppFits s) l.history (made ++ now ++ rest) = app_tokens_go_on s l.history made to x rest now l.fits l.sent.parts token skips goes (all_are_spared (length made) l.history now (none_to_spare (last_of l.history) now (none_last l.history l.ends))) in
    let same = gone.same in
    record {
      history = gone.after;
      own = l.own;
      ran = l.ran ∙ sym same.runs;
      sent = sends_are_replaced 0 k.sent (to, x) rest (all_of l.history) now (all_of gone.after) l.sent gone.sends;
      fits = gone.fits;
      did = l.did ∙ sym same.dids;
      called = l.called ∙ sym same.calls;
      lines = ap length same.dids ∙ l.lines;
      ends = same.ends ∙ l.ends;
      keeps = same_row s l.own l.history gone.after same l.keeps;
      row = l.row ∙ sym (ap (λ xs. joined l.own (rows_in xs)) same.runs);
      came = λ c w. l.came c w ∙ sym (ap (λ p. not (list_any (is_done_of (c + 1)) p)) same.past);
      began = λ d e. ap (list_any (says (is_on s 0 d) is_began)) same.past ∙ l.began d e;
    }
