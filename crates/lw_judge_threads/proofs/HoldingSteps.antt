-- What a thread holds goes past a step where each of its channels does.
use Rattle.std.proofs.Common.{◌≡◌, ℕ, ◌^◌, ◌<◌, ◌≤◌, ◌+◌, ◌==◌, true, false, List, ◌∷◌, length, Option, Some, None, slice_get, set, get_or, refl, sym, ap, ◌∙◌, subst, arith, inl, inr, ◌||◌}
use Rattle.std.specs.List.{list_any}
use Rattle.std.proofs.lemmas.Bool.{ne_eqb, eq-eqb}
use Rattle.std.specs.Prelude.{◌≢◌}
use Rattle.std.proofs.lemmas.Option.{slice_get_within, slice_get-get_or, same_Some}
use Rattle.std.proofs.lemmas.List.{length-set}
use Rattle.lw_model.specs.declared.script.Script.{Script}
use Rattle.lw_model.specs.declared.step.Step.{Step}
use Rattle.lw_model.specs.declared.step.Step.TheVariants as step
use Rattle.lw_model.specs.declared.record.Answer.{Answer}
use Rattle.lw_model.specs.declared.record.Answer.TheVariants as answer
use Rattle.lw_base.specs.declared.message.What.TheVariants as what
use Rattle.lw_model.specs.declared.record.Did.{Did}
use Rattle.lw_base.specs.declared.message.Tag.{Tag}
use Rattle.lw_model.specs.Threads.{is_on, image_at}
use Rattle.lw_model.specs.Holding.{says, always, is_closed}
use Rattle.lw_judge_threads.specs.declared.holding.Channel.{Channel}
use Rattle.lw_judge_threads.specs.declared.holding.Holding.{Holding}
use Rattle.lw_judge_threads.specs.Holdings.{IsChannelAt, HoldsAt, AnswersChannel, ClosesChannel, RunsChannel, AnswersHolding, ClosesHolding, RunsHolding}
use Rattle.lw_judge_threads.proofs.Channels.{did_elsewhere, did_closed, ran_elsewhere}
use Rattle.lw_judge_threads.proofs.Written.{written_or_kept, slice_get-set_other}

-- the op is on its own image, and on no other
pub on_image : (s : Script) (t d op : ℕ) → image_at s t op ≡ Some d → is_on s t d op ≡ true
on_image s t d op is = ap (λ o. elim o [ None ↦ false | Some e ↦ e == d ]) is ∙ eq-eqb d d refl

pub off_image : (s : Script) (t d e op : ℕ) → image_at s t op ≡ Some d → e ≢ d → is_on s t e op ≡ false
off_image s t d e op is other = ap (λ o. elim o [ None ↦ false | Some f ↦ f == e ]) is ∙ ne_eqb d e (λ same. other (sym same))

pub off_images : (s : Script) (t e op : ℕ) → image_at s t op ≡ None → is_on s t e op ≡ false
off_images s t e op is = ap (λ o. elim o [ None ↦ false | Some f ↦ f == e ]) is

-- ---- An answer

pub answered : (d : ℕ) (a : Answer) (old new : Holding) (c n : Channel) → slice_get old.channels.items d ≡ Some c → AnswersChannel a c n
    → new.closed ≡ old.closed → new.channels.items ≡ set old.channels.items d n → AnswersHolding d a old new
answered d a old new c n stood channel closed items s t past i at op kept on few h = record {
  closed = closed ∙ h.closed ∙ sym (ap (λ b. b || list_any (says always is_closed) past) kept);
  count = ap length items ∙ length-set old.channels.items d n ∙ h.count;
  each = λ e x is. elim (written_or_kept old.channels.items d e n x (subst (λ l. slice_get l e ≡ Some x) items is)) [
    | inl w ↦ subst (λ y. IsChannelAt s t e (step.Did i (record { at = at; op = op; answer = a }) ∷ past) y) (sym w.1)
        (subst (λ k. IsChannelAt s t k (step.Did i (record { at = at; op = op; answer = a }) ∷ past) n) (sym w.0)
        (channel s t d past i at op kept (on_image s t d op on) few (h.each d c stood)))
    | inr w ↦ did_elsewhere s t e past i (record { at = at; op = op; answer = a }) x kept (off_image s t d e op on w.0) (h.each e x w.1)
  ];
}

-- there is no such device
pub answered_none : (d : ℕ) (a : Answer) (old : Holding) → slice_get old.channels.items d ≡ None → AnswersHolding d a old old
answered_none d a old none s t past i at op kept on few h = record {
  closed = h.closed ∙ sym (ap (λ b. b || list_any (says always is_closed) past) kept);
  count = h.count;
  each = λ e x is. did_elsewhere s t e past i (record { at = at; op = op; answer = a }) x kept (off_image s t d e op on (other e x is)) (h.each e x is);
}
  where
    other : (e : ℕ) (x : Channel) → slice_get old.channels.items e ≡ Some x → e ≢ d
    other e x is same = let wrong : ◌≡◌ {A = Option Channel} None (Some x) = sym none ∙ ap (slice_get old.channels.items) (sym same) ∙ is in cc

-- an op on no device
pub answered_off : (s : Script) (t : ℕ) (past : List Step) (i : ℕ) (x : Did) (h : Holding) → is_closed x.answer ≡ false → image_at s t x.op ≡ None → HoldsAt s t past h
    → HoldsAt s t (step.Did i x ∷ past) h
answered_off s t past i x h kept off at = record {
  closed = at.closed ∙ sym (ap (λ b. b || list_any (says always is_closed) past) kept);
  count = at.count;
  each = λ e c is. did_elsewhere s t e past i x c kept (off_images s t e x.op off) (at.each e c is);
}

-- ---- A putself

pub ran : (d : ℕ) (old new : Holding) (c n : Channel) → slice_get old.channels.items d ≡ Some c → RunsChannel old.closed c n
    → new.closed ≡ old.closed → new.channels.items ≡ set old.channels.items d n → RunsHolding d old new
ran d old new c n stood channel closed items s t past i sender number h = record {
  closed = closed ∙ h.closed;
  count = ap length items ∙ length-set old.channels.items d n ∙ h.count;
  each = λ e x is. elim (written_or_kept old.channels.items d e n x (subst (λ l. slice_get l e ≡ Some x) items is)) [
    | inl w ↦ subst (λ y. IsChannelAt s t e (step.Ran i (record { sender = sender; number = number; what = what.PutSelf d }) ∷ past) y) (sym w.1)
        (subst (λ k. IsChannelAt s t k (step.Ran i (record { sender = sender; number = number; what = what.PutSelf d }) ∷ past) n) (sym w.0)
        (channel s t d past i sender number h.closed (h.each d c stood)))
    | inr w ↦ ran_elsewhere s t e past i (record { sender = sender; number = number; what = what.PutSelf d }) x (ne_eqb d e (λ same. w.0 (sym same))) (h.each e x w.1)
  ];
}

pub ran_none : (d : ℕ) (old : Holding) → slice_get old.channels.items d ≡ None → RunsHolding d old old
ran_none d old none s t past i sender number h = record {
  closed = h.closed;
  count = h.count;
  each = λ e x is. ran_elsewhere s t e past i (record { sender = sender; number = number; what = what.PutSelf d }) x (ne_eqb d e (other e x is)) (h.each e x is);
}
  where
    other : (e : ℕ) (x : Channel) → slice_get old.channels.items e ≡ Some x → d ≢ e
    other e x is same = let wrong : ◌≡◌ {A = Option Channel} None (Some x) = sym none ∙ ap (slice_get old.channels.items) same ∙ is in cc

-- ---- The last line

-- of two lists of as many channels, each went past a thread's last line
abbrev pub AllClose : List Channel → List Channel → Type 0
AllClose old new = (k : ℕ) (c n : Channel) → slice_get old k ≡ Some c → slice_get new k ≡ Some n → ClosesChannel c n

pub closed_first : (old new : Holding) → old.closed ≡ false → new.closed ≡ true → length new.channels.items ≡ length old.channels.items → AllClose old.channels.items new.channels.items → ClosesHolding old new
closed_first old new before after same all s t past i at op few h = record {
  closed = after;
  count = same ∙ h.count;
  each = λ e x is. let less = slice_get_within new.channels.items e x is in
      let stood : slice_get old.channels.items e ≡ Some (get_or old.channels.items e x) = slice_get-get_or old.channels.items e x (omega (arith, less, same)) in
      all e (get_or old.channels.items e x) x stood is s t e past i at op (sym h.closed ∙ before) few (h.each e (get_or old.channels.items e x) stood);
}

pub closed_again : (old : Holding) → old.closed ≡ true → ClosesHolding old old
closed_again old before s t past i at op few h = record {
  closed = before;
  count = h.count;
  each = λ e x is. did_closed s t e past i (record { at = at; op = op; answer = answer.Closed }) x (sym h.closed ∙ before) refl (h.each e x is);
}

-- the channels before the place i went past the line, and those from it on didn't yet
abbrev pub ClosedTo : ℕ → List Channel → List Channel → Type 0
ClosedTo i old now = (k : ℕ) (c n : Channel) → k < i → slice_get old k ≡ Some c → slice_get now k ≡ Some n → ClosesChannel c n

abbrev pub KeptFrom : ℕ → List Channel → List Channel → Type 0
KeptFrom i old now = (k : ℕ) → i ≤ k → slice_get now k ≡ slice_get old k

pub closes_more : (old now : List Channel) (i : ℕ) (c n : Channel) → slice_get now i ≡ Some c → ClosesChannel c n → ClosedTo i old now → KeptFrom i old now → ClosedTo (i + 1) old (set now i n)
closes_more old now i c n stands closes below above k b m less was is = elim (written_or_kept now i k n m is) [
  | inl w ↦ subst (λ y. ClosesChannel b y) (sym w.1) (subst (λ y. ClosesChannel y n) (same_Some c b (sym stands ∙ above i (omega arith) ∙ ap (slice_get old) (sym w.0) ∙ was)) closes)
  | inr w ↦ below k b m (omega (arith, less, w.0)) was w.1
]

pub kept_more : (old now : List Channel) (i : ℕ) (n : Channel) → KeptFrom i old now → KeptFrom (i + 1) old (set now i n)
kept_more old now i n above k low = slice_get-set_other now i k n (λ e. omega (arith, e, low)) ∙ above k (omega (arith, low))

-- ---- A step that is one of these

pub not_last : (a : Answer) → (a ≡ answer.Closed → ⊥) → is_closed a ≡ false
not_last answer.Closed h = absurd (h refl)
not_last _ h = refl

pub step_closes : (s : Script) (t : ℕ) (past : List Step) (i : ℕ) (x : Did) (p : Step) (old new : Holding) → p ≡ step.Did i x → x.answer ≡ answer.Closed → ClosesHolding old new
    → length past < 2 ^ 63 → HoldsAt s t past old → HoldsAt s t (p ∷ past) new
step_closes s t past i x p old new is last closes few h =
    subst (λ q. HoldsAt s t (q ∷ past) new) (sym (is ∙ ap (λ a. step.Did i (record { at = x.at; op = x.op; answer = a })) last)) (closes s t past i x.at x.op few h)

pub step_answers : (s : Script) (t : ℕ) (past : List Step) (i d : ℕ) (x : Did) (p : Step) (old new : Holding) → p ≡ step.Did i x → (x.answer ≡ answer.Closed → ⊥)
    → image_at s t x.op ≡ Some d → AnswersHolding d x.answer old new → length past < 2 ^ 63 → HoldsAt s t past old → HoldsAt s t (p ∷ past) new
step_answers s t past i d x p old new is other on answers few h =
    subst (λ q. HoldsAt s t (q ∷ past) new) (sym is) (answers s t past i x.at x.op (not_last x.answer other) on few h)

pub step_runs : (s : Script) (t : ℕ) (past : List Step) (i d : ℕ) (m : Tag) (p : Step) (old new : Holding) → p ≡ step.Ran i m → m.what ≡ what.PutSelf d
    → RunsHolding d old new → HoldsAt s t past old → HoldsAt s t (p ∷ past) new
step_runs s t past i d m p old new is putself runs h =
    subst (λ q. HoldsAt s t (q ∷ past) new) (sym (is ∙ ap (λ w. step.Ran i (record { sender = m.sender; number = m.number; what = w })) putself)) (runs s t past i m.sender m.number h)

pub step_off : (s : Script) (t : ℕ) (past : List Step) (i : ℕ) (x : Did) (p : Step) (h : Holding) → p ≡ step.Did i x → (x.answer ≡ answer.Closed → ⊥) → image_at s t x.op ≡ None
    → HoldsAt s t past h → HoldsAt s t (p ∷ past) h
step_off s t past i x p h is other off at = subst (λ q. HoldsAt s t (q ∷ past) h) (sym is) (answered_off s t past i x h (not_last x.answer other) off at)
