-- What the devices were told goes past a step where the device that it is about does, and goes on to the next thread.
use Rattle.std.proofs.Common.{◌≡◌, ℕ, zero, suc, ◌+◌, ◌<◌, Bool, true, false, ◌&&◌, ◌||◌, List, [], ◌∷◌, length, reverse, Option, Some, None, slice_get, set, sym, ap, subst, ◌∙◌, arith, inl, inr}
use Rattle.std.specs.Prelude.{◌≢◌}
use Rattle.std.specs.List.{list_any}
use Rattle.std.proofs.lemmas.Bool.{ne_eqb}
use Rattle.std.proofs.lemmas.List.{length-set}
use Rattle.std.proofs.lemmas.Option.{slice_get_within}
use Rattle.lw_model.specs.declared.record.Record.{Record}
use Rattle.lw_model.specs.declared.script.Script.{Script}
use Rattle.lw_model.specs.declared.record.Did.{Did}
use Rattle.lw_model.specs.declared.record.Called.{Called}
use Rattle.lw_model.specs.declared.record.Answer.{Answer}
use Rattle.lw_base.specs.declared.message.Tag.{Tag}
use Rattle.lw_model.specs.declared.step.Step.{Step}
use Rattle.lw_model.specs.declared.step.Step.TheVariants as step
use Rattle.lw_model.specs.Threads.{is_client, is_on, image_at}
use Rattle.lw_model.specs.OwnOrder.{own_order_of}
use Rattle.lw_model.specs.Holding.{says, held}
use Rattle.lw_model.specs.Devices.{is_began, tells_shut}
use Rattle.lw_judge_devices.specs.declared.device.Times.TheVariants.{Never}
use Rattle.lw_judge_devices.specs.declared.device.Device.{Device}
use Rattle.lw_judge_devices.specs.declared.device.Tell.{Tell}
use Rattle.lw_judge_devices.specs.declared.devices.Devices.{Devices}
use Rattle.lw_judge_devices.specs.declared.devices.Tells.{Tells}
use Rattle.lw_judge_devices.specs.DeviceTold.{IsDeviceAt, IsTellAt, GoesPast, AnswersDevice, CallsDevice, AnswersTell}
use Rattle.lw_judge_devices.specs.DevicesTold.{AreDevicesAt, TellsAt, AnswersDevices, CallsDevices, AnswersTells}
use Rattle.lw_judge_threads.proofs.Written.{written_or_kept}
use Rattle.lw_judge_threads.proofs.HoldingSteps.{on_image, off_image, off_images}
use Rattle.lw_judge_devices.proofs.DeviceSteps.{goes_past, did_other, called_other, ran_any, goes_on}

-- ---- What all threads told

-- one device goes past the step, which isn't about the others
one_goes : (r : Record) (t d : ℕ) (past : List Step) (s : Step) (old new : Devices) (e n : Device) → slice_get old.devices.items d ≡ Some e → new.devices.items ≡ set old.devices.items d n
    → (d < length r.script.images → GoesPast r t d past s e n) → ((k : ℕ) → k ≢ d → (x : Device) → GoesPast r t k past s x x) → AreDevicesAt r t past old → AreDevicesAt r t (s ∷ past) new
one_goes r t d past s old new e n stood items goes others at = record {
  count = ap length items ∙ length-set old.devices.items d n ∙ at.count;
  each = λ k x is. elim (written_or_kept old.devices.items d k n x (subst (λ l. slice_get l k ≡ Some x) items is)) [
    | inl w ↦ subst (IsDeviceAt r t k (s ∷ past)) (sym w.1) (subst (λ j. IsDeviceAt r t j (s ∷ past) n) (sym w.0)
        (goes_past r t d past s e n (goes (omega (arith, slice_get_within old.devices.items d e stood, at.count))) (at.each d e stood)))
    | inr w ↦ goes_past r t k past s x x (others k w.0 x) (at.each k x w.1)
  ];
}

-- the step is about no device that there is
pub none_goes : (r : Record) (t : ℕ) (past : List Step) (s : Step) (ds : Devices) → ((k : ℕ) → k < length ds.devices.items → (x : Device) → GoesPast r t k past s x x)
    → AreDevicesAt r t past ds → AreDevicesAt r t (s ∷ past) ds
none_goes r t past s ds others at = record {
  count = at.count;
  each = λ k x is. goes_past r t k past s x x (others k (slice_get_within ds.devices.items k x is) x) (at.each k x is);
}

-- a place past the end isn't one within
past_end : {X : Type 0} (xs : List X) (d k : ℕ) → slice_get xs d ≡ None → k < length xs → k ≢ d
past_end [] d k none less same = omega (arith, less)
past_end {X = X} (x ∷ xs) zero k none less same = let wrong : ◌≡◌ {A = Option X} (Some x) None = none in cc
past_end (x ∷ xs) (suc d) zero none less same = omega (arith, same)
past_end (x ∷ xs) (suc d) (suc k) none less same = past_end xs d k none (omega (arith, less)) (omega (arith, same))

pub answers_one : (d t : ℕ) (client : Bool) (before : Tell) (a : Answer) (old new : Devices) (e n : Device) → slice_get old.devices.items d ≡ Some e → AnswersDevice t client before a e n
    → new.devices.items ≡ set old.devices.items d n → AnswersDevices d t client before a old new
answers_one d t client before a old new e n stood goes items r past i at op is_client on tell h =
    one_goes r t d past (step.Did i (record { at = at; op = op; answer = a })) old new e n stood items
    (λ less. goes r d past i at op is_client (on_image r.script t d op on) (tell less))
    (λ k other x. did_other r t k past i (record { at = at; op = op; answer = a }) x (off_image r.script t d k op on other))
    h

pub answers_none : (d t : ℕ) (client : Bool) (before : Tell) (a : Answer) (ds : Devices) → slice_get ds.devices.items d ≡ None → AnswersDevices d t client before a ds ds
answers_none d t client before a ds none r past i at op is_client on tell h =
    none_goes r t past (step.Did i (record { at = at; op = op; answer = a })) ds
    (λ k less x. did_other r t k past i (record { at = at; op = op; answer = a }) x (off_image r.script t d k op on (past_end ds.devices.items d k none less)))
    h

pub calls_one : (d t : ℕ) (before : Tell) (held_now : Option ℕ) (old new : Devices) (e n : Device) → slice_get old.devices.items d ≡ Some e → CallsDevice t before held_now e n
    → new.devices.items ≡ set old.devices.items d n → CallsDevices d t before held_now old new
calls_one d t before held_now old new e n stood goes items r past i at held tell h =
    one_goes r t d past (step.Called i (record { at = at; device = d })) old new e n stood items
    (λ less. goes r d past i at (held less) (tell less))
    (λ k other x. called_other r t k past i (record { at = at; device = d }) x (ne_eqb d k (λ same. other (sym same))))
    h

pub calls_none : (d t : ℕ) (before : Tell) (held_now : Option ℕ) (ds : Devices) → slice_get ds.devices.items d ≡ None → CallsDevices d t before held_now ds ds
calls_none d t before held_now ds none r past i at held tell h =
    none_goes r t past (step.Called i (record { at = at; device = d })) ds
    (λ k less x. called_other r t k past i (record { at = at; device = d }) x (ne_eqb d k (λ same. past_end ds.devices.items d k none less (sym same))))
    h

-- on to the next thread
pub next_thread : (r : Record) (t : ℕ) (ds : Devices) → AreDevicesAt r t (reverse (own_order_of r t)) ds → AreDevicesAt r (t + 1) [] ds
next_thread r t ds at = record { count = at.count; each = λ d e is. goes_on r t d e (at.each d e is) }

-- ---- What one thread told

tell_off : (s : Script) (t d : ℕ) (past : List Step) (i : ℕ) (x : Did) (e : Tell) → is_on s t d x.op ≡ false → IsTellAt s t d past e → IsTellAt s t d (step.Did i x ∷ past) e
tell_off s t d past i x e off at = record {
  began = at.began ∙ ap (λ b. b && is_began x.answer || list_any (says (is_on s t d) is_began) past) (sym off);
  shut = at.shut ∙ ap (λ b. b && tells_shut x.answer || list_any (says (is_on s t d) tells_shut) past) (sym off);
}

pub tells_one : (d : ℕ) (a : Answer) (old new : Tells) (e n : Tell) → slice_get old.devices.items d ≡ Some e → AnswersTell a e n → new.devices.items ≡ set old.devices.items d n → AnswersTells d a old new
tells_one d a old new e n stood goes items s t past i at op on h = record {
  count = ap length items ∙ length-set old.devices.items d n ∙ h.count;
  each = λ k x is. elim (written_or_kept old.devices.items d k n x (subst (λ l. slice_get l k ≡ Some x) items is)) [
    | inl w ↦ subst (IsTellAt s t k (step.Did i (record { at = at; op = op; answer = a }) ∷ past)) (sym w.1)
        (subst (λ j. IsTellAt s t j (step.Did i (record { at = at; op = op; answer = a }) ∷ past) n) (sym w.0) (goes s t d past i at op (on_image s t d op on) (h.each d e stood)))
    | inr w ↦ tell_off s t k past i (record { at = at; op = op; answer = a }) x (off_image s t d k op on w.0) (h.each k x w.1)
  ];
}

pub tells_none : (d : ℕ) (a : Answer) (ts : Tells) → slice_get ts.devices.items d ≡ None → AnswersTells d a ts ts
tells_none d a ts none s t past i at op on h = record {
  count = h.count;
  each = λ k x is. tell_off s t k past i (record { at = at; op = op; answer = a }) x (off_image s t d k op on (past_end ts.devices.items d k none (slice_get_within ts.devices.items k x is))) (h.each k x is);
}

-- ---- Before the first thread

-- nothing was told of a device
pub record IsFresh (e : Device) : Type 0 where
  pub ordinals : e.ordinals.items ≡ []
  pub began : e.began ≡ Never
  pub called : e.called ≡ Never
  pub callbacks : e.callbacks_fit ≡ true
  pub refusals : e.refusals_fit ≡ true
  pub refused : e.refused ≡ false

pub fresh_devices : (ds : Devices) → ((d : ℕ) (e : Device) → slice_get ds.devices.items d ≡ Some e → IsFresh e) → (r : Record) → length ds.devices.items ≡ length r.script.images → AreDevicesAt r 0 [] ds
fresh_devices ds fresh r count = record {
  count = count;
  each = λ d e is. let f = fresh d e is in record { ordinals = f.ordinals; began = f.began; called = f.called; callbacks = f.callbacks; refusals = f.refusals; refused = f.refused };
}

-- ---- A step that is one of these

pub step_answers : (r : Record) (s : Script) (t : ℕ) (past : List Step) (i d : ℕ) (x : Did) (p : Step) (client : Bool) (before : Tell) (old new : Devices) (ts us : Tells)
    → r.script ≡ s → p ≡ step.Did i x → client ≡ is_client s t → image_at s t x.op ≡ Some d → (d < length s.images → IsTellAt s t d past before)
    → AnswersDevices d t client before x.answer old new → AnswersTells d x.answer ts us
    → TellsAt s t past ts → AreDevicesAt r t past old → TellsAt s t (p ∷ past) us × AreDevicesAt r t (p ∷ past) new
step_answers r s t past i d x p client before old new ts us same is is_client_now on tell answers tells told h = (
  subst (λ q. TellsAt s t (q ∷ past) us) (sym is) (tells s t past i x.at x.op on told),
  subst (λ q. AreDevicesAt r t (q ∷ past) new) (sym is) (answers r past i x.at x.op (is_client_now ∙ ap (λ q. is_client q t) (sym same)) (ap (λ q. image_at q t x.op) same ∙ on)
      (λ less. subst (λ q. IsTellAt q t d past before) (sym same) (tell (subst (λ (q : Script). d < length q.images) same less))) h),
)

pub step_off : (r : Record) (s : Script) (t : ℕ) (past : List Step) (i : ℕ) (x : Did) (p : Step) (ds : Devices) (ts : Tells) → r.script ≡ s → p ≡ step.Did i x → image_at s t x.op ≡ None
    → TellsAt s t past ts → AreDevicesAt r t past ds → TellsAt s t (p ∷ past) ts × AreDevicesAt r t (p ∷ past) ds
step_off r s t past i x p ds ts same is off told h = (
  subst (λ q. TellsAt s t (q ∷ past) ts) (sym is) (record { count = told.count; each = λ k e at. tell_off s t k past i x e (off_images s t k x.op off) (told.each k e at) }),
  subst (λ q. AreDevicesAt r t (q ∷ past) ds) (sym is) (none_goes r t past (step.Did i x) ds (λ k less e. did_other r t k past i x e (off_images r.script t k x.op (ap (λ q. image_at q t x.op) same ∙ off))) h),
)

pub step_calls : (r : Record) (s : Script) (t : ℕ) (past : List Step) (i : ℕ) (x : Called) (p : Step) (before : Tell) (held_now : Option ℕ) (old new : Devices) (ts : Tells)
    → r.script ≡ s → p ≡ step.Called i x → (x.device < length s.images → held_now ≡ held (is_on s t x.device) x.device past) → (x.device < length s.images → IsTellAt s t x.device past before)
    → CallsDevices x.device t before held_now old new
    → TellsAt s t past ts → AreDevicesAt r t past old → TellsAt s t (p ∷ past) ts × AreDevicesAt r t (p ∷ past) new
step_calls r s t past i x p before held_now old new ts same is held_is tell calls told h = (
  subst (λ q. TellsAt s t (q ∷ past) ts) (sym is) (record { count = told.count; each = λ k e at. record { began = (told.each k e at).began; shut = (told.each k e at).shut } }),
  subst (λ q. AreDevicesAt r t (q ∷ past) new) (sym is) (calls r past i x.at
      (λ less. held_is (subst (λ (q : Script). x.device < length q.images) same less) ∙ ap (λ q. held (is_on q t x.device) x.device past) (sym same))
      (λ less. subst (λ q. IsTellAt q t x.device past before) (sym same) (tell (subst (λ (q : Script). x.device < length q.images) same less))) h),
)

pub step_runs : (r : Record) (s : Script) (t : ℕ) (past : List Step) (i : ℕ) (m : Tag) (p : Step) (ds : Devices) (ts : Tells) → p ≡ step.Ran i m
    → TellsAt s t past ts → AreDevicesAt r t past ds → TellsAt s t (p ∷ past) ts × AreDevicesAt r t (p ∷ past) ds
step_runs r s t past i m p ds ts is told h = (
  subst (λ q. TellsAt s t (q ∷ past) ts) (sym is) (record { count = told.count; each = λ k e at. record { began = (told.each k e at).began; shut = (told.each k e at).shut } }),
  subst (λ q. AreDevicesAt r t (q ∷ past) ds) (sym is) (none_goes r t past (step.Ran i m) ds (λ k less e. ran_any r t k past i m e) h),
)
