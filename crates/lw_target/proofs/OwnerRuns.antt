-- A run stays in order where the owner runs a message.
use Rattle.std.proofs.Common.{ℕ, suc, ◌≡◌, Bool, true, List, [], ◌∷◌, ◌++◌, map, length, Option, Some, arith, refl, sym, ◌∙◌, ap, subst, append_assoc}
use Rattle.std.specs.Prelude.{◌==◌, ◌||◌, filter_map, option_and_then, count_by, zip, reverse}
use Rattle.std.specs.List.{list_all}
use Rattle.std.proofs.lemmas.Bool.{and_from}
use Rattle.std.proofs.lemmas.List.{map-append, append-nil, reverse-append, length-map}
use Rattle.std.proofs.lemmas.List.Elements.{filter_map-append, All-head, All-rest, All-same}
use Rattle.std.proofs.lemmas.List.Folds.{list_all-append}
use Rattle.lw_base.specs.declared.message.What.{What}
use Rattle.lw_base.specs.declared.message.What.TheVariants as what
use Rattle.lw_base.specs.declared.message.Tag.{Tag}
use Rattle.lw_model.specs.declared.script.Script.{Script}
use Rattle.lw_model.specs.declared.script.Op.{Op}
use Rattle.lw_model.specs.declared.record.Reply.{Reply}
use Rattle.lw_model.specs.declared.record.Replied.{Replied}
use Rattle.lw_model.specs.ScriptRules.{block_at}
use Rattle.lw_model.specs.Replay.{replay, answer_after}
use Rattle.lw_model.specs.Journal.{request_of}
use Rattle.lw_model.specs.Threads.{op_at}
use Rattle.lw_model.specs.Holding.{is_putself}
use Rattle.lw_model.specs.Lawful.{reply_op}
use Rattle.lw_model.specs.Sent.{to_thread}
use Rattle.lw_image.specs.Image.{Contents, IsAfter}
use Rattle.lw_target.specs.declared.mail.Mail.{Mail}
use Rattle.lw_target.specs.declared.mail.Load.{Load}
use Rattle.lw_target.specs.declared.mail.Load.TheVariants as load
use Rattle.lw_target.specs.declared.app.App.{App}
use Rattle.lw_target.specs.declared.client.Client.{Client}
use Rattle.lw_target.specs.declared.device.Device.{Device}
use Rattle.lw_target.specs.declared.owner.Owner.{Owner}
use Rattle.lw_target.specs.declared.acts.Outgoing.{Outgoing}
use Rattle.lw_target.specs.Messages.{Inbox, operands}
use Rattle.lw_target.specs.ClientLog.{Follows, sent_so_far, was_refused}
use Rattle.lw_target.specs.ClientCalls.{AllAgree, reply_carried}
use Rattle.lw_target.specs.Owner.{AnswersAs, Serves}
use Rattle.lw_target.specs.WholeRun.{reply_pairs, requests_of, answers_of}
use Rattle.lw_target.specs.Letters.{Letter, letters, told, said_by, posted, Got}
use Rattle.lw_target.specs.InOrder.{is_to_client, is_to_app, IsToOwner, is_reply_to, is_request_of, past_requests, AreAddressed, IsClientInOrder, IsTold, IsAnswered, IsAppInOrder}
use Rattle.lw_target.proofs.Mails.{list_all_push}
use Rattle.lw_target.proofs.Numbers.{count_cons, count_append, count_one}
use Rattle.lw_target.proofs.Letters.{letter_of}
use Rattle.lw_target.proofs.Told.{first_letter, told_take, told_got}

-- ---- one request more

replay_push : (block : ℕ) (past os : List (Option Op)) (o : Option Op) → replay block past (os ++ o ∷ []) ≡ replay block past os ++ option_and_then (answer_after block (reverse os ++ past)) o ∷ []
replay_push block past [] o = refl
replay_push block past (p ∷ os) o =
    ap (λ q. option_and_then (answer_after block past) p ∷ q) (replay_push block (p ∷ past) os o
    ∙ ap (λ w. replay block (p ∷ past) os ++ option_and_then (answer_after block w) o ∷ []) (sym (ap (λ w. w ++ past) (reverse-append (p ∷ []) os) ∙ append_assoc (reverse os) (p ∷ []) past)))

replay_length : (block : ℕ) (past os : List (Option Op)) → length (replay block past os) ≡ length os
replay_length block past [] = refl
replay_length block past (o ∷ os) = ap (λ n. suc n) (replay_length block (o ∷ past) os)

zip_push : {X Y : Type 0} (xs : List X) (ys : List Y) (x : X) (y : Y) → length xs ≡ length ys → zip (xs ++ x ∷ []) (ys ++ y ∷ []) ≡ zip xs ys ++ (x, y) ∷ []
zip_push [] [] x y e = refl
zip_push [] (b ∷ ys) x y e = absurd (omega (arith, e))
zip_push (a ∷ xs) [] x y e = absurd (omega (arith, e))
zip_push (a ∷ xs) (b ∷ ys) x y e = ap (λ q. (a, b) ∷ q) (zip_push xs ys x y (omega (arith, e)))

asked_push : (ran : List Tag) (m : Tag) → filter_map request_of (ran ++ m ∷ []) ≡ filter_map request_of ran ++ filter_map request_of (m ∷ [])
asked_push ran m = filter_map-append request_of ran (m ∷ [])

-- the log with one request more
module _ (s : Script) (ran : List Tag) (sender number k : ℕ) where
  abbrev request_tag : Tag
  request_tag = record { sender = sender; number = number; what = what.Request k }

  requests_push : requests_of (ran ++ request_tag ∷ []) ≡ requests_of ran ++ k ∷ []
  requests_push = ap (map (λ (e : ℕ × ℕ). e.1)) (asked_push ran request_tag) ∙ map-append (λ (e : ℕ × ℕ). e.1) (filter_map request_of ran) ((sender, k) ∷ [])

  ops_push : map (λ (e : ℕ × ℕ). op_at s e.0 e.1) (filter_map request_of (ran ++ request_tag ∷ [])) ≡ map (λ (e : ℕ × ℕ). op_at s e.0 e.1) (filter_map request_of ran) ++ op_at s sender k ∷ []
  ops_push = ap (map (λ (e : ℕ × ℕ). op_at s e.0 e.1)) (asked_push ran request_tag) ∙ map-append (λ (e : ℕ × ℕ). op_at s e.0 e.1) (filter_map request_of ran) ((sender, k) ∷ [])

  past_push : past_requests s (ran ++ request_tag ∷ []) ≡ op_at s sender k ∷ past_requests s ran
  past_push = ap reverse ops_push ∙ reverse-append (map (λ (e : ℕ × ℕ). op_at s e.0 e.1) (filter_map request_of ran)) (op_at s sender k ∷ [])

  answers_push : answers_of s (ran ++ request_tag ∷ []) ≡ answers_of s ran ++ option_and_then (answer_after (block_at s 0) (past_requests s ran)) (op_at s sender k) ∷ []
  answers_push =
      let os = map (λ (e : ℕ × ℕ). op_at s e.0 e.1) (filter_map request_of ran) in
      ap (replay (block_at s 0) []) ops_push ∙ replay_push (block_at s 0) [] os (op_at s sender k)
      ∙ ap (λ w. answers_of s ran ++ option_and_then (answer_after (block_at s 0) w) (op_at s sender k) ∷ []) (append-nil (reverse os))

  pairs_push : zip (requests_of (ran ++ request_tag ∷ [])) (answers_of s (ran ++ request_tag ∷ []))
      ≡ zip (requests_of ran) (answers_of s ran) ++ (k, option_and_then (answer_after (block_at s 0) (past_requests s ran)) (op_at s sender k)) ∷ []
  pairs_push =
      let js = filter_map request_of ran in
      let long : length (requests_of ran) ≡ length (answers_of s ran) =
      length-map js (λ (e : ℕ × ℕ). e.1) ∙ sym (replay_length (block_at s 0) [] (map (λ (e : ℕ × ℕ). op_at s e.0 e.1) js) ∙ length-map js (λ (e : ℕ × ℕ). op_at s e.0 e.1)) in
      ap (λ q. zip q (answers_of s (ran ++ request_tag ∷ []))) requests_push ∙ ap (zip (requests_of ran ++ k ∷ [])) answers_push
      ∙ zip_push (requests_of ran) (answers_of s ran) k _ long

-- ---- the owner runs the first message that waits for it, and what it sends is delivered

module _ (s : Script) (c : Client) (app app' client client' owner taken owner' : Inbox) (m : Mail)
    (first : owner.waiting ≡ m ∷ taken.waiting) (ran : taken.ran ≡ owner.ran ++ m.tag ∷ [])
    (more : List Letter) (to_app : Got app app' []) (to_client : Got client client' more) (to_owner : Got taken owner' []) where
  mine : letters owner ≡ letter_of m ∷ letters taken
  mine = first_letter owner taken m first

  rest_is : letters owner' ≡ letters taken
  rest_is = to_owner.waiting ∙ append-nil (letters taken)

  all_ran : owner'.ran ≡ owner.ran ++ m.tag ∷ []
  all_ran = to_owner.ran ∙ ran

  told_owner : (n : ℕ) → told owner' n ≡ told owner n
  told_owner n = told_got n taken owner' [] to_owner ∙ append-nil (told taken n) ∙ told_take n owner taken m first ran

  pub owner_addressed : AreAddressed s app client owner → (m.tag.sender == 0 || m.tag.sender == 1) ≡ true → list_all is_to_client more ≡ true → AreAddressed s app' client' owner'
  owner_addressed a known fit = record {
    app_ran = ap (list_all (λ (x : Tag). x.sender == 1)) to_app.ran ∙ a.app_ran;
    app_waits = ap (list_all is_to_app) (to_app.waiting ∙ append-nil (letters app)) ∙ a.app_waits;
    client_ran = ap (list_all (λ (x : Tag). x.sender == 1 || x.sender == 2)) to_client.ran ∙ a.client_ran;
    client_waits = ap (list_all is_to_client) to_client.waiting ∙ list_all-append is_to_client (letters client) more ∙ and_from _ _ a.client_waits fit;
    owner_ran = ap (list_all (λ (x : Tag). x.sender == 0 || x.sender == 1)) all_ran ∙ list_all_push (λ (x : Tag). x.sender == 0 || x.sender == 1) owner.ran m.tag a.owner_ran known;
    owner_waits = All-same (IsToOwner s) (letters owner') (letters taken) rest_is (All-rest (IsToOwner s) (letter_of m) (letters taken) (letters owner) mine a.owner_waits);
  }

  pub owner_client : (devices : List Device) → IsClientInOrder s c client devices → IsClientInOrder s c client' devices
  owner_client devices k =
      let waits = ap (count_by (λ (l : Letter). is_putself 0 l.what)) to_client.waiting ∙ count_append (λ (l : Letter). is_putself 0 l.what) (letters client) more in
      record {
        follows = subst (λ q. Follows s c q) (sym to_client.ran) k.follows;
        agree = subst (λ q. AllAgree s c q devices) (sym to_client.ran) k.agree;
        refused = ap (was_refused c) to_client.ran ∙ k.refused;
        pending = omega (arith, k.pending, waits);
      }

  pub owner_told : IsTold s c client owner → said_by 1 more ≡ [] → IsTold s c client' owner'
  owner_told t none =
      let same : sent_so_far s c client'.ran ≡ sent_so_far s c client.ran = ap (sent_so_far s c) to_client.ran in
      record {
        to_itself = told_got 1 client client' more to_client ∙ ap (λ q. told client 1 ++ q) none ∙ append-nil (told client 1) ∙ t.to_itself ∙ sym (ap (to_thread 1) same);
        to_owner = told_owner 1 ∙ t.to_owner ∙ sym (ap (to_thread 2) same);
      }

  pub owner_app : (a : App) (done : Bool) (devices : List Device) → IsAppInOrder a done app owner devices → IsAppInOrder a done app' owner' devices
  owner_app a done devices k = record {
    clients = k.clients;
    device = k.device;
    counted = k.counted ∙ sym (ap length to_app.ran);
    heard = ap (λ q. map (λ (x : Tag). x.what) q ++ map (λ (l : Letter). l.what) (letters app')) to_app.ran
        ∙ ap (λ q. map (λ (x : Tag). x.what) app.ran ++ map (λ (l : Letter). l.what) q) (to_app.waiting ∙ append-nil (letters app)) ∙ k.heard;
    stops = told_owner 0 ∙ k.stops;
  }

-- a request is answered
module _ (s : Script) (c : Client) (client client' owner taken owner' : Inbox) (number k : ℕ) (carried : Load) (answer : Replied) (old new : Contents)
    (first : owner.waiting ≡ record { tag = record { sender = 1; number = number; what = what.Request k }; load = carried } ∷ taken.waiting)
    (ran : taken.ran ≡ owner.ran ++ record { sender = 1; number = number; what = what.Request k } ∷ [])
    (to_client : Got client client' (record { sender = 2; what = what.Reply k; load = load.Replied answer } ∷ [])) (to_owner : Got taken owner' []) where
  abbrev request : Mail
  request = record { tag = record { sender = 1; number = number; what = what.Request k }; load = carried }

  abbrev reply : Letter
  reply = record { sender = 2; what = what.Reply k; load = load.Replied answer }

  ran_all : owner'.ran ≡ owner.ran ++ request_tag s owner.ran 1 number k ∷ []
  ran_all = to_owner.ran ∙ ran

  pub request_answered : (o : Op) → op_at s 1 k ≡ Some o → carried ≡ operands o → AnswersAs old new carried answer → new.block ≡ old.block
      → IsAnswered s c client owner old → IsAnswered s c client' owner' new
  request_answered o op same answers block h =
      let says = answers o (past_requests s owner.ran) (sym same) h.after in
      let gave : option_and_then (answer_after (block_at s 0) (past_requests s owner.ran)) (op_at s 1 k) ≡ Some answer =
      ap (option_and_then (answer_after (block_at s 0) (past_requests s owner.ran))) op ∙ subst (λ b. answer_after b (past_requests s owner.ran) o ≡ Some answer) h.block says.0 in
      let find = λ (l : Letter). reply_carried l.what l.load in
      let listed : c.replies ++ filter_map find (letters client') ≡ (c.replies ++ filter_map find (letters client)) ++ record { op = k; answer = answer } ∷ [] =
      ap (λ q. c.replies ++ filter_map find q) to_client.waiting ∙ ap (λ q. c.replies ++ q) (filter_map-append find (letters client) (reply ∷ []))
      ∙ sym (append_assoc c.replies (filter_map find (letters client)) (record { op = k; answer = answer } ∷ [])) in
      record {
        replies = told_got 2 client client' (reply ∷ []) to_client ∙ ap (λ q. q ++ what.Reply k ∷ []) h.replies
            ∙ sym (ap (λ q. map (λ j. what.Reply j) (requests_of q)) ran_all ∙ ap (map (λ j. what.Reply j)) (requests_push s owner.ran 1 number k) ∙ map-append (λ j. what.Reply j) (requests_of owner.ran) (k ∷ []));
        answers = ap reply_pairs listed ∙ map-append (λ (x : Reply). (x.op, Some x.answer)) (c.replies ++ filter_map find (letters client)) (record { op = k; answer = answer } ∷ [])
            ∙ ap (λ q. q ++ (k, Some answer) ∷ []) h.answers
            ∙ sym (ap (λ q. zip (requests_of q) (answers_of s q)) ran_all ∙ pairs_push s owner.ran 1 number k
            ∙ ap (λ a. zip (requests_of owner.ran) (answers_of s owner.ran) ++ (k, a) ∷ []) gave);
        listed = h.listed ∙ sym (ap (filter_map reply_op) to_client.ran);
        after = subst (λ q. IsAfter new q) (sym (ap (past_requests s) ran_all ∙ past_push s owner.ran 1 number k ∙ ap (λ p. p ∷ past_requests s owner.ran) op)) says.1;
        block = block ∙ h.block;
        under_way = λ j.
            let mine = ap (count_by (λ (l : Letter). is_request_of j l.what)) (first_letter owner taken request first) ∙ count_cons (λ (l : Letter). is_request_of j l.what) (letter_of request) (letters taken) in
            let left = ap (count_by (λ (l : Letter). is_request_of j l.what)) (to_owner.waiting ∙ append-nil (letters taken)) in
            let more = ap (count_by (λ (l : Letter). is_reply_to j l.what)) to_client.waiting ∙ count_append (λ (l : Letter). is_reply_to j l.what) (letters client) (reply ∷ []) in
            let one = count_one (λ (l : Letter). is_reply_to j l.what) reply in
            omega (arith, h.under_way j, mine, left, more, one);
      }

-- a stop asks for nothing
module _ (s : Script) (c : Client) (client client' owner taken owner' : Inbox) (sender number : ℕ) (carried : Load) (image : Contents)
    (first : owner.waiting ≡ record { tag = record { sender = sender; number = number; what = what.Stop }; load = carried } ∷ taken.waiting)
    (ran : taken.ran ≡ owner.ran ++ record { sender = sender; number = number; what = what.Stop } ∷ [])
    (to_client : Got client client' []) (to_owner : Got taken owner' []) where
  abbrev stop : Mail
  stop = record { tag = record { sender = sender; number = number; what = what.Stop }; load = carried }

  asked_same : filter_map request_of owner'.ran ≡ filter_map request_of owner.ran
  asked_same = ap (filter_map request_of) (to_owner.ran ∙ ran) ∙ asked_push owner.ran stop.tag ∙ append-nil (filter_map request_of owner.ran)

  pub stop_answered : IsAnswered s c client owner image → IsAnswered s c client' owner' image
  stop_answered h =
      let same = to_client.waiting ∙ append-nil (letters client) in
      record {
        replies = told_got 2 client client' [] to_client ∙ append-nil (told client 2) ∙ h.replies ∙ sym (ap (λ q. map (λ (j : ℕ). what.Reply j) (map (λ (e : ℕ × ℕ). e.1) q)) asked_same);
        answers = ap (λ q. reply_pairs (c.replies ++ filter_map (λ (l : Letter). reply_carried l.what l.load) q)) same ∙ h.answers
            ∙ sym (ap (λ q. zip (map (λ (e : ℕ × ℕ). e.1) q) (replay (block_at s 0) [] (map (λ (e : ℕ × ℕ). op_at s e.0 e.1) q))) asked_same);
        listed = h.listed ∙ sym (ap (filter_map reply_op) to_client.ran);
        after = subst (λ q. IsAfter image q) (sym (ap (λ q. reverse (map (λ (e : ℕ × ℕ). op_at s e.0 e.1) q)) asked_same)) h.after;
        block = h.block;
        under_way = λ j.
            let mine = ap (count_by (λ (l : Letter). is_request_of j l.what)) (first_letter owner taken stop first) ∙ count_cons (λ (l : Letter). is_request_of j l.what) (letter_of stop) (letters taken) in
            let left = ap (count_by (λ (l : Letter). is_request_of j l.what)) (to_owner.waiting ∙ append-nil (letters taken)) in
            let more = ap (count_by (λ (l : Letter). is_reply_to j l.what)) same in
            omega (arith, h.under_way j, mine, left, more);
      }

-- what is in order between the threads
pub record AreInOrder (s : Script) (c : Client) (a : App) (image : Contents) (app client owner : Inbox) (devices : List Device) : Type 0 where
  pub addressed : AreAddressed s app client owner
  pub clients : IsClientInOrder s c client devices
  pub sent : IsTold s c client owner
  pub answered : IsAnswered s c client owner image
  pub apps : IsAppInOrder a c.done app owner devices

-- whatever the message, the owner leaves all in order
module _ (s : Script) (c : Client) (a : App) (devices : List Device) (app app' client client' owner taken owner' : Inbox) (old new : Owner)
    (sender number : ℕ) (carried : Load) (after : List Outgoing) where
  abbrev mail_of : What → Mail
  mail_of w = record { tag = record { sender = sender; number = number; what = w }; load = carried }

  pub serve_order : (w : What) → owner.waiting ≡ mail_of w ∷ taken.waiting → taken.ran ≡ owner.ran ++ (mail_of w).tag ∷ []
      → Serves old new (mail_of w) [] after → new.image.block ≡ old.image.block
      → Got app app' (posted 0 2 after) → Got client client' (posted 1 2 after) → Got taken owner' (posted 2 2 after)
      → AreInOrder s c a old.image app client owner devices → AreInOrder s c a new.image app' client' owner' devices
  serve_order w first ran serves block to_app to_client to_owner h =
      at w first ran serves (All-head (IsToOwner s) (letter_of (mail_of w)) (letters taken) (All-same (IsToOwner s) (letter_of (mail_of w) ∷ letters taken) (letters owner) (sym (first_letter owner taken (mail_of w) first)) h.addressed.owner_waits))
    where
      at : (w : What) → owner.waiting ≡ mail_of w ∷ taken.waiting → taken.ran ≡ owner.ran ++ (mail_of w).tag ∷ []
          → Serves old new (mail_of w) [] after → IsToOwner s (letter_of (mail_of w)) → AreInOrder s c a new.image app' client' owner' devices
      at (what.Request k) first ran (answer, answers, sends, ended) (is, o, op, same) =
          let one = ap (λ n. let m : Mail = record { tag = record { sender = n; number = number; what = what.Request k }; load = carried } in m) is in
          let tag = ap (λ n. let t : Tag = record { sender = n; number = number; what = what.Request k } in t) is in
          let reply : Letter = record { sender = 2; what = what.Reply k; load = load.Replied answer } in
          let all : after ≡ record { to = 1; what = what.Reply k; load = load.Replied answer } ∷ [] = sends ∙ ap (λ n. let x : Outgoing = record { to = n; what = what.Reply k; load = load.Replied answer } in x ∷ []) is in
          let ga : Got app app' [] = subst (Got app app') (ap (posted 0 2) all) to_app in
          let gc : Got client client' (reply ∷ []) = subst (Got client client') (ap (posted 1 2) all) to_client in
          let go : Got taken owner' [] = subst (Got taken owner') (ap (posted 2 2) all) to_owner in
          let known : (sender == 0 || sender == 1) ≡ true = ap (λ n. n == 0 || n == 1) is in
          record {
            addressed = owner_addressed s c app app' client client' owner taken owner' (mail_of (what.Request k)) first ran (reply ∷ []) ga gc go h.addressed known refl;
            clients = owner_client s c app app' client client' owner taken owner' (mail_of (what.Request k)) first ran (reply ∷ []) ga gc go devices h.clients;
            sent = owner_told s c app app' client client' owner taken owner' (mail_of (what.Request k)) first ran (reply ∷ []) ga gc go h.sent refl;
            answered = request_answered s c client client' owner taken owner' number k carried answer old.image new.image
                (first ∙ ap (λ m. m ∷ taken.waiting) one) (ran ∙ ap (λ t. owner.ran ++ t ∷ []) tag) gc go o op same answers block h.answered;
            apps = owner_app s c app app' client client' owner taken owner' (mail_of (what.Request k)) first ran (reply ∷ []) ga gc go a c.done devices h.apps;
          }
      at what.Stop first ran (sends, image, ended) is =
          let ga : Got app app' [] = subst (Got app app') (ap (posted 0 2) sends) to_app in
          let gc : Got client client' [] = subst (Got client client') (ap (posted 1 2) sends) to_client in
          let go : Got taken owner' [] = subst (Got taken owner') (ap (posted 2 2) sends) to_owner in
          let known : (sender == 0 || sender == 1) ≡ true = ap (λ n. n == 0 || n == 1) is in
          record {
            addressed = owner_addressed s c app app' client client' owner taken owner' (mail_of what.Stop) first ran [] ga gc go h.addressed known refl;
            clients = owner_client s c app app' client client' owner taken owner' (mail_of what.Stop) first ran [] ga gc go devices h.clients;
            sent = owner_told s c app app' client client' owner taken owner' (mail_of what.Stop) first ran [] ga gc go h.sent refl;
            answered = stop_answered s c client client' owner taken owner' sender number carried new.image first ran gc go (subst (λ i. IsAnswered s c client owner i) (sym image) h.answered);
            apps = owner_app s c app app' client client' owner taken owner' (mail_of what.Stop) first ran [] ga gc go a c.done devices h.apps;
          }
      at (what.Reply k) first ran serves is = absurd is
      at (what.PutSelf d) first ran serves is = absurd is
      at what.Done first ran serves is = absurd is
      at (what.Visit x y d) first ran serves is = absurd is
      at (what.Visited k) first ran serves is = absurd is
      at (what.Cast x y) first ran serves is = absurd is
      at (what.Casted k) first ran serves is = absurd is
      at (what.Arrive x y) first ran serves is = absurd is
      at (what.Order x y d) first ran serves is = absurd is
