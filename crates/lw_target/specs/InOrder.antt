-- What holds of a run between the polls of its threads: of the client's log, of the messages under way, of the answers, and of the app.
use Rattle.std.specs.Prelude.{ℕ, ◌+◌, ◌≡◌, ◌≤◌, ◌<◌, ◌⊎◌, ◌==◌, ◌&&◌, ◌||◌, Bool, true, false, cond, List, [], ◌∷◌, ◌++◌, length, map, reverse, filter_map, zip, count_by, Option, Some, None}
use Rattle.std.specs.List.{All, list_all}
use Rattle.lw_base.specs.declared.message.Tag.{Tag}
use Rattle.lw_base.specs.declared.message.What.{What}
use Rattle.lw_base.specs.declared.message.What.TheVariants as what
use Rattle.lw_model.specs.declared.script.Script.{Script}
use Rattle.lw_model.specs.declared.script.Op.{Op}
use Rattle.lw_model.specs.declared.record.Answer.TheVariants.{Began}
use Rattle.lw_model.specs.ScriptRules.{block_at}
use Rattle.lw_model.specs.Journal.{request_of}
use Rattle.lw_model.specs.Threads.{op_at, image_at}
use Rattle.lw_model.specs.Holding.{is_putself}
use Rattle.lw_model.specs.Lawful.{reply_op}
use Rattle.lw_model.specs.Sent.{to_thread}
use Rattle.lw_image.specs.Image.{Contents, IsAfter}
use Rattle.lw_target.specs.declared.mail.Load.{Load}
use Rattle.lw_target.specs.declared.mail.Load.TheVariants as load
use Rattle.lw_target.specs.declared.app.App.{App}
use Rattle.lw_target.specs.declared.client.Client.{Client}
use Rattle.lw_target.specs.declared.device.Device.{Device}
use Rattle.lw_target.specs.declared.turns.Target.{Target}
use Rattle.lw_target.specs.Messages.{Inbox, operands}
use Rattle.lw_target.specs.ClientLog.{Follows, sent_so_far, was_refused, IsHeldUp}
use Rattle.lw_target.specs.ClientCalls.{AllAgree, pending_of, reply_carried}
use Rattle.lw_target.specs.Letters.{Letter, letters, told}
use Rattle.lw_target.specs.WholeRun.{requests_of, answers_of, reply_pairs}

-- a script of one client on one image
pub record IsOfOne (s : Script) : Type 0 where
  pub clients : length s.clients ≡ 1
  pub images : length s.images ≡ 1
  pub image : (k d : ℕ) → image_at s 1 k ≡ Some d → d ≡ 0

-- what may wait for the app, and for the client
abbrev pub is_to_app : Letter → Bool
is_to_app l = elim l.what [ what.Done ↦ l.sender == 1 | _ ↦ false ]

abbrev pub is_replied : Load → Bool
is_replied (load.Replied a) = true
is_replied _ = false

abbrev pub is_to_client : Letter → Bool
is_to_client l = elim l.what [ what.PutSelf d ↦ l.sender == 1 | what.Reply k ↦ l.sender == 2 && is_replied l.load | _ ↦ false ]

-- what may wait for the owner: the client's requests, each with the operands of its op, and the app's stop
abbrev pub IsToOwner : Script → Letter → Type 0
IsToOwner s l = elim l.what [
  | what.Request k ↦ (l.sender ≡ 1) × (o : Op) × (op_at s 1 k ≡ Some o) × (l.load ≡ operands o)
  | what.Stop ↦ l.sender ≡ 0
  | _ ↦ ⊥
]

-- whose messages were run, and which wait
pub record AreAddressed (s : Script) (app client owner : Inbox) : Type 0 where
  pub app_ran : list_all (λ m. m.sender == 1) app.ran ≡ true
  pub app_waits : list_all is_to_app (letters app) ≡ true
  pub client_ran : list_all (λ m. m.sender == 1 || m.sender == 2) client.ran ≡ true
  pub client_waits : list_all is_to_client (letters client) ≡ true
  pub owner_ran : list_all (λ m. m.sender == 0 || m.sender == 1) owner.ran ≡ true
  pub owner_waits : All (IsToOwner s) (letters owner)

-- the client's log agrees with what it keeps, and each put that it awaits is under way
pub record IsClientInOrder (s : Script) (c : Client) (inbox : Inbox) (devices : List Device) : Type 0 where
  pub follows : Follows s c inbox.ran
  pub agree : AllAgree s c inbox.ran devices
  pub refused : was_refused c inbox.ran ≡ false
  pub pending : pending_of c 0 ≤ count_by (λ l. is_putself 0 l.what) (letters inbox)

-- what the client sent is what it told itself and the owner
pub record IsTold (s : Script) (c : Client) (client owner : Inbox) : Type 0 where
  pub to_itself : told client 1 ≡ to_thread 1 (sent_so_far s c client.ran)
  pub to_owner : told owner 1 ≡ to_thread 2 (sent_so_far s c client.ran)

abbrev pub is_reply_to : ℕ → What → Bool
is_reply_to j w = elim w [ what.Reply k ↦ k == j | _ ↦ false ]

abbrev pub is_request_of : ℕ → What → Bool
is_request_of j w = elim w [ what.Request k ↦ k == j | _ ↦ false ]

-- the requests that the owner ran, each by its op, the latest first
abbrev pub past_requests : Script → List Tag → List (Option Op)
past_requests s ran = reverse (map (λ e. op_at s e.0 e.1) (filter_map request_of ran))

-- each request that the owner ran has its reply, run or under way, with the answer of the requests run one by one; and each
-- unanswered op has its request or its reply under way
pub record IsAnswered (s : Script) (c : Client) (client owner : Inbox) (image : Contents) : Type 0 where
  pub replies : told client 2 ≡ map (λ k. what.Reply k) (requests_of owner.ran)
  pub answers : reply_pairs (c.replies ++ filter_map (λ l. reply_carried l.what l.load) (letters client)) ≡ zip (requests_of owner.ran) (answers_of s owner.ran)
  pub listed : map (λ x. x.op) c.replies ≡ filter_map reply_op client.ran
  pub after : IsAfter image (past_requests s owner.ran)
  pub block : image.block ≡ block_at s 0
  pub under_way : (j : ℕ) → count_by (λ i. i == j) c.unanswered.items
      ≤ count_by (λ l. is_reply_to j l.what) (letters client) + count_by (λ l. is_request_of j l.what) (letters owner)

-- the app before it begins
pub record IsFresh (a : App) (v : Device) : Type 0 where
  pub began : a.began ≡ false
  pub ended : a.ended ≡ false
  pub owed : a.owed.items ≡ false ∷ []
  pub did : a.did ≡ []
  pub called : a.called ≡ []
  pub usable : v.shut_by ≡ None
  pub callbacks : v.callbacks ≡ 0

-- the app when it has ended
pub record IsOver (a : App) (client_done : Bool) (v : Device) : Type 0 where
  pub client : client_done ≡ true
  pub began : a.began ≡ true
  pub ended : a.ended ≡ true
  pub did : a.did ≡ record { at = 1; op = 0; answer = Began v.given } ∷ []
  pub called : a.called ≡ record { at = 1; device = 0 } ∷ []
  pub shut : v.shut_by ≡ Some 0
  pub callbacks : v.callbacks ≡ 1

-- the app counts the client's message, and has told the owner to stop where it has ended
pub record IsAppInOrder (a : App) (client_done : Bool) (app owner : Inbox) (devices : List Device) : Type 0 where
  pub clients : a.clients ≡ 1
  pub device : (v : Device) × (devices ≡ v ∷ []) × (IsFresh a v ⊎ IsOver a client_done v)
  pub counted : a.done ≡ length app.ran
  pub heard : map (λ m. m.what) app.ran ++ map (λ l. l.what) (letters app) ≡ cond client_done (what.Done ∷ []) []
  pub stops : told owner 0 ≡ cond a.ended (what.Stop ∷ []) []

-- a run of the script so far
pub record IsInOrder (s : Script) (t : Target) : Type 0 where
  pub of : IsOfOne s
  pub addressed : AreAddressed s t.posts.app t.posts.client t.posts.owner
  pub client : IsClientInOrder s t.client t.posts.client t.devices.items
  pub sent : IsTold s t.client t.posts.client t.posts.owner
  pub answered : IsAnswered s t.client t.posts.client t.posts.owner t.owner.image
  pub app : IsAppInOrder t.app t.client.done t.posts.app t.posts.owner t.devices.items

-- nothing waits, and neither the client nor the app can go on
pub record IsAtRest (t : Target) : Type 0 where
  pub app : letters t.posts.app ≡ []
  pub client : letters t.posts.client ≡ []
  pub owner : letters t.posts.owner ≡ []
  pub client_rests : t.client.done ≡ false → 1 ≤ t.client.of.depth → IsHeldUp t.client
  pub app_rests : (t.app.began ≡ true) ⊎ (t.app.done < t.app.clients)
