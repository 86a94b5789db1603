-- Records of runs that happened, worked out by hand.
use Rattle.std.specs.Prelude.{ℕ, List, [], ◌∷◌, codes, Some, None, Option, refl}
use Rattle.lw_model.specs.declared.script.ImageOf.{ImageOf}
use Rattle.lw_model.specs.declared.script.ClientOf.{ClientOf}
use Rattle.lw_model.specs.declared.script.Op.{Op}
use Rattle.lw_model.specs.declared.script.Op.TheVariants as op
use Rattle.lw_base.specs.declared.message.Tag.{Tag}
use Rattle.lw_base.specs.declared.message.What.{What}
use Rattle.lw_base.specs.declared.message.What.TheVariants as what
use Rattle.lw_base.specs.declared.message.Mark.{Mark}
use Rattle.lw_model.specs.declared.record.Record.{Record}
use Rattle.lw_base.specs.declared.moves.Scheduler.TheVariants.{Static, Dynamic}
use Rattle.lw_model.specs.declared.record.ThreadRecord.{ThreadRecord}
use Rattle.lw_model.specs.declared.record.RoleKind.TheVariants.{App, Client, Owner}
use Rattle.lw_base.specs.declared.moves.Hop.{Hop}
use Rattle.lw_model.specs.declared.record.Did.{Did}
use Rattle.lw_model.specs.declared.record.Answer.{Answer}
use Rattle.lw_model.specs.declared.record.Answer.TheVariants as answer
use Rattle.lw_model.specs.declared.record.Called.{Called}
use Rattle.lw_model.specs.declared.record.Reply.{Reply}
use Rattle.lw_model.specs.declared.record.Replied.{Replied}
use Rattle.lw_model.specs.declared.record.Replied.TheVariants as replied
use Rattle.lw_model.specs.declared.record.Seen.{Seen}
use Rattle.lw_model.specs.declared.record.SeenBy.{SeenBy}
use Rattle.lw_model.specs.declared.record.SeenBy.TheVariants as by
use Rattle.lw_base.specs.declared.ends.DeviceEnd.{DeviceEnd}
use Rattle.lw_model.specs.declared.record.Span.{Span}
use Rattle.lw_base.specs.declared.moves.Round.{Round}
use Rattle.lw_base.specs.declared.moves.Row.{Row}
use Rattle.lw_base.specs.declared.moves.Order.{Order}

-- ---- the parts of a record, in the order of their lines' words

abbrev pub image : ℕ → ImageOf
image blocks = record { name = codes "m"; block = 16; blocks = blocks }

abbrev pub client_of : List ℕ → ℕ → List Op → ClientOf
client_of name depth ops = record { name = name; depth = depth; ops = ops }

abbrev pub message : ℕ → ℕ → What → Tag
message sender number w = record { sender = sender; number = number; what = w }

abbrev pub did : ℕ → ℕ → Answer → Did
did at k a = record { at = at; op = k; answer = a }

abbrev pub called : ℕ → ℕ → Called
called at device = record { at = at; device = device }

abbrev pub reply : ℕ → Replied → Reply
reply k a = record { op = k; answer = a }

abbrev pub seen : ℕ → SeenBy → Seen
seen k results = record { op = k; results = results }

abbrev pub mark : ℕ → ℕ → Mark
mark thread submitted = record { thread = thread; submitted = submitted }

abbrev pub ended : ℕ → ℕ → ℕ → DeviceEnd
ended given thread callbacks = record { given = given; thread = thread; callbacks = callbacks }

abbrev pub row : ℕ → ℕ → ℕ → ℕ → Row
row thread reactor busy idle = record { thread = thread; reactor = reactor; busy = busy; idle = idle }

abbrev pub order : ℕ → ℕ → Order
order thread to = record { thread = thread; to = to }

abbrev pub app : List Tag → List Did → List Called → ThreadRecord
app ran did called = record { role = App; home = 0; hops = []; ran = ran; did = did; called = called; replies = []; seen = [] }

abbrev pub client : ℕ → List Tag → List Did → List Reply → ThreadRecord
client home ran did replies = record { role = Client; home = home; hops = []; ran = ran; did = did; called = []; replies = replies; seen = [] }

abbrev pub owner : List Tag → ThreadRecord
owner ran = record { role = Owner; home = 0; hops = []; ran = ran; did = []; called = []; replies = []; seen = [] }

-- sixteen bytes, what one block has
abbrev pub block : ℕ → Replied
block byte = replied.Bytes (byte ∷ byte ∷ byte ∷ byte ∷ byte ∷ byte ∷ byte ∷ byte ∷ byte ∷ byte ∷ byte ∷ byte ∷ byte ∷ byte ∷ byte ∷ byte ∷ [])

-- ---- a client without ops

abbrev pub without_ops : Record
without_ops = record {
  script = record { images = image 1 ∷ []; clients = client_of (codes "a") 1 [] ∷ []; small = 1; large = 1 };
  scheduler = Static;
  reactors = 1;
  period = 1000000;
  threads =
      (app (message 1 0 what.Done ∷ []) (did 1 0 (answer.Began 0) ∷ []) (called 1 0 ∷ [])
      ∷ client 0 [] (did 0 0 answer.Closed ∷ []) []
      ∷ owner (message 0 0 what.Stop ∷ [])
      ∷ []);
  devices = ended 0 0 1 ∷ [];
  span = None;
  rounds = [];
  home = record { small = 1; large = 1 };
  printable = refl;
}

-- ---- a get, a write, a read of what was written, and a put

abbrev pub four_app : ThreadRecord
four_app = app (message 1 0 what.Done ∷ []) (did 1 0 (answer.Began 1) ∷ []) (called 1 0 ∷ [])

abbrev pub four_client : ThreadRecord
four_client = client 0
    (message 2 0 (what.Reply 1) ∷ message 2 1 (what.Reply 2) ∷ message 1 0 (what.PutSelf 0) ∷ [])
    (did 0 0 (answer.Given 0) ∷ did 0 1 answer.Sent ∷ did 0 2 answer.Sent ∷ did 2 3 answer.Deferred ∷ did 2 4 answer.Closed ∷ [])
    (reply 1 replied.Ok ∷ reply 2 (block 171) ∷ [])

abbrev pub four_owner : ThreadRecord
four_owner = owner (message 1 0 (what.Request 1) ∷ message 1 1 (what.Request 2) ∷ message 0 0 what.Stop ∷ [])

abbrev pub four_ops : Record
four_ops = record {
  script = record {
    images = image 4 ∷ [];
    clients = client_of (codes "a") 4 (op.Get 0 ∷ op.Write 0 0 1 (171 ∷ []) ∷ op.Read 0 0 1 ∷ op.Put 0 ∷ []) ∷ [];
    small = 4;
    large = 1;
  };
  scheduler = Static;
  reactors = 1;
  period = 1000000;
  threads = four_app ∷ four_client ∷ four_owner ∷ [];
  devices = ended 1 0 1 ∷ [];
  span = None;
  rounds = [];
  home = record { small = 4; large = 1 };
  printable = refl;
}

-- ---- a client that moves from reactor 1 to reactor 0 in the one round

abbrev pub moved_app : ThreadRecord
moved_app = app (message 1 0 what.Done ∷ []) (did 1 0 (answer.Began 0) ∷ []) (called 1 0 ∷ [])

abbrev pub moved_client : List Hop → ThreadRecord
moved_client hops = record (client 1 [] (did 0 0 answer.Waited ∷ did 0 1 answer.Closed ∷ []) []) { hops = hops }

abbrev pub moved_owner : ThreadRecord
moved_owner = owner (message 0 0 what.Stop ∷ [])

abbrev pub moved_rows : List Row
moved_rows = row 0 0 0 0 ∷ row 1 1 0 0 ∷ row 2 0 0 0 ∷ []

abbrev pub span : ℕ → ℕ → Option Span
span first last = Some (record { first = first; last = last })

abbrev pub round : ℕ → ℕ → List Row → List Order → Round
round number time rows orders = record { number = number; time = time; rows = rows; orders = orders }

abbrev pub hop : ℕ → ℕ → Hop
hop number reactor = record { round = number; reactor = reactor }

abbrev pub moved : Record
moved = record {
  script = record { images = image 1 ∷ []; clients = client_of (codes "a") 1 (op.Wait 5 ∷ []) ∷ []; small = 1; large = 1 };
  scheduler = Dynamic;
  reactors = 2;
  period = 10;
  threads = moved_app ∷ moved_client (hop 1 0 ∷ []) ∷ moved_owner ∷ [];
  devices = ended 0 0 1 ∷ [];
  span = span 0 10;
  rounds = round 1 10 moved_rows (order 1 0 ∷ []) ∷ [];
  home = record { small = 1; large = 1 };
  printable = refl;
}

-- ---- three clients of one image, on two reactors: two write a block and the third reads it between

abbrev pub shared_app : ThreadRecord
shared_app = app (message 2 0 what.Done ∷ message 1 0 what.Done ∷ message 3 0 what.Done ∷ []) (did 3 0 (answer.Began 3) ∷ []) (called 3 0 ∷ [])

abbrev pub shared_client : ℕ → ℕ → ℕ → Replied → ThreadRecord
shared_client number home ordinal answered = client home
    (message 4 0 (what.Reply 1) ∷ message number 0 (what.PutSelf 0) ∷ [])
    (did 0 0 (answer.Given ordinal) ∷ did 0 1 answer.Sent ∷ did 1 2 answer.Closed ∷ [])
    (reply 1 answered ∷ [])

abbrev pub shared_owner : ThreadRecord
shared_owner = owner (message 2 0 (what.Request 1) ∷ message 1 0 (what.Request 1) ∷ message 3 0 (what.Request 1) ∷ message 0 0 what.Stop ∷ [])

abbrev pub shared : Record
shared = record {
  script = record {
    images = image 4 ∷ [];
    clients =
        (client_of (codes "a") 4 (op.Get 0 ∷ op.Write 0 0 1 (170 ∷ []) ∷ [])
        ∷ client_of (codes "b") 4 (op.Get 0 ∷ op.Write 0 0 1 (187 ∷ []) ∷ [])
        ∷ client_of (codes "c") 4 (op.Get 0 ∷ op.Read 0 0 1 ∷ [])
        ∷ []);
    small = 4;
    large = 1;
  };
  scheduler = Static;
  reactors = 2;
  period = 1000000;
  threads = shared_app ∷ shared_client 1 1 1 replied.Ok ∷ shared_client 2 0 0 replied.Ok ∷ shared_client 3 1 2 (block 170) ∷ shared_owner ∷ [];
  devices = ended 3 0 1 ∷ [];
  span = None;
  rounds = [];
  home = record { small = 4; large = 1 };
  printable = refl;
}

-- ---- a get that comes before the put's own message has run: the channel stands on

abbrev pub again_client : ℕ → ThreadRecord
again_client ordinal = client 0
    (message 1 0 (what.PutSelf 0) ∷ message 2 0 (what.Reply 3) ∷ message 1 1 (what.PutSelf 0) ∷ [])
    (did 0 0 (answer.Given 0) ∷ did 0 1 answer.Deferred ∷ did 0 2 (answer.Again ordinal) ∷ did 0 3 answer.Sent ∷ did 2 4 answer.Closed ∷ [])
    (reply 3 (block 0) ∷ [])

abbrev pub again : Record
again = record {
  script = record { images = image 4 ∷ []; clients = client_of (codes "a") 4 (op.Get 0 ∷ op.Put 0 ∷ op.Get 0 ∷ op.Read 0 0 1 ∷ []) ∷ []; small = 4; large = 1 };
  scheduler = Static;
  reactors = 1;
  period = 1000000;
  threads = four_app ∷ again_client 0 ∷ owner (message 1 0 (what.Request 3) ∷ message 0 0 what.Stop ∷ []) ∷ [];
  devices = ended 1 0 1 ∷ [];
  span = None;
  rounds = [];
  home = record { small = 4; large = 1 };
  printable = refl;
}

-- ---- a client that unregisters the device: a later get finds it shut, and so does the app

abbrev pub shut_app : Answer → ThreadRecord
shut_app a = app (message 3 0 what.Done ∷ message 1 0 what.Done ∷ message 2 0 what.Done ∷ []) (did 3 0 a ∷ []) []

abbrev pub shut_reader : ThreadRecord
shut_reader = client 0
    (message 4 0 (what.Reply 1) ∷ message 1 0 (what.PutSelf 0) ∷ [])
    (did 0 0 (answer.Given 0) ∷ did 0 1 answer.Sent ∷ did 1 2 answer.Closed ∷ [])
    (reply 1 (block 0) ∷ [])

abbrev pub shut_client : Answer → List Called → ThreadRecord
shut_client a called = record (client 0 [] (did 0 0 a ∷ did 0 1 answer.Closed ∷ []) []) { called = called }

abbrev pub shut_owner : ThreadRecord
shut_owner = owner (message 1 0 (what.Request 1) ∷ message 0 0 what.Stop ∷ [])

abbrev pub shut : Record
shut = record {
  script = record {
    images = image 4 ∷ [];
    clients =
        (client_of (codes "b") 4 (op.Get 0 ∷ op.Read 0 0 1 ∷ [])
        ∷ client_of (codes "a") 4 (op.Unregister 0 ∷ [])
        ∷ client_of (codes "c") 4 (op.Get 0 ∷ [])
        ∷ []);
    small = 4;
    large = 1;
  };
  scheduler = Static;
  reactors = 1;
  period = 1000000;
  threads = shut_app answer.Already ∷ shut_reader ∷ shut_client (answer.Began 1) (called 0 0 ∷ []) ∷ shut_client answer.Shut [] ∷ shut_owner ∷ [];
  devices = ended 1 2 1 ∷ [];
  span = None;
  rounds = [];
  home = record { small = 4; large = 1 };
  printable = refl;
}

-- ---- a visit of the device and a cast to all threads, past a client that has ended

abbrev pub rounds_app : ThreadRecord
rounds_app = app
    (message 1 0 what.Done ∷ message 2 0 (what.Visit 2 1 0) ∷ message 3 0 (what.Cast 3 0) ∷ message 3 1 what.Done ∷ message 2 1 what.Done ∷ [])
    (did 5 0 (answer.Began 1) ∷ [])
    (called 5 0 ∷ [])

abbrev pub rounds_visitor : ℕ → List Seen → ThreadRecord
rounds_visitor at results = record
    (client 0
    (message 0 0 (what.Visit 2 1 0) ∷ message 0 1 (what.Cast 3 0) ∷ message 4 0 (what.Visited 1) ∷ message 2 0 (what.PutSelf 0) ∷ [])
    (did 0 0 (answer.Given 0) ∷ did 0 1 answer.Started ∷ did at 2 answer.Closed ∷ [])
    [])
    { seen = results }

abbrev pub rounds_caster : List Tag → List Seen → ThreadRecord
rounds_caster more results = record
    (client 0
    (message 2 0 (what.Visit 2 1 0) ∷ message 2 1 (what.Cast 3 0) ∷ more)
    (did 0 0 answer.Started ∷ did 3 1 answer.Closed ∷ [])
    [])
    { seen = results }

abbrev pub rounds_owner : ThreadRecord
rounds_owner = owner (message 3 0 (what.Visit 2 1 0) ∷ message 3 1 (what.Cast 3 0) ∷ message 0 0 what.Stop ∷ [])

abbrev pub visit_seen : List Seen
visit_seen = seen 1 (by.Visit (mark 2 0 ∷ [])) ∷ []

abbrev pub cast_seen : List Seen
cast_seen = seen 0 (by.Cast (0 ∷ 2 ∷ 3 ∷ 4 ∷ [])) ∷ []

abbrev pub casted : List Tag
casted = message 4 0 (what.Casted 0) ∷ []

abbrev pub visit_and_cast : Record
visit_and_cast = record {
  script = record {
    images = image 4 ∷ [];
    clients =
        (client_of (codes "x") 4 []
        ∷ client_of (codes "y") 4 (op.Get 0 ∷ op.Visit 0 ∷ [])
        ∷ client_of (codes "z") 4 (op.Each ∷ [])
        ∷ []);
    small = 4;
    large = 1;
  };
  scheduler = Static;
  reactors = 1;
  period = 1000000;
  threads = rounds_app ∷ client 0 [] (did 0 0 answer.Closed ∷ []) [] ∷ rounds_visitor 3 visit_seen ∷ rounds_caster casted cast_seen ∷ rounds_owner ∷ [];
  devices = ended 1 0 1 ∷ [];
  span = None;
  rounds = [];
  home = record { small = 4; large = 1 };
  printable = refl;
}

-- ---- two clients that read by one buffer

abbrev pub scarce_client : ℕ → ℕ → ThreadRecord
scarce_client number ordinal = client 0
    (message 3 0 (what.Reply 1) ∷ message 3 1 (what.Reply 2) ∷ message 3 2 (what.Reply 3) ∷ message number 0 (what.PutSelf 0) ∷ [])
    (did 0 0 (answer.Given ordinal) ∷ did 0 1 answer.Sent ∷ did 1 2 answer.Sent ∷ did 2 3 answer.Sent ∷ did 3 4 answer.Closed ∷ [])
    (reply 1 (block 0) ∷ reply 2 (block 0) ∷ reply 3 (block 0) ∷ [])

abbrev pub three_reads : List Op
three_reads = op.Get 0 ∷ op.Read 0 0 1 ∷ op.Read 0 0 1 ∷ op.Read 0 0 1 ∷ []

abbrev pub scarce : Record
scarce = record {
  script = record { images = image 4 ∷ []; clients = client_of (codes "a") 8 three_reads ∷ client_of (codes "b") 8 three_reads ∷ []; small = 1; large = 1 };
  scheduler = Static;
  reactors = 1;
  period = 1000000;
  threads =
      (app (message 1 0 what.Done ∷ message 2 0 what.Done ∷ []) (did 2 0 (answer.Began 2) ∷ []) (called 2 0 ∷ [])
      ∷ scarce_client 1 0
      ∷ scarce_client 2 1
      ∷ owner
      (message 1 0 (what.Request 1)
      ∷ message 1 1 (what.Request 2)
      ∷ message 1 2 (what.Request 3)
      ∷ message 2 0 (what.Request 1)
      ∷ message 2 1 (what.Request 2)
      ∷ message 2 2 (what.Request 3)
      ∷ message 0 0 what.Stop
      ∷ [])
      ∷ []);
  devices = ended 2 0 1 ∷ [];
  span = None;
  rounds = [];
  home = record { small = 1; large = 1 };
  printable = refl;
}
