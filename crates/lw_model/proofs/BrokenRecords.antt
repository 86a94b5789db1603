-- Records that break a rule each, made of lawful ones.
use Rattle.std.specs.Prelude.{[], ◌∷◌, codes, refl}
use Rattle.lw_model.specs.declared.script.Op.TheVariants as op
use Rattle.lw_base.specs.declared.message.What.TheVariants as what
use Rattle.lw_model.specs.declared.record.Record.{Record}
use Rattle.lw_model.specs.declared.record.Answer.TheVariants as answer
use Rattle.lw_model.specs.declared.record.Replied.TheVariants as replied
use Rattle.lw_model.specs.declared.record.SeenBy.TheVariants as by
use Rattle.lw_model.proofs.Records.{client_of, message, did, called, reply, seen, mark, ended, row, order, client, owner, block, span, round, hop, four_app, four_client, four_owner, four_ops, moved_app, moved_client, moved_owner, moved_rows, moved, shared_app, shared_client, shared_owner, shared, again_client, again, shut_app, shut_reader, shut_client, shut_owner, shut, rounds_app, rounds_visitor, rounds_caster, rounds_owner, visit_seen, cast_seen, casted, visit_and_cast}

-- ---- Homes and hops

-- the owner's home isn't its number modulo the reactors
abbrev pub wrong_home : Record
wrong_home = record four_ops { threads = four_app ∷ four_client ∷ record four_owner { home = 1 } ∷ []; printable = refl }

-- no round has the order of the client's hop
abbrev pub hop_without_order : Record
hop_without_order = record moved { rounds = round 1 10 moved_rows [] ∷ []; printable = refl }

-- the hop goes to another reactor than the order
abbrev pub hop_elsewhere : Record
hop_elsewhere = record moved { threads = moved_app ∷ moved_client (hop 1 1 ∷ []) ∷ moved_owner ∷ []; printable = refl }

-- two hops of one round
abbrev pub hops_of_one_round : Record
hops_of_one_round = record moved { threads = moved_app ∷ moved_client (hop 1 0 ∷ hop 1 0 ∷ []) ∷ moved_owner ∷ []; printable = refl }

-- ---- Numbers

-- two lines of one sender stand in the other order
abbrev pub swapped_lines : Record
swapped_lines = record four_ops { threads = four_app ∷ record four_client { ran = message 2 1 (what.Reply 2) ∷ message 2 0 (what.Reply 1) ∷ message 1 0 (what.PutSelf 0) ∷ [] } ∷ four_owner ∷ []; printable = refl }

-- a number stands twice
abbrev pub repeated_number : Record
repeated_number = record four_ops { threads = four_app ∷ record four_client { ran = message 2 0 (what.Reply 1) ∷ message 2 0 (what.Reply 2) ∷ message 1 0 (what.PutSelf 0) ∷ [] } ∷ four_owner ∷ []; printable = refl }

-- ---- Answers

-- a put while a request of the client to that image is unanswered
abbrev pub put_too_early : Record
put_too_early = record four_ops { threads = four_app ∷ record four_client { did = did 0 0 (answer.Given 0) ∷ did 0 1 answer.Sent ∷ did 0 2 answer.Sent ∷ did 1 3 answer.Deferred ∷ did 2 4 answer.Closed ∷ [] } ∷ four_owner ∷ []; printable = refl }

-- an AT falls: by own order the close then comes before the put, and is the first of the two to fail
abbrev pub falling_at : Record
falling_at = record four_ops { threads = four_app ∷ record four_client { did = did 0 0 (answer.Given 0) ∷ did 0 1 answer.Sent ∷ did 0 2 answer.Sent ∷ did 3 3 answer.Deferred ∷ did 2 4 answer.Closed ∷ [] } ∷ four_owner ∷ []; printable = refl }

-- a line says that more messages had been run than the thread ran
abbrev pub at_past_the_end : Record
at_past_the_end = record four_ops { threads = four_app ∷ record four_client { did = did 0 0 (answer.Given 0) ∷ did 0 1 answer.Sent ∷ did 0 2 answer.Sent ∷ did 2 3 answer.Deferred ∷ did 4 4 answer.Closed ∷ [] } ∷ four_owner ∷ []; printable = refl }

-- a read is refused although the client holds a reference
abbrev pub no_channel_held : Record
no_channel_held = record four_ops { threads = four_app ∷ record four_client { did = did 0 0 (answer.Given 0) ∷ did 0 1 answer.Sent ∷ did 0 2 answer.NoChannel ∷ did 2 3 answer.Deferred ∷ did 2 4 answer.Closed ∷ [] } ∷ four_owner ∷ []; printable = refl }

-- the last put is counted and not deferred
abbrev pub counted_last : Record
counted_last = record four_ops { threads = four_app ∷ record four_client { did = did 0 0 (answer.Given 0) ∷ did 0 1 answer.Sent ∷ did 0 2 answer.Sent ∷ did 2 3 answer.Counted ∷ did 2 4 answer.Closed ∷ [] } ∷ four_owner ∷ []; printable = refl }

-- a client without its last line fails at its own line
abbrev pub never_closed : Record
never_closed = record four_ops { threads = four_app ∷ record four_client { did = did 0 0 (answer.Given 0) ∷ did 0 1 answer.Sent ∷ did 0 2 answer.Sent ∷ did 2 3 answer.Deferred ∷ [] } ∷ four_owner ∷ []; printable = refl }

-- the app unregisters before it ran the client's last message
abbrev pub done_unrun : Record
done_unrun = record four_ops { threads = record four_app { did = did 0 0 (answer.Began 1) ∷ [] } ∷ four_client ∷ four_owner ∷ []; printable = refl }

-- a get is told another ordinal than that of the channel
abbrev pub again_of_another : Record
again_of_another = record again { threads = four_app ∷ again_client 1 ∷ owner (message 1 0 (what.Request 3) ∷ message 0 0 what.Stop ∷ []) ∷ []; printable = refl }

-- two requests at depth 1
abbrev pub over_depth : Record
over_depth = record four_ops { script = record four_ops.script { clients = client_of (codes "a") 1 (op.Get 0 ∷ op.Write 0 0 1 (171 ∷ []) ∷ op.Read 0 0 1 ∷ op.Put 0 ∷ []) ∷ [] }; printable = refl }

-- a client closes before its visit is complete
abbrev pub close_during_visit : Record
close_during_visit = record visit_and_cast { threads = rounds_app ∷ client 0 [] (did 0 0 answer.Closed ∷ []) [] ∷ rounds_visitor 2 visit_seen ∷ rounds_caster casted cast_seen ∷ rounds_owner ∷ []; printable = refl }

-- ---- Ran is sent

-- two replies stand under each other's number
abbrev pub swapped_replies : Record
swapped_replies = record four_ops { threads = four_app ∷ record four_client { ran = message 2 0 (what.Reply 2) ∷ message 2 1 (what.Reply 1) ∷ message 1 0 (what.PutSelf 0) ∷ [] } ∷ four_owner ∷ []; printable = refl }

-- the client ran a reply that the owner didn't send
abbrev pub reply_not_sent : Record
reply_not_sent = record four_ops { threads = four_app ∷ four_client ∷ owner (message 1 0 (what.Request 1) ∷ message 1 1 (what.Request 1) ∷ message 0 0 what.Stop ∷ []) ∷ []; printable = refl }

-- the app's last message was lost: the receiver's own line fails
abbrev pub lost_stop : Record
lost_stop = record four_ops { threads = four_app ∷ four_client ∷ owner (message 1 0 (what.Request 1) ∷ message 1 1 (what.Request 2) ∷ []) ∷ []; printable = refl }

-- a message of a sender that is no thread
abbrev pub made_up : Record
made_up = record four_ops { threads = four_app ∷ four_client ∷ owner (message 1 0 (what.Request 1) ∷ message 1 1 (what.Request 2) ∷ message 0 0 what.Stop ∷ message 7 0 what.Stop ∷ []) ∷ []; printable = refl }

-- an owner ran a token twice, so that it completed it twice: the origin lacks the second completion
abbrev pub token_twice : Record
token_twice = record visit_and_cast { threads = rounds_app ∷ client 0 [] (did 0 0 answer.Closed ∷ []) [] ∷ rounds_visitor 3 visit_seen ∷ rounds_caster casted cast_seen ∷ owner (message 3 0 (what.Visit 2 1 0) ∷ message 3 1 (what.Visit 2 1 0) ∷ message 3 2 (what.Cast 3 0) ∷ message 0 0 what.Stop ∷ []) ∷ []; printable = refl }

-- ---- Replies

-- a read's reply has another byte than the write's pattern
abbrev pub wrong_byte : Record
wrong_byte = record four_ops { threads = four_app ∷ record four_client { replies = reply 1 replied.Ok ∷ reply 2 (block 172) ∷ [] } ∷ four_owner ∷ []; printable = refl }

-- a reply that was run isn't listed: the client's own line fails
abbrev pub lacking_reply : Record
lacking_reply = record four_ops { threads = four_app ∷ record four_client { replies = reply 1 replied.Ok ∷ [] } ∷ four_owner ∷ []; printable = refl }

-- a reply is listed once more than it was run
abbrev pub reply_listed_twice : Record
reply_listed_twice = record four_ops { threads = four_app ∷ record four_client { replies = reply 1 replied.Ok ∷ reply 2 (block 171) ∷ reply 2 (block 171) ∷ [] } ∷ four_owner ∷ []; printable = refl }

-- the replies aren't listed in the order in which they were run
abbrev pub reply_out_of_order : Record
reply_out_of_order = record four_ops { threads = four_app ∷ record four_client { replies = reply 2 (block 171) ∷ reply 1 replied.Ok ∷ [] } ∷ four_owner ∷ []; printable = refl }

-- ---- Devices

-- more channels than were given
abbrev pub wrong_count : Record
wrong_count = record four_ops { devices = ended 2 0 1 ∷ []; printable = refl }

-- the callback was made twice
abbrev pub called_twice : Record
called_twice = record four_ops { threads = record four_app { called = called 1 0 ∷ called 1 0 ∷ [] } ∷ four_client ∷ four_owner ∷ []; printable = refl }

-- an ordinal was given twice
abbrev pub ordinal_twice : Record
ordinal_twice = record shared { threads = shared_app ∷ shared_client 1 1 0 replied.Ok ∷ shared_client 2 0 0 replied.Ok ∷ shared_client 3 1 2 (block 170) ∷ shared_owner ∷ []; printable = refl }

-- two threads began to unregister the device
abbrev pub began_twice : Record
began_twice = record shut { threads = shut_app (answer.Began 1) ∷ shut_reader ∷ shut_client (answer.Began 1) (called 0 0 ∷ []) ∷ shut_client answer.Shut [] ∷ shut_owner ∷ []; printable = refl }

-- a get found the device shut although the app unregistered it
abbrev pub shut_before_app : Record
shut_before_app = record shut { threads = record (shut_app (answer.Began 1)) { called = called 3 0 ∷ [] } ∷ shut_reader ∷ shut_client answer.Already [] ∷ shut_client answer.Shut [] ∷ shut_owner ∷ []; devices = ended 1 0 1 ∷ []; printable = refl }

-- the device's line says that no callback was made
abbrev pub no_callback : Record
no_callback = record four_ops { devices = ended 1 0 0 ∷ []; printable = refl }

-- ---- Visits seen

-- a visit's result says that a request was submitted
abbrev pub wrong_mark : Record
wrong_mark = record visit_and_cast { threads = rounds_app ∷ client 0 [] (did 0 0 answer.Closed ∷ []) [] ∷ rounds_visitor 3 (seen 1 (by.Visit (mark 2 1 ∷ [])) ∷ []) ∷ rounds_caster casted cast_seen ∷ rounds_owner ∷ []; printable = refl }

-- a visit's results have a thread that held no channel
abbrev pub mark_without_channel : Record
mark_without_channel = record visit_and_cast { threads = rounds_app ∷ client 0 [] (did 0 0 answer.Closed ∷ []) [] ∷ rounds_visitor 3 (seen 1 (by.Visit (mark 2 0 ∷ mark 3 0 ∷ [])) ∷ []) ∷ rounds_caster casted cast_seen ∷ rounds_owner ∷ []; printable = refl }

-- a thread that ran the cast is missing from its results
abbrev pub lacking_cast : Record
lacking_cast = record visit_and_cast { threads = rounds_app ∷ client 0 [] (did 0 0 answer.Closed ∷ []) [] ∷ rounds_visitor 3 visit_seen ∷ rounds_caster casted (seen 0 (by.Cast (0 ∷ 2 ∷ 3 ∷ [])) ∷ []) ∷ rounds_owner ∷ []; printable = refl }

-- a completion that was run isn't listed: the client's own line fails
abbrev pub unseen : Record
unseen = record visit_and_cast { threads = rounds_app ∷ client 0 [] (did 0 0 answer.Closed ∷ []) [] ∷ rounds_visitor 3 visit_seen ∷ rounds_caster casted [] ∷ rounds_owner ∷ []; printable = refl }

-- ---- Rounds and orders

-- an order that isn't of the plan
abbrev pub order_not_planned : Record
order_not_planned = record moved { span = span 0 10; rounds = round 1 10 moved_rows (order 1 0 ∷ order 2 1 ∷ []) ∷ []; printable = refl }

-- an order of the plan is missing: the line after the round fails
abbrev pub lacking_order : Record
lacking_order = record moved { threads = moved_app ∷ moved_client [] ∷ moved_owner ∷ []; rounds = round 1 10 moved_rows [] ∷ []; printable = refl }

-- a round is overdue at the last reading: the home line fails
abbrev pub overdue : Record
overdue = record moved { span = span 0 20; rounds = round 1 10 moved_rows (order 1 0 ∷ []) ∷ []; printable = refl }

-- a round comes before a period has passed
abbrev pub too_soon : Record
too_soon = record moved { span = span 0 10; rounds = round 1 9 moved_rows (order 1 0 ∷ []) ∷ []; printable = refl }

-- the last reading is below the first
abbrev pub clock_back : Record
clock_back = record moved { span = span 11 10; rounds = round 1 10 moved_rows (order 1 0 ∷ []) ∷ []; printable = refl }

-- two rows stand in the other order
abbrev pub rows_descend : Record
rows_descend = record moved { span = span 0 10; rounds = round 1 10 (row 1 1 0 0 ∷ row 0 0 0 0 ∷ row 2 0 0 0 ∷ []) (order 1 0 ∷ []) ∷ []; printable = refl }

-- ---- Buffers home

-- a buffer is missing from the pool
abbrev pub lost_buffer : Record
lost_buffer = record four_ops { home = record { small = 3; large = 1 }; printable = refl }
