-- The verdicts of these records, by computation, and that they say which are lawful.
use Rattle.std.proofs.Common.{◌≡◌, ℕ, Some, None, refl, sym, ◌∙◌}
use Rattle.lw_model.specs.declared.record.Record.{Record}
use Rattle.lw_model.specs.Lawful.{Lawful}
use Rattle.lw_model.specs.Verdict.{verdict}
use Rattle.lw_model.proofs.Judged.{verdict-exact}
use Rattle.lw_model.proofs.Records.{without_ops, four_ops, moved, shared, again, shut, visit_and_cast, scarce}
use Rattle.lw_model.proofs.BrokenRecords.{wrong_home, hop_without_order, hop_elsewhere, hops_of_one_round, swapped_lines, repeated_number, put_too_early, falling_at, at_past_the_end, no_channel_held, counted_last, never_closed, done_unrun, again_of_another, over_depth, close_during_visit, swapped_replies, reply_not_sent, lost_stop, made_up, token_twice, wrong_byte, lacking_reply, reply_listed_twice, reply_out_of_order, wrong_count, called_twice, ordinal_twice, began_twice, shut_before_app, no_callback, wrong_mark, mark_without_channel, lacking_cast, unseen, order_not_planned, lacking_order, overdue, too_soon, clock_back, rows_descend, lost_buffer}

-- a record without a verdict is lawful
accepted : (r : Record) → verdict r ≡ None → Lawful r
accepted r e = (verdict-exact r).0 e

-- a record with a verdict is not
refused : (r : Record) (p : ℕ × ℕ) → verdict r ≡ Some p → ¬ Lawful r
refused r p e l = let none = (verdict-exact r).1 l in let both : Some p ≡ None = sym e ∙ none in cc

pub without_ops-lawful : Lawful without_ops
without_ops-lawful = accepted without_ops refl

pub four_ops-lawful : Lawful four_ops
four_ops-lawful = accepted four_ops refl

pub moved-lawful : Lawful moved
moved-lawful = accepted moved refl

pub shared-lawful : Lawful shared
shared-lawful = accepted shared refl

pub again-lawful : Lawful again
again-lawful = accepted again refl

pub shut-lawful : Lawful shut
shut-lawful = accepted shut refl

pub visit_and_cast-lawful : Lawful visit_and_cast
visit_and_cast-lawful = accepted visit_and_cast refl

pub scarce-lawful : Lawful scarce
scarce-lawful = accepted scarce refl

-- ---- Homes and hops

pub wrong_home-verdict : verdict wrong_home ≡ Some (1, 29)
wrong_home-verdict = refl

pub wrong_home-unlawful : ¬ Lawful wrong_home
wrong_home-unlawful = refused wrong_home (1, 29) wrong_home-verdict

pub hop_without_order-verdict : verdict hop_without_order ≡ Some (1, 16)
hop_without_order-verdict = refl

pub hop_without_order-unlawful : ¬ Lawful hop_without_order
hop_without_order-unlawful = refused hop_without_order (1, 16) hop_without_order-verdict

pub hop_elsewhere-verdict : verdict hop_elsewhere ≡ Some (1, 16)
hop_elsewhere-verdict = refl

pub hop_elsewhere-unlawful : ¬ Lawful hop_elsewhere
hop_elsewhere-unlawful = refused hop_elsewhere (1, 16) hop_elsewhere-verdict

pub hops_of_one_round-verdict : verdict hops_of_one_round ≡ Some (1, 17)
hops_of_one_round-verdict = refl

pub hops_of_one_round-unlawful : ¬ Lawful hops_of_one_round
hops_of_one_round-unlawful = refused hops_of_one_round (1, 17) hops_of_one_round-verdict

-- ---- Numbers

pub swapped_lines-verdict : verdict swapped_lines ≡ Some (2, 19)
swapped_lines-verdict = refl

pub swapped_lines-unlawful : ¬ Lawful swapped_lines
swapped_lines-unlawful = refused swapped_lines (2, 19) swapped_lines-verdict

pub repeated_number-verdict : verdict repeated_number ≡ Some (2, 20)
repeated_number-verdict = refl

pub repeated_number-unlawful : ¬ Lawful repeated_number
repeated_number-unlawful = refused repeated_number (2, 20) repeated_number-verdict

-- ---- Answers

pub put_too_early-verdict : verdict put_too_early ≡ Some (3, 25)
put_too_early-verdict = refl

pub put_too_early-unlawful : ¬ Lawful put_too_early
put_too_early-unlawful = refused put_too_early (3, 25) put_too_early-verdict

pub falling_at-verdict : verdict falling_at ≡ Some (3, 25)
falling_at-verdict = refl

pub falling_at-unlawful : ¬ Lawful falling_at
falling_at-unlawful = refused falling_at (3, 25) falling_at-verdict

pub at_past_the_end-verdict : verdict at_past_the_end ≡ Some (3, 26)
at_past_the_end-verdict = refl

pub at_past_the_end-unlawful : ¬ Lawful at_past_the_end
at_past_the_end-unlawful = refused at_past_the_end (3, 26) at_past_the_end-verdict

pub no_channel_held-verdict : verdict no_channel_held ≡ Some (3, 24)
no_channel_held-verdict = refl

pub no_channel_held-unlawful : ¬ Lawful no_channel_held
no_channel_held-unlawful = refused no_channel_held (3, 24) no_channel_held-verdict

pub counted_last-verdict : verdict counted_last ≡ Some (3, 25)
counted_last-verdict = refl

pub counted_last-unlawful : ¬ Lawful counted_last
counted_last-unlawful = refused counted_last (3, 25) counted_last-verdict

pub never_closed-verdict : verdict never_closed ≡ Some (3, 18)
never_closed-verdict = refl

pub never_closed-unlawful : ¬ Lawful never_closed
never_closed-unlawful = refused never_closed (3, 18) never_closed-verdict

pub done_unrun-verdict : verdict done_unrun ≡ Some (3, 16)
done_unrun-verdict = refl

pub done_unrun-unlawful : ¬ Lawful done_unrun
done_unrun-unlawful = refused done_unrun (3, 16) done_unrun-verdict

pub again_of_another-verdict : verdict again_of_another ≡ Some (3, 24)
again_of_another-verdict = refl

pub again_of_another-unlawful : ¬ Lawful again_of_another
again_of_another-unlawful = refused again_of_another (3, 24) again_of_another-verdict

pub over_depth-verdict : verdict over_depth ≡ Some (3, 24)
over_depth-verdict = refl

pub over_depth-unlawful : ¬ Lawful over_depth
over_depth-unlawful = refused over_depth (3, 24) over_depth-verdict

pub close_during_visit-verdict : verdict close_during_visit ≡ Some (3, 32)
close_during_visit-verdict = refl

pub close_during_visit-unlawful : ¬ Lawful close_during_visit
close_during_visit-unlawful = refused close_during_visit (3, 32) close_during_visit-verdict

-- ---- Ran is sent

pub swapped_replies-verdict : verdict swapped_replies ≡ Some (4, 19)
swapped_replies-verdict = refl

pub swapped_replies-unlawful : ¬ Lawful swapped_replies
swapped_replies-unlawful = refused swapped_replies (4, 19) swapped_replies-verdict

pub reply_not_sent-verdict : verdict reply_not_sent ≡ Some (4, 20)
reply_not_sent-verdict = refl

pub reply_not_sent-unlawful : ¬ Lawful reply_not_sent
reply_not_sent-unlawful = refused reply_not_sent (4, 20) reply_not_sent-verdict

pub lost_stop-verdict : verdict lost_stop ≡ Some (4, 29)
lost_stop-verdict = refl

pub lost_stop-unlawful : ¬ Lawful lost_stop
lost_stop-unlawful = refused lost_stop (4, 29) lost_stop-verdict

pub made_up-verdict : verdict made_up ≡ Some (4, 33)
made_up-verdict = refl

pub made_up-unlawful : ¬ Lawful made_up
made_up-unlawful = refused made_up (4, 33) made_up-verdict

pub token_twice-verdict : verdict token_twice ≡ Some (4, 25)
token_twice-verdict = refl

pub token_twice-unlawful : ¬ Lawful token_twice
token_twice-unlawful = refused token_twice (4, 25) token_twice-verdict

-- ---- Replies

pub wrong_byte-verdict : verdict wrong_byte ≡ Some (5, 28)
wrong_byte-verdict = refl

pub wrong_byte-unlawful : ¬ Lawful wrong_byte
wrong_byte-unlawful = refused wrong_byte (5, 28) wrong_byte-verdict

pub lacking_reply-verdict : verdict lacking_reply ≡ Some (5, 18)
lacking_reply-verdict = refl

pub lacking_reply-unlawful : ¬ Lawful lacking_reply
lacking_reply-unlawful = refused lacking_reply (5, 18) lacking_reply-verdict

pub reply_listed_twice-verdict : verdict reply_listed_twice ≡ Some (5, 29)
reply_listed_twice-verdict = refl

pub reply_listed_twice-unlawful : ¬ Lawful reply_listed_twice
reply_listed_twice-unlawful = refused reply_listed_twice (5, 29) reply_listed_twice-verdict

pub reply_out_of_order-verdict : verdict reply_out_of_order ≡ Some (5, 27)
reply_out_of_order-verdict = refl

pub reply_out_of_order-unlawful : ¬ Lawful reply_out_of_order
reply_out_of_order-unlawful = refused reply_out_of_order (5, 27) reply_out_of_order-verdict

-- ---- Devices

pub wrong_count-verdict : verdict wrong_count ≡ Some (6, 33)
wrong_count-verdict = refl

pub wrong_count-unlawful : ¬ Lawful wrong_count
wrong_count-unlawful = refused wrong_count (6, 33) wrong_count-verdict

pub called_twice-verdict : verdict called_twice ≡ Some (6, 34)
called_twice-verdict = refl

pub called_twice-unlawful : ¬ Lawful called_twice
called_twice-unlawful = refused called_twice (6, 34) called_twice-verdict

pub ordinal_twice-verdict : verdict ordinal_twice ≡ Some (6, 50)
ordinal_twice-verdict = refl

pub ordinal_twice-unlawful : ¬ Lawful ordinal_twice
ordinal_twice-unlawful = refused ordinal_twice (6, 50) ordinal_twice-verdict

pub began_twice-verdict : verdict began_twice ≡ Some (6, 38)
began_twice-verdict = refl

pub began_twice-unlawful : ¬ Lawful began_twice
began_twice-unlawful = refused began_twice (6, 38) began_twice-verdict

pub shut_before_app-verdict : verdict shut_before_app ≡ Some (6, 38)
shut_before_app-verdict = refl

pub shut_before_app-unlawful : ¬ Lawful shut_before_app
shut_before_app-unlawful = refused shut_before_app (6, 38) shut_before_app-verdict

pub no_callback-verdict : verdict no_callback ≡ Some (6, 33)
no_callback-verdict = refl

pub no_callback-unlawful : ¬ Lawful no_callback
no_callback-unlawful = refused no_callback (6, 33) no_callback-verdict

-- ---- Visits seen

pub wrong_mark-verdict : verdict wrong_mark ≡ Some (7, 33)
wrong_mark-verdict = refl

pub wrong_mark-unlawful : ¬ Lawful wrong_mark
wrong_mark-unlawful = refused wrong_mark (7, 33) wrong_mark-verdict

pub mark_without_channel-verdict : verdict mark_without_channel ≡ Some (7, 33)
mark_without_channel-verdict = refl

pub mark_without_channel-unlawful : ¬ Lawful mark_without_channel
mark_without_channel-unlawful = refused mark_without_channel (7, 33) mark_without_channel-verdict

pub lacking_cast-verdict : verdict lacking_cast ≡ Some (7, 40)
lacking_cast-verdict = refl

pub lacking_cast-unlawful : ¬ Lawful lacking_cast
lacking_cast-unlawful = refused lacking_cast (7, 40) lacking_cast-verdict

pub unseen-verdict : verdict unseen ≡ Some (7, 34)
unseen-verdict = refl

pub unseen-unlawful : ¬ Lawful unseen
unseen-unlawful = refused unseen (7, 34) unseen-verdict

-- ---- Rounds and orders

pub order_not_planned-verdict : verdict order_not_planned ≡ Some (8, 28)
order_not_planned-verdict = refl

pub order_not_planned-unlawful : ¬ Lawful order_not_planned
order_not_planned-unlawful = refused order_not_planned (8, 28) order_not_planned-verdict

pub lacking_order-verdict : verdict lacking_order ≡ Some (8, 26)
lacking_order-verdict = refl

pub lacking_order-unlawful : ¬ Lawful lacking_order
lacking_order-unlawful = refused lacking_order (8, 26) lacking_order-verdict

pub overdue-verdict : verdict overdue ≡ Some (8, 28)
overdue-verdict = refl

pub overdue-unlawful : ¬ Lawful overdue
overdue-unlawful = refused overdue (8, 28) overdue-verdict

pub too_soon-verdict : verdict too_soon ≡ Some (8, 23)
too_soon-verdict = refl

pub too_soon-unlawful : ¬ Lawful too_soon
too_soon-unlawful = refused too_soon (8, 23) too_soon-verdict

pub clock_back-verdict : verdict clock_back ≡ Some (8, 22)
clock_back-verdict = refl

pub clock_back-unlawful : ¬ Lawful clock_back
clock_back-unlawful = refused clock_back (8, 22) clock_back-verdict

pub rows_descend-verdict : verdict rows_descend ≡ Some (8, 25)
rows_descend-verdict = refl

pub rows_descend-unlawful : ¬ Lawful rows_descend
rows_descend-unlawful = refused rows_descend (8, 25) rows_descend-verdict

-- ---- Buffers home

pub lost_buffer-verdict : verdict lost_buffer ≡ Some (9, 34)
lost_buffer-verdict = refl

pub lost_buffer-unlawful : ¬ Lawful lost_buffer
lost_buffer-unlawful = refused lost_buffer (9, 34) lost_buffer-verdict
