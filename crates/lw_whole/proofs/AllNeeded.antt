-- Each premise of a whole run is needed.
use Rattle.lw_whole.proofs.Premises.{Premise}
use Rattle.lw_whole.proofs.Premises as the
use Rattle.lw_whole.proofs.Needed.{IsNeeded}
use Rattle.lw_whole.proofs.BrokenSends.{threads-needed, tags-needed, last-needed, run_is_sent-needed, numbered-needed, did_ats-needed, called_ats-needed, client_count-needed, app_lines-needed, owner_lines-needed, client_lines-needed}
use Rattle.lw_whole.proofs.BrokenMessages.{replies-needed, answers-needed, seen-needed}
use Rattle.lw_whole.proofs.BrokenRows.{with_row-needed, devices-needed, ordinals-needed, found-needed, begun-needed, began_by-needed, fired-needed, client_row-needed, owner_row-needed, took_in-needed, knew-needed, app_count-needed, each_once-needed, given-needed, who_began-needed, all_fired-needed, one_callback-needed, stood-needed, callbacks-needed, stays-needed}
use Rattle.lw_whole.proofs.BrokenMoves.{homes-needed, ascend-needed, for_orders-needed, orders_sent-needed, rounds-needed, pool-needed}

-- there are logs that meet all the others, and whose record isn't lawful
pub all_needed : (p : Premise) → IsNeeded p
all_needed the.threads = threads-needed
all_needed the.tags = tags-needed
all_needed the.sends = answers-needed
all_needed the.last = last-needed
all_needed the.with_row = with_row-needed
all_needed the.did_ats = did_ats-needed
all_needed the.called_ats = called_ats-needed
all_needed the.stood = stood-needed
all_needed the.callbacks = callbacks-needed
all_needed the.stays = stays-needed
all_needed the.devices = devices-needed
all_needed the.ordinals = ordinals-needed
all_needed the.found = found-needed
all_needed the.begun = begun-needed
all_needed the.began_by = began_by-needed
all_needed the.fired = fired-needed
all_needed the.client_count = client_count-needed
all_needed the.client_lines = client_lines-needed
all_needed the.replies = replies-needed
all_needed the.seen = seen-needed
all_needed the.client_row = client_row-needed
all_needed the.app_count = app_count-needed
all_needed the.app_lines = app_lines-needed
all_needed the.took_in = took_in-needed
all_needed the.knew = knew-needed
all_needed the.owner_lines = owner_lines-needed
all_needed the.owner_row = owner_row-needed
all_needed the.run_is_sent = run_is_sent-needed
all_needed the.numbered = numbered-needed
all_needed the.each_once = each_once-needed
all_needed the.given = given-needed
all_needed the.who_began = who_began-needed
all_needed the.all_fired = all_fired-needed
all_needed the.one_callback = one_callback-needed
all_needed the.homes = homes-needed
all_needed the.ascend = ascend-needed
all_needed the.for_orders = for_orders-needed
all_needed the.orders_sent = orders_sent-needed
all_needed the.rounds = rounds-needed
all_needed the.pool = pool-needed
