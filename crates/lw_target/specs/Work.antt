-- What a client and the app have still to do, in messages and lines: each thing that they do makes it less.
use Rattle.std.specs.Prelude.{ℕ, ◌+◌, ◌-◌, ◌*◌, length, cond, count_by, vec_len}
use Rattle.lw_target.specs.declared.client.Client.{Client}
use Rattle.lw_target.specs.declared.app.App.{App}

-- three for each op; one for the close, and one for each put that it sends; two for the message to the app
abbrev pub client_work : Client → ℕ
client_work c = 3 * (length c.of.ops - c.next) + cond c.closed 0 (1 + vec_len c.channels) + cond c.done 0 2

-- one for each callback that it owes; one for each that it may come to owe; two for the end, and one for each stop
abbrev pub app_work : App → ℕ
app_work a = count_by (λ b. b) a.owed.items + cond a.began 0 (1 + vec_len a.owed) + cond a.ended 0 (2 + vec_len a.owed)
