-- The definition of a walk at a worked text, by computation.
use Rattle.std.specs.Prelude.{◌≡◌, ℕ, List, [], codes, length, nat_lt, if◌then◌else◌, Some, None, refl}
use Rattle.std.proofs.Common.{ap}
use Rattle.std.specs.Fmt.{digits}
use Rattle.lw_base.specs.TextLines.{pieces}
use Rattle.lw_walk.specs.WalkForm.{bad_line}
use Rattle.lw_walk.specs.Walk.{walk_answer, walk_bad_line}

abbrev text : List ℕ
text = codes "world 2 2 1\ngive 0 0\nshut 1 0\ngive 1 0\nfire 1 0\ndestroy 0 0\nfire 1 0\nsend 0 1\nend 1\nrun 1 0\nleave 1 0\nrun 1 0\narrive 1\nend 1\nsend 0 1\nsleep 1\n"

abbrev answer : List ℕ
answer = codes "1 ok\n2 ok\n3 refused 7\n4 refused 11\n5 ok\n6 ok\n7 ok\n8 refused 5\n9 ok\n10 ok\n11 refused 3\n12 ok\n13 ok\n14 refused 2\n15 ok\nthread 0 list 0\nthread 1 ended\npair 0 1 1 1\ndevice 0 fired 0\nreactor 0 awake\nreactor 1 asleep\n"

worked_is_walk : walk_bad_line text ≡ None
worked_is_walk = refl

worked_answer : walk_answer text ≡ answer
unfolding digits
worked_answer = refl

no_line : walk_bad_line [] ≡ Some 1
no_line = refl

leading_zero : walk_bad_line (codes "world 1 1 0\nend 00\n") ≡ Some 2
leading_zero = refl

no_last_feed : walk_bad_line (codes "world 1 1 0\nend 0") ≡ Some 2
no_last_feed = refl

one_byte_too_many : (bytes : List ℕ) → length bytes ≡ 16777217 → walk_bad_line bytes ≡ Some 0
one_byte_too_many bytes long = ap (λ n. if nat_lt 16777216 n then Some 0 else bad_line (pieces bytes)) long

-- 73 events by their answers, 0 for one that isn't refused
abbrev events : List ℕ
events = codes "world 3 2 2\nsend 0 3\nrun 3 0\nleave 0 2\narrive 3\nend 3\ngive 0 2\ndestroy 0 2\nshut 3 0\nfire 0 2\nvisit 3 0\nunvisit 0 2\nsleep 2\nwake 2\nrun 0 1\narrive 0\nunvisit 0 0\ndestroy 0 0\nfire 0 0\nsleep 0\nwake 0\ngive 0 0\ngive 0 0\nvisit 0 0\nvisit 0 0\nend 0\nsend 1 0\nend 0\nshut 2 0\nshut 0 0\ngive 1 0\nvisit 1 0\nfire 0 0\nfire 2 0\ndestroy 0 0\nfire 2 0\nrun 0 1\nend 0\nunvisit 0 0\nend 2\nfire 2 0\nfire 2 0\nleave 0 1\nleave 0 1\nsend 0 1\nsend 1 0\nrun 0 1\nend 0\ngive 0 1\ndestroy 0 1\nshut 0 1\nfire 0 1\nvisit 0 1\nunvisit 0 1\nsleep 1\nleave 1 0\nsleep 1\nsleep 1\narrive 0\nwake 1\narrive 0\nrun 0 1\nend 0\nend 0\nsend 2 0\nleave 0 0\narrive 0\ngive 0 1\ndestroy 0 1\nshut 0 1\nfire 0 1\nvisit 0 1\nunvisit 0 1\nrun 0 1\n"

events_are_a_walk : walk_bad_line events ≡ None
events_are_a_walk = refl
