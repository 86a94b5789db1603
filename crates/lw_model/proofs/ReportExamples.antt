-- The records of three runs and their texts, line for line.
use Rattle.std.proofs.Common.{◌≡◌, refl, ℕ, List, [], ◌∷◌, codes}
use Rattle.std.specs.Fmt.{digits}
use Rattle.hex.specs.Hex.{encode_with}
use Rattle.lw_model.specs.ReportText.{lines_of, text_of}
use Rattle.lw_model.proofs.Records.{without_ops, four_ops, moved}

abbrev without_ops_lines : List (List ℕ)
without_ops_lines =
    (codes "lightrun report 1"
    ∷ codes "scheduler static"
    ∷ codes "reactors 1"
    ∷ codes "period 1000000"
    ∷ codes "pool 1 1"
    ∷ codes "images 1"
    ∷ codes "image m 16 1"
    ∷ codes "clients 1"
    ∷ codes "client a 1 0"
    ∷ codes "thread 0 app 0"
    ∷ codes "ran 1 0 done"
    ∷ codes "did 1 0 began 0"
    ∷ codes "called 1 0"
    ∷ codes "thread 1 client 0"
    ∷ codes "did 0 0 closed"
    ∷ codes "thread 2 owner 0"
    ∷ codes "ran 0 0 stop"
    ∷ codes "device 0 0 0 1"
    ∷ codes "home 1 1"
    ∷ codes "end"
    ∷ [])

pub lines_of_without_ops : lines_of without_ops ≡ without_ops_lines
unfolding digits encode_with
lines_of_without_ops = refl

pub text_of_without_ops : text_of without_ops ≡ codes "lightrun report 1\nscheduler static\nreactors 1\nperiod 1000000\npool 1 1\nimages 1\nimage m 16 1\nclients 1\nclient a 1 0\nthread 0 app 0\nran 1 0 done\ndid 1 0 began 0\ncalled 1 0\nthread 1 client 0\ndid 0 0 closed\nthread 2 owner 0\nran 0 0 stop\ndevice 0 0 0 1\nhome 1 1\nend\n"
unfolding digits encode_with
text_of_without_ops = refl

abbrev four_ops_lines : List (List ℕ)
four_ops_lines =
    (codes "lightrun report 1"
    ∷ codes "scheduler static"
    ∷ codes "reactors 1"
    ∷ codes "period 1000000"
    ∷ codes "pool 4 1"
    ∷ codes "images 1"
    ∷ codes "image m 16 4"
    ∷ codes "clients 1"
    ∷ codes "client a 4 4"
    ∷ codes "op get 0"
    ∷ codes "op write 0 0 1 ab"
    ∷ codes "op read 0 0 1"
    ∷ codes "op put 0"
    ∷ codes "thread 0 app 0"
    ∷ codes "ran 1 0 done"
    ∷ codes "did 1 0 began 1"
    ∷ codes "called 1 0"
    ∷ codes "thread 1 client 0"
    ∷ codes "ran 2 0 reply 1"
    ∷ codes "ran 2 1 reply 2"
    ∷ codes "ran 1 0 putself 0"
    ∷ codes "did 0 0 given 0"
    ∷ codes "did 0 1 sent"
    ∷ codes "did 0 2 sent"
    ∷ codes "did 2 3 deferred"
    ∷ codes "did 2 4 closed"
    ∷ codes "reply 1 ok"
    ∷ codes "reply 2 bytes abababababababababababababababab"
    ∷ codes "thread 2 owner 0"
    ∷ codes "ran 1 0 request 1"
    ∷ codes "ran 1 1 request 2"
    ∷ codes "ran 0 0 stop"
    ∷ codes "device 0 1 0 1"
    ∷ codes "home 4 1"
    ∷ codes "end"
    ∷ [])

pub lines_of_four_ops : lines_of four_ops ≡ four_ops_lines
unfolding digits encode_with
lines_of_four_ops = refl

pub text_of_four_ops : text_of four_ops ≡ codes "lightrun report 1\nscheduler static\nreactors 1\nperiod 1000000\npool 4 1\nimages 1\nimage m 16 4\nclients 1\nclient a 4 4\nop get 0\nop write 0 0 1 ab\nop read 0 0 1\nop put 0\nthread 0 app 0\nran 1 0 done\ndid 1 0 began 1\ncalled 1 0\nthread 1 client 0\nran 2 0 reply 1\nran 2 1 reply 2\nran 1 0 putself 0\ndid 0 0 given 0\ndid 0 1 sent\ndid 0 2 sent\ndid 2 3 deferred\ndid 2 4 closed\nreply 1 ok\nreply 2 bytes abababababababababababababababab\nthread 2 owner 0\nran 1 0 request 1\nran 1 1 request 2\nran 0 0 stop\ndevice 0 1 0 1\nhome 4 1\nend\n"
unfolding digits encode_with
text_of_four_ops = refl

abbrev moved_lines : List (List ℕ)
moved_lines =
    (codes "lightrun report 1"
    ∷ codes "scheduler dynamic"
    ∷ codes "reactors 2"
    ∷ codes "period 10"
    ∷ codes "pool 1 1"
    ∷ codes "images 1"
    ∷ codes "image m 16 1"
    ∷ codes "clients 1"
    ∷ codes "client a 1 1"
    ∷ codes "op wait 5"
    ∷ codes "thread 0 app 0"
    ∷ codes "ran 1 0 done"
    ∷ codes "did 1 0 began 0"
    ∷ codes "called 1 0"
    ∷ codes "thread 1 client 1"
    ∷ codes "hop 1 0"
    ∷ codes "did 0 0 waited"
    ∷ codes "did 0 1 closed"
    ∷ codes "thread 2 owner 0"
    ∷ codes "ran 0 0 stop"
    ∷ codes "device 0 0 0 1"
    ∷ codes "clock 0 10"
    ∷ codes "round 1 10"
    ∷ codes "row 0 0 0 0"
    ∷ codes "row 1 1 0 0"
    ∷ codes "row 2 0 0 0"
    ∷ codes "order 1 0"
    ∷ codes "home 1 1"
    ∷ codes "end"
    ∷ [])

pub lines_of_moved : lines_of moved ≡ moved_lines
unfolding digits encode_with
lines_of_moved = refl

pub text_of_moved : text_of moved ≡ codes "lightrun report 1\nscheduler dynamic\nreactors 2\nperiod 10\npool 1 1\nimages 1\nimage m 16 1\nclients 1\nclient a 1 1\nop wait 5\nthread 0 app 0\nran 1 0 done\ndid 1 0 began 0\ncalled 1 0\nthread 1 client 1\nhop 1 0\ndid 0 0 waited\ndid 0 1 closed\nthread 2 owner 0\nran 0 0 stop\ndevice 0 0 0 1\nclock 0 10\nround 1 10\nrow 0 0 0 0\nrow 1 1 0 0\nrow 2 0 0 0\norder 1 0\nhome 1 1\nend\n"
unfolding digits encode_with
text_of_moved = refl
