-- Each line that is written is read back.
use Rattle.std.proofs.Common.{◌≡◌, ℕ, nat_lt, true, false, List, [], ◌∷◌, ◌++◌, codes, flat_map, append_assoc, decimal, Some, option_map, refl, ap, ◌∙◌}
use Rattle.std.proofs.lemmas.Bool.{eq-eqb}
use Rattle.lw_base.specs.declared.message.Tag.{Tag}
use Rattle.lw_base.specs.declared.message.What.{What}
use Rattle.lw_base.specs.declared.message.What.TheVariants as what
use Rattle.lw_base.specs.declared.moves.Hop.{Hop}
use Rattle.lw_model.specs.declared.record.Did.{Did}
use Rattle.lw_model.specs.declared.record.Answer.{Answer}
use Rattle.lw_model.specs.declared.record.Answer.TheVariants as answer
use Rattle.lw_model.specs.declared.record.Called.{Called}
use Rattle.lw_model.specs.declared.record.RoleKind.{RoleKind}
use Rattle.lw_model.specs.declared.record.RoleKind.TheVariants.{App, Client, Owner}
use Rattle.lw_base.specs.declared.ends.DeviceEnd.{DeviceEnd}
use Rattle.lw_base.specs.declared.ends.Home.{Home}
use Rattle.lw_model.specs.ScriptRules.{is_within}
use Rattle.lw_model.specs.Printable.{has_a_line}
use Rattle.lw_model.specs.ReportText.{line, hop_line, what_words, ran_line, answer_words, did_line, called_line, role_word, device_line}
use Rattle.lw_model.specs.Ranges.{WhatFits, TagFits, HopFits, AnswerFits, DidFits, CalledFits, DeviceFits, Fits32, Fits64}
use Rattle.lw_report_lines.specs.LineKinds.{hop_in, visit_in, cast_in, what_in, ran_in, answer_in, did_in, called_in, thread_in, device_in, number_in, pair_in}
use Rattle.lw_report_lines.proofs.PartsBack.{after_back, tail_of, back32, back64, last32_back, last64_back}
use Rattle.lw_model.proofs.JoinedWords.{join-cons}

-- a line is its first word and what stands behind it
pub line_tail : (w : List ℕ) (ws : List (List ℕ)) → line (w ∷ ws) ++ 10 ∷ [] ≡ w ++ tail_of ws
line_tail w ws = ap (λ q. q ++ 10 ∷ []) (join-cons w ws) ∙ append_assoc w (flat_map (λ w. 32 ∷ w) ws) (10 ∷ [])

-- ---- messages

visit_back : (o k d : ℕ) → Fits32 o → Fits32 k → Fits32 d → visit_in (tail_of (decimal o ∷ decimal k ∷ decimal d ∷ [])) ≡ Some (what.Visit o k d)
visit_back o k d a b c = rw (back32 o (decimal k ∷ decimal d ∷ []) a, back32 k (decimal d ∷ []) b, back32 d [] c) refl

cast_back : (o k : ℕ) → Fits32 o → Fits32 k → cast_in (tail_of (decimal o ∷ decimal k ∷ [])) ≡ Some (what.Cast o k)
cast_back o k a b = rw (back32 o (decimal k ∷ []) a, back32 k [] b) refl

what_back : (w : What) → WhatFits w → has_a_line w ≡ true → what_in (tail_of (what_words w)) ≡ Some w
what_back (what.Request k) fit has = ap (option_map what.Request) (last32_back k fit)
what_back (what.Reply k) fit has = ap (option_map what.Reply) (last32_back k fit)
what_back (what.PutSelf d) fit has = ap (option_map what.PutSelf) (last32_back d fit)
what_back (what.Visit o k d) fit has = visit_back o k d fit.0 fit.1 fit.2
what_back (what.Visited k) fit has = ap (option_map what.Visited) (last32_back k fit)
what_back (what.Cast o k) fit has = cast_back o k fit.0 fit.1
what_back (what.Casted k) fit has = ap (option_map what.Casted) (last32_back k fit)
what_back what.Done fit has = refl
what_back what.Stop fit has = refl
what_back (what.Arrive n t) fit has = let wrong : false ≡ true = has in cc
what_back (what.Order n t c) fit has = let wrong : false ≡ true = has in cc

pub ran_back : (m : Tag) → TagFits m → has_a_line m.what ≡ true → ran_in (ran_line m ++ 10 ∷ []) ≡ Some m
ran_back m fit has =
    ap ran_in (line_tail (codes "ran") (decimal m.sender ∷ decimal m.number ∷ what_words m.what))
    ∙ rw (back32 m.sender (decimal m.number ∷ what_words m.what) fit.0, back64 m.number (what_words m.what) fit.1, what_back m.what fit.2 has) refl

-- ---- answers

answer_back : (x : Answer) → AnswerFits x → answer_in (tail_of (answer_words x)) ≡ Some x
answer_back (answer.Given n) fit = ap (option_map answer.Given) (last64_back n fit)
answer_back (answer.Again n) fit = ap (option_map answer.Again) (last64_back n fit)
answer_back answer.Shut fit = refl
answer_back answer.Counted fit = refl
answer_back answer.Deferred fit = refl
answer_back answer.NoChannel fit = refl
answer_back answer.Sent fit = refl
answer_back answer.Waited fit = refl
answer_back answer.Started fit = refl
answer_back (answer.Began n) fit = ap (option_map answer.Began) (last64_back n fit)
answer_back answer.Already fit = refl
answer_back answer.Closed fit = refl

pub did_back : (x : Did) → DidFits x → did_in (did_line x ++ 10 ∷ []) ≡ Some x
did_back x fit =
    ap did_in (line_tail (codes "did") (decimal x.at ∷ decimal x.op ∷ answer_words x.answer))
    ∙ rw (back64 x.at (decimal x.op ∷ answer_words x.answer) fit.0, back32 x.op (answer_words x.answer) fit.1, answer_back x.answer fit.2) refl

-- ---- hops, callbacks, threads, devices

pub hop_back : (h : Hop) → HopFits h → hop_in (hop_line h ++ 10 ∷ []) ≡ Some h
hop_back h fit =
    ap hop_in (line_tail (codes "hop") (decimal h.round ∷ decimal h.reactor ∷ []))
    ∙ rw (back32 h.round (decimal h.reactor ∷ []) fit.0, back32 h.reactor [] fit.1) refl

pub called_back : (images : ℕ) (x : Called) → CalledFits x → nat_lt x.device images ≡ true → called_in images (called_line x ++ 10 ∷ []) ≡ Some x
called_back images x fit below =
    ap (called_in images) (line_tail (codes "called") (decimal x.at ∷ decimal x.device ∷ []))
    ∙ rw (back64 x.at (decimal x.device ∷ []) fit.0, last32_back x.device fit.1, below) refl

pub thread_back : (role : RoleKind) (n home : ℕ) → Fits64 n → Fits32 home → thread_in role n (line (codes "thread" ∷ decimal n ∷ role_word role ∷ decimal home ∷ []) ++ 10 ∷ []) ≡ Some home
thread_back App n home a b =
    ap (thread_in App n) (line_tail (codes "thread") (decimal n ∷ codes "app" ∷ decimal home ∷ []))
    ∙ rw (back64 n (codes "app" ∷ decimal home ∷ []) a, last32_back home b, eq-eqb n n refl) refl
thread_back Client n home a b =
    ap (thread_in Client n) (line_tail (codes "thread") (decimal n ∷ codes "client" ∷ decimal home ∷ []))
    ∙ rw (back64 n (codes "client" ∷ decimal home ∷ []) a, last32_back home b, eq-eqb n n refl) refl
thread_back Owner n home a b =
    ap (thread_in Owner n) (line_tail (codes "thread") (decimal n ∷ codes "owner" ∷ decimal home ∷ []))
    ∙ rw (back64 n (codes "owner" ∷ decimal home ∷ []) a, last32_back home b, eq-eqb n n refl) refl

pub device_back : (n : ℕ) (x : DeviceEnd) → Fits64 n → DeviceFits x → device_in n (device_line n x ++ 10 ∷ []) ≡ Some x
device_back n x a fit =
    ap (device_in n) (line_tail (codes "device") (decimal n ∷ decimal x.given ∷ decimal x.thread ∷ decimal x.callbacks ∷ []))
    ∙ rw (back64 n (decimal x.given ∷ decimal x.thread ∷ decimal x.callbacks ∷ []) a, back64 x.given (decimal x.thread ∷ decimal x.callbacks ∷ []) fit.0, back32 x.thread (decimal x.callbacks ∷ []) fit.1, last32_back x.callbacks fit.2, eq-eqb n n refl) refl

-- ---- lines that stand once

pub counted_back : (w : List ℕ) (least most n : ℕ) → Fits64 n → is_within least most n ≡ true → number_in w least most (line (w ∷ decimal n ∷ []) ++ 10 ∷ []) ≡ Some n
counted_back w least most n a within =
    ap (number_in w least most) (line_tail w (decimal n ∷ [])) ∙ rw (after_back w (tail_of (decimal n ∷ [])), last64_back n a, within) refl

pub pair_back : (w : List ℕ) (x : Home) → Fits32 x.small → Fits32 x.large → pair_in w (line (w ∷ decimal x.small ∷ decimal x.large ∷ []) ++ 10 ∷ []) ≡ Some x
pair_back w x a b =
    ap (pair_in w) (line_tail w (decimal x.small ∷ decimal x.large ∷ []))
    ∙ rw (after_back w (tail_of (decimal x.small ∷ decimal x.large ∷ [])), back32 x.small (decimal x.large ∷ []) a, last32_back x.large b) refl
