-- Where each line of a record's text stands.
use Rattle.std.proofs.Common.{◌≡◌, ℕ, zero, suc, ◌+◌, true, false, List, [], ◌∷◌, ◌++◌, codes, decimal, map, flat_map, length, take, take_all, slice_get, unwrap_or, option_map, Option, Some, None, refl, sym, ap, ap₂, ◌∙◌, arith}
use Rattle.std.specs.Prelude.{sum_by}
use Rattle.std.specs.List.{enumerate_from}
use Rattle.std.proofs.lemmas.List.{length-append, length-map, append_assoc}
use Rattle.std.proofs.lemmas.List.Sums.{sum_by-cons}
use Rattle.lw_model.specs.declared.script.ClientOf.{ClientOf}
use Rattle.lw_model.specs.declared.record.Record.{Record}
use Rattle.lw_base.specs.declared.moves.Scheduler.{Scheduler}
use Rattle.lw_base.specs.declared.moves.Scheduler.TheVariants.{Static, Dynamic}
use Rattle.lw_model.specs.declared.record.ThreadRecord.{ThreadRecord}
use Rattle.lw_base.specs.declared.ends.DeviceEnd.{DeviceEnd}
use Rattle.lw_model.specs.declared.record.Span.{Span}
use Rattle.lw_base.specs.declared.moves.Round.{Round}
use Rattle.lw_model.specs.Threads.{of_thread}
use Rattle.lw_model.specs.Printable.{has_rounds}
use Rattle.lw_model.specs.Lines as number
use Rattle.lw_model.specs.ReportText as text
use Rattle.lw_model.proofs.Printed.{parts}
use Rattle.lw_laws.specs.LinePlaces.{line_at, EachStands, RoundStands, IsNextBehind, LinesStand}
use Rattle.lw_laws.proofs.Joined.{behind, within, mapped, behind_mapped, length-mapped, joined, length-joined, in_joined, unnumbered, sum_more}

-- ---- the lines of a thread, from those of one kind on

abbrev replies_on : ThreadRecord → List (List ℕ)
replies_on x = map text.reply_line x.replies ++ map text.seen_line x.seen

abbrev called_on : ThreadRecord → List (List ℕ)
called_on x = map text.called_line x.called ++ replies_on x

abbrev did_on : ThreadRecord → List (List ℕ)
did_on x = map text.did_line x.did ++ called_on x

abbrev ran_on : ThreadRecord → List (List ℕ)
ran_on x = map text.ran_line x.ran ++ did_on x

none_behind : (n : ℕ) → n ≡ n + 0
none_behind n = omega arith

none_before : (n : ℕ) → 0 + n ≡ n
none_before n = omega arith

-- ---- how many lines the parts have

clients_size : (cs : List ClientOf) → length (flat_map text.client_lines cs) ≡ sum_by (λ c. 1 + length c.ops) cs
clients_size [] = refl
clients_size (c ∷ cs) =
    let joined_size : length (text.client_lines c ++ flat_map text.client_lines cs) ≡ length (text.client_lines c) + length (flat_map text.client_lines cs) = length-append (text.client_lines c) (flat_map text.client_lines cs) in
    let own : length (text.client_lines c) ≡ 1 + length c.ops = ap suc (length-map c.ops text.op_line) ∙ omega arith in
    let rest : length (flat_map text.client_lines cs) ≡ sum_by (λ (x : ClientOf). 1 + length x.ops) cs = clients_size cs in
    let both : sum_by (λ (x : ClientOf). 1 + length x.ops) (c ∷ cs) ≡ 1 + length c.ops + sum_by (λ (x : ClientOf). 1 + length x.ops) cs = sum_by-cons (λ (x : ClientOf). 1 + length x.ops) c cs in
    joined_size ∙ ap₂ (λ m n. m + n) own rest ∙ sym both

as_kinds : (n : ℕ) (x : ThreadRecord) → text.thread_lines n x ≡ text.thread_line n x ∷ (map text.hop_line x.hops ++ ran_on x)
as_kinds n x =
    append_assoc (text.thread_line n x ∷ map text.hop_line x.hops ++ map text.ran_line x.ran ++ map text.did_line x.did ++ map text.called_line x.called) (map text.reply_line x.replies) (map text.seen_line x.seen)
    ∙ append_assoc (text.thread_line n x ∷ map text.hop_line x.hops ++ map text.ran_line x.ran ++ map text.did_line x.did) (map text.called_line x.called) (replies_on x)
    ∙ append_assoc (text.thread_line n x ∷ map text.hop_line x.hops ++ map text.ran_line x.ran) (map text.did_line x.did) (called_on x)
    ∙ append_assoc (text.thread_line n x ∷ map text.hop_line x.hops) (map text.ran_line x.ran) (did_on x)

thread_sized : (n : ℕ) (x : ThreadRecord) → length (text.thread_lines n x) ≡ number.thread_size x
thread_sized n x =
    let e : length (map text.seen_line x.seen) ≡ length x.seen = length-map x.seen text.seen_line in
    let d : length (replies_on x) ≡ length x.replies + length (map text.seen_line x.seen) = length-mapped text.reply_line x.replies (map text.seen_line x.seen) in
    let c : length (called_on x) ≡ length x.called + length (replies_on x) = length-mapped text.called_line x.called (replies_on x) in
    let b : length (did_on x) ≡ length x.did + length (called_on x) = length-mapped text.did_line x.did (called_on x) in
    let a : length (ran_on x) ≡ length x.ran + length (did_on x) = length-mapped text.ran_line x.ran (did_on x) in
    let all : length (map text.hop_line x.hops ++ ran_on x) ≡ length x.hops + length (ran_on x) = length-mapped text.hop_line x.hops (ran_on x) in
    ap length (as_kinds n x) ∙ ap suc (all ∙ ap (λ k. length x.hops + k) (a ∙ ap (λ k. length x.ran + k) (b ∙ ap (λ k. length x.did + k) (c ∙ ap (λ k. length x.called + k) (d ∙ ap (λ k. length x.replies + k) e))))) ∙ omega arith

round_sized : (n : ℕ) (x : Round) → length (text.round_lines x) ≡ number.round_size x
round_sized n x =
    let all : length (map text.row_line x.rows ++ map text.order_line x.orders) ≡ length x.rows + length (map text.order_line x.orders) = length-mapped text.row_line x.rows (map text.order_line x.orders) in
    ap suc (all ∙ ap (λ k. length x.rows + k) (length-map x.orders text.order_line)) ∙ omega arith

device_sized : (n : ℕ) (x : DeviceEnd) → length (text.device_line n x ∷ []) ≡ 1
device_sized n x = refl

to_did : (t : ℕ) (x : ThreadRecord) (i : ℕ) → slice_get (text.thread_lines t x) (suc (length x.hops + length x.ran + i)) ≡ slice_get (did_on x) i
to_did t x i =
    ap (λ l. slice_get l (suc (length x.hops + length x.ran + i))) (as_kinds t x)
    ∙ ap (slice_get (text.thread_line t x ∷ (map text.hop_line x.hops ++ ran_on x))) places
    ∙ behind_mapped text.hop_line x.hops (ran_on x) (length x.ran + i)
    ∙ behind_mapped text.ran_line x.ran (did_on x) i
  where
    places : suc (length x.hops + length x.ran + i) ≡ suc (length x.hops + (length x.ran + i))
    places = omega arith

to_called : (t : ℕ) (x : ThreadRecord) (i : ℕ) → slice_get (text.thread_lines t x) (suc (length x.hops + length x.ran + length x.did + i)) ≡ slice_get (called_on x) i
to_called t x i = ap (slice_get (text.thread_lines t x)) places ∙ to_did t x (length x.did + i) ∙ behind_mapped text.did_line x.did (called_on x) i
  where
    places : suc (length x.hops + length x.ran + length x.did + i) ≡ suc (length x.hops + length x.ran + (length x.did + i))
    places = omega arith

to_replies : (t : ℕ) (x : ThreadRecord) (i : ℕ) → slice_get (text.thread_lines t x) (suc (length x.hops + length x.ran + length x.did + length x.called + i)) ≡ slice_get (replies_on x) i
to_replies t x i = ap (slice_get (text.thread_lines t x)) places ∙ to_called t x (length x.called + i) ∙ behind_mapped text.called_line x.called (replies_on x) i
  where
    places : suc (length x.hops + length x.ran + length x.did + length x.called + i) ≡ suc (length x.hops + length x.ran + length x.did + (length x.called + i))
    places = omega arith

to_seen : (t : ℕ) (x : ThreadRecord) (i : ℕ) → slice_get (text.thread_lines t x) (suc (length x.hops + length x.ran + length x.did + length x.called + length x.replies + i)) ≡ slice_get (map text.seen_line x.seen) i
to_seen t x i = ap (slice_get (text.thread_lines t x)) places ∙ to_replies t x (length x.replies + i) ∙ behind_mapped text.reply_line x.replies (map text.seen_line x.seen) i
  where
    places : suc (length x.hops + length x.ran + length x.did + length x.called + length x.replies + i) ≡ suc (length x.hops + length x.ran + length x.did + length x.called + (length x.replies + i))
    places = omega arith

-- ---- items with their numbers

length-enumerate_from : {X : Type 0} (n : ℕ) (xs : List X) → length (enumerate_from n xs) ≡ length xs
length-enumerate_from n [] = refl
length-enumerate_from n (x ∷ xs) = ap suc (length-enumerate_from (n + 1) xs)

enumerated : {X : Type 0} (n : ℕ) (xs : List X) (k : ℕ) (x : X) → slice_get xs k ≡ Some x → slice_get (enumerate_from n xs) k ≡ Some (n + k, x)
enumerated n [] k x e = let wrong : None ≡ Some x = e in cc
enumerated n (y ∷ xs) zero x e = let same : y ≡ x = cc in let first : n ≡ n + 0 = omega arith in ap₂ (λ m z. Some (m, z)) first same
enumerated n (y ∷ xs) (suc k) x e = let next : n + 1 + k ≡ n + suc k = omega arith in enumerated (n + 1) xs k x e ∙ ap (λ m. Some (m, x)) next

-- ---- what stands behind the script's lines

module _ (r : Record) where
  abbrev home_on : List (List ℕ)
  home_on = text.line (codes "home" ∷ decimal r.home.small ∷ decimal r.home.large ∷ []) ∷ codes "end" ∷ []

  abbrev clock_on : List (List ℕ)
  clock_on = text.clock_lines r.span ++ (flat_map text.round_lines r.rounds ++ home_on)

  abbrev devices_on : List (List ℕ)
  devices_on = map (λ p. text.device_line p.0 p.1) (enumerate_from 0 r.devices) ++ clock_on

  abbrev threads_on : List (List ℕ)
  threads_on = joined text.thread_lines number.thread_size thread_sized 0 r.threads ++ devices_on

  abbrev clients_on : List (List ℕ)
  clients_on = text.line (codes "clients" ∷ text.count_of r.script.clients ∷ []) ∷ (flat_map text.client_lines r.script.clients ++ threads_on)

  abbrev images_on : List (List ℕ)
  images_on = text.line (codes "images" ∷ text.count_of r.script.images ∷ []) ∷ (map text.image_line r.script.images ++ clients_on)

  parted : text.lines_of r ≡ text.head_lines r ++ images_on
  parted =
      append_assoc (front ++ threads ++ devices ++ text.clock_lines r.span) (flat_map text.round_lines r.rounds) home_on
      ∙ append_assoc (front ++ threads ++ devices) (text.clock_lines r.span) (flat_map text.round_lines r.rounds ++ home_on)
      ∙ append_assoc (front ++ threads) devices clock_on
      ∙ append_assoc front threads devices_on
      ∙ append_assoc (text.head_lines r ++ image_part) client_part threads_on
      ∙ append_assoc (text.head_lines r) image_part clients_on
    where
      threads : List (List ℕ)
      threads = flat_map (λ p. text.thread_lines p.0 p.1) (enumerate_from 0 r.threads)

      devices : List (List ℕ)
      devices = map (λ p. text.device_line p.0 p.1) (enumerate_from 0 r.devices)

      image_part : List (List ℕ)
      image_part = text.line (codes "images" ∷ text.count_of r.script.images ∷ []) ∷ map text.image_line r.script.images

      client_part : List (List ℕ)
      client_part = text.line (codes "clients" ∷ text.count_of r.script.clients ∷ []) ∷ flat_map text.client_lines r.script.clients

      front : List (List ℕ)
      front = text.head_lines r ++ image_part ++ client_part

  behind_head : (k : ℕ) → slice_get (text.lines_of r) (number.head_size r.script + k) ≡ slice_get threads_on k
  behind_head k =
      ap (λ l. slice_get l (number.head_size r.script + k)) parted
      ∙ ap (slice_get (text.head_lines r ++ images_on)) places
      ∙ behind_mapped text.image_line r.script.images clients_on (suc (length (flat_map text.client_lines r.script.clients) + k))
      ∙ behind (flat_map text.client_lines r.script.clients) threads_on k
    where
      places : number.head_size r.script + k ≡ suc (suc (suc (suc (suc (suc (length r.script.images + suc (length (flat_map text.client_lines r.script.clients) + k)))))))
      places = omega (arith, clients_size r.script.clients)

  behind_threads : (k : ℕ) → slice_get (text.lines_of r) (number.head_size r.script + sum_by number.thread_size r.threads + k) ≡ slice_get devices_on k
  behind_threads k =
      let size = length-joined text.thread_lines number.thread_size thread_sized 0 r.threads in
      ap (slice_get (text.lines_of r)) (omega (arith, size))
      ∙ behind_head (length (joined text.thread_lines number.thread_size thread_sized 0 r.threads) + k)
      ∙ behind (joined text.thread_lines number.thread_size thread_sized 0 r.threads) devices_on k

  -- a line of a thread, by its place among the thread's lines
  in_thread : (t k : ℕ) (x : ThreadRecord) (l : List ℕ) → slice_get r.threads t ≡ Some x → slice_get (text.thread_lines t x) k ≡ Some l
      → slice_get (text.lines_of r) (number.head_size r.script + (sum_by number.thread_size (take t r.threads) + k)) ≡ Some l
  in_thread t k x l e h =
      behind_head (sum_by number.thread_size (take t r.threads) + k)
      ∙ within (joined text.thread_lines number.thread_size thread_sized 0 r.threads) devices_on (sum_by number.thread_size (take t r.threads) + k) l
      (in_joined text.thread_lines number.thread_size thread_sized 0 r.threads t k x l e (ap (λ n. slice_get (text.thread_lines n x) k) (none_before t) ∙ h))

  -- the same by the line's number
  at_thread : (t n k : ℕ) (x : ThreadRecord) (l : List ℕ) → slice_get r.threads t ≡ Some x → n ≡ number.thread_line r t + k → slice_get (text.thread_lines t x) k ≡ Some l → line_at r n ≡ Some l
  at_thread t n k x l e is h = ap (line_at r) (is ∙ after) ∙ in_thread t k x l e h
    where
      after : number.thread_line r t + k ≡ suc (number.head_size r.script + (sum_by number.thread_size (take t r.threads) + k))
      after = omega arith

  -- a thread that has a line of these is there
  there : {X : Type 0} (list : ThreadRecord → List X) (t i : ℕ) (y : X) → slice_get (of_thread list r t) i ≡ Some y → (x : ThreadRecord) × (slice_get r.threads t ≡ Some x) × (of_thread list r t ≡ list x)
  there list t i y h = at (slice_get r.threads t) refl
    where
      at : (o : Option ThreadRecord) → slice_get r.threads t ≡ o → (x : ThreadRecord) × (slice_get r.threads t ≡ Some x) × (of_thread list r t ≡ list x)
      at (Some x) e = (x, e, ap (λ p. unwrap_or (option_map list p) []) e)
      at None e = let wrong : None ≡ Some y = ap (λ p. slice_get (unwrap_or (option_map list p) []) i) (sym e) ∙ h in cc

  size_there : {X : Type 0} (list : ThreadRecord → List X) (t : ℕ) (x : ThreadRecord) → slice_get r.threads t ≡ Some x → number.size_of list r t ≡ length (list x)
  size_there list t x e = ap (λ p. length (unwrap_or (option_map list p) [])) e

  threads_stand : (t : ℕ) (x : ThreadRecord) → slice_get r.threads t ≡ Some x → line_at r (number.thread_line r t) ≡ Some (text.thread_line t x)
  threads_stand t x e = at_thread t (number.thread_line r t) 0 x (text.thread_line t x) e (omega arith) refl

  -- a line of one kind, by the number of the first of its kind
  kind_stands : {X : Type 0} (list : ThreadRecord → List X) (number_of : Record → ℕ → ℕ → ℕ) (line : X → List ℕ) (before : ThreadRecord → ℕ)
      → ((t i : ℕ) (x : ThreadRecord) → slice_get r.threads t ≡ Some x → number_of r t i ≡ number.thread_line r t + suc (before x + i))
      → ((t i : ℕ) (x : ThreadRecord) (y : X) → slice_get (list x) i ≡ Some y → slice_get (text.thread_lines t x) (suc (before x + i)) ≡ Some (line y))
      → EachStands list number_of line r
  kind_stands list number_of line before numbered stands t i y h =
      let x = there list t i y h in
      let own : slice_get (list x.0) i ≡ Some y = sym (ap (λ l. slice_get l i) x.2) ∙ h in
      at_thread t (number_of r t i) (suc (before x.0 + i)) x.0 (line y) x.1 (numbered t i x.0 x.1) (stands t i x.0 y own)

  hops_stand : EachStands (λ x. x.hops) number.hop_line text.hop_line r
  hops_stand = kind_stands (λ x. x.hops) number.hop_line text.hop_line (λ x. 0) (λ t i x e. omega arith)
      (λ t i x h own. ap (λ l. slice_get l (suc (0 + i))) (as_kinds t x) ∙ ap (slice_get (map text.hop_line x.hops ++ ran_on x)) (none_before i)
      ∙ within (map text.hop_line x.hops) (ran_on x) i (text.hop_line h) (mapped text.hop_line x.hops i h own))

  ran_stand : EachStands (λ x. x.ran) number.ran_line text.ran_line r
  ran_stand = kind_stands (λ x. x.ran) number.ran_line text.ran_line (λ x. length x.hops)
      (λ t i x e. omega (arith, size_there (λ y. y.hops) t x e))
      (λ t i x m own. ap (λ l. slice_get l (suc (length x.hops + i))) (as_kinds t x) ∙ behind_mapped text.hop_line x.hops (ran_on x) i
      ∙ within (map text.ran_line x.ran) (did_on x) i (text.ran_line m) (mapped text.ran_line x.ran i m own))

  did_stand : EachStands (λ x. x.did) number.did_line text.did_line r
  did_stand = kind_stands (λ x. x.did) number.did_line text.did_line (λ x. length x.hops + length x.ran)
      (λ t i x e. omega (arith, size_there (λ y. y.hops) t x e, size_there (λ y. y.ran) t x e))
      (λ t i x d own. to_did t x i ∙ within (map text.did_line x.did) (called_on x) i (text.did_line d) (mapped text.did_line x.did i d own))

  called_stand : EachStands (λ x. x.called) number.called_line text.called_line r
  called_stand = kind_stands (λ x. x.called) number.called_line text.called_line (λ x. length x.hops + length x.ran + length x.did)
      (λ t i x e. omega (arith, size_there (λ y. y.hops) t x e, size_there (λ y. y.ran) t x e, size_there (λ y. y.did) t x e))
      (λ t i x c own. to_called t x i ∙ within (map text.called_line x.called) (replies_on x) i (text.called_line c) (mapped text.called_line x.called i c own))

  replies_stand : EachStands (λ x. x.replies) number.reply_line text.reply_line r
  replies_stand = kind_stands (λ x. x.replies) number.reply_line text.reply_line (λ x. length x.hops + length x.ran + length x.did + length x.called)
      (λ t i x e. omega (arith, size_there (λ y. y.hops) t x e, size_there (λ y. y.ran) t x e, size_there (λ y. y.did) t x e, size_there (λ y. y.called) t x e))
      (λ t i x p own. to_replies t x i ∙ within (map text.reply_line x.replies) (map text.seen_line x.seen) i (text.reply_line p) (mapped text.reply_line x.replies i p own))

  seen_stand : EachStands (λ x. x.seen) number.seen_line text.seen_line r
  seen_stand = kind_stands (λ x. x.seen) number.seen_line text.seen_line (λ x. length x.hops + length x.ran + length x.did + length x.called + length x.replies)
      (λ t i x e. omega (arith, size_there (λ y. y.hops) t x e, size_there (λ y. y.ran) t x e, size_there (λ y. y.did) t x e, size_there (λ y. y.called) t x e, size_there (λ y. y.replies) t x e))
      (λ t i x s own. to_seen t x i ∙ mapped text.seen_line x.seen i s own)

  -- ---- behind the threads

  behind_devices : (k : ℕ) → line_at r (number.device_line r (length r.devices) + k) ≡ slice_get clock_on k
  behind_devices k =
      ap (line_at r) places
      ∙ behind_threads (length (enumerate_from 0 r.devices) + k)
      ∙ behind_mapped (λ p. text.device_line p.0 p.1) (enumerate_from 0 r.devices) clock_on k
    where
      places : number.device_line r (length r.devices) + k ≡ suc (number.head_size r.script + sum_by number.thread_size r.threads + (length (enumerate_from 0 r.devices) + k))
      places = omega (arith, length-enumerate_from 0 r.devices, ap (sum_by number.thread_size) (take_all (length r.threads) r.threads (omega arith)))

  devices_stand : (d : ℕ) (x : DeviceEnd) → slice_get r.devices d ≡ Some x → line_at r (number.device_line r d) ≡ Some (text.device_line d x)
  devices_stand d x e =
      ap (line_at r) places
      ∙ behind_threads d
      ∙ within (map (λ p. text.device_line p.0 p.1) (enumerate_from 0 r.devices)) clock_on d (text.device_line d x)
      (mapped (λ p. text.device_line p.0 p.1) (enumerate_from 0 r.devices) d (d, x) (enumerated 0 r.devices d x e ∙ ap (λ n. Some (n, x)) (none_before d)))
    where
      places : number.device_line r d ≡ suc (number.head_size r.script + sum_by number.thread_size r.threads + d)
      places = omega (arith, ap (sum_by number.thread_size) (take_all (length r.threads) r.threads (omega arith)))

  -- ---- the clock, the rounds and the pool

  clock_stands : (s : Span) → r.span ≡ Some s → line_at r (number.clock_line r) ≡ Some (text.line (codes "clock" ∷ decimal s.first ∷ decimal s.last ∷ []))
  clock_stands s e =
      ap (line_at r) (none_behind (number.clock_line r))
      ∙ behind_devices 0
      ∙ ap (λ span. slice_get (text.clock_lines span ++ (flat_map text.round_lines r.rounds ++ home_on)) 0) e

  behind_clock : (s : Span) → r.span ≡ Some s → (n k : ℕ) → n ≡ number.clock_line r + suc k → line_at r n ≡ slice_get (flat_map text.round_lines r.rounds ++ home_on) k
  behind_clock s e n k is =
      ap (line_at r) is
      ∙ behind_devices (suc k)
      ∙ ap (λ span. slice_get (text.clock_lines span ++ (flat_map text.round_lines r.rounds ++ home_on)) (suc k)) e

  in_round : (s : Span) → r.span ≡ Some s → (j n k : ℕ) (x : Round) (l : List ℕ) → slice_get r.rounds j ≡ Some x → n ≡ number.round_line r j + k → slice_get (text.round_lines x) k ≡ Some l → line_at r n ≡ Some l
  in_round s e j n k x l there is h =
      behind_clock s e n (sum_by number.round_size (take j r.rounds) + k) (is ∙ places)
      ∙ within (flat_map text.round_lines r.rounds) home_on (sum_by number.round_size (take j r.rounds) + k) l
      (ap (λ z. slice_get z (sum_by number.round_size (take j r.rounds) + k)) (sym (unnumbered text.round_lines 0 r.rounds))
      ∙ in_joined (λ m. text.round_lines) number.round_size round_sized 0 r.rounds j k x l there h)
    where
      places : number.round_line r j + k ≡ number.clock_line r + suc (sum_by number.round_size (take j r.rounds) + k)
      places = omega arith

  rounds_stand : (s : Span) → r.span ≡ Some s → (j : ℕ) (x : Round) → slice_get r.rounds j ≡ Some x → RoundStands r (number.round_line r j) x
  rounds_stand s e j x there = record {
    round = in_round s e j (number.round_line r j) 0 x (text.round_line x) there (none_behind (number.round_line r j)) refl;
    rows = λ i w at. in_round s e j (number.round_line r j + 1 + i) (suc i) x (text.row_line w) there (row_place i)
        (within (map text.row_line x.rows) (map text.order_line x.orders) i (text.row_line w) (mapped text.row_line x.rows i w at));
    orders = λ i o at. in_round s e j (number.round_line r j + 1 + length x.rows + i) (suc (length x.rows + i)) x (text.order_line o) there (order_place i)
        (behind_mapped text.row_line x.rows (map text.order_line x.orders) i ∙ mapped text.order_line x.orders i o at);
  }
    where
      row_place : (i : ℕ) → number.round_line r j + 1 + i ≡ number.round_line r j + suc i
      row_place i = omega arith

      order_place : (i : ℕ) → number.round_line r j + 1 + length x.rows + i ≡ number.round_line r j + suc (length x.rows + i)
      order_place i = omega arith

  behind_stands : (s : Span) → r.span ≡ Some s → (j : ℕ) (x : Round) → slice_get r.rounds j ≡ Some x → IsNextBehind r j x
  behind_stands s e j x there = record {
    next = places;
    home = λ last. ap (number.round_line r) last ∙ sym (ap (λ span. elim span as (λ _. ℕ) [ None ↦ number.clock_line r | Some s' ↦ number.round_line r (length r.rounds) ]) e);
  }
    where
      places : number.round_line r j + number.round_size x ≡ number.round_line r (suc j)
      places = omega (arith, sum_more number.round_size r.rounds j x there)

  no_rounds : r.span ≡ None → r.rounds ≡ []
  no_rounds e = at r.scheduler r.rounds (ap (λ span. has_rounds r.scheduler span r.rounds) (sym e) ∙ (parts r).rounds)
    where
      at : (scheduler : Scheduler) (rounds : List Round) → has_rounds scheduler None rounds ≡ true → rounds ≡ []
      at Static [] h = refl
      at Static (x ∷ xs) h = let wrong : false ≡ true = h in cc
      at Dynamic rounds h = let wrong : false ≡ true = h in cc

  abbrev home_words : List ℕ
  home_words = text.line (codes "home" ∷ decimal r.home.small ∷ decimal r.home.large ∷ [])

  home_stands : line_at r (number.home_line r) ≡ Some home_words
  home_stands = at r.span refl
    where
      at : (span : Option Span) → r.span ≡ span → line_at r (number.home_line r) ≡ Some home_words
      at None e =
          ap (line_at r) (ap (λ span. elim span as (λ _. ℕ) [ None ↦ number.clock_line r | Some s ↦ number.round_line r (length r.rounds) ]) e ∙ none_behind (number.clock_line r))
          ∙ behind_devices 0
          ∙ ap₂ (λ span rounds. slice_get (text.clock_lines span ++ (flat_map text.round_lines rounds ++ home_on)) 0) e (no_rounds e)
      at (Some s) e =
          ap (line_at r) (ap (λ span. elim span as (λ _. ℕ) [ None ↦ number.clock_line r | Some s' ↦ number.round_line r (length r.rounds) ]) e)
          ∙ behind_clock s e (number.round_line r (length r.rounds)) (length (flat_map text.round_lines r.rounds) + 0) places
          ∙ behind (flat_map text.round_lines r.rounds) home_on 0
        where
          size : length (flat_map text.round_lines r.rounds) ≡ sum_by number.round_size r.rounds
          size = ap length (sym (unnumbered text.round_lines 0 r.rounds)) ∙ length-joined (λ m. text.round_lines) number.round_size round_sized 0 r.rounds

          all : sum_by number.round_size (take (length r.rounds) r.rounds) ≡ sum_by number.round_size r.rounds
          all = ap (sum_by number.round_size) (take_all (length r.rounds) r.rounds (omega arith))

          places : number.round_line r (length r.rounds) ≡ number.clock_line r + suc (length (flat_map text.round_lines r.rounds) + 0)
          places = omega (arith, size, all)

pub lines_stand : (r : Record) → LinesStand r
lines_stand r = record {
  thread = threads_stand r;
  hops = hops_stand r;
  ran = ran_stand r;
  did = did_stand r;
  called = called_stand r;
  replies = replies_stand r;
  seen = seen_stand r;
  devices = devices_stand r;
  clock = clock_stands r;
  rounds = rounds_stand r;
  behind = behind_stands r;
  home = home_stands r;
}
