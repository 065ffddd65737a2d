-- What workers leave for one another and report to one another, and the bound that follows (own, after Jefferson, Virtual Time,
-- 1985: global virtual time is the least time of all that waits or is on its way). Events are of any kind that has a time and a
-- receiver.
use Rattle.std.specs.Prelude.{ℕ, suc, ◌≡◌, ◌<◌, ◌≤◌, ◌==◌, ◌||◌, Bool, true, false}
use Rattle.std.specs.Prelude.{IfSome, List, [], ◌∷◌, ◌++◌, Option, None, Some, fold, length, map, min, nat_lt, not, replicate, slice_index_or, slice_set}
use Rattle.std.specs.List.{AllByRecursion, filter, flat_map, list_any, range_with_len, reduce}
use Rattle.std.specs.Option.{IsSomeAnd, option_map, option_map_or, option_to_list}
use Rattle.tw_process.specs.Parts.{Parts}
use Rattle.tw_sim.specs.declared.machine.Signed.{Signed}
use Rattle.tw_sim.specs.Owners.{owner}

-- the worker of router r, of n: by a list that has one for each router, or else in turn. A router past the list has n, which is no worker
abbrev pub worker_for : Option (List ℕ) → ℕ → ℕ → ℕ
worker_for None n r = owner n r
worker_for (Some list) n r = slice_index_or list r n

pub record AnyBoard (E : Type 0) : Type 0 where
  -- the worker of each router; without it routers are dealt out in turn
  pub owners : Option (List ℕ)
  -- what waits for each worker, in the order deposited
  pub mail : List (List (Signed E))
  -- the least time of what each worker told that it has, if it has anything
  pub reports : List (Option ℕ)
  -- nothing that waits or is on its way is before this time
  pub bound : ℕ
  -- nothing at or after this time is handled
  pub stop : ℕ
  -- whether the workers shall take no further turn
  pub halted : Bool

module _ {E : Type 0} where
  -- how many workers there are
  abbrev pub workers : AnyBoard E → ℕ
  workers x = length x.reports

  -- the worker of a router
  abbrev pub who : AnyBoard E → ℕ → ℕ
  who x = worker_for x.owners (workers x)

  -- what waits for worker w
  abbrev pub mail_of : ℕ → AnyBoard E → List (Signed E)
  mail_of w x = slice_index_or x.mail w []

  -- what worker w told last
  abbrev pub report_of : ℕ → AnyBoard E → Option ℕ
  report_of w x = slice_index_or x.reports w None

  -- what waits for any worker
  abbrev pub all_mail : AnyBoard E → List (Signed E)
  all_mail x = flat_map (λ mail. mail) x.mail

  -- nothing is dealt to any worker
  abbrev pub NoneDealt : List (List (Signed E)) → Type 0
  NoneDealt lists = (w : ℕ) → slice_index_or lists w [] ≡ []

  -- whether a list says the worker of router r
  abbrev pub IsListed : ℕ → AnyBoard E → Type 0
  IsListed r x = IsSomeAnd x.owners (λ list. r < length list)

  -- once a list says the worker that each of so many routers has
  abbrev pub listed : ℕ → AnyBoard E → AnyBoard E
  listed routers x = record x { owners = Some (map (who x) (range_with_len 0 routers)) }

  -- once worker w has router r, and reports the bound, since it may have anything of that router
  abbrev pub with_owner : ℕ → ℕ → AnyBoard E → AnyBoard E
  with_owner r w x = record x { owners = option_map (λ list. slice_set list r w) x.owners; reports = slice_set x.reports w (Some x.bound) }

  -- for so many workers, each of which has what is not before the bound
  abbrev pub new_board : ℕ → ℕ → ℕ → AnyBoard E
  new_board workers bound stop = record { owners = None; mail = replicate workers []; reports = replicate workers (Some bound); bound = bound; stop = stop; halted = false }

  -- and with a list of the worker of each router
  abbrev pub opening_owned : List ℕ → ℕ → ℕ → ℕ → AnyBoard E
  opening_owned owners workers bound stop = record (new_board workers bound stop) { owners = Some owners }

module _ {E : Type 0} (parts : Parts E) where
  -- whether a message is for worker w, by the worker of each router
  abbrev pub is_for : (ℕ → ℕ) → ℕ → Signed E → Bool
  is_for who w message = who (parts.dst message.event) == w

  -- those of the messages that are for worker w, in their order
  abbrev pub sent_to : (ℕ → ℕ) → ℕ → List (Signed E) → List (Signed E)
  sent_to who w out = filter (is_for who w) out

  -- the mail of the workers from w on, each followed by what is deposited for it
  abbrev pub followed : (ℕ → ℕ) → ℕ → List (Signed E) → List (List (Signed E)) → List (List (Signed E))
  followed who w out [] = []
  followed who w out (mail ∷ others) = (mail ++ sent_to who w out) ∷ followed who (suc w) out others

  -- the mail of all workers after a deposit
  abbrev pub deposited : List (Signed E) → AnyBoard E → List (List (Signed E))
  deposited out x = followed (who x) 0 out x.mail

  -- what worker w is handed at a visit: all that waits for it, in the order deposited, what it deposits itself included
  abbrev pub handed : ℕ → List (Signed E) → AnyBoard E → List (Signed E)
  handed w out x = mail_of w x ++ sent_to (who x) w out

  -- the times of messages
  abbrev pub message_times : List (Signed E) → List ℕ
  message_times messages = map (λ m. parts.time m.event) messages

  -- the least of a report, if there is one, and of the times of messages
  abbrev pub least_report : Option ℕ → List (Signed E) → Option ℕ
  least_report report messages = reduce min (option_to_list report ++ message_times messages)

  -- the least of all reports, of the times of all mail, and of the stop
  abbrev pub least_bound : List (Option ℕ) → List (List (Signed E)) → ℕ → ℕ
  least_bound reports mail stop = fold min stop (flat_map option_to_list reports ++ message_times (flat_map (λ m. m) mail))

  -- after a visit of worker w, which deposits out, reports what it has and takes its mail
  abbrev pub visited : ℕ → List (Signed E) → Option ℕ → AnyBoard E → AnyBoard E
  visited w out report x =
      let mail = slice_set (deposited out x) w [] in
      let reports = slice_set x.reports w (least_report report (handed w out x)) in
      record x { mail = mail; reports = reports; bound = least_bound reports mail x.stop }

  -- whether a report, or the time of a message to be deposited, is before the bound
  abbrev pub is_early : List (Signed E) → Option ℕ → AnyBoard E → Bool
  is_early out report x = option_map_or (λ time. nat_lt time x.bound) report false || list_any (λ m. nat_lt (parts.time m.event) x.bound) out

  -- whether a message to be deposited is for a router that none of n workers has, and that no worker has
  abbrev pub any_homeless : Option (List ℕ) → ℕ → List (Signed E) → Bool
  any_homeless owners n out = list_any (λ m. not (nat_lt (worker_for owners n (parts.dst m.event)) n)) out

  abbrev pub is_homeless : List (Signed E) → AnyBoard E → Bool
  is_homeless out x = any_homeless x.owners (workers x) out

  -- what is dealt of messages, each of which has a worker: in the list of worker w, of n, those that are for it, in their order
  pub record AreDealt (owners : Option (List ℕ)) (n : ℕ) (out : List (Signed E)) (lists : List (List (Signed E))) : Type 0 where
    pub home : any_homeless owners n out ≡ false
    pub each : (w : ℕ) → slice_index_or lists w [] ≡ sent_to (worker_for owners n) w out

  -- whether a message is for router r, and whether it is for another
  abbrev pub is_to : ℕ → Signed E → Bool
  is_to r message = parts.dst message.event == r

  abbrev pub is_to_another : ℕ → Signed E → Bool
  is_to_another r message = not (is_to r message)

  -- once all mail for router r is taken out
  abbrev pub without_mail : ℕ → AnyBoard E → AnyBoard E
  without_mail r x = record x { mail = map (filter (is_to_another r)) x.mail }

  -- nothing on it is before the bound, and each message waits for the worker that it is for
  pub record IsBoard (x : AnyBoard E) : Type 0 where
    -- there is mail for the workers alone
    pub mails : length x.mail ≡ workers x
    -- each message that waits for a worker is for it
    pub home : (w : ℕ) → AllByRecursion (λ m. is_for (who x) w m ≡ true) (mail_of w x)
    -- none is before the bound
    pub late : (w : ℕ) → AllByRecursion (λ m. x.bound ≤ parts.time m.event) (mail_of w x)
    -- nor is a report
    pub reported : (w : ℕ) → IfSome (report_of w x) (λ time. x.bound ≤ time)
    -- nor is the stop
    pub stop : x.bound ≤ x.stop
