-- What workers leave for one another and report to one another, and what a visit does, over any simulation (after Jefferson,
-- Virtual Time, 1985: global virtual time is the least time of all that waits or is on its way).
use Rattle.std.specs.Prelude.{ℕ, ◌+◌, ◌≡◌, ◌<◌, ◌≤◌, true, IfSome, List, ◌++◌, Option, None, fold, length, map, min, slice_index_or, slice_set}
use Rattle.std.specs.List.{flat_map, reduce}
use Rattle.std.specs.Option.{option_to_list}
use Rattle.tw_core.specs.Machine.{antimessages, messages}
use Rattle.tw_sim.specs.declared.machine.Signed.{Signed}
use Rattle.tw_sim.specs.Simulation.{Simulation}

-- what the workers share
pub record Board (E : Type 0) : Type 0 where
  -- the messages that wait for a worker; their order does not count
  pub mail : List (Signed E)
  -- the least time of what each worker told that it has, if it has anything
  pub reports : List (Option ℕ)
  -- nothing that waits or is on its way is before this time
  pub bound : ℕ
  -- nothing at or after this time is handled
  pub stop : ℕ

module _ {E : Type 0} where
  -- how many workers there are
  abbrev pub workers : Board E → ℕ
  workers x = length x.reports

  -- what worker w told last
  abbrev pub report_of : ℕ → Board E → Option ℕ
  report_of w x = slice_index_or x.reports w None

module _ {S E : Type 0} (m : Simulation S E) where
  -- how often e is among messages, with either sign
  abbrev pub times_among : E → List (Signed E) → ℕ
  times_among e xs = messages m e xs + antimessages m e xs

  -- the times of messages
  abbrev pub times_of : List (Signed E) → List ℕ
  times_of xs = map (λ x. m.time x.event) xs

  -- the least of a report, if there is one, and of the times of messages
  abbrev pub least_report : Option ℕ → List (Signed E) → Option ℕ
  least_report report xs = reduce min (option_to_list report ++ times_of xs)

  -- the least of all reports, of the times of all mail, and of the stop
  abbrev pub least_bound : Board E → ℕ
  least_bound x = fold min x.stop (flat_map option_to_list x.reports ++ times_of x.mail)

  -- nothing on it is before the bound
  pub record IsBoard (x : Board E) : Type 0 where
    pub stop : x.bound ≤ x.stop
    pub reported : (w : ℕ) → IfSome (report_of w x) (λ time. x.bound ≤ time)
    pub late : (e : E) → 0 < times_among e x.mail → x.bound ≤ m.time e
    -- and each message suits its receiver
    pub suit : (e : E) → 0 < times_among e x.mail → m.suits e ≡ true

  -- worker w, where who names the worker of each router, deposits out, reports what it has, and is handed mail: x becomes y
  pub record IsVisit (who : ℕ → ℕ) (w : ℕ) (out : List (Signed E)) (report : Option ℕ) (mail : List (Signed E)) (x y : Board E) : Type 0 where
    -- no message is lost or invented, of either sign
    pub messages : (e : E) → messages m e y.mail + messages m e mail ≡ messages m e x.mail + messages m e out
    pub antimessages : (e : E) → antimessages m e y.mail + antimessages m e mail ≡ antimessages m e x.mail + antimessages m e out
    -- it is handed what is for its routers alone
    pub home : (e : E) → 0 < times_among e mail → who (m.dst e) ≡ w
    -- what it reports is not before the bound
    pub late : IfSome report (λ time. x.bound ≤ time)
    -- its report is the least of that and of what it is handed
    pub reports : y.reports ≡ slice_set x.reports w (least_report report mail)
    -- the bound is the least of all reports, of the mail that is left, and of the stop
    pub bound : y.bound ≡ least_bound y
    pub stop : y.stop ≡ x.stop
