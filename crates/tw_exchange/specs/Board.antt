-- The board of routing's exchange: the definitions of any board, at routing's events.
use Rattle.std.specs.Prelude.{ℕ, Bool, List, Option}
use Rattle.tw_event.specs.declared.event.Event.{Event}
use Rattle.tw_exchange.specs.AnyBoard as any
use Rattle.tw_exchange.specs.AnyBoard.{AnyBoard}
pub use Rattle.tw_exchange.specs.AnyBoard.{IsListed, NoneDealt, all_mail, listed, mail_of, report_of, who, with_owner, worker_for, workers}
use Rattle.tw_process.specs.Routing.{routing_parts}
use Rattle.tw_sim.specs.declared.machine.Signed.{Signed}

abbrev pub Board : Type 0
Board = AnyBoard Event

-- for so many workers, each of which has what is not before the bound; and with a list of the worker of each router
abbrev pub new_board : ℕ → ℕ → ℕ → Board
new_board workers bound stop = any.new_board workers bound stop

abbrev pub opening_owned : List ℕ → ℕ → ℕ → ℕ → Board
opening_owned owners workers bound stop = any.opening_owned owners workers bound stop

-- whether a message is for worker w, by the worker of each router
abbrev pub is_for : (ℕ → ℕ) → ℕ → Signed Event → Bool
is_for who w message = any.is_for routing_parts who w message

-- what worker w is handed at a visit, and the board after it
abbrev pub handed : ℕ → List (Signed Event) → Board → List (Signed Event)
handed w out x = any.handed routing_parts w out x

abbrev pub visited : ℕ → List (Signed Event) → Option ℕ → Board → Board
visited w out report x = any.visited routing_parts w out report x

-- the least of a report, if there is one, and of the times of messages
abbrev pub least_report : Option ℕ → List (Signed Event) → Option ℕ
least_report report messages = any.least_report routing_parts report messages

-- whether a report, or the time of a message to be deposited, is before the bound
abbrev pub is_early : List (Signed Event) → Option ℕ → Board → Bool
is_early out report x = any.is_early routing_parts out report x

-- whether a message to be deposited is for a router that none of n workers has, and that no worker has
abbrev pub any_homeless : Option (List ℕ) → ℕ → List (Signed Event) → Bool
any_homeless owners n out = any.any_homeless routing_parts owners n out

abbrev pub is_homeless : List (Signed Event) → Board → Bool
is_homeless out x = any.is_homeless routing_parts out x

-- what is dealt of messages, each of which has a worker: in the list of worker w, of n, those that are for it, in their order
abbrev pub AreDealt : Option (List ℕ) → ℕ → List (Signed Event) → List (List (Signed Event)) → Type 0
AreDealt owners n out lists = any.AreDealt routing_parts owners n out lists

-- whether a message is for router r, and whether it is for another; and the board once all mail for it is taken out
abbrev pub is_to : ℕ → Signed Event → Bool
is_to r message = any.is_to routing_parts r message

abbrev pub is_to_another : ℕ → Signed Event → Bool
is_to_another r message = any.is_to_another routing_parts r message

abbrev pub without_mail : ℕ → Board → Board
without_mail r x = any.without_mail routing_parts r x

-- nothing on it is before the bound, and each message waits for the worker that it is for
abbrev pub IsBoard : Board → Type 0
IsBoard x = any.IsBoard routing_parts x
