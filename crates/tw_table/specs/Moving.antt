-- A router that goes from one worker's share to another's (own, after Jefferson, Virtual Time, 1985).
use Rattle.std.specs.Prelude.{ℕ, ◌≡◌, ◌++◌, List, drop, filter}
use Rattle.tw_event.specs.declared.event.Event.{Event}
use Rattle.tw_exchange.specs.Board.{Board, all_mail, is_to, is_to_another, with_owner, without_mail}
use Rattle.tw_shard.specs.Moving.{HasMovedIn, HasMovedOut}
use Rattle.tw_sim.specs.declared.machine.Signed.{Signed}
use Rattle.tw_table.specs.declared.hand.Hand.{Hand}
use Rattle.tw_table.specs.Shares.{Share}

-- the mail of a hand that is not delivered
abbrev pub waiting : Hand → List (Signed Event)
waiting h = drop h.next h.mail.items

-- router r has gone from the share s, which is s2 now, to t, which is t2 now, with its messages in the hand of s and in the mail of x
pub record HasMoved (r : ℕ) (x : Board) (s t s2 t2 : Share) : Type 0 where
  pub left : HasMovedOut r s.shard s2.shard
  pub came : HasMovedIn r s.shard t.shard t2.shard
  pub mail_left : s2.mail ≡ filter (is_to_another r) s.mail
  pub mail_came : t2.mail ≡ (t.mail ++ filter (is_to r) s.mail) ++ filter (is_to r) (all_mail x)
  -- what no visit has taken stays
  pub unsent_left : s2.unsent ≡ s.unsent
  pub unsent_came : t2.unsent ≡ t.unsent

-- the exchange once router r is worker w's, and no mail for it is left
abbrev pub moved_board : ℕ → ℕ → Board → Board
moved_board r w x = with_owner r w (without_mail r x)
