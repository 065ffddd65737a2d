-- A router that goes from one worker's place to another's, with all that is its own (own, after Jefferson, Virtual Time, 1985).
use Rattle.std.specs.Prelude.{ℕ, ◌+◌, ◌≡◌, ◌≤◌, List, false, [], Some}
use Rattle.tw_core.specs.Machine.{antimessages, messages}
use Rattle.tw_rule.specs.Board.{Board, report_of, workers}
use Rattle.tw_rule.specs.Place.{Place}
use Rattle.tw_sim.specs.Simulation.{Simulation, times}
use Rattle.tw_sim.specs.declared.machine.Signed.{Signed}

module _ {E : Type 0} (whose : E → ℕ) (r : ℕ) where
  -- of router r's events, counted at two places before and after, none is left at the first and all are at the second
  abbrev pub HasGone : (E → ℕ) → (E → ℕ) → (E → ℕ) → (E → ℕ) → Type 0
  HasGone from to from2 to2 = (e : E) → whose e ≡ r → (from2 e ≡ 0) × (to2 e ≡ from e + to e)

  -- the events of all other routers are there as often as before
  abbrev pub HasStayed : (E → ℕ) → (E → ℕ) → Type 0
  HasStayed at at2 = (e : E) → (whose e ≡ r → ⊥) → at2 e ≡ at e

  -- those of router r have gone from the first place to the second, and those of all others have stayed
  pub record HaveGone (from to from2 to2 : E → ℕ) : Type 0 where
    pub gone : HasGone from to from2 to2
    pub stays_from : HasStayed from from2
    pub stays_to : HasStayed to to2

-- of what is read of each router at two places before and after, router r's has gone from the first to the second, and that of all others has stayed
pub record HasFollowed {X : Type 0} (r : ℕ) (from to from2 to2 : ℕ → X) : Type 0 where
  pub came : to2 r ≡ from r
  pub stays_from : (k : ℕ) → (k ≡ r → ⊥) → from2 k ≡ from k
  pub stays_to : (k : ℕ) → (k ≡ r → ⊥) → to2 k ≡ to k

-- and nothing of router r's is left at the first
pub record HasPassed {X : Type 0} (nothing : X) (r : ℕ) (from to from2 to2 : ℕ → X) : Type 0 where
  pub followed : HasFollowed r from to from2 to2
  pub left : from2 r ≡ nothing

module _ {E : Type 0} where
  -- what a place has sent and hands out is as it was
  pub record KeepsSent (p q : Place E) : Type 0 where
    pub outgoing : q.outgoing ≡ p.outgoing
    pub unsent : q.unsent ≡ p.unsent

  -- no commit is beyond the bound that the place knows, and that is not beyond the board's
  pub record IsWithin (bound : ℕ) (p : Place E) : Type 0 where
    pub done : (k : ℕ) → p.done k ≤ p.bound
    pub known : p.bound ≤ bound

  -- a worker's report has fallen to the bound, and the rest of the board but its mail stays
  pub record HasReopened (w : ℕ) (x y : Board E) : Type 0 where
    pub report : report_of w y ≡ Some x.bound
    pub reports : (v : ℕ) → (v ≡ w → ⊥) → report_of v y ≡ report_of v x
    pub workers : workers y ≡ workers x
    pub bound : y.bound ≡ x.bound
    pub stop : y.stop ≡ x.stop

module _ {S E : Type 0} (m : Simulation S E) where
  -- of the messages, or the antimessages, in the mail of places p and q and of the board x, router r's are in q2's now, and those for others stay
  pub record HasMailMoved (count : E → List (Signed E) → ℕ) (r : ℕ) (x : Board E) (p q : Place E) (y : Board E) (p2 q2 : Place E) : Type 0 where
    pub gone : HasGone m.dst r (λ e. count e p.mail + count e x.mail) (λ e. count e q.mail) (λ e. count e p2.mail + count e y.mail) (λ e. count e q2.mail)
    pub stays_from : HasStayed m.dst r (λ e. count e p.mail) (λ e. count e p2.mail)
    pub stays_to : HasStayed m.dst r (λ e. count e q.mail) (λ e. count e q2.mail)
    pub stays_between : HasStayed m.dst r (λ e. count e x.mail) (λ e. count e y.mail)

  -- router r has gone from p, which is p2 now, to q, which is q2 now, and the board x is y now
  pub record IsMoved (r : ℕ) (x : Board E) (p q : Place E) (y : Board E) (p2 q2 : Place E) : Type 0 where
    -- both are the same workers'
    pub worker_from : p2.worker ≡ p.worker
    pub worker_to : q2.worker ≡ q.worker
    -- the router, what it has handled and how much of that is committed are the second one's
    pub owns : HasPassed false r p.owns q.owns p2.owns q2.owns
    pub history : HasPassed [] r p.history q.history p2.history q2.history
    pub past : HasPassed 0 r p.past q.past p2.past q2.past
    -- up to where it is committed, and its room, are known there too
    pub done : HasFollowed r p.done q.done p2.done q2.done
    pub room : HasFollowed r p.room q.room p2.room q2.room
    -- what waits for it has gone there, and what is held that it has sent
    pub pending : HaveGone m.dst r (λ e. times m e p.pending) (λ e. times m e q.pending) (λ e. times m e p2.pending) (λ e. times m e q2.pending)
    pub kept : HaveGone m.dst r (λ e. times m e p.kept) (λ e. times m e q.kept) (λ e. times m e p2.kept) (λ e. times m e q2.kept)
    pub held : HaveGone m.src r (λ e. times m e p.held) (λ e. times m e q.held) (λ e. times m e p2.held) (λ e. times m e q2.held)
    -- and the mail for it, from the first one's hand and from the board
    pub plus : HasMailMoved (messages m) r x p q y p2 q2
    pub minus : HasMailMoved (antimessages m) r x p q y p2 q2
    -- what either has sent stays in its hand
    pub sent_from : KeepsSent p p2
    pub sent_to : KeepsSent q q2
    pub within_from : IsWithin x.bound p2
    pub within_to : IsWithin x.bound q2
    pub board : HasReopened q.worker x y
